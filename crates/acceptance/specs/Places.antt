-- Document 01, "Items", and request 103: what the finder gives, and the longest item of each form.
use Rattle.std.specs.Prelude.{ℕ, ◌+◌, ◌≤◌, ◌<◌, ◌-◌, ◌≡◌, ◌≢◌, ◌⊎◌, List, ◌∷◌, ◌++◌, length, get_or}
use Rattle.types.specs.declared.Item.{Item}
use Rattle.forms.specs.Form.{Form, items}
use Rattle.forms.specs.Forms.{fss_utf, utf_ebcdic, utf16, ucs4}
use Rattle.forms.specs.Finder.{item_covering}
use Rattle.reader.specs.Step.{cursor, step_at}
use Rattle.c_answers.specs.declared.JkItem.{JkItem}
use Rattle.c_answers.specs.Answer.{jk_item, shown_item, item_answer, found_answer}

-- the numbers are those of an item of the whole text that covers the place q
pub record CoveredBy (F : Form) (s : List ℕ) (q : ℕ) (r : JkItem) : Type 0 where
  pub before : List Item
  pub item : Item
  pub after : List Item
  pub among : items F s ≡ before ++ (item ∷ after)
  pub shown : r ≡ shown_item item
  pub from : r.offset ≤ q
  pub to : q < r.offset + r.length

-- "agree on the asked unit and on those before it, that many back, or with the same smaller number before it"
pub record AgreeNear (n : ℕ) (s : List ℕ) (p : ℕ) (t : List ℕ) (q : ℕ) : Type 0 where
  pub units : (i : ℕ) → i < n → i ≤ p → i ≤ q → get_or s (p - i) 0 ≡ get_or t (q - i) 0
  pub before : (p ≡ q) ⊎ ((n ≤ p + 1) × (n ≤ q + 1))

-- "the units up to the item's longest reach ahead": those from a and from b on agree, n of them, or all where both texts end sooner
pub record AgreeAhead (n : ℕ) (s : List ℕ) (a : ℕ) (t : List ℕ) (b : ℕ) : Type 0 where
  pub units : (i : ℕ) → i < n → a + i < length s → b + i < length t → get_or s (a + i) 0 ≡ get_or t (b + i) 0
  pub after : (length s - a ≡ length t - b) ⊎ ((a + n ≤ length s) × (b + n ≤ length t))

-- what is found, where it is no refusal
pub record ItemFound (F : Form) (s : List ℕ) (q : ℕ) (r : JkItem) : Type 0 where
  -- "the item, in the reading of the whole text, that covers the asked place": "start, length and whether the item is a character or a mark
  -- with its fault"
  pub covered : r.kind ≢ 3 → CoveredBy F s q r
  -- "It must agree with the reading of the whole text": the one-item reader gives it at its start, and the finder at each of its places
  pub read : (b : JkItem) → b ≡ item_answer (step_at F s (cursor r.offset)) → r.kind ≢ 3 → b ≡ r
  pub whole : (p : ℕ) (b : JkItem) → b ≡ found_answer (item_covering F s p) → r.kind ≢ 3 → r.offset ≤ p → p < r.offset + r.length → b ≡ r
  -- "It lies at most one less than that number back."
  pub near : r.kind ≢ 3 → q < r.offset + F.longest
  -- "Two texts within the limit that agree ... give the same distance."
  pub local :
      (t : List ℕ) (p : ℕ) (b : JkItem) → b ≡ found_answer (item_covering F t p) → r.kind ≢ 3 → b.kind ≢ 3
      → AgreeNear F.longest s q t p → q - r.offset ≡ p - b.offset
  -- "length and fault rest also on the units up to the item's longest reach ahead": all but the place is the same
  pub local_ahead :
      (t : List ℕ) (p : ℕ) (b : JkItem) → b ≡ found_answer (item_covering F t p) → r.kind ≢ 3 → b.kind ≢ 3
      → AgreeAhead F.longest s r.offset t b.offset → b ≡ jk_item r.kind r.fault r.value b.offset r.length

-- "6, 7, 2 and 1 in the order of the first section"
pub record Longest : Type 0 where
  pub fss_utf_lem : fss_utf.longest ≡ 6
  pub utf_ebcdic_lem : utf_ebcdic.longest ≡ 7
  pub utf_16 : utf16.longest ≡ 2
  pub ucs_4 : ucs4.longest ≡ 1
