-- Strict conversion item by item: what a loop over the text keeps, how an item carries it on, and what it comes to.
use Prim.Native.Nat.{ℕ, ◌+◌, ◌≤◌, ◌<◌}
use mathlib.Core.Path.{◌≡◌, refl, sym, ap, ◌∙◌}
use mathlib.Core.Logic.{◌≢◌}
use mathlib.Core.List.{List, [], ◌∷◌, ◌++◌, append_assoc, append-nil}
use native.Mathlib.Omega.{arith}
use native.Mathlib.Decide.{dec_lt}
use borrow.Author.Tests.{le-ltb, lt-ltb}
use lib.ListN.{length, drop, length-append}
use Rattle.types.specs.declared.Fault.{Fault}
use Rattle.types.specs.declared.Fault.TheVariants.{SourceTooLong}
use Rattle.types.specs.declared.Span.{Span}
use Rattle.types.specs.declared.Item.{Item}
use Rattle.types.specs.declared.Item.TheVariants.{Character, Mark}
use Rattle.types.specs.declared.Refusal.{Refusal}
use Rattle.forms.specs.Fault.{limit, refusal}
use Rattle.forms.specs.Form.{Form, Content, character, mark, size, content, span, span_of, with_span, item_of, items, encode, asked}
use Rattle.forms.specs.Forms.{ucs4, strictly}
use Rattle.forms.specs.Conversion.{Outcome, converted, refused, encoding, refusal_at, prepend, put, convert_items, outcome}
use Rattle.laws.proofs.Sequences.{taken-trailing}
use Rattle.laws.proofs.FormLaws.{Laws}
use Rattle.laws.proofs.Items.{items_onward, sequence_at, items-end, items_step, length_at, within-at}
use Rattle.laws.proofs.Carried.{is_character}
use Rattle.laws.proofs.Outcomes.{put_some}
use Rattle.laws.proofs.Characters.{content_reads, reads_encodable}

pub prepend-none : (o : Outcome) → o ≡ prepend [] o
prepend-none (converted es) = refl
prepend-none (refused r) = refl

pub prepend_twice : (d e : List ℕ) (o : Outcome) → prepend d (prepend e o) ≡ prepend (d ++ e) o
prepend_twice d e (converted es) = ap converted (sym (append_assoc d e es))
prepend_twice d e (refused r) = refl

-- a put that comes to a result has something to put, and room for it in the result
put_fits : (d e es : List ℕ) (r : Refusal) (o : Outcome) → converted es ≡ prepend d (put e r o) → (e ≢ []) × (length d + length e ≤ length es)
put_fits d [] es r o h = absurd (let z : ◌≡◌ {A = ℕ} 0 1 = cc in omega arith)
put_fits d (u ∷ e) es r (refused q) h = absurd (let z : ◌≡◌ {A = ℕ} 0 1 = cc in omega arith)
put_fits d (u ∷ e) es r (converted fs) h =
    let q : es ≡ d ++ ((u ∷ e) ++ fs) = cc in
    ((λ n. let z : ◌≡◌ {A = ℕ} 0 1 = cc in omega arith), omega (arith, ap length q, length-append d ((u ∷ e) ++ fs), length-append (u ∷ e) fs))

with_character : (t : Content) (v : ℕ) (p q : Span) → with_span t q ≡ Character v p → t ≡ character v
with_character (character w) v p q h = let e : w ≡ v = cc in ap character e
with_character (mark f) v p q h = absurd (let z : ◌≡◌ {A = ℕ} 0 1 = cc in omega arith)

-- the character v with the span q stands at p, inside the text
pub record CharacterAt (F : Form) (s : List ℕ) (p v : ℕ) (q : Span) : Type 0 where
  pub inside : p < length s
  pub is : Character v q ≡ item_of F p (sequence_at F s p)

-- a mark stands there
pub record MarkAt (F : Form) (s : List ℕ) (p : ℕ) (f : Fault) (q : Span) : Type 0 where
  pub inside : p < length s
  pub is : Mark f q ≡ item_of F p (sequence_at F s p)

pub character-at : {F : Form} {s : List ℕ} {p v : ℕ} {q : Span} {i : Item} → p < length s → i ≡ item_of F p (sequence_at F s p) → i ≡ Character v q → CharacterAt F s p v q
character-at h k e = record { inside = h; is = sym e ∙ k }

pub mark-at : {F : Form} {s : List ℕ} {p : ℕ} {f : Fault} {q : Span} {i : Item} → p < length s → i ≡ item_of F p (sequence_at F s p) → i ≡ Mark f q → MarkAt F s p f q
mark-at h k e = record { inside = h; is = sym e ∙ k }

-- a character of a text has a value that the form carries, and so does UCS-4
pub character_encodable : {F : Form} {s : List ℕ} {p v : ℕ} {q : Span} → Laws F → CharacterAt F s p v q → encode F v ≢ []
character_encodable {F} {s} {p} {v} {q} laws c =
    let t = sequence_at F s p in
    reads_encodable F laws t v
    (content_reads F t v (taken-trailing F (asked (F.role t.first)) (drop (p + 1) s)) (with_character (content F t) v q (span p (size t)) (sym c.is)))

pub character-value : {F : Form} {s : List ℕ} {p v : ℕ} {q : Span} → Laws F → CharacterAt F s p v q → encode ucs4 v ≢ []
character-value {F} {s} {p} {v} laws c = is_character F laws v (character_encodable laws c)

-- and it carries a loop on, within the text
pub character-onward : {F : Form} {s : List ℕ} {p v : ℕ} {q : Span} → CharacterAt F s p v q → (1 ≤ q.length) × (p + q.length ≤ length s)
character-onward {F} {s} {p} {v} {q} c =
    let e : q.length ≡ size (sequence_at F s p) = ap (λ (x : Item). (span_of x).length) c.is ∙ length_at F s p c.inside in
    (omega arith, omega (arith, within-at F s p c.inside))

-- the items before `at` became the units `done`
pub record Progress (F G : Form) (s : List ℕ) (at : ℕ) (done : List ℕ) : Type 0 where
  pub within : at ≤ length s
  pub whole : convert_items G (items F s) ≡ prepend done (convert_items G (items_onward F s at))

module _ (F G : Form) (s : List ℕ) where
  pub progress_begin : Progress F G s 0 []
  progress_begin = record { within = omega arith; whole = prepend-none (convert_items G (items F s)) }

  pub progress_end : (at : ℕ) (done : List ℕ) → Progress F G s at done → length s ≤ at → convert_items G (items F s) ≡ converted done
  progress_end at done q h = q.whole ∙ rw (items-end F s at h) (ap converted (append-nil done))

  -- fault 1 comes first, then the items
  pub at-limit : length s ≤ limit → outcome F G s ≡ convert_items (strictly G) (items F s)
  at-limit h = rw (le-ltb limit (length s) h)

  pub over-limit : limit < length s → outcome F G s ≡ refused (refusal SourceTooLong 0)
  over-limit h = rw (lt-ltb limit (length s) h)

  -- a text that comes to a result is no longer than the limit
  pub within-limit : (es : List ℕ) → outcome F G s ≡ converted es → length s ≤ limit
  within-limit es e = go (dec_lt limit (length s))
    where
      go : Dec (limit < length s) → length s ≤ limit
      go (yes d) = absurd (let q : refused (refusal SourceTooLong 0) ≡ converted es = sym (over-limit d) ∙ e in let z : ◌≡◌ {A = ℕ} 0 1 = cc in omega arith)
      go (no d) = omega arith

  module _ (p : ℕ) (h : p < length s) (i : Item) (e : i ≡ item_of F p (sequence_at F s p)) (done : List ℕ) (q : Progress F G s p done) where
    onward : items_onward F s p ≡ i ∷ items_onward F s (p + (span_of i).length)
    onward = items_step F s p h ∙ rw (e, length_at F s p h)

    -- what the items behind this one come to
    abbrev behind : Outcome
    behind = convert_items G (items_onward F s (p + (span_of i).length))

    here : convert_items G (items F s) ≡ prepend done (put (encoding G i) (refusal_at G.excluded i) behind)
    here = q.whole ∙ ap (λ (x : List Item). prepend done (convert_items G x)) onward

    pub progress_stops : encoding G i ≡ [] → convert_items G (items F s) ≡ refused (refusal_at G.excluded i)
    progress_stops n = here ∙ rw n

    progress_some : p + (span_of i).length ≤ length s → encoding G i ≢ [] → Progress F G s (p + (span_of i).length) (done ++ encoding G i)
    progress_some w n =
        record { within = w; whole = here ∙ ap (prepend done) (put_some (encoding G i) (refusal_at G.excluded i) behind n) ∙ prepend_twice done (encoding G i) behind }

    -- where the whole comes to a result, so does each item
    pub progress_next : (es : List ℕ) → convert_items G (items F s) ≡ converted es → (encoding G i ≢ []) × (length done + length (encoding G i) ≤ length es)
    progress_next es c = put_fits done (encoding G i) es (refusal_at G.excluded i) behind (sym c ∙ here)

  pub progress_more :
      (p v : ℕ) (q : Span) (done : List ℕ) → CharacterAt F s p v q → Progress F G s p done → encode G v ≢ [] → Progress F G s (p + q.length) (done ++ encode G v)
  progress_more p v q done c w n = progress_some p c.inside (Character v q) c.is done w (character-onward c).1 n
