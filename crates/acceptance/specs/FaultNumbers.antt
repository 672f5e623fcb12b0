-- Document 01, "Fault numbers", as requests 104, 107 and 110 leave them: which numbers a call gives, which an item has, and when. 0 stands for no fault.
use Rattle.std.specs.Prelude.{ℕ, suc, ◌^◌, ◌≤◌, ◌<◌, ◌≡◌, ◌≢◌, ◌⊎◌, ◌↔◌, List, [], ◌∷◌, length}
use Rattle.forms.specs.Form.{lead, trailing, invalid, Sequence, size, Form, taken, first_of, encode, OccursAt}
use Rattle.forms.specs.Forms.{fss_utf, i8, utf_ebcdic, utf16, ucs4}
use Rattle.laws.specs.LayoutTable.{Full}
use Rattle.reader.specs.Step.{cursor, step_at}
use Rattle.c_answers.specs.declared.JkConversion.{JkConversion}
use Rattle.c_answers.specs.declared.JkItem.{JkItem}
use Rattle.c_answers.specs.Answer.{item_answer}
use Rattle.c_answers.specs.Promises.{ConvertsInC, MeasuresInC}

abbrev pub Among : ℕ → List ℕ → Type 0
Among k [] = ⊥
Among k (n ∷ ns) = (k ≡ n) ⊎ Among k ns

-- the faults of marks
abbrev pub mark_faults : List ℕ
mark_faults = 2 ∷ 3 ∷ 4 ∷ 5 ∷ 10 ∷ []

-- "then 2, 3, 4, 5 ... or 6", with 10 "tried after 5" and 12 "before 6": those by which a strict conversion refuses an item
abbrev pub strict_faults : List ℕ
strict_faults = 2 ∷ 3 ∷ 4 ∷ 5 ∷ 10 ∷ 12 ∷ 6 ∷ []

-- the numbers that a conversion gives
abbrev pub conversion_faults : List ℕ
conversion_faults = 0 ∷ 1 ∷ 7 ∷ strict_faults

-- "The measure gives no 7."
abbrev pub measure_faults : List ℕ
measure_faults = 0 ∷ 1 ∷ strict_faults

-- "It refuses by 1 and 7 only"
abbrev pub decoding_faults : List ℕ
decoding_faults = 0 ∷ 1 ∷ 7 ∷ []

-- when the item at the front of u ∷ us is a mark of the fault k: a row for each number
pub data Marks (F : Form) (u : ℕ) (us : List ℕ) (k : ℕ) : Type 0 where
  -- "a lead has too few trailing units, the text's end included": of the n that it asks it takes fewer
  too_few : k ≡ 2 → (n : ℕ) → F.role u ≡ lead n → length (taken F n us) < n → Marks F u us k
  -- "a trailing unit that no lead takes"
  stray : k ≡ 3 → F.role u ≡ trailing → Marks F u us k
  -- "FSS-UTF FE or FF; UCS-4 unit of 80000000 or more": see `NoRole`
  no_role : k ≡ 4 → F.role u ≡ invalid → Marks F u us k
  -- "the sequence is longer than its value needs": the lead has all that it asks, and a shorter sequence has the value
  too_long :
      k ≡ 5 → (n : ℕ) → F.role u ≡ lead n → length (taken F n us) ≡ n
      → F.shortest (F.value (first_of F u us)) ≢ [] → length (F.shortest (F.value (first_of F u us))) < suc n → Marks F u us k
  -- request 104, "such a value ... is a fault", "tried after 5": the lead has all that it asks, the value needs so many, and it is a surrogate
  no_character_lem :
      k ≡ 10 → (n : ℕ) → F.role u ≡ lead n → length (taken F n us) ≡ n → suc n ≤ length (F.shortest (F.value (first_of F u us)))
      → 0xD800 ≤ F.value (first_of F u us) → F.value (first_of F u us) ≤ 0xDFFF → Marks F u us k

-- request 110, "FFFE and FFFF turned away"
abbrev pub TurnedAway : ℕ → Type 0
TurnedAway v = (v ≡ 0xFFFE) ⊎ (v ≡ 0xFFFF)

-- when a conversion to G refuses it by k
pub data Refuses (F G : Form) (u : ℕ) (us : List ℕ) (k : ℕ) : Type 0 where
  marked : Marks F u us k → Refuses F G u us k
  -- "Strict conversion and the measure shall refuse them from every form": a good character of such a value
  turned_away_lem : k ≡ 12 → (v : ℕ) → OccursAt F (u ∷ us) 0 v → TurnedAway v → Refuses F G u us k
  -- "the target can't hold the value", and "fault 6 is left with values above 10FFFF": a good character of such a value that has no legal
  -- encoding there; see `Held`
  unheld : k ≡ 6 → (v : ℕ) → OccursAt F (u ∷ us) 0 v → 0x10FFFF < v → encode G v ≡ [] → Refuses F G u us k

-- 4, by form: "FSS-UTF FE or FF; UCS-4 unit of 80000000 or more"
pub record NoRole : Type 0 where
  pub fss_utf_lem : (u : ℕ) → u < 0x100 → (fss_utf.role u ≡ invalid) ↔ ((u ≡ 0xFE) ⊎ (u ≡ 0xFF))
  pub utf_ebcdic_lem : (u : ℕ) → u < 0x100 → utf_ebcdic.role u ≢ invalid
  pub utf_16 : (u : ℕ) → u < 0x10000 → utf16.role u ≢ invalid
  pub ucs_4 : (u : ℕ) → u < 0x100000000 → (ucs4.role u ≡ invalid) ↔ (0x80000000 ≤ u)

abbrev pub NoSurrogate : ℕ → Type 0
NoSurrogate v = (v < 0xD800) ⊎ (0xDFFF < v)

-- the values that have a legal encoding: "from 0 to 7FFFFFFF", "without these values" (request 104), and in UTF-16 up to 10FFFF
pub record Held : Type 0 where
  pub fss_utf_lem : (v : ℕ) → (encode fss_utf v ≢ []) ↔ ((v ≤ 0x7FFFFFFF) × NoSurrogate v)
  pub utf_ebcdic_lem : (v : ℕ) → (encode utf_ebcdic v ≢ []) ↔ ((v ≤ 0x7FFFFFFF) × NoSurrogate v)
  pub utf_16 : (v : ℕ) → (encode utf16 v ≢ []) ↔ ((v ≤ 0x10FFFF) × NoSurrogate v)
  pub ucs_4 : (v : ℕ) → (encode ucs4 v ≢ []) ↔ ((v ≤ 0x7FFFFFFF) × NoSurrogate v)

-- a full sequence of F has so many bytes and carries so many free bits at most; one carries them all
pub record FreeBits (F : Form) (bytes bits : ℕ) : Type 0 where
  pub long : (c : Sequence) → Full F c → size c ≤ bytes
  pub value : (c : Sequence) → Full F c → F.value c < 2 ^ bits
  pub highest : (c : Sequence) × Full F c × (size c ≡ bytes) × (suc (F.value c) ≡ 2 ^ bits)

-- request 107: "Six FSS-UTF bytes and seven I8 bytes carry 31 free bits at most", in UTF-EBCDIC after the exchange. So no byte text gives a
-- value above 7FFFFFFF, and there is no fault 8.
pub record ByteForms : Type 0 where
  pub fss_utf_lem : FreeBits fss_utf 6 31
  pub i8_bytes : FreeBits i8 7 31
  pub utf_ebcdic_lem : FreeBits utf_ebcdic 7 31

-- the units of a lent text are below w
abbrev pub Below : ℕ → List ℕ → Type 0
Below w [] = Unit {0}
Below w (u ∷ us) = (u < w) × Below w us

-- the marks of F, as its one-item reader gives them: these faults and no others, and each of them for some text
pub record Faults (F : Form) (w : ℕ) (ks : List ℕ) : Type 0 where
  pub only : (s : List ℕ) (q : ℕ) (r : JkItem) → Below w s → r ≡ item_answer (step_at F s (cursor q)) → r.kind ≡ 2 → Among r.fault ks
  pub each :
      (k : ℕ) → Among k ks → (s : List ℕ) × Below w s × ((r : JkItem) → r ≡ item_answer (step_at F s (cursor 0)) → (r.kind ≡ 2) × (r.fault ≡ k))

pub record FaultTable : Type 0 where
  pub fss_utf_lem : Faults fss_utf 0x100 (2 ∷ 3 ∷ 4 ∷ 5 ∷ 10 ∷ [])
  pub utf_ebcdic_lem : Faults utf_ebcdic 0x100 (2 ∷ 3 ∷ 5 ∷ 10 ∷ [])
  pub utf_16 : Faults utf16 0x10000 (2 ∷ 3 ∷ [])
  pub ucs_4 : Faults ucs4 0x100000000 (4 ∷ 10 ∷ [])

-- a conversion from F to G and its measure refuse an item by these numbers and no others, and by each of them for some text
pub record Refusals (F G : Form) (w : ℕ) (ks : List ℕ) : Type 0 where
  pub converted : (s d : List ℕ) (r : JkConversion) (o : List ℕ) → Below w s → ConvertsInC F G s d r o → Among r.fault (0 ∷ 1 ∷ 7 ∷ ks)
  pub measured : (s : List ℕ) (r : JkConversion) → Below w s → MeasuresInC F G s r → Among r.fault (0 ∷ 1 ∷ ks)
  pub each :
      (k : ℕ) → Among k ks
      → (s : List ℕ) × Below w s × ((d : List ℕ) (r : JkConversion) (o : List ℕ) → ConvertsInC F G s d r o → r.fault ≡ k)
      × ((r : JkConversion) → MeasuresInC F G s r → r.fault ≡ k)

pub record PairTable : Type 0 where
  pub fss_utf_to_utf_ebcdic : Refusals fss_utf utf_ebcdic 0x100 (2 ∷ 3 ∷ 4 ∷ 5 ∷ 10 ∷ 12 ∷ [])
  pub fss_utf_to_utf_16 : Refusals fss_utf utf16 0x100 (2 ∷ 3 ∷ 4 ∷ 5 ∷ 10 ∷ 12 ∷ 6 ∷ [])
  pub fss_utf_to_ucs_4 : Refusals fss_utf ucs4 0x100 (2 ∷ 3 ∷ 4 ∷ 5 ∷ 10 ∷ 12 ∷ [])
  pub utf_ebcdic_to_fss_utf : Refusals utf_ebcdic fss_utf 0x100 (2 ∷ 3 ∷ 5 ∷ 10 ∷ 12 ∷ [])
  pub utf_ebcdic_to_utf_16 : Refusals utf_ebcdic utf16 0x100 (2 ∷ 3 ∷ 5 ∷ 10 ∷ 12 ∷ 6 ∷ [])
  pub utf_ebcdic_to_ucs_4 : Refusals utf_ebcdic ucs4 0x100 (2 ∷ 3 ∷ 5 ∷ 10 ∷ 12 ∷ [])
  pub utf_16_to_fss_utf : Refusals utf16 fss_utf 0x10000 (2 ∷ 3 ∷ 12 ∷ [])
  pub utf_16_to_utf_ebcdic : Refusals utf16 utf_ebcdic 0x10000 (2 ∷ 3 ∷ 12 ∷ [])
  pub utf_16_to_ucs_4 : Refusals utf16 ucs4 0x10000 (2 ∷ 3 ∷ 12 ∷ [])
  pub ucs_4_to_fss_utf : Refusals ucs4 fss_utf 0x100000000 (4 ∷ 10 ∷ 12 ∷ [])
  pub ucs_4_to_utf_ebcdic : Refusals ucs4 utf_ebcdic 0x100000000 (4 ∷ 10 ∷ 12 ∷ [])
  pub ucs_4_to_utf_16 : Refusals ucs4 utf16 0x100000000 (4 ∷ 10 ∷ 12 ∷ 6 ∷ [])
