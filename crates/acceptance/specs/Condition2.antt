-- Condition 2 of the tender: "Reading and writing agree with X/Open's FSS-UTF specification, the UTF-EBCDIC draft report and the UTF-16 rules
-- as document 01 condenses them, for each of the twelve ordered pairs of forms."
use Rattle.std.specs.Prelude.{ℕ, ◌*◌, ◌/◌, ◌≤◌, ◌<◌, ◌≡◌, ◌⊎◌, ◌↔◌, List, [], ◌∷◌, ◌++◌, map, length, take, drop}
use Rattle.forms.specs.Form.{Form, items, encode, encode_all, AllEncodable, OccursAt}
use Rattle.forms.specs.Lossy.{value_of, offset_of, marks}
use Rattle.forms.specs.Forms.{fss_utf, utf_ebcdic, utf16, ucs4}
use Rattle.c_answers.specs.declared.JkConversion.{JkConversion}
use Rattle.c_answers.specs.declared.JkDecoding.{JkDecoding}
use Rattle.c_answers.specs.declared.JkItem.{JkItem}
use Rattle.c_answers.specs.Promises.{ConvertsInC, MeasuresInC}
use Rattle.acceptance.specs.FaultNumbers.{Among, strict_faults, Marks, TurnedAway, Refuses}

-- reading, at a place inside a text: a character exactly where its legal encoding stands, and as long; a mark of a fault exactly then
pub record ReadAt (F : Form) (s : List ℕ) (q : ℕ) (r : JkItem) : Type 0 where
  pub character : length s ≤ 65536 → (v : ℕ) → ((r.kind ≡ 1) × (r.value ≡ v)) ↔ OccursAt F s q v
  pub long : length s ≤ 65536 → r.kind ≡ 1 → r.length ≡ length (encode F r.value)
  pub mark : length s ≤ 65536 → (u : ℕ) (us : List ℕ) → drop q s ≡ u ∷ us → (k : ℕ) → ((r.kind ≡ 2) × (r.fault ≡ k)) ↔ Marks F u us k

-- "one value per item (FFFFFFFF for a mark) and one start per item, in order at the front of each; the rest of both is untouched", "and
-- returns the number of items and of marks"
pub record Returned (F : Form) (s d e : List ℕ) (r : JkDecoding) (o p : List ℕ) : Type 0 where
  pub items_are : r.items ≡ length (items F s)
  pub marks_are : r.marks ≡ marks (items F s)
  pub values : take r.items o ≡ map value_of (items F s)
  pub starts : take r.items p ≡ map offset_of (items F s)
  pub rest : (drop r.items o ≡ drop r.items d) × (drop r.items p ≡ drop r.items e)

-- reading a whole text: "It refuses by 1 and 7 only", exactly then
pub record Decoded (F : Form) (s d e : List ℕ) (r : JkDecoding) (o p : List ℕ) : Type 0 where
  pub fault_1 : (r.fault ≡ 1) ↔ (65536 < length s)
  pub fault_7 : (r.fault ≡ 7) ↔ ((length s ≤ 65536) × ((length d < length (items F s)) ⊎ (length e < length (items F s))))
  pub result : r.fault ≡ 0 → Returned F s d e r o p

-- request 110, "demand 2 reads 'accepted text' without them"
abbrev pub NoneTurnedAway : List ℕ → Type 0
NoneTurnedAway [] = Unit {0}
NoneTurnedAway (v ∷ vs) = (TurnedAway v → ⊥) × NoneTurnedAway vs

-- an accepted text: good characters of the values vs, each of which G has a legal encoding of too, and none of which is turned away
pub record Accepted (F G : Form) (vs s : List ℕ) : Type 0 where
  pub short : length s ≤ 65536
  pub text : s ≡ encode_all F vs
  pub from : AllEncodable F vs
  pub to : AllEncodable G vs
  pub passed : NoneTurnedAway vs

-- "at the lowest place where one applies": good characters that are written in G, then, at q, what is refused by k
pub record FirstFault (F G : Form) (s : List ℕ) (q k : ℕ) : Type 0 where
  pub values : List ℕ
  pub unit : ℕ
  pub others : List ℕ
  pub short : length s ≤ 65536
  pub text : s ≡ encode_all F values ++ (unit ∷ others)
  pub from : AllEncodable F values
  pub to : AllEncodable G values
  pub passed : NoneTurnedAway values
  pub place : q ≡ length (encode_all F values)
  pub refused : Refuses F G unit others k

-- "Each is given exactly then, in this order. Whole-text calls: 1; then 2, 3, 4, 5 ... or 6 at the lowest place where one applies", 10 and 12 with them
pub record Exactly (F G : Form) (s : List ℕ) (r : JkConversion) : Type 0 where
  pub fault_1 : (r.fault ≡ 1) ↔ (65536 < length s)
  pub item-fault : (q k : ℕ) → ((r.fault ≡ k) × (r.offset ≡ q) × Among k strict_faults) ↔ FirstFault F G s q k

-- "Strict conversion returns the units written; these stand at the front of the result buffer and its rest is untouched"
pub record Gives (G : Form) (vs d : List ℕ) (r : JkConversion) (o : List ℕ) : Type 0 where
  pub no_fault : r.fault ≡ 0
  pub units : r.units ≡ length (encode_all G vs)
  pub front : take r.units o ≡ encode_all G vs
  pub rest : drop r.units o ≡ drop r.units d

-- writing: the legal encodings of what was read
pub record Converted (F G : Form) (s d : List ℕ) (r : JkConversion) (o : List ℕ) : Type 0 where
  pub exactly : Exactly F G s r
  -- "then 7": "a lent result buffer is too short for the whole result"
  pub fault_7 : (r.fault ≡ 7) ↔ ((vs : List ℕ) × Accepted F G vs s × (length d < length (encode_all G vs)))
  pub result : r.fault ≡ 0 → (vs : List ℕ) × Accepted F G vs s × Gives G vs d r o
  pub given : (vs : List ℕ) → Accepted F G vs s → length (encode_all G vs) ≤ length d → Gives G vs d r o
  -- "An accepted text converted to another form and back is the same text, where the result is short enough to be read again and the room
  -- suffices": a second call is lent the front of the first's result
  pub back :
      r.fault ≡ 0 → r.units ≤ 65536
      → (b : List ℕ) (q : JkConversion) (p : List ℕ) → ConvertsInC G F (take r.units o) b q p → length s ≤ length b
      → (q.fault ≡ 0) × (q.units ≡ length s) × (p ≡ s ++ drop (length s) b)

-- "a measure of the room needed"
pub record Measured (F G : Form) (s : List ℕ) (r : JkConversion) : Type 0 where
  pub exactly : Exactly F G s r
  pub result : r.fault ≡ 0 → (vs : List ℕ) × Accepted F G vs s
  pub given : (vs : List ℕ) → Accepted F G vs s → (r.fault ≡ 0) × (r.units ≡ length (encode_all G vs))

-- "For an accepted text of n units the result has at most"
pub record AtMost (F G : Form) (most : ℕ → ℕ) : Type 0 where
  pub written : (s d : List ℕ) (r : JkConversion) (o : List ℕ) → ConvertsInC F G s d r o → r.fault ≡ 0 → r.units ≤ most (length s)
  pub measured : (s : List ℕ) (r : JkConversion) → MeasuresInC F G s r → r.fault ≡ 0 → r.units ≤ most (length s)

pub record Room : Type 0 where
  pub fss_utf_to_utf_ebcdic : AtMost fss_utf utf_ebcdic (λ n. 3 * n / 2)
  pub utf_ebcdic_to_fss_utf : AtMost utf_ebcdic fss_utf (λ n. 2 * n)
  pub utf_16_to_fss_utf : AtMost utf16 fss_utf (λ n. 3 * n)
  pub utf_16_to_utf_ebcdic : AtMost utf16 utf_ebcdic (λ n. 4 * n)
  pub utf_16_to_ucs_4 : AtMost utf16 ucs4 (λ n. n)
  pub ucs_4_to_fss_utf : AtMost ucs4 fss_utf (λ n. 6 * n)
  pub ucs_4_to_utf_ebcdic : AtMost ucs4 utf_ebcdic (λ n. 7 * n)
  pub ucs_4_to_utf_16 : AtMost ucs4 utf16 (λ n. 2 * n)
  pub fss_utf_to_utf_16 : AtMost fss_utf utf16 (λ n. n)
  pub fss_utf_to_ucs_4 : AtMost fss_utf ucs4 (λ n. n)
  pub utf_ebcdic_to_utf_16 : AtMost utf_ebcdic utf16 (λ n. n)
  pub utf_ebcdic_to_ucs_4 : AtMost utf_ebcdic ucs4 (λ n. n)
