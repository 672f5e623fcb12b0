-- What a caller of the converter and of the measure of each pair of forms has besides their contracts.
use Prim.Native.Nat.{ℕ, ◌*◌, ◌/◌, ◌≤◌}
use mathlib.Core.Path.{◌≡◌, refl}
use mathlib.Core.Bool.{Bool, true, false, cond}
use mathlib.Core.Option.{Option, none, some}
use native.Mathlib.Omega.{arith}
use native.Mathlib.Nat.{le-div_iff_mul-le}
use lib.Dec.{ltb}
use borrow.Author.Tests.{le-ltb}
use lib.ListN.{length}
use Rattle.types.specs.declared.Fault.{Fault}
use Rattle.types.specs.declared.Fault.TheVariants.{Unrepresentable, Surrogate, NonCharacter}
use Rattle.forms.specs.Fault.{limit}
use Rattle.forms.specs.Form.{Form, encode_all}
use Rattle.forms.specs.Layout.{Layout}
use Rattle.forms.specs.Forms.{byte_layout, is_surrogate, is_non_character, no_character, or_else, utf16_layout, ucs4_layout, fss_utf, utf_ebcdic, utf16, ucs4, turned_away, strictly}
use Rattle.laws.specs.Exactness.{OwnFault}
use Rattle.laws.specs.TwelvePairs.{Pair}
use Rattle.laws.proofs.FormLaws.{Laws}
use Rattle.laws.proofs.Characters.{accepted, characters_accepted}
use Rattle.laws.proofs.Answers.{within-items, converts-units}
use Rattle.laws.proofs.FourForms.{fss_utf_laws, utf_ebcdic_laws, utf16_laws, ucs4_laws}
use Rattle.laws.proofs.Carried.{encodable_small, encodable_free}
use Rattle.laws.proofs.Unheld.{Excludes, fss_utf_excludes, utf_ebcdic_excludes, utf16_excludes, ucs4_excludes, unheld_by_lem}
use Rattle.laws.proofs.Exactness.{OwnFaults, other_number, exact, exact_length}
use Rattle.laws.proofs.RoundTrip.{round_trip}
use Rattle.laws.proofs.Room.{Writes, fss_utf_writes, utf_ebcdic_writes, utf16_writes, ucs4_writes, bound_tests, room}

-- a supplied form, with what the laws ask of it
record Supplied (F : Form) (L : Layout) : Type 0 where
  pub laws : Laws F
  pub own : OwnFaults F
  pub excludes : Excludes F
  pub writes : Writes F L

only-fault : (b : Bool) (g f : Fault) → cond b (some g) none ≡ some f → g ≡ f
only-fault true g f e = cc
only-fault false g f e = absurd (let z : ◌≡◌ {A = ℕ} 0 1 = cc in omega arith)

one-fault : (b : Bool) (g f : Fault) → OwnFault g → cond b (some g) none ≡ some f → OwnFault f
one-fault b g f o e = rw (only-fault b g f e) at o

either_fault : (x y : Option Fault) (f : Fault) → (x ≡ some f → OwnFault f) → (y ≡ some f → OwnFault f) → or_else x y ≡ some f → OwnFault f
either_fault none y f a b e = b e
either_fault (some g) y f a b e = a e

surrogates : (v : ℕ) (f : Fault) → no_character v ≡ some f → OwnFault f
surrogates v f e = one-fault (is_surrogate v) Surrogate f (other_number Surrogate (λ e. omega arith) (λ e. omega arith)) e

above : (v : ℕ) (f : Fault) → cond (ltb 0x10FFFF v) (some Unrepresentable) none ≡ some f → OwnFault f
above v f e = one-fault (ltb 0x10FFFF v) Unrepresentable f (other_number Unrepresentable (λ e. omega arith) (λ e. omega arith)) e

fss_utf_supplied : Supplied fss_utf (byte_layout 6 6)
fss_utf_supplied = record { laws = fss_utf_laws; own = surrogates; excludes = fss_utf_excludes; writes = fss_utf_writes }

utf_ebcdic_supplied : Supplied utf_ebcdic (byte_layout 5 7)
utf_ebcdic_supplied = record { laws = utf_ebcdic_laws; own = surrogates; excludes = utf_ebcdic_excludes; writes = utf_ebcdic_writes }

utf16_supplied : Supplied utf16 utf16_layout
utf16_supplied =
    record { laws = utf16_laws; own = λ v f e. either_fault (no_character v) (cond (ltb 0x10FFFF v) (some Unrepresentable) none) f (surrogates v f) (above v f) e; excludes = utf16_excludes; writes = utf16_writes }

ucs4_supplied : Supplied ucs4 ucs4_layout
ucs4_supplied = record { laws = ucs4_laws; own = surrogates; excludes = ucs4_excludes; writes = ucs4_writes }

-- and so are the faults of the target of strict conversion
strict_own : (G : Form) → OwnFaults G → OwnFaults (strictly G)
strict_own G own v f e =
    either_fault (G.excluded v) (turned_away v) f (own v f) (one-fault (is_non_character v) NonCharacter f (other_number NonCharacter (λ e. omega arith) (λ e. omega arith))) e

pair :
    (F G : Form) (L M : Layout) → Supplied F L → Supplied G M → (a b : ℕ) → bound_tests a b L M ≡ true → (most : ℕ → ℕ)
    → ((m n : ℕ) → m * b ≤ a * n → m ≤ most n) → Pair F G most
pair F G L M f g a b test most is =
    record {
      answers = exact F G f.own (strict_own G g.own);
      lengths = exact_length F G f.own (strict_own G g.own);
      characters =
          λ s d n o c. let u = converts-units F G s d n o c in rw u.3 (accepted F f.laws G s u.0 (within-items F G s u.0 u.1));
      accepts = λ vs x y h. rw (le-ltb limit (length (encode_all F vs)) h) (characters_accepted F f.laws G vs x y);
      unheld = λ v n e. unheld_by_lem G g.excludes v (encodable_free F f.laws v n) g.laws (encodable_small F f.laws v n) e;
      room = room F G f.laws L M f.writes g.writes a b test most is;
      back = round_trip F G f.laws g.laws;
    }

-- "FSS-UTF to UTF-EBCDIC 3n/2, rounded down; UTF-EBCDIC to FSS-UTF 2n"
pub fss_utf-utf_ebcdic : Pair fss_utf utf_ebcdic (λ n. 3 * n / 2)
fss_utf-utf_ebcdic = pair _ _ _ _ fss_utf_supplied utf_ebcdic_supplied 3 2 refl _ (λ m n h. (le-div_iff_mul-le (omega arith)).1 h)

pub utf_ebcdic-fss_utf : Pair utf_ebcdic fss_utf (λ n. 2 * n)
utf_ebcdic-fss_utf = pair _ _ _ _ utf_ebcdic_supplied fss_utf_supplied 2 1 refl _ (λ m n h. omega arith)

-- "UTF-16 to FSS-UTF 3n, to UTF-EBCDIC 4n, to UCS-4 n"
pub utf16-fss_utf : Pair utf16 fss_utf (λ n. 3 * n)
utf16-fss_utf = pair _ _ _ _ utf16_supplied fss_utf_supplied 3 1 refl _ (λ m n h. omega arith)

pub utf16-utf_ebcdic : Pair utf16 utf_ebcdic (λ n. 4 * n)
utf16-utf_ebcdic = pair _ _ _ _ utf16_supplied utf_ebcdic_supplied 4 1 refl _ (λ m n h. omega arith)

pub utf16-ucs4 : Pair utf16 ucs4 (λ n. n)
utf16-ucs4 = pair _ _ _ _ utf16_supplied ucs4_supplied 1 1 refl _ (λ m n h. omega arith)

-- "UCS-4 to FSS-UTF 6n, to UTF-EBCDIC 7n, to UTF-16 2n"
pub ucs4-fss_utf : Pair ucs4 fss_utf (λ n. 6 * n)
ucs4-fss_utf = pair _ _ _ _ ucs4_supplied fss_utf_supplied 6 1 refl _ (λ m n h. omega arith)

pub ucs4-utf_ebcdic : Pair ucs4 utf_ebcdic (λ n. 7 * n)
ucs4-utf_ebcdic = pair _ _ _ _ ucs4_supplied utf_ebcdic_supplied 7 1 refl _ (λ m n h. omega arith)

pub ucs4-utf16 : Pair ucs4 utf16 (λ n. 2 * n)
ucs4-utf16 = pair _ _ _ _ ucs4_supplied utf16_supplied 2 1 refl _ (λ m n h. omega arith)

-- "from either byte form to UTF-16 or UCS-4 n"
pub fss_utf-utf16 : Pair fss_utf utf16 (λ n. n)
fss_utf-utf16 = pair _ _ _ _ fss_utf_supplied utf16_supplied 1 1 refl _ (λ m n h. omega arith)

pub fss_utf-ucs4 : Pair fss_utf ucs4 (λ n. n)
fss_utf-ucs4 = pair _ _ _ _ fss_utf_supplied ucs4_supplied 1 1 refl _ (λ m n h. omega arith)

pub utf_ebcdic-utf16 : Pair utf_ebcdic utf16 (λ n. n)
utf_ebcdic-utf16 = pair _ _ _ _ utf_ebcdic_supplied utf16_supplied 1 1 refl _ (λ m n h. omega arith)

pub utf_ebcdic-ucs4 : Pair utf_ebcdic ucs4 (λ n. n)
utf_ebcdic-ucs4 = pair _ _ _ _ utf_ebcdic_supplied ucs4_supplied 1 1 refl _ (λ m n h. omega arith)
