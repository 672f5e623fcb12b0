-- Faults are told apart by their numbers, none of which is 0.
use Prim.Native.Nat.{ℕ}
use mathlib.Core.Path.{◌≡◌, refl, sym, ap, ◌∙◌}
use mathlib.Core.Logic.{◌≢◌, inl, inr}
use mathlib.Core.Bool.{Bool, true, false, cond, ◌&&◌, ◌||◌}
use mathlib.Core.List.{List, [], ◌∷◌}
use native.Mathlib.Omega.{arith}
use lib.Dec.{eqb}
use borrow.Author.Tests.{eqb-true, eq-eqb}
use Rattle.types.specs.declared.Fault.{Fault}
use Rattle.types.specs.declared.Fault.TheVariants.{SourceTooLong, MissingTrailing, StrayTrailing, InvalidUnit, Overlong, Unrepresentable, BufferTooShort, OffsetOutOfRange, Surrogate, NonCharacter}
use Rattle.forms.specs.Fault.{number_of}
use Rattle.laws.proofs.Table.{and_left, and_right}
use Rattle.acceptance.specs.FaultNumbers.{Among}

abbrev fault_in : List Fault → ℕ → Fault
fault_in [] k = SourceTooLong
fault_in (f ∷ fs) k = cond (eqb k (number_of f)) f (fault_in fs k)

abbrev fault_of : ℕ → Fault
fault_of =
    fault_in (MissingTrailing ∷ StrayTrailing ∷ InvalidUnit ∷ Overlong ∷ Unrepresentable ∷ BufferTooShort ∷ OffsetOutOfRange ∷ Surrogate ∷ NonCharacter ∷ [])

again : (f : Fault) → f ≡ fault_of (number_of f)
again SourceTooLong = refl
again MissingTrailing = refl
again StrayTrailing = refl
again InvalidUnit = refl
again Overlong = refl
again Unrepresentable = refl
again BufferTooShort = refl
again OffsetOutOfRange = refl
again Surrogate = refl
again NonCharacter = refl

pub same-fault : (f g : Fault) → number_of f ≡ number_of g → f ≡ g
same-fault f g e = again f ∙ ap fault_of e ∙ sym (again g)

pub not_none : {A : Type 0} (f : Fault) → number_of f ≡ 0 → A
not_none f e = absurd (let z : number_of f ≡ 1 = ap number_of (again f ∙ ap fault_of e) in omega arith)

-- a number that a list has
abbrev pub has : ℕ → List ℕ → Bool
has k [] = false
has k (n ∷ ns) = eqb k n || has k ns

pub among : (k n : ℕ) (ns : List ℕ) → has n ns ≡ true → k ≡ n → Among k ns
among k n [] h e = absurd (let z : ◌≡◌ {A = ℕ} 0 1 = cc in omega arith)
among k n (m ∷ ns) h e = go (eqb n m) refl h (λ w. among k n ns w e)
  where
    go : (b : Bool) → eqb n m ≡ b → (b || has n ns) ≡ true → (has n ns ≡ true → Among k ns) → Among k (m ∷ ns)
    go true q w f = inl (e ∙ eqb-true n m q)
    go false q w f = inr (f w)

-- the numbers of a list that another has too
abbrev pub all_in : List ℕ → List ℕ → Bool
all_in [] ns = true
all_in (m ∷ ms) ns = has m ns && all_in ms ns

pub all_in_lem : (k : ℕ) (ms ns : List ℕ) → all_in ms ns ≡ true → Among k ms → Among k ns
all_in_lem k (m ∷ ms) ns h (inl e) = among k m ns (and_left (has m ns) (all_in ms ns) h) e
all_in_lem k (m ∷ ms) ns h (inr a) = all_in_lem k ms ns (and_right (has m ns) (all_in ms ns) h) a
all_in_lem k [] ns h x'' = elim x'' [ ]

-- a number that it has not
pub not-among : (k n : ℕ) (ns : List ℕ) → has n ns ≡ false → Among k ns → k ≢ n
not-among k n (m ∷ ns) h (inl a) e = absurd (let z : true ≡ false = sym (ap (λ (b : Bool). b || has n ns) (eq-eqb n m (sym e ∙ a))) ∙ h in let y : ◌≡◌ {A = ℕ} 0 1 = cc in omega arith)
not-among k n (m ∷ ns) h (inr a) e = not-among k n ns (or_false (eqb n m) h) a e
  where
    or_false : (b : Bool) → (b || has n ns) ≡ false → has n ns ≡ false
    or_false true w = absurd (let y : ◌≡◌ {A = ℕ} 0 1 = cc in omega arith)
    or_false false w = w
not-among k n [] h x3 e = elim x3 [ ]
