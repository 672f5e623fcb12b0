-- Characters of one code unit of UTF-16 and UCS-4, by the tests that the blocks of a lossy decoding make.
use Prim.Native.Nat.{ℕ, ◌+◌, ◌<◌}
use mathlib.Core.Path.{◌≡◌, sym, ◌∙◌}
use mathlib.Core.Bool.{Bool, false}
use mathlib.Core.List.{List}
use native.Mathlib.Omega.{arith}
use native.Mathlib.Decide.{dec_lt}
use borrow.Author.Count.{below_more}
use borrow.Author.Tests.{leb-false}
use lib.Dec.{leb}
use lib.ListN.{length, get_or, set}
use lib.Seq.{get_or-set_same, get_or-set_other}
use Rattle.forms.specs.Form.{span}
use Rattle.forms.specs.Forms.{is_surrogate, utf16, ucs4}
use Rattle.laws.proofs.Rows.{within_below}
use Rattle.laws.proofs.Carried.{outside}
use Rattle.laws.proofs.Progress.{CharacterAt}
use Rattle.items.proofs.WholeUnits.{ucs4-character}
use Rattle.characters.proofs.Shorts.{unit_below, unit_above}
use Rattle.lossy_runs.specs.Ucs4Units.{Carried, AllCarried}

-- what the tests of a UCS-4 unit say
pub below_carried : {u : ℕ} → u < 0xD800 → Carried u
below_carried {u} h = record { small = omega arith; character = within_below 0xD800 0xDFFF u h }

pub tested_carried : {u : ℕ} {gap : Bool} → gap ≡ is_surrogate u → gap ≡ false → leb 0x80000000 u ≡ false → Carried u
tested_carried {u} is e l = record { small = leb-false 0x80000000 u l; character = sym is ∙ e }

-- a loop over a block, by what says that it found no other
pub record CarriedIf (P : Type 0) (b : List ℕ) (k : ℕ) : Type 0 where
  pub all : P → AllCarried b k

pub carried_none : {P : Type 0} {b : List ℕ} → CarriedIf P b 0
carried_none = record { all = λ e. record { each = λ j h. absurd (omega arith) } }

pub carried_more : {P Q : Type 0} {b : List ℕ} {k : ℕ} → CarriedIf P b k → (Q → P) → (Q → Carried (get_or b k 0)) → CarriedIf Q b (k + 1)
carried_more {P} {Q} {b} {k} c before here =
    record { all = λ e. record { each = below_more (λ (j : ℕ). Carried (get_or b j 0)) k (c.all (before e)).each (here e) } }

-- the units of a block as they come in: the next is put behind the first k
module _ (b : List ℕ) (k x : ℕ) (h : k < length b) where
  same-before : (j : ℕ) → j < k → get_or (set b k x) j 0 ≡ get_or b j 0
  same-before j l = get_or-set_other b k j x 0 (λ z. omega (arith, z))

  pub carried-before : AllCarried (set b k x) (k + 1) → AllCarried b k
  carried-before a = record { each = λ j l. let e = same-before j l in rw e at (a.each j (omega arith)) }

  pub carried-last : AllCarried (set b k x) (k + 1) → Carried x
  carried-last a = rw (get_or-set_same b k x 0 h) at (a.each k (omega arith))

  pub carried-put : AllCarried b k → Carried x → AllCarried (set b k x) (k + 1)
  carried-put a c =
      record {
        each = below_more (λ (j : ℕ). Carried (get_or (set b k x) j 0)) k (λ j l. rw (same-before j l) (a.each j l)) (rw (get_or-set_same b k x 0 h) c);
      }

module _ {s : List ℕ} {p : ℕ} where
  -- no surrogate
  pub lone_unit : {x : ℕ} → p < length s → x ≡ get_or s p 0 → x < 0x10000 → is_surrogate x ≡ false → CharacterAt utf16 s p x (span p 1)
  lone_unit {x} h e l t = go (dec_lt x 0xD800)
    where
      go : Dec (x < 0xD800) → CharacterAt utf16 s p x (span p 1)
      go (yes f) = unit_below h e f
      go (no f) = unit_above h e (outside x (rw t) (omega arith)) l

  pub ucs4-unit : {x : ℕ} → p < length s → x ≡ get_or s p 0 → Carried x → CharacterAt ucs4 s p x (span p 1)
  ucs4-unit {x} h e c =
      let small = rw e at c.small in
      let free = rw e at c.character in
      record { inside = h; is = rw e (ucs4-character s p small (rw free)) }
