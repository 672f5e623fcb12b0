-- The characters of UCS-4 where one is known to stand: each unit is its value.
use Prim.Native.Nat.{ℕ, ◌+◌, ◌-◌, ◌<◌}
use mathlib.Core.Path.{◌≡◌, sym, ◌∙◌}
use mathlib.Core.List.{List}
use native.Mathlib.Omega.{arith}
use lib.ListN.{length, get_or, take, drop}
use Rattle.std.proofs.lemmas.Grind.{common_steps}
use Rattle.types.specs.declared.Item.TheVariants.{Character, Mark}
use Rattle.forms.specs.Form.{span}
use Rattle.forms.specs.Forms.{ucs4}
use Rattle.laws.proofs.Progress.{CharacterAt}
use Rattle.laws.proofs.Runs.{Stands}
use Rattle.measure_runs.proofs.Ucs4Units.{unit-unmarked}

pub unit_stands : {s : List ℕ} {p : ℕ} → Stands ucs4 s p → CharacterAt ucs4 s p (get_or s p 0) (span p 1)
unit_stands {s} {p} c =
    unit-unmarked s p c.here.inside
    (λ f w. let e : Mark f (span p 1) ≡ Character c.value c.place = w.is ∙ sym c.here.is in let z : ◌≡◌ {A = ℕ} 0 1 = cc in omega arith)

-- a loop over the slice of the units from `at` on
module _ (s : List ℕ) (at : ℕ) where
  pub rest_inside : (k : ℕ) → k < length (take (length s - at) (drop at s)) → at + k < length s
  rest_inside k h = grind (arith, common_steps)

  pub rest_value : (k : ℕ) → k < length (take (length s - at) (drop at s)) → get_or (take (length s - at) (drop at s)) k 0 ≡ get_or s (at + k) 0
  rest_value k h = grind (arith, common_steps)
