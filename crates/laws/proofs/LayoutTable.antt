-- The layout table says which units lead and which values are spelled by each number of units; and no sequence of a value is shorter than its shortest.
use Prim.Native.Nat.{ℕ, zero, suc, ◌≤◌, ◌<◌}
use mathlib.Core.Path.{◌≡◌, ap, ◌∙◌}
use mathlib.Core.Logic.{◌⊎◌, inl, inr}
use mathlib.Core.Bool.{true}
use mathlib.Core.List.{[]}
use native.Mathlib.Omega.{arith}
use native.Mathlib.Decide.{dec_lt}
use lib.ListN.{length}
use Rattle.forms.specs.Form.{Sequence, units, size}
use Rattle.forms.specs.Layout.{Layout, value_of, row_limit, lowest_of, form_of}
use Rattle.forms.specs.LayoutTable.{table_row_of}
use Rattle.laws.specs.LayoutTable.{Says, Full}
use Rattle.laws.proofs.LayoutLaws.{Fit, Spelling, spelling, spelling_below, length-shortest, full_spelling, not_shorter, same_length, in_row, at_least}
use Rattle.laws.proofs.AscendingRows.{ascending, ascending_fits, leads_of_row, limits_rise}

module _ (L : Layout) (ok : ascending L ≡ true) (k : ℕ) (h : k < length L.rows) where
  abbrev fits : Fit L
  fits = ascending_fits L ok

  lowest-spelled : (v : ℕ) (z : Spelling L (ascending_fits L ok) v) (j : ℕ) → z.at ≡ j → lowest_of L j ≤ v
  lowest-spelled v z zero e = omega arith
  lowest-spelled v z (suc j) e = z.least j (omega arith)

  spelled_between : (v : ℕ) → ((form_of L).shortest v ≡ []) ⊎ Spelling L (ascending_fits L ok) v → length ((form_of L).shortest v) ≡ suc k → (lowest_of L k ≤ v) × (v < row_limit L k)
  spelled_between v (inl e) q = absurd (omega (arith, ap length e))
  spelled_between v (inr z) q =
      let a : z.at ≡ k = omega (arith, length-shortest L fits v z) in
      (lowest-spelled v z k a, rw a at z.below)

  pub between_spelled : (v : ℕ) → lowest_of L k ≤ v → v < row_limit L k → length ((form_of L).shortest v) ≡ suc k
  between_spelled v l b =
      let z = spelling_below L fits k v h b in
      let m : k ≤ z.at = at_least L fits (limits_rise L ok) k v h z l in
      length-shortest L fits v z ∙ ap suc (go z m (dec_lt k z.at))
    where
      go : (z : Spelling L (ascending_fits L ok) v) → k ≤ z.at → Dec (k < z.at) → z.at ≡ k
      go z m (yes d) = absurd (omega (arith, z.least k d))
      go z m (no d) = omega arith

  pub table_says : 0 < row_limit L k → Says L k (table_row_of L k)
  table_says p =
      record {
        leads = λ u. ((λ e. let r = in_row L fits u k e in (r.from, r.to)), (λ w. leads_of_row L ok k u h w.0 w.1));
        values =
            λ v.
            ((λ e. let w = spelled_between v (spelling L fits v) e in (w.0, omega arith)), (λ w. between_spelled v w.0 (omega (arith, w.1))));
      }

-- "Only the shortest sequence is legal"
module _ (L : Layout) (fits : Fit L) (c : Sequence) (f : Full (form_of L) c) where
  pub shortest-least : length ((form_of L).shortest (value_of L c)) ≤ size c
  shortest-least = let z = full_spelling L fits c f in omega (arith, length-shortest L fits (value_of L c) z, not_shorter L fits c f z)

  pub shortest-only : length ((form_of L).shortest (value_of L c)) ≡ size c → (form_of L).shortest (value_of L c) ≡ units c
  shortest-only e = let z = full_spelling L fits c f in same_length L fits c f z (omega (arith, length-shortest L fits (value_of L c) z))
