-- A layout whose rows ascend from 0 and keep off the trailing units fits: one computed test, which both byte layouts and UCS-4 pass.
use Prim.Native.Nat.{ℕ, zero, suc, ◌+◌, ◌-◌, ◌^◌, ◌≤◌, ◌<◌}
use mathlib.Core.Path.{◌≡◌, refl}
use mathlib.Core.Bool.{Bool, true, false, ◌&&◌, ◌||◌}
use mathlib.Core.List.{List, [], ◌∷◌}
use native.Mathlib.Omega.{arith}
use native.Mathlib.Nat.{not-suc-le-zero, le_of_suc-le-suc, add-zero, zero-add, add-suc, suc-add, mul-pos}
use lib.Dec.{leb, ltb, eqb}
use borrow.Author.Tests.{ltb-true, leb-true, eqb-true}
use lib.ListN.{length, get_or}
use Rattle.forms.specs.Form.{lead, invalid}
use Rattle.forms.specs.Layout.{Row, row, Layout, lead_in, role_of, row_at, limit_of, row_limit}
use Rattle.laws.proofs.Table.{and_left, and_right}
use Rattle.laws.proofs.Rows.{within_in, within_below, trails, trails_below, trails_above}
use Rattle.laws.proofs.LayoutLaws.{Fit}

-- the row begins at `from` or later and keeps off the trailing units; its values begin at 0 and end at `before` or later
abbrev pub ascending_row : ℕ → ℕ → ℕ → ℕ → Row → ℕ → Bool
ascending_row low R from before r k =
    leb from r.first && (leb r.first r.last && ((ltb r.last low || leb (low + R) r.first)
    && (eqb r.origin 0 && (ltb 0 (R ^ k) && (leb (limit_of R r k) 0x80000000 && leb before (limit_of R r k))))))

abbrev pub ascending_rows : ℕ → ℕ → ℕ → ℕ → List Row → ℕ → Bool
ascending_rows low R from before [] k = true
ascending_rows low R from before (r ∷ rs) k =
    ascending_row low R from before r k && ascending_rows low R (suc r.last) (limit_of R r k) rs (suc k)

-- and the last row ends at 7FFFFFFF
abbrev pub ascending : Layout → Bool
ascending L = ltb 0 (length L.rows) && (leb 0x80000000 (row_limit L (length L.rows - 1)) && ascending_rows L.low L.radix 0 0 L.rows 0)

-- what the test says of a row
pub record RowFits (low R from before : ℕ) (r : Row) (k : ℕ) : Type 0 where
  pub begins : from ≤ r.first
  pub order : r.first ≤ r.last
  pub off : (u : ℕ) → r.first ≤ u → u ≤ r.last → trails low R u ≡ false
  pub zeroed : r.origin ≡ 0
  pub positive : 0 < R ^ k
  pub bound : limit_of R r k ≤ 0x80000000
  pub rises : before ≤ limit_of R r k

off_row : (low R a b : ℕ) (x : Bool) → ltb b low ≡ x → (x || leb (low + R) a) ≡ true → (u : ℕ) → a ≤ u → u ≤ b → trails low R u ≡ false
off_row low R a b true q h u k l = trails_below low R u (omega (arith, ltb-true b low q))
off_row low R a b false q h u k l = trails_above low R u (omega (arith, leb-true (low + R) a h))

row_fits : (low R from before : ℕ) (r : Row) (k : ℕ) → ascending_row low R from before r k ≡ true → RowFits low R from before r k
row_fits low R from before r k e =
    let a = and_right (leb from r.first) _ e in
    let b = and_right (leb r.first r.last) _ a in
    let c = and_right (ltb r.last low || leb (low + R) r.first) _ b in
    let d = and_right (eqb r.origin 0) _ c in
    let f = and_right (ltb 0 (R ^ k)) _ d in
    record {
      begins = leb-true from r.first (and_left (leb from r.first) _ e);
      order = leb-true r.first r.last (and_left (leb r.first r.last) _ a);
      off = off_row low R r.first r.last (ltb r.last low) refl (and_left (ltb r.last low || leb (low + R) r.first) _ b);
      zeroed = eqb-true r.origin 0 (and_left (eqb r.origin 0) _ c);
      positive = ltb-true 0 (R ^ k) (and_left (ltb 0 (R ^ k)) _ d);
      bound = leb-true (limit_of R r k) 0x80000000 (and_left (leb (limit_of R r k) 0x80000000) _ f);
      rises = leb-true before (limit_of R r k) (and_right (leb (limit_of R r k) 0x80000000) _ f);
    }

module _ (low R : ℕ) where
  abbrev Ascends : ℕ → ℕ → List Row → ℕ → Type 0
  Ascends from before rs k = ascending_rows low R from before rs k ≡ true

  first_fits : (from before : ℕ) (r : Row) (rs : List Row) (k : ℕ) → Ascends from before (r ∷ rs) k → RowFits low R from before r k
  first_fits from before r rs k e = row_fits low R from before r k (and_left (ascending_row low R from before r k) _ e)

  later_ascend : (from before : ℕ) (r : Row) (rs : List Row) (k : ℕ) → Ascends from before (r ∷ rs) k → Ascends (suc r.last) (limit_of R r k) rs (suc k)
  later_ascend from before r rs k e = and_right (ascending_row low R from before r k) _ e

  -- what holds of a row wherever it stands
  pub record RowIs (r : Row) (k : ℕ) : Type 0 where
    pub order : r.first ≤ r.last
    pub off : (u : ℕ) → r.first ≤ u → u ≤ r.last → trails low R u ≡ false
    pub zeroed : r.origin ≡ 0
    pub positive : 0 < R ^ k
    pub bound : limit_of R r k ≤ 0x80000000

  row_is : (from before : ℕ) (rs : List Row) (k : ℕ) → Ascends from before rs k → (i : ℕ) → i < length rs → RowIs (get_or rs i (row 0 0 0)) (k + i)
  row_is from before [] k e i h = absurd (not-suc-le-zero h)
  row_is from before (r ∷ rs) k e zero h =
      let f = first_fits from before r rs k e in
      rw (add-zero k) (record { order = f.order; off = f.off; zeroed = f.zeroed; positive = f.positive; bound = f.bound })
  row_is from before (r ∷ rs) k e (suc i) h =
      rw (add-suc k i, ← suc-add k i) (row_is (suc r.last) (limit_of R r k) rs (suc k) (later_ascend from before r rs k e) i (le_of_suc-le-suc h))

  row_rises :
      (from before : ℕ) (rs : List Row) (k : ℕ) → Ascends from before rs k → (i : ℕ) → suc i < length rs
      → limit_of R (get_or rs i (row 0 0 0)) (k + i) ≤ limit_of R (get_or rs (suc i) (row 0 0 0)) (k + suc i)
  row_rises from before [] k e i h = absurd (not-suc-le-zero h)
  row_rises from before (r ∷ []) k e i h = absurd (not-suc-le-zero (le_of_suc-le-suc h))
  row_rises from before (r ∷ s ∷ rs) k e zero h =
      rw (add-zero k, add-suc k 0, add-zero k) (first_fits (suc r.last) (limit_of R r k) s rs (suc k) (later_ascend from before r (s ∷ rs) k e)).rises
  row_rises from before (r ∷ s ∷ rs) k e (suc i) h =
      rw (add-suc k i, add-suc k (suc i), ← suc-add k i, ← suc-add k (suc i))
      (row_rises (suc r.last) (limit_of R r k) (s ∷ rs) (suc k) (later_ascend from before r (s ∷ rs) k e) i (le_of_suc-le-suc h))

  no_lead_below : (from before : ℕ) (rs : List Row) (k u : ℕ) → Ascends from before rs k → u < from → lead_in rs k u ≡ invalid
  no_lead_below from before [] k u e h = refl
  no_lead_below from before (r ∷ rs) k u e h =
      let f = first_fits from before r rs k e in
      rw (
        no_lead_below (suc r.last) (limit_of R r k) rs (suc k) u (later_ascend from before r rs k e) (omega (arith, f.begins, f.order)),
        within_below r.first r.last u (omega (arith, f.begins)),
      )

  lead-at :
      (from before : ℕ) (rs : List Row) (k : ℕ) → Ascends from before rs k → (i u : ℕ) → i < length rs
      → (get_or rs i (row 0 0 0)).first ≤ u → u ≤ (get_or rs i (row 0 0 0)).last → lead_in rs k u ≡ lead (k + i)
  lead-at from before [] k e i u h a b = absurd (not-suc-le-zero h)
  lead-at from before (r ∷ rs) k e zero u h a b =
      rw (
        no_lead_below (suc r.last) (limit_of R r k) rs (suc k) u (later_ascend from before r rs k e) (omega arith),
        within_in r.first r.last u a b,
        add-zero k,
      )
  lead-at from before (r ∷ rs) k e (suc i) u h a b =
      rw (
        lead-at (suc r.last) (limit_of R r k) rs (suc k) (later_ascend from before r rs k e) i u (le_of_suc-le-suc h) a b,
        add-suc k i,
        ← suc-add k i,
      )

module _ (L : Layout) (passes : ascending L ≡ true) where
  some : 0 < length L.rows
  some = ltb-true 0 (length L.rows) (and_left (ltb 0 (length L.rows)) _ passes)

  tested : (leb 0x80000000 (row_limit L (length L.rows - 1)) && ascending_rows L.low L.radix 0 0 L.rows 0) ≡ true
  tested = and_right (ltb 0 (length L.rows)) _ passes

  top : 0x80000000 ≤ row_limit L (length L.rows - 1)
  top = leb-true 0x80000000 (row_limit L (length L.rows - 1)) (and_left (leb 0x80000000 (row_limit L (length L.rows - 1))) _ tested)

  ok : ascending_rows L.low L.radix 0 0 L.rows 0 ≡ true
  ok = and_right (leb 0x80000000 (row_limit L (length L.rows - 1))) _ tested

  pub row_of : (k : ℕ) → k < length L.rows → RowIs L.low L.radix (row_at L k) k
  row_of k h = rw (zero-add k) at (row_is L.low L.radix 0 0 L.rows 0 ok k h)

  pub limit_positive : (k : ℕ) → k < length L.rows → 0 < row_limit L k
  limit_positive k h =
      let r = row_of k h in
      let p : 0 < (row_at L k).last + 1 - (row_at L k).first = omega (arith, r.order) in
      omega (arith, mul-pos p r.positive)

  pub limits_rise : (k : ℕ) → suc k < length L.rows → row_limit L k ≤ row_limit L (suc k)
  limits_rise k h = rw (zero-add k, zero-add (suc k)) at (row_rises L.low L.radix 0 0 L.rows 0 ok k h)

  pub leads_of_row : (k u : ℕ) → k < length L.rows → (row_at L k).first ≤ u → u ≤ (row_at L k).last → role_of L u ≡ lead k
  leads_of_row k u h a b =
      rw ((row_of k h).off u a b, lead-at L.low L.radix 0 0 L.rows 0 ok k u h a b, zero-add k)

  pub ascending_fits : Fit L
  ascending_fits =
      record {
        positive = λ k h. (row_of k h).positive;
        above = λ k v h l. omega (arith, (row_of k h).zeroed);
        leads = λ k v u h b l e f t. leads_of_row k u h f t;
        bound = λ k h. (row_of k h).bound;
        reaches = λ v h x. (length L.rows - 1, omega (arith, some), omega (arith, top));
      }
