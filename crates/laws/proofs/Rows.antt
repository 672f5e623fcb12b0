-- The rows of a layout: which row makes a unit a lead, and which row spells a value.
use Prim.Native.Nat.{ℕ, zero, suc, ◌+◌, ◌≤◌, ◌<◌}
use mathlib.Core.Path.{◌≡◌, refl, sym, ap, ◌∙◌}
use mathlib.Core.Logic.{◌≢◌, ◌⊎◌, inl, inr}
use mathlib.Core.Bool.{Bool, true, false, cond, ◌&&◌}
use mathlib.Core.List.{List, [], ◌∷◌}
use native.Mathlib.Omega.{arith}
use native.Mathlib.Nat.{not-suc-le-zero, le_of_suc-le-suc, add-zero, add-suc, suc-add}
use lib.Dec.{leb, ltb}
use borrow.Author.Tests.{ltb-true, ltb-false, leb-true, lt-ltb, le-ltb, le-leb, lt-leb}
use lib.ListN.{length, get_or}
use Rattle.forms.specs.Form.{Role, lead, trailing, invalid}
use Rattle.forms.specs.Layout.{Row, row, Layout, within, or_lead, lead_in, role_of, limit_of, spelled, shortest_in}
use Rattle.laws.proofs.Table.{and_left, and_right}

and_false : (a : Bool) → (a && false) ≡ false
and_false true = refl
and_false false = refl

pub within_true : (a b u : ℕ) → within a b u ≡ true → (a ≤ u) × (u ≤ b)
within_true a b u h = (leb-true a u (and_left (leb a u) (leb u b) h), leb-true u b (and_right (leb a u) (leb u b) h))

pub within_in : (a b u : ℕ) → a ≤ u → u ≤ b → within a b u ≡ true
within_in a b u h k = rw (le-leb a u h, le-leb u b k)

pub within_below : (a b u : ℕ) → u < a → within a b u ≡ false
within_below a b u h = rw (lt-leb a u h)

pub within_above : (a b u : ℕ) → b < u → within a b u ≡ false
within_above a b u h = rw (lt-leb u b h) (and_false (leb a u))

-- the test for a trailing unit
abbrev pub trails : ℕ → ℕ → ℕ → Bool
trails low R u = leb low u && ltb u (low + R)

pub trails_true : (low R u : ℕ) → trails low R u ≡ true → (low ≤ u) × (u < low + R)
trails_true low R u h = (leb-true low u (and_left (leb low u) (ltb u (low + R)) h), ltb-true u (low + R) (and_right (leb low u) (ltb u (low + R)) h))

pub trails_in : (low R u : ℕ) → low ≤ u → u < low + R → trails low R u ≡ true
trails_in low R u h k = rw (le-leb low u h, lt-ltb u (low + R) k)

pub trails_below : (low R u : ℕ) → u < low → trails low R u ≡ false
trails_below low R u h = rw (lt-leb low u h)

pub trails_above : (low R u : ℕ) → low + R ≤ u → trails low R u ≡ false
trails_above low R u h = rw (le-ltb u (low + R) h) (and_false (leb low u))

-- roles are told apart
pub invalid-lead : {A : Type 0} {k : ℕ} → invalid ≡ lead k → A
invalid-lead e = absurd (let z : ◌≡◌ {A = ℕ} 0 1 = cc in omega arith)

pub trailing-lead : {A : Type 0} {k : ℕ} → trailing ≡ lead k → A
trailing-lead e = absurd (let z : ◌≡◌ {A = ℕ} 0 1 = cc in omega arith)

invalid-trailing : {A : Type 0} → invalid ≡ trailing → A
invalid-trailing e = absurd (let z : ◌≡◌ {A = ℕ} 0 1 = cc in omega arith)

lead-trailing : {A : Type 0} {k : ℕ} → lead k ≡ trailing → A
lead-trailing e = absurd (let z : ◌≡◌ {A = ℕ} 0 1 = cc in omega arith)

pub lead_injective : {a b : ℕ} → lead a ≡ lead b → a ≡ b
lead_injective e = cc

-- the row that makes u a lead of j units, where the first row is that of k
pub record LeadRow (rs : List Row) (k u j : ℕ) : Type 0 where
  pub at : ℕ
  pub inside : at < length rs
  pub count : j ≡ k + at
  pub from : (get_or rs at (row 0 0 0)).first ≤ u
  pub to : u ≤ (get_or rs at (row 0 0 0)).last

later_row : (r : Row) (rs : List Row) (k u j : ℕ) → LeadRow rs (suc k) u j → LeadRow (r ∷ rs) k u j
later_row r rs k u j l =
    record {
      at = suc l.at;
      inside = omega (arith, l.inside);
      count = l.count ∙ suc-add k l.at ∙ sym (add-suc k l.at);
      from = l.from;
      to = l.to;
    }

this_row : (r : Row) (rs : List Row) (k u j : ℕ) (b : Bool) → within r.first r.last u ≡ b → cond b (lead k) invalid ≡ lead j → LeadRow (r ∷ rs) k u j
this_row r rs k u j true e h =
    record {
      at = 0;
      inside = omega arith;
      count = sym (lead_injective h) ∙ sym (add-zero k);
      from = (within_true r.first r.last u e).0;
      to = (within_true r.first r.last u e).1;
    }
this_row r rs k u j false e h = invalid-lead h

either_row :
    (r : Row) (rs : List Row) (k u j : ℕ) (o : Role) → or_lead o (within r.first r.last u) k ≡ lead j
    → (o ≡ lead j → LeadRow rs (suc k) u j) → LeadRow (r ∷ rs) k u j
either_row r rs k u j (lead i) h f = later_row r rs k u j (f h)
either_row r rs k u j trailing h f = trailing-lead h
either_row r rs k u j invalid h f = this_row r rs k u j (within r.first r.last u) refl h

pub lead-row : (rs : List Row) (k u j : ℕ) → lead_in rs k u ≡ lead j → LeadRow rs k u j
lead-row [] k u j h = invalid-lead h
lead-row (r ∷ rs) k u j h = either_row r rs k u j (lead_in rs (suc k) u) h (λ e. lead-row rs (suc k) u j e)

not-trailing_here : (b : Bool) (k : ℕ) → cond b (lead k) invalid ≡ trailing → ⊥
not-trailing_here true k h = lead-trailing h
not-trailing_here false k h = invalid-trailing h

or-trailing : (o : Role) (b : Bool) (k : ℕ) → (o ≡ trailing → ⊥) → or_lead o b k ≡ trailing → ⊥
or-trailing (lead i) b k f h = lead-trailing h
or-trailing trailing b k f h = f refl
or-trailing invalid b k f h = not-trailing_here b k h

pub no_trailing-row : (rs : List Row) (k u : ℕ) → lead_in rs k u ≡ trailing → ⊥
no_trailing-row [] k u h = invalid-trailing h
no_trailing-row (r ∷ rs) k u h = or-trailing (lead_in rs (suc k) u) (within r.first r.last u) k (no_trailing-row rs (suc k) u) h

-- the rows end below `top`
abbrev pub rows_below : ℕ → List Row → Bool
rows_below top [] = true
rows_below top (r ∷ rs) = ltb r.last top && rows_below top rs

no_row_above : (rs : List Row) (k top u : ℕ) → rows_below top rs ≡ true → top ≤ u → lead_in rs k u ≡ invalid
no_row_above [] k top u e h = refl
no_row_above (r ∷ rs) k top u e h =
    let l = ltb-true r.last top (and_left (ltb r.last top) _ e) in
    rw (no_row_above rs (suc k) top u (and_right (ltb r.last top) _ e) h, within_above r.first r.last u (omega arith))

-- a unit above the rows and the trailing units is invalid
pub invalid_above : (L : Layout) (top u : ℕ) → rows_below top L.rows ≡ true → L.low + L.radix ≤ top → top ≤ u → role_of L u ≡ invalid
invalid_above L top u e l h = rw (trails_above L.low L.radix u (omega arith), no_row_above L.rows 0 top u e h)

-- the row that spells v, where the first row is that of k trailing units: the first that v fits
pub record SpellingRow (L : Layout) (rs : List Row) (k v : ℕ) : Type 0 where
  pub at : ℕ
  pub inside : at < length rs
  pub below : v < limit_of L.radix (get_or rs at (row 0 0 0)) (k + at)
  pub least : (j : ℕ) → j < at → limit_of L.radix (get_or rs j (row 0 0 0)) (k + j) ≤ v
  pub same : shortest_in L rs k v ≡ spelled L (get_or rs at (row 0 0 0)) (k + at) v

least-suc :
    (L : Layout) (r : Row) (rs : List Row) (k v : ℕ) (z : SpellingRow L rs (suc k) v) → limit_of L.radix r k ≤ v
    → (j : ℕ) → j < suc z.at → limit_of L.radix (get_or (r ∷ rs) j (row 0 0 0)) (k + j) ≤ v
least-suc L r rs k v z h zero l = rw (add-zero k) h
least-suc L r rs k v z h (suc j) l = rw (add-suc k j, ← suc-add k j) (z.least j (le_of_suc-le-suc l))

pick_row :
    (L : Layout) (r : Row) (rs : List Row) (k v : ℕ) (b : Bool) → ltb v (limit_of L.radix r k) ≡ b
    → (shortest_in L rs (suc k) v ≡ []) ⊎ SpellingRow L rs (suc k) v
    → (shortest_in L (r ∷ rs) k v ≡ []) ⊎ SpellingRow L (r ∷ rs) k v
pick_row L r rs k v true e s =
    inr
    (record {
      at = 0;
      inside = omega arith;
      below = rw (add-zero k) (ltb-true v (limit_of L.radix r k) e);
      least = λ j h. absurd (not-suc-le-zero h);
      same = rw (e, add-zero k);
    })
pick_row L r rs k v false e (inl q) = inl (rw e q)
pick_row L r rs k v false e (inr z) =
    inr
    (record {
      at = suc z.at;
      inside = omega (arith, z.inside);
      below = rw (add-suc k z.at, ← suc-add k z.at) z.below;
      least = least-suc L r rs k v z (ltb-false v (limit_of L.radix r k) e);
      same = rw e (z.same ∙ ap (λ (n : ℕ). spelled L (get_or rs z.at (row 0 0 0)) n v) (suc-add k z.at ∙ sym (add-suc k z.at)));
    })

pub spelling_row : (L : Layout) (rs : List Row) (k v : ℕ) → (shortest_in L rs k v ≡ []) ⊎ SpellingRow L rs k v
spelling_row L [] k v = inl refl
spelling_row L (r ∷ rs) k v = pick_row L r rs k v (ltb v (limit_of L.radix r k)) refl (spelling_row L rs (suc k) v)

-- a value below the limit of some row is spelled
pub spelled_below :
    (L : Layout) (rs : List Row) (k v i : ℕ) → i < length rs → v < limit_of L.radix (get_or rs i (row 0 0 0)) (k + i) → shortest_in L rs k v ≢ []
spelled_below L [] k v i h b e = absurd (not-suc-le-zero h)
spelled_below L (r ∷ rs) k v i h b e = go (ltb v (limit_of L.radix r k)) refl i h b (spelled_below L rs (suc k) v) e
  where
    go :
        (x : Bool) → ltb v (limit_of L.radix r k) ≡ x → (i : ℕ) → i < suc (length rs)
        → v < limit_of L.radix (get_or (r ∷ rs) i (row 0 0 0)) (k + i)
        → ((i : ℕ) → i < length rs → v < limit_of L.radix (get_or rs i (row 0 0 0)) (suc k + i) → shortest_in L rs (suc k) v ≢ [])
        → cond x (spelled L r k v) (shortest_in L rs (suc k) v) ≢ []
    go true q i h b f e = let z : ◌≡◌ {A = ℕ} 0 1 = cc in omega arith
    go false q zero h b f e = omega (arith, ltb-false v (limit_of L.radix r k) q, rw (add-zero k) at b)
    go false q (suc i) h b f e = f i (le_of_suc-le-suc h) (rw (suc-add k i, ← add-suc k i) b) e
