-- The loops of validation: what they keep, and what blocks come to.
use Prim.Native.Nat.{ℕ, ◌+◌, ◌*◌, ◌-◌, ◌≤◌, ◌<◌}
use mathlib.Core.Path.{◌≡◌, refl, sym, ap, ◌∙◌}
use mathlib.Core.Bool.{Bool, true, false, not, ◌&&◌, ◌||◌}
use mathlib.Core.List.{List, ◌++◌}
use native.Mathlib.Omega.{arith}
use lib.Dec.{leb, ltb}
use native.Mathlib.Decide.{dec_lt}
use lib.ListN.{length, get_or, take, drop, replicate, length-replicate, get_or-replicate, get_or-eq_default}
use lib.Seq.{get_or-append-add}
use borrow.Rule.Slice.PartMut.{put_mid, post_of}
use borrow.Author.Tests.{lt-leb}
use Rattle.std.specs.Int.{from_bool}
use Rattle.std.proofs.Common.{Option, None, Some, IfSome}
use Rattle.std.proofs.lemmas.Grind.{common_steps}
use Rattle.measure_runs.proofs.Slices.{unit_at}
use Rattle.laws.proofs.Runs.{sum, sum_zero, sum_more, sum_join, sum_most}
use Rattle.laws.proofs.Values.{sum_along, sum_plus, sum_ones, sum_none, neither_left, neither_right}
use Rattle.laws.proofs.Blocks.{each_none, each_more, each_join}
use Rattle.measure_runs.specs.declared.fss_utf_validation.Weights.{Weights}
use Rattle.measure_runs.specs.Validation.{is_trailing_byte, ill_formed_at, Validated, reached, splits, added, added_at, lead_at, reached_at, split_at, LeadWeights, Blocks, Whole, Padded}

pub from_bool-most : (x : Bool) → from_bool x ≤ 1
from_bool-most true = omega arith
from_bool-most false = omega arith

pub not-reached : (t : Option ℕ) (b : ℕ) → IfSome t (λ x. b < x) → reached t b ≡ false
not-reached None b h = refl
not-reached (Some t) b h = lt-leb t b h

-- a byte below every lead reaches no weight of leads
pub lead-not-reached : (t : Option ℕ) (b : ℕ) → IfSome t (λ x. 0xC0 ≤ x) → b < 0xC0 → reached t b ≡ false
lead-not-reached None b h l = refl
lead-not-reached (Some t) b h l = lt-leb t b (omega arith)

pub added-most : (w : Weights) (p b : ℕ) → added w p b ≤ 6
unfolding added
added-most w p b =
    omega (
      arith,
      from_bool-most (not (is_trailing_byte b)),
      from_bool-most (reached w.two b),
      from_bool-most (reached w.three b),
      from_bool-most (reached w.four b),
      from_bool-most (reached w.five b),
      from_bool-most (splits w.split p b),
    )

pub ascii_adds : {w : Weights} → LeadWeights w → (p b : ℕ) → b < 0x80 → added w p b ≡ 1
unfolding added
ascii_adds {w} h p b l =
    rw (
      lt-leb 0x80 b l,
      lead-not-reached w.two b h.two (omega arith),
      lead-not-reached w.three b h.three (omega arith),
      lead-not-reached w.four b h.four (omega arith),
      lead-not-reached w.five b h.five (omega arith),
      lt-leb 0xA0 b (omega arith),
    )

module _ (w : Weights) (s : List ℕ) where
  pub units-most : (at n : ℕ) → sum (added_at w s) at n ≤ 6 * n
  units-most at n = sum_most (added_at w s) 6 at n (λ i. added-most w (get_or s (i - 1) 0) (get_or s i 0))

-- what the loop over a block of bytes joins is false only where nothing was wrong
pub record Joined (s : List ℕ) (at n : ℕ) (joined : Bool) : Type 0 where
  pub clean : joined ≡ false → Validated s at n

module _ {s : List ℕ} {at : ℕ} where
  pub joined-none : {b : Bool} → Joined s at 0 b
  joined-none = record { clean = λ e. record { all = each_none } }

  pub joined_more : {n : ℕ} {b x : Bool} → Joined s at n b → x ≡ ill_formed_at s (at + n) → Joined s at (n + 1) (b || x)
  joined_more {n} {b} {x} j e =
      record { clean = λ h. record { all = each_more (j.clean (neither_left b x h)).all (sym e ∙ neither_right b x h) } }

module _ {w : Weights} {s : List ℕ} {at : ℕ} where
  pub blocks_none : at ≤ length s → Blocks w s at 0 0
  blocks_none h = record { inside = omega arith; valid = record { all = each_none }; counted = sym (sum_zero (added_at w s) at) }

  pub blocks_more :
      {n u x : ℕ} → Blocks w s at n u → at + n + 64 ≤ length s → Validated s (at + n) 64 → x ≡ sum (added_at w s) (at + n) 64 → Blocks w s at (n + 64) (u + x)
  blocks_more {n} {u} {x} b h v e =
      record {
        inside = omega arith;
        valid = record { all = each_join b.valid.all v.all };
        counted = omega (arith, b.counted, e, sum_join (added_at w s) at n 64);
      }

  -- the bytes of blocks, cut where the last character begins
  pub whole_cut :
      {n u k x : ℕ} → Blocks w s at n u → 3 ≤ at → is_trailing_byte (get_or s at 0) ≡ false → k < n → is_trailing_byte (get_or s (at + k) 0) ≡ false
      → x ≡ sum (added_at w s) (at + k) (n - k) → (x ≤ u) × Whole w s at k (u - x)
  whole_cut {n} {u} {k} {x} b h f l g e =
      let q : k + (n - k) ≡ n = omega arith in
      let z : sum (added_at w s) at n ≡ sum (added_at w s) at k + sum (added_at w s) (at + k) (n - k) = rw q at (sum_join (added_at w s) at k (n - k)) in (
        omega (arith, b.counted, z, e),
        record {
          some =
              λ m.
              record {
                behind = h;
                inside = omega (arith, b.inside);
                first = f;
                last = g;
                valid = record { all = record { each = λ i j. b.valid.all.each i (omega arith) } };
              };
          counted = omega (arith, b.counted, z, e);
        },
      )

-- the loop that adds up what is at most m at each of n places from `at` on
pub record Adding (a : ℕ → ℕ) (m at n u : ℕ) : Type 0 where
  pub counted : u ≡ sum a at n
  pub most : u ≤ m * n

module _ {a : ℕ → ℕ} {m at : ℕ} where
  pub adding_none : Adding a m at 0 0
  adding_none = record { counted = sym (sum_zero a at); most = omega arith }

  pub adding_more : {n u x : ℕ} → Adding a m at n u → x ≡ a (at + n) → x ≤ m → Adding a m at (n + 1) (u + x)
  adding_more {n} {u} {x} g e l =
      let d : m * (n + 1) ≡ m * n + m = omega arith in
      record { counted = omega (arith, g.counted, e, sum_more a at n); most = omega (arith, g.most, d) }

-- what n bytes add, part by part
pub added-parts :
    (w : Weights) (s : List ℕ) (at n : ℕ)
    → sum (added_at w s) at n
    ≡ sum (lead_at s) at n + sum (reached_at w.two s) at n + sum (reached_at w.three s) at n + sum (reached_at w.four s) at n
    + sum (reached_at w.five s) at n
    + sum (split_at w.split s) at n
unfolding added
added-parts w s at n =
    let L = lead_at s in
    let A = reached_at w.two s in
    let B = reached_at w.three s in
    let C = reached_at w.four s in
    let D = reached_at w.five s in
    let S = split_at w.split s in
    sum_plus (λ i. L i + A i + B i + C i + D i) S at n
    ∙ ap (λ (x : ℕ). x + sum S at n)
    (sum_plus (λ i. L i + A i + B i + C i) D at n
    ∙ ap (λ (x : ℕ). x + sum D at n)
    (sum_plus (λ i. L i + A i + B i) C at n
    ∙ ap (λ (x : ℕ). x + sum C at n) (sum_plus (λ i. L i + A i) B at n ∙ ap (λ (x : ℕ). x + sum B at n) (sum_plus L A at n))))

-- no weight
pub none-reached : (s : List ℕ) (at n : ℕ) → sum (reached_at None s) at n ≡ 0
none-reached s at n = sum_none (reached_at None s) at n (λ i l. refl)

pub none_split : (s : List ℕ) (at n : ℕ) → sum (split_at None s) at n ≡ 0
none_split s at n = sum_none (split_at None s) at n (λ i l. no (leb 0xA0 (get_or s (at + i) 0) && ltb (get_or s (at + i) 0) 0xC0))
  where
    no : (x : Bool) → from_bool (x && false) ≡ 0
    no true = refl
    no false = refl

-- the loop that puts a stretch into an array of zeros
pub padded_none : (s : List ℕ) (at : ℕ) → Padded s at 0 (replicate {A = ℕ} 80 0)
padded_none s at = record { long = length-replicate {A = ℕ} 80 0; held = λ k h. absurd (omega arith); zeros = λ k h. zero-at k (dec_lt k 80) }
  where
    zero-at : (k : ℕ) → Dec (k < 80) → get_or (replicate {A = ℕ} 80 0) k 0 ≡ 0
    zero-at k (yes l) = get_or-replicate 80 k 0 0 l
    zero-at k (no l) = get_or-eq_default (replicate {A = ℕ} 80 0) 0 {n = k} (let q : length (replicate {A = ℕ} 80 0) ≡ 80 = length-replicate {A = ℕ} 80 0 in omega arith)

-- a copy between the first three cells and the rest
module _ (xs ys zs : List ℕ) (i j : ℕ) (first : length xs ≡ i) (copied : length ys ≡ j) where
  in_copy : (k : ℕ) → k < j → get_or (xs ++ (ys ++ zs)) (i + k) 0 ≡ get_or ys k 0
  in_copy k h = search (arith, common_steps)

  behind_copy : (k : ℕ) → get_or (xs ++ (ys ++ zs)) (i + (j + k)) 0 ≡ get_or zs k 0
  behind_copy k = rw (← first, ← copied) (get_or-append-add xs (ys ++ zs) (length ys + k) 0 ∙ get_or-append-add ys zs k 0)

pub padded_put :
    {s b : List ℕ} {at : ℕ} (n : ℕ) → Padded s at 0 b → n < 64 → at + n ≤ length s
    → Padded s at n (put_mid 3 (3 + n - 3) b (take (at + n - at) (drop at s)))
padded_put {s} {b} {at} n p h l =
    let first : length (take 3 b) ≡ 3 = search (arith, common_steps, p.long) in
    let copied : length (take (at + n - at) (drop at s)) ≡ n = search (arith, common_steps) in
    let rest : (k : ℕ) → get_or (put_mid 3 (3 + n - 3) b (take (at + n - at) (drop at s))) (3 + (n + k)) 0 ≡ 0 =
    λ k. behind_copy (take 3 b) (take (at + n - at) (drop at s)) (post_of 3 (3 + n - 3) b) 3 n first copied k ∙ search (arith, common_steps, p.zeros (3 + n + k)) in
    record {
      long = grind (arith, common_steps, p.long);
      held = λ k i. in_copy (take 3 b) (take (at + n - at) (drop at s)) (post_of 3 (3 + n - 3) b) 3 n first copied k i ∙ unit_at s at n k (omega (arith, copied));
      zeros = λ k i. let e : 3 + (n + (k - (3 + n))) ≡ k = omega arith in rw e at (rest (k - (3 + n)));
    }

module _ {s b : List ℕ} {at j : ℕ} (x : Padded s at j b) where
  -- each of the zeros behind a padded stretch adds one unit
  pub zeros-add : {w : Weights} → LeadWeights w → (n : ℕ) → sum (added_at w b) (3 + j) n ≡ n
  zeros-add {w} h n =
      sum_along (added_at w b) (λ i. 1) (3 + j) (3 + j) n
      (λ i l. let z : get_or b (3 + j + i) 0 ≡ 0 = x.zeros (3 + j + i) (omega arith) in rw z (ascii_adds h (get_or b (3 + j + i - 1) 0) 0 (omega arith)))
      ∙ sum_ones (3 + j) n
