-- The characters of UTF-16: a unit alone or a pair.
use Prim.Native.Nat.{ℕ, ◌+◌, ◌-◌, ◌*◌, ◌≤◌, ◌<◌}
use mathlib.Core.Path.{◌≡◌, sym, ◌∙◌}
use mathlib.Core.List.{List}
use native.Mathlib.Omega.{arith}
use native.Mathlib.Decide.{dec_lt}
use lib.ListN.{length, get_or}
use Rattle.types.specs.declared.Fault.{Fault}
use Rattle.types.specs.declared.Item.TheVariants.{Character, Mark}
use Rattle.types.specs.declared.Span.{Span}
use Rattle.forms.specs.Form.{span}
use Rattle.forms.specs.Forms.{utf16}
use Rattle.laws.proofs.Progress.{CharacterAt, MarkAt}
use Rattle.laws.proofs.Runs.{Stands}
use Rattle.items.proofs.WholeUnits.{utf16_below, utf16_above, utf16-stray, utf16_cut, utf16_unpaired, utf16_pair}

-- a unit that is no surrogate, and a pair
pub alone : (s : List ℕ) (p : ℕ) → p < length s → get_or s p 0 < 0x10000 → (0xD800 ≤ get_or s p 0 → 0xE000 ≤ get_or s p 0) → CharacterAt utf16 s p (get_or s p 0) (span p 1)
alone s p h l o = go (dec_lt (get_or s p 0) 0xD800)
  where
    go : Dec (get_or s p 0 < 0xD800) → CharacterAt utf16 s p (get_or s p 0) (span p 1)
    go (yes a) = record { inside = h; is = utf16_below s p a }
    go (no a) = record { inside = h; is = utf16_above s p (o (omega arith)) l }

abbrev pub pair_value : ℕ → ℕ → ℕ
pair_value u v = 0x10000 + (u - 0xD800) * 0x400 + (v - 0xDC00)

pub paired_at :
    (s : List ℕ) (p u v : ℕ) → p + 1 < length s → u ≡ get_or s p 0 → v ≡ get_or s (p + 1) 0 → 0xD800 ≤ u → u < 0xDC00 → 0xDC00 ≤ v → v < 0xE000
    → CharacterAt utf16 s p (pair_value u v) (span p 2)
paired_at s p u v h e f a b c d =
    record { inside = omega arith; is = utf16_pair s p (omega (arith, e)) (omega (arith, e)) h u v e f c d }

no_mark : {A : Type 0} {s : List ℕ} {p : ℕ} {f : Fault} {q : Span} → Stands utf16 s p → MarkAt utf16 s p f q → A
no_mark {A} {s} {p} {f} {q} a m =
    let e : Character a.value a.place ≡ Mark f q = a.here.is ∙ sym m.is in
    absurd (let z : ◌≡◌ {A = ℕ} 0 1 = cc in omega arith)

-- where a character stands whose first unit is a surrogate, there is a pair
pub pair_stands :
    (s : List ℕ) (p : ℕ) → Stands utf16 s p → 0xD800 ≤ get_or s p 0 → get_or s p 0 < 0xE000
    → (get_or s p 0 < 0xDC00) × (p + 1 < length s) × (0xDC00 ≤ get_or s (p + 1) 0) × (get_or s (p + 1) 0 < 0xE000)
pair_stands s p a h k = go (dec_lt (get_or s p 0) 0xDC00) (dec_lt (p + 1) (length s)) (dec_lt (get_or s (p + 1) 0) 0xDC00) (dec_lt (get_or s (p + 1) 0) 0xE000)
  where
    go :
        Dec (get_or s p 0 < 0xDC00) → Dec (p + 1 < length s) → Dec (get_or s (p + 1) 0 < 0xDC00) → Dec (get_or s (p + 1) 0 < 0xE000)
        → (get_or s p 0 < 0xDC00) × (p + 1 < length s) × (0xDC00 ≤ get_or s (p + 1) 0) × (get_or s (p + 1) 0 < 0xE000)
    go (no x) y z w = no_mark a (record { inside = a.here.inside; is = utf16-stray s p (omega arith) k })
    go (yes x) (no y) z w = no_mark a (record { inside = a.here.inside; is = utf16_cut s p h x (omega arith) })
    go (yes x) (yes y) (yes z) w = no_mark a (record { inside = a.here.inside; is = utf16_unpaired s p h x y (λ d. omega (arith, d.0)) })
    go (yes x) (yes y) (no z) (no w) = no_mark a (record { inside = a.here.inside; is = utf16_unpaired s p h x y (λ d. omega (arith, d.1)) })
    go (yes x) (yes y) (no z) (yes w) = (x, y, omega arith, w)
