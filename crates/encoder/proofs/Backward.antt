-- A sequence written from its last unit to its first: what the loop keeps, how a turn changes it, and what it comes to.
use Prim.Native.Nat.{ℕ, zero, suc, ◌+◌, ◌-◌, ◌*◌, ◌/◌, ◌%◌, ◌^◌, ◌≤◌, ◌<◌}
use mathlib.Core.Path.{◌≡◌, sym, ap, ◌∙◌}
use mathlib.Core.Logic.{◌≢◌}
use mathlib.Core.List.{List, [], ◌∷◌, ◌++◌, map, append-nil}
use native.Mathlib.Omega.{arith}
use native.Mathlib.Nat.{pow-suc, pow-zero, mul-one, mul_assoc, mul-le-mul_right, div-lt_iff_lt-mul, div-one}
use native.Mathlib.Numerals.{add-one}
use lib.ListN.{length, take, drop, set, get_or, length-append, length-drop, length-map, take-append-drop}
use lib.Seq.{take-suc, set_at, append_snoc, length-take-le}
use Rattle.forms.specs.Form.{encode}
use Rattle.forms.specs.Layout.{row_at}
use Rattle.forms.specs.Buffer.{with_units}
use Rattle.tables.specs.ByteForms.{byte_form, layout_of, unit_of}
use Rattle.tables.specs.declared.ByteForm.{ByteForm}
use Rattle.tables.proofs.ByteLayouts.{passes, radix_positive, trailing-end, row_bytes, encode-spelled}
use Rattle.laws.proofs.AscendingRows.{row_of}
use Rattle.laws.proofs.Digits.{spelled_from, spelled-last}

overwrite : (d t : List ℕ) (i a : ℕ) → i < length d → set (take (i + 1) d ++ t) i a ≡ take i d ++ a ∷ t
overwrite d t i a h =
    rw (add-one i, take-suc d i 0 h, append_snoc (take i d) (get_or d i 0) t) (set_at (take i d) (get_or d i 0) t a i (length-take-le i d (omega arith)))

-- of the m trailing units of v, those but j are in the buffer as `done`, and w is what the lead and those j spell
pub record Backward (first low R : ℕ) (unit : ℕ → ℕ) (v : ℕ) (d : List ℕ) (at m : ℕ) (o : List ℕ) (j w : ℕ) : Type 0 where
  pub done : List ℕ
  pub whole : spelled_from first low R m v ≡ spelled_from first low R j w ++ done
  pub cells : o ≡ take (at + j + 1) d ++ (map unit done ++ drop (at + m + 1) d)
  pub count : length done + j ≡ m
  pub byte : first ≤ 0xFF
  pub bound : w < (0x100 - first) * R ^ j
  pub inside : at + m + 1 ≤ length d

module _ (first low R : ℕ) (unit : ℕ → ℕ) (v : ℕ) (d : List ℕ) (at m : ℕ) where
  pub backward_begin : first ≤ 0xFF → v < (0x100 - first) * R ^ m → at + m + 1 ≤ length d → Backward first low R unit v d at m d m v
  backward_begin f b i =
      record {
        done = [];
        whole = sym (append-nil (spelled_from first low R m v));
        cells = sym (take-append-drop (at + m + 1) d);
        count = omega arith;
        byte = f;
        bound = b;
        inside = i;
      }

  module _ (o : List ℕ) where
    pub same-cells : (j w : ℕ) → Backward first low R unit v d at m o j w → length o ≡ length d
    same-cells j w b =
        omega (
          arith,
          ap length b.cells ∙ length-append (take (at + j + 1) d) (map unit b.done ++ drop (at + m + 1) d),
          length-append (map unit b.done) (drop (at + m + 1) d),
          length-map b.done unit,
          length-take-le (at + j + 1) d (omega (arith, b.count, b.inside)),
          length-drop (at + m + 1) d,
          b.count,
          b.inside,
        )

    turn : (i w x : ℕ) → 0 < R → Backward first low R unit v d at m o (suc i) w → x ≡ unit (low + w % R) → Backward first low R unit v d at m (set o (at + suc i) x) i (w / R)
    turn i w x p b q =
        let t = map unit b.done ++ drop (at + m + 1) d in
        let e : at + suc i ≡ at + i + 1 = omega arith in
        let g : (0x100 - first) * R ^ suc i ≡ (0x100 - first) * R ^ i * R =
        ap (λ (y : ℕ). (0x100 - first) * y) (pow-suc R i) ∙ sym (mul_assoc (0x100 - first) (R ^ i) R) in
        record {
          done = (low + w % R) ∷ b.done;
          whole = b.whole ∙ ap (λ (y : List ℕ). y ++ b.done) (spelled-last first low R i w p) ∙ append_snoc (spelled_from first low R i (w / R)) (low + w % R) b.done;
          cells = ap (λ (y : List ℕ). set y (at + suc i) x) b.cells ∙ overwrite d t (at + suc i) x (omega (arith, b.count, b.inside)) ∙ rw (e, q);
          count = omega (arith, b.count);
          byte = b.byte;
          bound = (div-lt_iff_lt-mul p).1 (rw g at b.bound);
          inside = b.inside;
        }

    pub backward_more :
        (j w x : ℕ) → 0 < R → 0 < j → Backward first low R unit v d at m o j w → x ≡ unit (low + w % R) → Backward first low R unit v d at m (set o (at + j) x) (j - 1) (w / R)
    backward_more zero w x p h b q = absurd (omega arith)
    backward_more (suc i) w x p h b q = let e : suc i - 1 ≡ i = omega arith in rw e (turn i w x p b q)

    pub lead_byte : (j w : ℕ) → j < 1 → Backward first low R unit v d at m o j w → first + w ≤ 0xFF
    lead_byte zero w h b =
        let e : (0x100 - first) * R ^ 0 ≡ 0x100 - first = rw (pow-zero R) (mul-one (0x100 - first)) in
        omega (arith, rw e at b.bound, b.byte)
    lead_byte (suc i) w h b = absurd (omega arith)

    pub backward_end :
        (j w x : ℕ) (e : List ℕ) → j < 1 → Backward first low R unit v d at m o j w → x ≡ unit (first + w) → e ≡ map unit (spelled_from first low R m v)
        → set o at x ≡ with_units d at e
    backward_end zero w x e h b q s =
        let t = map unit b.done ++ drop (at + m + 1) d in
        let z : at + 0 + 1 ≡ at + 1 = omega arith in
        let c : o ≡ take (at + 1) d ++ t = rw z at b.cells in
        let l : spelled_from first low R 0 w ≡ (first + w) ∷ [] = rw (pow-zero R, div-one w) in
        let g : e ≡ x ∷ map unit b.done = s ∙ ap (map unit) (b.whole ∙ ap (λ (y : List ℕ). y ++ b.done) l) ∙ ap {B = List ℕ} (λ (y : ℕ). y ∷ map unit b.done) (sym q) in
        let n : at + length e ≡ at + m + 1 = omega (arith, ap length g, length-map b.done unit, b.count) in
        ap (λ (y : List ℕ). set y at x) c ∙ overwrite d t at x (omega (arith, b.inside)) ∙ rw (n, g)
    backward_end (suc i) w x e h b q s = absurd (omega arith)

-- the encoding of a value in a byte form, as the loop writes it
pub record Spelled (f : ByteForm) (v m R low : ℕ) : Type 0 where
  pub row : m < length (layout_of f).rows
  pub digit : low + R ≡ 0xC0
  pub positive : 0 < R
  pub byte : (row_at (layout_of f) m).first ≤ 0xFF
  pub bound : v < (0x100 - (row_at (layout_of f) m).first) * R ^ m
  pub same : encode (byte_form f) v ≡ map (unit_of f) (spelled_from (row_at (layout_of f) m).first low R m v)

row_bound : (v a b o P : ℕ) → o ≡ 0 → b ≤ 0xFF → v < o + (b + 1 - a) * P → v < (0x100 - a) * P
row_bound v a b o P z h l =
    let m : (b + 1 - a) * P ≤ (0x100 - a) * P = mul-le-mul_right P (omega arith) in
    omega arith

pub spelled_as : (f : ByteForm) (v m R low : ℕ) → encode (byte_form f) v ≢ [] → length (encode (byte_form f) v) ≡ m + 1 → R ≡ (layout_of f).radix → low ≡ (layout_of f).low → Spelled f v m R low
spelled_as f v m R low s e p q =
    let L = layout_of f in
    let z = encode-spelled f v s m (e ∙ add-one m) in
    let b = row_bytes f m z.0 in
    record {
      row = z.0;
      digit = rw (p, q) (trailing-end f);
      positive = rw p (radix_positive f);
      byte = omega (arith, b);
      bound = rw p (row_bound v (row_at L m).first (row_at L m).last (row_at L m).origin (L.radix ^ m) (row_of L (passes f) m z.0).zeroed b.1 z.1);
      same =
          z.2
          ∙ ap (λ x. map (unit_of f) (spelled_from (row_at L m).first x L.radix m v)) (sym q)
          ∙ ap (λ x. map (unit_of f) (spelled_from (row_at L m).first low x m v)) (sym p);
    }
