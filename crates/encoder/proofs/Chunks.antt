-- A loop over the blocks of a list of values, each of 128, that writes them: what is behind it, and what is left.
use Rattle.std.proofs.Common.{◌≡◌, ℕ, ◌+◌, ◌-◌, ◌%◌, ◌<◌, ◌≤◌, List, ◌++◌, length, take, drop, refl, sym, ap, ◌∙◌, arith, length-append}
use Rattle.std.proofs.lemmas.List.{take_at, take_rest, drop_at, drop-drop, length-drop}
use Rattle.forms.specs.Form.{Form}
use Rattle.laws.proofs.Values.{part, Encodable, Encoded, Room, encoded_none}
use Rattle.encoder.proofs.Parts.{next_encodable, next_room, next_encoded}

-- the first `done` values of s were written, and r is left of the iterator
pub record BlocksWritten (G : Form) (s : List ℕ) (size : ℕ) (r d : List ℕ) (n u : ℕ) (o : List ℕ) : Type 0 where
  pub done : ℕ
  pub sized : size ≡ 128
  pub inside : done ≤ length s
  pub even : done % 128 ≡ 0
  pub left : r ≡ drop done s
  pub encoded : Encoded G s 0 done d n u o

pub blocks_none : {G : Form} {s r d : List ℕ} {size n : ℕ} → size ≡ 128 → r ≡ s → BlocksWritten G s size r d n n d
blocks_none z e = record { done = 0; sized = z; inside = omega arith; even = refl; left = e; encoded = encoded_none }

module _ {G : Form} {s r d o : List ℕ} {size n u : ℕ} (e : Encodable G s 0 (length s)) (a : Room G s 0 (length s) n (length d)) (w : BlocksWritten G s size r d n u o) where
  long : length r ≡ length s - w.done
  long = ap length w.left ∙ length-drop w.done s

  -- the next block
  module _ (x t : List ℕ) (q : r ≡ x ++ t) (l : length x ≡ size) where
    size_x : length x ≡ 128
    size_x = l ∙ w.sized

    fits : w.done + 128 ≤ length s
    fits = omega (arith, long, ap length q, length-append x t, size_x, w.inside)

    is : part s w.done 128 ≡ x
    is = ap (take 128) (sym w.left ∙ q) ∙ take_at x t 128 size_x

    behind : t ≡ drop (w.done + 128) s
    behind = sym (drop_at x t 128 size_x) ∙ ap (drop 128) (sym q ∙ w.left) ∙ drop-drop 128 w.done s

    pub block_asked : Encodable G x 0 (length x) × Room G x 0 (length x) u (length o)
    block_asked = (rw is at (next_encodable s w.done 128 fits e), rw is at (next_room s w.done 128 fits a w.encoded))

    pub blocks_more : {z v : ℕ} {p : List ℕ} → z ≡ size → Encoded G x 0 (length x) o u v p → BlocksWritten G s z t d n v p
    blocks_more {z} {v} {p} i b =
        record {
          done = w.done + 128;
          sized = i ∙ w.sized;
          inside = fits;
          even = omega (arith, w.even);
          left = behind;
          encoded = next_encoded s w.done 128 fits a w.encoded (rw (sym is) at b);
        }

  -- the rest
  module _ (x : List ℕ) (q : x ≡ drop (length s - length s % 128) s) (h : length r < size) where
    place : length s - length s % 128 ≡ w.done
    place = omega (arith, long, h, w.sized, w.even, w.inside)

    fits-rest : w.done + (length s - w.done) ≤ length s
    fits-rest = omega (arith, w.inside)

    is-rest : part s w.done (length s - w.done) ≡ x
    is-rest = take_rest s w.done ∙ sym (rw place at q)

    pub rest_asked : Encodable G x 0 (length x) × Room G x 0 (length x) u (length o)
    rest_asked =
        (rw is-rest at (next_encodable s w.done (length s - w.done) fits-rest e), rw is-rest at (next_room s w.done (length s - w.done) fits-rest a w.encoded))

    pub blocks_all : {v : ℕ} {p : List ℕ} → Encoded G x 0 (length x) o u v p → Encoded G s 0 (length s) d n v p
    blocks_all {v} {p} b =
        let k : w.done + (length s - w.done) ≡ length s = omega (arith, w.inside) in
        rw k at (next_encoded s w.done (length s - w.done) fits-rest a w.encoded (rw (sym is-rest) at b))
