-- A part of a list as a list of its own: what is asked and promised of one holds of the other.
use Rattle.std.proofs.Common.{◌≡◌, ℕ, ◌+◌, ◌<◌, ◌≤◌, List, [], ◌∷◌, ◌++◌, length, get_or, refl, sym, ap, ◌∙◌, arith, length-append}
use Rattle.std.proofs.Math.ListN.{get_or-append}
use Rattle.std.proofs.Math.Seq.{get_or-append_seam, take-length}
use Rattle.std.proofs.lemmas.Grind.{common_steps}
use Rattle.forms.specs.Form.{Form}
use Rattle.laws.proofs.Blocks.{AtMost}
use Rattle.laws.proofs.Values.{part, part_length, Encodable, Encoded, Room, encodable_part, encoded_room, encoded_join}

-- a value of a whole list is the one at its place from the beginning
pub from_start : (s : List ℕ) (i : ℕ) → get_or s i 0 ≡ get_or s (0 + i) 0
from_start s i = let z : 0 + i ≡ i = omega arith in rw z refl

module _ (s : List ℕ) (at c : ℕ) (h : at + c ≤ length s) where
  whole : part (part s at c) 0 (length (part s at c)) ≡ part s at c
  whole = take-length (part s at c)

  pub part_value : (j : ℕ) → j < c → get_or (part s at c) (0 + j) 0 ≡ get_or s (at + j) 0
  part_value j b = grind (arith, common_steps)

  below : (j : ℕ) → j < length (part s at c) → j < c
  below j b = omega (arith, part_length s at c h)

  begin : 0 + at ≡ at
  begin = omega arith

  module _ {G : Form} where
    pub part_encodable : Encodable G s at c → Encodable G (part s at c) 0 (length (part s at c))
    part_encodable e =
        record { inside = omega arith; each = λ j b. rw (part_value j (below j b)) (e.each j (below j b)) }

    pub part_room : {n m : ℕ} → Room G s at c n m → Room G (part s at c) 0 (length (part s at c)) n m
    part_room r = record { fits = rw whole r.fits }

    pub part_encoded : {n u : ℕ} {d o : List ℕ} → Encoded G (part s at c) 0 (length (part s at c)) d n u o → Encoded G s at c d n u o
    part_encoded e = record { counted = rw whole at e.counted; cells = rw whole at e.cells }

    -- the part behind those that are written
    pub next_encodable : Encodable G s 0 (length s) → Encodable G (part s at c) 0 (length (part s at c))
    next_encodable e = part_encodable (rw begin at (encodable_part at c e h))

    module _ {n u : ℕ} {d o : List ℕ} (r : Room G s 0 (length s) n (length d)) (w : Encoded G s 0 at d n u o) where
      pub next_room : Room G (part s at c) 0 (length (part s at c)) u (length o)
      next_room = part_room (rw begin at (encoded_room c r w h))

      pub next_encoded : {v : ℕ} {p : List ℕ} → Encoded G (part s at c) 0 (length (part s at c)) o u v p → Encoded G s 0 (at + c) d n v p
      next_encoded e = encoded_join r (omega (arith, h)) w (rw (sym begin) at (part_encoded e))

  pub part_at_most : {m : ℕ} → AtMost (part s at c) 0 (length (part s at c)) m → AtMost s at c m
  part_at_most a = record { each = λ j b. rw (part_value j b) at (a.each j (omega (arith, b, part_length s at c h))) }

-- the last value apart
module _ (s others : List ℕ) (last : ℕ) (e : s ≡ others ++ last ∷ []) where
  pub others_length : length others + 1 ≡ length s
  others_length = sym (length-append others (last ∷ [])) ∙ sym (ap length e)

  pub others_value : (i : ℕ) → i < length others → get_or others i 0 ≡ get_or s (0 + i) 0
  others_value i l = sym (get_or-append others (last ∷ []) 0 i l) ∙ sym (ap (λ (x : List ℕ). get_or x i 0) e) ∙ from_start s i

  pub last_value : last ≡ get_or s (0 + length others) 0
  last_value = sym (get_or-append_seam others last [] 0) ∙ sym (ap (λ (x : List ℕ). get_or x (length others) 0) e) ∙ from_start s (length others)
