-- What a caller may conclude from an answer.
use Prim.Native.Nat.{ℕ, ◌≤◌, ◌<◌}
use mathlib.Core.Path.{◌≡◌, refl, sym, ap, ◌∙◌}
use mathlib.Core.List.{List}
use native.Mathlib.Omega.{arith}
use native.Mathlib.Decide.{dec_lt}
use borrow.Author.Tests.{le-ltb, lt-ltb}
use lib.ListN.{length, take, drop}
use lib.Seq.{take_at}
use Rattle.types.specs.declared.Refusal.{Refusal}
use Rattle.forms.specs.Fault.{limit}
use Rattle.forms.specs.Form.{Form, items}
use Rattle.forms.specs.Forms.{strictly}
use Rattle.forms.specs.Conversion.{Outcome, converted, refused, convert_items, outcome, in_room, strict, answer_of, cells_of, Converts}
use Rattle.laws.proofs.Progress.{within-limit}
use Rattle.std.specs.Prelude.{Ok, Err}

-- an answer of units is that of a result
pub answer-units : (o : Outcome) (n : ℕ) → answer_of o ≡ Ok n → (es : List ℕ) × (o ≡ converted es) × (n ≡ length es)
answer-units (converted es) n e = (es, refl, cc)
answer-units (refused p) n e = absurd (let z : ◌≡◌ {A = ℕ} 0 1 = cc in omega arith)

pub answer-refused : (o : Outcome) (q : Refusal) → answer_of o ≡ Err q → o ≡ refused q
answer-refused (converted es) q e = absurd (let z : ◌≡◌ {A = ℕ} 0 1 = cc in omega arith)
answer-refused (refused p) q e = let z : p ≡ q = cc in ap refused z

pub in_room_lem : (n : ℕ) (o : Outcome) (es : List ℕ) → in_room n o ≡ converted es → (o ≡ converted es) × (length es ≤ n)
in_room_lem n (refused r) es e = absurd (let z : ◌≡◌ {A = ℕ} 0 1 = cc in omega arith)
in_room_lem n (converted fs) es e = go (dec_lt n (length fs))
  where
    go : Dec (n < length fs) → (converted fs ≡ converted es) × (length es ≤ n)
    go (yes h) = absurd (let q = rw (lt-ltb n (length fs) h) at e in let z : ◌≡◌ {A = ℕ} 0 1 = cc in omega arith)
    go (no h) =
        let l : length fs ≤ n = omega arith in
        let q : converted fs ≡ converted es = rw (le-ltb n (length fs) l) at e in
        let w : fs ≡ es = cc in
        (q, rw w at l)

module _ (F G : Form) (s : List ℕ) where
  pub within-items : (es : List ℕ) → outcome F G s ≡ converted es → convert_items (strictly G) (items F s) ≡ converted es
  within-items es e = let h = within-limit F G s es e in rw (le-ltb limit (length s) h) at e

  -- a converter that answers units was given a text with that result, which stands at the front of its buffer
  pub converts-units : (d : List ℕ) (n : ℕ) (o : List ℕ) → Converts F G s d (Ok n) o → (es : List ℕ) × (outcome F G s ≡ converted es) × (n ≡ length es) × (take n o ≡ es)
  converts-units d n o c =
      let u = answer-units (strict F G s (length d)) n (sym c.answer) in
      let r = in_room_lem (length d) (outcome F G s) u.0 u.1 in
      (u.0, r.0, u.2, ap (take n) (c.cells ∙ ap (λ (x : Outcome). cells_of x d) u.1) ∙ take_at u.0 (drop (length u.0) d) n (sym u.2))

  pub measured_too : (d : List ℕ) (n : ℕ) (o : List ℕ) → Converts F G s d (Ok n) o → answer_of (outcome F G s) ≡ Ok n
  measured_too d n o c = let u = converts-units d n o c in ap answer_of u.1 ∙ ap Ok (sym u.2)
