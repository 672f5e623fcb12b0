-- There and back: what a text is converted to is converted back to the text, over any two forms that keep the laws.
use Prim.Native.Nat.{ℕ, ◌≤◌}
use mathlib.Core.Path.{◌≡◌, sym, ap, ◌∙◌}
use mathlib.Core.List.{List, [], ◌∷◌}
use native.Mathlib.Omega.{arith}
use borrow.Author.Tests.{le-ltb}
use lib.ListN.{length, take}
use Rattle.forms.specs.Fault.{limit}
use Rattle.forms.specs.Form.{Form, items, AllEncodable}
use Rattle.forms.specs.Forms.{turned_away, strictly}
use Rattle.forms.specs.Conversion.{Outcome, converted, convert_items, in_room, strict, answer_of, cells_of}
use Rattle.laws.specs.RoundTrip.{RoundTrip}
use Rattle.laws.proofs.FormLaws.{Laws}
use Rattle.laws.proofs.Narrowed.{not-narrowed, as_before, wide_encodable}
use Rattle.laws.proofs.Characters.{accepted, characters_accepted}
use Rattle.laws.proofs.Answers.{within-items, converts-units}

-- values that strict conversion writes in one form, and that the other form has: it writes them in that one too
both_ways : (F G : Form) (vs : List ℕ) → AllEncodable F vs → AllEncodable (strictly G) vs → AllEncodable G vs × AllEncodable (strictly F) vs
both_ways F G [] f g = (tt, tt)
both_ways F G (v ∷ vs) f g =
    let r = both_ways F G vs f.1 g.1 in
    ((wide_encodable turned_away G v g.0, r.0), ((λ e. f.0 (sym (as_before turned_away F v (not-narrowed turned_away G v g.0)) ∙ e)), r.1))

pub there_and_back :
    (F G : Form) → Laws F → Laws G → (s es : List ℕ) → convert_items (strictly G) (items F s) ≡ converted es → convert_items (strictly F) (items G es) ≡ converted s
there_and_back F G source target s es h =
    let a = accepted F source G s es h in
    let b = both_ways F G a.values a.from a.to in
    ap (λ (x : List ℕ). convert_items (strictly F) (items G x)) a.result
    ∙ characters_accepted G target F a.values b.0 b.1
    ∙ ap converted (sym a.source)

pub round_trip : (F G : Form) → Laws F → Laws G → RoundTrip F G
round_trip F G source target s d n o c short b r p back room =
    let u = converts-units F G s d n o c in
    let h = there_and_back F G source target s u.0 (within-items F G s u.0 u.1) in
    let e : strict G F (take n o) (length b) ≡ converted s = go (take n o) u.0 u.3 (omega (arith, u.2)) h in
    (back.answer ∙ ap answer_of e, back.cells ∙ ap (λ (x : Outcome). cells_of x b) e)
  where
    go : (t es : List ℕ) → t ≡ es → length es ≤ limit → convert_items (strictly F) (items G es) ≡ converted s → strict G F t (length b) ≡ converted s
    go t es q l h =
        ap (λ (x : List ℕ). strict G F x (length b)) q
        ∙ rw (le-ltb limit (length es) l)
        (ap (in_room (length b)) h ∙ rw (le-ltb (length b) (length s) room))
