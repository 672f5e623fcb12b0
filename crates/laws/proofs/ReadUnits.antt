-- The character at an offset, by its units: a lead of a row, and the digits behind it. Read with its faults, or known to be a character.
use Prim.Native.Nat.{ℕ, suc, ◌+◌, ◌*◌, ◌-◌, ◌^◌, ◌≤◌, ◌<◌}
use mathlib.Core.Path.{◌≡◌, refl, sym, ap, ◌∙◌, subst}
use mathlib.Core.Bool.{true}
use mathlib.Core.List.{List, ◌∷◌, ◌++◌}
use mathlib.Core.Option.{none}
use native.Mathlib.Omega.{arith}
use lib.ListN.{length, get_or, take, drop, length-drop, length-take}
use lib.Seq.{drop-cons}
use Rattle.types.specs.declared.Span.{Span}
use Rattle.types.specs.declared.Item.TheVariants.{Character, Mark}
use Rattle.forms.specs.Form.{Role, lead, sequence, size, Form, asked, taken, Content, character, mark, content, span, with_span}
use Rattle.forms.specs.Layout.{Layout, role_of, row_at, number, value_of, lowest_of, form_of}
use Rattle.laws.proofs.Sequences.{taken-all, taken-trailing, taken_full}
use Rattle.laws.proofs.Digits.{AllDigits}
use Rattle.laws.proofs.Rows.{lead_injective}
use Rattle.laws.proofs.LayoutLaws.{Fit, fine, all-trailing, all_digits}
use Rattle.laws.proofs.AscendingRows.{ascending, ascending_fits, limits_rise, leads_of_row, row_of}
use Rattle.laws.proofs.Reading.{reads_character}
use Rattle.laws.proofs.Items.{sequence_at}
use Rattle.laws.proofs.Characters.{content_reads}
use Rattle.laws.proofs.Progress.{CharacterAt}

-- the units behind an offset, one after the other
module _ (s : List ℕ) (p : ℕ) where
  pub behind-one : p + 1 < length s → drop (p + 1) s ≡ get_or s (p + 1) 0 ∷ drop (p + 2) s
  behind-one h = let e : suc (p + 1) ≡ p + 2 = omega arith in rw e at (drop-cons s (p + 1) 0 h)

  pub behind-two : p + 2 < length s → drop (p + 1) s ≡ get_or s (p + 1) 0 ∷ get_or s (p + 2) 0 ∷ drop (p + 3) s
  behind-two h =
      let e : suc (p + 2) ≡ p + 3 = omega arith in
      behind-one (omega arith) ∙ ap {B = List ℕ} (λ (x : List ℕ). get_or s (p + 1) 0 ∷ x) (rw e at (drop-cons s (p + 2) 0 h))

  pub behind-three : p + 3 < length s → drop (p + 1) s ≡ get_or s (p + 1) 0 ∷ get_or s (p + 2) 0 ∷ get_or s (p + 3) 0 ∷ drop (p + 4) s
  behind-three h =
      let e : suc (p + 3) ≡ p + 4 = omega arith in
      behind-two (omega arith) ∙ ap {B = List ℕ} (λ (x : List ℕ). get_or s (p + 1) 0 ∷ get_or s (p + 2) 0 ∷ x) (rw e at (drop-cons s (p + 3) 0 h))

module _ (L : Layout) (passes : ascending L ≡ true) (s : List ℕ) (p : ℕ) where
  abbrev F : Form
  F = form_of L

  fits : Fit L
  fits = ascending_fits L passes

  abbrev u : ℕ
  u = get_or s p 0

  abbrev us : List ℕ
  us = drop (p + 1) s

  -- a lead of k trailing units with just these digits behind it, of a value that needs so many
  pub read-units :
      (t r : List ℕ) (v : ℕ) → p < length s → drop (p + 1) s ≡ t ++ r → AllDigits L.low L.radix t → length t < length L.rows
      → (row_at L (length t)).first ≤ get_or s p 0 → get_or s p 0 ≤ (row_at L (length t)).last
      → v ≡ (get_or s p 0 - (row_at L (length t)).first) * L.radix ^ length t + number L.low L.radix t
      → lowest_of L (length t) ≤ v → L.excluded v ≡ none → CharacterAt (form_of L) s p v (span p (length t + 1))
  read-units t r v h e a k from to q l free =
      let leads = leads_of_row L passes (length t) u k from to in
      let trail = all-trailing L fits t a in
      let x : taken F (length t) us ≡ t = ap (taken F (length t)) e ∙ taken-all F t r trail in
      let o = (row_of L passes (length t) k).zeroed in
      let w : v ≡ value_of L (sequence u t) = omega arith in
      record {
        inside = h;
        is =
            reads_character L fits (limits_rise L passes) p u us (length t) v leads (ap length x) (w ∙ ap (λ (y : List ℕ). value_of L (sequence u y)) (sym x)) l
            free;
      }

  -- what stands at p, where it is known to be a character that begins with a lead of k trailing units
  pub record Known (k : ℕ) : Type 0 where
    pub value : ℕ
    pub here : CharacterAt (form_of L) s p value (span p (k + 1))
    pub inside : p + k < length s
    pub digits : AllDigits L.low L.radix (take k (drop (p + 1) s))
    pub is : value ≡ (get_or s p 0 - (row_at L k).first) * L.radix ^ k + number L.low L.radix (take k (drop (p + 1) s))

  pub known :
      {w : ℕ} {q : Span} → CharacterAt (form_of L) s p w q → (k : ℕ) → k < length L.rows → (row_at L k).first ≤ get_or s p 0 → get_or s p 0 ≤ (row_at L k).last
      → Known k
  known {w} {q} c k i from to = go (content F (sequence_at F s p)) refl
    where
      leads : role_of L u ≡ lead k
      leads = leads_of_row L passes k u i from to

      rest_is : (sequence_at F s p).rest ≡ taken F k us
      rest_is = ap (λ (o : Role). taken F (asked o) us) leads

      go : (t : Content) → content F (sequence_at F s p) ≡ t → Known k
      go (mark f) e =
          let d : Character w q ≡ Mark f (span p (size (sequence_at F s p))) = c.is ∙ ap (λ (x : Content). with_span x (span p (size (sequence_at F s p)))) e in
          absurd (let z : ◌≡◌ {A = ℕ} 0 1 = cc in omega arith)
      go (character v) e =
          let q = sequence_at F s p in
          let r = content_reads F q v (taken-trailing F (asked (F.role u)) us) e in
          let z : k ≡ length q.rest = lead_injective (sym leads ∙ r.full.leads) in
          let l : length (taken F k us) ≡ k = sym (ap length rest_is) ∙ sym z in
          let x : q.rest ≡ take k us = rest_is ∙ taken_full F k us l in
          let y : length (take k us) ≡ k = sym (ap length x) ∙ sym z in
          let o = (row_of L passes k i).zeroed in
          let w : value_of L q ≡ (row_at L k).origin + ((u - (row_at L k).first) * L.radix ^ k + number L.low L.radix (take k us)) =
          ap (λ (b : List ℕ). value_of L (sequence u b)) x ∙ ap (λ (b : ℕ). (row_at L b).origin + ((u - (row_at L b).first) * L.radix ^ b + number L.low L.radix (take k us))) y in
          let sized : size q ≡ k + 1 = omega (arith, z) in
          record {
            value = v;
            here = record { inside = c.inside; is = sym (ap (λ (b : Content). with_span b (span p (size q))) e ∙ ap (λ (b : ℕ). Character v (span p b)) sized) };
            inside = omega (arith, y, length-take k us, length-drop (p + 1) s);
            digits = subst (λ (b : List ℕ). AllDigits L.low L.radix b) x (all_digits L fits q.rest r.full.trail);
            is = omega (arith, sym (fine L fits q v r.shows).value, w, o);
          }
