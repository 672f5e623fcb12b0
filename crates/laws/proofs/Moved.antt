-- Characters of one text, in another text that has the same units at some offset: so a stretch of a text may be copied and read in the copy.
use Prim.Native.Nat.{ℕ, ◌+◌, ◌-◌, ◌≤◌, ◌<◌}
use mathlib.Core.Path.{◌≡◌, refl, sym, ap, ◌∙◌}
use mathlib.Core.List.{List, ◌++◌}
use native.Mathlib.Omega.{arith}
use native.Mathlib.Nat.{add-zero}
use lib.ListN.{length, get_or, take, drop, length-drop, take-append-drop}
use lib.Seq.{ext_get_or, get_or-take, get_or-drop, length-take-le}
use Rattle.types.specs.declared.Item.{Item}
use Rattle.types.specs.declared.Item.TheVariants.{Character, Mark}
use Rattle.forms.specs.Form.{sequence, size, Form, asked, taken, first_of, Content, character, mark, content, span, span_of, with_span, item_of}
use Rattle.laws.proofs.Sequences.{taken-all, taken-trailing, taken_full}
use Rattle.laws.proofs.Items.{sequence_at}
use Rattle.laws.proofs.Characters.{content_reads}
use Rattle.laws.proofs.Progress.{CharacterAt, character-onward}
use Rattle.laws.proofs.Runs.{Counted, sum, Next, between}
use Rattle.laws.proofs.Values.{sum_along}

-- as many units, equal one by one
same_part : (a b : List ℕ) (k : ℕ) → k ≤ length a → k ≤ length b → ((i : ℕ) → i < k → get_or a i 0 ≡ get_or b i 0) → take k a ≡ take k b
same_part a b k h l f =
    let x = length-take-le k a h in
    ext_get_or 0 (take k a) (take k b) (x ∙ sym (length-take-le k b l))
    (λ i j. let m : i < k = omega arith in get_or-take k a i 0 m ∙ f i m ∙ sym (get_or-take k b i 0 m))

module _ (F : Form) (s t : List ℕ) (p q v n : ℕ) (c : CharacterAt F s p v (span p n)) (inside : q + n ≤ length t) (same : (i : ℕ) → i < n → get_or t (q + i) 0 ≡ get_or s (p + i) 0) where
  abbrev u : ℕ
  u = get_or s p 0

  abbrev us : List ℕ
  us = drop (p + 1) s

  abbrev ts : List ℕ
  ts = drop (q + 1) t

  -- a character is read by its own units alone
  pub character_moved : CharacterAt F t q v (span q n)
  character_moved = go (content F (sequence_at F s p)) refl
    where
      go : (x : Content) → content F (sequence_at F s p) ≡ x → CharacterAt F t q v (span q n)
      go (mark f) e =
          let d : Character v (span p n) ≡ Mark f (span p (size (sequence_at F s p))) = c.is ∙ ap (λ (x : Content). with_span x (span p (size (sequence_at F s p)))) e in
          absurd (let z : ◌≡◌ {A = ℕ} 0 1 = cc in omega arith)
      go (character w) e =
          let z = sequence_at F s p in
          let is : Character v (span p n) ≡ Character w (span p (size z)) = c.is ∙ ap (λ (x : Content). with_span x (span p (size z))) e in
          let sized : n ≡ size z = ap (λ (x : Item). (span_of x).length) is in
          let worth : v ≡ w = cc in
          let k = length z.rest in
          let r = content_reads F z w (taken-trailing F (asked (F.role u)) us) e in
          let asks : asked (F.role u) ≡ k = ap asked r.full.leads in
          let rest : z.rest ≡ taken F k us = ap (λ (x : ℕ). taken F x us) asks in
          let whole : z.rest ≡ take k us = rest ∙ taken_full F k us (sym (ap length rest)) in
          let on = character-onward c in
          let first : get_or t q 0 ≡ u = rw (add-zero q, add-zero p) at (same 0 (omega (arith, on))) in
          let part : take k ts ≡ take k us =
          same_part ts us k (omega (arith, length-drop (q + 1) t, sized)) (omega (arith, length-drop (p + 1) s, on, sized))
          (λ i h.
          let a : q + 1 + i ≡ q + (i + 1) = omega arith in
          let b : p + 1 + i ≡ p + (i + 1) = omega arith in
          get_or-drop (q + 1) t i 0 ∙ ap (λ (x : ℕ). get_or t x 0) a ∙ same (i + 1) (omega (arith, sized)) ∙ sym (ap (λ (x : ℕ). get_or s x 0) b) ∙ sym (get_or-drop (p + 1) s i 0)) in
          let split : ts ≡ z.rest ++ drop k ts = sym (take-append-drop k ts) ∙ ap (λ (x : List ℕ). x ++ drop k ts) (part ∙ sym whole) in
          let takes : taken F k ts ≡ z.rest = ap (taken F k) split ∙ taken-all F z.rest (drop k ts) r.full.trail in
          let here : sequence_at F t q ≡ z =
          ap (λ (x : ℕ). first_of F x ts) first ∙ ap (λ (x : ℕ). sequence u (taken F x ts)) asks ∙ ap (sequence u) takes in
          record {
            inside = omega (arith, on);
            is =
                ap (λ (x : ℕ). Character x (span q n)) worth
                ∙ ap (λ (x : ℕ). Character w (span q x)) sized
                ∙ sym (ap (λ (x : Content). with_span x (span q (size z))) e)
                ∙ ap (item_of F q) (sym here);
          }

-- the offset in the first text of an offset in the second
abbrev there : ℕ → ℕ → ℕ → ℕ
there from to j = from + (j - to)

module _
    {F G : Form}
    {s t : List ℕ}
    (from to n : ℕ)
    (a : ℕ → ℕ)
    (Border : ℕ → Type 0)
    (inside : to + n ≤ length t)
    (same : (i : ℕ) → i < n → get_or t (to + i) 0 ≡ get_or s (from + i) 0) where
  next_moved : (i : ℕ) → Next F G s (from + n) a Border (from + i) → Next F G t (to + n) (λ j. a (there from to j)) (λ j. Border (there from to j)) (to + i)
  next_moved i x =
      let e : there from to (to + i + x.long) ≡ from + i + x.long = omega arith in
      record {
        value = x.value;
        long = x.long;
        character =
            character_moved F s t (from + i) (to + i) x.value x.long x.character (omega (arith, x.within))
            (λ j h.
            let b : to + i + j ≡ to + (i + j) = omega arith in
            let d : from + i + j ≡ from + (i + j) = omega arith in
            ap (λ (y : ℕ). get_or t y 0) b ∙ same (i + j) (omega (arith, x.within)) ∙ sym (ap (λ (y : ℕ). get_or s y 0) d));
        held = x.held;
        within = omega (arith, x.within);
        counted = sum_along (λ j. a (there from to j)) a (to + i) (from + i) x.long (λ j h. let y : there from to (to + i + j) ≡ from + i + j = omega arith in ap a y) ∙ x.counted;
        few = x.few;
        border = rw e x.border;
      }

  -- the characters of a stretch, counted in its copy
  pub counted_moved :
      ((p : ℕ) → from ≤ p → p < from + n → Border p → Next F G s (from + n) a Border p) → Border from → Counted F G t to n (sum a from n)
  counted_moved next b =
      let w : there from to to ≡ from = omega arith in
      let k : to + n - to ≡ n = omega arith in
      let r =
      between (λ j. Border (there from to j)) (λ j. a (there from to j)) to (to + n)
      (λ p h l x.
      let i : to + (p - to) ≡ p = omega arith in
      rw i at (next_moved (p - to) (next (there from to p) (omega arith) (omega arith) x)))
      n to (omega arith) (omega arith) (omega arith) inside (rw w b) in
      let m : sum (λ j. a (there from to j)) to n ≡ sum a from n = sum_along (λ j. a (there from to j)) a to from n (λ j h. let y : there from to (to + j) ≡ from + j = omega arith in ap a y) in
      rw m at (rw k at r)
