-- A character is read where its legal encoding stands, and there alone.
use Prim.Native.Nat.{ℕ}
use mathlib.Core.Path.{◌≡◌, refl, sym, ap, ◌∙◌}
use mathlib.Core.Logic.{◌≢◌}
use mathlib.Core.List.{List, [], ◌∷◌, ◌++◌}
use lib.ListN.{length, drop}
use Rattle.forms.specs.Form.{sequence, units, Form, asked, first_of, character, content, encode}
use Rattle.laws.proofs.FormLaws.{Laws}
use Rattle.laws.proofs.Sequences.{taken-trailing, taken_split, taken-all}
use Rattle.laws.proofs.Characters.{content_reads, reads_content}

module _ (F : Form) (laws : Laws F) (u : ℕ) (us : List ℕ) (v : ℕ) where
  pub encoding_is : content F (first_of F u us) ≡ character v → encode F v ≡ units (first_of F u us)
  encoding_is e = laws.only (first_of F u us) v (content_reads F (first_of F u us) v (taken-trailing F (asked (F.role u)) us) e)

  pub stands : content F (first_of F u us) ≡ character v → u ∷ us ≡ encode F v ++ drop (length (first_of F u us).rest) us
  stands e =
      ap {B = List ℕ} (λ (y : List ℕ). u ∷ y) (sym (taken_split F (asked (F.role u)) us))
      ∙ ap (λ (y : List ℕ). y ++ drop (length (first_of F u us).rest) us) (sym (encoding_is e))

  pub reads_there : (after : List ℕ) → encode F v ≢ [] → u ∷ us ≡ encode F v ++ after → content F (first_of F u us) ≡ character v
  reads_there after n h = go (encode F v) refl h
    where
      go : (e : List ℕ) → encode F v ≡ e → u ∷ us ≡ e ++ after → content F (first_of F u us) ≡ character v
      go [] q h = absurd (n q)
      go (x ∷ t) q h =
          let a : u ≡ x = cc in
          let b : us ≡ t ++ after = cc in
          let l = laws.legal v (sequence x t) q in
          let w : first_of F x (t ++ after) ≡ sequence x t = ap (λ (y : List ℕ). sequence x y) (rw l.full.leads (taken-all F t after l.full.trail)) in
          ap (λ (y : ℕ). content F (first_of F y us)) a
          ∙ ap (λ (y : List ℕ). content F (first_of F x y)) b
          ∙ ap (content F) w
          ∙ reads_content F (sequence x t) v l
