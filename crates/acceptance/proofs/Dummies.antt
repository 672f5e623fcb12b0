-- The dummies are shut out.
use Prim.Native.Nat.{ℕ, suc, ◌+◌, ◌≤◌, ◌<◌}
use mathlib.Core.Path.{◌≡◌, refl, sym, ap, ◌∙◌}
use mathlib.Core.Logic.{◌≢◌}
use mathlib.Core.List.{List, [], ◌∷◌, ◌++◌, append-nil}
use native.Mathlib.Omega.{arith}
use lib.ListN.{length, take, drop}
use Rattle.forms.specs.Form.{Form, items, encode, encode_all, OccursAt}
use Rattle.laws.specs.TwelvePairs.{Pair}
use Rattle.laws.proofs.Characters.{characters_from, items-characters}
use Rattle.c_answers.specs.declared.JkConversion.{JkConversion}
use Rattle.c_answers.specs.declared.JkDecoding.{JkDecoding}
use Rattle.c_answers.specs.Promises.{ConvertsInC, DecodesLossyInC}
use Rattle.acceptance.specs.Calls.{EachForm, EachPair}
use Rattle.acceptance.specs.Condition2.{Accepted}
use Rattle.acceptance.specs.Dummies.{NoDummyConverter, NoDummyReader, NotEmpty}
use Rattle.acceptance.proofs.TurnedAway.{not_turned}
use Rattle.acceptance.proofs.Each.{Known, known, each_pair_with}
use Rattle.acceptance.proofs.Condition2.{conversion, shown}
use Rattle.acceptance.proofs.Condition3.{condition_3}

-- 41 and 42 in a form: one unit each, and not the same
record TwoCharacters (F : Form) : Type 0 where
  pub known_so : Known F
  pub a : ℕ
  pub b : ℕ
  pub one : encode F 0x41 ≡ a ∷ []
  pub other : encode F 0x42 ≡ b ∷ []
  pub differ : a < b

two : EachForm TwoCharacters
two =
    record {
      fss_utf_lem = record { known_so = known.fss_utf_lem; a = 0x41; b = 0x42; one = refl; other = refl; differ = omega arith };
      utf_ebcdic_lem = record { known_so = known.utf_ebcdic_lem; a = 0xC1; b = 0xC2; one = refl; other = refl; differ = omega arith };
      utf_16 = record { known_so = known.utf_16; a = 0x41; b = 0x42; one = refl; other = refl; differ = omega arith };
      ucs_4 = record { known_so = known.ucs_4; a = 0x41; b = 0x42; one = refl; other = refl; differ = omega arith };
    }

not_empty : {e : List ℕ} {u : ℕ} → e ≡ u ∷ [] → e ≢ []
not_empty h n = let z : ◌≡◌ {A = ℕ} 0 1 = cc in omega arith

same-unit : {x y : ℕ} → ◌≡◌ {A = List ℕ} (x ∷ []) (y ∷ []) → x ≡ y
same-unit e = cc

module _ (F G : Form) (most : ℕ → ℕ) (pair : Pair F G most) (f : TwoCharacters F) (g : TwoCharacters G) where
  gives :
      (v u w : ℕ) → v < 0x80 → encode F v ≡ u ∷ [] → encode G v ≡ w ∷ [] → (d : List ℕ) (r : JkConversion) (o : List ℕ) → ConvertsInC F G (encode F v) d r o
      → 1 ≤ length d → (r.fault ≡ 0) × (r.units ≡ 1) × (take 1 o ≡ w ∷ [])
  gives v u w s e h d r o c l =
      let k : length (encode_all G (v ∷ [])) ≡ 1 = ap length (append-nil (encode G v) ∙ h) in
      let a : Accepted F G (v ∷ []) (encode F v) =
      record { short = rw e (omega arith); text = sym (append-nil (encode F v)); from = (not_empty e, tt); to = (not_empty h, tt); passed = (not_turned (λ k. omega arith), tt) } in
      let z = (conversion F G most pair f.known_so (encode F v) d r o c).given (v ∷ []) a (omega arith) in
      let n : r.units ≡ 1 = z.units ∙ k in
      (z.no_fault, n, ap (λ (m : ℕ). take m o) (sym n) ∙ z.front ∙ append-nil (encode G v) ∙ h)

  no_dummy : NoDummyConverter F G
  no_dummy =
      record {
        not-all-refused = λ d r o c l. let z = gives 0x41 f.a g.a (omega arith) f.one g.one d r o c l in (z.0, z.1);
        not-one-result =
            λ d q r o p c e l same.
            let y = (gives 0x41 f.a g.a (omega arith) f.one g.one d q o c l).2 in
            let z = (gives 0x42 f.b g.b (omega arith) f.other g.other d r p e l).2 in
            let w : g.a ≡ g.b = same-unit (sym y ∙ ap (take 1) same ∙ z) in
            omega (arith, g.differ);
        not_nothing_written = λ d r o c l n same. n (ap (take 1) (sym same) ∙ (gives 0x41 f.a g.a (omega arith) f.one g.one d r o c l).2 ∙ sym g.one);
      }

pub no_dummy_converter : EachPair NoDummyConverter
no_dummy_converter = each_pair_with TwoCharacters two NoDummyConverter no_dummy

no_dummy_read : (F : Form) → TwoCharacters F → NoDummyReader F
no_dummy_read F f q r e h =
    let s = encode_all F (0x41 ∷ 0x42 ∷ []) in
    let l : length s ≤ 65536 = rw (f.one, f.other) (omega arith) in
    let first : OccursAt F s 0 0x41 = record { has = not_empty f.one; after = encode F 0x42 ++ []; begins = refl } in
    let second : OccursAt F s 1 0x42 = record { has = not_empty f.other; after = []; begins = ap (λ (x : List ℕ). drop 1 (x ++ (encode F 0x42 ++ []))) f.one } in
    let y = shown F f.known_so s 0 q e l 0x41 first in
    let z = shown F f.known_so s 1 r h l 0x42 second in
    (y.1, y.2 ∙ ap length f.one, z.1, z.2 ∙ ap length f.other)

pub no_dummy_reader : EachForm NoDummyReader
no_dummy_reader =
    record {
      fss_utf_lem = no_dummy_read _ two.fss_utf_lem;
      utf_ebcdic_lem = no_dummy_read _ two.utf_ebcdic_lem;
      utf_16 = no_dummy_read _ two.utf_16;
      ucs_4 = no_dummy_read _ two.ucs_4;
    }

module _ (F : Form) (k : Known F) where
  count_characters : (vs : List ℕ) (p : ℕ) → length (characters_from F p vs) ≡ length vs
  count_characters [] p = refl
  count_characters (v ∷ vs) p = ap suc (count_characters vs (p + length (encode F v)))

  pub not_empty_reading : (s d e : List ℕ) (r : JkDecoding) (o p : List ℕ) → DecodesLossyInC F s d e r o p → NotEmpty F s d e r o p
  not_empty_reading s d e r o p c vs q a l x y =
      let n : length (items F s) ≡ length vs = ap (λ (t : List ℕ). length (items F t)) q ∙ ap length (items-characters F k.laws vs a) ∙ count_characters vs 0 in
      let w = condition_3 F s d e r o p c vs [] []
      (record { first = a; last = tt; text = q ∙ sym (append-nil (encode_all F vs)); short = l; room = (omega arith, omega arith) }) in
      let i : r.items ≡ length vs = w.items_are ∙ omega arith in
      (i, w.marks_are, ap (λ (m : ℕ). take m o) (sym i) ∙ w.parts.values ∙ append-nil vs)
