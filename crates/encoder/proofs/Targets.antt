-- What holds of every target of strict conversion: its laws, that it writes at most seven units for a value and one for ASCII, its units counted, and by
-- which fault it refuses a value.
use Prim.Native.Nat.{ℕ, ◌+◌, ◌≤◌, ◌<◌}
use mathlib.Core.Path.{◌≡◌, sym, ap, ◌∙◌}
use mathlib.Core.List.{List}
use native.Mathlib.Omega.{arith}
use lib.ListN.{length}
use Rattle.types.specs.declared.Refusal.{Refusal}
use Rattle.types.specs.declared.Item.TheVariants.{Character}
use Rattle.types.specs.declared.Span.{Span}
use Rattle.forms.specs.Fault.{refusal}
use Rattle.forms.specs.Form.{Form, span, encode}
use Rattle.forms.specs.Forms.{turned_away, strictly}
use Rattle.forms.specs.Conversion.{refusal_at}
use Rattle.laws.proofs.FormLaws.{Laws}
use Rattle.laws.proofs.Carried.{encodable_free}
use Rattle.laws.proofs.Narrowed.{narrowed_laws, strict_same}
use Rattle.laws.proofs.Unheld.{Excludes, fss_utf_excludes, utf_ebcdic_excludes, utf16_excludes, ucs4_excludes, unheld_alike}
use Rattle.laws.proofs.Characters.{encode-longest}
use Rattle.laws.proofs.FourForms.{fss_utf_laws, utf_ebcdic_laws, utf16_laws, ucs4_laws}
use Rattle.laws.proofs.Progress.{CharacterAt, character_encodable}
use Rattle.laws.proofs.Runs.{Counted, counted-one, counted_join}
use Rattle.tables.specs.declared.ByteForm.TheVariants as form
use Rattle.tables.proofs.ByteLayouts.{carries_below, encode-length}
use Rattle.laws.proofs.UnitEncodings.{ucs4_below, below_surrogates}
use Rattle.encoder.specs.Target.{target_form}
use Rattle.encoder.specs.declared.Target.{Target}
use Rattle.encoder.specs.declared.Target.TheVariants.{FssUtf, UtfEbcdic, Utf16, Ucs4}

pub target_laws : (t : Target) → Laws (target_form t)
target_laws FssUtf = fss_utf_laws
target_laws UtfEbcdic = utf_ebcdic_laws
target_laws Utf16 = utf16_laws
target_laws Ucs4 = ucs4_laws

longest_seven : (t : Target) → (target_form t).longest ≤ 7
longest_seven FssUtf = omega arith
longest_seven UtfEbcdic = omega arith
longest_seven Utf16 = omega arith
longest_seven Ucs4 = omega arith

pub target_seven : (t : Target) (v : ℕ) → length (encode (target_form t) v) ≤ 7
target_seven t v = omega (arith, encode-longest (target_form t) (target_laws t) v, longest_seven t)

pub encode_seven : (t : Target) (v : ℕ) → length (encode (strictly (target_form t)) v) ≤ 7
encode_seven t v = omega (arith, encode-longest (strictly (target_form t)) (narrowed_laws turned_away (target_form t) (target_laws t)) v, longest_seven t)

-- an ASCII character has one unit in every form
one_unit : (t : Target) (v : ℕ) → v < 0x80 → 1 ≡ length (encode (target_form t) v)
one_unit FssUtf v h = sym (encode-length form.FssUtf v (carries_below form.FssUtf v (omega arith)) 0 (omega arith) (omega arith) (omega arith))
one_unit UtfEbcdic v h = sym (encode-length form.UtfEbcdic v (carries_below form.UtfEbcdic v (omega arith)) 0 (omega arith) (omega arith) (omega arith))
one_unit Utf16 v h = sym (ap length (below_surrogates v (omega arith)))
one_unit Ucs4 v h = sym (ap length (ucs4_below v (omega arith)))

ascii_one : (t : Target) (v : ℕ) → v < 0x80 → 1 ≡ length (encode (strictly (target_form t)) v)
ascii_one t v h = one_unit t v h ∙ sym (ap length (strict_same (target_form t) v (λ l. omega arith)))

module _ (t : Target) {F : Form} {s : List ℕ} where
  pub counted_ascii : {p v : ℕ} → CharacterAt F s p v (span p 1) → v < 0x80 → Counted F (strictly (target_form t)) s p 1 1
  counted_ascii {p} {v} c h = counted-one c (ascii_one t v h) (λ z. omega (arith, z)) (encode_seven t v)

  -- one character more
  pub counted_more :
      {at k u v n w : ℕ} → Counted F (strictly (target_form t)) s at k u → CharacterAt F s (at + k) v (span (at + k) n) → w ≡ length (encode (strictly (target_form t)) v) → (w ≡ 0 → ⊥)
      → Counted F (strictly (target_form t)) s at (k + n) (u + w)
  counted_more {at} {k} {u} {v} c a e z = counted_join c (counted-one a e z (encode_seven t v))

target_excludes : (t : Target) → Excludes (target_form t)
target_excludes FssUtf = fss_utf_excludes
target_excludes UtfEbcdic = utf_ebcdic_excludes
target_excludes Utf16 = utf16_excludes
target_excludes Ucs4 = ucs4_excludes

-- a character that is not written is refused by the same fault in every target
pub refused_by_lem :
    (t : Target) {F : Form} {s : List ℕ} {p v : ℕ} {q : Span} {r : Refusal} → Laws F → CharacterAt F s p v q → r ≡ refusal_at turned_away (Character v q)
    → r ≡ refusal_at (strictly (target_form t)).excluded (Character v q)
refused_by_lem t {F} {s} {p} {v} {q} laws c e =
    e ∙ ap (λ f. refusal f q.offset) (unheld_alike (target_form t) (target_excludes t) v (encodable_free F laws v (character_encodable laws c)))
