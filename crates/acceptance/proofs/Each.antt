-- What holds of every form, or of every pair of forms, by what is known of it, holds of the four forms and of the twelve pairs.
use Prim.Native.Nat.{ℕ, ◌<◌}
use native.Mathlib.Omega.{arith}
use Rattle.forms.specs.Form.{Form}
use Rattle.laws.specs.TwelvePairs.{Pair}
use Rattle.laws.specs.Finder.{Finds}
use Rattle.laws.proofs.FormLaws.{Laws}
use Rattle.laws.proofs.FourForms.{fss_utf_laws, utf_ebcdic_laws, utf16_laws, ucs4_laws}
use Rattle.laws.proofs.Finder.{fss_utf_finds, utf_ebcdic_finds, utf16_finds, ucs4_finds}
use Rattle.laws.proofs.TwelvePairs.{fss_utf-utf_ebcdic, fss_utf-utf16, fss_utf-ucs4, utf_ebcdic-fss_utf, utf_ebcdic-utf16, utf_ebcdic-ucs4, utf16-fss_utf, utf16-utf_ebcdic, utf16-ucs4, ucs4-fss_utf, ucs4-utf_ebcdic, ucs4-utf16}
use Rattle.acceptance.specs.Calls.{EachForm, EachPair}
use Rattle.acceptance.proofs.Marking.{OwnMarks}
use Rattle.acceptance.proofs.FaultNumbers.{fss_utf-marks, utf_ebcdic-marks, utf16-marks, ucs4-marks}

-- what is known of a form
pub record Known (F : Form) : Type 0 where
  pub laws : Laws F
  pub own : OwnMarks F
  pub finds : Finds F
  pub positive : 0 < F.longest

pub known : EachForm Known
known =
    record {
      fss_utf_lem = record { laws = fss_utf_laws; own = fss_utf-marks; finds = fss_utf_finds; positive = omega arith };
      utf_ebcdic_lem = record { laws = utf_ebcdic_laws; own = utf_ebcdic-marks; finds = utf_ebcdic_finds; positive = omega arith };
      utf_16 = record { laws = utf16_laws; own = utf16-marks; finds = utf16_finds; positive = omega arith };
      ucs_4 = record { laws = ucs4_laws; own = ucs4-marks; finds = ucs4_finds; positive = omega arith };
    }

pub each_form : (P : Form → Type 0) → ((F : Form) → Known F → P F) → EachForm P
each_form P f = record { fss_utf_lem = f _ known.fss_utf_lem; utf_ebcdic_lem = f _ known.utf_ebcdic_lem; utf_16 = f _ known.utf_16; ucs_4 = f _ known.ucs_4 }

-- a fact of each form beside
pub each_pair_with :
    (K : Form → Type 0) → EachForm K → (P : Form → Form → Type 0) → ((F G : Form) (most : ℕ → ℕ) → Pair F G most → K F → K G → P F G) → EachPair P
each_pair_with K k P f =
    record {
      fss_utf_to_utf_ebcdic = f _ _ _ fss_utf-utf_ebcdic k.fss_utf_lem k.utf_ebcdic_lem;
      fss_utf_to_utf_16 = f _ _ _ fss_utf-utf16 k.fss_utf_lem k.utf_16;
      fss_utf_to_ucs_4 = f _ _ _ fss_utf-ucs4 k.fss_utf_lem k.ucs_4;
      utf_ebcdic_to_fss_utf = f _ _ _ utf_ebcdic-fss_utf k.utf_ebcdic_lem k.fss_utf_lem;
      utf_ebcdic_to_utf_16 = f _ _ _ utf_ebcdic-utf16 k.utf_ebcdic_lem k.utf_16;
      utf_ebcdic_to_ucs_4 = f _ _ _ utf_ebcdic-ucs4 k.utf_ebcdic_lem k.ucs_4;
      utf_16_to_fss_utf = f _ _ _ utf16-fss_utf k.utf_16 k.fss_utf_lem;
      utf_16_to_utf_ebcdic = f _ _ _ utf16-utf_ebcdic k.utf_16 k.utf_ebcdic_lem;
      utf_16_to_ucs_4 = f _ _ _ utf16-ucs4 k.utf_16 k.ucs_4;
      ucs_4_to_fss_utf = f _ _ _ ucs4-fss_utf k.ucs_4 k.fss_utf_lem;
      ucs_4_to_utf_ebcdic = f _ _ _ ucs4-utf_ebcdic k.ucs_4 k.utf_ebcdic_lem;
      ucs_4_to_utf_16 = f _ _ _ ucs4-utf16 k.ucs_4 k.utf_16;
    }

pub each_pair : (P : Form → Form → Type 0) → ((F G : Form) (most : ℕ → ℕ) → Pair F G most → Known F → P F G) → EachPair P
each_pair P f = each_pair_with Known known P (λ F G most p k l. f F G most p k)
