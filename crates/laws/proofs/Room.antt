-- Document 01, "Room": how many units the result of an accepted text has at most.
use Prim.Native.Nat.{ℕ, zero, suc, ◌*◌, ◌≤◌, ◌<◌}
use mathlib.Core.Path.{◌≡◌, refl, ap, ◌∙◌}
use mathlib.Core.Logic.{◌≢◌, ◌⊎◌, inl, inr}
use mathlib.Core.Bool.{Bool, true, false, ◌||◌}
use mathlib.Core.List.{List, [], ◌∷◌, map}
use mathlib.Core.Option.{Option, none, some}
use native.Mathlib.Omega.{arith}
use native.Mathlib.Nat.{mul-add, add-mul}
use lib.Dec.{leb}
use borrow.Author.Tests.{leb-true}
use lib.ListN.{length, length-append, length-map}
use Rattle.types.specs.declared.Fault.{Fault}
use Rattle.forms.specs.Form.{Form, unless, encode, encode_all, AllEncodable}
use Rattle.forms.specs.Layout.{Layout, row_limit, lowest_of, form_of}
use Rattle.forms.specs.Exchange.{i8_of, ebcdic_of}
use Rattle.forms.specs.Forms.{byte_layout, utf16_layout, ucs4_layout, fss_utf, i8, utf_ebcdic, utf16, ucs4, turned_away, strictly}
use Rattle.forms.specs.Conversion.{Outcome, converted, refused, outcome, answer_of}
use Rattle.laws.specs.Room.{Room}
use Rattle.laws.proofs.Table.{all_below, below}
use Rattle.laws.proofs.FormLaws.{Laws}
use Rattle.laws.proofs.LayoutLaws.{Fit, Spelling, spelling, length-shortest}
use Rattle.laws.proofs.Exchanged.{encode-from}
use Rattle.laws.proofs.FourForms.{fss_utf_fits, i8_fits, utf16_fits, ucs4_fits}
use Rattle.laws.proofs.Narrowed.{wide_encodable}
use Rattle.laws.proofs.Characters.{accepted}
use Rattle.laws.proofs.Answers.{within-items, measured_too}
use Rattle.std.specs.Prelude.{Ok}

-- the values that a form writes with so many units lie in that row of its layout
pub record Written (F : Form) (L : Layout) (v : ℕ) : Type 0 where
  pub trailing : ℕ
  pub row : trailing < length L.rows
  pub long : length (encode F v) ≡ suc trailing
  pub from : lowest_of L trailing ≤ v
  pub below : v < row_limit L trailing

abbrev pub Writes : Form → Layout → Type 0
Writes F L = (v : ℕ) → encode F v ≢ [] → Written F L v

unless-some : (o : Option Fault) (e : List ℕ) → unless o e ≢ [] → (unless o e ≡ e) × (e ≢ [])
unless-some none e n = (refl, n)
unless-some (some f) e n = absurd (n refl)

lowest-at : (L : Layout) (fits : Fit L) (v : ℕ) (z : Spelling L fits v) (k : ℕ) → z.at ≡ k → lowest_of L k ≤ v
lowest-at L fits v z zero e = omega arith
lowest-at L fits v z (suc k) e = z.least k (omega arith)

layout_writes : (L : Layout) → Fit L → Writes (form_of L) L
layout_writes L fits v n =
    let u = unless-some (L.excluded v) ((form_of L).shortest v) n in
    go u (spelling L fits v)
  where
    go : (unless (L.excluded v) ((form_of L).shortest v) ≡ (form_of L).shortest v) × ((form_of L).shortest v ≢ []) → ((form_of L).shortest v ≡ []) ⊎ Spelling L fits v → Written (form_of L) L v
    go u (inl e) = absurd (u.1 e)
    go u (inr z) =
        record { trailing = z.at; row = z.inside; long = ap length u.0 ∙ length-shortest L fits v z; from = lowest-at L fits v z z.at refl; below = z.below }

exchanged_writes : Writes i8 (byte_layout 5 7) → Writes utf_ebcdic (byte_layout 5 7)
exchanged_writes w v n =
    let e = encode-from i8_of ebcdic_of i8 v in
    let z = w v (λ q. n (e ∙ ap (map ebcdic_of) q)) in
    record { trailing = z.trailing; row = z.row; long = ap length e ∙ length-map (encode i8 v) ebcdic_of ∙ z.long; from = z.from; below = z.below }

pub fss_utf_writes : Writes fss_utf (byte_layout 6 6)
fss_utf_writes = layout_writes (byte_layout 6 6) fss_utf_fits

pub utf_ebcdic_writes : Writes utf_ebcdic (byte_layout 5 7)
utf_ebcdic_writes = exchanged_writes (layout_writes (byte_layout 5 7) i8_fits)

pub utf16_writes : Writes utf16 utf16_layout
utf16_writes = layout_writes utf16_layout utf16_fits

pub ucs4_writes : Writes ucs4 ucs4_layout
ucs4_writes = layout_writes ucs4_layout ucs4_fits

-- for every two lengths: the bound holds of them, or no value has both
abbrev pub bound_test : ℕ → ℕ → Layout → Layout → ℕ → ℕ → Bool
bound_test a b L M j k = leb (suc k * b) (a * suc j) || (leb (row_limit L j) (lowest_of M k) || leb (row_limit M k) (lowest_of L j))

abbrev pub bound_tests : ℕ → ℕ → Layout → Layout → Bool
bound_tests a b L M = all_below (length L.rows) (λ j. all_below (length M.rows) (bound_test a b L M j))

module _ (F G : Form) (source : Laws F) (L M : Layout) (reads : Writes F L) (writes : Writes G M) (a b : ℕ) (test : bound_tests a b L M ≡ true) where
  or_cases : (x y : Bool) → (x || y) ≡ true → (x ≡ true) ⊎ (y ≡ true)
  or_cases true y e = inl refl
  or_cases false y e = inr e

  one_value : (v : ℕ) → encode F v ≢ [] → encode G v ≢ [] → length (encode G v) * b ≤ a * length (encode F v)
  one_value v f g = go (or_cases _ _ tested)
    where
      x : Written F L v
      x = reads v f

      y : Written G M v
      y = writes v g

      tested : bound_test a b L M x.trailing y.trailing ≡ true
      tested =
          below (length M.rows) (bound_test a b L M x.trailing)
          (below (length L.rows) (λ j. all_below (length M.rows) (bound_test a b L M j)) test x.trailing x.row) y.trailing y.row

      apart : (leb (row_limit L x.trailing) (lowest_of M y.trailing) ≡ true) ⊎ (leb (row_limit M y.trailing) (lowest_of L x.trailing) ≡ true) → ⊥
      apart (inl e) = omega (arith, leb-true (row_limit L x.trailing) (lowest_of M y.trailing) e, x.below, y.from)
      apart (inr e) = omega (arith, leb-true (row_limit M y.trailing) (lowest_of L x.trailing) e, y.below, x.from)

      go :
          (leb (suc y.trailing * b) (a * suc x.trailing) ≡ true) ⊎ ((leb (row_limit L x.trailing) (lowest_of M y.trailing) || leb (row_limit M y.trailing) (lowest_of L x.trailing)) ≡ true)
          → length (encode G v) * b ≤ a * length (encode F v)
      go (inl e) = rw (x.long, y.long) (leb-true _ _ e)
      go (inr e) = absurd (apart (or_cases _ _ e))

  all-values : (vs : List ℕ) → AllEncodable F vs → AllEncodable (strictly G) vs → length (encode_all G vs) * b ≤ a * length (encode_all F vs)
  all-values [] f g = omega arith
  all-values (v ∷ vs) f g =
      rw (
        length-append (encode G v) (encode_all G vs),
        length-append (encode F v) (encode_all F vs),
        add-mul (length (encode G v)) (length (encode_all G vs)) b,
        mul-add a (length (encode F v)) (length (encode_all F vs)),
      )
      (omega (arith, one_value v f.0 (wide_encodable turned_away G v g.0), all-values vs f.1 g.1))

  bounded : (s es : List ℕ) → outcome F G s ≡ converted es → length es * b ≤ a * length s
  bounded s es e =
      let v = accepted F source G s es (within-items F G s es e) in
      same s es v.values v.source v.result (all-values v.values v.from v.to)
    where
      same : (s es vs : List ℕ) → s ≡ encode_all F vs → es ≡ encode_all G vs → length (encode_all G vs) * b ≤ a * length (encode_all F vs) → length es * b ≤ a * length s
      same s es vs p q h = rw (p, q) h

  module _ (most : ℕ → ℕ) (is : (m n : ℕ) → m * b ≤ a * n → m ≤ most n) where
    units_of : (s : List ℕ) (n : ℕ) (o : Outcome) → outcome F G s ≡ o → answer_of o ≡ Ok n → n ≤ most (length s)
    units_of s n (converted es) e h = let q : n ≡ length es = cc in rw q (is (length es) (length s) (bounded s es e))
    units_of s n (refused r) e h = absurd (let z : ◌≡◌ {A = ℕ} 0 1 = cc in omega arith)

    pub room : Room F G most
    room =
        record {
          measured = λ s n h. units_of s n (outcome F G s) refl h;
          written = λ s d n o c. units_of s n (outcome F G s) refl (measured_too F G s d n o c);
        }
