-- A form whose code units are exchanged one for one: it reads as the other form reads the exchanged text, and keeps the laws.
use Prim.Native.Nat.{ℕ, zero, suc}
use mathlib.Core.Path.{◌≡◌, refl, sym, ap, ◌∙◌, subst}
use mathlib.Core.Logic.{◌≢◌}
use mathlib.Core.Bool.{Bool, true, false, cond}
use mathlib.Core.List.{List, [], ◌∷◌, map}
use mathlib.Core.Option.{Option, none, some}
use native.Mathlib.Omega.{arith}
use lib.ListN.{length, length-map}
use Rattle.types.specs.declared.Fault.{Fault}
use Rattle.forms.specs.Form.{Role, lead, trailing, invalid, Sequence, sequence, units, Form, asked, is_trailing, taken, first_of, is_shorter, full_content, content_as, content, item_of, unless, encode}
use Rattle.forms.specs.Layout.{exchanged}
use Rattle.laws.specs.LayoutTable.{Full, AllTrailing}
use Rattle.laws.proofs.Sequences.{same_units}
use Rattle.laws.proofs.FormLaws.{Reads, Laws}

-- a sequence, each unit exchanged
abbrev pub exchanged_sequence : (ℕ → ℕ) → Sequence → Sequence
exchanged_sequence to c = sequence (to c.first) (map to c.rest)

module _ (to from : ℕ → ℕ) (F : Form) where
  abbrev G : Form
  G = exchanged to from F

  map-cond : (b : Bool) (u : ℕ) (t : List ℕ) → map to (cond b (u ∷ t) []) ≡ cond b (to u ∷ map to t) []
  map-cond true u t = refl
  map-cond false u t = refl

  pub map-taken : (k : ℕ) (us : List ℕ) → map to (taken G k us) ≡ taken F k (map to us)
  map-taken zero us = refl
  map-taken (suc k) [] = refl
  map-taken (suc k) (u ∷ us) =
      map-cond (is_trailing (F.role (to u))) u (taken G k us)
      ∙ ap (λ (t : List ℕ). cond (is_trailing (F.role (to u))) (to u ∷ t) []) (map-taken k us)

  pub length_taken : (k : ℕ) (us : List ℕ) → length (taken G k us) ≡ length (taken F k (map to us))
  length_taken k us = sym (length-map (taken G k us) to) ∙ ap length (map-taken k us)

  shorter_map : (e t : List ℕ) → is_shorter (map from e) t ≡ is_shorter e (map to t)
  shorter_map [] t = refl
  shorter_map (u ∷ e) t = rw (length-map e from, length-map t to)

  full_same : (c : Sequence) → full_content G c ≡ full_content F (exchanged_sequence to c)
  full_same c = rw (shorter_map (F.shortest (F.value (exchanged_sequence to c))) c.rest)

  as_same : (o : Role) (c : Sequence) → content_as G o c ≡ content_as F o (exchanged_sequence to c)
  as_same (lead k) c = rw (full_same c, length-map c.rest to)
  as_same trailing c = refl
  as_same invalid c = refl

  pub content-exchanged : (c : Sequence) → content G c ≡ content F (exchanged_sequence to c)
  content-exchanged c = as_same (F.role (to c.first)) c

  pub item-exchanged : (p : ℕ) (c : Sequence) → item_of G p c ≡ item_of F p (exchanged_sequence to c)
  item-exchanged p c = rw (content-exchanged c, length-map c.rest to)

  pub first-exchanged : (u : ℕ) (us : List ℕ) → exchanged_sequence to (first_of G u us) ≡ first_of F (to u) (map to us)
  first-exchanged u us = ap (sequence (to u)) (map-taken (asked (F.role (to u))) us)

  map-unless : (o : Option Fault) (e : List ℕ) → unless o (map from e) ≡ map from (unless o e)
  map-unless none e = refl
  map-unless (some f) e = refl

  pub encode-from : (v : ℕ) → encode G v ≡ map from (encode F v)
  encode-from v = map-unless (F.excluded v) (F.shortest v)

  module _
      (there : (u : ℕ) → F.role (to u) ≢ invalid → from (to u) ≡ u)
      (again : (x : ℕ) → F.role x ≢ invalid → to (from x) ≡ x)
      (laws : Laws F)
    where
      lead-valid : {k : ℕ} {o : Role} → o ≡ lead k → o ≢ invalid
      lead-valid e n = let z : ◌≡◌ {A = ℕ} 0 1 = cc in omega arith

      trailing-valid : {o : Role} → o ≡ trailing → o ≢ invalid
      trailing-valid e n = let z : ◌≡◌ {A = ℕ} 0 1 = cc in omega arith

      trail-to : (t : List ℕ) → AllTrailing G t → AllTrailing F (map to t)
      trail-to [] a = tt
      trail-to (x ∷ xs) a = (a.0, trail-to xs a.1)

      from-to : (t : List ℕ) → AllTrailing G t → map from (map to t) ≡ t
      from-to [] a = refl
      from-to (x ∷ xs) a = rw (there x (trailing-valid a.0), from-to xs a.1)

      to-from : (t : List ℕ) → AllTrailing F t → map to (map from t) ≡ t
      to-from [] a = refl
      to-from (x ∷ xs) a = rw (again x (trailing-valid a.0), to-from xs a.1)

      trail-from : (t : List ℕ) → AllTrailing F t → AllTrailing G (map from t)
      trail-from [] a = tt
      trail-from (x ∷ xs) a = (ap F.role (again x (trailing-valid a.0)) ∙ a.0, trail-from xs a.1)

      pub full_to : (c : Sequence) → Full G c → Full F (exchanged_sequence to c)
      full_to c f = record { leads = rw (length-map c.rest to) f.leads; trail = trail-to c.rest f.trail }

      pub units_again : (c : Sequence) → Full G c → map from (units (exchanged_sequence to c)) ≡ units c
      units_again c f = rw (there c.first (lead-valid f.leads), from-to c.rest f.trail)

      pub reads_to : (c : Sequence) (v : ℕ) → Reads G c v → Reads F (exchanged_sequence to c) v
      reads_to c v r = record { full = full_to c r.full; shows = sym (full_same c) ∙ r.shows }

      to-from-sequence : (c : Sequence) → Full F c → exchanged_sequence to (exchanged_sequence from c) ≡ c
      to-from-sequence c f = same_units _ c (rw (again c.first (lead-valid f.leads), to-from c.rest f.trail))

      reads_from : (c : Sequence) (v : ℕ) → Reads F c v → Reads G (exchanged_sequence from c) v
      reads_from c v r =
          record {
            full =
                record {
                  leads = ap F.role (again c.first (lead-valid r.full.leads)) ∙ rw (length-map c.rest from) r.full.leads;
                  trail = trail-from c.rest r.full.trail;
                };
            shows = full_same (exchanged_sequence from c) ∙ ap (full_content F) (to-from-sequence c r.full) ∙ r.shows;
          }

      legal_of : (v : ℕ) (c : Sequence) (e : List ℕ) → encode F v ≡ e → map from e ≡ units c → Reads G c v
      legal_of v c [] q h = absurd (let z : ◌≡◌ {A = ℕ} 0 1 = cc in omega arith)
      legal_of v c (x ∷ xs) q h =
          subst (λ (y : Sequence). Reads G y v) (same_units (exchanged_sequence from (sequence x xs)) c h)
          (reads_from (sequence x xs) v (laws.legal v (sequence x xs) q))

      only_of : (c : Sequence) (v : ℕ) → Reads G c v → encode G v ≡ units c
      only_of c v r =
          encode-from v
          ∙ ap (map from) (laws.only (exchanged_sequence to c) v (reads_to c v r))
          ∙ units_again c r.full

      map-nil : (e : List ℕ) → map from e ≡ [] → e ≡ []
      map-nil [] h = refl
      map-nil (u ∷ e) h = absurd (let z : ◌≡◌ {A = ℕ} 0 1 = cc in omega arith)

      pub exchanged_laws : Laws G
      exchanged_laws =
          record {
            legal = λ v c e. legal_of v c (encode F v) refl (sym (encode-from v) ∙ e);
            only = only_of;
            small = λ c v r. laws.small (exchanged_sequence to c) v (reads_to c v r);
            carries = λ v h x e. laws.carries v h x (map-nil (F.shortest v) e);
            shared = laws.shared;
            reach = λ u k h. laws.reach (to u) k h;
          }
