-- The first item of a text, by the role of its first unit and the units that it takes.
use Prim.Native.Nat.{ℕ, suc, ◌+◌, ◌≤◌, ◌<◌}
use mathlib.Core.Path.{◌≡◌, sym, ap, ◌∙◌}
use mathlib.Core.List.{List}
use mathlib.Core.Option.{none, some}
use native.Mathlib.Omega.{arith}
use native.Mathlib.Numerals.{add-one}
use lib.Dec.{ltb}
use borrow.Author.Tests.{eq-eqb, ne_eqb, lt-ltb, le-ltb}
use lib.ListN.{length}
use Rattle.types.specs.declared.Fault.{Fault}
use Rattle.types.specs.declared.Fault.TheVariants.{MissingTrailing, StrayTrailing, InvalidUnit, Overlong}
use Rattle.types.specs.declared.Item.TheVariants.{Character, Mark}
use Rattle.forms.specs.Form.{lead, trailing, invalid, Sequence, sequence, Form, taken, first_of, overlong, full_content, span, with_span, item_of}
use Rattle.forms.specs.Layout.{Layout, value_of, row_limit, lowest_of, form_of}
use Rattle.laws.specs.LayoutTable.{Full}
use Rattle.laws.proofs.Sequences.{taken-trailing}
use Rattle.laws.proofs.LayoutLaws.{Fit, overlong-lowest}

module _ (F : Form) (p u : ℕ) (us : List ℕ) where
  pub reads_trailing : F.role u ≡ trailing → Mark StrayTrailing (span p 1) ≡ item_of F p (first_of F u us)
  reads_trailing e = rw e

  pub reads_invalid : F.role u ≡ invalid → Mark InvalidUnit (span p 1) ≡ item_of F p (first_of F u us)
  reads_invalid e = rw e

  pub reads_missing : (k n : ℕ) → F.role u ≡ lead k → n ≡ length (taken F k us) → n < k → Mark MissingTrailing (span p (n + 1)) ≡ item_of F p (first_of F u us)
  reads_missing k n e q h =
      let d : length (taken F k us) ≡ k → ⊥ = λ z. omega arith in
      rw (e, ne_eqb (length (taken F k us)) k d, add-one n, q)

  reads_full : (k : ℕ) → F.role u ≡ lead k → length (taken F k us) ≡ k
      → with_span (full_content F (sequence u (taken F k us))) (span p (k + 1)) ≡ item_of F p (first_of F u us)
  reads_full k e q =
      rw (e, eq-eqb (length (taken F k us)) k q, add-one k)
      (ap (λ (n : ℕ). with_span (full_content F (sequence u (taken F k us))) (span p (suc n))) (sym q))

-- a full sequence of a layout: its value decides, by the lowest value of its length and what the form excludes
module _
    (L : Layout)
    (fits : Fit L)
    (rise : (k : ℕ) → suc k < length L.rows → row_limit L k ≤ row_limit L (suc k))
    (p u : ℕ)
    (us : List ℕ)
    (k v : ℕ)
    (leads : (form_of L).role u ≡ lead k)
    (whole : length (taken (form_of L) k us) ≡ k)
    (is : v ≡ value_of L (sequence u (taken (form_of L) k us)))
  where
    abbrev c : Sequence
    c = sequence u (taken (form_of L) k us)

    pub full : Full (form_of L) (sequence u (taken (form_of L) k us))
    full = record { leads = rw whole leads; trail = taken-trailing (form_of L) k us }

    overlong_is : overlong (form_of L) c ≡ ltb v (lowest_of L k)
    overlong_is = overlong-lowest L fits rise c full ∙ rw (← is) (ap (λ (n : ℕ). ltb v (lowest_of L n)) whole)

    pub reads_overlong : v < lowest_of L k → Mark Overlong (span p (k + 1)) ≡ item_of (form_of L) p (first_of (form_of L) u us)
    reads_overlong h = rw (overlong_is, lt-ltb v (lowest_of L k) h) at (reads_full (form_of L) p u us k leads whole)

    pub reads_character : lowest_of L k ≤ v → L.excluded v ≡ none → Character v (span p (k + 1)) ≡ item_of (form_of L) p (first_of (form_of L) u us)
    reads_character h x = rw (overlong_is, le-ltb v (lowest_of L k) h, ← is, x) at (reads_full (form_of L) p u us k leads whole)

    -- a mark of the fault of a value that the form does not carry
    pub reads_excluded : (f : Fault) → lowest_of L k ≤ v → L.excluded v ≡ some f → Mark f (span p (k + 1)) ≡ item_of (form_of L) p (first_of (form_of L) u us)
    reads_excluded f h x = rw (overlong_is, le-ltb v (lowest_of L k) h, ← is, x) at (reads_full (form_of L) p u us k leads whole)
