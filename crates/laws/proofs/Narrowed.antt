-- A form that carries fewer values: it keeps the laws, its items are the wider one's judged again, and what it takes the wider one does, with
-- the same result. Then the target of strict conversion.
use Prim.Native.Nat.{ℕ, zero, suc, ◌+◌, ◌≤◌, ◌<◌}
use mathlib.Core.Path.{◌≡◌, refl, sym, ap, ◌∙◌}
use mathlib.Core.Logic.{◌≢◌, ◌⊎◌, inl, inr}
use mathlib.Core.Bool.{Bool, true, false, cond}
use mathlib.Core.List.{List, [], ◌∷◌, ◌++◌, map}
use mathlib.Core.Option.{Option, none, some}
use native.Mathlib.Omega.{arith}
use native.Mathlib.Decide.{dec_lt}
use lib.Dec.{eqb}
use lib.ListN.{length}
use Rattle.types.specs.declared.Fault.{Fault}
use Rattle.types.specs.declared.Fault.TheVariants.{Overlong, MissingTrailing, NonCharacter}
use Rattle.types.specs.declared.Span.{Span}
use Rattle.types.specs.declared.Item.{Item}
use Rattle.types.specs.declared.Item.TheVariants.{Character, Mark}
use Rattle.forms.specs.Form.{Role, lead, trailing, invalid, Sequence, sequence, units, size, Form, is_trailing, asked, taken, first_of, sequences_after, sequences, character, mark, overlong, carried, full_content, content_as, span, with_span, item_of, items_from, items, unless, encode}
use Rattle.forms.specs.Forms.{or_else, narrowed, is_non_character, turned_away, strictly}
use Rattle.forms.specs.Conversion.{converted, encoding, refusal_at, prepend, convert_items}
use Rattle.laws.specs.LayoutTable.{AllTrailing}
use Rattle.laws.proofs.FormLaws.{Reads, Laws}
use Rattle.laws.proofs.Rows.{within_in, within_below, within_above}
use Rattle.laws.proofs.Carried.{not-excluded}
use Rattle.laws.proofs.Outcomes.{prepend-converted, put_some, put-converted}

or-none : (o y : Option Fault) → or_else o y ≡ none → (o ≡ none) × (y ≡ none)
or-none none y e = (refl, e)
or-none (some f) y e = absurd (let z : ◌≡◌ {A = ℕ} 0 1 = cc in omega arith)

else_none : (o : Option Fault) → or_else o none ≡ o
else_none none = refl
else_none (some f) = refl

module _ (x : ℕ → Option Fault) (G : Form) where
  -- a value that it holds is not among the further ones
  pub not-narrowed : (v : ℕ) → encode (narrowed x G) v ≢ [] → x v ≡ none
  not-narrowed v n = (or-none (G.excluded v) (x v) (not-excluded (narrowed x G) v n)).1

  -- and any other has the encoding that it had
  pub as_before : (v : ℕ) → x v ≡ none → encode (narrowed x G) v ≡ encode G v
  as_before v e = rw e (ap (λ (o : Option Fault). unless o (G.shortest v)) (else_none (G.excluded v)))

  pub narrow_encode : (v : ℕ) → encode (narrowed x G) v ≢ [] → encode (narrowed x G) v ≡ encode G v
  narrow_encode v n = as_before v (not-narrowed v n)

  pub wide_encodable : (v : ℕ) → encode (narrowed x G) v ≢ [] → encode G v ≢ []
  wide_encodable v n e = n (narrow_encode v n ∙ e)

  pub same-encoding : (i : Item) → encoding (narrowed x G) i ≢ [] → encoding (narrowed x G) i ≡ encoding G i
  same-encoding (Character v p) n = narrow_encode v n
  same-encoding (Mark f p) n = refl

  -- items that come to a result in it come to the same in the wider one
  pub narrow_target : (is : List Item) (es : List ℕ) → convert_items (narrowed x G) is ≡ converted es → convert_items G is ≡ converted es
  narrow_target [] es h = h
  narrow_target (i ∷ is) es h =
      let o = convert_items (narrowed x G) is in
      let q = put-converted (encoding (narrowed x G) i) es (refusal_at (narrowed x G).excluded i) o h in
      let r = prepend-converted (encoding (narrowed x G) i) es o q.1 in
      let e = same-encoding i q.0 in
      put_some (encoding G i) (refusal_at G.excluded i) (convert_items G is) (λ z. q.0 (e ∙ z))
      ∙ ap (prepend (encoding G i)) (narrow_target is r.0 r.1)
      ∙ ap converted (ap (λ (y : List ℕ). y ++ r.0) (sym e) ∙ sym r.2)

-- the laws of a form are those of the narrowed one
unless-cons : (o : Option Fault) (e : List ℕ) (u : ℕ) (t : List ℕ) → unless o e ≡ u ∷ t → (o ≡ none) × (e ≡ u ∷ t)
unless-cons none e u t h = (refl, h)
unless-cons (some f) e u t h = absurd (let z : ◌≡◌ {A = ℕ} 0 1 = cc in omega arith)

carried_free : (w v : ℕ) (o : Option Fault) → carried w o ≡ character v → (o ≡ none) × (w ≡ v)
carried_free w v none e = (refl, cc)
carried_free w v (some f) e = absurd (let z : ◌≡◌ {A = ℕ} 0 1 = cc in omega arith)

full_free : (b : Bool) (w v : ℕ) (o : Option Fault) → cond b (mark Overlong) (carried w o) ≡ character v → (b ≡ false) × (o ≡ none) × (w ≡ v)
full_free true w v o e = absurd (let z : ◌≡◌ {A = ℕ} 0 1 = cc in omega arith)
full_free false w v o e = let q = carried_free w v o e in (refl, q.0, q.1)

module _ (x : ℕ → Option Fault) (F : Form) (laws : Laws F) where
  trailing-to : (t : List ℕ) → AllTrailing (narrowed x F) t → AllTrailing F t
  trailing-to [] a = tt
  trailing-to (u ∷ us) a = (a.0, trailing-to us a.1)

  trailing-from : (t : List ℕ) → AllTrailing F t → AllTrailing (narrowed x F) t
  trailing-from [] a = tt
  trailing-from (u ∷ us) a = (a.0, trailing-from us a.1)

  free : (c : Sequence) (v : ℕ) → Reads (narrowed x F) c v → (overlong F c ≡ false) × (or_else (F.excluded v) (x v) ≡ none) × (F.value c ≡ v)
  free c v r =
      let q = full_free (overlong F c) (F.value c) v (or_else (F.excluded (F.value c)) (x (F.value c))) r.shows in
      (q.0, rw q.2 at q.1, q.2)

  reads_to : (c : Sequence) (v : ℕ) → Reads (narrowed x F) c v → Reads F c v
  reads_to c v r =
      let q = free c v r in
      record {
        full = record { leads = r.full.leads; trail = trailing-to c.rest r.full.trail };
        shows = rw (q.0, q.2, (or-none (F.excluded v) (x v) q.1).0);
      }

  legal : (v : ℕ) (c : Sequence) → encode (narrowed x F) v ≡ units c → Reads (narrowed x F) c v
  legal v c e =
      let h = unless-cons (or_else (F.excluded v) (x v)) (F.shortest v) c.first c.rest e in
      let r = laws.legal v c (rw (or-none (F.excluded v) (x v) h.0).0 h.1) in
      let q = full_free (overlong F c) (F.value c) v (F.excluded (F.value c)) r.shows in
      record {
        full = record { leads = r.full.leads; trail = trailing-from c.rest r.full.trail };
        shows = rw (q.0, q.2, h.0);
      }

  only : (c : Sequence) (v : ℕ) → Reads (narrowed x F) c v → encode (narrowed x F) v ≡ units c
  only c v r = as_before x F v (or-none (F.excluded v) (x v) (free c v r).1).1 ∙ laws.only c v (reads_to c v r)

  pub narrowed_laws : Laws (narrowed x F)
  narrowed_laws =
      record {
        legal = legal;
        only = only;
        small = λ c v r. laws.small c v (reads_to c v r);
        carries = λ v h e. laws.carries v h (or-none (F.excluded v) (x v) e).0;
        shared = λ v f e. rw (laws.shared v f e);
        reach = λ u k h. laws.reach u k h;
      }

-- what an item shows, judged again
abbrev pub judged : (ℕ → Option Fault) → Item → Item
judged x (Character v p) = with_span (carried v (x v)) p
judged x (Mark f p) = Mark f p

module _ (x : ℕ → Option Fault) (F : Form) where
  -- the items cover the same units
  same_taken : (k : ℕ) (us : List ℕ) → taken (narrowed x F) k us ≡ taken F k us
  same_taken zero us = refl
  same_taken (suc k) [] = refl
  same_taken (suc k) (u ∷ us) = ap {B = List ℕ} (λ (t : List ℕ). cond (is_trailing (F.role u)) (u ∷ t) []) (same_taken k us)

  same_first : (u : ℕ) (us : List ℕ) → first_of (narrowed x F) u us ≡ first_of F u us
  same_first u us = ap (sequence u) (same_taken (asked (F.role u)) us)

  same_after : (s : List ℕ) (k : ℕ) → sequences_after (narrowed x F) s k ≡ sequences_after F s k
  same_after [] k = refl
  same_after (u ∷ us) zero =
      ap {B = List Sequence} (λ (c : Sequence). c ∷ sequences_after (narrowed x F) us (length c.rest)) (same_first u us)
      ∙ ap {B = List Sequence} (λ (cs : List Sequence). first_of F u us ∷ cs) (same_after us (length (first_of F u us).rest))
  same_after (u ∷ us) (suc k) = same_after us k

  judged_carried : (v : ℕ) (o : Option Fault) (p : Span) → with_span (carried v (or_else o (x v))) p ≡ judged x (with_span (carried v o) p)
  judged_carried v none p = refl
  judged_carried v (some f) p = refl

  judged_full :
      (b : Bool) (v : ℕ) (o : Option Fault) (p : Span)
      → with_span (cond b (mark Overlong) (carried v (or_else o (x v)))) p ≡ judged x (with_span (cond b (mark Overlong) (carried v o)) p)
  judged_full true v o p = refl
  judged_full false v o p = judged_carried v o p

  judged_lead :
      (b : Bool) (c : Sequence) (p : Span)
      → with_span (cond b (full_content (narrowed x F) c) (mark MissingTrailing)) p ≡ judged x (with_span (cond b (full_content F c) (mark MissingTrailing)) p)
  judged_lead true c p = judged_full (overlong F c) (F.value c) (F.excluded (F.value c)) p
  judged_lead false c p = refl

  judged_as : (r : Role) (c : Sequence) (p : Span) → with_span (content_as (narrowed x F) r c) p ≡ judged x (with_span (content_as F r c) p)
  judged_as (lead k) c p = judged_lead (eqb (length c.rest) k) c p
  judged_as trailing c p = refl
  judged_as invalid c p = refl

  from-narrowed : (cs : List Sequence) (p : ℕ) → items_from (narrowed x F) p cs ≡ map (judged x) (items_from F p cs)
  from-narrowed [] p = refl
  from-narrowed (c ∷ cs) p =
      ap {B = List Item} (λ (i : Item). i ∷ items_from (narrowed x F) (p + size c) cs) (judged_as (F.role c.first) c (span p (size c)))
      ∙ ap {B = List Item} (λ (is : List Item). judged x (item_of F p c) ∷ is) (from-narrowed cs (p + size c))

  pub items-narrowed : (s : List ℕ) → items (narrowed x F) s ≡ map (judged x) (items F s)
  items-narrowed s = ap (items_from (narrowed x F) 0) (same_after s 0) ∙ from-narrowed (sequences F s) 0

-- strict conversion turns FFFE and FFFF away, and no other value
pub turned_away_lem : (v : ℕ) → 0xFFFE ≤ v → v < 0x10000 → turned_away v ≡ some NonCharacter
turned_away_lem v h k = rw (within_in 0xFFFE 0xFFFF v h (omega arith))

pub let_pass : (v : ℕ) → (0xFFFE ≤ v → 0x10000 ≤ v) → turned_away v ≡ none
let_pass v o = go (dec_lt v 0xFFFE)
  where
    go : Dec (v < 0xFFFE) → turned_away v ≡ none
    go (yes h) = rw (within_below 0xFFFE 0xFFFF v h)
    go (no h) = let k = o (omega arith) in rw (within_above 0xFFFE 0xFFFF v (omega arith))

-- every value is one or the other
pub turned_or-not : (v : ℕ) → ((0xFFFE ≤ v) × (v < 0x10000)) ⊎ (0xFFFE ≤ v → 0x10000 ≤ v)
turned_or-not v = go (dec_lt v 0x10000) (dec_lt v 0xFFFE)
  where
    go : Dec (v < 0x10000) → Dec (v < 0xFFFE) → ((0xFFFE ≤ v) × (v < 0x10000)) ⊎ (0xFFFE ≤ v → 0x10000 ≤ v)
    go (no h) k = inr (λ l. omega arith)
    go (yes h) (yes k) = inr (λ l. omega arith)
    go (yes h) (no k) = inl (omega arith, h)

pub strict_none : (G : Form) (v : ℕ) → is_non_character v ≡ true → encode (strictly G) v ≡ []
strict_none G v e = rw e (go (G.excluded v))
  where
    go : (o : Option Fault) → unless (or_else o (some NonCharacter)) (G.shortest v) ≡ []
    go none = refl
    go (some f) = refl

pub strict_same : (G : Form) (v : ℕ) → (0xFFFE ≤ v → 0x10000 ≤ v) → encode (strictly G) v ≡ encode G v
strict_same G v o = as_before turned_away G v (let_pass v o)
