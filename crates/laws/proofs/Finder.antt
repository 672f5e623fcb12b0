-- The finders: what they answer, and what a caller of one has.
use Prim.Native.Nat.{ℕ, suc, ◌+◌, ◌-◌, ◌≤◌, ◌<◌}
use mathlib.Core.Path.{◌≡◌, refl, sym, ap, ◌∙◌}
use mathlib.Core.Bool.{Bool, true, false, cond}
use mathlib.Core.List.{List, [], ◌∷◌, ◌++◌}
use mathlib.Core.Option.{Option, none, some}
use native.Mathlib.Omega.{arith}
use native.Mathlib.Numerals.{add-one}
use native.Mathlib.Decide.{dec_lt}
use lib.Dec.{ltb}
use borrow.Author.Tests.{lt-ltb, le-ltb}
use lib.ListN.{length, get_or, take, drop}
use lib.Seq.{drop-cons}
use Rattle.types.specs.declared.Fault.TheVariants.{SourceTooLong, OffsetOutOfRange}
use Rattle.types.specs.declared.Refusal.{Refusal}
use Rattle.types.specs.declared.Item.{Item}
use Rattle.forms.specs.Fault.{limit, refusal}
use Rattle.forms.specs.Form.{sequence, size, Form, asked, taken, first_of, sequences, Content, character, mark, content, span, with_span, span_of, item_of, items}
use Rattle.forms.specs.Forms.{fss_utf, utf_ebcdic, utf16, ucs4}
use Rattle.forms.specs.Finder.{end_of, covering, or_beyond, item_covering}
use Rattle.laws.specs.Finder.{units_before, nearest, Covers, SameNear, SameAhead, moved_to, Finds}
use Rattle.laws.proofs.Sequences.{taken-take}
use Rattle.laws.proofs.Spans.{asked-longest}
use Rattle.laws.proofs.FormLaws.{Laws}
use Rattle.laws.proofs.FourForms.{fss_utf_laws, utf_ebcdic_laws, utf16_laws, ucs4_laws}
use Rattle.laws.proofs.Items.{items_onward, sequence_at, items-end, items_step, offset_at}
use Rattle.laws.proofs.Distances.{distance_back, distance_take, distance_near}
use Rattle.laws.proofs.Starts.{FoundBack, found, none-beyond, only_in}
use Rattle.std.specs.Prelude.{Ok, Err}

-- reading at the start of an item of a text gives it
module _ (F : Form) (s : List ℕ) where
  onward-inside : (at : ℕ) (i : Item) (is : List Item) → items_onward F s at ≡ i ∷ is → at < length s
  onward-inside at i is e = go (dec_lt at (length s))
    where
      go : Dec (at < length s) → at < length s
      go (yes h) = h
      go (no h) = absurd (let z : ◌≡◌ {A = ℕ} 0 1 = cc (sym e ∙ items-end F s at (omega arith)) in omega arith)

  member :
      (before : List Item) (at : ℕ) (i : Item) (after : List Item) → items_onward F s at ≡ before ++ (i ∷ after)
      → i ≡ item_of F (span_of i).offset (sequence_at F s (span_of i).offset)
  member [] at i after e =
      let h = onward-inside at i after e in
      let q : i ≡ item_of F at (sequence_at F s at) = cc (items_step F s at h) in
      let o : (span_of i).offset ≡ at = ap (λ (x : Item). (span_of x).offset) q ∙ offset_at F s at h in
      q ∙ ap (λ (n : ℕ). item_of F n (sequence_at F s n)) (sym o)
  member (b ∷ bs) at i after e =
      let h = onward-inside at b (bs ++ (i ∷ after)) e in
      let q : items_onward F s (at + size (sequence_at F s at)) ≡ bs ++ (i ∷ after) = cc (items_step F s at h) in
      member bs (at + size (sequence_at F s at)) i after q

  pub covers-read : (p : ℕ) (i : Item) → Covers (items F s) p i → i ≡ item_of F (span_of i).offset (sequence_at F s (span_of i).offset)
  covers-read p i c = member c.before 0 i c.after c.among

-- the answers: 1, 9, or the item
module _ (F : Form) (s : List ℕ) (p : ℕ) where
  pub found-over : limit < length s → item_covering F s p ≡ Err (refusal SourceTooLong 0)
  found-over h = rw (lt-ltb limit (length s) h)

  module _ (w : length s ≤ limit) where
    pub found-beyond : length s ≤ p → item_covering F s p ≡ Err (refusal OffsetOutOfRange p)
    found-beyond h = rw (le-ltb limit (length s) w, none-beyond F s p h)

    pub found_inside : (i : Item) → covering (items F s) p ≡ some i → item_covering F s p ≡ Ok i
    found_inside i e = rw (le-ltb limit (length s) w, e)

  module _ {r : Refusal} where
    pub too_long : r ≡ refusal SourceTooLong 0 → limit < length s → Err r ≡ item_covering F s p
    too_long e h = ap Err e ∙ sym (found-over h)

    pub out_of_range : r ≡ refusal OffsetOutOfRange p → length s ≤ limit → length s ≤ p → Err r ≡ item_covering F s p
    out_of_range e w h = ap Err e ∙ sym (found-beyond w h)

-- the item read as far back as the nearest units tell is the answer
pub record Near (F : Form) (s : List ℕ) (p d : ℕ) : Type 0 where
  pub back : d ≤ p
  pub answer : (i : Item) → i ≡ item_of F (p - d) (sequence_at F s (p - d)) → Ok i ≡ item_covering F s p

pub near : (F : Form) → Laws F → (s : List ℕ) (p d : ℕ) → length s ≤ limit → p < length s → d ≡ distance_back F 0 (nearest F.longest (suc p) s) → Near F s p d
near F laws s p d w h e =
    let f = found F s p h in
    let q : d ≡ distance_back F 0 (units_before (suc p) s) = e ∙ distance_take F laws (units_before (suc p) s) 0 F.longest (omega arith) in
    let o : (span_of f.item).offset ≡ p - d = omega (arith, f.start) in
    record {
      back = omega (arith, f.start);
      answer =
          λ i a.
          let b : i ≡ f.item = a ∙ ap (λ (n : ℕ). item_of F n (sequence_at F s n)) (sym o) ∙ sym (covers-read F s p f.item f.covers) in
          ap Ok b ∙ sym (found_inside F s p w f.item f.named);
    }

same_item : (o : Option Item) (i j : Item) → o ≡ some i → o ≡ some j → i ≡ j
same_item o i j e f = cc

not_none : (o : Option Item) (i : Item) → o ≡ some i → o ≡ none → ⊥
not_none o i e f = let z : ◌≡◌ {A = ℕ} 0 1 = cc in omega arith

answered : (b : Bool) (p : ℕ) (i : Item) (o : Option Item) → cond b (Err (refusal SourceTooLong 0)) (or_beyond p o) ≡ Ok i → o ≡ some i
answered true p i o e = absurd (let z : ◌≡◌ {A = ℕ} 0 1 = cc in omega arith)
answered false p i none e = absurd (let z : ◌≡◌ {A = ℕ} 0 1 = cc in omega arith)
answered false p i (some j) e = cc

-- what an item shows does not hang on its offset
moved_content : (t : Content) (a b n : ℕ) → with_span t (span b n) ≡ moved_to b (with_span t (span a n))
moved_content (character v) a b n = refl
moved_content (mark f) a b n = refl

-- a sequence takes no unit behind the longest item's last
same_first : (F : Form) (n u v : ℕ) (us vs : List ℕ) → asked (F.role u) ≤ n → u ∷ take n us ≡ v ∷ take n vs → first_of F u us ≡ first_of F v vs
same_first F n u v us vs h e =
    let a : u ≡ v = cc in
    let b : take n us ≡ take n vs = cc in
    let k = asked (F.role u) in
    ap (sequence u) (sym (taken-take F k n us h) ∙ ap (taken F k) b ∙ taken-take F k n vs h) ∙ ap (λ (x : ℕ). first_of F x vs) a

module _ (F : Form) (laws : Laws F) (positive : 0 < F.longest) where
  is_inside : (s : List ℕ) (p : ℕ) (i : Item) → covering (items F s) p ≡ some i → p < length s
  is_inside s p i e = go (dec_lt p (length s))
    where
      go : Dec (p < length s) → p < length s
      go (yes h) = h
      go (no h) = absurd (not_none (covering (items F s) p) i e (none-beyond F s p (omega arith)))

  is_beyond : (s : List ℕ) (p : ℕ) → covering (items F s) p ≡ none → length s ≤ p
  is_beyond s p e = go (dec_lt p (length s))
    where
      go : Dec (p < length s) → length s ≤ p
      go (yes h) = let f = found F s p h in absurd (not_none (covering (items F s) p) f.item f.named e)
      go (no h) = omega arith

  module _ (s : List ℕ) (p : ℕ) (i : Item) (e : covering (items F s) p ≡ some i) where
    at : FoundBack (items F s) p (distance_back F 0 (units_before (suc p) s))
    at = found F s p (is_inside s p i e)

    same : at.item ≡ i
    same = same_item (covering (items F s) p) at.item i at.named e

    is_covered : Covers (items F s) p i
    is_covered = rw same at at.covers

    pub start-inside : (span_of i).offset < length s
    start-inside = omega (arith, is_covered.from, is_inside s p i e)

    back_is : p - (span_of i).offset ≡ distance_back F 0 (units_before (suc p) s)
    back_is = omega (arith, at.start, ap (λ (x : Item). (span_of x).offset) same)

    is_near : p - (span_of i).offset < F.longest
    is_near = rw back_is (distance_near F laws (units_before (suc p) s) 0 positive)

    -- the units from its start on
    ahead : drop (span_of i).offset s ≡ get_or s (span_of i).offset 0 ∷ drop ((span_of i).offset + 1) s
    ahead = rw (add-one (span_of i).offset) (drop-cons s (span_of i).offset 0 start-inside)

    is_read : (u : ℕ) (us : List ℕ) → drop (span_of i).offset s ≡ u ∷ us → i ≡ item_of F (span_of i).offset (first_of F u us)
    is_read u us d =
        let a : get_or s (span_of i).offset 0 ≡ u = cc ahead in
        let b : drop ((span_of i).offset + 1) s ≡ us = cc ahead in
        covers-read F s p i is_covered
        ∙ ap (λ (x : ℕ). item_of F (span_of i).offset (first_of F x (drop ((span_of i).offset + 1) s))) a
        ∙ ap (λ (x : List ℕ). item_of F (span_of i).offset (first_of F u x)) b

    is_whole : (q : ℕ) → (span_of i).offset ≤ q → q < end_of i → covering (items F s) q ≡ some i
    is_whole q f t = only_in F (sequences F s) 0 q is_covered.before i is_covered.after is_covered.among f t

  -- the asked unit and those before it, up to the longest item
  nearest-all : (n : ℕ) (s : List ℕ) (p : ℕ) → F.longest ≡ suc n → distance_back F 0 (units_before (suc p) s) ≡ distance_back F 0 (get_or s p 0 ∷ nearest n p s)
  nearest-all n s p e = sym (distance_take F laws (units_before (suc p) s) 0 (suc n) (omega arith))

  same_distance : (s t : List ℕ) (p q : ℕ) → SameNear F s p t q → distance_back F 0 (units_before (suc p) s) ≡ distance_back F 0 (units_before (suc q) t)
  same_distance s t p q h =
      let e : F.longest ≡ suc (F.longest - 1) = omega arith in
      nearest-all (F.longest - 1) s p e ∙ rw (h.unit, h.before) (sym (nearest-all (F.longest - 1) t q e))

  -- the item's start and those behind it, up to the longest item
  same-sequence :
      (n a b : ℕ) (s t : List ℕ) (u v : ℕ) (us vs : List ℕ) → F.longest ≡ suc n → SameAhead F s a t b → drop a s ≡ u ∷ us → drop b t ≡ v ∷ vs
      → first_of F u us ≡ first_of F v vs
  same-sequence n a b s t u v us vs e h c d =
      let x : u ∷ take n us ≡ take F.longest (drop a s) = ap (take (suc n)) (sym c) ∙ ap (λ (k : ℕ). take k (drop a s)) (sym e) in
      let y : v ∷ take n vs ≡ take F.longest (drop b t) = ap (take (suc n)) (sym d) ∙ ap (λ (k : ℕ). take k (drop b t)) (sym e) in
      same_first F n u v us vs (omega (arith, asked-longest F laws positive u (F.role u) refl)) (x ∙ h.units ∙ sym y)

  same_ahead :
      (s t : List ℕ) (p q : ℕ) (i j : Item) → covering (items F s) p ≡ some i → covering (items F t) q ≡ some j
      → SameAhead F s (span_of i).offset t (span_of j).offset → j ≡ moved_to (span_of j).offset i
  same_ahead s t p q i j e f h =
      let a = (span_of i).offset in
      let b = (span_of j).offset in
      let c = sequence_at F s a in
      let z : sequence_at F t b ≡ c =
      sym (same-sequence (F.longest - 1) a b s t (get_or s a 0) (get_or t b 0) (drop (a + 1) s) (drop (b + 1) t) (omega arith) h (ahead s p i e) (ahead t q j f)) in
      covers-read F t q j (is_covered t q j f)
      ∙ ap (item_of F b) z
      ∙ moved_content (content F c) a b (size c)
      ∙ ap (moved_to b) (sym (covers-read F s p i (is_covered s p i e)))

  pub finds : Finds F
  finds =
      record {
        inside = λ s p h. let f = found F s p h in (f.item, f.named);
        beyond = λ s p. (is_beyond s p, (λ h. none-beyond F s p h));
        covers = λ s p i. (is_covered s p i, (λ c. only_in F (sequences F s) 0 p c.before i c.after c.among c.from c.to));
        answer = λ s p i e. answered (ltb limit (length s)) p i (covering (items F s) p) e;
        read = is_read;
        whole = λ s p q i e. is_whole s p i e q;
        near = is_near;
        local = λ s t p q i j e f h. back_is s p i e ∙ same_distance s t p q h ∙ sym (back_is t q j f);
        local_ahead = same_ahead;
      }

pub fss_utf_finds : Finds fss_utf
fss_utf_finds = finds fss_utf fss_utf_laws (omega arith)

pub utf_ebcdic_finds : Finds utf_ebcdic
utf_ebcdic_finds = finds utf_ebcdic utf_ebcdic_laws (omega arith)

pub utf16_finds : Finds utf16
utf16_finds = finds utf16 utf16_laws (omega arith)

pub ucs4_finds : Finds ucs4
ucs4_finds = finds ucs4 ucs4_laws (omega arith)
