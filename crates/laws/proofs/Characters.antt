-- Texts of well-formed characters: how they read, and that an accepted text is one.
use Prim.Native.Nat.{ℕ, zero, suc, ◌+◌, ◌≤◌}
use mathlib.Core.Path.{◌≡◌, refl, sym, ap, ◌∙◌, subst}
use mathlib.Core.Logic.{◌≢◌}
use mathlib.Core.Bool.{Bool, true, false, cond}
use mathlib.Core.List.{List, [], ◌∷◌, ◌++◌, append_assoc, append-nil}
use native.Mathlib.Omega.{arith}
use native.Mathlib.Nat.{add_assoc, add-zero}
use lib.Dec.{eqb}
use borrow.Author.Tests.{eq-eqb, eqb-true}
use lib.ListN.{length, length-append}
use Rattle.types.specs.declared.Fault.{Fault}
use Rattle.types.specs.declared.Item.{Item}
use Rattle.types.specs.declared.Item.TheVariants.{Character}
use Rattle.forms.specs.Form.{Role, lead, trailing, invalid, Sequence, sequence, units, size, Form, asked, first_of, sequences_after, sequences, Content, character, mark, full_content, content_as, content, span, with_span, item_of, items_from, items, encode, encode_all, AllEncodable}
use Rattle.forms.specs.Forms.{turned_away, strictly}
use Rattle.forms.specs.Conversion.{converted, refusal_at, prepend, convert_items}
use Rattle.laws.specs.TwelvePairs.{Accepted}
use Rattle.laws.specs.LayoutTable.{AllTrailing}
use Rattle.laws.proofs.Sequences.{joined, taken-trailing, sequences_full, sequences-joined}
use Rattle.laws.proofs.FormLaws.{Reads, Laws}
use Rattle.laws.proofs.Outcomes.{prepend-converted, put_some, put-converted}
use Rattle.laws.proofs.Narrowed.{narrow_encode}

-- the characters of values, one behind the other from p on
abbrev pub characters_from : Form → ℕ → List ℕ → List Item
characters_from F p [] = []
characters_from F p (v ∷ vs) = Character v (span p (length (encode F v))) ∷ characters_from F (p + length (encode F v)) vs

module _ (F : Form) where
  -- a sequence that reads as a character is that item
  pub reads_content : (c : Sequence) (v : ℕ) → Reads F c v → content F c ≡ character v
  reads_content c v r = rw (r.full.leads, eq-eqb (length c.rest) (length c.rest) refl) r.shows

  pub reads_item : (p : ℕ) (c : Sequence) (v : ℕ) → Reads F c v → item_of F p c ≡ Character v (span p (size c))
  reads_item p c v r = rw (reads_content c v r)

  -- and an item that is a character is of a sequence that reads as it
  full_if :
      (c : Sequence) (v k : ℕ) (b : Bool) (f : Fault) → eqb (length c.rest) k ≡ b → F.role c.first ≡ lead k → AllTrailing F c.rest
      → cond b (full_content F c) (mark f) ≡ character v → Reads F c v
  full_if c v k true f e r a h =
      let n : length c.rest ≡ k = eqb-true (length c.rest) k e in
      record { full = record { leads = rw n r; trail = a }; shows = h }
  full_if c v k false f e r a h = absurd (let z : ◌≡◌ {A = ℕ} 0 1 = cc in omega arith)

  reads_as : (c : Sequence) (v : ℕ) (o : Role) → F.role c.first ≡ o → AllTrailing F c.rest → content_as F o c ≡ character v → Reads F c v
  reads_as c v (lead k) e a h = full_if c v k (eqb (length c.rest) k) _ refl e a h
  reads_as c v trailing e a h = absurd (let z : ◌≡◌ {A = ℕ} 0 1 = cc in omega arith)
  reads_as c v invalid e a h = absurd (let z : ◌≡◌ {A = ℕ} 0 1 = cc in omega arith)

  pub content_reads : (c : Sequence) (v : ℕ) → AllTrailing F c.rest → content F c ≡ character v → Reads F c v
  content_reads c v a h = reads_as c v (F.role c.first) refl a h

  -- each sequence of a text has trailing units alone behind its first
  abbrev pub AllTaken : List Sequence → Type 0
  AllTaken [] = Unit {0}
  AllTaken (c ∷ cs) = AllTrailing F c.rest × AllTaken cs

  pub all-taken : (s : List ℕ) (k : ℕ) → AllTaken (sequences_after F s k)
  all-taken [] k = tt
  all-taken (u ∷ us) zero = (taken-trailing F (asked (F.role u)) us, all-taken us (length (first_of F u us).rest))
  all-taken (u ∷ us) (suc k) = all-taken us k

module _ (F : Form) (laws : Laws F) where
  -- what reads as a character has an encoding
  pub reads_encodable : (c : Sequence) (v : ℕ) → Reads F c v → encode F v ≢ []
  reads_encodable c v r n = let e : units c ≡ [] = sym (laws.only c v r) ∙ n in let z : ◌≡◌ {A = ℕ} 0 1 = cc in omega arith

  -- a legal encoding is no longer than the longest item
  longest_of : (v : ℕ) (e : List ℕ) → encode F v ≡ e → length e ≤ F.longest
  longest_of v [] q = omega arith
  longest_of v (u ∷ t) q = laws.reach u (length t) (laws.legal v (sequence u t) q).full.leads

  pub encode-longest : (v : ℕ) → length (encode F v) ≤ F.longest
  encode-longest v = longest_of v (encode F v) refl

  -- well-formed characters at the front are read as themselves
  read_one :
      (p v : ℕ) (e r : List ℕ) → encode F v ≡ e → e ≢ []
      → items_from F p (sequences F (e ++ r)) ≡ Character v (span p (length e)) ∷ items_from F (p + length e) (sequences F r)
  read_one p v [] r q n = absurd (n refl)
  read_one p v (u ∷ t) r q n =
      let c = sequence u t in
      let l = laws.legal v c q in
      ap (items_from F p) (sequences_full F c r l.full)
      ∙ ap {B = List Item} (λ (i : Item). i ∷ items_from F (p + size c) (sequences F r)) (reads_item F p c v l)

  pub read-characters :
      (vs : List ℕ) (p : ℕ) (r : List ℕ) → AllEncodable F vs
      → items_from F p (sequences F (encode_all F vs ++ r)) ≡ characters_from F p vs ++ items_from F (p + length (encode_all F vs)) (sequences F r)
  read-characters [] p r a = rw (add-zero p)
  read-characters (v ∷ vs) p r a =
      rw (append_assoc (encode F v) (encode_all F vs) r, read_one p v (encode F v) (encode_all F vs ++ r) refl a.0, read-characters vs (p + length (encode F v)) r a.1, length-append (encode F v) (encode_all F vs), add_assoc p (length (encode F v)) (length (encode_all F vs)))

  pub items-characters : (vs : List ℕ) → AllEncodable F vs → items F (encode_all F vs) ≡ characters_from F 0 vs
  items-characters vs a =
      ap (items F) (sym (append-nil (encode_all F vs))) ∙ read-characters vs 0 [] a ∙ append-nil (characters_from F 0 vs)

module _ (F : Form) (laws : Laws F) (G : Form) where
  -- the target, as strict conversion takes it
  abbrev H : Form
  H = strictly G

  -- characters that it holds are converted one by one
  convert_characters : (vs : List ℕ) (p : ℕ) → AllEncodable H vs → convert_items H (characters_from F p vs) ≡ converted (encode_all G vs)
  convert_characters [] p a = refl
  convert_characters (v ∷ vs) p a =
      put_some (encode H v) (refusal_at H.excluded (Character v (span p (length (encode F v))))) (convert_items H (characters_from F (p + length (encode F v)) vs)) a.0
      ∙ ap (prepend (encode H v)) (convert_characters vs (p + length (encode F v)) a.1)
      ∙ ap (λ (e : List ℕ). converted (e ++ encode_all G vs)) (narrow_encode turned_away G v a.0)

  accept_one :
      (c : Sequence) (v : ℕ) (cs : List Sequence) (es fs : List ℕ) → Reads F c v → encode H v ≢ [] → es ≡ encode H v ++ fs
      → Accepted F G (joined cs) fs → Accepted F G (units c ++ joined cs) es
  accept_one c v cs es fs r x e a =
      let l = laws.only c v r in
      record {
        values = v ∷ a.values;
        source = ap (λ (x : List ℕ). x ++ joined cs) (sym l) ∙ ap (λ (y : List ℕ). encode F v ++ y) a.source;
        result = e ∙ ap (λ (y : List ℕ). y ++ fs) (narrow_encode turned_away G v x) ∙ ap (λ (y : List ℕ). encode G v ++ y) a.result;
        from = (reads_encodable F laws c v r, a.from);
        to = (x, a.to);
      }

  accept : (cs : List Sequence) (p : ℕ) (es : List ℕ) → AllTaken F cs → convert_items H (items_from F p cs) ≡ converted es → Accepted F G (joined cs) es
  accept [] p es a h = let e : es ≡ [] = cc in record { values = []; source = refl; result = e; from = tt; to = tt }
  accept (c ∷ cs) p es a h = go (content F c) refl (accept cs (p + size c)) h
    where
      go :
          (t : Content) → content F c ≡ t
          → ((fs : List ℕ) → AllTaken F cs → convert_items H (items_from F (p + size c) cs) ≡ converted fs → Accepted F G (joined cs) fs)
          → convert_items H (with_span t (span p (size c)) ∷ items_from F (p + size c) cs) ≡ converted es → Accepted F G (units c ++ joined cs) es
      go (mark f) e k h = absurd (let z : ◌≡◌ {A = ℕ} 0 1 = cc in omega arith)
      go (character v) e k h =
          let o = convert_items H (items_from F (p + size c) cs) in
          let q = put-converted (encode H v) es (refusal_at H.excluded (Character v (span p (size c)))) o h in
          let r = prepend-converted (encode H v) es o q.1 in
          accept_one c v cs es r.0 (content_reads F c v a.0 e) q.0 r.2 (k r.0 a.1 r.1)

  pub accepted : (s es : List ℕ) → convert_items H (items F s) ≡ converted es → Accepted F G s es
  accepted s es h = subst (λ (x : List ℕ). Accepted F G x es) (sequences-joined F s 0) (accept (sequences F s) 0 es (all-taken F s 0) h)

  -- and a text of such characters is accepted
  pub characters_accepted : (vs : List ℕ) → AllEncodable F vs → AllEncodable H vs → convert_items H (items F (encode_all F vs)) ≡ converted (encode_all G vs)
  characters_accepted vs f g = ap (convert_items H) (items-characters F laws vs f) ∙ convert_characters vs 0 g
