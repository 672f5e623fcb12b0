-- Demand 3 of the reading of a text: proved once, over any form that keeps the laws.
use Prim.Native.Nat.{ℕ, zero, suc, ◌+◌, ◌≤◌, ◌<◌}
use mathlib.Core.Path.{◌≡◌, refl, sym, ap, ◌∙◌, subst}
use mathlib.Core.Logic.{◌≢◌, ◌↔◌}
use mathlib.Core.List.{List, [], ◌∷◌, ◌++◌, map, map-append, append-nil}
use native.Mathlib.Omega.{arith}
use native.Mathlib.Nat.{zero-add, add-zero}
use native.Mathlib.Decide.{dec_lt, ℕ_discrete}
use lib.ListN.{length, get_or, take, drop, length-append, length-drop, length-map, take-append-drop}
use lib.Seq.{drop-append_seam, get_or_at, length-take-le}
use Rattle.types.specs.declared.Item.{Item}
use Rattle.types.specs.declared.Item.TheVariants.{Character}
use Rattle.forms.specs.Form.{Sequence, sequence, units, size, Form, sequences, Content, character, mark, content, span, items_from, items, encode, encode_all, AllEncodable, OccursAt}
use Rattle.forms.specs.Lossy.{mark_value, value_of, offset_of, marks}
use Rattle.demand3.specs.Demand3.{starts_from, Given, Under, Outside, UnderOneMark, Parts}
use Rattle.laws.specs.LayoutTable.{AllTrailing}
use Rattle.laws.proofs.Sequences.{NoTrailingFirst, joined, sequences_border, sequences_full, sequences-joined}
use Rattle.laws.proofs.FormLaws.{Reads, Laws}
use Rattle.laws.proofs.Items.{length-items}
use Rattle.laws.proofs.Marks.{marks-append}
use Rattle.laws.proofs.Characters.{characters_from, reads_item, content_reads, all-taken, AllTaken, read-characters}
use Rattle.demand3.proofs.Cells.{shown, none-there, starts, length-values, length-starts, items-append, values_anywhere, marks_anywhere, starts_moved, value-at, start-at, joined_split, joined_next, Has, has}

-- what the items of characters show
module _ (F : Form) where
  characters-values : (p : ℕ) (vs : List ℕ) → map value_of (characters_from F p vs) ≡ vs
  characters-values p [] = refl
  characters-values p (v ∷ vs) = ap {B = List ℕ} (λ (x : List ℕ). v ∷ x) (characters-values (p + length (encode F v)) vs)

  characters-starts : (p : ℕ) (vs : List ℕ) → map offset_of (characters_from F p vs) ≡ starts_from F p vs
  characters-starts p [] = refl
  characters-starts p (v ∷ vs) = ap {B = List ℕ} (λ (x : List ℕ). p ∷ x) (characters-starts (p + length (encode F v)) vs)

  characters-marks : (p : ℕ) (vs : List ℕ) → marks (characters_from F p vs) ≡ 0
  characters-marks p [] = refl
  characters-marks p (v ∷ vs) = zero-add (marks (characters_from F (p + length (encode F v)) vs)) ∙ characters-marks (p + length (encode F v)) vs

  characters_count : (p : ℕ) (vs : List ℕ) → length (characters_from F p vs) ≡ length vs
  characters_count p [] = refl
  characters_count p (v ∷ vs) = ap suc (characters_count (p + length (encode F v)) vs)

-- a value other than the mark's is a character's
shown-character : (t : Content) (v : ℕ) → shown t ≡ v → v ≢ mark_value → t ≡ character v
shown-character (character x) v e n = ap character e
shown-character (mark f) v e n = absurd (n (sym e))

taken_at : (F : Form) (cs : List Sequence) (i : ℕ) → i < length cs → AllTaken F cs → AllTrailing F (get_or cs i none-there).rest
taken_at F [] i h a = tt
taken_at F (c ∷ cs) zero h a = a.0
taken_at F (c ∷ cs) (suc i) h a = taken_at F cs i (omega arith) a.1

module _ (F : Form) (laws : Laws F) where
  -- a legal encoding as a sequence
  pub record Legal (v : ℕ) : Type 0 where
    pub of : Sequence
    pub same : encode F v ≡ units of
    pub reads : Reads F of v

  legal_of : (v : ℕ) (e : List ℕ) → encode F v ≡ e → encode F v ≢ [] → Legal v
  legal_of v [] q n = absurd (n q)
  legal_of v (u ∷ t) q n = record { of = sequence u t; same = q; reads = laws.legal v (sequence u t) q }

  legal : (v : ℕ) → encode F v ≢ [] → Legal v
  legal v n = legal_of v (encode F v) refl n

  no_trailing : (v : ℕ) (r : List ℕ) → encode F v ≢ [] → NoTrailingFirst F (encode F v ++ r)
  no_trailing v r n = let l = legal v n in rw (l.same, l.reads.full.leads)

  no_trailing-all : (ws : List ℕ) → AllEncodable F ws → NoTrailingFirst F (encode_all F ws)
  no_trailing-all [] a = tt
  no_trailing-all (w ∷ ws) a = no_trailing w (encode_all F ws) a.0

  -- the items of the three parts
  module _ (vs m ws : List ℕ) (f : AllEncodable F vs) (l : AllEncodable F ws) where
    abbrev whole : List ℕ
    whole = encode_all F vs ++ (m ++ encode_all F ws)

    abbrev first : ℕ
    first = length (encode_all F vs)

    abbrev last : ℕ
    last = first + length m

    three : items F whole ≡ characters_from F 0 vs ++ (items_from F first (sequences F m) ++ characters_from F last ws)
    three =
        read-characters F laws vs 0 (m ++ encode_all F ws) f
        ∙ ap (λ (is : List Item). characters_from F 0 vs ++ is)
        (ap (λ (n : ℕ). items_from F n (sequences F (m ++ encode_all F ws))) (zero-add first)
        ∙ ap (items_from F first) (sequences_border F m (encode_all F ws) 0 (no_trailing-all ws l) (omega arith))
        ∙ items-append F first (sequences F m) (sequences F (encode_all F ws))
        ∙ ap (λ (is : List Item). items_from F first (sequences F m) ++ is)
        (ap (λ (n : ℕ). items_from F (first + n) (sequences F (encode_all F ws))) (ap length (sequences-joined F m 0))
        ∙ ap (λ (x : List ℕ). items_from F last (sequences F x)) (sym (append-nil (encode_all F ws)))
        ∙ read-characters F laws ws last [] l
        ∙ append-nil (characters_from F last ws)))

    pub three-values : map value_of (items F whole) ≡ vs ++ (map value_of (items F m) ++ ws)
    three-values =
        ap (map value_of) three
        ∙ map-append value_of (characters_from F 0 vs) (items_from F first (sequences F m) ++ characters_from F last ws)
        ∙ rw (characters-values F 0 vs, map-append value_of (items_from F first (sequences F m)) (characters_from F last ws), characters-values F last ws, values_anywhere F first 0 (sequences F m))

    pub three-starts :
        map offset_of (items F whole) ≡ starts_from F 0 vs ++ (map (λ i. first + offset_of i) (items F m) ++ starts_from F last ws)
    three-starts =
        ap (map offset_of) three
        ∙ map-append offset_of (characters_from F 0 vs) (items_from F first (sequences F m) ++ characters_from F last ws)
        ∙ rw (characters-starts F 0 vs, map-append offset_of (items_from F first (sequences F m)) (characters_from F last ws), characters-starts F last ws)
        (ap (λ (x : List ℕ). starts_from F 0 vs ++ (x ++ starts_from F last ws))
        (ap (λ (n : ℕ). starts F n (sequences F m)) (sym (add-zero first)) ∙ starts_moved F first 0 (sequences F m)))

    pub three_count : length (items F whole) ≡ length vs + length (items F m) + length ws
    three_count =
        ap length three
        ∙ omega (
          arith,
          length-append (characters_from F 0 vs) (items_from F first (sequences F m) ++ characters_from F last ws),
          length-append (items_from F first (sequences F m)) (characters_from F last ws),
          characters_count F 0 vs,
          characters_count F last ws,
          length-items F first (sequences F m),
          length-items F 0 (sequences F m),
        )

    pub three-marks : marks (items F whole) ≡ marks (items F m)
    three-marks =
        ap marks three
        ∙ omega (
          arith,
          marks-append (characters_from F 0 vs) (items_from F first (sequences F m) ++ characters_from F last ws),
          marks-append (items_from F first (sequences F m)) (characters_from F last ws),
          characters-marks F 0 vs,
          characters-marks F last ws,
          marks_anywhere F first 0 (sequences F m),
        )

  -- the whole text, whatever its parts
  module _ (s : List ℕ) where
    abbrev cs : List Sequence
    cs = sequences F s

    abbrev vals : List ℕ
    vals = map value_of (items F s)

    abbrev begins : List ℕ
    begins = map offset_of (items F s)

    abbrev before : ℕ → ℕ
    before i = length (joined (take i cs))

    begin_at : (i : ℕ) → i < length cs → get_or begins i 0 ≡ before i
    begin_at i h = start-at F 0 cs i h ∙ zero-add (before i)

    behind : (i : ℕ) → i < length cs → drop (before i) s ≡ units (get_or cs i none-there) ++ joined (drop (suc i) cs)
    behind i h =
        ap (drop (before i)) (sym (sequences-joined F s 0) ∙ joined_split cs i h)
        ∙ drop-append_seam (joined (take i cs)) (units (get_or cs i none-there) ++ joined (drop (suc i) cs))

    -- an item with a value is its legal encoding
    character_is : (i v : ℕ) → i < length cs → get_or vals i 0 ≡ v → v ≢ mark_value → encode F v ≡ units (get_or cs i none-there)
    character_is i v h e n =
        let c = get_or cs i none-there in
        let t : content F c ≡ character v = shown-character (content F c) v (sym (value-at F 0 cs i h) ∙ e) n in
        laws.only c v (content_reads F c v (taken_at F cs i h (all-taken F s 0)) t)

    given_occurs : (p v : ℕ) → Given vals begins p v → OccursAt F s p v
    given_occurs p v g =
        let h : g.at < length cs = omega (arith, g.value_there, length-values F 0 cs) in
        go g.at h (character_is g.at v h g.value g.no_mark) (sym (begin_at g.at h) ∙ g.start)
      where
        go : (i : ℕ) → i < length cs → encode F v ≡ units (get_or cs i none-there) → before i ≡ p → OccursAt F s p v
        go i h e q =
            record {
              has = λ n. let z : ◌≡◌ {A = ℕ} 0 1 = cc in omega arith;
              after = joined (drop (suc i) cs);
              begins = ap (λ (n : ℕ). drop n s) (sym q) ∙ behind i h ∙ ap (λ (x : List ℕ). x ++ joined (drop (suc i) cs)) (sym e);
            }

  -- a legal encoding behind any units is an item
  occurs_items :
      (a : List ℕ) (v : ℕ) (r : List ℕ) → encode F v ≢ []
      → items F (a ++ (encode F v ++ r)) ≡ items F a ++ (Character v (span (length a) (length (encode F v))) ∷ items_from F (length a + length (encode F v)) (sequences F r))
  occurs_items a v r n =
      let l = legal v n in
      let c = l.of in
      ap (items_from F 0) (sequences_border F a (encode F v ++ r) 0 (no_trailing v r n) (omega arith))
      ∙ items-append F 0 (sequences F a) (sequences F (encode F v ++ r))
      ∙ ap (λ (is : List Item). items F a ++ is)
      (ap (λ (k : ℕ). items_from F k (sequences F (encode F v ++ r))) (zero-add (length (joined (sequences F a))) ∙ ap length (sequences-joined F a 0))
      ∙ rw l.same
      (ap (items_from F (length a)) (sequences_full F c r l.reads.full)
      ∙ ap {B = List Item} (λ (i : Item). i ∷ items_from F (length a + size c) (sequences F r)) (reads_item F (length a) c v l.reads)))

  not-mark : (v : ℕ) → encode F v ≢ [] → v ≢ mark_value
  not-mark v n = let l = legal v n in λ e. omega (arith, laws.small l.of v l.reads)

  occurs_given-at : (a : List ℕ) (v : ℕ) (r : List ℕ) → encode F v ≢ [] → let s = a ++ (encode F v ++ r) in Given (map value_of (items F s)) (map offset_of (items F s)) (length a) v
  occurs_given-at a v r n =
      let i = Character v (span (length a) (length (encode F v))) in
      let is = items_from F (length a + length (encode F v)) (sequences F r) in
      rw (occurs_items a v r n, map-append value_of (items F a) (i ∷ is), map-append offset_of (items F a) (i ∷ is))
      (record {
        at = length (items F a);
        value_there = omega (arith, length-append (map value_of (items F a)) (v ∷ map value_of is), length-map (items F a) value_of);
        start-there = omega (arith, length-append (map offset_of (items F a)) (length a ∷ map offset_of is), length-map (items F a) offset_of);
        value = get_or_at (map value_of (items F a)) v (map value_of is) 0 (length (items F a)) (length-map (items F a) value_of);
        start = get_or_at (map offset_of (items F a)) (length a) (map offset_of is) 0 (length (items F a)) (length-map (items F a) offset_of);
        no_mark = not-mark v n;
      })

  module _ (s : List ℕ) where
    encode-some : (v : ℕ) → encode F v ≢ [] → 0 < length (encode F v)
    encode-some v n = rw (legal v n).same (omega arith)

    occurs_within : (p v : ℕ) → OccursAt F s p v → p ≤ length s
    occurs_within p v h =
        omega (arith, encode-some v h.has, length-drop p s, ap length h.begins, length-append (encode F v) h.after)

    occurs_given : (p v : ℕ) → OccursAt F s p v → Given (vals s) (begins s) p v
    occurs_given p v h =
        let e : take p s ++ (encode F v ++ h.after) ≡ s = ap (λ (x : List ℕ). take p s ++ x) (sym h.begins) ∙ take-append-drop p s in
        let q : length (take p s) ≡ p = length-take-le p s (occurs_within p v h) in
        subst (λ (x : List ℕ). Given (vals x) (begins x) p v) e
        (subst (λ (n : ℕ). Given (vals (take p s ++ (encode F v ++ h.after))) (begins (take p s ++ (encode F v ++ h.after))) n v) q
        (occurs_given-at (take p s) v h.after h.has))

    pub given-exactly : (p v : ℕ) → Given (vals s) (begins s) p v ↔ OccursAt F s p v
    given-exactly p v = (given_occurs s p v, occurs_given p v)

    within : (i : ℕ) → i < length (begins s) → i < length (cs s)
    within i h = omega (arith, length-starts F 0 (cs s))

    pub starts_rise : (i j : ℕ) → i < j → j < length (begins s) → get_or (begins s) i 0 < get_or (begins s) j 0
    starts_rise i j h k =
        let l = within j k in
        omega (arith, begin_at s i (omega arith), begin_at s j l, joined_next (cs s) i j h l)

    -- a unit lies under the sequence that has it
    starts_order : (i j : ℕ) → j < length (begins s) → i < length (begins s) → Dec (i < j) → Dec (j < i) → (i < j → ⊥) → get_or (begins s) j 0 ≤ get_or (begins s) i 0
    starts_order i j k l (yes a) b n = absurd (n a)
    starts_order i j k l (no a) (yes b) n = omega (arith, starts_rise j i b l)
    starts_order i j k l (no a) (no b) n = let e : i ≡ j = omega arith in rw e (omega arith)

    has-under : (p : ℕ) (h : Has (cs s) p) → Under (begins s) p h.at
    has-under p h =
        let l : h.at < length (begins s) = omega (arith, length-starts F 0 (cs s), h.inside) in
        record {
          there = l;
          before = omega (arith, begin_at s h.at h.inside, h.from);
          nearest =
              λ j k q. starts_order h.at j k l (dec_lt h.at j) (dec_lt j h.at)
              (λ a. omega (arith, begin_at s j (within j k), joined_next (cs s) h.at j a (within j k), h.to));
        }

    same-under : (p i j : ℕ) → Under (begins s) p i → Under (begins s) p j → Dec (i < j) → Dec (j < i) → j ≡ i
    same-under p i j a b (yes h) k = absurd (omega (arith, starts_rise i j h b.there, a.nearest j b.there b.before))
    same-under p i j a b (no h) (yes k) = absurd (omega (arith, starts_rise j i k a.there, b.nearest i a.there a.before))
    same-under p i j a b (no h) (no k) = omega arith

    mark_of : (p : ℕ) (h : Has (cs s) p) → Outside F (vals s) (begins s) p → Dec (get_or (vals s) h.at 0 ≡ mark_value) → get_or (vals s) h.at 0 ≡ mark_value
    mark_of p h o (yes e) = e
    mark_of p h o (no n) =
        let v = get_or (vals s) h.at 0 in
        let e : length (encode F v) ≡ size (get_or (cs s) h.at none-there) = ap length (character_is s h.at v h.inside refl n) in
        absurd
        (o (get_or (begins s) h.at 0) v
        (record {
          at = h.at;
          value_there = omega (arith, length-values F 0 (cs s), h.inside);
          start-there = omega (arith, length-starts F 0 (cs s), h.inside);
          value = refl;
          start = refl;
          no_mark = n;
        })
        (has-under p h).before
        (omega (arith, begin_at s h.at h.inside, h.to)))

    pub under-one-mark : (p : ℕ) → p < length s → Outside F (vals s) (begins s) p → UnderOneMark (vals s) (begins s) p
    under-one-mark p h o =
        let w = has (cs s) p (omega (arith, ap length (sequences-joined F s 0))) in
        record {
          item = w.at;
          under = has-under p w;
          mark = mark_of p w o (ℕ_discrete (get_or (vals s) w.at 0) mark_value);
          only = λ j u. same-under p w.at j (has-under p w) u (dec_lt w.at j) (dec_lt j w.at);
        }

  pub parts :
      (vs m ws s : List ℕ) → AllEncodable F vs → AllEncodable F ws → s ≡ encode_all F vs ++ (m ++ encode_all F ws)
      → Parts F vs m ws s (map value_of (items F s)) (map offset_of (items F s))
  parts vs m ws s f l e =
      record {
        values_are = ap (λ (x : List ℕ). map value_of (items F x)) e ∙ three-values vs m ws f l;
        starts_are = ap (λ (x : List ℕ). map offset_of (items F x)) e ∙ three-starts vs m ws f l;
        rising = starts_rise s;
        given = given-exactly s;
        covered = under-one-mark s;
      }
