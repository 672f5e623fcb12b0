-- What the finder gives, from its equation.
use Prim.Native.Nat.{ℕ, zero, suc, ◌+◌, ◌-◌, ◌≤◌, ◌<◌}
use mathlib.Core.Path.{◌≡◌, refl, sym, ap, ◌∙◌}
use mathlib.Core.Logic.{◌≢◌, ◌⊎◌, inl, inr}
use mathlib.Core.List.{List, ◌∷◌}
use mathlib.Core.Option.{some}
use native.Mathlib.Omega.{arith}
use native.Mathlib.Decide.{dec_lt}
use lib.ListN.{length, get_or, take, drop, drop_of_length-le}
use lib.Seq.{drop-cons}
use Rattle.types.specs.declared.Item.{Item}
use Rattle.types.specs.declared.Item.TheVariants.{Character, Mark}
use Rattle.forms.specs.Fault.{limit}
use Rattle.forms.specs.Form.{Form, span_of, items}
use Rattle.forms.specs.Finder.{covering, item_covering}
use Rattle.laws.specs.Finder.{nearest, Covers, SameNear, SameAhead, moved_to}
use Rattle.laws.proofs.Finder.{found-over, found_inside, start-inside}
use Rattle.reader.specs.Step.{cursor, step_at}
use Rattle.c_answers.specs.declared.JkItem.{JkItem}
use Rattle.c_answers.specs.Answer.{jk_item, shown_item, item_answer, found_answer}
use Rattle.acceptance.specs.Places.{CoveredBy, AgreeNear, AgreeAhead, ItemFound, Longest}
use Rattle.acceptance.proofs.Each.{Known}
use Rattle.acceptance.proofs.Condition2.{shows}
use Rattle.std.specs.Prelude.{Result, Ok, Err}
use Rattle.types.specs.declared.Refusal.{Refusal}

-- the numbers of an item
shown-offset : (i : Item) → (shown_item i).offset ≡ (span_of i).offset
shown-offset (Character v p) = refl
shown-offset (Mark f p) = refl

pub shown-length : (i : Item) → (shown_item i).length ≡ (span_of i).length
shown-length (Character v p) = refl
shown-length (Mark f p) = refl

shown_moved : (i : Item) (o : ℕ) → let r = shown_item i in shown_item (moved_to o i) ≡ jk_item r.kind r.fault r.value o r.length
shown_moved (Character v p) o = refl
shown_moved (Mark f p) o = refl

-- units that agree one by one are the same list
agree : (n p q : ℕ) (s t : List ℕ) → ((i : ℕ) → i < n → i < p → i < q → get_or s (p - 1 - i) 0 ≡ get_or t (q - 1 - i) 0) → (p ≡ q) ⊎ ((n ≤ p) × (n ≤ q)) → nearest n p s ≡ nearest n q t
agree zero p q s t f l = refl
agree (suc n) zero zero s t f l = refl
agree (suc n) zero (suc q) s t f (inl e) = absurd (omega arith)
agree (suc n) zero (suc q) s t f (inr e) = absurd (omega (arith, e.0))
agree (suc n) (suc p) zero s t f (inl e) = absurd (omega arith)
agree (suc n) (suc p) zero s t f (inr e) = absurd (omega (arith, e.1))
agree (suc n) (suc p) (suc q) s t f l =
    let h : get_or s p 0 ≡ get_or t q 0 =
    ap (λ (k : ℕ). get_or s k 0) (omega arith) ∙ f 0 (omega arith) (omega arith) (omega arith) ∙ ap (λ (k : ℕ). get_or t k 0) (omega arith) in
    ap (λ (u : ℕ). u ∷ nearest n p s) h ∙ ap {B = List ℕ} (λ (x : List ℕ). get_or t q 0 ∷ x) (agree n p q s t further (fewer l))
  where
    further : (i : ℕ) → i < n → i < p → i < q → get_or s (p - 1 - i) 0 ≡ get_or t (q - 1 - i) 0
    further i a b c =
        ap (λ (k : ℕ). get_or s k 0) (omega arith) ∙ f (suc i) (omega arith) (omega arith) (omega arith) ∙ ap (λ (k : ℕ). get_or t k 0) (omega arith)

    fewer : (suc p ≡ suc q) ⊎ ((suc n ≤ suc p) × (suc n ≤ suc q)) → (p ≡ q) ⊎ ((n ≤ p) × (n ≤ q))
    fewer (inl e) = inl (omega arith)
    fewer (inr e) = inr (omega (arith, e.0), omega (arith, e.1))

-- and likewise ahead
agree_ahead :
    (n a b : ℕ) (s t : List ℕ) → ((i : ℕ) → i < n → a + i < length s → b + i < length t → get_or s (a + i) 0 ≡ get_or t (b + i) 0)
    → (length s - a ≡ length t - b) ⊎ ((a + n ≤ length s) × (b + n ≤ length t)) → take n (drop a s) ≡ take n (drop b t)
agree_ahead zero a b s t f l = refl
agree_ahead (suc n) a b s t f l = go (dec_lt a (length s)) (agree_ahead n (suc a) (suc b) s t further (fewer l))
  where
    further : (i : ℕ) → i < n → suc a + i < length s → suc b + i < length t → get_or s (suc a + i) 0 ≡ get_or t (suc b + i) 0
    further i h k m =
        ap (λ (x : ℕ). get_or s x 0) (omega arith) ∙ f (suc i) (omega arith) (omega arith) (omega arith) ∙ ap (λ (x : ℕ). get_or t x 0) (omega arith)

    fewer : (length s - a ≡ length t - b) ⊎ ((a + suc n ≤ length s) × (b + suc n ≤ length t)) → (length s - suc a ≡ length t - suc b) ⊎ ((suc a + n ≤ length s) × (suc b + n ≤ length t))
    fewer (inl e) = inl (omega arith)
    fewer (inr e) = inr (omega (arith, e.0), omega (arith, e.1))

    both : (length s - a ≡ length t - b) ⊎ ((a + suc n ≤ length s) × (b + suc n ≤ length t)) → a < length s → b < length t
    both (inl e) h = omega arith
    both (inr e) h = omega (arith, e.1)

    neither : (length s - a ≡ length t - b) ⊎ ((a + suc n ≤ length s) × (b + suc n ≤ length t)) → length s ≤ a → length t ≤ b
    neither (inl e) h = omega arith
    neither (inr e) h = absurd (omega (arith, e.0))

    go : Dec (a < length s) → take n (drop (suc a) s) ≡ take n (drop (suc b) t) → take (suc n) (drop a s) ≡ take (suc n) (drop b t)
    go (yes h) e =
        let k = both l h in
        let u : get_or s a 0 ≡ get_or t b 0 =
        ap (λ (x : ℕ). get_or s x 0) (omega arith) ∙ f 0 (omega arith) (omega arith) (omega arith) ∙ ap (λ (x : ℕ). get_or t x 0) (omega arith) in
        rw (drop-cons s a 0 h, drop-cons t b 0 k) (ap (λ (x : ℕ). x ∷ take n (drop (suc a) s)) u ∙ ap {B = List ℕ} (λ (x : List ℕ). get_or t b 0 ∷ x) e)
    go (no h) e =
        let m : length s ≤ a = omega arith in
        let k = neither l m in
        rw (drop_of_length-le s m, drop_of_length-le t k)

module _ (F : Form) (known : Known F) where
  same-near : (s t : List ℕ) (p q : ℕ) → AgreeNear F.longest s p t q → SameNear F s p t q
  same-near s t p q a =
      record {
        unit = ap (λ (k : ℕ). get_or s k 0) (omega arith) ∙ a.units 0 known.positive (omega arith) (omega arith) ∙ ap (λ (k : ℕ). get_or t k 0) (omega arith);
        before = agree (F.longest - 1) p q s t further (enough a.before);
      }
    where
      further : (i : ℕ) → i < F.longest - 1 → i < p → i < q → get_or s (p - 1 - i) 0 ≡ get_or t (q - 1 - i) 0
      further i x y z =
          ap (λ (k : ℕ). get_or s k 0) (omega arith) ∙ a.units (suc i) (omega arith) (omega arith) (omega arith) ∙ ap (λ (k : ℕ). get_or t k 0) (omega arith)

      enough : (p ≡ q) ⊎ ((F.longest ≤ p + 1) × (F.longest ≤ q + 1)) → (p ≡ q) ⊎ ((F.longest - 1 ≤ p) × (F.longest - 1 ≤ q))
      enough (inl e) = inl e
      enough (inr e) = inr (omega (arith, e.0), omega (arith, e.1))

  -- the item behind an answer that is no refusal
  record Behind (s : List ℕ) (q : ℕ) (r : JkItem) : Type 0 where
    pub item : Item
    pub named : covering (items F s) q ≡ some item
    pub shown : r ≡ shown_item item
    pub short : length s ≤ limit

  not-over : (s : List ℕ) (q : ℕ) (i : Item) → item_covering F s q ≡ Ok i → length s ≤ limit
  not-over s q i e = go (dec_lt limit (length s))
    where
      go : Dec (limit < length s) → length s ≤ limit
      go (yes h) = absurd (let z : ◌≡◌ {A = ℕ} 0 1 = cc (found-over F s q h) in omega arith)
      go (no h) = omega arith

  behind : (s : List ℕ) (q : ℕ) (r : JkItem) → r ≡ found_answer (item_covering F s q) → r.kind ≢ 3 → Behind s q r
  behind s q r e n = go (item_covering F s q) refl
    where
      go : (x : Result Item Refusal) → item_covering F s q ≡ x → Behind s q r
      go (Ok i) d = record { item = i; named = known.finds.answer s q i d; shown = e ∙ ap found_answer d; short = not-over s q i d }
      go (Err z) d = absurd (n (ap (λ (b : JkItem). b.kind) (e ∙ ap found_answer d)))

  module _ (s : List ℕ) (q : ℕ) (r : JkItem) (e : r ≡ found_answer (item_covering F s q)) (n : r.kind ≢ 3) where
    w : Behind s q r
    w = behind s q r e n

    offset_is : r.offset ≡ (span_of w.item).offset
    offset_is = ap (λ (b : JkItem). b.offset) w.shown ∙ shown-offset w.item

    length_is : r.length ≡ (span_of w.item).length
    length_is = ap (λ (b : JkItem). b.length) w.shown ∙ shown-length w.item

    covers : Covers (items F s) q w.item
    covers = (known.finds.covers s q w.item).0 w.named

    covered : CoveredBy F s q r
    covered =
        record {
          before = covers.before;
          item = w.item;
          after = covers.after;
          among = covers.among;
          shown = w.shown;
          from = omega (arith, offset_is, covers.from);
          to = omega (arith, offset_is, length_is, covers.to);
        }

    -- it is the item read at its start
    read-there : (b : JkItem) → b ≡ item_answer (step_at F s (cursor r.offset)) → b ≡ r
    read-there b d =
        let a = (span_of w.item).offset in
        let i = start-inside F known.laws known.positive s q w.item w.named in
        let c = drop-cons s a 0 i in
        shows F known s a b (d ∙ ap (λ (x : ℕ). item_answer (step_at F s (cursor x))) offset_is) w.short (omega arith) (get_or s a 0 ∷ drop (suc a) s) c
        ∙ ap shown_item (sym (known.finds.read s q w.item w.named (get_or s a 0) (drop (suc a) s) c))
        ∙ sym w.shown

    found-whole : (p : ℕ) (b : JkItem) → b ≡ found_answer (item_covering F s p) → r.offset ≤ p → p < r.offset + r.length → b ≡ r
    found-whole p b d h k =
        let c = known.finds.whole s q p w.item w.named (omega (arith, offset_is)) (omega (arith, offset_is, length_is)) in
        d ∙ ap found_answer (found_inside F s p w.short w.item c) ∙ sym w.shown

  pub item-found : (s : List ℕ) (q : ℕ) (r : JkItem) → r ≡ found_answer (item_covering F s q) → ItemFound F s q r
  item-found s q r e =
      record {
        covered = covered s q r e;
        read = λ b d n. read-there s q r e n b d;
        whole = λ p b d n. found-whole s q r e n p b d;
        near = λ n. let i = w s q r e n in omega (arith, known.finds.near s q i.item i.named, offset_is s q r e n);
        local =
            λ t p b d n m h.
            let i = w s q r e n in
            let j = w t p b d m in
            omega (
              arith,
              known.finds.local s t q p i.item j.item i.named j.named (same-near s t q p h),
              offset_is s q r e n,
              offset_is t p b d m,
            );
        local_ahead = λ t p b d n m h. moved s t q p r b e d n m h;
      }
    where
      same_ahead : (s t : List ℕ) (a b : ℕ) → AgreeAhead F.longest s a t b → SameAhead F s a t b
      same_ahead s t a b h = record { units = agree_ahead F.longest a b s t h.units h.after }

      moved :
          (s t : List ℕ) (q p : ℕ) (r b : JkItem) → (e : r ≡ found_answer (item_covering F s q)) → (d : b ≡ found_answer (item_covering F t p))
          → r.kind ≢ 3 → b.kind ≢ 3 → AgreeAhead F.longest s r.offset t b.offset → b ≡ jk_item r.kind r.fault r.value b.offset r.length
      moved s t q p r b e d n m h =
          let i = w s q r e n in
          let j = w t p b d m in
          let o = offset_is s q r e n in
          let z = offset_is t p b d m in
          let near = same_ahead s t (span_of i.item).offset (span_of j.item).offset (rw (o, z) at h) in
          let k = known.finds.local_ahead s t q p i.item j.item i.named j.named near in
          j.shown
          ∙ ap shown_item k
          ∙ shown_moved i.item (span_of j.item).offset
          ∙ ap (λ (x : ℕ). let y = shown_item i.item in jk_item y.kind y.fault y.value x y.length) (sym z)
          ∙ ap (λ (y : JkItem). jk_item y.kind y.fault y.value b.offset y.length) (sym i.shown)

pub longest_are : Longest
longest_are = record { fss_utf_lem = refl; utf_ebcdic_lem = refl; utf_16 = refl; ucs_4 = refl }
