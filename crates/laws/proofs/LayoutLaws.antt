-- The form of a layout keeps the laws: one proof over the rows and the radix.
use Prim.Native.Nat.{ℕ, zero, suc, ◌+◌, ◌-◌, ◌*◌, ◌/◌, ◌%◌, ◌^◌, ◌≤◌, ◌<◌}
use mathlib.Core.Path.{◌≡◌, refl, sym, ap, ◌∙◌, subst}
use mathlib.Core.Logic.{◌⊎◌, inl, inr}
use mathlib.Core.Bool.{Bool, true, false, cond}
use mathlib.Core.List.{List, [], ◌∷◌}
use mathlib.Core.Option.{Option, none, some}
use native.Mathlib.Omega.{arith}
use native.Mathlib.Nat.{add-zero, zero-add, add-suc, mod-lt, div-add-mod', div-lt_iff_lt-mul, add-sub_cancel_left}
use native.Mathlib.Decide.{dec_lt, dec_le}
use lib.Dec.{ltb}
use borrow.Author.Tests.{ltb-false, lt-ltb, le-ltb}
use lib.ListN.{length}
use Rattle.types.specs.declared.Fault.{Fault}
use Rattle.forms.specs.Form.{Role, lead, trailing, invalid, Sequence, sequence, units, Form, is_trailing, character, mark, is_shorter, overlong, carried, full_content, unless, encode}
use Rattle.forms.specs.Layout.{Row, Layout, lead_in, role_of, row_at, number, value_of, row_limit, lowest_of, digits, spelled, shortest_in, form_of}
use Rattle.forms.specs.Forms.{no_character}
use Rattle.laws.specs.LayoutTable.{Full, AllTrailing}
use Rattle.laws.proofs.Sequences.{same_units}
use Rattle.laws.proofs.FormLaws.{Reads, Laws}
use Rattle.laws.proofs.Digits.{IsDigit, AllDigits, digit_lt, number_lt, quotient, remainder, digits_number, length_digits, number_digits, digits-all}
use Rattle.laws.proofs.Rows.{trails, trails_true, trails_in, trailing-lead, LeadRow, lead-row, no_trailing-row, SpellingRow, spelling_row, spelled_below}

-- what the rows of a layout have to satisfy
pub record Fit (L : Layout) : Type 0 where
  pub positive : (k : ℕ) → k < length L.rows → 0 < L.radix ^ k
  -- a value that no earlier row has begins in its row
  pub above : (k v : ℕ) → k < length L.rows → ((j : ℕ) → j < k → row_limit L j ≤ v) → (row_at L k).origin ≤ v
  -- and the first unit that its row spells it with is a lead of that row
  pub leads :
      (k v u : ℕ) → k < length L.rows → L.excluded v ≡ none → v < row_limit L k
      → u ≡ (row_at L k).first + (v - (row_at L k).origin) / L.radix ^ k → (row_at L k).first ≤ u → u ≤ (row_at L k).last → role_of L u ≡ lead k
  pub bound : (k : ℕ) → k < length L.rows → row_limit L k ≤ 0x80000000
  -- a value that is carried fits some row
  pub reaches : (v : ℕ) → v < 0x80000000 → L.excluded v ≡ none → (k : ℕ) × (k < length L.rows) × (v < row_limit L k)

nil-cons : {A : Type 0} {y : ℕ} {ys : List ℕ} → [] ≡ y ∷ ys → A
nil-cons e = absurd (let z : ◌≡◌ {A = ℕ} 0 1 = cc in omega arith)

some-none : {A : Type 0} {f : Fault} → some f ≡ none → A
some-none e = absurd (let z : ◌≡◌ {A = ℕ} 0 1 = cc in omega arith)

mark-character : {A : Type 0} {f : Fault} {v : ℕ} → mark f ≡ character v → A
mark-character e = absurd (let z : ◌≡◌ {A = ℕ} 0 1 = cc in omega arith)

true_false : {A : Type 0} → true ≡ false → A
true_false e = absurd (let z : ◌≡◌ {A = ℕ} 0 1 = cc in omega arith)

module _ (L : Layout) (fits : Fit L) where
  abbrev F : Form
  F = form_of L

  -- trailing units are the digits
  trailing-cond : (u : ℕ) (b : Bool) → trails L.low L.radix u ≡ b → cond b trailing (lead_in L.rows 0 u) ≡ trailing → IsDigit L.low L.radix u
  trailing-cond u true e h = trails_true L.low L.radix u e
  trailing-cond u false e h = absurd (no_trailing-row L.rows 0 u h)

  pub trailing_digit : (u : ℕ) → role_of L u ≡ trailing → IsDigit L.low L.radix u
  trailing_digit u h = trailing-cond u (trails L.low L.radix u) refl h

  pub not-trailing : (u : ℕ) → (IsDigit L.low L.radix u → ⊥) → is_trailing (role_of L u) ≡ false
  not-trailing u n = go (role_of L u) (λ e. n (trailing_digit u e))
    where
      go : (o : Role) → (o ≡ trailing → ⊥) → is_trailing o ≡ false
      go (lead k) f = refl
      go trailing f = absurd (f refl)
      go invalid f = refl

  pub digit_trailing : (u : ℕ) → IsDigit L.low L.radix u → role_of L u ≡ trailing
  digit_trailing u h = rw (trails_in L.low L.radix u h.0 h.1)

  pub all_digits : (t : List ℕ) → AllTrailing F t → AllDigits L.low L.radix t
  all_digits [] a = tt
  all_digits (x ∷ xs) a = (trailing_digit x a.0, all_digits xs a.1)

  pub all-trailing : (t : List ℕ) → AllDigits L.low L.radix t → AllTrailing F t
  all-trailing [] a = tt
  all-trailing (x ∷ xs) a = (digit_trailing x a.0, all-trailing xs a.1)

  -- a lead stands in its row
  pub record InRow (u k : ℕ) : Type 0 where
    pub inside : k < length L.rows
    pub from : (row_at L k).first ≤ u
    pub to : u ≤ (row_at L k).last

  lead-cond : (u k : ℕ) (b : Bool) → cond b trailing (lead_in L.rows 0 u) ≡ lead k → LeadRow L.rows 0 u k
  lead-cond u k true h = trailing-lead h
  lead-cond u k false h = lead-row L.rows 0 u k h

  in_row-at : (u k j : ℕ) → k ≡ 0 + j → j < length L.rows → (row_at L j).first ≤ u → u ≤ (row_at L j).last → InRow u k
  in_row-at u k j e h a b =
      let q : j ≡ k = omega arith in
      record {
        inside = rw q at h;
        from = subst (λ (n : ℕ). (row_at L n).first ≤ u) q a;
        to = subst (λ (n : ℕ). u ≤ (row_at L n).last) q b;
      }

  pub in_row : (u k : ℕ) → role_of L u ≡ lead k → InRow u k
  in_row u k h =
      let l = lead-cond u k (trails L.low L.radix u) h in
      in_row-at u k l.at l.count l.inside l.from l.to

  -- the value of a full sequence fits its row
  value-lt : (a b o u P n : ℕ) → a ≤ u → u ≤ b → n < P → o + ((u - a) * P + n) < o + (b + 1 - a) * P
  value-lt a b o u P n h k l = omega (arith, digit_lt (u - a) n P (b + 1 - a) (omega arith) l)

  pub value-limit : (c : Sequence) → Full F c → value_of L c < row_limit L (length c.rest)
  value-limit c f =
      let k = length c.rest in
      let l = in_row c.first k f.leads in
      value-lt (row_at L k).first (row_at L k).last (row_at L k).origin c.first (L.radix ^ k)
      (number L.low L.radix c.rest) l.from l.to (number_lt L.low L.radix c.rest (all_digits c.rest f.trail))

  -- no full sequence has a value above 7FFFFFFF
  pub value-small : (c : Sequence) → Full F c → value_of L c < 0x80000000
  value-small c f = omega (arith, value-limit c f, fits.bound (length c.rest) (in_row c.first (length c.rest) f.leads).inside)

  -- and its row spells it as that sequence
  spelled_head_lem : (a o u P n : ℕ) → a ≤ u → n < P → a + (o + ((u - a) * P + n) - o) / P ≡ u
  spelled_head_lem a o u P n h l = rw (add-sub_cancel_left o ((u - a) * P + n), quotient (u - a) n P l) (omega arith)

  spelled-rest : (a o u P n : ℕ) → n < P → (o + ((u - a) * P + n) - o) % P ≡ n
  spelled-rest a o u P n l = rw (add-sub_cancel_left o ((u - a) * P + n), remainder (u - a) n P l)

  spelled-value : (c : Sequence) → Full F c → spelled L (row_at L (length c.rest)) (length c.rest) (value_of L c) ≡ units c
  spelled-value c f =
      let k = length c.rest in
      let l = in_row c.first k f.leads in
      let a = all_digits c.rest f.trail in
      let n = number_lt L.low L.radix c.rest a in
      rw (
        spelled_head_lem (row_at L k).first (row_at L k).origin c.first (L.radix ^ k) (number L.low L.radix c.rest) l.from n,
        spelled-rest (row_at L k).first (row_at L k).origin c.first (L.radix ^ k) (number L.low L.radix c.rest) n,
        digits_number L.low L.radix c.rest a,
      )

  -- the row that spells a value
  pub record Spelling (v : ℕ) : Type 0 where
    pub at : ℕ
    pub inside : at < length L.rows
    pub below : v < row_limit L at
    pub least : (j : ℕ) → j < at → row_limit L j ≤ v
    pub same : F.shortest v ≡ spelled L (row_at L at) at v

  spelling_of : (v : ℕ) → SpellingRow L L.rows 0 v → Spelling v
  spelling_of v z =
      record {
        at = z.at;
        inside = z.inside;
        below = rw (zero-add z.at) at z.below;
        least = λ j h. rw (zero-add j) at (z.least j h);
        same = z.same ∙ ap (λ (n : ℕ). spelled L (row_at L z.at) n v) (zero-add z.at);
      }

  pub spelling : (v : ℕ) → (F.shortest v ≡ []) ⊎ Spelling v
  spelling v = go (spelling_row L L.rows 0 v)
    where
      go : (shortest_in L L.rows 0 v ≡ []) ⊎ SpellingRow L L.rows 0 v → (F.shortest v ≡ []) ⊎ Spelling v
      go (inl e) = inl e
      go (inr z) = inr (spelling_of v z)

  -- a value below the limit of a row has a spelling
  pub spelling_below : (k v : ℕ) → k < length L.rows → v < row_limit L k → Spelling v
  spelling_below k v h b = go (spelling v)
    where
      go : (F.shortest v ≡ []) ⊎ Spelling v → Spelling v
      go (inl e) = absurd (spelled_below L L.rows 0 v k h (rw (zero-add k) b) e)
      go (inr z) = z

  length-spelled : (r : Row) (k v : ℕ) → length (spelled L r k v) ≡ suc k
  length-spelled r k v = ap suc (length_digits L.low L.radix k ((v - r.origin) % L.radix ^ k))

  pub length-shortest : (v : ℕ) (z : Spelling v) → length (F.shortest v) ≡ suc z.at
  length-shortest v z = ap length z.same ∙ length-spelled (row_at L z.at) z.at v

  pub full_spelling : (c : Sequence) → Full F c → Spelling (value_of L c)
  full_spelling c f = spelling_below (length c.rest) (value_of L c) (in_row c.first (length c.rest) f.leads).inside (value-limit c f)

  -- no full sequence is shorter than the shortest of its value, and one as long is it
  pub not_shorter : (c : Sequence) → Full F c → (z : Spelling (value_of L c)) → z.at ≤ length c.rest
  not_shorter c f z = go (dec_lt (length c.rest) z.at)
    where
      go : Dec (length c.rest < z.at) → z.at ≤ length c.rest
      go (yes d) = absurd (omega (arith, z.least (length c.rest) d, value-limit c f))
      go (no d) = omega arith

  pub same_length : (c : Sequence) → Full F c → (z : Spelling (value_of L c)) → z.at ≡ length c.rest → F.shortest (value_of L c) ≡ units c
  same_length c f z e = z.same ∙ ap (λ (n : ℕ). spelled L (row_at L n) n (value_of L c)) e ∙ spelled-value c f

  -- overlong is: the row that spells the value has fewer trailing units
  shorter_spelled : (e t : List ℕ) (k : ℕ) → length e ≡ suc k → is_shorter e t ≡ ltb k (length t)
  shorter_spelled [] t k h = absurd (omega arith)
  shorter_spelled (u ∷ e) t k h = ap (λ (n : ℕ). ltb n (length t)) (omega arith)

  pub overlong_spelling : (c : Sequence) (z : Spelling (value_of L c)) → overlong F c ≡ ltb z.at (length c.rest)
  overlong_spelling c z = shorter_spelled (F.shortest (value_of L c)) c.rest z.at (length-shortest (value_of L c) z)

  -- taking the content of a full sequence apart
  pub record Fine (c : Sequence) (v : ℕ) : Type 0 where
    pub value : value_of L c ≡ v
    pub free : L.excluded v ≡ none
    pub short : overlong F c ≡ false

  carried-character : (w v : ℕ) (o : Option Fault) → carried w o ≡ character v → (o ≡ none) × (w ≡ v)
  carried-character w v none e = (refl, cc)
  carried-character w v (some f) e = mark-character e

  fine_cond : (c : Sequence) (v : ℕ) (b : Bool) → overlong F c ≡ b → full_content F c ≡ character v → Fine c v
  fine_cond c v true e h = mark-character (rw e at h)
  fine_cond c v false e h =
      let q = carried-character (value_of L c) v (L.excluded (value_of L c)) (rw e at h) in
      record { value = q.1; free = rw q.1 at q.0; short = e }

  pub fine : (c : Sequence) (v : ℕ) → full_content F c ≡ character v → Fine c v
  fine c v h = fine_cond c v (overlong F c) refl h

  only-shortest : (c : Sequence) → Full F c → overlong F c ≡ false → F.shortest (value_of L c) ≡ units c
  only-shortest c f o =
      let z = full_spelling c f in
      let l : length c.rest ≤ z.at = ltb-false z.at (length c.rest) (sym (overlong_spelling c z) ∙ o) in
      same_length c f z (omega (arith, not_shorter c f z))

  only : (c : Sequence) (v : ℕ) → Reads F c v → encode F v ≡ units c
  only c v r =
      let n = fine c v r.shows in
      rw n.free (ap F.shortest (sym n.value) ∙ only-shortest c r.full n.short)

  small : (c : Sequence) (v : ℕ) → Reads F c v → v < 0x80000000
  small c v r = omega (arith, value-small c r.full, (fine c v r.shows).value)

  -- what a value is spelled as is full, and reads as the value
  abbrev spelled_head : ℕ → ℕ → ℕ
  spelled_head k v = (row_at L k).first + (v - (row_at L k).origin) / L.radix ^ k

  abbrev spelled_rest : ℕ → ℕ → List ℕ
  spelled_rest k v = digits L.low L.radix k ((v - (row_at L k).origin) % L.radix ^ k)

  abbrev spelled_sequence : ℕ → ℕ → Sequence
  spelled_sequence k v = sequence (spelled_head k v) (spelled_rest k v)

  powers : (k : ℕ) → k < length L.rows → (j : ℕ) → j < k → 0 < L.radix ^ j
  powers k h j l = fits.positive j (omega arith)

  head_le : (v o a b P : ℕ) → 0 < P → o ≤ v → v < o + (b + 1 - a) * P → a + (v - o) / P ≤ b
  head_le v o a b P p h l =
      let q : (v - o) / P < b + 1 - a = (div-lt_iff_lt-mul p).1 (omega arith) in
      omega arith

  full_spelled : (v : ℕ) (z : Spelling v) → L.excluded v ≡ none → Full F (spelled_sequence z.at v)
  full_spelled v z b =
      let k = z.at in
      let p = fits.positive k z.inside in
      record {
        leads =
            rw (length_digits L.low L.radix k ((v - (row_at L k).origin) % L.radix ^ k))
            (fits.leads k v (spelled_head k v) z.inside b z.below refl (omega arith)
            (head_le v (row_at L k).origin (row_at L k).first (row_at L k).last (L.radix ^ k) p (fits.above k v z.inside z.least) z.below));
        trail =
            all-trailing (spelled_rest k v)
            (digits-all L.low L.radix k ((v - (row_at L k).origin) % L.radix ^ k) (powers k z.inside) (mod-lt (v - (row_at L k).origin) p));
      }

  value-spelled : (v : ℕ) (z : Spelling v) → value_of L (spelled_sequence z.at v) ≡ v
  value-spelled v z =
      let k = z.at in
      let o = (row_at L k).origin in
      let h : o ≤ v = fits.above k v z.inside z.least in
      rw (
        length_digits L.low L.radix k ((v - o) % L.radix ^ k),
        number_digits L.low L.radix k ((v - o) % L.radix ^ k) (powers k z.inside) (mod-lt (v - o) (fits.positive k z.inside)),
        add-sub_cancel_left (row_at L k).first ((v - o) / L.radix ^ k),
        div-add-mod' (v - o) (L.radix ^ k),
      )
      (omega arith)

  not-overlong : (v : ℕ) (z : Spelling v) → is_shorter (F.shortest v) (spelled_rest z.at v) ≡ false
  not-overlong v z =
      shorter_spelled (F.shortest v) (spelled_rest z.at v) z.at (length-shortest v z)
      ∙ rw (length_digits L.low L.radix z.at ((v - (row_at L z.at).origin) % L.radix ^ z.at)) (le-ltb z.at z.at (omega arith))

  shows_spelled : (v : ℕ) (z : Spelling v) → L.excluded v ≡ none → full_content F (spelled_sequence z.at v) ≡ character v
  shows_spelled v z b = rw (value-spelled v z, not-overlong v z, b)

  legal_spelled : (v : ℕ) (c : Sequence) (z : Spelling v) → L.excluded v ≡ none → F.shortest v ≡ units c → Reads F c v
  legal_spelled v c z b e =
      let s : spelled_sequence z.at v ≡ c = same_units (spelled_sequence z.at v) c (sym z.same ∙ e) in
      subst (λ (x : Sequence). Reads F x v) s (record { full = full_spelled v z b; shows = shows_spelled v z b })

  legal_of : (v : ℕ) (c : Sequence) → L.excluded v ≡ none → F.shortest v ≡ units c → (F.shortest v ≡ []) ⊎ Spelling v → Reads F c v
  legal_of v c b e (inl n) = nil-cons (sym n ∙ e)
  legal_of v c b e (inr z) = legal_spelled v c z b e

  unless-cons : (o : Option Fault) (e : List ℕ) (u : ℕ) (t : List ℕ) → unless o e ≡ u ∷ t → (o ≡ none) × (e ≡ u ∷ t)
  unless-cons none e u t h = (refl, h)
  unless-cons (some f) e u t h = nil-cons h

  legal : (v : ℕ) (c : Sequence) → encode F v ≡ units c → Reads F c v
  legal v c e =
      let h = unless-cons (L.excluded v) (F.shortest v) c.first c.rest e in
      legal_of v c h.0 h.1 (spelling v)

  pub laws : ((v : ℕ) (f : Fault) → no_character v ≡ some f → L.excluded v ≡ some f) → Laws F
  laws shared =
      record {
        legal = legal;
        only = only;
        small = small;
        carries = λ v h x. let r = fits.reaches v h x in spelled_below L L.rows 0 v r.0 r.1 (rw (zero-add r.0) r.2);
        shared = shared;
        reach = λ u k h. (in_row u k h).inside;
      }

-- the test that a reader makes for fault 5: against the lowest value of the length
module _ (L : Layout) (fits : Fit L) (rise : (k : ℕ) → suc k < length L.rows → row_limit L k ≤ row_limit L (suc k)) where
  rises : (j d : ℕ) → j + d < length L.rows → row_limit L j ≤ row_limit L (j + d)
  rises j zero h = rw (add-zero j) (omega arith)
  rises j (suc d) h = rw (add-suc j d) (omega (arith, rises j d (omega arith), rise (j + d) (omega arith)))

  rises_le : (j k : ℕ) → j ≤ k → k < length L.rows → row_limit L j ≤ row_limit L k
  rises_le j k h l =
      let e : j + (k - j) ≡ k = omega arith in
      subst (λ (n : ℕ). row_limit L j ≤ row_limit L n) e (rises j (k - j) (omega arith))

  pub at_least : (k v : ℕ) → k < length L.rows → (z : Spelling L fits v) → lowest_of L k ≤ v → k ≤ z.at
  at_least zero v h z l = omega arith
  at_least (suc k) v h z l = go (dec_lt z.at (suc k))
    where
      go : Dec (z.at < suc k) → suc k ≤ z.at
      go (yes d) = absurd (omega (arith, z.below, rises_le z.at k (omega arith) (omega arith)))
      go (no d) = omega arith

  pub at_most : (k v : ℕ) → (z : Spelling L fits v) → v < lowest_of L k → z.at < k
  at_most zero v z l = absurd (omega arith)
  at_most (suc k) v z l = go (dec_le (suc k) z.at)
    where
      go : Dec (suc k ≤ z.at) → z.at < suc k
      go (yes d) = absurd (omega (arith, z.least k d))
      go (no d) = omega arith

  -- a full sequence is overlong just where its value is below the lowest of its length
  pub overlong-lowest : (c : Sequence) → Full (form_of L) c → overlong (form_of L) c ≡ ltb (value_of L c) (lowest_of L (length c.rest))
  overlong-lowest c f = go (dec_lt (value_of L c) (lowest_of L (length c.rest)))
    where
      go : Dec (value_of L c < lowest_of L (length c.rest)) → overlong (form_of L) c ≡ ltb (value_of L c) (lowest_of L (length c.rest))
      go (yes d) =
          let z = full_spelling L fits c f in
          overlong_spelling L fits c z
          ∙ lt-ltb z.at (length c.rest) (at_most (length c.rest) (value_of L c) z d)
          ∙ sym (lt-ltb (value_of L c) (lowest_of L (length c.rest)) d)
      go (no d) =
          let z = full_spelling L fits c f in
          let i = (in_row L fits c.first (length c.rest) f.leads).inside in
          overlong_spelling L fits c z
          ∙ le-ltb z.at (length c.rest) (at_least (length c.rest) (value_of L c) i z (omega arith))
          ∙ sym (le-ltb (value_of L c) (lowest_of L (length c.rest)) (omega arith))
