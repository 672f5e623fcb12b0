-- How far behind the start of its sequence an offset lies: the asked unit and the nearest ones before it tell.
use Prim.Native.Nat.{ℕ, zero, suc, ◌+◌, ◌-◌, ◌≤◌, ◌<◌}
use mathlib.Core.Path.{◌≡◌, refl, sym, ap, ◌∙◌}
use mathlib.Core.Bool.{false, cond}
use mathlib.Core.List.{List, [], ◌∷◌, ◌++◌}
use native.Mathlib.Omega.{arith}
use native.Mathlib.Nat.{not-suc-le-zero, le_of_suc-le-suc}
use native.Mathlib.Decide.{dec_le}
use lib.Dec.{ltb, leb}
use borrow.Author.Tests.{lt-ltb, le-ltb, le-leb, lt-leb}
use lib.ListN.{length, get_or, take, drop, length-append, length-drop, take-append-drop}
use lib.Seq.{drop-cons, drop-append-le, length-take-le, take_all, get_or-take, get_or-drop}
use Rattle.forms.specs.Form.{Role, lead, trailing, invalid, Sequence, size, Form, asked, is_trailing, taken, sequences}
use Rattle.laws.specs.Finder.{units_before, nearest}
use Rattle.laws.specs.LayoutTable.{AllTrailing}
use Rattle.laws.proofs.Sequences.{joined, sequences-after, sequences_border, sequences-joined}
use Rattle.laws.proofs.FormLaws.{Laws}

-- behind a unit with this role and j trailing ones: a lead takes them if it asks as many; d is the distance that the units before tell
abbrev pub distance_at : Role → ℕ → ℕ → ℕ
distance_at (lead k) j d = cond (leb j k) j 0
distance_at trailing j d = d
distance_at invalid j d = 0

-- how far back the covering item starts: the units from the asked one backwards, of which j trailing ones are passed
abbrev pub distance_back : Form → ℕ → List ℕ → ℕ
distance_back F j [] = 0
distance_back F j (u ∷ us) = distance_at (F.role u) j (distance_back F (suc j) us)

-- how far behind the start of its sequence an offset lies
abbrev pub distance_in : List Sequence → ℕ → ℕ
distance_in [] p = 0
distance_in (c ∷ cs) p = cond (ltb p (size c)) p (distance_in cs (p - size c))

distance_append : (xs cs : List Sequence) (p q : ℕ) → p ≡ length (joined xs) + q → distance_in (xs ++ cs) p ≡ distance_in cs q
distance_append [] cs p q e = ap (distance_in cs) (omega arith)
distance_append (x ∷ xs) cs p q e =
    rw (le-ltb p (size x) (omega (arith, length-append x.rest (joined xs))))
    (distance_append xs cs (p - size x) q (omega (arith, length-append x.rest (joined xs))))

module _ (F : Form) where
  -- trailing units that no lead takes stand alone
  alone : (t r : List ℕ) (i : ℕ) → AllTrailing F t → i < length t → distance_in (sequences F (t ++ r)) i ≡ 0
  alone [] r i a h = absurd (not-suc-le-zero h)
  alone (x ∷ t) r zero a h = rw a.0
  alone (x ∷ t) r (suc i) a h =
      rw (a.0, le-ltb (suc i) 1 (omega arith))
      (ap (distance_in (sequences F (t ++ r))) (omega arith) ∙ alone t r i a.1 (le_of_suc-le-suc h))

  taken-over : (k : ℕ) (t r : List ℕ) → AllTrailing F t → length t ≤ k → length t ≤ length (taken F k (t ++ r))
  taken-over k [] r a h = omega arith
  taken-over zero (x ∷ t) r a h = absurd (not-suc-le-zero h)
  taken-over (suc k) (x ∷ t) r a h = rw a.0 (omega (arith, taken-over k t r a.1 (le_of_suc-le-suc h)))

  taken-within : (k : ℕ) (t r : List ℕ) → AllTrailing F t → k ≤ length t → length (taken F k (t ++ r)) ≡ k
  taken-within zero t r a h = refl
  taken-within (suc k) [] r a h = absurd (not-suc-le-zero h)
  taken-within (suc k) (x ∷ t) r a h = rw a.0 (ap suc (taken-within k t r a.1 (le_of_suc-le-suc h)))

  trailing-drop : (k : ℕ) (t : List ℕ) → AllTrailing F t → AllTrailing F (drop k t)
  trailing-drop zero t a = a
  trailing-drop (suc k) [] a = tt
  trailing-drop (suc k) (x ∷ t) a = trailing-drop k t a.1

  -- the unit behind the trailing units t of a unit that asks k
  behind : (u k : ℕ) (t r : List ℕ) → asked (F.role u) ≡ k → AllTrailing F t → Dec (length t ≤ k)
      → distance_in (sequences F (u ∷ (t ++ r))) (length t) ≡ cond (leb (length t) k) (length t) 0
  behind u k t r w a (yes h) =
      rw (w, lt-ltb (length t) (suc (length (taken F k (t ++ r)))) (omega (arith, taken-over k t r a h)), le-leb (length t) k h)
  behind u k t r w a (no h) =
      rw (
        w,
        taken-within k t r a (omega arith),
        le-ltb (length t) (suc k) (omega arith),
        lt-leb (length t) k (omega arith),
        sequences-after F (t ++ r) k,
        drop-append-le k t r (omega arith),
      )
      (alone (drop k t) r (length t - suc k) (trailing-drop k t a) (omega (arith, length-drop k t)))

  -- a unit that does not trail starts a sequence
  at_border : (s : List ℕ) (m : ℕ) (u : ℕ) (us : List ℕ) (p q : ℕ) → m ≤ length s → drop m s ≡ u ∷ us → is_trailing (F.role u) ≡ false → p ≡ m + q
      → distance_in (sequences F s) p ≡ distance_in (sequences F (u ∷ us)) q
  at_border s m u us p q h d n e =
      let b = sequences_border F (take m s) (u ∷ us) 0 n (omega arith) in
      ap (λ (x : List ℕ). distance_in (sequences F x) p) (sym (take-append-drop m s) ∙ ap (λ (x : List ℕ). take m s ++ x) d)
      ∙ ap (λ (x : List Sequence). distance_in x p) b
      ∙ distance_append (sequences F (take m s)) (sequences F (u ∷ us)) p q
      (omega (arith, ap length (sequences-joined F (take m s) 0), length-take-le m s h))

  distance_as :
      (s : List ℕ) (m u : ℕ) (t r : List ℕ) (p d : ℕ) (o : Role) → F.role u ≡ o → m ≤ length s → drop m s ≡ u ∷ (t ++ r) → AllTrailing F t → p ≡ m + length t
      → (F.role u ≡ trailing → distance_in (sequences F s) p ≡ d) → distance_in (sequences F s) p ≡ distance_at o (length t) d
  distance_as s m u t r p d (lead k) e h q a w f =
      at_border s m u (t ++ r) p (length t) h q (ap is_trailing e) w ∙ behind u k t r (ap asked e) a (dec_le (length t) k)
  distance_as s m u t r p d trailing e h q a w f = f e
  distance_as s m u t r p d invalid e h q a w f =
      at_border s m u (t ++ r) p (length t) h q (ap is_trailing e) w ∙ behind u 0 t r (ap asked e) a (dec_le (length t) 0) ∙ none-asked (length t)
    where
      none-asked : (n : ℕ) → cond (leb n 0) n 0 ≡ 0
      none-asked zero = refl
      none-asked (suc n) = rw (lt-leb (suc n) 0 (omega arith))

  -- the units before m tell, where trailing units follow up to the asked one
  distance_before :
      (s : List ℕ) (m : ℕ) (t r : List ℕ) (p : ℕ) → m ≤ length s → drop m s ≡ t ++ r → AllTrailing F t → suc p ≡ m + length t
      → distance_in (sequences F s) p ≡ distance_back F (length t) (units_before m s)
  distance_before s zero t r p h q a w = ap (λ (x : List ℕ). distance_in (sequences F x) p) q ∙ alone t r p a (omega arith)
  distance_before s (suc m) t r p h q a w =
      let u = get_or s m 0 in
      let c : drop m s ≡ u ∷ (t ++ r) = drop-cons s m 0 (omega arith) ∙ ap {B = List ℕ} (λ (x : List ℕ). u ∷ x) q in
      distance_as s m u t r p (distance_back F (suc (length t)) (units_before m s)) (F.role u) refl (omega arith) c a (omega arith)
      (λ e. distance_before s m (u ∷ t) r p (omega arith) c (e, a) (omega arith))

  pub distance_is : (s : List ℕ) (p : ℕ) → p < length s → distance_in (sequences F s) p ≡ distance_back F 0 (units_before (suc p) s)
  distance_is s p h = distance_before s (suc p) [] (drop (suc p) s) p (omega arith) refl tt (omega arith)

  -- no lead reaches the longest item, so units farther back tell nothing
  module _ (laws : Laws F) where
    far_as : (o : Role) (j d : ℕ) → ((k : ℕ) → o ≡ lead k → k < F.longest) → F.longest ≤ j → d ≡ 0 → distance_at o j d ≡ 0
    far_as (lead k) j d f h e = rw (lt-leb j k (omega (arith, f k refl)))
    far_as trailing j d f h e = e
    far_as invalid j d f h e = refl

    far : (us : List ℕ) (j : ℕ) → F.longest ≤ j → distance_back F j us ≡ 0
    far [] j h = refl
    far (u ∷ us) j h = far_as (F.role u) j (distance_back F (suc j) us) (laws.reach u) h (far us (suc j) (omega arith))

    pub distance_take : (us : List ℕ) (j n : ℕ) → F.longest ≤ j + n → distance_back F j (take n us) ≡ distance_back F j us
    distance_take us j zero h = sym (far us j (omega arith))
    distance_take [] j (suc n) h = refl
    distance_take (u ∷ us) j (suc n) h = ap (distance_at (F.role u) j) (distance_take us (suc j) n (omega arith))

    near-lead : (j k : ℕ) → k < F.longest → Dec (j ≤ k) → cond (leb j k) j 0 < F.longest
    near-lead j k h (yes d) = rw (le-leb j k d) (omega arith)
    near-lead j k h (no d) = rw (lt-leb j k (omega arith)) (omega arith)

    near_as : (o : Role) (j d : ℕ) → ((k : ℕ) → o ≡ lead k → k < F.longest) → d < F.longest → distance_at o j d < F.longest
    near_as (lead k) j d f h = near-lead j k (f k refl) (dec_le j k)
    near_as trailing j d f h = h
    near_as invalid j d f h = omega arith

    pub distance_near : (us : List ℕ) (j : ℕ) → 0 < F.longest → distance_back F j us < F.longest
    distance_near [] j h = h
    distance_near (u ∷ us) j h = near_as (F.role u) j (distance_back F (suc j) us) (laws.reach u) (distance_near us (suc j) h)

-- the units of a part of a text, backwards: those that stand there in the text
units_part :
    (m p from : ℕ) (s t : List ℕ) → p ≡ from + m → ((i : ℕ) → i < m → get_or t i 0 ≡ get_or s (from + i) 0) → units_before m t ≡ take m (units_before p s)
units_part zero p from s t e g = refl
units_part (suc m) zero from s t e g = absurd (omega arith)
units_part (suc m) (suc p) from s t e g =
    let q : from + m ≡ p = omega arith in
    let h : get_or t m 0 ≡ get_or s p 0 = g m (omega arith) ∙ ap (λ (i : ℕ). get_or s i 0) q in
    rw h (ap {B = List ℕ} (λ (us : List ℕ). get_or s p 0 ∷ us) (units_part m p from s t (sym q) (λ i l. g i (omega arith))))

length_before : (p : ℕ) (s : List ℕ) → length (units_before p s) ≡ p
length_before zero s = refl
length_before (suc p) s = ap suc (length_before p s)

take-near : (n p : ℕ) (us : List ℕ) → length us ≡ p → Dec (n ≤ p) → take (p - (p - n)) us ≡ take n us
take-near n p us e (yes h) = let q : p - (p - n) ≡ n = omega arith in ap (λ (m : ℕ). take m us) q
take-near n p us e (no h) = take_all (p - (p - n)) us (omega arith) ∙ sym (take_all n us (omega arith))

-- the last n units before an offset, or all where there are fewer, as a part of the text
pub part_nearest : (n p : ℕ) (s : List ℕ) → p ≤ length s → let t = take (p - (p - n)) (drop (p - n) s) in units_before (length t) t ≡ nearest n p s
part_nearest n p s h =
    let m = p - (p - n) in
    let t = take m (drop (p - n) s) in
    let l : length t ≡ m = length-take-le m (drop (p - n) s) (omega (arith, length-drop (p - n) s)) in
    ap (λ (x : ℕ). units_before x t) l
    ∙ units_part m p (p - n) s t (omega arith) (λ i k. get_or-take m (drop (p - n) s) i 0 k ∙ get_or-drop (p - n) s i 0)
    ∙ take-near n p (units_before p s) (length_before p s) (dec_le n p)
