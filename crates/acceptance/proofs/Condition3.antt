-- Condition 3 follows from the promise of a lossy decoding.
use Prim.Native.Nat.{ℕ, zero, suc, ◌+◌, ◌<◌}
use mathlib.Core.Path.{◌≡◌, refl, sym, ap, ◌∙◌}
use mathlib.Core.List.{List, [], ◌∷◌, ◌++◌, map}
use native.Mathlib.Omega.{arith}
use native.Mathlib.Nat.{add_assoc}
use lib.ListN.{length, get_or, take, length-append, length-map}
use lib.Seq.{get_or-take, get_or-append-add}
use Rattle.types.specs.declared.Item.{Item}
use Rattle.forms.specs.Form.{Form, items, encode, encode_all, AllEncodable}
use Rattle.forms.specs.Lossy.{value_of, offset_of, marks}
use Rattle.demand3.specs.Demand3.{starts_from, Given, Under, UnderOneMark as OneMark, Parts}
use Rattle.c_answers.specs.declared.JkDecoding.{JkDecoding}
use Rattle.c_answers.specs.Answer.{jk_decoding, decoding_answer}
use Rattle.c_answers.specs.Promises.{DecodesLossyInC}
use Rattle.acceptance.specs.Condition3.{AllGood, in_order, GoodCharacters, GivenAs, LiesUnder, UnderOneMark, ThreeParts, Condition3, MiddleAlone}
use Rattle.acceptance.proofs.Decoded.{decoded_so}

front : (xs ys : List ℕ) (i : ℕ) → i < length xs → get_or (xs ++ ys) i 0 ≡ get_or xs i 0
front [] ys i h = absurd (omega arith)
front (x ∷ xs) ys zero h = refl
front (x ∷ xs) ys (suc i) h = front xs ys i (omega arith)

behind : (xs ys : List ℕ) (n i : ℕ) → length xs ≡ n → get_or (xs ++ ys) (n + i) 0 ≡ get_or ys i 0
behind xs ys n i e = ap (λ (k : ℕ). get_or (xs ++ ys) (k + i) 0) (sym e) ∙ get_or-append-add xs ys i 0

module _ (F : Form) where
  starts-length : (vs : List ℕ) (p : ℕ) → length (starts_from F p vs) ≡ length vs
  starts-length [] p = refl
  starts-length (v ∷ vs) p = ap suc (starts-length vs (p + length (encode F v)))

  start-at : (vs : List ℕ) (p i : ℕ) → i < length vs → get_or (starts_from F p vs) i 0 ≡ p + length (encode_all F (take i vs))
  start-at [] p i h = absurd (omega arith)
  start-at (v ∷ vs) p zero h = omega arith
  start-at (v ∷ vs) p (suc i) h =
      start-at vs (p + length (encode F v)) i (omega arith)
      ∙ omega (arith, length-append (encode F v) (encode_all F (take i vs)))

  moved_at : (is : List Item) (l i : ℕ) → i < length is → get_or (map (λ j. l + offset_of j) is) i 0 ≡ l + get_or (map offset_of is) i 0
  moved_at [] l i h = absurd (omega arith)
  moved_at (j ∷ is) l zero h = refl
  moved_at (j ∷ is) l (suc i) h = moved_at is l i (omega arith)

  module _ (vs m ws s : List ℕ) (n : ℕ) (o p : List ℕ) (is-n : n ≡ length vs + length (items F m) + length ws) (a : Parts F vs m ws s (take n o) (take n p)) where
    abbrev l : ℕ
    l = length (encode_all F vs)

    abbrev middle : List ℕ
    middle = map (λ i. l + offset_of i) (items F m)

    middle_length : length middle ≡ length (items F m)
    middle_length = length-map (items F m) (λ i. l + offset_of i)

    values_length : length (take n o) ≡ n
    values_length =
        ap length a.values_are
        ∙ omega
        (arith, is-n, length-append vs (map value_of (items F m) ++ ws), length-append (map value_of (items F m)) ws, length-map (items F m) value_of)

    starts_count : length (take n p) ≡ n
    starts_count =
        ap length a.starts_are
        ∙ omega (
          arith,
          is-n,
          length-append (starts_from F 0 vs) (middle ++ starts_from F (l + length m) ws),
          length-append middle (starts_from F (l + length m) ws),
          middle_length,
          starts-length vs 0,
          starts-length ws (l + length m),
        )

    value_is : (i : ℕ) → i < n → get_or (take n o) i 0 ≡ get_or o i 0
    value_is i h = get_or-take n o i 0 h

    start_is : (i : ℕ) → i < n → get_or (take n p) i 0 ≡ get_or p i 0
    start_is i h = get_or-take n p i 0 h

    from-starts : (i : ℕ) → i < n → get_or p i 0 ≡ get_or (starts_from F 0 vs ++ (middle ++ starts_from F (l + length m) ws)) i 0
    from-starts i h = sym (start_is i h) ∙ ap (λ (x : List ℕ). get_or x i 0) a.starts_are

    first-at : (i : ℕ) → i < length vs → get_or p i 0 ≡ length (encode_all F (take i vs))
    first-at i h =
        from-starts i (omega arith)
        ∙ front (starts_from F 0 vs) (middle ++ starts_from F (l + length m) ws) i (omega (arith, starts-length vs 0))
        ∙ start-at vs 0 i h
        ∙ omega arith

    middle_at : (i : ℕ) → i < length (items F m) → get_or p (length vs + i) 0 ≡ l + get_or (map offset_of (items F m)) i 0
    middle_at i h =
        from-starts (length vs + i) (omega arith)
        ∙ behind (starts_from F 0 vs) (middle ++ starts_from F (l + length m) ws) (length vs) i (starts-length vs 0)
        ∙ front middle (starts_from F (l + length m) ws) i (omega (arith, middle_length))
        ∙ moved_at (items F m) l i h

    last-at : (i : ℕ) → i < length ws → get_or p (length vs + length (items F m) + i) 0 ≡ l + length m + length (encode_all F (take i ws))
    last-at i h =
        from-starts (length vs + length (items F m) + i) (omega arith)
        ∙ ap (λ (k : ℕ). get_or (starts_from F 0 vs ++ (middle ++ starts_from F (l + length m) ws)) k 0) (add_assoc (length vs) (length (items F m)) i)
        ∙ behind (starts_from F 0 vs) (middle ++ starts_from F (l + length m) ws) (length vs) (length (items F m) + i) (starts-length vs 0)
        ∙ behind middle (starts_from F (l + length m) ws) (length (items F m)) i middle_length
        ∙ start-at ws (l + length m) i h

    rises : (i j : ℕ) → i < j → j < n → get_or p i 0 < get_or p j 0
    rises i j h k = omega (arith, a.rising i j h (omega (arith, starts_count)), start_is i (omega arith), start_is j k)

    as_given : (q v : ℕ) (g : Given (take n o) (take n p) q v) → GivenAs o p n g.at q v
    as_given q v g =
        let h : g.at < n = omega (arith, g.value_there, values_length) in
        (h, sym (value_is g.at h) ∙ g.value, sym (start_is g.at h) ∙ g.start, g.no_mark)

    is_given : (q v i : ℕ) → GivenAs o p n i q v → Given (take n o) (take n p) q v
    is_given q v i g =
        record {
          at = i;
          value_there = omega (arith, g.0, values_length);
          start-there = omega (arith, g.0, starts_count);
          value = value_is i g.0 ∙ g.1;
          start = start_is i g.0 ∙ g.2;
          no_mark = g.3;
        }

    lies : (q i : ℕ) → Under (take n p) q i → LiesUnder p n q i
    lies q i u =
        let h : i < n = omega (arith, u.there, starts_count) in
        record {
          returned = h;
          from = omega (arith, u.before, start_is i h);
          nearest = λ j k w. omega (arith, u.nearest j (omega (arith, starts_count)) (omega (arith, start_is j k)), start_is i h, start_is j k);
        }

    under : (q i : ℕ) → LiesUnder p n q i → Under (take n p) q i
    under q i u =
        record {
          there = omega (arith, u.returned, starts_count);
          before = omega (arith, u.from, start_is i u.returned);
          nearest =
              λ j k w.
              let b : j < n = omega (arith, starts_count) in
              omega (arith, u.nearest j b (omega (arith, start_is j b)), start_is i u.returned, start_is j b);
        }

    one-mark : (q : ℕ) → OneMark (take n o) (take n p) q → UnderOneMark o p n q
    one-mark q w =
        let u = lies q w.item w.under in
        record {
          item = w.item;
          under = u;
          mark = sym (value_is w.item u.returned) ∙ w.mark;
          only = λ j x. w.only j (under q j x);
        }

    pub three-parts : ThreeParts F vs m ws s n o p
    three-parts =
        record {
          values = a.values_are;
          first-starts = first-at;
          middle_starts = middle_at;
          last-starts = last-at;
          rising = rises;
          given =
              λ q v. (
                (λ g. (a.given q v).0 (is_given q v g.0 g.1)),
                (λ x. let g = (a.given q v).1 x in (g.at, as_given q v g)),
              );
          covered = λ q h f. one-mark q (a.covered q h (λ b v g x y. f g.at b v (as_given b v g) x y));
        }

  pub condition_3 : (s d e : List ℕ) (r : JkDecoding) (o p : List ℕ) → DecodesLossyInC F s d e r o p → Condition3 F s d e r o p
  condition_3 s d e r o p c vs m ws a =
      let n = length vs + length (items F m) + length ws in
      let k = marks (items F m) in
      let z = c.promised.demand3 vs m ws a.first a.last a.text a.short a.room.0 a.room.1 in
      let w : r ≡ jk_decoding 0 0 n k = c.numbers ∙ ap decoding_answer z.0 in
      let i : r.items ≡ n = ap (λ (b : JkDecoding). b.items) w in
      record {
        no_fault = ap (λ (b : JkDecoding). b.fault) w;
        items_are = i;
        marks_are = ap (λ (b : JkDecoding). b.marks) w;
        parts = rw i (three-parts vs m ws s n o p refl z.1);
        rest = rw i ((z.2, z.3));
      }

  pub middle_alone : (s d e : List ℕ) (r : JkDecoding) (o p : List ℕ) → DecodesLossyInC F s d e r o p → MiddleAlone F s d e r o p
  middle_alone s d e r o p c vs m ws a f g b xs ys k z =
      let w = condition_3 s d e r o p c vs m ws a in
      let u = (decoded_so F m f g b xs ys k).result z in
      record {
        items_are = w.items_are ∙ ap (λ (n : ℕ). length vs + n + length ws) (sym u.items_are);
        marks_are = w.marks_are ∙ sym u.marks_are;
        values = w.parts.values ∙ ap (λ (t : List ℕ). vs ++ (t ++ ws)) (sym u.values);
        starts =
            λ i j.
            w.parts.middle_starts i (omega (arith, u.items_are))
            ∙ ap (λ (t : ℕ). length (encode_all F vs) + t) (ap (λ (t : List ℕ). get_or t i 0) (sym u.starts) ∙ get_or-take b.items ys i 0 j);
      }

module _ (F : Form) where
  spelled : (es : List (List ℕ)) → AllGood F es → (vs : List ℕ) × AllEncodable F vs × (in_order es ≡ encode_all F vs) × (length es ≡ length vs)
  spelled [] a = ([], tt, refl, refl)
  spelled (e ∷ es) a =
      let r = spelled es a.1 in
      let g = a.0 in (
        g.value ∷ r.0,
        (g.has, r.1),
        ap (λ (x : List ℕ). x ++ in_order es) g.same ∙ ap (λ (x : List ℕ). encode F g.value ++ x) r.2,
        ap suc r.3,
      )

  good : (vs : List ℕ) → AllEncodable F vs → AllGood F (map (encode F) vs) × (in_order (map (encode F) vs) ≡ encode_all F vs)
  good [] a = (tt, refl)
  good (v ∷ vs) a =
      let r = good vs a.1 in
      ((record { value = v; has = a.0; same = refl }, r.0), ap (λ (x : List ℕ). encode F v ++ x) r.1)

  pub good-characters : GoodCharacters F
  good-characters = record { spelled = spelled; good = good }
