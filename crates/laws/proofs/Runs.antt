-- Runs of characters: what a conversion may take in one step, how runs are put together, and what they come to.
use Prim.Native.Nat.{ℕ, zero, suc, ◌+◌, ◌*◌, ◌-◌, ◌≤◌, ◌<◌}
use mathlib.Core.Path.{◌≡◌, refl, sym, ap, ◌∙◌}
use mathlib.Core.Logic.{◌≢◌}
use mathlib.Core.List.{List, [], ◌∷◌, ◌++◌}
use native.Mathlib.Omega.{arith}
use native.Mathlib.Nat.{add-zero, add_assoc}
use native.Mathlib.Numerals.{add-one}
use native.Mathlib.Decide.{dec_lt}
use lib.ListN.{length, get_or, set, take, length-append}
use lib.Seq.{take-suc, length-take-le}
use Rattle.types.specs.declared.Fault.{Fault}
use Rattle.types.specs.declared.Span.{Span}
use Rattle.types.specs.declared.Item.{Item}
use Rattle.types.specs.declared.Item.TheVariants.{Character, Mark}
use Rattle.forms.specs.Form.{Form, span, span_of, item_of, encode}
use Rattle.forms.specs.Buffer.{with_units}
use Rattle.forms.specs.Conversion.{converted, encoding, refusal_at, prepend, convert_items}
use Rattle.laws.proofs.Items.{items_onward, sequence_at, items_step, length_at}
use Rattle.laws.proofs.Outcomes.{prepend-converted, put_some, put-converted}
use Rattle.laws.proofs.Blocks.{Copied}
use Rattle.laws.proofs.Buffers.{copy_end, with_none, with_one, with_join, length_with}
use Rattle.laws.proofs.Progress.{CharacterAt, MarkAt, Progress, character-onward, prepend-none, prepend_twice}

-- k units from `at` on are whole characters, and become the units `out`
pub record Run (F G : Form) (s : List ℕ) (at k : ℕ) (out : List ℕ) : Type 0 where
  pub inside : at + k ≤ length s
  pub comes : convert_items G (items_onward F s at) ≡ prepend out (convert_items G (items_onward F s (at + k)))

-- what a function that counts promises: k units from `at` on are whole characters, which become u units
pub record Counted (F G : Form) (s : List ℕ) (at k u : ℕ) : Type 0 where
  pub out : List ℕ
  pub run : Run F G s at k out
  pub counted : u ≡ length out
  pub small : u ≤ 7 * k

-- what a function that writes promises: they were written from the cell n on
pub record Wrote (F G : Form) (s : List ℕ) (at k u : ℕ) (d : List ℕ) (n : ℕ) (o : List ℕ) : Type 0 where
  pub out : List ℕ
  pub run : Run F G s at k out
  pub counted : u ≡ length out
  pub cells : o ≡ with_units d n out

-- what it may ask: the items from `at` on come to a result, for which m cells have room from n on
pub record Convertible (F G : Form) (s : List ℕ) (at n m : ℕ) : Type 0 where
  pub rest : List ℕ
  pub comes : convert_items G (items_onward F s at) ≡ converted rest
  pub fits : n + length rest ≤ m

-- a character stands at p
pub record Stands (F : Form) (s : List ℕ) (p : ℕ) : Type 0 where
  pub value : ℕ
  pub place : Span
  pub here : CharacterAt F s p value place

onward : (F : Form) (s : List ℕ) (p : ℕ) (i : Item) → p < length s → i ≡ item_of F p (sequence_at F s p) → items_onward F s p ≡ i ∷ items_onward F s (p + (span_of i).length)
onward F s p i h e = items_step F s p h ∙ rw (e, length_at F s p h)

module _ {F G : Form} {s : List ℕ} where
  pub run_none : {at : ℕ} → at ≤ length s → Run F G s at 0 []
  run_none {at} h = record { inside = omega arith; comes = rw (add-zero at) (prepend-none (convert_items G (items_onward F s at))) }

  pub run_join : {at k l : ℕ} {a b : List ℕ} → Run F G s at k a → Run F G s (at + k) l b → Run F G s at (k + l) (a ++ b)
  run_join {at} {k} {l} {a} {b} r q =
      record {
        inside = omega (arith, q.inside);
        comes =
            r.comes
            ∙ ap (prepend a) q.comes
            ∙ prepend_twice a b (convert_items G (items_onward F s (at + k + l)))
            ∙ ap (λ (n : ℕ). prepend (a ++ b) (convert_items G (items_onward F s n))) (add_assoc at k l);
      }

  -- one character is a run
  pub run_one : {p v : ℕ} {q : Span} → CharacterAt F s p v q → encode G v ≢ [] → Run F G s p q.length (encode G v)
  run_one {p} {v} {q} c n =
      record {
        inside = (character-onward c).1;
        comes = ap (convert_items G) (onward F s p (Character v q) c.inside c.is) ∙ put_some (encode G v) (refusal_at G.excluded (Character v q)) (convert_items G (items_onward F s (p + q.length))) n;
      }

  -- units that are characters by themselves, each of which becomes one cell of b
  pub run_block : {at : ℕ} (b : List ℕ) (k : ℕ) → at ≤ length s → k ≤ length b → ((j : ℕ) → j < k → Run F G s (at + j) 1 (get_or b j 0 ∷ [])) → Run F G s at k (take k b)
  run_block b zero h l f = run_none h
  run_block {at} b (suc k) h l f =
      let r = run_join (run_block b k h (omega arith) (λ j m. f j (omega arith))) (f k (omega arith)) in
      rw (take-suc b k 0 (omega arith), ← add-one k) r

  pub progress_run : {at k : ℕ} {done out : List ℕ} → Progress F G s at done → Run F G s at k out → Progress F G s (at + k) (done ++ out)
  progress_run {at} {k} {done} {out} p r =
      record {
        within = r.inside;
        whole = p.whole ∙ ap (prepend done) r.comes ∙ prepend_twice done out (convert_items G (items_onward F s (at + k)));
      }

  -- where the items from `at` on come to a result, so do those behind a run, and the run has room
  pub convertible_run : {at k n m : ℕ} {out : List ℕ} → Convertible F G s at n m → Run F G s at k out → (n + length out ≤ m) × Convertible F G s (at + k) (n + length out) m
  convertible_run {at} {k} {n} {m} {out} c r =
      let q = prepend-converted out c.rest (convert_items G (items_onward F s (at + k))) (sym r.comes ∙ c.comes) in
      let l : length c.rest ≡ length out + length q.0 = ap length q.2 ∙ length-append out q.0 in
      (omega (arith, c.fits, l), record { rest = q.0; comes = q.1; fits = omega (arith, c.fits, l) })

  convertible_put : {at n m : ℕ} (i : Item) → at < length s → i ≡ item_of F at (sequence_at F s at) → Convertible F G s at n m → encoding G i ≢ []
  convertible_put {at} {n} {m} i h e c =
      (put-converted (encoding G i) c.rest (refusal_at G.excluded i) (convert_items G (items_onward F s (at + (span_of i).length)))
      (sym (ap (convert_items G) (onward F s at i h e)) ∙ c.comes)).0

  -- the first of them is a character
  pub convertible_stands : {at n m : ℕ} → at < length s → Convertible F G s at n m → Stands F s at
  convertible_stands {at} h c = go (item_of F at (sequence_at F s at)) refl
    where
      go : (i : Item) → i ≡ item_of F at (sequence_at F s at) → Stands F s at
      go (Character v q) e = record { value = v; place = q; here = record { inside = h; is = e } }
      go (Mark f q) e = absurd (convertible_put (Mark f q) h e c refl)

  -- a character among them has an encoding in the target
  pub convertible_character : {at n m v : ℕ} {q : Span} → Convertible F G s at n m → CharacterAt F s at v q → encode G v ≢ []
  convertible_character {at} {n} {m} {v} {q} c a = convertible_put (Character v q) a.inside a.is c

  -- and no mark is among them
  pub convertible_mark : {A : Type 0} {at n m : ℕ} {f : Fault} {q : Span} → Convertible F G s at n m → MarkAt F s at f q → A
  convertible_mark {A} {at} {n} {m} {f} {q} c a = absurd (convertible_put (Mark f q) a.inside a.is c refl)

  pub counted_none : {at : ℕ} → at ≤ length s → Counted F G s at 0 0
  counted_none h = record { out = []; run = run_none h; counted = refl; small = omega arith }

  pub counted_join : {at k l u w : ℕ} → Counted F G s at k u → Counted F G s (at + k) l w → Counted F G s at (k + l) (u + w)
  counted_join a b =
      record {
        out = a.out ++ b.out;
        run = run_join a.run b.run;
        counted = omega (arith, a.counted, b.counted, length-append a.out b.out);
        small = omega (arith, a.small, b.small);
      }

  pub counted-one :
      {p v n : ℕ} {q : Span} → CharacterAt F s p v q → n ≡ length (encode G v) → (n ≡ 0 → ⊥) → length (encode G v) ≤ 7 → Counted F G s p q.length n
  counted-one {p} {v} {n} c l z b =
      record {
        out = encode G v;
        run = run_one c (λ y. z (l ∙ ap length y));
        counted = l;
        small = omega (arith, character-onward c);
      }

module _ {F G : Form} {s : List ℕ} where
  pub wrote_none : {at n : ℕ} {d : List ℕ} → at ≤ length s → Wrote F G s at 0 0 d n d
  wrote_none {at} {n} {d} h = record { out = []; run = run_none h; counted = refl; cells = with_none d n }

  pub wrote_join :
      {at k l u w n : ℕ} {d o p : List ℕ} → n + u ≤ length d → Wrote F G s at k u d n o → Wrote F G s (at + k) l w o (n + u) p → Wrote F G s at (k + l) (u + w) d n p
  wrote_join {at} {k} {l} {u} {w} {n} {d} {o} {p} h a b =
      record {
        out = a.out ++ b.out;
        run = run_join a.run b.run;
        counted = omega (arith, a.counted, b.counted, length-append a.out b.out);
        cells = b.cells ∙ rw (a.cells, a.counted) (with_join d a.out b.out n (rw a.counted at h));
      }

  -- nothing was written
  pub wrote_idle : {at n : ℕ} {d o : List ℕ} → Wrote F G s at 0 0 d n o → o ≡ d
  wrote_idle {at} {n} {d} {o} a = go a.out a.counted a.cells
    where
      go : (x : List ℕ) → 0 ≡ length x → o ≡ with_units d n x → o ≡ d
      go [] e w = w ∙ sym (with_none d n)
      go (y ∷ ys) e w = absurd (omega arith)

  -- a block of single units, copied out of a local array
  pub wrote_block :
      {at n c k : ℕ} {b d o : List ℕ} → at ≤ length s → length b ≡ c → ((j : ℕ) → j < c → Run F G s (at + j) 1 (get_or b j 0 ∷ [])) → Copied d n c b k o → c ≤ k
      → Wrote F G s at c c d n o
  wrote_block {at} {n} {c} {k} {b} {d} {o} h l f e y =
      record {
        out = take c b;
        run = run_block b c h (omega arith) f;
        counted = sym (length-take-le c b (omega arith));
        cells = e.cells ∙ copy_end d n b c k (omega (arith, e.most)) (omega arith);
      }

  -- the buffer keeps its length
  pub wrote_length : {at k u n : ℕ} {d o : List ℕ} → n + u ≤ length d → Wrote F G s at k u d n o → length o ≡ length d
  wrote_length {at} {k} {u} {n} {d} {o} h a = length_with d a.out o n a.cells (omega (arith, a.counted))

  -- one character written by its encoding
  pub wrote_one :
      {p v n m : ℕ} {q : Span} {d o : List ℕ} → CharacterAt F s p v q → encode G v ≢ [] → m ≡ n + length (encode G v) → o ≡ with_units d n (encode G v)
      → Wrote F G s p q.length (m - n) d n o
  wrote_one {p} {v} {n} {m} c h e w = record { out = encode G v; run = run_one c h; counted = omega arith; cells = w }

  -- what was written leaves the rest convertible
  pub wrote_convertible : {at k u n m : ℕ} {d o : List ℕ} → Convertible F G s at n m → Wrote F G s at k u d n o → (n + u ≤ m) × Convertible F G s (at + k) (n + u) m
  wrote_convertible c a = rw a.counted (convertible_run c a.run)

-- the loop that writes character by character: what was written, and that the rest is convertible
pub record WritingRun (F G : Form) (s : List ℕ) (at n : ℕ) (d : List ℕ) (k u : ℕ) (o : List ℕ) : Type 0 where
  pub wrote : Wrote F G s at k u d n o
  pub left : Convertible F G s (at + k) (n + u) (length d)
  pub room : n + u ≤ length d
  pub same : length o ≡ length d

module _ {F G : Form} {s : List ℕ} {at n : ℕ} {d : List ℕ} where
  pub writing_run_begin : at ≤ length s → Convertible F G s at n (length d) → WritingRun F G s at n d 0 0 d
  writing_run_begin h c =
      record {
        wrote = wrote_none h;
        left = rw (add-zero at, add-zero n) c;
        room = omega (arith, c.fits);
        same = refl;
      }

  module _ {k u : ℕ} {o : List ℕ} (w : WritingRun F G s at n d k u o) where
    -- a character stands where the next is to be read
    pub writing_run_stands : at + k < length s → Stands F s (at + k)
    writing_run_stands h = convertible_stands h w.left

    module _ {v : ℕ} {q : Span} (c : CharacterAt F s (at + k) v q) where
      -- the target holds it, and has room for it
      pub writing_run_held : (encode G v ≢ []) × (n + u + length (encode G v) ≤ length o)
      writing_run_held =
          let h = convertible_character w.left c in
          (h, omega (arith, (convertible_run w.left (run_one c h)).0, w.same))

      pub writing_run_more : {m : ℕ} {p : List ℕ} → m ≡ n + u + length (encode G v) → p ≡ with_units o (n + u) (encode G v) → WritingRun F G s at n d (k + q.length) (m - n) p
      writing_run_more {m} {p} e x =
          let h = writing_run_held in
          let one = wrote_one c h.0 e x in
          let y : u + (m - (n + u)) ≡ m - n = omega arith in
          let j : Wrote F G s at (k + q.length) (m - n) d n p = rw y at (wrote_join w.room w.wrote one) in
          let r = run_one {G = G} c h.0 in
          let l = convertible_run w.left r in
          let a : at + k + q.length ≡ at + (k + q.length) = omega arith in
          let b : n + u + length (encode G v) ≡ n + (m - n) = omega arith in
          record {
            wrote = j;
            left = rw (a, b) at l.1;
            room = omega (arith, l.0);
            same = length_with o (encode G v) p (n + u) x h.1 ∙ w.same;
          }

      -- a character of one unit
      pub writing_run_unit : {x : ℕ} → encode G v ≡ x ∷ [] → (n + u < length o) × WritingRun F G s at n d (k + q.length) (u + 1) (set o (n + u) x)
      writing_run_unit {x} e =
          let l : length (encode G v) ≡ 1 = ap length e in
          let r : n + u < length o = omega (arith, writing_run_held.1) in
          let c : set o (n + u) x ≡ with_units o (n + u) (encode G v) = with_one o (n + u) x r ∙ ap (with_units o (n + u)) (sym e) in
          let y : n + u + 1 - n ≡ u + 1 = omega arith in
          (r, rw y at (writing_run_more {m = n + u + 1} (ap (λ (j : ℕ). n + u + j) (sym l)) c))

-- the loop that writes block by block, a unit for each unit
pub record CopyingRun (F G : Form) (s : List ℕ) (at n : ℕ) (d : List ℕ) (k : ℕ) (o : List ℕ) : Type 0 where
  pub wrote : Wrote F G s at k k d n o
  pub room : n + k ≤ length d
  pub same : length o ≡ length d

module _ {F G : Form} {s : List ℕ} {at n : ℕ} {d : List ℕ} where
  pub copying_run_begin : at ≤ length s → n ≤ length d → CopyingRun F G s at n d 0 d
  copying_run_begin h l = record { wrote = wrote_none h; room = omega arith; same = refl }

  pub copying_run_more :
      {k x : ℕ} {o p : List ℕ} → CopyingRun F G s at n d k o → n + k + x ≤ length o → Wrote F G s (at + k) x x o (n + k) p → CopyingRun F G s at n d (k + x) p
  copying_run_more c h w =
      record {
        wrote = wrote_join c.room c.wrote w;
        room = omega (arith, c.same);
        same = wrote_length h w ∙ c.same;
      }

  pub copying_run_idle : {k x : ℕ} {o p : List ℕ} → CopyingRun F G s at n d k o → x ≡ 0 → Wrote F G s (at + k) x x o (n + k) p → CopyingRun F G s at n d k p
  copying_run_idle {k} {x} {o} {p} c z w =
      let e : p ≡ o = wrote_idle (rw z at w) in
      record { wrote = rw e c.wrote; room = c.room; same = ap length e ∙ c.same }

  -- what is written behind no block
  pub copying_run_then : {k l w : ℕ} {o p : List ℕ} → CopyingRun F G s at n d k o → k ≡ 0 → Wrote F G s at l w o n p → Wrote F G s at l w d n p
  copying_run_then {k} {l} {w} {o} {p} c z x = let e : o ≡ d = wrote_idle (rw z at c.wrote) in rw e at x

-- units that are characters by themselves, each of which becomes one unit
pub counted-units : {F G : Form} {s : List ℕ} {at : ℕ} (k : ℕ) → at ≤ length s → ((j : ℕ) → j < k → Counted F G s (at + j) 1 1) → Counted F G s at k k
counted-units zero h f = counted_none h
counted-units {F} {G} {s} {at} (suc k) h f = rw (← add-one k) (counted_join (counted-units k h (λ j m. f j (omega arith))) (f k (omega arith)))

-- the sum of a function's values at k numbers from `at` on
unfoldable pub sum : (ℕ → ℕ) → ℕ → ℕ → ℕ
sum a at zero = 0
sum a at (suc k) = sum a at k + a (at + k)

pub sum_zero : (a : ℕ → ℕ) (at : ℕ) → sum a at 0 ≡ 0
unfolding sum
sum_zero a at = refl

pub sum_more : (a : ℕ → ℕ) (at k : ℕ) → sum a at (k + 1) ≡ sum a at k + a (at + k)
unfolding sum
sum_more a at k = rw (add-one k)

pub sum_join : (a : ℕ → ℕ) (at j k : ℕ) → sum a at (j + k) ≡ sum a at j + sum a (at + j) k
sum_join a at j zero = rw (add-zero j, sum_zero a (at + j)) (sym (add-zero (sum a at j)))
sum_join a at j (suc k) =
    let e : j + suc k ≡ j + k + 1 = omega arith in
    let f : at + (j + k) ≡ at + j + k = omega arith in
    let g : sum a (at + j) (suc k) ≡ sum a (at + j) k + a (at + j + k) = rw (← add-one k) (sum_more a (at + j) k) in
    rw (e, sum_more a at (j + k), sum_join a at j k, f, g) (add_assoc (sum a at j) (sum a (at + j) k) (a (at + j + k)))

pub sum_most : (a : ℕ → ℕ) (m at k : ℕ) → ((i : ℕ) → a i ≤ m) → sum a at k ≤ m * k
sum_most a m at zero h = omega (arith, sum_zero a at)
sum_most a m at (suc k) h =
    let g : sum a at (suc k) ≡ sum a at k + a (at + k) = rw (← add-one k) (sum_more a at k) in
    let e : m * suc k ≡ m * k + m = omega arith in
    omega (arith, g, e, sum_most a m at k h, h (at + k))

-- at a place where a character may begin, one stands that ends by e, where the next may begin; its units count a at each place
pub record Next (F G : Form) (s : List ℕ) (e : ℕ) (a : ℕ → ℕ) (Border : ℕ → Type 0) (at : ℕ) : Type 0 where
  pub value : ℕ
  pub long : ℕ
  pub character : CharacterAt F s at value (span at long)
  pub held : encode G value ≢ []
  pub within : at + long ≤ e
  pub counted : sum a at long ≡ length (encode G value)
  pub few : length (encode G value) ≤ 7
  pub border : Border (at + long)

-- so the units between two such places are whole characters
pub between :
    {F G : Form} {s : List ℕ} (Border : ℕ → Type 0) (a : ℕ → ℕ) (from e : ℕ) → ((p : ℕ) → from ≤ p → p < e → Border p → Next F G s e a Border p)
    → (fuel at : ℕ) → from ≤ at → at ≤ e → e ≤ at + fuel → e ≤ length s → Border at → Counted F G s at (e - at) (sum a at (e - at))
between {F} {G} {s} Border a from e next zero at h l m i b =
    let q : e - at ≡ 0 = omega arith in
    rw (q, sum_zero a at) (counted_none (omega arith))
between {F} {G} {s} Border a from e next (suc fuel) at h l m i b = go (dec_lt at e) (between Border a from e next fuel)
  where
    go :
        Dec (at < e) → ((to : ℕ) → from ≤ to → to ≤ e → e ≤ to + fuel → e ≤ length s → Border to → Counted F G s to (e - to) (sum a to (e - to)))
        → Counted F G s at (e - at) (sum a at (e - at))
    go (yes d) again =
        let n = next at h d b in
        let some = character-onward n.character in
        let q : n.long + (e - (at + n.long)) ≡ e - at = omega (arith, n.within) in
        let one : Counted F G s at n.long (sum a at n.long) = counted-one n.character n.counted (λ z. omega (arith, z, some, absent (encode G n.value) n.held (sym n.counted ∙ z))) n.few in
        let rest = again (at + n.long) (omega (arith, some)) n.within (omega (arith, some)) i n.border in
        rw (← q, sum_join a at n.long (e - (at + n.long))) (counted_join one rest)
      where
        absent : (x : List ℕ) → x ≢ [] → length x ≡ 0 → ◌≡◌ {A = ℕ} 0 1
        absent [] f z = absurd (f refl)
        absent (y ∷ ys) f z = omega arith
    go (no d) again =
        let q : e - at ≡ 0 = omega arith in
        rw (q, sum_zero a at) (counted_none (omega arith))
