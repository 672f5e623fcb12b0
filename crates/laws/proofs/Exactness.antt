-- "Each is given exactly then": which outcome a strict conversion has, and when.
use Prim.Native.Nat.{ℕ, ◌+◌, ◌≤◌, ◌<◌}
use mathlib.Core.Path.{◌≡◌, refl, sym, ap, ◌∙◌}
use mathlib.Core.Logic.{◌≢◌, ◌↔◌, ◌⊎◌, inl, inr}
use mathlib.Core.Bool.{Bool, true, false, cond}
use mathlib.Core.List.{List, [], ◌∷◌, ◌++◌}
use mathlib.Core.Option.{Option, none, some}
use native.Mathlib.Omega.{arith}
use native.Mathlib.Decide.{dec_lt}
use borrow.Author.Tests.{le-ltb, lt-ltb}
use lib.Dec.{eqb}
use lib.ListN.{length}
use Rattle.types.specs.declared.Fault.{Fault}
use Rattle.types.specs.declared.Fault.TheVariants.{SourceTooLong, MissingTrailing, StrayTrailing, InvalidUnit, Overlong, Unrepresentable, BufferTooShort}
use Rattle.types.specs.declared.Span.{Span}
use Rattle.types.specs.declared.Item.{Item}
use Rattle.types.specs.declared.Refusal.{Refusal}
use Rattle.forms.specs.Fault.{number_of, limit, refusal}
use Rattle.forms.specs.Form.{Role, lead, trailing, invalid, Sequence, size, Form, sequences, Content, character, mark, overlong, carried, full_content, content_as, content, span, with_span, items_from, items}
use Rattle.laws.specs.Exactness.{AllHeld, encodings, FirstFault, OwnFault, Exact, ExactLength}
use Rattle.laws.proofs.Outcomes.{outcomes_differ, refused-same, converted-same}
use Rattle.laws.proofs.Narrowed.{same-encoding}
use Rattle.forms.specs.Forms.{turned_away, strictly}
use Rattle.forms.specs.Conversion.{converted, refused, encoding, unheld_by, refusal_at, prepend, put, convert_items, outcome, in_room, strict}

module _ (G : Form) where
  all_held : (is : List Item) → AllHeld G is → convert_items G is ≡ converted (encodings G is)
  all_held [] a = refl
  all_held (i ∷ is) a = go (encoding G i) refl a.0 (all_held is a.1)
    where
      go : (e : List ℕ) → encoding G i ≡ e → encoding G i ≢ [] → convert_items G is ≡ converted (encodings G is) → put e (refusal_at G.excluded i) (convert_items G is) ≡ converted (e ++ encodings G is)
      go [] q n h = absurd (n q)
      go (u ∷ e) q n h = ap (prepend (u ∷ e)) h

  first-fault : (is before : List Item) (i : Item) (after : List Item) → is ≡ before ++ (i ∷ after) → AllHeld G before → encoding G i ≡ [] → convert_items G is ≡ refused (refusal_at G.excluded i)
  first-fault is [] i after p a u = ap (convert_items G) p ∙ rw u
  first-fault is (b ∷ bs) i after p a u = ap (convert_items G) p ∙ go (encoding G b) refl a.0 (first-fault (bs ++ (i ∷ after)) bs i after refl a.1 u)
    where
      go :
          (e : List ℕ) → encoding G b ≡ e → encoding G b ≢ [] → convert_items G (bs ++ (i ∷ after)) ≡ refused (refusal_at G.excluded i)
          → put e (refusal_at G.excluded b) (convert_items G (bs ++ (i ∷ after))) ≡ refused (refusal_at G.excluded i)
      go [] q n h = absurd (n q)
      go (w ∷ e) q n h = ap (prepend (w ∷ e)) h

  -- what a list of items comes to: all held, or a first fault
  pub decided : (is : List Item) → AllHeld G is ⊎ ((r : Refusal) × FirstFault G is r)
  decided [] = inl tt
  decided (i ∷ is) = go (encoding G i) refl (decided is)
    where
      go : (e : List ℕ) → encoding G i ≡ e → AllHeld G is ⊎ ((r : Refusal) × FirstFault G is r) → AllHeld G (i ∷ is) ⊎ ((r : Refusal) × FirstFault G (i ∷ is) r)
      go [] q h = inr (refusal_at G.excluded i, record { before = []; item = i; after = is; parts = refl; earlier = tt; unheld = q; given = refl })
      go (u ∷ e) q (inl a) = inl ((λ n. let z : ◌≡◌ {A = ℕ} 0 1 = cc in omega arith), a)
      go (u ∷ e) q (inr f) =
          inr (
            f.0,
            record {
              before = i ∷ f.1.before;
              item = f.1.item;
              after = f.1.after;
              parts = ap {B = List Item} (λ (x : List Item). i ∷ x) f.1.parts;
              earlier = ((λ n. let z : ◌≡◌ {A = ℕ} 0 1 = cc in omega arith), f.1.earlier);
              unheld = f.1.unheld;
              given = f.1.given;
            },
          )

  pub items-converted : (is : List Item) (es : List ℕ) → convert_items G is ≡ converted es ↔ (AllHeld G is × (es ≡ encodings G is))
  items-converted is es = ((λ h. go h (decided is)), (λ w. all_held is w.0 ∙ ap converted (sym w.1)))
    where
      go : convert_items G is ≡ converted es → AllHeld G is ⊎ ((r : Refusal) × FirstFault G is r) → AllHeld G is × (es ≡ encodings G is)
      go h (inl a) = (a, converted-same (sym h ∙ all_held is a))
      go h (inr f) = outcomes_differ (sym (first-fault is f.1.before f.1.item f.1.after f.1.parts f.1.earlier f.1.unheld) ∙ h)

  pub items_refused : (is : List Item) (r : Refusal) → convert_items G is ≡ refused r ↔ FirstFault G is r
  items_refused is r =
      ((λ h. go h (decided is)), (λ f. first-fault is f.before f.item f.after f.parts f.earlier f.unheld ∙ ap refused (sym f.given)))
    where
      go : convert_items G is ≡ refused r → AllHeld G is ⊎ ((q : Refusal) × FirstFault G is q) → FirstFault G is r
      go h (inl a) = outcomes_differ (sym h ∙ all_held is a)
      go h (inr f) =
          let e : r ≡ f.0 = refused-same (sym h ∙ first-fault is f.1.before f.1.item f.1.after f.1.parts f.1.earlier f.1.unheld ∙ ap refused (sym f.1.given)) in
          rw e f.1

-- the faults of the values that a form does not carry are its own
abbrev pub OwnFaults : Form → Type 0
OwnFaults F = (v : ℕ) (f : Fault) → F.excluded v ≡ some f → OwnFault f

pub other_number : (f : Fault) → (number_of f ≡ 1 → ⊥) → (number_of f ≡ 7 → ⊥) → OwnFault f
other_number f a b = ((λ e. a (ap number_of e)), (λ e. b (ap number_of e)))

module _ (F : Form) (own : OwnFaults F) (G : Form) (held : OwnFaults G) where
  abbrev AllOwn : List Item → Type 0
  AllOwn [] = Unit {0}
  AllOwn (i ∷ is) = OwnFault (refusal_at G.excluded i).fault × AllOwn is

  abbrev OwnContent : Content → Type 0
  OwnContent (character v) = Unit {0}
  OwnContent (mark f) = OwnFault f

  own_carried : (v : ℕ) (o : Option Fault) → F.excluded v ≡ o → OwnContent (carried v o)
  own_carried v none e = tt
  own_carried v (some f) e = own v f e

  own_full : (c : Sequence) (b : Bool) → OwnContent (cond b (mark Overlong) (carried (F.value c) (F.excluded (F.value c))))
  own_full c true = other_number Overlong (λ e. omega arith) (λ e. omega arith)
  own_full c false = own_carried (F.value c) (F.excluded (F.value c)) refl

  own_lead : (c : Sequence) (b : Bool) → OwnContent (cond b (full_content F c) (mark MissingTrailing))
  own_lead c true = own_full c (overlong F c)
  own_lead c false = other_number MissingTrailing (λ e. omega arith) (λ e. omega arith)

  own_as : (c : Sequence) (o : Role) → OwnContent (content_as F o c)
  own_as c (lead k) = own_lead c (eqb (length c.rest) k)
  own_as c trailing = other_number StrayTrailing (λ e. omega arith) (λ e. omega arith)
  own_as c invalid = other_number InvalidUnit (λ e. omega arith) (λ e. omega arith)

  own_unheld : (v : ℕ) (o : Option Fault) → G.excluded v ≡ o → OwnFault (unheld_by o)
  own_unheld v none e = other_number Unrepresentable (λ e. omega arith) (λ e. omega arith)
  own_unheld v (some f) e = held v f e

  own_item : (t : Content) (p : Span) → OwnContent t → OwnFault (refusal_at G.excluded (with_span t p)).fault
  own_item (character v) p h = own_unheld v (G.excluded v) refl
  own_item (mark f) p h = h

  all_own : (p : ℕ) (cs : List Sequence) → AllOwn (items_from F p cs)
  all_own p [] = tt
  all_own p (c ∷ cs) = (own_item (content F c) (span p (size c)) (own_as c (F.role c.first)), all_own (p + size c) cs)

  own_in : (before : List Item) (i : Item) (after : List Item) → AllOwn (before ++ (i ∷ after)) → OwnFault (refusal_at G.excluded i).fault
  own_in [] i after a = a.0
  own_in (b ∷ bs) i after a = own_in bs i after a.1

  -- the fault of an item is neither
  pub first_own : (s : List ℕ) (r : Refusal) → FirstFault G (items F s) r → OwnFault r.fault
  first_own s r f =
      let a : AllOwn (f.before ++ (f.item ∷ f.after)) = rw f.parts at (all_own 0 (sequences F s)) in
      rw f.given (own_in f.before f.item f.after a)

-- what is held by the target of strict conversion has the encodings of the form itself
same-encodings : (G : Form) (is : List Item) → AllHeld (strictly G) is → encodings (strictly G) is ≡ encodings G is
same-encodings G [] a = refl
same-encodings G (i ∷ is) a =
    ap (λ (e : List ℕ). e ++ encodings (strictly G) is) (same-encoding turned_away G i a.0) ∙ ap (λ (e : List ℕ). encoding G i ++ e) (same-encodings G is a.1)

all-strict-held : (G : Form) (is : List Item) → AllHeld (strictly G) is → convert_items (strictly G) is ≡ converted (encodings G is)
all-strict-held G is a = all_held (strictly G) is a ∙ ap converted (same-encodings G is a)

module _ (F G : Form) (own : OwnFaults F) (held : OwnFaults (strictly G)) (s : List ℕ) (n : ℕ) where
  abbrev H : Form
  H = strictly G

  abbrev is : List Item
  is = items F s

  over : limit < length s → strict F G s n ≡ refused (refusal SourceTooLong 0)
  over h = rw (lt-ltb limit (length s) h)

  within_the_limit : length s ≤ limit → strict F G s n ≡ in_room n (convert_items H is)
  within_the_limit h = rw (le-ltb limit (length s) h)

  faulty : length s ≤ limit → (r : Refusal) → FirstFault H is r → strict F G s n ≡ refused r
  faulty h r f = within_the_limit h ∙ ap (in_room n) ((items_refused H is r).1 f)

  short : length s ≤ limit → AllHeld H is → n < length (encodings G is) → strict F G s n ≡ refused (refusal BufferTooShort 0)
  short h a l = within_the_limit h ∙ ap (in_room n) (all-strict-held G is a) ∙ rw (lt-ltb n (length (encodings G is)) l)

  fitting : length s ≤ limit → AllHeld H is → length (encodings G is) ≤ n → strict F G s n ≡ converted (encodings G is)
  fitting h a l = within_the_limit h ∙ ap (in_room n) (all-strict-held G is a) ∙ rw (le-ltb n (length (encodings G is)) l)

  -- one of the four, and what it is decides the outcome
  data Case : Type 0 where
    too_long : limit < length s → Case
    at_item : length s ≤ limit → (r : Refusal) → FirstFault H is r → Case
    no_room : length s ≤ limit → AllHeld H is → n < length (encodings G is) → Case
    fits : length s ≤ limit → AllHeld H is → length (encodings G is) ≤ n → Case

  case : Case
  case = go (dec_lt limit (length s)) (decided H is) (dec_lt n (length (encodings G is)))
    where
      go : Dec (limit < length s) → AllHeld H is ⊎ ((r : Refusal) × FirstFault H is r) → Dec (n < length (encodings G is)) → Case
      go (yes h) d l = too_long h
      go (no h) (inr f) l = at_item (omega arith) f.0 f.1
      go (no h) (inl a) (yes l) = no_room (omega arith) a l
      go (no h) (inl a) (no l) = fits (omega arith) a (omega arith)

  faults_differ : {A : Type 0} (f g : Fault) (p q : ℕ) → (f ≡ g → ⊥) → refused (refusal f p) ≡ refused (refusal g q) → A
  faults_differ f g p q d e = absurd (d (ap (λ (r : Refusal). r.fault) (refused-same e)))

  1_not_7 : SourceTooLong ≡ BufferTooShort → ⊥
  1_not_7 e = let z : ◌≡◌ {A = ℕ} 1 7 = ap number_of e in omega arith

  fault_1_when : (p : ℕ) → Case → strict F G s n ≡ refused (refusal SourceTooLong p) → (limit < length s) × (p ≡ 0)
  fault_1_when p (too_long h) e = (h, sym (ap (λ (r : Refusal). r.offset) (refused-same (sym (over h) ∙ e))))
  fault_1_when p (at_item h r f) e = absurd ((first_own F own H held s r f).0 (ap (λ (q : Refusal). q.fault) (refused-same (sym (faulty h r f) ∙ e))))
  fault_1_when p (no_room h a l) e = faults_differ BufferTooShort SourceTooLong 0 p (λ q. 1_not_7 (sym q)) (sym (short h a l) ∙ e)
  fault_1_when p (fits h a l) e = outcomes_differ (sym e ∙ fitting h a l)

  item-fault_when : (r : Refusal) → OwnFault r.fault → Case → strict F G s n ≡ refused r → (length s ≤ limit) × FirstFault H is r
  item-fault_when r o (too_long h) e = absurd (o.0 (ap (λ (q : Refusal). q.fault) (refused-same (sym e ∙ over h))))
  item-fault_when r o (at_item h q f) e = (h, rw (refused-same (sym (faulty h q f) ∙ e)) at f)
  item-fault_when r o (no_room h a l) e = absurd (o.1 (ap (λ (q : Refusal). q.fault) (refused-same (sym e ∙ short h a l))))
  item-fault_when r o (fits h a l) e = outcomes_differ (sym e ∙ fitting h a l)

  fault_7_when :
      (p : ℕ) → Case → strict F G s n ≡ refused (refusal BufferTooShort p)
      → (length s ≤ limit) × AllHeld H is × (n < length (encodings G is)) × (p ≡ 0)
  fault_7_when p (too_long h) e = faults_differ SourceTooLong BufferTooShort 0 p 1_not_7 (sym (over h) ∙ e)
  fault_7_when p (at_item h r f) e = absurd ((first_own F own H held s r f).1 (ap (λ (q : Refusal). q.fault) (refused-same (sym (faulty h r f) ∙ e))))
  fault_7_when p (no_room h a l) e = (h, a, l, sym (ap (λ (r : Refusal). r.offset) (refused-same (sym (short h a l) ∙ e))))
  fault_7_when p (fits h a l) e = outcomes_differ (sym e ∙ fitting h a l)

  result_when :
      (es : List ℕ) → Case → strict F G s n ≡ converted es
      → (length s ≤ limit) × AllHeld H is × (length (encodings G is) ≤ n) × (es ≡ encodings G is)
  result_when es (too_long h) e = outcomes_differ (sym (over h) ∙ e)
  result_when es (at_item h r f) e = outcomes_differ (sym (faulty h r f) ∙ e)
  result_when es (no_room h a l) e = outcomes_differ (sym (short h a l) ∙ e)
  result_when es (fits h a l) e = (h, a, l, converted-same (sym e ∙ fitting h a l))

  pub exact : Exact F G s n
  exact =
      record {
        fault_1 = λ p. (fault_1_when p case, (λ w. over w.0 ∙ ap (λ (q : ℕ). refused (refusal SourceTooLong q)) (sym w.1)));
        item-fault = λ r o. (item-fault_when r o case, (λ w. faulty w.0 r w.1));
        fault_7 = λ p. (fault_7_when p case, (λ w. short w.0 w.1 w.2 ∙ ap (λ (q : ℕ). refused (refusal BufferTooShort q)) (sym w.3)));
        result = λ es. (result_when es case, (λ w. fitting w.0 w.1 w.2 ∙ ap converted (sym w.3)));
      }

module _ (F G : Form) (own : OwnFaults F) (held : OwnFaults (strictly G)) (s : List ℕ) where
  abbrev all : ℕ
  all = length (encodings G (items F s))

  -- a buffer of just the result's length refuses nothing that the measure does not
  roomy : Case F G own held s all → outcome F G s ≡ strict F G s all
  roomy (too_long h) = rw (lt-ltb limit (length s) h)
  roomy (at_item h r f) = rw (le-ltb limit (length s) h, (items_refused (strictly G) (items F s) r).1 f)
  roomy (no_room h a l) = absurd (omega arith)
  roomy (fits h a l) = rw (le-ltb limit (length s) h, all-strict-held G (items F s) a, le-ltb all all (omega arith))

  pub exact_length : ExactLength F G s
  exact_length =
      let q = roomy (case F G own held s all) in
      let e = exact F G own held s all in
      record {
        fault_1 = λ p. ((λ h. (e.fault_1 p).0 (sym q ∙ h)), (λ w. q ∙ (e.fault_1 p).1 w));
        item-fault = λ r o. ((λ h. (e.item-fault r o).0 (sym q ∙ h)), (λ w. q ∙ (e.item-fault r o).1 w));
        no_fault_7 = λ p h. omega (arith, ((e.fault_7 p).0 (sym q ∙ h)).2);
        result = λ es. ((λ h. let w = (e.result es).0 (sym q ∙ h) in (w.0, w.1, w.3)), (λ w. q ∙ (e.result es).1 (w.0, w.1, omega arith, w.2)));
      }
