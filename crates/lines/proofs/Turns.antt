-- The loop that lists a text: what it keeps, how a turn changes it, and what it comes to.
use Prim.Native.Nat.{ℕ, ◌+◌, ◌*◌, ◌≤◌, ◌<◌}
use mathlib.Core.Path.{◌≡◌, refl, ap, ◌∙◌}
use mathlib.Core.List.{List, [], ◌∷◌, ◌++◌, append_assoc, append-nil}
use native.Mathlib.Omega.{arith}
use lib.ListN.{length, drop, get_or}
use Rattle.types.specs.declared.Item.{Item}
use Rattle.types.specs.declared.Item.TheVariants.{Character, Mark}
use Rattle.forms.specs.Form.{size, span_of, items}
use Rattle.forms.specs.Forms.{fss_utf}
use Rattle.forms.specs.Lossy.{mark_count, marks}
use Rattle.forms.specs.Buffer.{with_units, Holds}
use Rattle.laws.proofs.Spans.{size-longest}
use Rattle.laws.proofs.Items.{items_onward, sequence_at, items-end, items_step, length_at, offset_at, within-at}
use Rattle.laws.proofs.FourForms.{fss_utf_laws}
use Rattle.items.specs.ItemAt.{item_at}
use Rattle.lines.specs.Listing.{header, line, lines, total, listing_of}
use Rattle.laws.proofs.Buffers.{holds_first, holds_more, length_with}

-- since the loop began at (written₀, out₀) the lines `added` were put in; they and those of the items from `at` on are all the lines
pub record Listed (s : List ℕ) (written₀ : ℕ) (out₀ out : List ℕ) (written at count marked : ℕ) : Type 0 where
  pub added : List ℕ
  pub within : at ≤ length s
  pub holds : (d t : List ℕ) → Holds d t written₀ out₀ → Holds d (t ++ added) written out
  pub lists : lines (items fss_utf s) ≡ added ++ lines (items_onward fss_utf s at)
  pub counted : length (items fss_utf s) ≡ count + length (items_onward fss_utf s at)
  pub marks_are : marks (items fss_utf s) ≡ marked + marks (items_onward fss_utf s at)
  pub room : written ≤ written₀ + 18 * at
  pub most : count ≤ at
  pub fewer : marked ≤ count
  pub cells : length out ≡ length out₀

pub listed_begin : (s : List ℕ) (written₀ : ℕ) (out₀ : List ℕ) → Listed s written₀ out₀ out₀ written₀ 0 0 0
listed_begin s written₀ out₀ =
    record {
      added = [];
      within = omega arith;
      holds = λ d t h. rw (append-nil t) h;
      lists = refl;
      counted = omega arith;
      marks_are = omega arith;
      room = omega arith;
      most = omega arith;
      fewer = omega arith;
      cells = refl;
    }

-- the buffer when the header was put in
pub header_put :
    (d out₀ : List ℕ) (written₀ : ℕ) → written₀ ≡ 0 + length header → out₀ ≡ with_units d 0 header → 18 ≤ length d
    → Holds d header written₀ out₀ × (length out₀ ≡ length d)
header_put d out₀ written₀ q w h = (holds_first d header out₀ written₀ q w, length_with d header out₀ 0 w (omega arith))

-- a line is put where its end says that it is
pub placed_at :
    (out text after : List ℕ) (at from to : ℕ) → to ≡ at + length text → after ≡ with_units out at text → to ≡ from + length text
    → after ≡ with_units out from text
placed_at out text after at from to e w q =
    let z : at ≡ from = omega (arith, e, q) in w ∙ ap (λ (x : ℕ). with_units out x text) z

pub mark-most : (i : Item) → mark_count i ≤ 1
mark-most (Character v p) = omega arith
mark-most (Mark f p) = omega arith

module _ (s : List ℕ) (p : ℕ) (h : p < length s) (i : Item) (e : i ≡ item_at fss_utf s p) where
  pub item-length : (span_of i).length ≡ size (sequence_at fss_utf s p)
  item-length = ap (λ (x : Item). (span_of x).length) e ∙ length_at fss_utf s p h

  pub item-offset : (span_of i).offset ≡ p
  item-offset = ap (λ (x : Item). (span_of x).offset) e ∙ offset_at fss_utf s p h

  pub item-short : (span_of i).length ≤ 6
  item-short = omega (arith, item-length, size-longest fss_utf fss_utf_laws (omega arith) (get_or s p 0) (drop (p + 1) s))

  pub item-within : p + (span_of i).length ≤ length s
  item-within = omega (arith, item-length, within-at fss_utf s p h)

  -- the items from here on are this one and those behind it
  onward : items_onward fss_utf s p ≡ i ∷ items_onward fss_utf s (p + (span_of i).length)
  onward = items_step fss_utf s p h ∙ rw (e, length_at fss_utf s p h)

  pub listed_more :
      (written₀ : ℕ) (out₀ out : List ℕ) (written count marked : ℕ) → Listed s written₀ out₀ out written p count marked
      → (text after : List ℕ) (to m : ℕ) → text ≡ line i → length text ≤ 18 → to ≡ written + length text → after ≡ with_units out written text → length after ≡ length out
      → m ≡ mark_count i → Listed s written₀ out₀ after to (p + (span_of i).length) (count + 1) (marked + m)
  listed_more written₀ out₀ out written count marked l text after to m t b q w c k =
      let z : (span_of i).length ≡ size (sequence_at fss_utf s p) = item-length in
      record {
        added = l.added ++ text;
        within = omega (arith, within-at fss_utf s p h);
        holds = λ d u a. rw (← append_assoc u l.added text) (holds_more d (u ++ l.added) text out after written to (l.holds d u a) q w);
        lists = l.lists ∙ ap (λ (x : List Item). l.added ++ lines x) onward ∙ rw (t, append_assoc l.added (line i));
        counted = l.counted ∙ ap (λ (x : List Item). count + length x) onward ∙ omega arith;
        marks_are = l.marks_are ∙ ap (λ (x : List Item). marked + marks x) onward ∙ rw k (omega arith);
        room = omega (arith, l.room);
        most = omega (arith, l.most);
        fewer = omega (arith, l.fewer, mark-most i);
        cells = c ∙ l.cells;
      }

-- at the end of the text all lines are there, behind the header, and the total follows
pub listed_end :
    (s : List ℕ) (d out₀ out after : List ℕ) (written₀ written at count marked to : ℕ) → Listed s written₀ out₀ out written at count marked → length s ≤ at
    → Holds d header written₀ out₀ → (text : List ℕ) → text ≡ total count marked → to ≡ written + length text → after ≡ with_units out written text
    → Holds d (listing_of (items fss_utf s)) to after
listed_end s d out₀ out after written₀ written at count marked to l h b text t q w =
    let n : items_onward fss_utf s at ≡ [] = items-end fss_utf s at h in
    let a : lines (items fss_utf s) ≡ l.added = l.lists ∙ rw n (append-nil l.added) in
    let c : length (items fss_utf s) ≡ count = l.counted ∙ rw n (omega arith) in
    let m : marks (items fss_utf s) ≡ marked = l.marks_are ∙ rw n (omega arith) in
    let r = holds_more d (header ++ l.added) text out after written to (l.holds d header b) q w in
    let e : (header ++ l.added) ++ text ≡ listing_of (items fss_utf s) = rw (a, c, m, t) (append_assoc header l.added (total count marked)) in
    rw e at r
