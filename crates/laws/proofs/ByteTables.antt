-- Document 01's table of the byte layouts, applied: what its rows say of FSS-UTF, of I8 and, after the exchange, of UTF-EBCDIC, and that no full
-- sequence there is as short as the shortest of its value but this one.
use Prim.Native.Nat.{ℕ, suc, ◌+◌, ◌≤◌, ◌<◌}
use mathlib.Core.Path.{◌≡◌, refl, ap, ◌∙◌}
use mathlib.Core.Bool.{true}
use mathlib.Core.List.{List, [], ◌∷◌, map}
use native.Mathlib.Omega.{arith}
use lib.ListN.{length, length-map}
use Rattle.forms.specs.Form.{Sequence, units, size}
use Rattle.forms.specs.Layout.{Row, Layout, form_of}
use Rattle.forms.specs.LayoutTable.{TableRow, fss_utf_table, i8_table, table_rows_of, table_of}
use Rattle.forms.specs.Exchange.{i8_of, ebcdic_of}
use Rattle.forms.specs.Forms.{byte_layout, fss_utf, i8, utf_ebcdic}
use Rattle.laws.specs.LayoutTable.{Full, Says, EachRow, SaysExchanged, OnlyShortest}
use Rattle.laws.proofs.LayoutLaws.{Fit}
use Rattle.laws.proofs.AscendingRows.{ascending, limit_positive}
use Rattle.laws.proofs.LayoutTable.{table_says, shortest-least, shortest-only}
use Rattle.laws.proofs.Exchanged.{exchanged_sequence, full_to, units_again}
use Rattle.laws.proofs.ExchangeTable.{there, again}
use Rattle.laws.proofs.FourForms.{fss_utf_fits, i8_fits, i8_laws}

module _ (L : Layout) (ok : ascending L ≡ true) where
  rows_say : (k : ℕ) (rs : List Row) → k + length rs ≡ length L.rows → EachRow (Says L) k (table_rows_of L k rs)
  rows_say k [] e = tt
  rows_say k (r ∷ rs) e =
      let h : k < length L.rows = omega arith in
      (table_says L ok k h (limit_positive L ok k h), rows_say (suc k) rs (omega arith))

  pub each-row_says : EachRow (Says L) 0 (table_of L)
  each-row_says = rows_say 0 L.rows (omega arith)

pub fss_utf_says : EachRow (Says (byte_layout 6 6)) 0 fss_utf_table
fss_utf_says = each-row_says (byte_layout 6 6) refl

pub i8_says : EachRow (Says (byte_layout 5 7)) 0 i8_table
i8_says = each-row_says (byte_layout 5 7) refl

rows-exchanged : (k : ℕ) (rs : List TableRow) → EachRow (Says (byte_layout 5 7)) k rs → EachRow SaysExchanged k rs
rows-exchanged k [] a = tt
rows-exchanged k (r ∷ rs) a =
    (record { leads = λ b. a.0.leads (i8_of b); values = λ v. rw (length-map (i8.shortest v) ebcdic_of) (a.0.values v) }, rows-exchanged (suc k) rs a.1)

pub utf_ebcdic_says : EachRow SaysExchanged 0 i8_table
utf_ebcdic_says = rows-exchanged 0 i8_table i8_says

only-shortest : (L : Layout) → Fit L → OnlyShortest (form_of L)
only-shortest L fits = record { least = shortest-least L fits; only = shortest-only L fits }

pub fss_utf-shortest : OnlyShortest fss_utf
fss_utf-shortest = only-shortest (byte_layout 6 6) fss_utf_fits

pub i8-shortest : OnlyShortest i8
i8-shortest = only-shortest (byte_layout 5 7) i8_fits

module _ (c : Sequence) (f : Full utf_ebcdic c) where
  abbrev i8_sequence : Sequence
  i8_sequence = exchanged_sequence i8_of c

  full : Full i8 (exchanged_sequence i8_of c)
  full = full_to i8_of ebcdic_of i8 there again i8_laws c f

  same_length : length (utf_ebcdic.shortest (utf_ebcdic.value c)) ≡ length (i8.shortest (i8.value i8_sequence))
  same_length = length-map (i8.shortest (i8.value i8_sequence)) ebcdic_of

  exchanged-least : length (utf_ebcdic.shortest (utf_ebcdic.value c)) ≤ size c
  exchanged-least = omega (arith, i8-shortest.least i8_sequence full, same_length, length-map c.rest i8_of)

  exchanged-only : length (utf_ebcdic.shortest (utf_ebcdic.value c)) ≡ size c → utf_ebcdic.shortest (utf_ebcdic.value c) ≡ units c
  exchanged-only e =
      ap (map ebcdic_of) (i8-shortest.only i8_sequence full (omega (arith, e, same_length, length-map c.rest i8_of)))
      ∙ units_again i8_of ebcdic_of i8 there again i8_laws c f

pub utf_ebcdic-shortest : OnlyShortest utf_ebcdic
utf_ebcdic-shortest = record { least = exchanged-least; only = exchanged-only }
