-- The table of document 01, "Byte layouts", as printed there: leads and values for each number of bytes.
use Rattle.std.specs.Prelude.{ℕ, suc, ◌-◌, List, [], ◌∷◌}
use Rattle.forms.specs.Layout.{Layout, Row, row_at, row_limit, lowest_of}

pub record TableRow : Type 0 where
  pub first_lead : ℕ
  pub last_lead : ℕ
  pub lowest : ℕ
  pub highest : ℕ

abbrev pub table_row : ℕ → ℕ → ℕ → ℕ → TableRow
table_row a b l h = record { first_lead = a; last_lead = b; lowest = l; highest = h }

abbrev pub fss_utf_table : List TableRow
fss_utf_table =
    table_row 0x00 0x7F 0x0 0x7F ∷
    table_row 0xC0 0xDF 0x80 0x7FF ∷
    table_row 0xE0 0xEF 0x800 0xFFFF ∷
    table_row 0xF0 0xF7 0x10000 0x1FFFFF ∷
    table_row 0xF8 0xFB 0x200000 0x3FFFFFF ∷
    table_row 0xFC 0xFD 0x4000000 0x7FFFFFFF ∷
    []

abbrev pub i8_table : List TableRow
i8_table =
    table_row 0x00 0x9F 0x0 0x9F ∷
    table_row 0xC0 0xDF 0xA0 0x3FF ∷
    table_row 0xE0 0xEF 0x400 0x3FFF ∷
    table_row 0xF0 0xF7 0x4000 0x3FFFF ∷
    table_row 0xF8 0xFB 0x40000 0x3FFFFF ∷
    table_row 0xFC 0xFD 0x400000 0x3FFFFFF ∷
    table_row 0xFE 0xFF 0x4000000 0x7FFFFFFF ∷
    []

-- the row of a layout's table for k trailing units
abbrev pub table_row_of : Layout → ℕ → TableRow
table_row_of L k = table_row (row_at L k).first (row_at L k).last (lowest_of L k) (row_limit L k - 1)

abbrev pub table_rows_of : Layout → ℕ → List Row → List TableRow
table_rows_of L k [] = []
table_rows_of L k (r ∷ rs) = table_row_of L k ∷ table_rows_of L (suc k) rs

abbrev pub table_of : Layout → List TableRow
table_of L = table_rows_of L 0 L.rows
