-- The shadow flags of UTF-EBCDIC bytes: document 01, "Byte layouts".
use Rattle.std.specs.Prelude.{ℕ, zero, suc, cond}
use Rattle.forms.specs.Form.{Role, lead, trailing, invalid}
use Rattle.forms.specs.Layout.{within}
use Rattle.forms.specs.Exchange.{i8_of}
use Rattle.forms.specs.Forms.{i8}

-- 0 where the I8 byte is 00-1F or 7F-9F, 1 where 20-7E, 2 to 7 for the lead of that many bytes, 9 for trailing; no I8 byte has 8
abbrev pub flag_for : Role → ℕ → ℕ
flag_for (lead zero) x = cond (within 0x20 0x7E x) 1 0
flag_for (lead (suc k)) x = suc (suc k)
flag_for trailing x = 9
flag_for invalid x = 8

-- the shadow flag of a UTF-EBCDIC byte
abbrev pub flag_of : ℕ → ℕ
flag_of b = flag_for (i8.role (i8_of b)) (i8_of b)
