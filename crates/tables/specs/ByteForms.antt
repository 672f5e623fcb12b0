-- The two byte forms by one parameter: the form, its layout, and the byte of the layout that each of its bytes stands for.
use Rattle.std.specs.Prelude.{ℕ, suc}
use Rattle.forms.specs.Form.{Role, lead, trailing, invalid, Form}
use Rattle.forms.specs.Layout.{Layout}
use Rattle.forms.specs.Exchange.{i8_of, ebcdic_of}
use Rattle.forms.specs.Forms.{byte_layout, fss_utf, utf_ebcdic}
use Rattle.tables.specs.declared.ByteForm.{ByteForm}
use Rattle.tables.specs.declared.ByteRole.{ByteRole}
use Rattle.tables.specs.declared.ByteRole.TheVariants.{Lead, Trailing, Invalid}
use Rattle.tables.specs.declared.ByteForm.TheVariants.{FssUtf, UtfEbcdic}

abbrev pub byte_form : ByteForm → Form
byte_form FssUtf = fss_utf
byte_form UtfEbcdic = utf_ebcdic

abbrev pub layout_of : ByteForm → Layout
layout_of FssUtf = byte_layout 6 6
layout_of UtfEbcdic = byte_layout 5 7

abbrev pub plain_of : ByteForm → ℕ → ℕ
plain_of FssUtf b = b
plain_of UtfEbcdic b = i8_of b

-- and back: the form's byte that stands for a byte of the layout
abbrev pub unit_of : ByteForm → ℕ → ℕ
unit_of FssUtf b = b
unit_of UtfEbcdic b = ebcdic_of b

-- a role as `role` tells it: a lead by the bytes of its sequence
abbrev pub role_seen : Role → ByteRole
role_seen (lead k) = Lead (suc k)
role_seen trailing = Trailing
role_seen invalid = Invalid
