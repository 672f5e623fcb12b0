-- The form that a text is converted to.
use Rattle.forms.specs.Form.{Form}
use Rattle.forms.specs.Forms.{fss_utf, utf_ebcdic, utf16, ucs4}
use Rattle.encoder.specs.declared.Target.{Target}
use Rattle.encoder.specs.declared.Target.TheVariants.{FssUtf, UtfEbcdic, Utf16, Ucs4}

abbrev pub target_form : Target → Form
target_form FssUtf = fss_utf
target_form UtfEbcdic = utf_ebcdic
target_form Utf16 = utf16
target_form Ucs4 = ucs4
