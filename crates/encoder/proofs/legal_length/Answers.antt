use Rattle.tables.specs.declared.ByteForm.TheVariants.{UtfEbcdic}
use Rattle.tables.proofs.ByteLayouts.{carries_character}
use Rattle.encoder.proofs.legal_length.Goals as goal

pub encoded_length-requires-in-UtfEbcdic : goal.encoded_length-requires-in-UtfEbcdic
encoded_length-requires-in-UtfEbcdic c = carries_character UtfEbcdic c.args.value c.requires
