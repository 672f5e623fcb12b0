-- The acceptance paper on a page: what holds of every public call, from its contract alone. `proofs/Acceptance` proves it.
use Rattle.acceptance.specs.Calls.{EachForm, EachPair, ConverterCalls, MeasureCalls, DecodingCalls, ReaderCalls, FinderCalls}
use Rattle.acceptance.specs.FaultNumbers.{NoRole, Held, ByteForms, FaultTable, PairTable}
use Rattle.acceptance.specs.Condition1.{ConversionCall, MeasureCall, DecodingCall, ReaderCall, FinderCall}
use Rattle.acceptance.specs.Condition2.{ReadAt, Decoded, Converted, Measured, Room}
use Rattle.acceptance.specs.Condition3.{GoodCharacters, Condition3, MiddleAlone}
use Rattle.acceptance.specs.Places.{ItemFound, Longest}
use Rattle.acceptance.specs.Settled.{SettledPair, SettledForm}
use Rattle.acceptance.specs.Dummies.{NoDummyConverter, NoDummyReader, NotEmpty}

pub record Acceptance : Type 0 where
  -- condition 1
  pub conversions : ConverterCalls (λ F G. ConversionCall)
  pub measures : MeasureCalls (λ F G. MeasureCall)
  pub decodings : DecodingCalls (λ F. DecodingCall)
  pub readers : ReaderCalls (λ F. ReaderCall)
  pub finders : FinderCalls (λ F. FinderCall)
  -- condition 2
  pub reading : ReaderCalls ReadAt
  pub decoding : DecodingCalls Decoded
  pub writing : ConverterCalls Converted
  pub measuring : MeasureCalls Measured
  pub room : Room
  -- condition 3
  pub good-characters : EachForm GoodCharacters
  pub no_neighbour_lost : DecodingCalls Condition3
  pub middle_as_alone : DecodingCalls MiddleAlone
  -- document 01, and requests 103, 104 and 107: fault numbers, places, what acceptance proves
  pub no_role : NoRole
  pub held : Held
  pub byte_forms : ByteForms
  pub fault_table : FaultTable
  pub pair_table : PairTable
  pub found : FinderCalls ItemFound
  pub longest : Longest
  pub pairs_settled : EachPair SettledPair
  pub forms_settled : EachForm SettledForm
  pub no_dummy_converter : EachPair NoDummyConverter
  pub no_dummy_reader : EachForm NoDummyReader
  pub not_empty : DecodingCalls NotEmpty
