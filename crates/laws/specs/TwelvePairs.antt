-- What a caller of the converter and of the measure of each pair of forms has besides their contracts.
use Rattle.std.specs.Prelude.{ℕ, ◌≤◌, ◌<◌, ◌≡◌, ◌≢◌, ◌⊎◌, List, [], length, take, Ok}
use Rattle.types.specs.declared.Fault.TheVariants.{Unrepresentable, NonCharacter}
use Rattle.forms.specs.Fault.{limit}
use Rattle.forms.specs.Form.{Form, encode, encode_all, AllEncodable}
use Rattle.forms.specs.Forms.{strictly}
use Rattle.forms.specs.Conversion.{converted, unheld_by, outcome, Converts}
use Rattle.laws.specs.Exactness.{Exact, ExactLength}
use Rattle.laws.specs.RoundTrip.{RoundTrip}
use Rattle.laws.specs.Room.{Room}

-- what an accepted text is: characters of values that both forms have encodings of, FFFE and FFFF not among them; and its result: their
-- encodings in the other
pub record Accepted (F G : Form) (s es : List ℕ) : Type 0 where
  pub values : List ℕ
  pub source : s ≡ encode_all F values
  pub result : es ≡ encode_all G values
  pub from : AllEncodable F values
  pub to : AllEncodable (strictly G) values

pub record Pair (F G : Form) (most : ℕ → ℕ) : Type 0 where
  -- each answer is given exactly when document 01 says so
  pub answers : (s : List ℕ) (n : ℕ) → Exact F G s n
  pub lengths : (s : List ℕ) → ExactLength F G s
  -- what is read are legal encodings, and what is written the legal encodings of the same values
  pub characters : (s d : List ℕ) (n : ℕ) (o : List ℕ) → Converts F G s d (Ok n) o → Accepted F G s (take n o)
  -- and every text of such values is accepted
  pub accepts : (vs : List ℕ) → AllEncodable F vs → AllEncodable (strictly G) vs → length (encode_all F vs) ≤ limit → outcome F G (encode_all F vs) ≡ converted (encode_all G vs)
  -- the fault of a character that is not written: 12, of FFFE and FFFF (request 110), or 6, which "is left with values above 10FFFF" (request
  -- 104) that the target does not hold
  pub unheld :
      (v : ℕ) → encode F v ≢ [] → encode (strictly G) v ≡ [] → let f = unheld_by ((strictly G).excluded v) in
      ((f ≡ NonCharacter) × (0xFFFE ≤ v) × (v ≤ 0xFFFF)) ⊎ ((f ≡ Unrepresentable) × (0x10FFFF < v) × (encode G v ≡ []))
  -- an accepted text of n units has a result of at most so many
  pub room : Room F G most
  -- and comes back from the other form as it was
  pub back : RoundTrip F G
