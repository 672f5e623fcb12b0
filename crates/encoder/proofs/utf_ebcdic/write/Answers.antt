use mathlib.Core.Path.{◌≡◌, ap, sym, ◌∙◌}
use mathlib.Core.List.{List, [], ◌∷◌}
use Prim.Native.Nat.{ℕ, ◌+◌, ◌/◌, ◌%◌}
use lib.ListN.{length}
use Rattle.forms.specs.Form.{encode}
use Rattle.forms.specs.Exchange.{ebcdic_of}
use Rattle.forms.specs.Forms.{utf_ebcdic}
use Rattle.encoder.proofs.UtfEbcdic.{same-one, same-two, same-three, same-four, one_byte, two_bytes, three_bytes, four_bytes}
use Rattle.laws.proofs.UnitEncodings.{put_one, put_two, put_three, put_four}
use Rattle.encoder.proofs.utf_ebcdic.write.Goals as goal

pub returns-then-value-lt160 : goal.returns-then-value-lt160
returns-then-value-lt160 c =
    let one : (let v = c.args.value in encode utf_ebcdic v ≡ ebcdic_of v ∷ []) =
    one_byte c.args.value c.if-value-lt160.true in
    let v = c.args.value in let e = one ∙ same-one (sym c.unit.ensures) in
    (ap (λ (x : List ℕ). c.args.at + length x) (sym e), put_one c.args.dst.now c.args.at c.unit.result (encode utf_ebcdic v) e c.requires.1)

pub returns-then-value-lt1024 : goal.returns-then-value-lt1024
returns-then-value-lt1024 c =
    let two : (let v = c.args.value in encode utf_ebcdic v ≡ ebcdic_of (0xC0 + v / 32) ∷ ebcdic_of (0xA0 + v % 32) ∷ []) =
    two_bytes c.args.value c.if-value-lt160.false c.if-value-lt1024.true in
    let v = c.args.value in let e = two ∙ same-two (sym c.unit-then-value-lt1024.ensures) (sym c.unit-then-value-lt1024-2.ensures) in
    (ap (λ (x : List ℕ). c.args.at + length x) (sym e), put_two c.args.dst.now c.args.at c.unit-then-value-lt1024.result c.unit-then-value-lt1024-2.result (encode utf_ebcdic v) e c.requires.1)

pub returns-then-value-lt16384 : goal.returns-then-value-lt16384
returns-then-value-lt16384 c =
    let three : (let v = c.args.value in encode utf_ebcdic v ≡ ebcdic_of (0xE0 + v / 1024) ∷ ebcdic_of (0xA0 + v / 32 % 32) ∷ ebcdic_of (0xA0 + v % 32) ∷ []) =
    three_bytes c.args.value c.if-value-lt1024.false c.if-value-lt16384.true in
    let v = c.args.value in let e = three ∙ same-three (sym c.unit-then-value-lt16384.ensures) (sym c.unit-then-value-lt16384-2.ensures) (sym c.unit-then-value-lt16384-3.ensures) in
    (ap (λ (x : List ℕ). c.args.at + length x) (sym e), put_three c.args.dst.now c.args.at c.unit-then-value-lt16384.result c.unit-then-value-lt16384-2.result c.unit-then-value-lt16384-3.result (encode utf_ebcdic v) e c.requires.1)

pub returns-then-value-lt262144 : goal.returns-then-value-lt262144
returns-then-value-lt262144 c =
    let four : (let v = c.args.value in
    encode utf_ebcdic v ≡ ebcdic_of (0xF0 + v / 32768) ∷ ebcdic_of (0xA0 + v / 1024 % 32) ∷ ebcdic_of (0xA0 + v / 32 % 32) ∷ ebcdic_of (0xA0 + v % 32) ∷ []) =
    four_bytes c.args.value c.requires.0 c.if-value-lt16384.false c.if-value-lt262144.true in
    let v = c.args.value in let e = four ∙ same-four (sym c.unit-then-value-lt262144.ensures) (sym c.unit-then-value-lt262144-2.ensures) (sym c.unit-then-value-lt262144-3.ensures) (sym c.unit-then-value-lt262144-4.ensures) in
    (ap (λ (x : List ℕ). c.args.at + length x) (sym e), put_four c.args.dst.now c.args.at c.unit-then-value-lt262144.result c.unit-then-value-lt262144-2.result c.unit-then-value-lt262144-3.result c.unit-then-value-lt262144-4.result (encode utf_ebcdic v) e c.requires.1)
