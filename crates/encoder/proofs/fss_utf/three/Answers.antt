use mathlib.Core.Path.{◌≡◌, ap, sym}
use mathlib.Core.List.{List, [], ◌∷◌}
use Prim.Native.Nat.{ℕ, ◌+◌, ◌/◌, ◌%◌}
use lib.ListN.{length}
use Rattle.forms.specs.Form.{encode}
use Rattle.forms.specs.Forms.{fss_utf}
use Rattle.encoder.proofs.FssUtf.{three_bytes}
use Rattle.laws.proofs.UnitEncodings.{put_three}
use Rattle.encoder.proofs.fss_utf.three.Goals as goal

pub returns : goal.returns
returns c =
    let spelled : (let v = c.args.value in encode fss_utf v ≡ (0xE0 + v / 4096) ∷ (0x80 + v / 64 % 64) ∷ (0x80 + v % 64) ∷ []) =
    three_bytes c.args.value c.requires.0 c.requires.1 c.requires.2 in
    let a = c.args in
    let v = a.value in
    (ap (λ (e : List ℕ). a.at + length e) (sym spelled), put_three a.dst.now a.at (0xE0 + v / 4096) (0x80 + v / 64 % 64) (0x80 + v % 64) (encode fss_utf v) spelled c.requires.3)
