-- Blocks without surrogates: each unit is a character by itself, and its value.
use Prim.Native.Nat.{ℕ, ◌+◌, ◌-◌, ◌≤◌, ◌<◌}
use mathlib.Core.Path.{◌≡◌, sym}
use mathlib.Core.List.{List, [], ◌∷◌}
use mir.Syntax.{w16}
use mir.Val.{Fits}
use native.Mathlib.Omega.{arith}
use lib.ListN.{length, get_or, drop}
use lib.Seq.{take_at}
use Rattle.forms.specs.Form.{Form, encode, encode_all, span}
use Rattle.forms.specs.Forms.{utf16, fss_utf, ucs4}
use Rattle.forms.specs.Buffer.{with_units}
use Rattle.laws.proofs.Progress.{CharacterAt}
use Rattle.laws.proofs.Runs.{Run, Convertible, Wrote, convertible_run}
use Rattle.laws.proofs.Blocks.{AtMost, NoSurrogates, no_surrogates}
use Rattle.laws.proofs.Values.{part, part_length, Encodable, Encoded, Room, singles_run, singles_encodable, singles_room, own_encodings, wrote_encoded}
use Rattle.laws.proofs.UnitEncodings.{ucs4_outside}
use Rattle.encoder.proofs.FssUtf.{one_byte}
use Rattle.encoder.proofs.Parts.{part_encodable, part_room, part_encoded}
use Rattle.measure_runs.proofs.Utf16Tests.{surrogate_false}
use Rattle.measure_runs.proofs.Utf16Pairs.{alone}

module _
    {G : Form}
    {s : List ℕ}
    {at n m k : ℕ}
    (c : Convertible utf16 G s at n m)
    (inside : at + k ≤ length s)
    (units : (i : ℕ) → Fits w16 (get_or s i 0))
    (p : NoSurrogates s at k) where
  next : (j : ℕ) → j < k → Run utf16 G s at j (encode_all G (part s at j)) → CharacterAt utf16 s (at + j) (get_or s (at + j) 0) (span (at + j) 1)
  next j h r = alone s (at + j) (omega arith) (omega (arith, units (at + j))) (surrogate_false (get_or s (at + j) 0) (p.each j h))

  plain_run : Run utf16 G s at k (encode_all G (part s at k))
  plain_run = singles_run c inside next k (omega arith)

  -- units written as they are
  module _ (own : (j : ℕ) → j < k → encode G (get_or s (at + j) 0) ≡ get_or s (at + j) 0 ∷ []) where
    same : encode_all G (part s at k) ≡ part s at k
    same = own_encodings G s at k inside own

    own_room : n + k ≤ m
    own_room = rw (part_length s at k inside) at (rw same at (convertible_run c plain_run).0)

    own_wrote : {d o : List ℕ} → o ≡ with_units d n (part s at k) → Wrote utf16 G s at k k d n o
    own_wrote e = record { out = part s at k; run = rw same at plain_run; counted = sym (part_length s at k inside); cells = e }

  -- units whose encodings are written
  pub plain_encodable : Encodable G s at k
  plain_encodable = singles_encodable c inside next

  pub plain_room : Room G s at k n m
  plain_room = singles_room c inside next

  pub plain_wrote : {d o : List ℕ} {u : ℕ} → Encoded G s at k d n u o → Wrote utf16 G s at k (u - n) d n o
  plain_wrote x = wrote_encoded plain_run x

  -- units written through a local array b
  module _ {b : List ℕ} (z : List ℕ) (e : b ≡ with_units z 0 (part s at k)) where
    local_part : part b 0 k ≡ part s at k
    local_part = rw e (take_at (part s at k) (drop (0 + length (part s at k)) z) k (part_length s at k inside))

    pub local_encodable : Encodable G (part b 0 k) 0 (length (part b 0 k))
    local_encodable = rw local_part (part_encodable s at k inside plain_encodable)

    pub local-room : Room G (part b 0 k) 0 (length (part b 0 k)) n m
    local-room = rw local_part (part_room s at k inside plain_room)

    pub local_wrote : {d o : List ℕ} {u : ℕ} → Encoded G (part b 0 k) 0 (length (part b 0 k)) d n u o → Wrote utf16 G s at k (u - n) d n o
    local_wrote x = plain_wrote (part_encoded s at k inside (rw local_part at x))

-- ASCII to FSS-UTF, and any to UCS-4
module _ {s : List ℕ} {at n m k : ℕ} (c : Convertible utf16 fss_utf s at n m) (inside : at + k ≤ length s) (units : (i : ℕ) → Fits w16 (get_or s i 0)) (a : AtMost s at k 0x7F) where
  own : (j : ℕ) → j < k → encode fss_utf (get_or s (at + j) 0) ≡ get_or s (at + j) 0 ∷ []
  own j h = one_byte (get_or s (at + j) 0) (omega (arith, a.each j h))

  pub ascii_room : n + k ≤ m
  ascii_room = own_room c inside units (no_surrogates a (omega arith)) own

  pub ascii_wrote : {d o : List ℕ} → o ≡ with_units d n (part s at k) → Wrote utf16 fss_utf s at k k d n o
  ascii_wrote e = own_wrote c inside units (no_surrogates a (omega arith)) own e

module _ {s : List ℕ} {at n m k : ℕ} (c : Convertible utf16 ucs4 s at n m) (inside : at + k ≤ length s) (units : (i : ℕ) → Fits w16 (get_or s i 0)) (p : NoSurrogates s at k) where
  value : (j : ℕ) → j < k → encode ucs4 (get_or s (at + j) 0) ≡ get_or s (at + j) 0 ∷ []
  value j h = ucs4_outside (get_or s (at + j) 0) (surrogate_false (get_or s (at + j) 0) (p.each j h)) (omega (arith, units (at + j)))

  pub widened_room : n + k ≤ m
  widened_room = own_room c inside units p value

  pub widened_wrote : {d o : List ℕ} → o ≡ with_units d n (part s at k) → Wrote utf16 ucs4 s at k k d n o
  widened_wrote e = own_wrote c inside units p value e
