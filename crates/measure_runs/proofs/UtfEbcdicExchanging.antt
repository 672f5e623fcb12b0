-- Bytes of UTF-EBCDIC that stand for I8 bytes below A0: characters by themselves.
use Prim.Native.Nat.{ℕ, ◌+◌, ◌≤◌, ◌<◌}
use mathlib.Core.Path.{◌≡◌}
use mathlib.Core.List.{List, [], ◌∷◌, map}
use native.Mathlib.Omega.{arith}
use lib.ListN.{length, get_or}
use Rattle.forms.specs.Form.{Form, span, encode}
use Rattle.forms.specs.Exchange.{i8_of}
use Rattle.forms.specs.Forms.{utf_ebcdic, strictly}
use Rattle.laws.proofs.Blocks.{AtMost, Held, Copied}
use Rattle.laws.proofs.Carried.{free_below}
use Rattle.laws.proofs.Progress.{CharacterAt}
use Rattle.laws.proofs.Runs.{Run, run_one, Counted, counted-units, Wrote, wrote_block}
use Rattle.tables.specs.declared.ByteForm.TheVariants.{UtfEbcdic}
use Rattle.items.proofs.Plain.{plain_at}
use Rattle.characters.proofs.ByteCharacters.{one_byte}
use Rattle.encoder.specs.Target.{target_form}
use Rattle.encoder.specs.declared.Target.{Target}
use Rattle.encoder.proofs.Targets.{counted_ascii}

module _ (s : List ℕ) (p : ℕ) where
  -- the I8 byte at an offset
  pub exchanged-at : get_or (map i8_of s) p 0 ≡ i8_of (get_or s p 0)
  exchanged-at = plain_at UtfEbcdic s p

  pub single_at : p < length s → i8_of (get_or s p 0) < 0xA0 → CharacterAt utf_ebcdic s p (i8_of (get_or s p 0)) (span p 1)
  single_at h l =
      one_byte UtfEbcdic s p (omega arith) {v = i8_of (get_or s p 0)} (record { inside = omega arith; from = omega arith; to = omega arith }) (omega arith)
      (free_below (i8_of (get_or s p 0)) (omega arith))

pub ascii_counted : (t : Target) {s : List ℕ} {at k : ℕ} → at + k ≤ length s → AtMost (map i8_of s) at k 127 → Counted utf_ebcdic (strictly (target_form t)) s at k k
ascii_counted t {s} {at} {k} h a =
    counted-units k (omega arith)
    (λ j i.
    let l : i8_of (get_or s (at + j) 0) < 0x80 = omega (arith, a.each j i, exchanged-at s (at + j)) in
    counted_ascii t (single_at s (at + j) (omega arith) (omega arith)) l)

-- an ASCII character that is written as itself
ascii_run : {G : Form} {s : List ℕ} {p x : ℕ} → p < length s → i8_of (get_or s p 0) < 0x80 → encode G (i8_of (get_or s p 0)) ≡ i8_of (get_or s p 0) ∷ [] → x ≡ i8_of (get_or s p 0) → Run utf_ebcdic G s p 1 (x ∷ [])
ascii_run {G} {s} {p} {x} h l e q =
    let r = run_one {G = G} (single_at s p h (omega arith)) (λ n. let z : ◌≡◌ {A = ℕ} 0 1 = cc in omega arith) in
    rw (q, ← e) r

-- a block of them, out of a local array
pub ascii_wrote :
    {G : Form} {s b d o : List ℕ} {at n i k m c : ℕ} → ((v : ℕ) → v < 0x80 → encode G v ≡ v ∷ []) → at + c ≤ length s → AtMost (map i8_of s) at i m → m < 0x80
    → Held i8_of s at c i b → c ≤ i → Copied d n c b k o → c ≤ k → Wrote utf_ebcdic G s at c c d n o
ascii_wrote {G} {s} {b} {d} {o} {at} {n} {i} {k} {m} {c} e h a l w f y g =
    wrote_block (omega arith) w.long
    (λ j x.
    let v : i8_of (get_or s (at + j) 0) < 0x80 = omega (arith, a.each j (omega arith), exchanged-at s (at + j)) in
    ascii_run (omega arith) v (e (i8_of (get_or s (at + j) 0)) v) (w.each j (omega arith)))
    y g
