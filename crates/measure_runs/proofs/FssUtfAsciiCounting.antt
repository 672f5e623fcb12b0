-- ASCII in FSS-UTF: counted, and written as itself.
use Prim.Native.Nat.{ℕ, ◌+◌, ◌≤◌, ◌<◌}
use mathlib.Core.Path.{◌≡◌, refl}
use mathlib.Core.List.{List, [], ◌∷◌}
use native.Mathlib.Omega.{arith}
use lib.ListN.{length, get_or, set, drop}
use Rattle.forms.specs.Form.{Form, span, encode}
use Rattle.forms.specs.Forms.{byte_layout, fss_utf, strictly}
use Rattle.laws.proofs.Blocks.{AtMost}
use Rattle.laws.proofs.Carried.{free_below}
use Rattle.laws.proofs.Progress.{CharacterAt}
use Rattle.laws.proofs.ReadUnits.{read-units}
use Rattle.laws.proofs.Buffers.{with_one}
use Rattle.laws.proofs.Runs.{Run, run_one, Counted, counted-units, CopyingRun, copying_run_more}
use Rattle.encoder.specs.Target.{target_form}
use Rattle.encoder.specs.declared.Target.{Target}
use Rattle.encoder.proofs.Targets.{counted_ascii}

-- an ASCII character has one byte in FSS-UTF
pub ascii_at : (s : List ℕ) (p : ℕ) → p < length s → get_or s p 0 < 0x80 → CharacterAt fss_utf s p (get_or s p 0) (span p 1)
ascii_at s p h l =
    read-units (byte_layout 6 6) refl s p [] (drop (p + 1) s) (get_or s p 0) h refl tt (omega arith) (omega arith) (omega arith) (omega arith) (omega arith)
    (free_below (get_or s p 0) (omega arith))

module _ {s : List ℕ} {at : ℕ} where
  pub ascii_counted : (t : Target) {k : ℕ} → at + k ≤ length s → AtMost s at k 127 → Counted fss_utf (strictly (target_form t)) s at k k
  ascii_counted t {k} h a =
      counted-units k (omega arith)
      (λ j i.
      let l : get_or s (at + j) 0 < 0x80 = omega (arith, a.each j i) in
      counted_ascii t (ascii_at s (at + j) (omega arith) l) l)

-- an ASCII character that is written as itself
pub ascii_run : {G : Form} {s : List ℕ} {p x : ℕ} → p < length s → get_or s p 0 < 0x80 → encode G (get_or s p 0) ≡ get_or s p 0 ∷ [] → x ≡ get_or s p 0 → Run fss_utf G s p 1 (x ∷ [])
ascii_run {G} {s} {p} {x} h l e q =
    let r = run_one {G = G} (ascii_at s p h l) (λ n. let z : ◌≡◌ {A = ℕ} 0 1 = cc in omega arith) in
    rw (q, ← e) r

-- one more of them, copied into a buffer
pub ascii_more :
    {G : Form} {s d o : List ℕ} {at n k x : ℕ} → CopyingRun fss_utf G s at n d k o → at + k < length s → n + k < length o → get_or s (at + k) 0 < 0x80
    → encode G (get_or s (at + k) 0) ≡ get_or s (at + k) 0 ∷ [] → x ≡ get_or s (at + k) 0 → CopyingRun fss_utf G s at n d (k + 1) (set o (n + k) x)
ascii_more {G} {s} {d} {o} {at} {n} {k} {x} c h r l e q =
    copying_run_more c (omega arith) (record { out = x ∷ []; run = ascii_run h l e q; counted = refl; cells = with_one o (n + k) x r })
