use Prim.Native.Nat.{◌<◌}
use mathlib.Core.Path.{refl}
use Rattle.runs_from_fss_utf.proofs.ShortRuns.{short_run_begin, short_run_room, short_run_more, short_run_end}
use native.Mathlib.Omega.{arith}
use Rattle.runs_from_fss_utf.proofs.to_units.short64.Goals as goal

pub loop-k-init : goal.loop-k-init
loop-k-init g c = short_run_begin (λ v y. g.met.F.WideForm.below v (omega arith)) (omega (arith, c.requires.0)) (rw (g.met.F.TargetForm.counted _) c.requires.2)

pub put_value-requires : goal.put_value-requires
put_value-requires g c = rw (g.met.F.TargetForm.counted _) at (short_run_room (λ v y. g.met.F.WideForm.below v (omega arith)) c.loop-k.invariant (omega (arith, c.requires.0, c.last_start-last.ensures.within, c.loop-k-test.true)))

pub loop-k-preserved : goal.loop-k-preserved
loop-k-preserved g c = let l = c.loop-k in
    let h : l.k < 64 = omega (arith, c.last_start-last.ensures.within, c.loop-k-test.true) in
    rw (c.put_value.ensures, c.from-to.ensures)
    (short_run_more (λ v y. g.met.F.WideForm.below v (omega arith)) l.invariant (omega (arith, c.requires.0)) (c.requires.1.all.each l.k h) (c.values64-values.ensures.held.each l.k h) (c.begun64-begun.ensures.held.each l.k h))

pub put_value-requires-2 : goal.put_value-requires-2
put_value-requires-2 g c = rw (g.met.F.TargetForm.counted _) at (short_run_room (λ v y. g.met.F.WideForm.below v (omega arith)) c.loop-k.invariant (omega (arith, c.requires.0, c.last_start-last.ensures.within, c.loop-k.auto.k-end)))

pub returns-then-src-at-lt128 : goal.returns-then-src-at-lt128
returns-then-src-at-lt128 g c =
    let h = c.last_start-last.ensures in
    let r = c.last_start-last.result in
    let k : r < 64 = omega (arith, h.within) in
    rw c.put_value-2.ensures
    (short_run_end (λ v y. g.met.F.WideForm.below v (omega arith)) c.loop-k.invariant c.loop-k.auto.k-end c.loop-k-test.false (omega (arith, c.requires.0, h.within)) h (c.requires.1.all.each r k) (c.values64-values.ensures.held.each r k) (λ a. refl) (λ a. absurd (omega (arith, a, c.if-src-at-lt128.true))))

pub returns : goal.returns
returns g c =
    let h = c.last_start-last.ensures in
    let r = c.last_start-last.result in
    let k : r < 64 = omega (arith, h.within) in
    rw c.put_value-2.ensures
    (short_run_end (λ v y. g.met.F.WideForm.below v (omega arith)) c.loop-k.invariant c.loop-k.auto.k-end c.loop-k-test.false (omega (arith, c.requires.0, h.within)) h (c.requires.1.all.each r k) (c.values64-values.ensures.held.each r k) (λ a. absurd (omega (arith, a, c.if-src-at-lt128.false))) (λ a. refl))

pub overflow_add-to : goal.overflow_add-to
overflow_add-to g c =
    let h = c.last_start-last.ensures.within in
    let k : c.loop-k.k < 64 = omega (arith, h, c.loop-k-test.true) in
    omega (arith, rw (g.met.F.TargetForm.counted _) at (short_run_room (λ v y. g.met.F.WideForm.below v (omega arith)) c.loop-k.invariant (omega (arith, c.requires.0, c.last_start-last.ensures.within, c.loop-k-test.true))), c.from-to.ensures, (c.begun64-begun.ensures.held.each c.loop-k.k k).most, c.loop-k.auto.dst, c.well_formed)

pub overflow_add-units : goal.overflow_add-units
overflow_add-units g c = omega (arith, rw (g.met.F.TargetForm.counted _) at (short_run_room (λ v y. g.met.F.WideForm.below v (omega arith)) c.loop-k.invariant (omega (arith, c.requires.0, c.last_start-last.ensures.within, c.loop-k.auto.k-end))), c.loop-k.auto.dst, c.well_formed)
