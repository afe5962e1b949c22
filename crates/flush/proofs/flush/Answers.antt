use Rattle.std.proofs.Common.{◌≡◌, ◌+◌, rules, refl, arith}
use native.Mathlib.Numerals.{add-one}
use Rattle.sweep.specs.Sweep.{well_of, stopped_of, sweep_of}
use Rattle.sweep.specs.Laws.{goes_on, stops}
use Rattle.flush.proofs.flush.Goals as goal

pub loop-p-init : goal.loop-p-init
unfolding sweep_of
loop-p-init c = (search rules, refl, refl)

pub returns-in-Err : goal.returns-in-Err
returns-in-Err c =
    let e : c.loop-p.words + 0 ≡ c.loop-p.words = omega arith in
    rw e at (stops c.args.kind c.args.range c.args.sar c.args.cells.now c.args.lines.now c.args.ram.now c.loop-p.p c.loop-p.words (stopped_of 0 c.in-Err.e.address) c.loop-p.lines c.loop-p.ram c.flush_line.new.lines c.flush_line.new.ram c.loop-p.invariant.2 (rw (← c.at.ensures) c.in-Err.ensures.line) refl c.loop-p-test.true)

pub loop-p-preserved : goal.loop-p-preserved
loop-p-preserved c =
    (search rules, search rules, rw add-one (goes_on _ _ _ _ _ _ c.loop-p.p c.loop-p.words (well_of c.in-Ok.more) _ _ _ _ c.loop-p.invariant.2 (rw (← c.at.ensures) c.in-Ok.ensures.line) refl))
