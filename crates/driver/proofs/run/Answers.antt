use Rattle.std.proofs.Common.{rules, ◌≡◌, ◌+◌, ◌-◌, ◌<◌, sym, ◌∙◌, arith}
use Rattle.flight.specs.Ops.{left_of}
use Rattle.flight.specs.Follows.{stays}
use Rattle.driver.specs.Alone.{alone}
use Rattle.driver.specs.Turns.{step_left}
use Rattle.driver.proofs.run.Goals as goal

pub returns-in-Done : goal.returns-in-Done
returns-in-Done c = sym (stays alone _ _ c.in-Done.is) ∙ c.loop-turn.invariant.1

pub loop-turn-preserved : goal.loop-turn-preserved
loop-turn-preserved c =
    let one : 6 - (c.loop-turn._turn + 1) ≡ 6 - c.loop-turn._turn - 1 = omega arith in
    let more : 0 < 6 - c.loop-turn._turn = omega (arith, c.loop-turn-test.true) in
    (search rules, rw (one, c.turn-g.ensures) (step_left alone _ _ more ∙ c.loop-turn.invariant.1))

pub returns : goal.returns
unfolding left_of
returns c = let e : 6 - c.loop-turn._turn ≡ 0 = omega (arith, c.loop-turn-test.false) in rw e at c.loop-turn.invariant.1
