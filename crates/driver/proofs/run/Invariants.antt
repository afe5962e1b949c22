-- the turns that are left from here are those that were left from the start
use Rattle.std.proofs.Common.{◌≡◌, ◌-◌, length}
use Rattle.flight.specs.Ops.{system, left_of}
use Rattle.driver.specs.Alone.{memory, alone}
use Rattle.driver.proofs.run.Given as goal

abbrev pub invariant-loop-turn : goal.invariant-loop-turn
invariant-loop-turn l =
    (length l.ram ≡ length l.initial.ram)
    × (left_of alone (6 - l._turn) (system l.g l.patc l.lines l.cells (memory l.ram l.rom)) ≡ left_of alone 6 (system l.initial.g l.initial.patc l.initial.lines l.initial.cells (memory l.initial.ram l.rom)))
