-- the places passed are swept, and none has stopped
use Rattle.std.proofs.Common.{◌≡◌, ◌*◌, ◌≤◌, length}
use Rattle.sweep.specs.Sweep.{swept, well_of, sweep_of}
use Rattle.flush.proofs.flush.Given as goal

abbrev pub invariant-loop-p : goal.invariant-loop-p
invariant-loop-p l =
    (l.words ≤ 4 * l.p) × (length l.ram ≡ length l.initial.ram) × (swept (well_of l.words) l.lines l.ram ≡ sweep_of l.kind l.range l.sar l.cells l.initial.lines l.initial.ram l.p)
