-- the entries below this one are cleared
use mathlib.Core.Path.{◌≡◌}
use Rattle.patc.specs.Patc.{cleared_to}
use Rattle.patc.proofs.clear.Given as goal

abbrev pub invariant-loop-number : goal.invariant-loop-number
invariant-loop-number l = l.patc ≡ cleared_to l.range l.supervisor l.address l.initial.patc l.number
