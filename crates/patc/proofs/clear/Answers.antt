use mathlib.Core.Path.{refl}
use Rattle.std.proofs.Common.{add-one}
use Rattle.patc.specs.Patc.{cleared_to}
use Rattle.patc.proofs.clear.Goals as goal

pub loop-number-init : goal.loop-number-init
unfolding cleared_to
loop-number-init c = refl

pub loop-number-preserved : goal.loop-number-preserved
unfolding cleared_to
loop-number-preserved c = rw (add-one, c.cleared.ensures, ← c.loop-number.invariant)
