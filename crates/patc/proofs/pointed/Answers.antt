use Rattle.state.specs.Own.{pointer_small}
use native.Mathlib.Omega.{arith}
use Rattle.patc.proofs.pointed.Goals as goal

pub invariant_of-result : goal.invariant_of-result
invariant_of-result c = rw c.pointer.ensures (omega (arith, pointer_small c.args.pointer))
