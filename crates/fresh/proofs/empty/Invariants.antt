-- the places passed are fresh, the others as they were
use Prim.Native.Nat.{◌≤◌}
use mathlib.Core.Path.{◌≡◌}
use mathlib.Core.List.{◌++◌}
use lib.ListN.{length, drop}
use Rattle.order.specs.Laws.{table}
use Rattle.fresh.specs.Fresh.{fresh_word}
use Rattle.fresh.proofs.empty.Given as goal

abbrev pub invariant-loop-i : goal.invariant-loop-i
invariant-loop-i l = (l.i ≤ length l.initial.lines) × (length l.lines ≡ length l.initial.lines) × (l.lines ≡ table fresh_word 0 l.i ++ drop l.i l.initial.lines)
