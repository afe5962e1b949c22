-- the entries not yet looked at decide what all of them do
use Prim.Native.Nat.{◌-◌}
use mathlib.Core.Path.{◌≡◌}
use Rattle.patc.specs.Patc.{entry_from, entry_of}
use Rattle.patc.proofs.entry.Given as goal

abbrev pub invariant-loop-number : goal.invariant-loop-number
invariant-loop-number l = entry_from l.patc l.address l.supervisor l.number (56 - l.number) ≡ entry_of l.patc l.address l.supervisor
