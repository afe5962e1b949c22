-- the map of the entries from this one on
use Prim.Native.Nat.{◌-◌, ◌<◌}
use mathlib.Core.Path.{◌≡◌}
use Rattle.patc.specs.Patc.{map_of}
use Rattle.patc.proofs.valid_map.Given as goal

abbrev pub invariant-loop-number : goal.invariant-loop-number
invariant-loop-number l = (l.map ≡ map_of l.patc l.number (56 - l.number)) × (l.map < 72057594037927936)
