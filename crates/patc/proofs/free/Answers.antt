use Rattle.patc.specs.Patc.{free_of}
use Rattle.patc.specs.Laws.{free_zeros}
use lib.Count.{count_trailing_zeros}
use Prim.Native.Nat.{◌-◌}
use mathlib.Core.Path.{◌≡◌, sym}
use Rattle.patc.proofs.free.Goals as goal

pub returns : goal.returns
returns c = let e : count_trailing_zeros 64 (18446744073709551615 - c.valid_map.result) ≡ free_of c.args.patc.now = rw c.valid_map.ensures.0 (sym (free_zeros _ 0 56)) in
    rw (c.new.ensures, e)
