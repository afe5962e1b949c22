use Prim.Native.Nat.{◌+◌, ◌*◌, ◌-◌, ◌<◌}
use mathlib.Core.Path.{◌≡◌, refl, sym}
use native.Mathlib.Omega.{arith}
use native.Mathlib.Nat.{lt_of_lt_of_le}
use lib.Pow.{pow_mono}
use Rattle.patc.specs.Patc.{map_of}
use Rattle.patc.specs.Laws.{map_small, map_step}
use Rattle.patc.proofs.valid_map.Goals as goal

pub loop-number-init : goal.loop-number-init
unfolding map_of
loop-number-init c = (refl, omega arith)

pub loop-number-preserved : goal.loop-number-preserved
loop-number-preserved c =
    let l : 0 < c.loop-number.number = c.loop-number-test.true in
    let e : c.loop-number.map * 2 + c.valid.result ≡ map_of c.args.patc.now (c.loop-number.number - 1) (56 - (c.loop-number.number - 1)) =
    rw (c.valid.ensures.0, c.loop-number.invariant.0) (sym (map_step _ _ 56 l c.loop-number.auto.number)) in
    (e, rw e (lt_of_lt_of_le (map_small _ _ _) (pow_mono {j = 56} (omega arith))))
