use Rattle.std.proofs.Common.{◌≡◌, length, rules}
use Rattle.quick.specs.Quick.{quick_of}
use Rattle.layout.specs.Layout.{ports_kept}
use Rattle.quick.proofs.look.Goals as goal

pub returns : goal.returns
unfolding quick_of
returns c =
    let words : length c.args.unit.now ≡ 16 = search rules in
    rw (c.look.ensures, c.area.ensures, c.bit-write.ensures, c.bit-supervisor.ensures, ← c.plain.ensures, c.if-not-plain.false, ports_kept _ words)
