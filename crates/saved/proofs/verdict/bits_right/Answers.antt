-- `bits_right` meets its contract: a test of the bytes is the test of the words that they hold.
use Rattle.saved.specs.declared.Layout.TheVariants.{Entries, Sets}
use Rattle.saved.specs.Tests.{bits_right}
use Rattle.saved.specs.Laws.{own_bytes, order_bytes}
use Rattle.saved.proofs.verdict.bits_right.Goals as goal

pub returns : goal.returns
unfolding bits_right
returns c = let b = c.args.src.now in
    rw (c.all_orders.ensures, c.all_own-2.ensures, c.all_own.ensures, c.registers_own.ensures, c.pair_at.ensures, c.registers_at.ensures, own_bytes b 81 Entries 112, own_bytes b 532 Sets 1280, order_bytes b 532 256)
