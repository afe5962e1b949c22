-- `no_doubles` meets its contract: a test of the bytes is the test of the words that they hold.
use Rattle.saved.specs.Tests.{no_doubles}
use Rattle.saved.specs.Laws.{sets_bytes, entry_bytes}
use Rattle.saved.proofs.verdict.no_doubles.Goals as goal

pub returns : goal.returns
unfolding no_doubles
returns c = let b = c.args.src.now in
    rw (c.all_apart.ensures, c.sets_apart.ensures, sets_bytes b 532 256, entry_bytes b 81 56)
