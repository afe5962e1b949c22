use Rattle.pages.specs.Laws.{find_port}
use Rattle.pages.proofs.port.Goals as goal

pub returns : goal.returns
returns c = rw (c.keyed.ensures, c.block_key.ensures) (find_port _ _ _)
