use Rattle.std.proofs.Common.{rules}
use Rattle.lookup.specs.Laws.{permit_by}
use Rattle.lookup.proofs.permit.Goals as goal

pub returns : goal.returns
returns c = permit_by _ _ _ _ _ c.protection.ensures (search rules)
