use mathlib.Core.Path.{sym, ◌∙◌}
use Rattle.patc.specs.Patc.{load_of}
use Rattle.patc.specs.Laws.{slot_some, slot_none}
use Rattle.patc.proofs.load.Goals as goal

pub returns-in-Some : goal.returns-in-Some
unfolding load_of
returns-in-Some c =
    let s = slot_some _ c.in-Some.slot (sym c.free.ensures ∙ c.in-Some.is) in
    rw (c.put.ensures, s.0, s.1)

pub returns-in-None : goal.returns-in-None
unfolding load_of
returns-in-None c = rw (c.stepped.ensures, c.put-in-None.ensures, c.pointed-at.ensures, slot_none _ (sym c.free.ensures ∙ c.in-None.is))
