use mathlib.Core.Path.{sym, ◌∙◌, ap}
use Rattle.hits.specs.Hits.{way_in, hit_by, look_of}
use Rattle.hits.specs.Laws.{clear_some, clear_none}
use Rattle.hits.proofs.look.Goals as goal

pub returns-in-None : goal.returns-in-None
unfolding look_of hit_by
returns-in-None c = rw (clear_none _ (sym (ap way_in c.in-None.is) ∙ c.found.ensures))

pub returns-in-Some : goal.returns-in-Some
unfolding look_of
returns-in-Some c = rw (c.line_of.ensures, clear_some _ _ (sym (ap way_in c.in-Some.is) ∙ c.found.ensures))
