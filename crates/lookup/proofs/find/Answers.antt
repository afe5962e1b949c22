use mathlib.Core.Path.{sym, ◌∙◌}
use Rattle.pages.specs.Laws.{hits_port, no_port}
use Rattle.patc.specs.Laws.{slot_some, slot_none}
use Rattle.lookup.specs.Lookup.{place_of}
use Rattle.lookup.proofs.find.Goals as goal

pub returns-then-not-bit : goal.returns-then-not-bit
unfolding place_of
returns-then-not-bit c = rw (c.unmapped.ensures, ← c.bit.ensures, c.if-not-bit.true)

pub returns-in-Some : goal.returns-in-Some
unfolding place_of
returns-in-Some c =
    let p = hits_port _ c.in-Some.port (sym c.port.ensures ∙ c.in-Some.is) in
    rw (c.block.ensures, ← c.bit.ensures, c.if-not-bit.false, p.0, p.1)

pub returns-in_err-slot : goal.returns-in_err-slot
unfolding place_of
returns-in_err-slot c =
    rw (c.from_residual.ensures, ← c.bit.ensures, c.if-not-bit.false, no_port _ (sym c.port.ensures ∙ c.in_default.is), slot_none _ (sym c.entry.ensures ∙ c.in_err-slot.was))

pub returns : goal.returns
unfolding place_of
returns c =
    let s = slot_some _ c.in_ok-slot.slot (sym c.entry.ensures ∙ c.in_ok-slot.was) in
    rw (c.from.ensures.0, c.paged-t.ensures, c.frame.ensures, ← c.bit.ensures, c.if-not-bit.false, no_port _ (sym c.port.ensures ∙ c.in_default.is), s.0, s.1)
