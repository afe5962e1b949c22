use mathlib.Core.Path.{sym, ◌∙◌}
use Rattle.pages.specs.Laws.{hits_port, no_port}
use Rattle.patc.specs.Laws.{slot_some, slot_none}
use Rattle.hits.specs.Hits.{found_of}
use Rattle.hits.specs.Laws.{page_way, no_page_way}
use Rattle.hits.proofs.found.Goals as goal

pub returns-then-not-bit : goal.returns-then-not-bit
unfolding found_of
returns-then-not-bit c = rw (c.clear.ensures, c.unmapped.ensures, ← c.bit.ensures, c.if-not-bit.true)

pub returns-in-Some : goal.returns-in-Some
unfolding found_of
returns-in-Some c =
    let p = hits_port _ c.in-Some.port (sym c.port.ensures ∙ c.in-Some.is) in
    rw (c.clear-in-Some.ensures, c.block.ensures, ← c.bit.ensures, c.if-not-bit.false, p.0, p.1)

pub returns-in_err-slot : goal.returns-in_err-slot
unfolding found_of
returns-in_err-slot c =
    rw (c.from_residual.ensures, ← c.bit.ensures, c.if-not-bit.false, no_port _ (sym c.port.ensures ∙ c.in_default.is), slot_none _ (sym c.entry.ensures ∙ c.in_err-slot.was))

pub returns-then-write-t : goal.returns-then-write-t
unfolding found_of
returns-then-write-t c =
    let s = slot_some _ c.in_ok-slot.slot (sym c.entry.ensures ∙ c.in_ok-slot.was) in
    rw (← c.bit.ensures, c.if-not-bit.false, no_port _ (sym c.port.ensures ∙ c.in_default.is), s.0, s.1, ← c.frame.ensures, ← c.paged-t.ensures, no_page_way _ _ _ c.if-write-t.true)

pub returns : goal.returns
unfolding found_of
returns c =
    let s = slot_some _ c.in_ok-slot.slot (sym c.entry.ensures ∙ c.in_ok-slot.was) in
    rw (← c.bit.ensures, c.if-not-bit.false, no_port _ (sym c.port.ensures ∙ c.in_default.is), s.0, s.1, ← c.frame.ensures, ← c.paged-t.ensures, page_way _ _ _ c.if-write-t.false) c.clear-2.ensures
