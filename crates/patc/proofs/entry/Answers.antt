use Prim.Native.Nat.{ℕ, ◌*◌, ◌<◌, ◌≤◌}
use mathlib.Core.Path.{◌≡◌}
use Rattle.std.proofs.Common.{List, Bool, eqb, slice_index_or}
use Rattle.state.specs.Own.{own_tag}
use Rattle.pages.specs.Pages.{page_word_of}
use borrow.Author.Tests.{eq-eqb, ne_eqb, lt-ltb, le-ltb}
use Rattle.patc.specs.Patc.{entry_hits, entry_of, page_word}
use Rattle.patc.specs.Laws.{key, entry_step, entry_end}
use Rattle.patc.proofs.entry.Goals as goal

-- the tag word tells what the three tests tell
hits : (patc : List ℕ) (n address : ℕ) (s : Bool) (t k : ℕ) → t ≡ own_tag (slice_index_or patc (n * 2) 0) → k ≡ page_word_of address s → eqb t k ≡ entry_hits (page_word patc n) address s
hits patc n address s t k et ek = rw (et, ek) (key _ _ _)

pub returns-then-tag-key : goal.returns-then-tag-key
returns-then-tag-key c =
    let l = c.loop-number in
    let h : l.number < 56 = c.loop-number-test.true in
    let e : l.number ≡ entry_of c.args.patc.now c.args.address c.args.supervisor =
    rw (entry_step _ _ _ l.number 56 h, ← hits c.args.patc.now l.number c.args.address c.args.supervisor _ _ c.tag.ensures c.page_word-key.ensures, eq-eqb _ _ c.if-tag-key.true) at l.invariant in
    rw (← e, lt-ltb _ _ h)

pub loop-number-preserved : goal.loop-number-preserved
loop-number-preserved c =
    let l = c.loop-number in
    let h : l.number < 56 = c.loop-number-test.true in
    rw (entry_step _ _ _ l.number 56 h, ← hits c.args.patc.now l.number c.args.address c.args.supervisor _ _ c.tag.ensures c.page_word-key.ensures, ne_eqb _ _ c.if-tag-key.false) at l.invariant

pub returns : goal.returns
returns c =
    let l = c.loop-number in
    let past : 56 ≤ l.number = c.loop-number-test.false in
    let e : l.number ≡ entry_of c.args.patc.now c.args.address c.args.supervisor = rw (entry_end _ _ _ l.number 56 past) at l.invariant in
    rw (← e, le-ltb _ _ past)
