-- An access that is found to touch a line alone is answered by the big steps in the same way.
use Rattle.std.specs.Prelude.{ℕ, ◌<◌, Bool, not, ◌&&◌, ◌||◌, List, ◌≡◌, eqb, ltb}
use Rattle.std.proofs.Math.Bool.{true, false}
use Rattle.std.proofs.lemmas.Bool.{false≢true}
use borrow.Author.Tests.{lt-ltb, not-true}
use Rattle.words.specs.Words.{pick, keep_of}
use Rattle.words.specs.Laws.{and_left, and_right}
use Rattle.state.specs.declared.Access.{Access}
use Rattle.state.specs.declared.FaultPair.{FaultPair}
use Rattle.state.specs.declared.Registers.{Registers}
use Rattle.state.specs.declared.Outcome.TheVariants.{Word, Written}
use Rattle.lines.specs.Lines.{state_of, tag_word, hit_of, marked, used_at}
use Rattle.cells.specs.Cells.{word_at, merged_at}
use Rattle.pages.specs.declared.Translation.{Translation}
use Rattle.pages.specs.Pages.{protection_of}
use Rattle.lookup.specs.Lookup.{Found, guarded_of, entered_of}
use Rattle.flight.specs.Steps.{Scene, cache_of, read_of, write_of, opening}
use Rattle.driver.specs.Alone.{Memory, memory, alone}
use Rattle.registers.specs.Registers.{with_pointer}
use Rattle.answers.specs.Answers.{total_of, fault_of, plain_of}
use Rattle.unit.specs.Unit.{Whole, whole, ended_by}
use Rattle.hits.specs.declared.Hit.{Hit}
use Rattle.hits.specs.Hits.{clear_for, line_at}

pub through : (t : Translation) (s write : Bool) → clear_for t s write ≡ true → (t.ci || (write && t.wt)) ≡ false
through t s write e = not-true _ (and_left (not (t.ci || (write && t.wt))) _ e)

pub unbarred : (t : Translation) (s write : Bool) → clear_for t s write ≡ true → eqb (protection_of t s write) 0 ≡ true
unbarred t s write e = and_right (not (t.ci || (write && t.wt))) _ e

pub guarded_found : (t : Translation) (s write : Bool) → eqb (protection_of t s write) 0 ≡ true → guarded_of t s write ≡ Found t
unfolding guarded_of
guarded_found t s write e = rw e

pub entered_found : (n : ℕ) (t : Translation) (s write : Bool) → eqb (protection_of t s write) 0 ≡ true → (write && not t.m) ≡ false → entered_of n t s write ≡ Found t
unfolding entered_of
entered_found n t s write e f = rw (e, f)

module _ (u : Registers) (p : FaultPair) (ps ls cs ram rom : List ℕ) (a : Access) where
  -- a word read from a line: nothing else changes but the use code
  abbrev pub read_at : Hit → Whole
  read_at h = whole (plain_of u p (Word (keep_of a.enables (word_at cs h.place h.address))) 0) ps (used_at ls h.place) cs ram

  -- a word written to a line, which is then modified
  abbrev pub written_at : Hit → Whole
  written_at h =
      whole (plain_of u p Written 0) ps (used_at (marked ls h.place 1) h.place) (merged_at cs h.place h.address a.enables a.word) ram

  abbrev pub touched_at : Hit → Whole
  touched_at h = pick a.write (written_at h) (read_at h)

  abbrev pub start : Scene Memory
  start = opening u.pointer ps ls cs (memory ram rom)

  abbrev pub ended : Translation → Whole
  ended t = ended_by u p (cache_of alone a start t)

  module _ (free : a.lock ≡ false) where
    pub read_right : (t : Translation) → a.write ≡ false → t.ci ≡ false → hit_of ls t.address < 1024 → ended t ≡ read_at (line_at ls t.address)
    unfolding cache_of read_of with_pointer fault_of plain_of total_of
    read_right t reads e l = rw (e, free, reads, lt-ltb _ _ l)

    pub write_right : (t : Translation) (s k : Bool) → a.write ≡ true → t.ci ≡ false → t.wt ≡ false
        → ltb (hit_of ls t.address) 1024 ≡ k → (t.g && eqb (state_of (tag_word ls (hit_of ls t.address))) 2) ≡ s → pick k (not s) false ≡ true
        → ended t ≡ written_at (line_at ls t.address)
    unfolding cache_of write_of with_pointer fault_of plain_of total_of
    write_right t s false writes i j m n kept = absurd (false≢true kept)
    write_right t true true writes i j m n kept = absurd (false≢true kept)
    write_right t false true writes i j m n kept = rw (i, j, m, n, free, writes)
