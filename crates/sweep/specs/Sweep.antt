-- The flush commands: 14-17 invalidate, 18-1B copy back, 1C-1F both; a line, a page, a segment or all, by the physical SAR.
use Rattle.std.specs.Prelude.{ℕ, zero, suc, ◌+◌, Bool, true, false, ◌&&◌, List, eqb, Result, Ok, Err}
use Rattle.words.specs.Words.{pick, bits_of}
use Rattle.memory.specs.Memory.{Wrote, write_line_of}
use Rattle.lines.specs.Lines.{valid, modified, tag_word, line_address, marked}
use Rattle.cells.specs.Cells.{line_words}
use Rattle.memory.specs.declared.BusError.{BusError}
use Rattle.sweep.specs.declared.Stopped.{Stopped}
use Rattle.sweep.specs.declared.Kind.{Kind}
use Rattle.sweep.specs.declared.Kind.TheVariants.{Invalidate, CopyBack, Both}
use Rattle.sweep.specs.declared.Range.{Range}
use Rattle.sweep.specs.declared.Range.TheVariants.{Line, Page, Segment, All}

-- is the line at an address in the range that SAR names?
abbrev pub covers_of : Range → ℕ → ℕ → Bool
covers_of Line sar address = eqb (bits_of address 31 4) (bits_of sar 31 4)
covers_of Page sar address = eqb (bits_of address 31 12) (bits_of sar 31 12)
covers_of Segment sar address = eqb (bits_of address 31 22) (bits_of sar 31 22)
covers_of All sar address = true

abbrev pub copies_of : Kind → Bool
copies_of Invalidate = false
copies_of CopyBack = true
copies_of Both = true

abbrev pub drops_of : Kind → Bool
drops_of Invalidate = true
drops_of CopyBack = false
drops_of Both = true

-- a copied line becomes state 0; under 1C-1F it is made invalid
abbrev pub after_of : Kind → ℕ
after_of k = pick (drops_of k) 3 0

-- how a flush ended: did every copyback go well, the words moved, and else the line's address
pub record Flushed : Type 0 where
  pub ok : Bool
  pub words : ℕ
  pub failing : ℕ

abbrev pub well_of : ℕ → Flushed
well_of words = record { ok = true; words = words; failing = 0 }

abbrev pub stopped_of : ℕ → ℕ → Flushed
stopped_of words failing = record { ok = false; words = words; failing = failing }

-- the same of what the code answers: for one line, and for a whole command
abbrev pub line_in : Result ℕ BusError → Flushed
line_in (Ok words) = well_of words
line_in (Err e) = stopped_of 0 e.address

abbrev pub flushed_in : Result ℕ Stopped → Flushed
flushed_in (Ok words) = well_of words
flushed_in (Err e) = stopped_of e.words e.failing

-- how far a flush has come, the directory and RAM
pub record Sweep : Type 0 where
  pub flushed : Flushed
  pub lines : List ℕ
  pub ram : List ℕ

abbrev pub swept : Flushed → List ℕ → List ℕ → Sweep
swept f ls ram = record { flushed = f; lines = ls; ram = ram }

-- a line copied back: a bus error stops, that line as it was
abbrev pub copied_by : Kind → List ℕ → ℕ → Wrote → Sweep
copied_by k ls p x = pick x.moved.ok (swept (well_of 4) (marked ls p (after_of k)) x.ram) (swept (stopped_of 0 x.moved.failing) ls x.ram)

unfoldable pub copied_of : Kind → List ℕ → List ℕ → List ℕ → ℕ → ℕ → Sweep
copied_of k ls cs ram p address = copied_by k ls p (write_line_of ram address (line_words cs p))

-- the command's work at place p, whose tag word is w: every valid line in the named range is covered; only a modified one is copied back
abbrev pub word_of : Kind → Range → ℕ → List ℕ → ℕ → ℕ → List ℕ → List ℕ → Sweep
word_of k r sar cs p w ls ram =
    pick (valid w && covers_of r sar (line_address p w))
    (pick (copies_of k && modified w)
    (copied_of k ls cs ram p (line_address p w))
    (pick (drops_of k) (swept (well_of 0) (marked ls p 3) ram) (swept (well_of 0) ls ram)))
    (swept (well_of 0) ls ram)

unfoldable pub line_of : Kind → Range → ℕ → List ℕ → ℕ → List ℕ → List ℕ → Sweep
line_of k r sar cs p ls ram = word_of k r sar cs p (tag_word ls p) ls ram

-- .. after the places before it: 4 words a copied line; the first bus error stops
abbrev pub added : ℕ → Sweep → Sweep
added words x =
    swept (pick x.flushed.ok (well_of (words + x.flushed.words)) (stopped_of (words + x.flushed.words) x.flushed.failing)) x.lines x.ram

abbrev pub onward : Kind → Range → ℕ → List ℕ → ℕ → Sweep → Sweep
onward k r sar cs p s = pick s.flushed.ok (added s.flushed.words (line_of k r sar cs p s.lines s.ram)) s

-- the first n places, by set, then number
unfoldable pub sweep_of : Kind → Range → ℕ → List ℕ → List ℕ → List ℕ → ℕ → Sweep
sweep_of k r sar cs ls ram zero = swept (well_of 0) ls ram
sweep_of k r sar cs ls ram (suc n) = onward k r sar cs n (sweep_of k r sar cs ls ram n)
