-- Laws that hold the definition of one line's turn to document 01's sentences, one by one.
use Rattle.std.specs.Prelude.{ℕ, ◌≡◌, Bool, List}
use Rattle.std.proofs.Math.Path.{refl}
use Rattle.std.proofs.Math.Bool.{true, false}
use Rattle.memory.specs.Memory.{Wrote, write_line_of}
use Rattle.lines.specs.Lines.{valid, modified, tag_word, line_address, marked}
use Rattle.cells.specs.Cells.{line_words}
use Rattle.sweep.specs.declared.Kind.{Kind}
use Rattle.sweep.specs.declared.Kind.TheVariants.{Invalidate, CopyBack, Both}
use Rattle.sweep.specs.declared.Range.{Range}
use Rattle.sweep.specs.declared.Range.TheVariants.{Line, Page, Segment}
use Rattle.sweep.specs.Sweep.{covers_of, swept, well_of, stopped_of, copied_of, line_of}

module _ (r : Range) (sar : ℕ) (cs : List ℕ) (p : ℕ) (ls ram : List ℕ) where
  abbrev w : ℕ
  w = tag_word ls p

  abbrev wrote : Wrote
  wrote = write_line_of ram (line_address p w) (line_words cs p)

  module _ (is-valid : valid w ≡ true) (covered : covers_of r sar (line_address p w) ≡ true) where
    module _ (is-modified : modified w ≡ true) where
      -- 18-1B: a modified line's four words go to memory, and it becomes state 0
      pub copied_back : wrote.moved.ok ≡ true → line_of CopyBack r sar cs p ls ram ≡ swept (well_of 4) (marked ls p 0) wrote.ram
      unfolding line_of copied_of
      copied_back ok = rw (is-valid, covered, is-modified, ok)

      -- 1C-1F: copied, and made invalid
      pub copied_dropped : wrote.moved.ok ≡ true → line_of Both r sar cs p ls ram ≡ swept (well_of 4) (marked ls p 3) wrote.ram
      unfolding line_of copied_of
      copied_dropped ok = rw (is-valid, covered, is-modified, ok)

      -- a bus error: the line stays as it was, and the flush stops
      pub failed_stays : wrote.moved.ok ≡ false → line_of CopyBack r sar cs p ls ram ≡ swept (stopped_of 0 wrote.moved.failing) ls wrote.ram
      unfolding line_of copied_of
      failed_stays bad = rw (is-valid, covered, is-modified, bad)

    -- 14-17: made invalid, and no word moves
    pub dropped : line_of Invalidate r sar cs p ls ram ≡ swept (well_of 0) (marked ls p 3) ram
    unfolding line_of
    dropped = rw (is-valid, covered)

    -- a clean line is not copied back
    pub clean_left : modified w ≡ false → line_of CopyBack r sar cs p ls ram ≡ swept (well_of 0) ls ram
    unfolding line_of
    clean_left clean = rw (is-valid, covered, clean)

  -- no other line is touched
  pub uncovered_left : (k : Kind) → covers_of r sar (line_address p w) ≡ false → line_of k r sar cs p ls ram ≡ swept (well_of 0) ls ram
  unfolding line_of
  uncovered_left k out = by (valid w) refl
    where
      by : (b : Bool) → valid w ≡ b → line_of k r sar cs p ls ram ≡ swept (well_of 0) ls ram
      by true e = rw (e, out)
      by false e = rw e

-- the low two bits of a command say line, page, segment, all: neighbours on either side of a border
pub line_border : (covers_of Line 0x00012344 0x0001234C ≡ true) × (covers_of Line 0x00012344 0x00012350 ≡ false)
line_border = (refl, refl)

pub page_border : (covers_of Page 0x00012344 0x00012FF0 ≡ true) × (covers_of Page 0x00012344 0x00013340 ≡ false)
page_border = (refl, refl)

pub segment_border : (covers_of Segment 0x00012344 0x003FFFF0 ≡ true) × (covers_of Segment 0x00012344 0x00412340 ≡ false)
segment_border = (refl, refl)
