-- The laws of the flush commands that rest on the pages of a segment, and on what a second flush leaves.
use Rattle.std.specs.Prelude.{ℕ, ◌≡◌, length}
use mathlib.Core.List.{List, Perm}
use Rattle.sweep.specs.declared.Kind.{Kind}
use Rattle.sweep.specs.declared.Range.{Range}
use Rattle.sweep.specs.declared.Range.TheVariants.{Page, Segment}
use Rattle.sweep.specs.Sweep.{covers_of, Sweep, swept}
use Rattle.flush_laws.specs.Sweep.{ends_alike, flush_of, sweep_by_lem, Fits, flush_each}
use Rattle.flush_laws.specs.Twice.{again}
use Rattle.flush_laws.specs.Ranges.{pages_of, pages_named}
use Rattle.flush_laws.specs.Laws.{flush_parts}

module _ (k : Kind) (cs ls ram : List ℕ) (size : length ls ≡ 1280) where
  -- "segment = its pages in any order": its 1,024 pages
  pub segment_pages : (sar : ℕ) (sars : List ℕ) → Perm sars (pages_of sar) → Fits k (covers_of Segment sar) ls ram
      → flush_each k Page cs sars ls ram ≡ flush_of k Segment sar cs ls ram
  segment_pages sar sars perm = flush_parts k cs ls ram size Page Segment sar sars (pages_named sar sars perm)

-- ---- "a second like flush changes neither lines nor memory". Needed: nothing. Where the first has stopped, the second stops at the same line

module _ (k : Kind) (r : Range) (sar : ℕ) (cs ls ram : List ℕ) (size : length ls ≡ 1280) where
  abbrev once : Sweep
  once = flush_of k r sar cs ls ram

  pub flush_again : flush_of k r sar cs once.lines once.ram ≡ swept (ends_alike once.flushed) once.lines once.ram
  flush_again = rw (sweep_by_lem k r sar cs ls ram, sweep_by_lem k r sar) (again k (covers_of r sar) cs ls ram size)
