-- What follows each transaction of the cache.
use Rattle.std.specs.Prelude.{ℕ, ◌*◌, not, ◌||◌, List, length, ltb}
use Rattle.words.specs.Words.{pick, keep_of}
use Rattle.memory.specs.Memory.{Moved}
use Rattle.memory.specs.Memory.{put_of}
use Rattle.lines.specs.Lines.{marked, filled_of, used_at}
use Rattle.cells.specs.Cells.{merged_at}
use Rattle.state.specs.declared.Outcome.TheVariants.{Word, Written}
use Rattle.course.specs.declared.Course.{Course}
use Rattle.course.specs.declared.Flight.{Flight}
use Rattle.course.specs.Course.{listed_of, ended_of, failed_of}
use Rattle.course.specs.Next.{Lined, Cached, lined, cached, with_cells, single_of, storing_of, filling_of, read_hit_of}

unfoldable pub back_of : Course → Moved → Flight
back_of c m = pick m.ok (filling_of (listed_of c m)) (failed_of (listed_of c m) 3 m.failing)

unfoldable pub drop_of : Course → List ℕ → Moved → Lined
drop_of c ls m = pick m.ok (lined (single_of (listed_of c m)) (marked ls c.place 3)) (lined (failed_of (listed_of c m) 3 m.failing) ls)

unfoldable pub fill_of : Course → List ℕ → List ℕ → List ℕ → Moved → Cached
fill_of c ls cs part m =
    pick (not m.ok || ltb (length part) 4)
    (cached (failed_of (listed_of c m) 3 m.failing) (marked ls c.place 3) cs)
    (pick c.access.write
    (cached (storing_of (listed_of c m)) (filled_of ls c.place c.t.address) (put_of cs (c.place * 4) part))
    (with_cells (read_hit_of (listed_of c m) c.place (filled_of ls c.place c.t.address) (put_of cs (c.place * 4) part)) (put_of cs (c.place * 4) part)))

-- memory and line: state 0, under WT the state stays
unfoldable pub settled_of : Course → List ℕ → List ℕ
settled_of c ls = pick c.t.wt (used_at ls c.place) (marked (used_at ls c.place) c.place 0)

unfoldable pub store_of : Course → List ℕ → List ℕ → Moved → Cached
store_of c ls cs m =
    pick m.ok
    (cached (ended_of (listed_of c m) Written) (settled_of c ls) (merged_at cs c.place c.t.address c.access.enables c.access.word))
    (cached (failed_of (listed_of c m) 3 m.failing) ls cs)

unfoldable pub word_of : Course → Moved → ℕ → Flight
word_of c m word =
    pick m.ok
    (pick c.access.write (ended_of (listed_of c m) Written) (ended_of (listed_of c m) (Word (keep_of c.access.enables word))))
    (failed_of (listed_of c m) 3 m.failing)
