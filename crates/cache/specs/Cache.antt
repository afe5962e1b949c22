-- The cache's part of an access, in small steps: what it wants first.
use Rattle.std.specs.Prelude.{ℕ, Bool, ◌&&◌, ◌||◌, List, eqb, ltb}
use Rattle.words.specs.Words.{pick}
use Rattle.lines.specs.Lines.{state_of, modified, tag_word, hit_of, victim_of, marked, used_at}
use Rattle.cells.specs.Cells.{merged_at}
use Rattle.state.specs.declared.Outcome.TheVariants.{Written}
use Rattle.course.specs.declared.Course.{Course}
use Rattle.course.specs.declared.Flight.{Flight}
use Rattle.course.specs.Course.{with_place, ended_of}
use Rattle.course.specs.Next.{Lined, Cached, lined, cached, with_cells, single_of, storing_of, filling_of, backing_of, dropping_of, read_hit_of}

-- inhibited (CI or locked)
abbrev pub inhibited_of : Course → Bool
inhibited_of c = c.t.ci || c.access.lock

-- inhibited, at the place that is hit (1024: none)
unfoldable pub uncached_of : Course → ℕ → List ℕ → Lined
uncached_of c p ls =
    pick (ltb p 1024)
    (pick (modified (tag_word ls p)) (lined (dropping_of (with_place c p) (tag_word ls p)) ls) (lined (single_of c) (marked ls p 3)))
    (lined (single_of c) ls)

-- line only, state 1
unfoldable pub write_line_of : Course → ℕ → List ℕ → List ℕ → Cached
write_line_of c p ls cs = cached (ended_of c Written) (used_at (marked ls p 1) p) (merged_at cs p c.t.address c.access.enables c.access.word)

-- write hit: WT, and global in state 2, memory and line; else line only
unfoldable pub write_hit_of : Course → ℕ → List ℕ → List ℕ → Cached
write_hit_of c p ls cs = pick (c.t.wt || (c.t.g && eqb (state_of (tag_word ls p)) 2)) (cached (storing_of (with_place c p)) ls cs) (write_line_of c p ls cs)

-- a modified victim is copied back first
abbrev pub miss_at : Course → ℕ → List ℕ → Flight
miss_at c p ls = pick (modified (tag_word ls p)) (backing_of (with_place c p) (tag_word ls p)) (filling_of (with_place c p))

unfoldable pub miss_of : Course → List ℕ → Flight
miss_of c ls = miss_at c (victim_of ls c.t.address) ls

abbrev pub enter_at : Course → ℕ → List ℕ → List ℕ → Cached
enter_at c p ls cs =
    pick (inhibited_of c)
    (with_cells (uncached_of c p ls) cs)
    (pick (ltb p 1024)
    (pick c.access.write (write_hit_of c p ls cs) (with_cells (read_hit_of c p ls cs) cs))
    (cached (miss_of c ls) ls cs))

unfoldable pub enter_of : Course → List ℕ → List ℕ → Cached
enter_of c ls cs = enter_at c (hit_of ls c.t.address) ls cs
