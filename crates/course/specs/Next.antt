-- What a flight wants of memory for the cache, and a read that a line ends.
use Rattle.std.specs.Prelude.{ℕ, ◌*◌, ◌/◌, Bool, true, false, ◌||◌, List}
use Rattle.words.specs.Words.{keep_of}
use Rattle.lines.specs.Lines.{line_address, used_at}
use Rattle.cells.specs.Cells.{word_at}
use Rattle.state.specs.declared.Outcome.TheVariants.{Word}
use Rattle.course.specs.declared.Course.{Course}
use Rattle.course.specs.declared.Flight.{Flight}
use Rattle.course.specs.declared.Stage.{Stage}
use Rattle.course.specs.declared.Stage.TheVariants.{Drop, Back, Fill, Store, Single}
use Rattle.course.specs.Course.{with_want, wanting_of, ended_of, carried_of}

-- a flight with the directory, and with the cache data too
pub record Lined : Type 0 where
  pub flight : Flight
  pub lines : List ℕ

pub record Cached : Type 0 where
  pub flight : Flight
  pub lines : List ℕ
  pub cells : List ℕ

abbrev pub lined : Flight → List ℕ → Lined
lined f ls = record { flight = f; lines = ls }

abbrev pub cached : Flight → List ℕ → List ℕ → Cached
cached f ls cs = record { flight = f; lines = ls; cells = cs }

abbrev pub with_cells : Lined → List ℕ → Cached
with_cells l cs = cached l.flight l.lines cs

-- ---- transactions: G is the translation's but for a victim's copyback; IM by table 3-1; LK only on a locked single word

unfoldable pub single_of : Course → Flight
single_of c =
    wanting_of (with_want c (carried_of c c.access.write c.t.address 1 c.t.g (c.access.write || c.access.lock) c.access.lock)) Single

unfoldable pub storing_of : Course → Flight
storing_of c = wanting_of (with_want c (carried_of c true c.t.address 1 c.t.g true false)) Store

-- of a line, its first address
unfoldable pub filling_of : Course → Flight
filling_of c = wanting_of (with_want c (carried_of c false (c.t.address / 16 * 16) 4 c.t.g c.access.write false)) Fill

-- a line copied back, and what it is copied back for
abbrev pub copying_of : Course → ℕ → Bool → Stage → Flight
copying_of c word g stage = wanting_of (with_want c (carried_of c true (line_address c.place word) 4 g true false)) stage

unfoldable pub backing_of : Course → ℕ → Flight
backing_of c word = wanting_of (with_want c (carried_of c true (line_address c.place word) 4 false true false)) Back

unfoldable pub dropping_of : Course → ℕ → Flight
dropping_of c word = wanting_of (with_want c (carried_of c true (line_address c.place word) 4 c.t.g true false)) Drop

-- read hit: the word
unfoldable pub read_hit_of : Course → ℕ → List ℕ → List ℕ → Lined
read_hit_of c p ls cs = lined (ended_of c (Word (keep_of c.access.enables (word_at cs p c.t.address)))) (used_at ls p)
