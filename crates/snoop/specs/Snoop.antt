-- A snoop acts if SE and G are set and the line hits; otherwise it answers "clear".
use Rattle.std.specs.Prelude.{ℕ, Bool, ◌&&◌, List, ltb}
use Rattle.words.specs.Words.{pick}
use Rattle.memory.specs.Memory.{Wrote, write_line_of}
use Rattle.lines.specs.Lines.{modified, tag_word, line_address, hit_of, marked}
use Rattle.cells.specs.Cells.{line_words}
use Rattle.snoop.specs.declared.Snooped.{Snooped}
use Rattle.snoop.specs.declared.Snooped.TheVariants.{Clear, Retry, Failed}

-- the numbers of its answers: clear, retry, failed
abbrev pub answer_of : Snooped → ℕ
answer_of Clear = 0
answer_of Retry = 1
answer_of Failed = 2

pub record Snoop : Type 0 where
  pub answer : Snooped
  pub lines : List ℕ
  pub ram : List ℕ

abbrev pub snooped : Snooped → List ℕ → List ℕ → Snoop
snooped a ls ram = record { answer = a; lines = ls; ram = ram }

-- state 2, or 3 with IM
abbrev pub yield_of : Bool → ℕ
yield_of im = pick im 3 2

-- modified: copied back, then the same states, and "retry"; if the copyback fails the line stays and "failed" is answered
abbrev pub retried_by : Bool → List ℕ → ℕ → Wrote → Snoop
retried_by im ls p x = pick x.moved.ok (snooped Retry (marked ls p (yield_of im)) x.ram) (snooped Failed ls x.ram)

unfoldable pub retried_of : Bool → List ℕ → List ℕ → List ℕ → ℕ → ℕ → Snoop
retried_of im ls cs ram p w = retried_by im ls p (write_line_of ram (line_address p w) (line_words cs p))

-- unmodified: the state alone, and "clear"
unfoldable pub hit_by : Bool → ℕ → List ℕ → List ℕ → List ℕ → Snoop
hit_by im p ls cs ram = pick (modified (tag_word ls p)) (retried_of im ls cs ram p (tag_word ls p)) (snooped Clear (marked ls p (yield_of im)) ram)

abbrev pub snoop_at : Bool → Bool → ℕ → List ℕ → List ℕ → List ℕ → Snoop
snoop_at enabled im p ls cs ram = pick (enabled && ltb p 1024) (hit_by im p ls cs ram) (snooped Clear ls ram)

-- `enabled`: SE and G are set
unfoldable pub snoop_of : Bool → Bool → ℕ → List ℕ → List ℕ → List ℕ → Snoop
snoop_of enabled im address ls cs ram = snoop_at enabled im (hit_of ls address) ls cs ram
