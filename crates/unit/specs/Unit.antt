-- One unit on its memory: an access, a snoop.
use Rattle.std.specs.Prelude.{ℕ, ◌+◌, ◌%◌, Bool, ◌&&◌, List, eqb, leb}
use Rattle.words.specs.Words.{pick, bit_of}
use Rattle.state.specs.declared.Access.{Access}
use Rattle.state.specs.declared.Registers.{Registers}
use Rattle.state.specs.declared.FaultPair.{FaultPair}
use Rattle.state.specs.declared.Outcome.TheVariants.{Idle}
use Rattle.state.specs.Own.{own_ssr}
use Rattle.flight.specs.Steps.{Ended, access_of as steps_of, opening}
use Rattle.snoop.specs.declared.Snooped.{Snooped}
use Rattle.snoop.specs.declared.Snooped.TheVariants.{Clear, Retry, Failed}
use Rattle.snoop.specs.Snoop.{Snoop, snoop_of as line_snoop}
use Rattle.driver.specs.Alone.{Memory, memory, alone}
use Rattle.registers.specs.Registers.{area_of, with_ssr, with_pointer}
use Rattle.control.specs.Control.{Controlled, control_of}
use Rattle.answers.specs.Answers.{Accessed, total_of, fault_of, accessed, answer_of, plain_of}

-- ---- an access

pub record Whole : Type 0 where
  pub accessed : Accessed
  pub patc : List ℕ
  pub lines : List ℕ
  pub cells : List ℕ
  pub ram : List ℕ

abbrev pub whole : Accessed → List ℕ → List ℕ → List ℕ → List ℕ → Whole
whole a ps ls cs ram = record { accessed = a; patc = ps; lines = ls; cells = cs; ram = ram }

-- where the big steps end
abbrev pub ended_by : Registers → FaultPair → Ended Memory → Whole
ended_by u p e =
    whole
    (accessed (with_pointer u e.scene.pointer) (fault_of p e.outcome) (answer_of e.outcome e.scene.list e.scene.count (total_of e.scene.list)))
    e.scene.patc
    e.scene.lines
    e.scene.cells
    e.scene.world.ram

unfoldable pub mapped_of : Registers → FaultPair → List ℕ → List ℕ → List ℕ → List ℕ → List ℕ → Access → Whole
mapped_of u p ps ls cs ram rom a =
    ended_by u p (steps_of alone a (area_of u a.supervisor) (opening u.pointer ps ls cs (memory ram rom)) u.ports)

abbrev pub with_cells : Controlled → List ℕ → Whole
with_cells c cs = whole c.accessed c.patc c.lines cs c.ram

-- 1. enables 0: idle, nothing changes. 2. A supervisor access at FFF00000 or above is control space
unfoldable pub access_of : Registers → FaultPair → List ℕ → List ℕ → List ℕ → List ℕ → List ℕ → Access → Whole
access_of u p ps ls cs ram rom a =
    pick (eqb a.enables 0)
    (whole (plain_of u p Idle 0) ps ls cs ram)
    (pick (a.supervisor && leb 0xFFF00000 a.address) (with_cells (control_of u p ps ls cs ram rom a) cs) (mapped_of u p ps ls cs ram rom a))

-- ---- a snoop

-- if the copyback fails, CE is set
unfoldable pub after_snoop : Registers → Snooped → Registers
after_snoop u Clear = u
after_snoop u Retry = u
after_snoop u Failed = with_ssr u (own_ssr u.ssr % 32768 + 32768)

-- registers after a snoop, and its answer
pub record Watched : Type 0 where
  pub registers : Registers
  pub answer : Snooped

abbrev pub watched_of : Registers → Snooped → Watched
watched_of u a = record { registers = u; answer = a }

pub record Snooping : Type 0 where
  pub watched : Watched
  pub lines : List ℕ
  pub ram : List ℕ

abbrev pub watched : Watched → List ℕ → List ℕ → Snooping
watched w ls ram = record { watched = w; lines = ls; ram = ram }

abbrev pub snoop_by : Registers → Snoop → Snooping
snoop_by u s = watched (record { registers = after_snoop u s.answer; answer = s.answer }) s.lines s.ram

-- a snoop acts if SE and G are set
unfoldable pub snoop_of : Registers → List ℕ → List ℕ → List ℕ → ℕ → Bool → Bool → Snooping
snoop_of u ls cs ram address g im = snoop_by u (line_snoop (bit_of u.sctr 14 && g) im address ls cs ram)
