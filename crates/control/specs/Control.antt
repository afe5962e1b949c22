-- A register write, and an access to control space.
use Rattle.std.specs.Prelude.{ℕ, Bool, ◌&&◌, List, eqb}
use Rattle.words.specs.Words.{pick, bits_of}
use Rattle.state.specs.declared.Access.{Access}
use Rattle.state.specs.declared.Registers.{Registers}
use Rattle.state.specs.declared.FaultPair.{FaultPair}
use Rattle.state.specs.declared.Outcome.TheVariants.{Word}
use Rattle.state.specs.Own.{own_scr}
use Rattle.registers.specs.Registers.{Stored, read_of, stored_of, set_of, with_scr}
use Rattle.commands.specs.Commands.{Commanded, command_of, run_of}
use Rattle.answers.specs.Answers.{Accessed, plain_of, failed_of, written_of}

-- ---- a register write

-- registers, fault pair and words; entries, directory and RAM
pub record Kept : Type 0 where
  pub stored : Stored
  pub patc : List ℕ
  pub lines : List ℕ
  pub ram : List ℕ

abbrev pub kept : Stored → List ℕ → List ℕ → List ℕ → Kept
kept s ps ls ram = record { stored = s; patc = ps; lines = ls; ram = ram }

abbrev pub ran_by : FaultPair → Commanded → Kept
ran_by p c = kept (stored_of c.ran.registers p c.ran.words) c.patc c.lines c.ram

-- writing SCR runs bits 5-0
unfoldable pub write_of : Registers → FaultPair → List ℕ → List ℕ → List ℕ → List ℕ → List ℕ → ℕ → ℕ → Kept
write_of u p ps ls cs ram rom offset value =
    pick (eqb offset 4)
    (ran_by p (run_of (with_scr u (own_scr value)) (command_of (with_scr u (own_scr value)).scr) ps ls cs ram rom))
    (kept (set_of u p offset value) ps ls ram)

-- ---- control space

pub record Controlled : Type 0 where
  pub accessed : Accessed
  pub patc : List ℕ
  pub lines : List ℕ
  pub ram : List ℕ

abbrev pub controlled : Accessed → List ℕ → List ℕ → List ℕ → Controlled
controlled a ps ls ram = record { accessed = a; patc = ps; lines = ls; ram = ram }

-- with enables 15 and bits 19-12 equal to the unit's number it reaches its registers
abbrev pub reaches_of : Registers → Access → Bool
reaches_of u a = eqb a.enables 15 && eqb (bits_of a.address 19 12) (bits_of u.idr 31 24)

abbrev pub written_by : Kept → Controlled
written_by k = controlled (written_of k.stored) k.patc k.lines k.ram

-- .. otherwise bus error. It lists no transaction and moves no word but a command's
unfoldable pub control_of : Registers → FaultPair → List ℕ → List ℕ → List ℕ → List ℕ → List ℕ → Access → Controlled
control_of u p ps ls cs ram rom a =
    pick (reaches_of u a)
    (pick a.write
    (written_by (write_of u p ps ls cs ram rom (bits_of a.address 11 0) a.word))
    (controlled (plain_of u p (Word (read_of u p (bits_of a.address 11 0))) 0) ps ls ram))
    (controlled (failed_of u a.address) ps ls ram)
