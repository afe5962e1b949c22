-- The public calls: a number and nothing changed, or no number and what the unit does.
use Rattle.std.specs.Prelude.{ℕ, Bool, List, Result, Ok, Err, eqb, length}
use Rattle.words.specs.Words.{pick}
use Rattle.state.specs.declared.Access.{Access}
use Rattle.state.specs.declared.Answer.{Answer}
use Rattle.state.specs.declared.FaultPair.{FaultPair}
use Rattle.state.specs.declared.Refusal.{Refusal}
use Rattle.state.specs.declared.Registers.{Registers}
use Rattle.state.specs.declared.Outcome.TheVariants.{Idle}
use Rattle.state.specs.Refusal.{number_of}
use Rattle.snoop.specs.declared.Snooped.{Snooped}
use Rattle.snoop.specs.declared.Snooped.TheVariants.{Clear}
use Rattle.answers.specs.Answers.{plain_of}
use Rattle.registers.specs.Registers.{read_of}
use Rattle.control.specs.Control.{Kept, write_of}
use Rattle.unit.specs.Unit.{Whole, Snooping, access_of, snoop_of}
use Rattle.refusals.specs.Refusals.{access_refusal, snoop_refusal, read_refusal, write_refusal}

-- ---- an access

-- 0 or a refusal's number, the registers, and the answer
pub record AccessReply : Type 0 where
  pub number : ℕ
  pub registers : Registers
  pub answer : Answer

-- its answer, and all that is lent as it then stands
pub record AccessDone : Type 0 where
  pub reply : AccessReply
  pub pair : FaultPair
  pub patc : List ℕ
  pub lines : List ℕ
  pub cells : List ℕ
  pub ram : List ℕ

abbrev pub access_done : AccessReply → FaultPair → List ℕ → List ℕ → List ℕ → List ℕ → AccessDone
access_done r p ps ls cs ram = record { reply = r; pair = p; patc = ps; lines = ls; cells = cs; ram = ram }

abbrev pub access_reply : ℕ → Registers → Answer → AccessReply
access_reply n u a = record { number = n; registers = u; answer = a }

-- the answer is the number alone
abbrev pub access_refused : ℕ → Registers → FaultPair → AccessReply
access_refused n u p = access_reply n u (plain_of u p Idle 0).answer

-- .. as the software says it: a result, and the registers and the fault pair as they then stand
abbrev pub access_said : Registers → FaultPair → Result Answer Refusal → AccessReply
access_said u p (Ok a) = access_reply 0 u a
access_said u p (Err r) = access_refused (number_of r) u p

abbrev pub access_taken : Whole → AccessDone
access_taken w =
    access_done (access_reply 0 w.accessed.registers w.accessed.answer) w.accessed.pair w.patc w.lines w.cells w.ram

unfoldable pub access_by : ℕ → Registers → FaultPair → List ℕ → List ℕ → List ℕ → List ℕ → List ℕ → Access → AccessDone
access_by n u p ps ls cs ram rom a =
    pick (eqb n 0) (access_taken (access_of u p ps ls cs ram rom a)) (access_done (access_refused n u p) p ps ls cs ram)

abbrev pub access_call : Registers → FaultPair → List ℕ → List ℕ → List ℕ → List ℕ → List ℕ → Access → AccessDone
access_call u p ps ls cs ram rom a =
    access_by (access_refusal (length ram) (length rom) (length cs) a.address a.enables) u p ps ls cs ram rom a

-- ---- a snoop

-- a snoop touches no fault pair
pub record SnoopReply : Type 0 where
  pub number : ℕ
  pub registers : Registers
  pub answer : Snooped

pub record SnoopDone : Type 0 where
  pub reply : SnoopReply
  pub lines : List ℕ
  pub ram : List ℕ

abbrev pub snoop_done : SnoopReply → List ℕ → List ℕ → SnoopDone
snoop_done r ls ram = record { reply = r; lines = ls; ram = ram }

abbrev pub snoop_reply : ℕ → Registers → Snooped → SnoopReply
snoop_reply n u a = record { number = n; registers = u; answer = a }

abbrev pub snoop_said : Registers → Result Snooped Refusal → SnoopReply
snoop_said u (Ok a) = snoop_reply 0 u a
snoop_said u (Err r) = snoop_reply (number_of r) u Clear

abbrev pub snoop_taken : Snooping → SnoopDone
snoop_taken s = snoop_done (snoop_reply 0 s.watched.registers s.watched.answer) s.lines s.ram

unfoldable pub snoop_by : ℕ → Registers → List ℕ → List ℕ → List ℕ → ℕ → Bool → Bool → SnoopDone
snoop_by n u ls cs ram address g im =
    pick (eqb n 0) (snoop_taken (snoop_of u ls cs ram address g im)) (snoop_done (snoop_reply n u Clear) ls ram)

abbrev pub snoop_call : Registers → List ℕ → List ℕ → List ℕ → ℕ → Bool → Bool → SnoopDone
snoop_call u ls cs ram address g im = snoop_by (snoop_refusal (length ram) (length cs) address) u ls cs ram address g im

-- ---- a register read

pub record ReadReply : Type 0 where
  pub number : ℕ
  pub word : ℕ

abbrev pub read_said : Result ℕ Refusal → ReadReply
read_said (Ok w) = record { number = 0; word = w }
read_said (Err r) = record { number = number_of r; word = 0 }

unfoldable pub read_by : ℕ → Registers → FaultPair → ℕ → ReadReply
read_by n u p offset = record { number = n; word = pick (eqb n 0) (read_of u p offset) 0 }

abbrev pub read_call : Registers → FaultPair → ℕ → ReadReply
read_call u p offset = read_by (read_refusal offset) u p offset

-- ---- a register write

-- a register write, and the words that its command moved
pub record WriteReply : Type 0 where
  pub number : ℕ
  pub registers : Registers
  pub words : ℕ

pub record WriteDone : Type 0 where
  pub reply : WriteReply
  pub pair : FaultPair
  pub patc : List ℕ
  pub lines : List ℕ
  pub ram : List ℕ

abbrev pub write_done : WriteReply → FaultPair → List ℕ → List ℕ → List ℕ → WriteDone
write_done r p ps ls ram = record { reply = r; pair = p; patc = ps; lines = ls; ram = ram }

abbrev pub write_reply : ℕ → Registers → ℕ → WriteReply
write_reply n u words = record { number = n; registers = u; words = words }

abbrev pub write_said : Registers → Result ℕ Refusal → WriteReply
write_said u (Ok w) = write_reply 0 u w
write_said u (Err r) = write_reply (number_of r) u 0

abbrev pub write_taken : Kept → WriteDone
write_taken k =
    write_done (write_reply 0 k.stored.registers k.stored.words) k.stored.pair k.patc k.lines k.ram

unfoldable pub write_by : ℕ → Registers → FaultPair → List ℕ → List ℕ → List ℕ → List ℕ → List ℕ → ℕ → ℕ → WriteDone
write_by n u p ps ls cs ram rom offset value =
    pick (eqb n 0) (write_taken (write_of u p ps ls cs ram rom offset value)) (write_done (write_reply n u 0) p ps ls ram)

abbrev pub write_call : Registers → FaultPair → List ℕ → List ℕ → List ℕ → List ℕ → List ℕ → ℕ → ℕ → WriteDone
write_call u p ps ls cs ram rom offset value =
    write_by (write_refusal (length ram) (length rom) (length cs) offset) u p ps ls cs ram rom offset value
