-- The answer to an access, with the registers and the fault pair that it leaves.
use Rattle.std.specs.Prelude.{ℕ, ◌+◌, List, get_or, replicate}
use Rattle.state.specs.declared.Registers.{Registers}
use Rattle.state.specs.declared.FaultPair.{FaultPair}
use Rattle.state.specs.declared.Transaction.{Transaction}
use Rattle.state.specs.declared.Answer.{Answer}
use Rattle.state.specs.declared.Outcome.{Outcome}
use Rattle.state.specs.declared.Outcome.TheVariants.{Idle, Word, Written, Failed}
use Rattle.state.specs.Outcome.{pair_of}
use Rattle.course.specs.declared.Flight.{Flight}
use Rattle.course.specs.Course.{no_transaction}
use Rattle.registers.specs.Registers.{Stored, with_pointer}

abbrev pub words_at : List Transaction → ℕ → ℕ
words_at list n = (get_or list n no_transaction).words

-- the count of words moved: those of the listed transactions
unfoldable pub total_of : List Transaction → ℕ
total_of list = words_at list 0 + words_at list 1 + words_at list 2 + words_at list 3 + words_at list 4 + words_at list 5

-- a fault sets the fault pair
unfoldable pub fault_of : FaultPair → Outcome → FaultPair
fault_of p Idle = p
fault_of p (Word w) = p
fault_of p Written = p
fault_of p (Failed f) = pair_of f

-- registers and fault pair after an access, and its answer
pub record Accessed : Type 0 where
  pub registers : Registers
  pub pair : FaultPair
  pub answer : Answer

abbrev pub accessed : Registers → FaultPair → Answer → Accessed
accessed u p a = record { registers = u; pair = p; answer = a }

abbrev pub answer_of : Outcome → List Transaction → ℕ → ℕ → Answer
answer_of o list count words = record { outcome = o; list = list; count = count; words = words }

-- without transactions
abbrev pub unlisted_of : Outcome → ℕ → Answer
unlisted_of o words = answer_of o (replicate 6 no_transaction) 0 words

unfoldable pub plain_of : Registers → FaultPair → Outcome → ℕ → Accessed
plain_of u p o words = accessed u p (unlisted_of o words)

unfoldable pub failed_of : Registers → ℕ → Accessed
failed_of u address =
    plain_of u (pair_of (record { code = 3; address = address })) (Failed (record { code = 3; address = address })) 0

unfoldable pub written_of : Stored → Accessed
written_of s = plain_of s.registers s.pair Written s.words

-- a flight that has ended: its outcome and its transactions, and the pointer that it leaves
abbrev pub flown_by : Registers → FaultPair → Outcome → List Transaction → ℕ → ℕ → Accessed
flown_by u p o list count pointer = accessed (with_pointer u pointer) (fault_of p o) (answer_of o list count (total_of list))

unfoldable pub flown_of : Registers → FaultPair → Flight → Accessed
flown_of u p f = flown_by u p f.outcome f.course.list f.course.count f.course.pointer
