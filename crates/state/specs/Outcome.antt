-- The numbers of an outcome, and the fault pair that a fault leaves.
use Rattle.std.specs.Prelude.{ℕ, ◌*◌}
use Rattle.words.specs.Words.{bits_of}
use Rattle.state.specs.declared.Fault.{Fault}
use Rattle.state.specs.declared.FaultPair.{FaultPair}
use Rattle.state.specs.declared.Outcome.{Outcome}
use Rattle.state.specs.declared.Outcome.TheVariants.{Idle, Word, Written, Failed}

-- one case of several: idle, the word read, written, fault
abbrev pub case_of : Outcome → ℕ
case_of Idle = 0
case_of (Word w) = 1
case_of Written = 2
case_of (Failed f) = 3

-- each with its own data: the word read, or the fault's code
abbrev pub value_of : Outcome → ℕ
value_of Idle = 0
value_of (Word w) = w
value_of Written = 0
value_of (Failed f) = f.code

-- .. and the fault's address
abbrev pub place_of : Outcome → ℕ
place_of Idle = 0
place_of (Word w) = 0
place_of Written = 0
place_of (Failed f) = f.address

-- PFSR: code in bits 18-16
abbrev pub status_of : ℕ → ℕ
status_of code = bits_of code 2 0 * 65536

abbrev pub pair_of : Fault → FaultPair
pair_of f = record { status = status_of f.code; address = f.address }
