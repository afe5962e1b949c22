-- PFSR and PFAR as one record, and what a refusal leaves.
use Rattle.std.specs.Prelude.{ℕ, List, eqb}
use Rattle.words.specs.Words.{pick}
use Rattle.state.specs.declared.FaultPair.{FaultPair}

abbrev pub pair_with : ℕ → ℕ → FaultPair
pair_with status address = record { status = status; address = address }

-- `next` where a call has no number, else what was there
abbrev pub unless : ℕ → List ℕ → List ℕ → List ℕ
unless n was next = pick (eqb n 0) next was
