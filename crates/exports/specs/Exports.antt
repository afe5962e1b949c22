-- The C functions: a refusal's number and nothing changed, no reply either; or 0, and what the call of door does.
use Rattle.std.specs.Prelude.{ℕ, List, [], ◌∷◌}
use Rattle.words.specs.Words.{bit_of}
use Rattle.lent.specs.Lent.{unless}
use Rattle.state.specs.declared.FaultPair.{FaultPair}
use Rattle.unit.specs.Unit.{access_of}
use Rattle.calls.specs.Calls.{ReadReply, AccessDone, access_taken, access_call, SnoopDone, snoop_call, read_call, WriteDone, write_call}
use Rattle.layout.specs.Layout.{registers_of, unit_of, access_as, reply_of, snooped_of}

-- ---- an access

pub record AccessOut : Type 0 where
  pub number : ℕ
  pub unit : List ℕ
  pub fault : FaultPair
  pub patc : List ℕ
  pub lines : List ℕ
  pub cells : List ℕ
  pub ram : List ℕ
  pub reply : List ℕ

abbrev pub access_out : ℕ → List ℕ → FaultPair → List ℕ → List ℕ → List ℕ → List ℕ → List ℕ → AccessOut
access_out n unit p ps ls cs ram reply =
    record { number = n; unit = unit; fault = p; patc = ps; lines = ls; cells = cs; ram = ram; reply = reply }

unfoldable pub access_by : List ℕ → List ℕ → AccessDone → AccessOut
access_by unit reply d =
    access_out d.reply.number (unless d.reply.number unit (unit_of d.reply.registers)) d.pair d.patc d.lines d.cells d.ram
    (unless d.reply.number reply (reply_of d.reply.answer))

-- .. that is not refused
abbrev pub access_to : List ℕ → FaultPair → List ℕ → List ℕ → List ℕ → List ℕ → List ℕ → ℕ → ℕ → ℕ → ℕ → List ℕ → AccessOut
access_to unit p ps ls cs ram rom address kind enables word reply =
    access_by unit reply (access_taken (access_of (registers_of unit) p ps ls cs ram rom (access_as address kind enables word)))

abbrev pub access_export : List ℕ → FaultPair → List ℕ → List ℕ → List ℕ → List ℕ → List ℕ → ℕ → ℕ → ℕ → ℕ → List ℕ → AccessOut
access_export unit p ps ls cs ram rom address kind enables word reply =
    access_by unit reply (access_call (registers_of unit) p ps ls cs ram rom (access_as address kind enables word))

-- ---- a snoop

pub record SnoopOut : Type 0 where
  pub number : ℕ
  pub unit : List ℕ
  pub lines : List ℕ
  pub ram : List ℕ
  pub reply : List ℕ

abbrev pub snoop_out : ℕ → List ℕ → List ℕ → List ℕ → List ℕ → SnoopOut
snoop_out n unit ls ram reply = record { number = n; unit = unit; lines = ls; ram = ram; reply = reply }

unfoldable pub snoop_by : List ℕ → List ℕ → SnoopDone → SnoopOut
snoop_by unit reply d =
    snoop_out d.reply.number (unless d.reply.number unit (unit_of d.reply.registers)) d.lines d.ram
    (unless d.reply.number reply (snooped_of d.reply.answer ∷ []))

-- kind: bit 0 G, bit 1 IM
abbrev pub snoop_export : List ℕ → List ℕ → List ℕ → List ℕ → ℕ → ℕ → List ℕ → SnoopOut
snoop_export unit ls cs ram address kind reply =
    snoop_by unit reply (snoop_call (registers_of unit) ls cs ram address (bit_of kind 0) (bit_of kind 1))

-- ---- a register read

pub record ReadOut : Type 0 where
  pub number : ℕ
  pub reply : List ℕ

abbrev pub read_out : ℕ → List ℕ → ReadOut
read_out n reply = record { number = n; reply = reply }

unfoldable pub read_by : List ℕ → ReadReply → ReadOut
read_by reply r = read_out r.number (unless r.number reply (r.word ∷ []))

abbrev pub read_export : List ℕ → FaultPair → ℕ → List ℕ → ReadOut
read_export unit p offset reply = read_by reply (read_call (registers_of unit) p offset)

-- ---- a register write

pub record WriteOut : Type 0 where
  pub number : ℕ
  pub unit : List ℕ
  pub fault : FaultPair
  pub patc : List ℕ
  pub lines : List ℕ
  pub ram : List ℕ
  pub reply : List ℕ

abbrev pub write_out : ℕ → List ℕ → FaultPair → List ℕ → List ℕ → List ℕ → List ℕ → WriteOut
write_out n unit p ps ls ram reply = record { number = n; unit = unit; fault = p; patc = ps; lines = ls; ram = ram; reply = reply }

unfoldable pub write_by : List ℕ → List ℕ → WriteDone → WriteOut
write_by unit reply d =
    write_out d.reply.number (unless d.reply.number unit (unit_of d.reply.registers)) d.pair d.patc d.lines d.ram
    (unless d.reply.number reply (d.reply.words ∷ []))

abbrev pub write_export : List ℕ → FaultPair → List ℕ → List ℕ → List ℕ → List ℕ → List ℕ → ℕ → ℕ → List ℕ → WriteOut
write_export unit p ps ls cs ram rom offset value reply =
    write_by unit reply (write_call (registers_of unit) p ps ls cs ram rom offset value)
