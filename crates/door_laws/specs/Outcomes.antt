-- One answer, of the doors themselves: what a door answers and leaves, as the software has it, is told whole by what its contract says of it.
-- So two outcomes that meet a door's contract for the same call are equal.
use Rattle.std.specs.Prelude.{ℕ, ◌≡◌, Bool, List, Result, Ok, Err, refl}
use Rattle.std.proofs.Common.{sym, ap, ◌∙◌}
use Rattle.state.specs.declared.Access.{Access}
use Rattle.state.specs.declared.Answer.{Answer}
use Rattle.state.specs.declared.FaultPair.{FaultPair}
use Rattle.state.specs.declared.Refusal.{Refusal}
use Rattle.state.specs.declared.Registers.{Registers}
use Rattle.state.specs.Refusal.{number_in, one_refusal, some_number}
use Rattle.saved.specs.Chip.{Chip}
use Rattle.saved.specs.Image.{Saved, saved}
use Rattle.snoop.specs.declared.Snooped.{Snooped}
use Rattle.calls.specs.Calls.{AccessReply, access_said, AccessDone, access_done, access_call, SnoopReply, snoop_said, SnoopDone, snoop_done, snoop_call, ReadReply, read_said, read_call, WriteReply, write_said, WriteDone, write_done, write_call}
use Rattle.starts.specs.Starts.{unit_said, UnitDone, unit_done, reset_call, restore_call, save_call}

-- ---- a result, and the registers beside it, are told by what is said of them

numbered : (r s : Result (Unit {0}) Refusal) → number_in r ≡ number_in s → r ≡ s
numbered (Ok x) (Ok y) e = refl
numbered (Ok x) (Err s) e = absurd (some_number s (sym e))
numbered (Err r) (Ok y) e = absurd (some_number r e)
numbered (Err r) (Err s) e = ap Err (one_refusal r s e)

access_told : (u v : Registers) (p q : FaultPair) (r s : Result Answer Refusal) → access_said u p r ≡ access_said v q s → (u ≡ v) × (r ≡ s)
access_told u v p q (Ok x) (Ok y) e = (ap (λ (d : AccessReply). d.registers) e, ap Ok (ap (λ (d : AccessReply). d.answer) e))
access_told u v p q (Ok x) (Err s) e = absurd (some_number s (sym (ap (λ (d : AccessReply). d.number) e)))
access_told u v p q (Err r) (Ok y) e = absurd (some_number r (ap (λ (d : AccessReply). d.number) e))
access_told u v p q (Err r) (Err s) e = (ap (λ (d : AccessReply). d.registers) e, ap Err (one_refusal r s (ap (λ (d : AccessReply). d.number) e)))

snoop_told : (u v : Registers) (r s : Result Snooped Refusal) → snoop_said u r ≡ snoop_said v s → (u ≡ v) × (r ≡ s)
snoop_told u v (Ok x) (Ok y) e = (ap (λ (d : SnoopReply). d.registers) e, ap Ok (ap (λ (d : SnoopReply). d.answer) e))
snoop_told u v (Ok x) (Err s) e = absurd (some_number s (sym (ap (λ (d : SnoopReply). d.number) e)))
snoop_told u v (Err r) (Ok y) e = absurd (some_number r (ap (λ (d : SnoopReply). d.number) e))
snoop_told u v (Err r) (Err s) e = (ap (λ (d : SnoopReply). d.registers) e, ap Err (one_refusal r s (ap (λ (d : SnoopReply). d.number) e)))

read_told : (r s : Result ℕ Refusal) → read_said r ≡ read_said s → r ≡ s
read_told (Ok x) (Ok y) e = ap Ok (ap (λ (d : ReadReply). d.word) e)
read_told (Ok x) (Err s) e = absurd (some_number s (sym (ap (λ (d : ReadReply). d.number) e)))
read_told (Err r) (Ok y) e = absurd (some_number r (ap (λ (d : ReadReply). d.number) e))
read_told (Err r) (Err s) e = ap Err (one_refusal r s (ap (λ (d : ReadReply). d.number) e))

write_told : (u v : Registers) (r s : Result ℕ Refusal) → write_said u r ≡ write_said v s → (u ≡ v) × (r ≡ s)
write_told u v (Ok x) (Ok y) e = (ap (λ (d : WriteReply). d.registers) e, ap Ok (ap (λ (d : WriteReply). d.words) e))
write_told u v (Ok x) (Err s) e = absurd (some_number s (sym (ap (λ (d : WriteReply). d.number) e)))
write_told u v (Err r) (Ok y) e = absurd (some_number r (ap (λ (d : WriteReply). d.number) e))
write_told u v (Err r) (Err s) e = (ap (λ (d : WriteReply). d.registers) e, ap Err (one_refusal r s (ap (λ (d : WriteReply). d.number) e)))

-- ---- what a door answers, and all that it is lent as it then stands

pub record AccessOutcome : Type 0 where
  pub result : Result Answer Refusal
  pub registers : Registers
  pub pair : FaultPair
  pub patc : List ℕ
  pub lines : List ℕ
  pub cells : List ℕ
  pub ram : List ℕ

pub record SnoopOutcome : Type 0 where
  pub result : Result Snooped Refusal
  pub registers : Registers
  pub lines : List ℕ
  pub ram : List ℕ

pub record WriteOutcome : Type 0 where
  pub result : Result ℕ Refusal
  pub registers : Registers
  pub pair : FaultPair
  pub patc : List ℕ
  pub lines : List ℕ
  pub ram : List ℕ

pub record UnitOutcome : Type 0 where
  pub result : Result (Unit {0}) Refusal
  pub unit : Chip

pub record SaveOutcome : Type 0 where
  pub result : Result (Unit {0}) Refusal
  pub out : List ℕ

-- .. as the contracts say it
abbrev pub access_outcome : AccessOutcome → AccessDone
access_outcome o = access_done (access_said o.registers o.pair o.result) o.pair o.patc o.lines o.cells o.ram

abbrev pub snoop_outcome : SnoopOutcome → SnoopDone
snoop_outcome o = snoop_done (snoop_said o.registers o.result) o.lines o.ram

abbrev pub write_outcome : WriteOutcome → WriteDone
write_outcome o = write_done (write_said o.registers o.result) o.pair o.patc o.lines o.ram

abbrev pub unit_outcome : UnitOutcome → UnitDone
unit_outcome o = unit_done (unit_said o.unit.registers o.result) o.unit.pair o.unit.patc o.unit.lines o.unit.cells

abbrev pub save_outcome : SaveOutcome → Saved
save_outcome o = saved (number_in o.result) o.out

-- ---- two outcomes of which a contract says the same are one

access_whole : (x y : AccessOutcome) → access_outcome x ≡ access_outcome y → x ≡ y
access_whole x y e =
    let told : (x.registers ≡ y.registers) × (x.result ≡ y.result) = access_told _ _ _ _ _ _ (ap (λ (d : AccessDone). d.reply) e) in
    λ i. record { result = told.1 i; registers = told.0 i; pair = (e i).pair; patc = (e i).patc; lines = (e i).lines; cells = (e i).cells; ram = (e i).ram }

snoop_whole : (x y : SnoopOutcome) → snoop_outcome x ≡ snoop_outcome y → x ≡ y
snoop_whole x y e =
    let told : (x.registers ≡ y.registers) × (x.result ≡ y.result) = snoop_told _ _ _ _ (ap (λ (d : SnoopDone). d.reply) e) in
    λ i. record { result = told.1 i; registers = told.0 i; lines = (e i).lines; ram = (e i).ram }

write_whole : (x y : WriteOutcome) → write_outcome x ≡ write_outcome y → x ≡ y
write_whole x y e =
    let told : (x.registers ≡ y.registers) × (x.result ≡ y.result) = write_told _ _ _ _ (ap (λ (d : WriteDone). d.reply) e) in
    λ i. record { result = told.1 i; registers = told.0 i; pair = (e i).pair; patc = (e i).patc; lines = (e i).lines; ram = (e i).ram }

unit_whole : (x y : UnitOutcome) → unit_outcome x ≡ unit_outcome y → x ≡ y
unit_whole x y e =
    let result : x.result ≡ y.result = numbered _ _ (ap (λ (d : UnitDone). d.number) e) in
    λ i. record { result = result i; unit = (e i).unit }

save_whole : (x y : SaveOutcome) → save_outcome x ≡ save_outcome y → x ≡ y
save_whole x y e =
    let result : x.result ≡ y.result = numbered _ _ (ap (λ (d : Saved). d.number) e) in
    λ i. record { result = result i; out = (e i).out }

-- ---- two outcomes that meet a door's contract for the same call

module _ (u : Registers) (p : FaultPair) (ps ls cs ram rom : List ℕ) where
  pub same_access : (a : Access) (x y : AccessOutcome) → access_outcome x ≡ access_call u p ps ls cs ram rom a → access_outcome y ≡ access_call u p ps ls cs ram rom a → x ≡ y
  same_access a x y e f = access_whole x y (e ∙ sym f)

  pub same_snoop : (address : ℕ) (g im : Bool) (x y : SnoopOutcome) → snoop_outcome x ≡ snoop_call u ls cs ram address g im → snoop_outcome y ≡ snoop_call u ls cs ram address g im → x ≡ y
  same_snoop address g im x y e f = snoop_whole x y (e ∙ sym f)

  pub same_read : (offset : ℕ) (x y : Result ℕ Refusal) → read_said x ≡ read_call u p offset → read_said y ≡ read_call u p offset → x ≡ y
  same_read offset x y e f = read_told x y (e ∙ sym f)

  pub same_write : (offset value : ℕ) (x y : WriteOutcome) → write_outcome x ≡ write_call u p ps ls cs ram rom offset value → write_outcome y ≡ write_call u p ps ls cs ram rom offset value → x ≡ y
  same_write offset value x y e f = write_whole x y (e ∙ sym f)

module _ (c : Chip) where
  pub same_reset : (number : ℕ) (x y : UnitOutcome) → unit_outcome x ≡ reset_call c number → unit_outcome y ≡ reset_call c number → x ≡ y
  same_reset number x y e f = unit_whole x y (e ∙ sym f)

  pub same_restore : (image : List ℕ) (x y : UnitOutcome) → unit_outcome x ≡ restore_call c image → unit_outcome y ≡ restore_call c image → x ≡ y
  same_restore image x y e f = unit_whole x y (e ∙ sym f)

  pub same_save : (out : List ℕ) (x y : SaveOutcome) → save_outcome x ≡ save_call c out → save_outcome y ≡ save_call c out → x ≡ y
  same_save out x y e f = save_whole x y (e ∙ sym f)
