-- One answer: two outcomes that meet a door's contract for the same call are equal, in the answer and in all that is lent.
use Rattle.std.specs.Prelude.{ℕ, ◌≡◌, Bool, List}
use Rattle.std.proofs.Common.{sym, ◌∙◌}
use Rattle.state.specs.declared.Access.{Access}
use Rattle.state.specs.declared.FaultPair.{FaultPair}
use Rattle.state.specs.declared.Registers.{Registers}
use Rattle.saved.specs.Chip.{Chip}
use Rattle.saved.specs.Image.{Saved}
use Rattle.calls.specs.Calls.{ReadReply, AccessDone, access_call, SnoopDone, snoop_call, read_call, WriteDone, write_call}
use Rattle.starts.specs.Starts.{UnitDone, reset_call, restore_call, save_call}

-- what is said by an equation is said of one thing
one : {A : Type 0} {x y said : A} → x ≡ said → y ≡ said → x ≡ y
one p q = p ∙ sym q

module _ (u : Registers) (p : FaultPair) (ps ls cs ram rom : List ℕ) where
  pub one_access : (a : Access) (x y : AccessDone) → x ≡ access_call u p ps ls cs ram rom a → y ≡ access_call u p ps ls cs ram rom a → x ≡ y
  one_access a x y = one

  pub one_snoop : (address : ℕ) (g im : Bool) (x y : SnoopDone) → x ≡ snoop_call u ls cs ram address g im → y ≡ snoop_call u ls cs ram address g im → x ≡ y
  one_snoop address g im x y = one

  pub one_read : (offset : ℕ) (x y : ReadReply) → x ≡ read_call u p offset → y ≡ read_call u p offset → x ≡ y
  one_read offset x y = one

  pub one_write : (offset value : ℕ) (x y : WriteDone) → x ≡ write_call u p ps ls cs ram rom offset value → y ≡ write_call u p ps ls cs ram rom offset value → x ≡ y
  one_write offset value x y = one

module _ (c : Chip) where
  pub one_reset : (number : ℕ) (x y : UnitDone) → x ≡ reset_call c number → y ≡ reset_call c number → x ≡ y
  one_reset number x y = one

  pub one_restore : (image : List ℕ) (x y : UnitDone) → x ≡ restore_call c image → y ≡ restore_call c image → x ≡ y
  one_restore image x y = one

  pub one_save : (out : List ℕ) (x y : Saved) → x ≡ save_call c out → y ≡ save_call c out → x ≡ y
  one_save out x y = one
