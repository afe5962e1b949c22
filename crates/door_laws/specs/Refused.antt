-- A refusal changes nothing: the answer is the number alone, and all that is lent stays as it was.
use Rattle.std.specs.Prelude.{ℕ, ◌≡◌, Bool, false, List, eqb, length}
use Rattle.state.specs.declared.Access.{Access}
use Rattle.state.specs.declared.FaultPair.{FaultPair}
use Rattle.state.specs.declared.Registers.{Registers}
use Rattle.snoop.specs.declared.Snooped.TheVariants.{Clear}
use Rattle.saved.specs.Chip.{Chip}
use Rattle.saved.specs.Image.{saved}
use Rattle.refusals.specs.Refusals.{access_refusal, snoop_refusal, read_refusal, write_refusal, reset_refusal, restore_refusal, save_refusal}
use Rattle.calls.specs.Calls.{access_done, access_refused, access_by, access_call, snoop_done, snoop_reply, snoop_by, snoop_call, read_by, read_call, write_done, write_reply, write_by, write_call}
use Rattle.starts.specs.Starts.{unit_by, reset_call, restore_call, save_by, save_call}

module _ (u : Registers) (p : FaultPair) (ps ls cs ram rom : List ℕ) where
  module _ (a : Access) where
    abbrev n : ℕ
    n = access_refusal (length ram) (length rom) (length cs) a.address a.enables

    pub refused_access : eqb n 0 ≡ false → access_call u p ps ls cs ram rom a ≡ access_done (access_refused n u p) p ps ls cs ram
    unfolding access_by
    refused_access e = rw e

  module _ (address : ℕ) (g im : Bool) where
    abbrev m : ℕ
    m = snoop_refusal (length ram) (length cs) address

    pub refused_snoop : eqb m 0 ≡ false → snoop_call u ls cs ram address g im ≡ snoop_done (snoop_reply m u Clear) ls ram
    unfolding snoop_by
    refused_snoop e = rw e

  pub refused_read : (offset : ℕ) → eqb (read_refusal offset) 0 ≡ false → read_call u p offset ≡ record { number = read_refusal offset; word = 0 }
  unfolding read_by
  refused_read offset e = rw e

  module _ (offset value : ℕ) where
    abbrev k : ℕ
    k = write_refusal (length ram) (length rom) (length cs) offset

    pub refused_write : eqb k 0 ≡ false → write_call u p ps ls cs ram rom offset value ≡ write_done (write_reply k u 0) p ps ls ram
    unfolding write_by
    refused_write e = rw e

module _ (c : Chip) where
  pub refused_reset : (number : ℕ) → eqb (reset_refusal (length c.cells)) 0 ≡ false → reset_call c number ≡ record { number = reset_refusal (length c.cells); unit = c }
  unfolding unit_by
  refused_reset number e = rw e

  pub refused_restore : (image : List ℕ) → eqb (restore_refusal (length c.cells) image) 0 ≡ false
      → restore_call c image ≡ record { number = restore_refusal (length c.cells) image; unit = c }
  unfolding unit_by
  refused_restore image e = rw e

  pub refused_save : (out : List ℕ) → eqb (save_refusal (length c.cells) (length out)) 0 ≡ false → save_call c out ≡ saved (save_refusal (length c.cells) (length out)) out
  unfolding save_by
  refused_save out e = rw e
