-- The loop's invariant: what is left to store, stored, gives what is to be there at the end.
use Prim.Native.Nat.{◌+◌, ◌*◌, ◌≤◌}
use mathlib.Core.Path.{◌≡◌}
use lib.ListN.{length, drop}
use lib.Seq.{sets}
use Rattle.fields.specs.Fields.{bytes_of}
use Rattle.saved.specs.Chip.{own_from, own_words}
use Rattle.image.proofs.write.content.Given as goal

abbrev pub invariant-loop-i : goal.invariant-loop-i
invariant-loop-i l =
    (l.i ≤ length l.src) × (length l.out ≡ length l.initial.out)
    × (sets l.out (l.at + l.i * 4) (bytes_of (own_from l.layout l.i (drop l.i l.src))) ≡ sets l.initial.out l.at (bytes_of (own_words l.layout l.src)))
