-- The loop's invariant: the words read, and then those that are left to read, are all the words.
use Rattle.std.proofs.Common.{◌≡◌, ◌+◌, ◌*◌, ◌-◌, ◌≤◌, ◌++◌, length, take}
use Rattle.fields.specs.Fields.{words_at}
use Rattle.fields.proofs.get_words.Given as goal

abbrev pub invariant-loop-i : goal.invariant-loop-i
invariant-loop-i l =
    (l.i ≤ length l.fn.out) × (length l.out ≡ length l.fn.out)
    × (take l.i l.out ++ words_at l.src (l.at + l.i * 4) (length l.fn.out - l.i) ≡ words_at l.src l.at (length l.fn.out))
