-- The pointer that loading an entry leaves.
use Prim.Native.Nat.{ℕ, ◌≤◌}
use Rattle.std.specs.Prelude.{ltb}
use mathlib.Core.List.{List}
use Rattle.words.specs.Laws.{either}
use Rattle.state.specs.Own.{own_pointer, pointer_small}
use Rattle.patc.specs.Patc.{free_of, Loaded, load_of}
use Rattle.reached.specs.Entries.{stepped_small}

pub load_pointer : (ps : List ℕ) (pointer page frame : ℕ) → pointer ≤ 55 → (load_of ps pointer page frame).pointer ≤ 55
unfolding load_of
load_pointer ps pointer page frame h =
    either (λ (l : Loaded). l.pointer ≤ 55) (ltb (free_of ps) 56) (λ _. h) (λ _. stepped_small (own_pointer pointer) (pointer_small pointer))
