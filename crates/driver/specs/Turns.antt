-- The cache's turn, and the turns that are left.
use Rattle.std.specs.Prelude.{ℕ, zero, suc, ◌-◌, ◌<◌, ◌≡◌, Bool, true, false, List}
use Rattle.std.proofs.Math.Path.{refl}
use Rattle.std.proofs.Common.{sym, arith}
use Rattle.std.proofs.lemmas.Bool.{false≢true}
use Rattle.words.specs.Words.{pick}
use Rattle.course.specs.declared.Flight.{Flight}
use Rattle.course.specs.declared.Stage.{Stage}
use Rattle.course.specs.declared.Stage.TheVariants.{Done, Segment, Page, Update, Drop, Back, Fill, Store, Single}
use Rattle.flight.specs.Ops.{Ops, System, system, turn_at, turn_of, left_of}
use Rattle.transfers.specs.Transfers.{FlownTo, single_by, Carried, transfer_at}
use Rattle.driver.specs.Alone.{Memory, memory, alone}

-- the stages whose transaction is not the cache's
abbrev pub searches : Stage → Bool
searches Done = false
searches Segment = true
searches Page = true
searches Update = true
searches Drop = false
searches Back = false
searches Fill = false
searches Store = false
searches Single = false

pick_ap : {A B : Type 0} (F : A → B) (b : Bool) (x y : A) → F (pick b x y) ≡ pick b (F x) (F y)
pick_ap F true x y = refl
pick_ap F false x y = refl

abbrev pub on_carried : List ℕ → List ℕ → Carried → System Memory
on_carried ps rom x = system x.flight ps x.lines x.cells (memory x.ram rom)

module _ (f : Flight) (ps ls cs ram rom : List ℕ) where
  -- what the cache wants moved is its turn on the memory
  pub cache_turn : (s : Stage) → searches s ≡ false → on_carried ps rom (transfer_at s f ls cs ram rom) ≡ turn_at alone s f ps ls cs (memory ram rom)
  unfolding transfer_at turn_at single_by
  cache_turn Done e = refl
  cache_turn Segment e = absurd (false≢true (sym e))
  cache_turn Page e = absurd (false≢true (sym e))
  cache_turn Update e = absurd (false≢true (sym e))
  cache_turn Drop e = refl
  cache_turn Back e = refl
  cache_turn Fill e = refl
  cache_turn Store e = refl
  cache_turn Single e = pick_ap (λ (x : FlownTo). system x.flight ps ls cs (memory x.ram rom)) f.course.access.write _ _

-- one turn of those left
pub step_left : {W : Type 0} (ops : Ops W) (n : ℕ) (s : System W) → 0 < n → left_of ops (n - 1) (turn_of ops s) ≡ left_of ops n s
unfolding left_of
step_left ops zero s h = absurd (omega arith)
step_left ops (suc n) s h = let e : suc n - 1 ≡ n = omega arith in rw e
