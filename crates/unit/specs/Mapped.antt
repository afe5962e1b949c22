-- A flight that the driver ran to its end has come to where the big steps end.
use Rattle.std.specs.Prelude.{ℕ, ◌≡◌, List}
use Rattle.std.proofs.Common.{◌∙◌}
use Rattle.std.proofs.Math.Path.{ap}
use Rattle.state.specs.declared.Access.{Access}
use Rattle.state.specs.declared.Registers.{Registers}
use Rattle.state.specs.declared.FaultPair.{FaultPair}
use Rattle.course.specs.declared.Flight.{Flight}
use Rattle.course.specs.Next.{Cached, cached}
use Rattle.flight.specs.Begin.{begin_of}
use Rattle.flight.specs.Ops.{System, system, on_cached, left_of}
use Rattle.flight.specs.Follows.{end_of, follows}
use Rattle.driver.specs.Alone.{Memory, memory, alone}
use Rattle.registers.specs.Registers.{area_of}
use Rattle.answers.specs.Answers.{flown_of}
use Rattle.unit.specs.Unit.{whole, ended_by, mapped_of}

module _ (u : Registers) (p : FaultPair) (a : Access) (ps ls cs ram rom ls₁ cs₁ ps₂ ls₂ cs₂ ram₂ : List ℕ) (f g : Flight) where
  pub ended_mapped : cached f ls₁ cs₁ ≡ begin_of a (area_of u a.supervisor) u.ports u.pointer ps ls cs
      → system g ps₂ ls₂ cs₂ (memory ram₂ rom) ≡ left_of alone 6 (system f ps ls₁ cs₁ (memory ram rom))
      → whole (flown_of u p g) ps₂ ls₂ cs₂ ram₂ ≡ mapped_of u p ps ls cs ram rom a
  unfolding flown_of mapped_of
  ended_mapped begun ran =
      ap (λ (s : System Memory). ended_by u p (end_of alone s)) ran
      ∙ ap (λ (x : Cached). ended_by u p (end_of alone (left_of alone 6 (on_cached x ps (memory ram rom))))) begun
      ∙ ap (ended_by u p) (follows alone a (area_of u a.supervisor) u.ports u.pointer ps ls cs (memory ram rom))
