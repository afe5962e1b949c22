use Rattle.std.proofs.Common.{◌≡◌, ℕ, zero, suc, List, ◌∷◌, refl, ap, ◌∙◌}
use Rattle.std.specs.Prelude.{replicate}
use Rattle.order.specs.Laws.{table}
use Rattle.fresh.specs.Fresh.{cleared_of}
use Rattle.fresh.proofs.clear.Goals as goal

zeros : (i n : ℕ) → replicate n 0 ≡ table (λ _. 0) i n
unfolding table
zeros i zero = refl
zeros i (suc n) = ap (λ (l : List ℕ). 0 ∷ l) (zeros (suc i) n)

pub returns : goal.returns
unfolding cleared_of
returns c = c.fill.ensures.after (λ y e. e) ∙ zeros 0 _
