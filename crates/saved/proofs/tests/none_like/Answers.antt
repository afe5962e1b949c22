use Rattle.std.proofs.Common.{ℕ, Bool, not, refl, arith, rules, tests, ◌∙◌}
use Rattle.std.proofs.lemmas.Iterator.{YieldsList-from_range}
use Rattle.std.proofs.lemmas.Iterator.Search.{all_from_yields_List}
use Rattle.fields.specs.Fields.{word_from}
use Rattle.saved.specs.Tests.{alike}
use Rattle.saved.proofs.Counted.{counted}
use Rattle.saved.proofs.tests.none_like.Goals as goal

pub returns : goal.returns
returns c =
    let src = c.args.src.now in
    let word : ℕ → ℕ = word_from src c.args.at c.args.step in
    let test : ℕ → Bool = λ i. not (alike c.args.kind (word i) (word c.args.n)) in
    all_from_yields_List test _ _ c.all.result c.all.ensures.ran (YieldsList-from_range 0 c.args.n c.args.n refl (omega arith)) (λ x b q k. search (rules, tests)) ∙ counted test c.args.n
