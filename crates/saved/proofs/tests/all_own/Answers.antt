use Rattle.std.proofs.Common.{ℕ, Bool, refl, arith, rules, tests, ◌∙◌}
use Rattle.std.proofs.lemmas.Iterator.{YieldsList-from_range}
use Rattle.std.proofs.lemmas.Iterator.Search.{all_from_yields_List}
use Rattle.fields.specs.Fields.{word_from}
use Rattle.saved.specs.Chip.{own_word}
use Rattle.saved.specs.Tests.{is_own}
use Rattle.saved.proofs.Counted.{counted}
use Rattle.saved.proofs.tests.all_own.Goals as goal

pub returns : goal.returns
returns c =
    let src = c.args.src.now in
    let test : ℕ → Bool = λ i. is_own (own_word c.args.layout i) (word_from src c.args.at 4 i) in
    all_from_yields_List test _ _ c.all.result c.all.ensures.ran (YieldsList-from_range 0 c.args.n c.args.n refl (omega arith)) (λ x b q k. search (rules, tests)) ∙ counted test c.args.n
