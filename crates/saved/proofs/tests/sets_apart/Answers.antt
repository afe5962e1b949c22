use Rattle.std.proofs.Common.{ℕ, ◌+◌, ◌*◌, Bool, refl, sym, arith, rules, tests, ◌∙◌}
use Rattle.std.proofs.lemmas.Iterator.{YieldsList-from_range}
use Rattle.std.proofs.lemmas.Iterator.Search.{all_from_yields_List}
use Rattle.fields.specs.Fields.{word_from}
use Rattle.saved.specs.declared.Kind.TheVariants.{Line}
use Rattle.saved.specs.Tests.{apart}
use Rattle.saved.specs.Laws.{set_bytes}
use Rattle.saved.specs.Below.{below_same}
use Rattle.saved.proofs.Counted.{counted}
use Rattle.saved.proofs.tests.sets_apart.Goals as goal

pub returns : goal.returns
returns c =
    let src = c.args.src.now in
    let test : ℕ → Bool = λ s. apart Line 4 (word_from src (c.args.at + s * 20) 4) in
    let of_sets : ℕ → Bool = λ s. apart Line 4 (λ i. word_from src c.args.at 4 (s * 5 + i)) in
    all_from_yields_List test _ _ c.all.result c.all.ensures.ran (YieldsList-from_range 0 c.args.n c.args.n refl (omega arith)) (λ x b q k. search (rules, tests))
    ∙ counted test c.args.n ∙ below_same c.args.n test of_sets (λ s h. sym (set_bytes src c.args.at s))
