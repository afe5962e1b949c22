use Rattle.std.proofs.Common.{◌≡◌, ℕ, ◌+◌, ◌*◌, List, Bool, refl, ap, arith, rules, tests, ◌∙◌}
use Rattle.std.proofs.lemmas.Iterator.{YieldsList-from_range}
use Rattle.std.proofs.lemmas.Iterator.Search.{all_from_yields_List}
use Rattle.words.specs.Words.{bits_of}
use Rattle.order.specs.Order.{is_order}
use Rattle.fields.specs.Fields.{word_from, word_at}
use Rattle.state.specs.Own.{own_code, own_code_lem}
use Rattle.saved.specs.Below.{below_same}
use Rattle.saved.proofs.Counted.{counted}
use Rattle.saved.proofs.tests.all_orders.Goals as goal

-- what was tested is the use code of the set
abbrev tested : List ℕ → ℕ → ℕ → Bool
tested src at s = is_order (bits_of (bits_of (word_at src (at + s * 20 + 16)) 5 0) 5 0)

the_code : (src : List ℕ) (at s : ℕ) → tested src at s ≡ is_order (own_code (word_from src at 4 (s * 5 + 4)))
unfolding own_code
the_code src at s =
    let e : at + (s * 5 + 4) * 4 ≡ at + s * 20 + 16 = omega arith in
    rw e (ap is_order (own_code_lem (word_at src (at + s * 20 + 16))))

pub returns : goal.returns
returns c =
    let src = c.args.src.now in
    let at = c.args.at in
    all_from_yields_List (tested src at) _ _ c.all.result c.all.ensures.ran (YieldsList-from_range 0 c.args.n c.args.n refl (omega arith)) (λ x b q k. search (rules, tests))
    ∙ counted (tested src at) c.args.n ∙ below_same c.args.n (tested src at) (λ s. is_order (own_code (word_from src at 4 (s * 5 + 4)))) (λ s h. the_code src at s)
