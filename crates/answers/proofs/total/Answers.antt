use Rattle.std.proofs.Common.{◌≡◌, ◌≤◌, ◌^◌, List, [], ◌∷◌, length, sum_by, ◌∙◌, arith, rules}
use Rattle.std.proofs.iter.runs.Made.{chains}
use Rattle.std.proofs.lemmas.Iterator.{YieldsList-from_slice}
use Rattle.std.proofs.lemmas.Iterator.Adapters.{fits_from_length, at_most_from_yields_List}
use Rattle.state.specs.declared.Transaction.{Transaction}
use Rattle.answers.specs.Answers.{total_of}
use Rattle.answers.proofs.total.Goals as goal

-- six transactions: the sum of the list is that of its six places
six : (xs : List Transaction) → length xs ≡ 6 → sum_by (λ (t : Transaction). t.words) xs ≡ total_of xs
unfolding total_of
six (a ∷ b ∷ c ∷ d ∷ e ∷ f ∷ []) h = omega arith
six [] h = absurd (omega arith)
six (a ∷ []) h = absurd (omega arith)
six (a ∷ b ∷ []) h = absurd (omega arith)
six (a ∷ b ∷ c ∷ []) h = absurd (omega arith)
six (a ∷ b ∷ c ∷ d ∷ []) h = absurd (omega arith)
six (a ∷ b ∷ c ∷ d ∷ e ∷ []) h = absurd (omega arith)
six (a ∷ b ∷ c ∷ d ∷ e ∷ f ∷ g ∷ xs) h = absurd (omega arith)

pub sum-requires-clause-fits : goal.sum-requires-clause-fits
sum-requires-clause-fits c =
    let few : length c.args.list.now ≤ 6 = omega arith in
    fits_from_length _ _ 6 (2 ^ 32) (at_most_from_yields_List (YieldsList-from_slice c.args.list.now cc) few) c.map.ensures.closure (omega arith) (λ x r q k. search rules)

pub returns : goal.returns
returns c =
    let summed : c.sum.result ≡ sum_by (λ (t : Transaction). t.words) c.args.list.now = search (rules, chains) in
    let whole : length c.args.list.now ≡ 6 = search rules in
    summed ∙ six _ whole
