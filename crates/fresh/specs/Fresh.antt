-- What is lent, at reset: cache lines and PATC start invalid, each set's use code is 63; cache data is 0.
use Rattle.std.specs.Prelude.{ℕ, ◌%◌, ◌≤◌, ◌≡◌, List, ◌++◌, length, drop, eqb}
use Rattle.std.proofs.Common.{ap, ◌∙◌, arith, append-nil, drop_of_length-le}
use Rattle.words.specs.Words.{pick}
use Rattle.order.specs.Laws.{table}

-- as many words, all 0
unfoldable pub cleared_of : List ℕ → List ℕ
cleared_of xs = table (λ _. 0) 0 (length xs)

-- five words a set: four tag words in state 3, then the use code
abbrev pub fresh_word : ℕ → ℕ
fresh_word i = pick (eqb (i % 5) 4) 63 3

unfoldable pub fresh_lines : List ℕ → List ℕ
fresh_lines ls = table fresh_word 0 (length ls)

-- a list filled to its end
pub filled : (rule : ℕ → ℕ) (xs ys : List ℕ) (i : ℕ) → i ≤ length ys → length ys ≤ i → xs ≡ table rule 0 i ++ drop i ys → xs ≡ table rule 0 (length ys)
filled rule xs ys i l h e = let q : i ≡ length ys = omega arith in e ∙ rw (drop_of_length-le ys h, append-nil) (ap (table rule 0) q)
