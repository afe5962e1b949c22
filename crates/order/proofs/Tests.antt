-- A const table of a test's answers.
use Rattle.std.proofs.Common.{◌≡◌, ℕ, zero, suc, ◌+◌, ◌<◌, Bool, false, List, [], ◌∷◌, get_or, ap, ◌∙◌, arith, le_of_suc-le-suc, not-suc-le-zero}

-- the answers of a test at n numbers from i on
unfoldable pub answers : (ℕ → Bool) → ℕ → ℕ → List Bool
answers test i zero = []
answers test i (suc n) = test i ∷ answers test (suc i) n

from : (test : ℕ → Bool) (n i k : ℕ) → k < n → get_or (answers test i n) k false ≡ test (i + k)
unfolding answers
from test zero i k h = absurd (not-suc-le-zero h)
from test (suc n) i zero h = ap test (omega arith)
from test (suc n) i (suc k) h = from test n (suc i) k (le_of_suc-le-suc h) ∙ ap test (omega arith)

pub answered : (test : ℕ → Bool) (n k : ℕ) → k < n → get_or (answers test 0 n) k false ≡ test k
answered test n k h = from test n 0 k h ∙ ap test (omega arith)
