-- What the codes of SCR ask for, by number.
use Rattle.std.proofs.Common.{◌≡◌, ◌≢◌, ℕ, arith}
use borrow.Author.Tests.{tests}
use borrow.Author.Rules.{rules}
use Rattle.words.specs.Words.{bits_of}
use Rattle.commands.specs.declared.Command.TheVariants.{Nothing}
use Rattle.commands.specs.Commands.{command_of, group_of, probing_of, clearing_of}

-- bits 5-0 alone are read
pub own : (code n : ℕ) → bits_of code 5 0 ≡ n → command_of code ≡ command_of n
unfolding command_of
own code n h =
    let g : bits_of n 5 2 ≡ bits_of code 5 2 = omega arith in
    let l : bits_of n 1 0 ≡ bits_of code 1 0 = omega arith in
    rw (g, l)

-- the codes that no arm names ask for nothing
pub other : (g l : ℕ) → g ≢ 5 → g ≢ 6 → g ≢ 7 → (g ≡ 8 → l ≢ 0) → (g ≡ 9 → l ≢ 0) → (g ≡ 12 → l ≡ 0) → (g ≡ 13 → l ≡ 0) → Nothing ≡ group_of g l
unfolding probing_of clearing_of
other g l five six seven eight nine twelve thirteen = search (tests, rules)
