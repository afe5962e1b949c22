-- The numbers of malformed calls, and what a call's result has of them.
use Rattle.std.specs.Prelude.{ℕ, Result, Ok, Err, ◌≡◌, refl, eqb}
use Rattle.std.proofs.Common.{sym, ap, ◌∙◌, arith}
use Rattle.std.specs.Result.{IsErr, IsErrAnd}
use Rattle.words.specs.Words.{pick}
use Rattle.state.specs.declared.Refusal.{Refusal}
use Rattle.state.specs.declared.Refusal.TheVariants.{RamLength, RomLength, CellsLength, Address, Enables, Offset, ImageLength, ImageHeads, ImageBits, ImageDoubles, OutputLength}

-- 1 RAM length, 2 ROM length, 3 cache data's length, 4 address, 5 enables, 6 offset; 7 to 10 the image's length, heads, bits and doubles; 11 the output's length
abbrev pub number_of : Refusal → ℕ
number_of RamLength = 1
number_of RomLength = 2
number_of CellsLength = 3
number_of Address = 4
number_of Enables = 5
number_of Offset = 6
number_of ImageLength = 7
number_of ImageHeads = 8
number_of ImageBits = 9
number_of ImageDoubles = 10
number_of OutputLength = 11

-- 0 where a call is taken
abbrev pub number_in : {T : Type 0} → Result T Refusal → ℕ
number_in (Ok x) = 0
number_in (Err r) = number_of r

abbrev refusal_at : ℕ → Refusal
refusal_at n =
    pick (eqb n 1) RamLength
    (pick (eqb n 2) RomLength
    (pick (eqb n 3) CellsLength
    (pick (eqb n 4) Address
    (pick (eqb n 5) Enables
    (pick (eqb n 6) Offset
    (pick (eqb n 7) ImageLength
    (pick (eqb n 8) ImageHeads
    (pick (eqb n 9) ImageBits
    (pick (eqb n 10) ImageDoubles
    (OutputLength))))))))))

back : (r : Refusal) → refusal_at (number_of r) ≡ r
back RamLength = refl
back RomLength = refl
back CellsLength = refl
back Address = refl
back Enables = refl
back Offset = refl
back ImageLength = refl
back ImageHeads = refl
back ImageBits = refl
back ImageDoubles = refl
back OutputLength = refl

-- a number names one refusal
pub one_refusal : (a b : Refusal) → number_of a ≡ number_of b → a ≡ b
one_refusal a b e = sym (back a) ∙ ap refusal_at e ∙ back b

-- .. and none is 0
pub some_number : (r : Refusal) → number_of r ≡ 0 → ⊥
some_number RamLength e = omega (arith, e)
some_number RomLength e = omega (arith, e)
some_number CellsLength e = omega (arith, e)
some_number Address e = omega (arith, e)
some_number Enables e = omega (arith, e)
some_number Offset e = omega (arith, e)
some_number ImageLength e = omega (arith, e)
some_number ImageHeads e = omega (arith, e)
some_number ImageBits e = omega (arith, e)
some_number ImageDoubles e = omega (arith, e)
some_number OutputLength e = omega (arith, e)

-- what `?` hands on is the refusal itself
pub handed_on : {T : Type 0} (r : Result T Refusal) (e : Refusal) → IsErr r × IsErrAnd r (λ x. x ≡ e) → r ≡ Err e
handed_on (Ok x) e h = absurd h.1
handed_on (Err x) e h = ap Err h.1
