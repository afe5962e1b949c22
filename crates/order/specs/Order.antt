-- The use code: six bits for the six pairs of a set's four lines.
use Rattle.std.specs.Prelude.{ℕ, ◌+◌, ◌-◌, ◌*◌, ◌/◌, ◌%◌, ◌^◌, Bool, not, ◌&&◌, ◌||◌, eqb, ltb}
use Rattle.words.specs.Words.{pick, bit_of}
use Rattle.order.specs.declared.UseOrder.{UseOrder}

-- bits 0 to 5 stand for pairs 01, 02, 12, 03, 13, 23
abbrev pub pair_bit : ℕ → ℕ → ℕ
pair_bit low high = high * (high - 1) / 2 + low

-- was line b used later than line a? A pair's bit is one when its higher line was used later
abbrev pub later : ℕ → ℕ → ℕ → Bool
later code a b = pick (ltb a b) (bit_of code (pair_bit a b)) (ltb b a && not (bit_of code (pair_bit b a)))

-- a pair's bit once line n is used: n is then later than the other
abbrev pub pair_used : ℕ → ℕ → ℕ → ℕ → ℕ
pair_used code n low high = pick (eqb n high) 1 (pick (eqb n low) 0 (code / 2 ^ pair_bit low high % 2))

-- the code once line n is used
unfoldable pub used_of : ℕ → ℕ → ℕ
used_of code n =
    pair_used code n 0 1
    + pair_used code n 0 2 * 2
    + pair_used code n 1 2 * 4
    + pair_used code n 0 3 * 8
    + pair_used code n 1 3 * 16
    + pair_used code n 2 3 * 32

-- a test that each of the four lines passes
abbrev pub each : (ℕ → Bool) → Bool
each f = f 0 && (f 1 && (f 2 && f 3))

-- was line n used earlier than all others?
abbrev pub earliest : ℕ → ℕ → Bool
earliest code n = each (λ m. eqb m n || later code n m)

-- the one earlier than all others, else line 0
unfoldable pub earliest_of : ℕ → ℕ
earliest_of code = pick (earliest code 0) 0 (pick (earliest code 1) 1 (pick (earliest code 2) 2 (pick (earliest code 3) 3 0)))

-- a code is an order where what is later than a later one is later
unfoldable pub is_order : ℕ → Bool
is_order code = each (λ a. each (λ b. each (λ c. not (later code a b && later code b c) || later code a c)))

-- the use code as the software holds it
abbrev pub ordered : ℕ → UseOrder
ordered code = record { code = code }
