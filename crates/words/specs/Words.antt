-- A word's fields and bytes, by `/` and `%`.
use Rattle.std.specs.Prelude.{ℕ, ◌+◌, ◌-◌, ◌*◌, ◌/◌, ◌%◌, ◌^◌, Bool, true, false, eqb}

-- `x` where the test holds, else `y`
abbrev pub pick {ℓ} : {A : Type ℓ} → Bool → A → A → A
pick true x y = x
pick false x y = y

-- bits high to low of a word
abbrev pub bits_of : ℕ → ℕ → ℕ → ℕ
bits_of w high low = w / 2 ^ low % 2 ^ (high - low + 1)

-- is bit n of a word set?
abbrev pub bit_of : ℕ → ℕ → Bool
bit_of w n = eqb (w / 2 ^ n % 2) 1

-- byte 3 of a word is bits 31-24, byte 0 bits 7-0
abbrev pub byte_of : ℕ → ℕ → ℕ
byte_of w n = w / 2 ^ (8 * n) % 256

-- the word of four bytes, the highest first
abbrev pub join_of : ℕ → ℕ → ℕ → ℕ → ℕ
join_of top upper lower last = top * 16777216 + upper * 65536 + lower * 256 + last

-- byte n of `new` where it is enabled, else of `old`
abbrev pub lane_of : ℕ → ℕ → ℕ → ℕ → ℕ
lane_of enables old new n = pick (bit_of enables n) (byte_of new n) (byte_of old n)

-- a word with its enabled bytes taken from another: enables 8, 4, 2, 1 name bytes 31-24 down to 7-0
unfoldable pub merge_of : ℕ → ℕ → ℕ → ℕ
merge_of enables old new = join_of (lane_of enables old new 3) (lane_of enables old new 2) (lane_of enables old new 1) (lane_of enables old new 0)

-- bytes not enabled read as 0
abbrev pub keep_of : ℕ → ℕ → ℕ
keep_of enables w = merge_of enables 0 w

-- a flag's weight where it is set
abbrev pub flag_of : Bool → ℕ → ℕ
flag_of set weight = pick set weight 0
