-- What the words of a unit are held to: document 01's numbers 9 and 10.
use Rattle.std.specs.Prelude.{ℕ, ◌+◌, ◌*◌, Bool, not, ◌&&◌, List, eqb, get_or}
use Rattle.words.specs.Words.{bits_of, bit_of}
use Rattle.order.specs.Order.{is_order}
use Rattle.order.specs.Laws.{below}
use Rattle.state.specs.Own.{own_idr, own_scr, own_ssr, own_sctr, own_status, own_area, own_code, own_pointer}
use Rattle.state.specs.declared.Registers.{Registers}
use Rattle.state.specs.declared.FaultPair.{FaultPair}
use Rattle.saved.specs.declared.Layout.{Layout}
use Rattle.saved.specs.declared.Layout.TheVariants.{Entries, Sets}
use Rattle.saved.specs.declared.Kind.{Kind}
use Rattle.saved.specs.declared.Kind.TheVariants.{Line, Entry}
use Rattle.saved.specs.Chip.{Chip, own_word}

-- word i of a list
abbrev pub nth : List ℕ → ℕ → ℕ
nth ws i = get_or ws i 0

-- 9: no bit is set that the layout has as zero, and the pointer is at most 55: the own bits are the whole word
abbrev pub is_own : (ℕ → ℕ) → ℕ → Bool
is_own own w = eqb (own w) w

unfoldable pub registers_own : Registers → FaultPair → Bool
registers_own u pair =
    is_own own_idr u.idr
    && is_own own_scr u.scr
    && is_own own_ssr u.ssr
    && is_own own_sctr u.sctr
    && is_own own_status pair.status
    && is_own own_area u.sapr
    && is_own own_area u.uapr
    && is_own own_pointer u.pointer

-- .. of the first n of the words that `word` numbers
abbrev pub all_own : Layout → ℕ → (ℕ → ℕ) → Bool
all_own layout n word = below n (λ i. is_own (own_word layout i) (word i))

-- .. and each set's use code is an order
abbrev pub all_orders : ℕ → (ℕ → ℕ) → Bool
all_orders n word = below n (λ s. is_order (own_code (word (s * 5 + 4))))

-- 10: two valid lines with one tag, or two valid PATC entries with one page and space
abbrev pub valid : Kind → ℕ → Bool
valid Line w = not (eqb (bits_of w 1 0) 3)
valid Entry w = bit_of w 0

unfoldable pub alike : Kind → ℕ → ℕ → Bool
alike Line a b = valid Line a && valid Line b && eqb (bits_of a 31 12) (bits_of b 31 12)
alike Entry a b = valid Entry a && valid Entry b && eqb (bits_of a 31 12) (bits_of b 31 12) && eqb (bits_of a 1 1) (bits_of b 1 1)

-- none before word n is like it
abbrev pub none_like : Kind → ℕ → (ℕ → ℕ) → Bool
none_like kind n word = below n (λ i. not (alike kind (word i) (word n)))

-- no two of the first n are alike
abbrev pub apart : Kind → ℕ → (ℕ → ℕ) → Bool
apart kind n word = below n (λ j. below j (λ i. not (alike kind (word i) (word j))))

abbrev pub sets_apart : ℕ → (ℕ → ℕ) → Bool
sets_apart n word = below n (λ s. apart Line 4 (λ i. word (s * 5 + i)))

unfoldable pub bits_right : Chip → Bool
bits_right c =
    registers_own c.registers c.pair && all_own Entries 112 (nth c.patc) && all_own Sets 1280 (nth c.lines) && all_orders 256 (nth c.lines)

unfoldable pub no_doubles : Chip → Bool
no_doubles c = sets_apart 256 (nth c.lines) && apart Entry 56 (λ i. nth c.patc (i * 2))
