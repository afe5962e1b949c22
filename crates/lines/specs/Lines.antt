-- The cache's directory: 256 sets of 4 lines. A place is 4 x set + number, 0 to 1023.
-- The directory holds for each set its four tag words, the tag in bits 31-12 and VV in bits 1-0, and then its use code.
use Rattle.std.specs.Prelude.{ℕ, ◌+◌, ◌*◌, ◌/◌, ◌%◌, Bool, false, not, ◌&&◌, List, [], ◌∷◌, get_or, set, eqb}
use Rattle.words.specs.Words.{pick, bits_of}
use Rattle.order.specs.Order.{used_of, earliest_of}
use Rattle.lines.specs.declared.LineState.{LineState}
use Rattle.lines.specs.declared.LineState.TheVariants.{Exclusive, Modified, Shared, Invalid}

-- set: physical bits 11-4; tag: bits 31-12
abbrev pub set_of : ℕ → ℕ
set_of address = bits_of address 11 4

abbrev pub tag_of : ℕ → ℕ
tag_of address = bits_of address 31 12

-- where a place's tag word and its set's use code stand
abbrev pub tag_at : ℕ → ℕ
tag_at p = p / 4 * 5 + p % 4

abbrev pub code_at : ℕ → ℕ
code_at p = p / 4 * 5 + 4

-- states: 0 exclusive unmodified, 1 exclusive modified, 2 shared unmodified, 3 invalid
abbrev pub state_of : ℕ → ℕ
state_of w = bits_of w 1 0

abbrev pub vv_of : LineState → ℕ
vv_of Exclusive = 0
vv_of Modified = 1
vv_of Shared = 2
vv_of Invalid = 3

abbrev pub valid : ℕ → Bool
valid w = not (eqb (state_of w) 3)

abbrev pub modified : ℕ → Bool
modified w = eqb (state_of w) 1

-- a valid line with the tag
unfoldable pub matches : ℕ → ℕ → Bool
matches w tag = valid w && eqb (tag_of w) tag

abbrev pub tag_word : List ℕ → ℕ → ℕ
tag_word ls p = get_or ls (tag_at p) 0

abbrev pub tag_words : List ℕ → ℕ → List ℕ
tag_words ls p = tag_word ls p ∷ tag_word ls (p + 1) ∷ tag_word ls (p + 2) ∷ tag_word ls (p + 3) ∷ []

-- the address of a line's first word, from its tag and its set
abbrev pub line_address : ℕ → ℕ → ℕ
line_address p w = tag_of w * 4096 + p / 4 * 16

-- the lowest of the four places from p on whose tag word passes a test, else another
abbrev pub lowest : List ℕ → (ℕ → Bool) → ℕ → ℕ → ℕ
lowest ls f p other =
    pick (f (tag_word ls p)) p (pick (f (tag_word ls (p + 1))) (p + 1) (pick (f (tag_word ls (p + 2))) (p + 2) (pick (f (tag_word ls (p + 3))) (p + 3) other)))

-- .. by what the test says of each
abbrev pub lowest_of : List Bool → ℕ → ℕ → ℕ
lowest_of passes p other =
    pick (get_or passes 0 false) p (pick (get_or passes 1 false) (p + 1) (pick (get_or passes 2 false) (p + 2) (pick (get_or passes 3 false) (p + 3) other)))

-- a hit is the lowest valid line with the tag; no place is 1024
unfoldable pub hit_of : List ℕ → ℕ → ℕ
hit_of ls address = lowest ls (λ w. matches w (tag_of address)) (set_of address * 4) 1024

-- victim: lowest invalid line, else the one earlier than all others, else line 0
unfoldable pub victim_of : List ℕ → ℕ → ℕ
victim_of ls address =
    lowest ls (λ w. not (valid w)) (set_of address * 4) (set_of address * 4 + earliest_of (bits_of (get_or ls (code_at (set_of address * 4)) 0) 5 0))

-- a tag word in another state: the tag stays
abbrev pub with_state : ℕ → ℕ → ℕ
with_state w state = tag_of w * 4096 + state

-- the directory with a line in another state, with another tag, filled, and with its use recorded
unfoldable pub marked : List ℕ → ℕ → ℕ → List ℕ
marked ls p state = set ls (tag_at p) (with_state (tag_word ls p) state)

unfoldable pub tagged : List ℕ → ℕ → ℕ → List ℕ
tagged ls p address = set ls (tag_at p) (tag_of address * 4096 + state_of (tag_word ls p))

unfoldable pub filled_of : List ℕ → ℕ → ℕ → List ℕ
filled_of ls p address = marked (tagged ls p address) p 2

unfoldable pub used_at : List ℕ → ℕ → List ℕ
used_at ls p = set ls (code_at p) (used_of (bits_of (get_or ls (code_at p) 0) 5 0) (p % 4))
