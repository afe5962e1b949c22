-- The page translations: 56 entries of a page word and a frame word.
use Rattle.std.specs.Prelude.{ℕ, zero, suc, ◌+◌, ◌*◌, Bool, true, ◌&&◌, List, Option, Some, None, get_or, set, eqb, ltb}
use Rattle.words.specs.Words.{pick, bits_of, bit_of, flag_of}
use Rattle.state.specs.Own.{own_pointer}
use Rattle.pages.specs.Pages.{same}
use Rattle.patc.specs.declared.Range.{Range}
use Rattle.patc.specs.declared.Range.TheVariants.{Page, Segment, All}

-- the slot of a number; 56, or more, stands for none
abbrev pub some_slot : ℕ → Option ℕ
some_slot n = pick (ltb n 56) (Some n) None

abbrev pub page_word : List ℕ → ℕ → ℕ
page_word ps n = get_or ps (n * 2) 0

abbrev pub frame_word : List ℕ → ℕ → ℕ
frame_word ps n = get_or ps (n * 2 + 1) 0

-- PATC: valid, same space, bits 31-12 equal
unfoldable pub entry_hits : ℕ → ℕ → Bool → Bool
entry_hits w address s = bit_of w 0 && same (bit_of w 1) s && eqb (bits_of w 31 12) (bits_of address 31 12)

-- the first of k entries from n on that is hit, else the one after them
unfoldable pub entry_from : List ℕ → ℕ → Bool → ℕ → ℕ → ℕ
entry_from ps address s n zero = n
entry_from ps address s n (suc k) = pick (entry_hits (page_word ps n) address s) n (entry_from ps address s (suc n) k)

-- lowest entry first; 56 for none
abbrev pub entry_of : List ℕ → ℕ → Bool → ℕ
entry_of ps address s = entry_from ps address s 0 56

-- V of a page word, and the map of k entries' V from n on, the first of them lowest
abbrev pub valid_of : ℕ → ℕ
valid_of w = bits_of w 0 0

unfoldable pub map_of : List ℕ → ℕ → ℕ → ℕ
map_of ps n zero = 0
map_of ps n (suc k) = map_of ps (suc n) k * 2 + valid_of (page_word ps n)

-- how many of k entries from n on are valid before the first that is not
unfoldable pub free_from : List ℕ → ℕ → ℕ → ℕ
free_from ps n zero = 0
free_from ps n (suc k) = pick (bit_of (page_word ps n) 0) (suc (free_from ps (suc n) k)) 0

-- the lowest invalid entry; 56 for none
abbrev pub free_of : List ℕ → ℕ
free_of ps = free_from ps 0 56

-- the entries with both words of one stored
unfoldable pub put_of : List ℕ → ℕ → ℕ → ℕ → List ℕ
put_of ps n page frame = set (set ps (n * 2) page) (n * 2 + 1) frame

-- the pointer steps, 55 to 0
abbrev pub stepped_of : ℕ → ℕ
stepped_of at = pick (eqb at 55) 0 (at + 1)

pub record Loaded : Type 0 where
  pub pointer : ℕ
  pub patc : List ℕ

abbrev pub loaded : ℕ → List ℕ → Loaded
loaded pointer ps = record { pointer = pointer; patc = ps }

-- an entry is loaded: the lowest invalid one; if none, the one at the pointer, which then steps
unfoldable pub load_of : List ℕ → ℕ → ℕ → ℕ → Loaded
load_of ps pointer page frame =
    pick (ltb (free_of ps) 56)
    (loaded pointer (put_of ps (free_of ps) page frame))
    (loaded (stepped_of (own_pointer pointer)) (put_of ps (own_pointer pointer) page frame))

-- the entries that a command names by the logical SAR: of its page, of its segment, or all
abbrev pub named : Range → ℕ → ℕ → Bool
named Page w address = eqb (bits_of w 31 12) (bits_of address 31 12)
named Segment w address = eqb (bits_of w 31 22) (bits_of address 31 22)
named All w address = true

-- .. have V cleared, in one space
unfoldable pub cleared_word : Range → Bool → ℕ → ℕ → ℕ
cleared_word range s address w = pick (bit_of w 0 && same (bit_of w 1) s && named range w address) (bits_of w 31 12 * 4096 + flag_of s 2) w

-- the first n entries cleared so
unfoldable pub cleared_to : Range → Bool → ℕ → List ℕ → ℕ → List ℕ
cleared_to range s address ps zero = ps
cleared_to range s address ps (suc n) =
    set (cleared_to range s address ps n) (n * 2) (cleared_word range s address (page_word (cleared_to range s address ps n) n))

abbrev pub cleared_of : Range → Bool → ℕ → List ℕ → List ℕ
cleared_of range s address ps = cleared_to range s address ps 56
