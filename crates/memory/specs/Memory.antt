-- What the host lends: RAM from physical address 0, ROM from FFE00000.
use Rattle.std.specs.Prelude.{ℕ, ◌+◌, ◌-◌, ◌*◌, ◌/◌, ◌%◌, Bool, true, false, ◌&&◌, List, [], length, get_or, set, take, drop, eqb, ltb, leb, Result, Ok, Err}
use Rattle.std.proofs.Common.{Bor}
use Rattle.words.specs.Words.{pick, merge_of}
use Rattle.memory.specs.declared.Done.{Done}
use Rattle.memory.specs.declared.BusError.{BusError}

-- an area's length: a multiple of 4, up to a limit
abbrev pub is_area : ℕ → ℕ → Bool
is_area limit n = eqb (n % 4) 0 && leb n limit

-- RAM: at most 4,194,304
abbrev pub ram_rule : ℕ → Bool
ram_rule n = is_area 4194304 n

-- ROM: at most 262,144
abbrev pub rom_rule : ℕ → Bool
rom_rule n = is_area 262144 n

-- where a word, and the first word of a line, would stand in RAM
abbrev pub ram_place : ℕ → ℕ
ram_place address = address / 4

abbrev pub ram_line : ℕ → ℕ
ram_line address = address / 16 * 4

-- ROM's first word, FFE00000 / 4
abbrev pub rom_word : ℕ
rom_word = 1073217536

-- what a transaction moved: did it end well, the words to list, and else where it failed
pub record Moved : Type 0 where
  pub ok : Bool
  pub words : ℕ
  pub failing : ℕ

-- a word read, 0 where none could be
pub record Read : Type 0 where
  pub moved : Moved
  pub word : ℕ

-- a transaction that ended well, with its words, and one that failed at an address
abbrev pub moved_of : ℕ → Moved
moved_of n = record { ok = true; words = n; failing = 0 }

abbrev pub failed_of : ℕ → Moved
failed_of address = record { ok = false; words = 0; failing = address }

-- do n words from a place on lie in ROM?
abbrev pub in_rom : List ℕ → ℕ → ℕ → Bool
in_rom rom place n = pick (ltb place rom_word) false (leb (place - rom_word + n) (length rom))

-- for a fill, a whole line is shown as the part of RAM or of ROM where it stands, or else an empty part
unfoldable pub part_of : List ℕ → List ℕ → ℕ → List ℕ
part_of ram rom address =
    pick (leb (ram_line address + 4) (length ram))
    (take 4 (drop (ram_line address) ram))
    (pick (in_rom rom (ram_line address) 4) (take 4 (drop (ram_line address - rom_word) rom)) [])

-- .. and what showing it moved; the failing word of a line is its first
unfoldable pub shown_of : List ℕ → ℕ → Moved
shown_of part address = pick (ltb (length part) 4) (failed_of (address / 16 * 16)) (moved_of 4)

abbrev pub unread_of : ℕ → Read
unread_of address = record { moved = failed_of address; word = 0 }

-- a read outside both areas ends in a bus error
unfoldable pub read_of : List ℕ → List ℕ → ℕ → Read
read_of ram rom address =
    pick (ltb (ram_place address) (length ram))
    (record { moved = moved_of 1; word = get_or ram (ram_place address) 0 })
    (pick (in_rom rom (ram_place address) 1)
    (record { moved = moved_of 1; word = get_or rom (ram_place address - rom_word) 0 })
    (unread_of address))

-- the same of what the code answers: of any transaction, of a word read, of a line shown
abbrev pub moved_in : {A : Type 0} → Result (Done A) BusError → Moved
moved_in (Ok d) = moved_of d.words
moved_in (Err e) = record { ok = false; words = e.words; failing = e.address }

abbrev pub read_in : Result (Done ℕ) BusError → Read
read_in (Ok d) = record { moved = moved_of d.words; word = d.moved }
read_in (Err e) = record { moved = record { ok = false; words = e.words; failing = e.address }; word = 0 }

abbrev pub part_in : Result (Done (Bor (List ℕ))) BusError → List ℕ
part_in (Ok d) = d.moved.now
part_in (Err e) = []

-- the four words of a part that has them, else none
abbrev pub whole_of : List ℕ → List ℕ
whole_of part = pick (ltb (length part) 4) [] (take 4 part)

-- what a write moved, and RAM after it
pub record Wrote : Type 0 where
  pub moved : Moved
  pub ram : List ℕ

abbrev pub wrote : Moved → List ℕ → Wrote
wrote m ram = record { moved = m; ram = ram }

-- the enabled bytes of a word taken onto the one at a place
abbrev pub merge_at : List ℕ → ℕ → ℕ → ℕ → List ℕ
merge_at words at enables word = set words at (merge_of enables (get_or words at 0) word)

-- a write outside RAM ends in a bus error
unfoldable pub write_word_of : List ℕ → ℕ → ℕ → ℕ → Wrote
write_word_of ram address enables word =
    pick (ltb (ram_place address) (length ram))
    (wrote (moved_of 1) (merge_at ram (ram_place address) enables word))
    (wrote (failed_of address) ram)

-- four words stored from a place on
unfoldable pub put_of : List ℕ → ℕ → List ℕ → List ℕ
put_of words at part = set (set (set (set words at (get_or part 0 0)) (at + 1) (get_or part 1 0)) (at + 2) (get_or part 2 0)) (at + 3) (get_or part 3 0)

-- can the line that holds an address be written?
abbrev pub line_fits : List ℕ → ℕ → Bool
line_fits ram address = leb (ram_line address + 4) (length ram)

unfoldable pub write_line_of : List ℕ → ℕ → List ℕ → Wrote
write_line_of ram address part =
    pick (line_fits ram address)
    (wrote (moved_of 4) (put_of ram (ram_line address) part))
    (wrote (failed_of (address / 16 * 16)) ram)
