-- The words of the cache's lines: set s, line n, word w stands at 16s + 4n + w, so place p's four at 4p.
use Rattle.std.specs.Prelude.{ℕ, ◌+◌, ◌*◌, List, get_or, take, drop}
use Rattle.words.specs.Words.{bits_of}
use Rattle.memory.specs.Memory.{merge_at}

-- the word of its line: bits 3-2
abbrev pub cell_of : ℕ → ℕ
cell_of address = bits_of address 3 2

abbrev pub cell_at : ℕ → ℕ → ℕ
cell_at p address = p * 4 + cell_of address

-- the word that a line holds for an address, the data with another merged onto it, and all four words of a line
abbrev pub word_at : List ℕ → ℕ → ℕ → ℕ
word_at cells p address = get_or cells (cell_at p address) 0

abbrev pub merged_at : List ℕ → ℕ → ℕ → ℕ → ℕ → List ℕ
merged_at cells p address enables word = merge_at cells (cell_at p address) enables word

abbrev pub line_words : List ℕ → ℕ → List ℕ
line_words cells p = take 4 (drop (p * 4) cells)
