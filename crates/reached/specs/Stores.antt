-- Words of 32 bits stay so in every list that is written, and a failing address is one.
use Rattle.std.specs.Prelude.{ℕ, zero, suc, ◌+◌, ◌-◌, ◌*◌, ◌^◌, ◌<◌, List, [], ◌∷◌, ltb, leb, length, get_or, set, take, drop}
use Rattle.std.proofs.Common.{◌∙◌, arith, length-set, get_or-drop}
use Rattle.memory.specs.Laws.{length_put}
use Rattle.words.specs.Laws.{either, merge_small}
use Rattle.memory.specs.Memory.{Moved}
use Rattle.memory.specs.Memory.{Read}
use Rattle.memory.specs.Memory.{ram_place, ram_line, rom_word, in_rom, line_fits, part_of, shown_of, read_of, Wrote, write_word_of, put_of, write_line_of}
use Rattle.cells.specs.Cells.{cell_at, merged_at, line_words}
use Rattle.fields.specs.Fields.{Words}
use Rattle.reached.specs.Good.{GoodCells}

pub words_set : (ws : List ℕ) (i v : ℕ) → Words ws → v < 2 ^ 32 → Words (set ws i v)
words_set [] i v h s j = omega arith
words_set (w ∷ ws) zero v h s zero = s
words_set (w ∷ ws) zero v h s (suc j) = h (suc j)
words_set (w ∷ ws) (suc i) v h s zero = h zero
words_set (w ∷ ws) (suc i) v h s (suc j) = words_set ws i v (λ k. h (suc k)) s j

pub words_drop : (n : ℕ) (ws : List ℕ) → Words ws → Words (drop n ws)
words_drop n ws h i = rw (get_or-drop n ws i 0) (h (n + i))

pub words_take : (n : ℕ) (ws : List ℕ) → Words ws → Words (take n ws)
words_take zero ws h i = omega arith
words_take (suc n) [] h i = omega arith
words_take (suc n) (w ∷ ws) h zero = h zero
words_take (suc n) (w ∷ ws) h (suc i) = words_take n ws (λ k. h (suc k)) i

pub words_put : (ws : List ℕ) (at : ℕ) (part : List ℕ) → Words ws → Words part → Words (put_of ws at part)
unfolding put_of
words_put ws at part h p =
    let w1 : List ℕ = set ws at (get_or part 0 0) in
    let w2 : List ℕ = set w1 (at + 1) (get_or part 1 0) in
    let w3 : List ℕ = set w2 (at + 2) (get_or part 2 0) in
    words_set w3 (at + 3) (get_or part 3 0) (words_set w2 (at + 2) (get_or part 2 0) (words_set w1 (at + 1) (get_or part 1 0) (words_set ws at (get_or part 0 0) h (p 0)) (p 1)) (p 2)) (p 3)

-- ---- cache data

pub merged_good : (cs : List ℕ) → GoodCells cs → (p address enables word : ℕ) → GoodCells (merged_at cs p address enables word)
merged_good cs g p address enables word =
    record { size = length-set cs (cell_at p address) _ ∙ g.size; words = words_set cs (cell_at p address) _ g.words (merge_small enables _ word) }

pub put_good : (cs : List ℕ) → GoodCells cs → (at : ℕ) (part : List ℕ) → Words part → GoodCells (put_of cs at part)
put_good cs g at part h = record { size = length_put cs at part ∙ g.size; words = words_put cs at part g.words h }

pub line_words_lem : (cs : List ℕ) (p : ℕ) → Words cs → Words (line_words cs p)
line_words_lem cs p h = words_take 4 (drop (p * 4) cs) (words_drop (p * 4) cs h)

-- ---- memory

pub part_words : (ram rom : List ℕ) (at : ℕ) → Words ram → Words rom → Words (part_of ram rom at)
unfolding part_of
part_words ram rom at h r =
    either Words (leb (ram_line at + 4) (length ram))
    (λ _. words_take 4 (drop (ram_line at) ram) (words_drop (ram_line at) ram h))
    (λ _. either Words (in_rom rom (ram_line at) 4) (λ _. words_take 4 (drop (ram_line at - rom_word) rom) (words_drop (ram_line at - rom_word) rom r)) (λ _ i. omega arith))

pub word_ram : (ram : List ℕ) (at enables word : ℕ) → Words ram → Words (write_word_of ram at enables word).ram
unfolding write_word_of
word_ram ram at enables word h =
    either (λ (x : Wrote). Words x.ram) (ltb (ram_place at) (length ram)) (λ _. words_set ram (ram_place at) _ h (merge_small enables _ word)) (λ _. h)

pub line_ram : (ram : List ℕ) (at : ℕ) (part : List ℕ) → Words ram → Words part → Words (write_line_of ram at part).ram
unfolding write_line_of
line_ram ram at part h p = either (λ (x : Wrote). Words x.ram) (line_fits ram at) (λ _. words_put ram (ram_line at) part h p) (λ _. h)

-- ---- failing addresses

pub read_fails : (ram rom : List ℕ) (at : ℕ) → at < 2 ^ 32 → (read_of ram rom at).moved.failing < 2 ^ 32
unfolding read_of
read_fails ram rom at h =
    either (λ (r : Read). r.moved.failing < 2 ^ 32) (ltb (ram_place at) (length ram))
    (λ _. omega arith)
    (λ _. either (λ (r : Read). r.moved.failing < 2 ^ 32) (in_rom rom (ram_place at) 1) (λ _. omega arith) (λ _. h))

pub shown_fails : (part : List ℕ) (at : ℕ) → at < 2 ^ 32 → (shown_of part at).failing < 2 ^ 32
unfolding shown_of
shown_fails part at h = either (λ (m : Moved). m.failing < 2 ^ 32) (ltb (length part) 4) (λ _. omega arith) (λ _. omega arith)

pub word_fails : (ram : List ℕ) (at enables word : ℕ) → at < 2 ^ 32 → (write_word_of ram at enables word).moved.failing < 2 ^ 32
unfolding write_word_of
word_fails ram at enables word h =
    either (λ (x : Wrote). x.moved.failing < 2 ^ 32) (ltb (ram_place at) (length ram)) (λ _. omega arith) (λ _. h)

pub line_fails : (ram : List ℕ) (at : ℕ) (part : List ℕ) → at < 2 ^ 32 → (write_line_of ram at part).moved.failing < 2 ^ 32
unfolding write_line_of
line_fails ram at part h = either (λ (x : Wrote). x.moved.failing < 2 ^ 32) (line_fits ram at) (λ _. omega arith) (λ _. omega arith)
