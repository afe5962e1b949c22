-- A flush of any set of lines, given by a test of line addresses, and what it comes to place by place.
use Rattle.std.specs.Prelude.{ℕ, zero, suc, ◌+◌, ◌<◌, ◌≡◌, refl, Bool, true, false, ◌&&◌, ◌||◌, List, [], ◌∷◌, set}
use Rattle.words.specs.Words.{pick}
use Rattle.memory.specs.Memory.{ram_line, put_of, line_fits}
use Rattle.lines.specs.Lines.{valid, modified, tag_at, tag_word, line_address, with_state}
use Rattle.cells.specs.Cells.{line_words}
use Rattle.sweep.specs.Sweep.{Flushed}
use Rattle.sweep.specs.declared.Kind.{Kind}
use Rattle.sweep.specs.declared.Range.{Range}
use Rattle.sweep.specs.declared.Range.TheVariants.{All}
use Rattle.sweep.specs.Sweep.{covers_of, copies_of, drops_of, after_of, well_of, Sweep, swept, added, line_of, sweep_of}

-- a line that passes the test is worked on as under 'all', another is left
unfoldable pub line_by : Kind → (ℕ → Bool) → List ℕ → ℕ → List ℕ → List ℕ → Sweep
line_by k c cs p ls ram = pick (c (line_address p (tag_word ls p))) (line_of k All 0 cs p ls ram) (swept (well_of 0) ls ram)

abbrev pub onward_by : Kind → (ℕ → Bool) → List ℕ → ℕ → Sweep → Sweep
onward_by k c cs p s = pick s.flushed.ok (added s.flushed.words (line_by k c cs p s.lines s.ram)) s

unfoldable pub sweep_by : Kind → (ℕ → Bool) → List ℕ → List ℕ → List ℕ → ℕ → Sweep
sweep_by k c cs ls ram zero = swept (well_of 0) ls ram
sweep_by k c cs ls ram (suc n) = onward_by k c cs n (sweep_by k c cs ls ram n)

-- the whole command: all 1,024 places
abbrev pub flush_by : Kind → (ℕ → Bool) → List ℕ → List ℕ → List ℕ → Sweep
flush_by k c cs ls ram = sweep_by k c cs ls ram 1024

abbrev pub flush_of : Kind → Range → ℕ → List ℕ → List ℕ → List ℕ → Sweep
flush_of k r sar cs ls ram = sweep_of k r sar cs ls ram 1024

-- what either of two tests covers
infixl 30 ◌∪◌
abbrev pub ◌∪◌ : (ℕ → Bool) → (ℕ → Bool) → ℕ → Bool
◌∪◌ c₁ c₂ a = c₁ a || c₂ a

-- ---- a range and SAR are such a test

tested : (L C : Bool) (x y : Sweep) → pick (L && C) x y ≡ pick C (pick (L && true) x y) y
tested L true x y = refl
tested true false x y = refl
tested false false x y = refl

line_by_lem : (k : Kind) (r : Range) (sar : ℕ) (cs : List ℕ) (p : ℕ) (ls ram : List ℕ) → line_of k r sar cs p ls ram ≡ line_by k (covers_of r sar) cs p ls ram
unfolding line_of line_by
line_by_lem k r sar cs p ls ram = tested (valid (tag_word ls p)) (covers_of r sar (line_address p (tag_word ls p))) _ _

pub sweep_by_lem : (k : Kind) (r : Range) (sar : ℕ) (cs ls ram : List ℕ) (n : ℕ) → sweep_of k r sar cs ls ram n ≡ sweep_by k (covers_of r sar) cs ls ram n
unfolding sweep_of sweep_by
sweep_by_lem k r sar cs ls ram zero = refl
sweep_by_lem k r sar cs ls ram (suc n) = rw (sweep_by_lem k r sar cs ls ram n, line_by_lem)

-- ---- place by place

-- a covered tag word afterwards
abbrev pub treated : Kind → ℕ → ℕ
treated k w = pick (valid w) (pick (copies_of k && modified w) (with_state w (after_of k)) (pick (drops_of k) (with_state w 3) w)) w

-- the tag word w of place p afterwards; c says which lines are covered
unfoldable pub after : Kind → (ℕ → Bool) → ℕ → ℕ → ℕ
after k c p w = pick (c (line_address p w)) (treated k w) w

-- is the line copied to RAM: the command copies, the line is covered and modified (so valid)?
unfoldable pub is_copied : Kind → (ℕ → Bool) → ℕ → ℕ → Bool
is_copied k c p w = copies_of k && (c (line_address p w) && modified w)

-- the directory, RAM and the number of copied lines after the first n places
unfoldable pub lines_to : Kind → (ℕ → Bool) → List ℕ → ℕ → List ℕ
lines_to k c ls zero = ls
lines_to k c ls (suc p) = set (lines_to k c ls p) (tag_at p) (after k c p (tag_word ls p))

unfoldable pub ram_to : Kind → (ℕ → Bool) → List ℕ → List ℕ → List ℕ → ℕ → List ℕ
ram_to k c cs ls ram zero = ram
ram_to k c cs ls ram (suc p) =
    pick (is_copied k c p (tag_word ls p)) (put_of (ram_to k c cs ls ram p) (ram_line (line_address p (tag_word ls p))) (line_words cs p)) (ram_to k c cs ls ram p)

unfoldable pub count_to : Kind → (ℕ → Bool) → List ℕ → ℕ → ℕ
count_to k c ls zero = 0
count_to k c ls (suc p) = count_to k c ls p + pick (is_copied k c p (tag_word ls p)) 1 0

-- of the first n lines, those that are to be copied lie in RAM
abbrev pub FitsTo : ℕ → Kind → (ℕ → Bool) → List ℕ → List ℕ → Type 0
FitsTo n k c ls ram = (p : ℕ) → p < n → is_copied k c p (tag_word ls p) ≡ true → line_fits ram (line_address p (tag_word ls p)) ≡ true

-- every covered modified line lies in RAM; of a command that copies nothing, nothing is asked
abbrev pub Fits : Kind → (ℕ → Bool) → List ℕ → List ℕ → Type 0
Fits k c ls ram = FitsTo 1024 k c ls ram

-- ---- one command after another

-- two answers together: well if both are, the words of both, the first failing address
abbrev pub together : Flushed → Flushed → Flushed
together f g = record { ok = f.ok && g.ok; words = f.words + g.words; failing = pick f.ok g.failing f.failing }

-- a command's sweep, and then another's on the lines and RAM that it left
abbrev pub and_then : Sweep → (List ℕ → List ℕ → Sweep) → Sweep
and_then x next = swept (together x.flushed (next x.lines x.ram).flushed) (next x.lines x.ram).lines (next x.lines x.ram).ram

-- flushes of one kind and size of range, one for each SAR of a list
unfoldable pub flush_each : Kind → Range → List ℕ → List ℕ → List ℕ → List ℕ → Sweep
flush_each k r cs [] ls ram = swept (well_of 0) ls ram
flush_each k r cs (sar ∷ sars) ls ram = and_then (flush_of k r sar cs ls ram) (flush_each k r cs sars)

-- the answer of a second like flush: it ends as the first did and moves no word
abbrev pub ends_alike : Flushed → Flushed
ends_alike f = record { ok = f.ok; words = 0; failing = f.failing }

-- is an address in the range that one of the SARs names?
unfoldable pub named : Range → List ℕ → ℕ → Bool
named r [] address = false
named r (sar ∷ sars) address = covers_of r sar address || named r sars address
