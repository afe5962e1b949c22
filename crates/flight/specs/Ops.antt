-- The memory's world, and a flight run over it: each turn moves the words of the one transaction that is wanted.
use Rattle.std.specs.Prelude.{ℕ, zero, suc, List}
use Rattle.words.specs.Words.{pick}
use Rattle.memory.specs.Memory.{Moved}
use Rattle.memory.specs.Memory.{Read}
use Rattle.cells.specs.Cells.{line_words}
use Rattle.state.specs.declared.Transaction.{Transaction}
use Rattle.course.specs.declared.Course.{Course}
use Rattle.course.specs.declared.Flight.{Flight}
use Rattle.course.specs.declared.Stage.{Stage}
use Rattle.course.specs.declared.Stage.TheVariants.{Done, Segment, Page, Update, Drop, Back, Fill, Store, Single}
use Rattle.course.specs.Next.{Lined, Cached}
use Rattle.after.specs.After.{back_of, drop_of, fill_of, store_of, word_of}
use Rattle.flight.specs.Search.{Flown, segment_of, page_of, update_of}

-- what a transaction gives, and the world after it
pub record Got (W : Type 0) : Type 0 where
  pub read : Read
  pub world : W

pub record Shown (W : Type 0) : Type 0 where
  pub moved : Moved
  pub part : List ℕ
  pub world : W

pub record Sent (W : Type 0) : Type 0 where
  pub moved : Moved
  pub world : W

-- a word read, a line shown, a word written under enables, a line written
pub record Ops (W : Type 0) : Type 0 where
  pub read_word : W → Transaction → Got W
  pub read_line : W → Transaction → Shown W
  pub write_word : W → Transaction → ℕ → ℕ → Sent W
  pub write_line : W → Transaction → List ℕ → Sent W

-- a flight, its unit and the world
pub record System (W : Type 0) : Type 0 where
  pub flight : Flight
  pub patc : List ℕ
  pub lines : List ℕ
  pub cells : List ℕ
  pub world : W

abbrev pub system : {W : Type 0} → Flight → List ℕ → List ℕ → List ℕ → W → System W
system f ps ls cs w = record { flight = f; patc = ps; lines = ls; cells = cs; world = w }

abbrev pub on_flown : {W : Type 0} → Flown → W → System W
on_flown x w = system x.flight x.patc x.lines x.cells w

abbrev pub on_cached : {W : Type 0} → Cached → List ℕ → W → System W
on_cached x ps w = system x.flight ps x.lines x.cells w

abbrev pub on_lined : {W : Type 0} → Lined → List ℕ → List ℕ → W → System W
on_lined x ps cs w = system x.flight ps x.lines cs w

module _ {W : Type 0} (ops : Ops W) where
  abbrev pub segment_turn : Course → List ℕ → List ℕ → List ℕ → Got W → System W
  segment_turn c ps ls cs r = system (segment_of c r.read) ps ls cs r.world

  abbrev pub page_turn : Course → List ℕ → List ℕ → List ℕ → Got W → System W
  page_turn c ps ls cs r = on_flown (page_of c ps ls cs r.read) r.world

  abbrev pub update_turn : Course → List ℕ → List ℕ → List ℕ → Sent W → System W
  update_turn c ps ls cs r = on_flown (update_of c ps ls cs r.moved) r.world

  abbrev pub drop_turn : Course → List ℕ → List ℕ → List ℕ → Sent W → System W
  drop_turn c ps ls cs r = on_lined (drop_of c ls r.moved) ps cs r.world

  abbrev pub back_turn : Course → List ℕ → List ℕ → List ℕ → Sent W → System W
  back_turn c ps ls cs r = system (back_of c r.moved) ps ls cs r.world

  abbrev pub fill_turn : Course → List ℕ → List ℕ → List ℕ → Shown W → System W
  fill_turn c ps ls cs r = on_cached (fill_of c ls cs r.part r.moved) ps r.world

  abbrev pub store_turn : Course → List ℕ → List ℕ → List ℕ → Sent W → System W
  store_turn c ps ls cs r = on_cached (store_of c ls cs r.moved) ps r.world

  abbrev pub sent_turn : Course → List ℕ → List ℕ → List ℕ → Sent W → System W
  sent_turn c ps ls cs r = system (word_of c r.moved 0) ps ls cs r.world

  abbrev pub got_turn : Course → List ℕ → List ℕ → List ℕ → Got W → System W
  got_turn c ps ls cs r = system (word_of c r.read.moved r.read.word) ps ls cs r.world

  -- one turn
  unfoldable pub turn_at : Stage → Flight → List ℕ → List ℕ → List ℕ → W → System W
  turn_at Done f ps ls cs w = system f ps ls cs w
  turn_at Segment f ps ls cs w = segment_turn f.course ps ls cs (ops.read_word w f.course.want)
  turn_at Page f ps ls cs w = page_turn f.course ps ls cs (ops.read_word w f.course.want)
  turn_at Update f ps ls cs w = update_turn f.course ps ls cs (ops.write_word w f.course.want 15 f.course.descriptor)
  turn_at Drop f ps ls cs w = drop_turn f.course ps ls cs (ops.write_line w f.course.want (line_words cs f.course.place))
  turn_at Back f ps ls cs w = back_turn f.course ps ls cs (ops.write_line w f.course.want (line_words cs f.course.place))
  turn_at Fill f ps ls cs w = fill_turn f.course ps ls cs (ops.read_line w f.course.want)
  turn_at Store f ps ls cs w = store_turn f.course ps ls cs (ops.write_word w f.course.want f.course.access.enables f.course.access.word)
  turn_at Single f ps ls cs w =
      pick f.course.access.write
      (sent_turn f.course ps ls cs (ops.write_word w f.course.want f.course.access.enables f.course.access.word))
      (got_turn f.course ps ls cs (ops.read_word w f.course.want))

  unfoldable pub turn_of : System W → System W
  turn_of s = turn_at s.flight.stage s.flight s.patc s.lines s.cells s.world

  -- the turns that are left, the next one first
  unfoldable pub left_of : ℕ → System W → System W
  left_of zero s = s
  left_of (suc n) s = left_of n (turn_of s)
