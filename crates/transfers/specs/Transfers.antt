-- What the cache wants moved, on RAM and ROM, and what follows it.
use Rattle.std.specs.Prelude.{ℕ, List}
use Rattle.words.specs.Words.{pick}
use Rattle.memory.specs.Memory.{Wrote, part_of, shown_of, read_of, write_word_of, write_line_of}
use Rattle.cells.specs.Cells.{line_words}
use Rattle.course.specs.declared.Course.{Course}
use Rattle.course.specs.declared.Flight.{Flight}
use Rattle.course.specs.declared.Stage.{Stage}
use Rattle.course.specs.declared.Stage.TheVariants.{Done, Segment, Page, Update, Drop, Back, Fill, Store, Single}
use Rattle.course.specs.Next.{Cached}
use Rattle.after.specs.After.{drop_of, back_of, fill_of, store_of, word_of}

-- a flight with RAM
pub record FlownTo : Type 0 where
  pub flight : Flight
  pub ram : List ℕ

abbrev pub flown_to : Flight → List ℕ → FlownTo
flown_to f ram = record { flight = f; ram = ram }

abbrev pub sent_by : Course → Wrote → FlownTo
sent_by c x = flown_to (word_of c x.moved 0) x.ram

-- the single word, written or read
unfoldable pub single_by : Course → List ℕ → List ℕ → FlownTo
single_by c ram rom =
    pick c.access.write
    (sent_by c (write_word_of ram c.want.address c.access.enables c.access.word))
    (flown_to (word_of c (read_of ram rom c.want.address).moved (read_of ram rom c.want.address).word) ram)

-- a flight with the cache and RAM
pub record Carried : Type 0 where
  pub flight : Flight
  pub lines : List ℕ
  pub cells : List ℕ
  pub ram : List ℕ

abbrev pub carried : Flight → List ℕ → List ℕ → List ℕ → Carried
carried f ls cs ram = record { flight = f; lines = ls; cells = cs; ram = ram }

abbrev pub cached_to : Cached → List ℕ → Carried
cached_to x ram = carried x.flight x.lines x.cells ram

abbrev pub dropped_by : Course → List ℕ → List ℕ → Wrote → Carried
dropped_by c ls cs x = carried (drop_of c ls x.moved).flight (drop_of c ls x.moved).lines cs x.ram

abbrev pub backed_by : Course → List ℕ → List ℕ → Wrote → Carried
backed_by c ls cs x = carried (back_of c x.moved) ls cs x.ram

abbrev pub stored_by : Course → List ℕ → List ℕ → Wrote → Carried
stored_by c ls cs x = cached_to (store_of c ls cs x.moved) x.ram

abbrev pub single_to : List ℕ → List ℕ → FlownTo → Carried
single_to ls cs x = carried x.flight ls cs x.ram

-- the transaction of a stage; a search's moves nothing here
unfoldable pub transfer_at : Stage → Flight → List ℕ → List ℕ → List ℕ → List ℕ → Carried
transfer_at Done f ls cs ram rom = carried f ls cs ram
transfer_at Segment f ls cs ram rom = carried f ls cs ram
transfer_at Page f ls cs ram rom = carried f ls cs ram
transfer_at Update f ls cs ram rom = carried f ls cs ram
transfer_at Drop f ls cs ram rom = dropped_by f.course ls cs (write_line_of ram f.course.want.address (line_words cs f.course.place))
transfer_at Back f ls cs ram rom = backed_by f.course ls cs (write_line_of ram f.course.want.address (line_words cs f.course.place))
transfer_at Fill f ls cs ram rom =
    cached_to (fill_of f.course ls cs (part_of ram rom f.course.want.address) (shown_of (part_of ram rom f.course.want.address) f.course.want.address)) ram
transfer_at Store f ls cs ram rom =
    stored_by f.course ls cs (write_word_of ram f.course.want.address f.course.access.enables f.course.access.word)
transfer_at Single f ls cs ram rom = single_to ls cs (single_by f.course ram rom)

abbrev pub transfer_of : Flight → List ℕ → List ℕ → List ℕ → List ℕ → Carried
transfer_of f ls cs ram rom = transfer_at f.stage f ls cs ram rom
