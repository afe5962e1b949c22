-- What a flight carries, and how it goes on or ends.
use Rattle.std.specs.Prelude.{ℕ, ◌+◌, Bool, false, ◌||◌, set, replicate, ltb}
use Rattle.words.specs.Words.{pick, bit_of}
use Rattle.memory.specs.Memory.{Moved}
use Rattle.state.specs.declared.Access.{Access}
use Rattle.state.specs.declared.Transaction.{Transaction}
use Rattle.state.specs.declared.Outcome.{Outcome}
use Rattle.state.specs.declared.Outcome.TheVariants.{Idle, Failed}
use Rattle.pages.specs.declared.Translation.{Translation}
use Rattle.course.specs.declared.Course.{Course}
use Rattle.course.specs.declared.Flight.{Flight}
use Rattle.course.specs.declared.Stage.{Stage}
use Rattle.course.specs.declared.Stage.TheVariants.{Done}

abbrev pub no_transaction : Transaction
no_transaction = record { write = false; address = 0; words = 0; g = false; im = false; lk = false; ci = false }

abbrev pub no_translation : Translation
no_translation = record { address = 0; wt = false; sp = false; g = false; ci = false; m = false; u = false; wp = false }

-- an access before its first transaction
unfoldable pub fresh_of : Access → ℕ → ℕ → Course
fresh_of access area pointer =
    record {
      access = access;
      want = no_transaction;
      list = replicate 6 no_transaction;
      count = 0;
      area = area;
      entry = 56;
      descriptor = 0;
      pointer = pointer;
      t = no_translation;
      place = 0;
    }

unfoldable pub with_want : Course → Transaction → Course
with_want c want =
    record { access = c.access; want = want; list = c.list; count = c.count; area = c.area; entry = c.entry; descriptor = c.descriptor; pointer = c.pointer; t = c.t; place = c.place }

unfoldable pub with_translation : Course → Translation → Course
with_translation c t =
    record { access = c.access; want = c.want; list = c.list; count = c.count; area = c.area; entry = c.entry; descriptor = c.descriptor; pointer = c.pointer; t = t; place = c.place }

unfoldable pub with_place : Course → ℕ → Course
with_place c place =
    record { access = c.access; want = c.want; list = c.list; count = c.count; area = c.area; entry = c.entry; descriptor = c.descriptor; pointer = c.pointer; t = c.t; place = place }

unfoldable pub with_entry : Course → ℕ → Course
with_entry c entry =
    record { access = c.access; want = c.want; list = c.list; count = c.count; area = c.area; entry = entry; descriptor = c.descriptor; pointer = c.pointer; t = c.t; place = c.place }

unfoldable pub with_descriptor : Course → ℕ → Course
with_descriptor c descriptor =
    record { access = c.access; want = c.want; list = c.list; count = c.count; area = c.area; entry = c.entry; descriptor = descriptor; pointer = c.pointer; t = c.t; place = c.place }

unfoldable pub with_pointer : Course → ℕ → Course
with_pointer c pointer =
    record { access = c.access; want = c.want; list = c.list; count = c.count; area = c.area; entry = c.entry; descriptor = c.descriptor; pointer = pointer; t = c.t; place = c.place }

-- there are never more than six transactions
abbrev pub slot_of : ℕ → ℕ
slot_of n = pick (ltb n 6) n 5

abbrev pub moved_by : Transaction → Moved → Transaction
moved_by t m = record { write = t.write; address = t.address; words = m.words; g = t.g; im = t.im; lk = t.lk; ci = t.ci }

-- the wanted transaction listed with the words that it moved
unfoldable pub listed_of : Course → Moved → Course
listed_of c m =
    record { access = c.access; want = c.want; list = set c.list (slot_of c.count) (moved_by c.want m); count = slot_of c.count + 1; area = c.area; entry = c.entry; descriptor = c.descriptor; pointer = c.pointer; t = c.t; place = c.place }

abbrev pub wanting_of : Course → Stage → Flight
wanting_of c stage = record { stage = stage; outcome = Idle; course = c }

abbrev pub ended_of : Course → Outcome → Flight
ended_of c outcome = record { stage = Done; outcome = outcome; course = c }

-- any fault ends the access
abbrev pub failed_of : Course → ℕ → ℕ → Flight
failed_of c code address = ended_of c (Failed (record { code = code; address = address }))

-- G is the area's for a search, CI is 0 in a search; IM is 0 on its reads, 1 on a write
unfoldable pub searched_of : Course → Bool → ℕ → Transaction
searched_of c write address = record { write = write; address = address; words = 1; g = bit_of c.area 7; im = write; lk = false; ci = false }

-- else CI is 1 if the access is locked, else the translation's
abbrev pub carried_by : Access → Translation → Bool → ℕ → ℕ → Bool → Bool → Bool → Transaction
carried_by a t write address words g im lk = record { write = write; address = address; words = words; g = g; im = im; lk = lk; ci = a.lock || t.ci }

unfoldable pub carried_of : Course → Bool → ℕ → ℕ → Bool → Bool → Bool → Transaction
carried_of c write address words g im lk = carried_by c.access c.t write address words g im lk
