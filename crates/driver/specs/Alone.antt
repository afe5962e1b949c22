-- The world of a unit that is alone on its memory: RAM and ROM.
use Rattle.std.specs.Prelude.{ℕ, List}
use Rattle.memory.specs.Memory.{Wrote, part_of, shown_of, read_of, write_word_of, write_line_of}
use Rattle.flight.specs.Ops.{Ops, Sent}

pub record Memory : Type 0 where
  pub ram : List ℕ
  pub rom : List ℕ

abbrev pub memory : List ℕ → List ℕ → Memory
memory ram rom = record { ram = ram; rom = rom }

abbrev pub sent_of : Memory → Wrote → Sent Memory
sent_of m x = record { moved = x.moved; world = memory x.ram m.rom }

abbrev pub alone : Ops Memory
alone =
    record {
      read_word = λ m t. record { read = read_of m.ram m.rom t.address; world = m };
      read_line = λ m t. record { moved = shown_of (part_of m.ram m.rom t.address) t.address; part = part_of m.ram m.rom t.address; world = m };
      write_word = λ m t enables word. sent_of m (write_word_of m.ram t.address enables word);
      write_line = λ m t part. sent_of m (write_line_of m.ram t.address part);
    }
