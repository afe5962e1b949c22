-- An access keeps a unit well formed, on any memory.
use Prim.Native.Nat.{ℕ, ◌^◌, ◌<◌}
use Rattle.std.specs.Prelude.{◌&&◌, List, eqb}
use native.Mathlib.Omega.{arith}
use Rattle.std.proofs.Math.Dec.{leb}
use Rattle.words.specs.Words.{bits_of}
use Rattle.words.specs.Laws.{either}
use Rattle.state.specs.declared.Access.{Access}
use Rattle.state.specs.declared.Registers.{Registers}
use Rattle.state.specs.declared.Fault.{Fault}
use Rattle.state.specs.declared.FaultPair.{FaultPair}
use Rattle.state.specs.declared.Outcome.{Outcome}
use Rattle.state.specs.Own.{own_status}
use Rattle.state.specs.Outcome.{pair_of}
use Rattle.flight.specs.Steps.{opening}
use Rattle.driver.specs.Alone.{memory}
use Rattle.registers.specs.Registers.{area_of}
use Rattle.answers.specs.Answers.{fault_of, plain_of, failed_of, written_of}
use Rattle.control.specs.Control.{Controlled, reaches_of, control_of}
use Rattle.unit.specs.Unit.{Whole, mapped_of, access_of}
use Rattle.fields.specs.Fields.{Words}
use Rattle.reached.specs.Good.{GoodRegisters, GoodPair, GoodEntries, GoodLines, GoodCells}
use Rattle.reached.proofs.Steps.Small.{idle, word, written, fault}
use Rattle.reached.proofs.Steps.{Fine, Small, steps_fine}
use Rattle.reached.specs.Registers.{pointer_good}
use Rattle.reached.specs.Calls.{write_good}

pair_good : (f : Fault) → f.address < 2 ^ 32 → GoodPair (pair_of f)
unfolding own_status
pair_good f h = record { status = omega arith; address = h }

ended_pair : (p : FaultPair) → GoodPair p → (o : Outcome) → Small o → GoodPair (fault_of p o)
unfolding fault_of
ended_pair p g o idle = g
ended_pair p g o word = g
ended_pair p g o written = g
ended_pair p g o (fault {f = f} h) = pair_good f h

record Controls (x : Controlled) : Type 0 where
  registers : GoodRegisters x.accessed.registers
  pair : GoodPair x.accessed.pair
  patc : GoodEntries x.patc
  lines : GoodLines x.lines

pub record Accesses (x : Whole) : Type 0 where
  pub registers : GoodRegisters x.accessed.registers
  pub pair : GoodPair x.accessed.pair
  pub patc : GoodEntries x.patc
  pub lines : GoodLines x.lines
  pub cells : GoodCells x.cells

module _ (u : Registers) (g : GoodRegisters u) (p : FaultPair) (f : GoodPair p) (ps ls cs ram rom : List ℕ) (e : GoodEntries ps) (d : GoodLines ls) (c : GoodCells cs) (a : Access)
    (low : a.address < 2 ^ 32) (small : a.word < 2 ^ 32) where
  control_good : Controls (control_of u p ps ls cs ram rom a)
  unfolding control_of plain_of failed_of written_of
  control_good =
      let w = write_good u g p f ps ls cs ram rom e d (bits_of a.address 11 0) a.word small in
      either Controls (reaches_of u a)
      (λ _. either Controls a.write
      (λ _. record { registers = w.registers; pair = w.pair; patc = w.patc; lines = w.lines })
      (λ _. record { registers = g; pair = f; patc = e; lines = d }))
      (λ _. record { registers = g; pair = pair_good (record { code = 3; address = a.address }) low; patc = e; lines = d })

  mapped_good : Words ram → Words rom → Accesses (mapped_of u p ps ls cs ram rom a)
  unfolding mapped_of
  mapped_good hr ho =
      let start : Fine (opening u.pointer ps ls cs (memory ram rom)) = record { pointer = g.pointer; patc = e; lines = d; cells = c; ram = hr; rom = ho } in
      let x = steps_fine a (area_of u a.supervisor) (opening u.pointer ps ls cs (memory ram rom)) u.ports start low in
      record {
        registers = pointer_good u g _ x.scene.pointer;
        pair = ended_pair p f _ x.outcome;
        patc = x.scene.patc;
        lines = x.scene.lines;
        cells = x.scene.cells;
      }

  pub access_good : Words ram → Words rom → Accesses (access_of u p ps ls cs ram rom a)
  unfolding access_of plain_of
  access_good hr ho =
      let k = control_good in
      either Accesses (eqb a.enables 0)
      (λ _. record { registers = g; pair = f; patc = e; lines = d; cells = c })
      (λ _. either Accesses (a.supervisor && leb 0xFFF00000 a.address)
      (λ _. record { registers = k.registers; pair = k.pair; patc = k.patc; lines = k.lines; cells = c })
      (λ _. mapped_good hr ho))
