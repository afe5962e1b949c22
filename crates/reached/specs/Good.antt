-- A well-formed unit, part by part: registers, fault pair, PATC, directory, cache data.
use Rattle.std.specs.Prelude.{ℕ, ◌+◌, ◌*◌, ◌/◌, ◌^◌, ◌<◌, ◌≤◌, ◌≡◌, true, List, length, get_or, set}
use Rattle.std.proofs.Common.{sym, ◌∙◌, arith, eq-eqb, ne_eqb, eqb-true}
use Rattle.std.proofs.Math.Path.{ap}
use Rattle.std.proofs.Math.Decide.{ℕ_discrete}
use Rattle.std.proofs.Math.Dec.{eqb}
use Rattle.std.proofs.lemmas.Bool.{eqb-false}
use Rattle.order.specs.Order.{is_order}
use Rattle.state.specs.declared.Registers.{Registers}
use Rattle.state.specs.declared.FaultPair.{FaultPair}
use Rattle.state.specs.Own.{own_idr, own_scr, own_ssr, own_sctr, own_status, own_area, own_pointer, pointer_small, pointer_own}
use Rattle.lines.specs.Lines.{code_at}
use Rattle.lines.specs.Laws.{NoDoubles}
use Rattle.patc.specs.Laws.{NoTwins}
use Rattle.fields.specs.Fields.{Words}
use Rattle.saved.specs.declared.Layout.{Layout}
use Rattle.saved.specs.declared.Layout.TheVariants.{Entries, Sets}
use Rattle.saved.specs.Chip.{Chip, own_word, own_words, own_registers, own_pair, own_of}
use Rattle.saved.specs.Own.{own_set}
use Rattle.saved.specs.WellFormed.{WellFormed, OnePage}
use Rattle.saved.specs.Sound.{OnePlace, well_places, places_well}

pub record GoodRegisters (u : Registers) : Type 0 where
  pub idr : own_idr u.idr ≡ u.idr
  pub scr : own_scr u.scr ≡ u.scr
  pub ssr : own_ssr u.ssr ≡ u.ssr
  pub sar : u.sar < 2 ^ 32
  pub sctr : own_sctr u.sctr ≡ u.sctr
  pub sapr : own_area u.sapr ≡ u.sapr
  pub uapr : own_area u.uapr ≡ u.uapr
  pub pointer : u.pointer ≤ 55
  pub eight : length u.ports ≡ 8
  pub ports : Words u.ports

pub record GoodPair (p : FaultPair) : Type 0 where
  pub status : own_status p.status ≡ p.status
  pub address : p.address < 2 ^ 32

pub record GoodEntries (ps : List ℕ) : Type 0 where
  pub size : length ps ≡ 112
  pub own : own_words Entries ps ≡ ps
  pub alone : NoTwins ps

pub record GoodLines (ls : List ℕ) : Type 0 where
  pub size : length ls ≡ 1280
  pub own : own_words Sets ls ≡ ls
  pub orders : (p : ℕ) → p < 1024 → is_order (get_or ls (code_at p) 0) ≡ true
  pub alone : NoDoubles ls

pub record GoodCells (cs : List ℕ) : Type 0 where
  pub size : length cs ≡ 4096
  pub words : Words cs

pub record Good (c : Chip) : Type 0 where
  pub registers : GoodRegisters c.registers
  pub pair : GoodPair c.pair
  pub patc : GoodEntries c.patc
  pub lines : GoodLines c.lines
  pub cells : GoodCells c.cells

-- ---- all parts together: a well-formed unit

module _ (c : Chip) (g : Good c) where
  good_own : own_of c ≡ c
  unfolding own_registers own_pair
  good_own =
      rw (
        g.registers.idr,
        g.registers.scr,
        g.registers.ssr,
        g.registers.sctr,
        g.registers.sapr,
        g.registers.uapr,
        pointer_own c.registers.pointer g.registers.pointer,
        g.pair.status,
        g.patc.own,
        g.lines.own,
      )

  good_places : OnePlace c
  unfolding NoDoubles
  good_places p q hp hq e o = g.lines.alone p q hp hq e o.first o.second o.tag

  good_entries : (i j : ℕ) → i < 56 → j < 56 → OnePage (get_or c.patc (i * 2) 0) (get_or c.patc (j * 2) 0) → i ≡ j
  unfolding NoTwins
  good_entries i j hi hj o = g.patc.alone i j hi hj o.first o.second o.page (ap (λ (n : ℕ). eqb n 1) o.space)

  pub good_well : WellFormed c
  good_well =
      record {
        sized = record { ports = g.registers.eight; patc = g.patc.size; lines = g.lines.size; cells = g.cells.size };
        fit = record { sar = g.registers.sar; address = g.pair.address; ports = g.registers.ports; cells = g.cells.words };
        own = good_own;
        orders = λ s h. let e : s * 4 / 4 ≡ s = omega arith in rw e at (g.lines.orders (s * 4) (omega arith));
        lines = places_well c good_places;
        entries = good_entries;
      }

-- ---- and back

-- two bits that are 1 together are equal
bit_same : (a b : ℕ) → a < 2 → b < 2 → eqb a 1 ≡ eqb b 1 → a ≡ b
bit_same a b ha hb e = elim (ℕ_discrete a 1) [
  | yes q ↦ q ∙ sym (eqb-true b 1 (sym e ∙ eq-eqb a 1 q))
  | no q ↦ let n : b ≡ 1 → ⊥ = eqb-false b 1 (sym e ∙ ne_eqb a 1 q) in omega arith
]

module _ (c : Chip) (w : WellFormed c) where
  well_registers : GoodRegisters c.registers
  unfolding own_registers
  well_registers =
      let e : own_of c ≡ c = w.own in
      let q : own_pointer c.registers.pointer ≡ c.registers.pointer = ap (λ (d : Chip). d.registers.pointer) e in
      record {
        idr = ap (λ (d : Chip). d.registers.idr) e;
        scr = ap (λ (d : Chip). d.registers.scr) e;
        ssr = ap (λ (d : Chip). d.registers.ssr) e;
        sar = w.fit.sar;
        sctr = ap (λ (d : Chip). d.registers.sctr) e;
        sapr = ap (λ (d : Chip). d.registers.sapr) e;
        uapr = ap (λ (d : Chip). d.registers.uapr) e;
        pointer = omega (arith, pointer_small c.registers.pointer);
        eight = w.sized.ports;
        ports = w.fit.ports;
      }

  well_pair : GoodPair c.pair
  unfolding own_pair
  well_pair = record { status = ap (λ (d : Chip). d.pair.status) w.own; address = w.fit.address }

  well_twins : NoTwins c.patc
  unfolding NoTwins
  well_twins i j hi hj vi vj p t =
      w.entries i j hi hj (record { first = vi; second = vj; page = p; space = bit_same _ _ (omega arith) (omega arith) t })

  well_doubles : NoDoubles c.lines
  unfolding NoDoubles
  well_doubles p q hp hq e vp vq t = well_places c w p q hp hq e (record { first = vp; second = vq; tag = t })

  pub well_good : Good c
  well_good =
      record {
        registers = well_registers;
        pair = well_pair;
        patc = record { size = w.sized.patc; own = ap (λ (d : Chip). d.patc) w.own; alone = well_twins };
        lines = record { size = w.sized.lines; own = ap (λ (d : Chip). d.lines) w.own; orders = λ p h. w.orders (p / 4) (omega arith); alone = well_doubles };
        cells = record { size = w.sized.cells; words = w.fit.cells };
      }

-- ---- a stored word with only own bits

pub own_put : (layout : Layout) (ws : List ℕ) (i v : ℕ) → own_words layout ws ≡ ws → own_word layout i v ≡ v → own_words layout (set ws i v) ≡ set ws i v
own_put layout ws i v e f =
    own_set layout 0 ws i v
    ∙ ap (λ (l : List ℕ). set l i (own_word layout (0 + i) v)) e
    ∙ ap (λ (w : ℕ). set ws i w) (ap (λ (m : ℕ). own_word layout m v) (omega arith) ∙ f)
