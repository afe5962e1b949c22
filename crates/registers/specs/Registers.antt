-- The registers by their offsets: IDR 000, SCR 004, SSR 008, SAR 00C, SCTR 104, PFSR 108, PFAR 10C, SAPR 200, UAPR 204, BWP0 to BWP7 400 to 41C.
use Rattle.std.specs.Prelude.{ℕ, ◌-◌, ◌/◌, Bool, set, eqb, leb}
use Rattle.words.specs.Words.{pick}
use Rattle.state.specs.Own.{own_idr, own_scr, own_ssr, own_sctr, own_status, own_area}
use Rattle.state.specs.declared.Registers.{Registers}
use Rattle.state.specs.declared.FaultPair.{FaultPair}

abbrev pub area_of : Registers → Bool → ℕ
area_of u s = pick s u.sapr u.uapr

-- other offsets and the write ports read as 0
unfoldable pub read_of : Registers → FaultPair → ℕ → ℕ
read_of u p offset =
    pick (eqb offset 0x000) (own_idr u.idr)
    (pick (eqb offset 0x004) (own_scr u.scr)
    (pick (eqb offset 0x008) (own_ssr u.ssr)
    (pick (eqb offset 0x00C) u.sar
    (pick (eqb offset 0x104) (own_sctr u.sctr)
    (pick (eqb offset 0x108) (own_status p.status)
    (pick (eqb offset 0x10C) p.address
    (pick (eqb offset 0x200) (own_area u.sapr)
    (pick (eqb offset 0x204) (own_area u.uapr) 0))))))))

-- registers and the fault pair after a call, and the words that it moved
pub record Stored : Type 0 where
  pub registers : Registers
  pub pair : FaultPair
  pub words : ℕ

-- registers after a command, and the words that it moved
pub record Ran : Type 0 where
  pub registers : Registers
  pub words : ℕ

abbrev pub stored_of : Registers → FaultPair → ℕ → Stored
stored_of u p words = record { registers = u; pair = p; words = words }

-- the registers with one of them set
unfoldable pub with_scr : Registers → ℕ → Registers
with_scr u value = record { idr = u.idr; scr = value; ssr = u.ssr; sar = u.sar; sctr = u.sctr; sapr = u.sapr; uapr = u.uapr; pointer = u.pointer; ports = u.ports }

unfoldable pub with_ssr : Registers → ℕ → Registers
with_ssr u value = record { idr = u.idr; scr = u.scr; ssr = value; sar = u.sar; sctr = u.sctr; sapr = u.sapr; uapr = u.uapr; pointer = u.pointer; ports = u.ports }

unfoldable pub with_sar : Registers → ℕ → Registers
with_sar u value = record { idr = u.idr; scr = u.scr; ssr = u.ssr; sar = value; sctr = u.sctr; sapr = u.sapr; uapr = u.uapr; pointer = u.pointer; ports = u.ports }

unfoldable pub with_sctr : Registers → ℕ → Registers
with_sctr u value = record { idr = u.idr; scr = u.scr; ssr = u.ssr; sar = u.sar; sctr = value; sapr = u.sapr; uapr = u.uapr; pointer = u.pointer; ports = u.ports }

unfoldable pub with_sapr : Registers → ℕ → Registers
with_sapr u value = record { idr = u.idr; scr = u.scr; ssr = u.ssr; sar = u.sar; sctr = u.sctr; sapr = value; uapr = u.uapr; pointer = u.pointer; ports = u.ports }

unfoldable pub with_uapr : Registers → ℕ → Registers
with_uapr u value = record { idr = u.idr; scr = u.scr; ssr = u.ssr; sar = u.sar; sctr = u.sctr; sapr = u.sapr; uapr = value; pointer = u.pointer; ports = u.ports }

unfoldable pub with_pointer : Registers → ℕ → Registers
with_pointer u value = record { idr = u.idr; scr = u.scr; ssr = u.ssr; sar = u.sar; sctr = u.sctr; sapr = u.sapr; uapr = u.uapr; pointer = value; ports = u.ports }

unfoldable pub with_port : Registers → ℕ → ℕ → Registers
with_port u n value = record { idr = u.idr; scr = u.scr; ssr = u.ssr; sar = u.sar; sctr = u.sctr; sapr = u.sapr; uapr = u.uapr; pointer = u.pointer; ports = set u.ports n value }

abbrev pub with_status : Registers → ℕ → ℕ → Registers
with_status u ssr sar = with_sar (with_ssr u ssr) sar

-- unused bits are not stored
unfoldable pub set_fault_of : FaultPair → ℕ → ℕ → FaultPair
set_fault_of p offset value =
    pick (eqb offset 0x108) (record { status = own_status value; address = p.address })
    (pick (eqb offset 0x10C) (record { status = p.status; address = value }) p)

unfoldable pub set_port_of : Registers → ℕ → ℕ → Registers
set_port_of u offset value = pick (leb 0x400 offset) (pick (leb offset 0x41C) (with_port u ((offset - 0x400) / 4) value) u) u

-- writes to IDR and to other offsets do nothing
unfoldable pub set_register_of : Registers → ℕ → ℕ → Registers
set_register_of u offset value =
    pick (eqb offset 0x008) (with_ssr u (own_ssr value))
    (pick (eqb offset 0x00C) (with_sar u value)
    (pick (eqb offset 0x104) (with_sctr u (own_sctr value))
    (pick (eqb offset 0x200) (with_sapr u (own_area value))
    (pick (eqb offset 0x204) (with_uapr u (own_area value)) (set_port_of u offset value)))))

abbrev pub set_of : Registers → FaultPair → ℕ → ℕ → Stored
set_of u p offset value = stored_of (set_register_of u offset value) (set_fault_of p offset value) 0
