-- The registers and the fault pair at reset: document 003, section 6.2 and tables 2-3 and 6-3; what these leave undefined is 0.
use Rattle.std.specs.Prelude.{ℕ, ◌+◌, ◌*◌, replicate}
use Rattle.state.specs.declared.Registers.{Registers}
use Rattle.state.specs.declared.FaultPair.{FaultPair}

-- unit number 31-24, type 101 in 23-21, version 0; CI set in both area pointers
unfoldable pub reset_of : ℕ → Registers
reset_of number =
    record { idr = number * 16777216 + 0xA00000; scr = 0; ssr = 0; sar = 0; sctr = 0; sapr = 0x40; uapr = 0x40; pointer = 0; ports = replicate 8 0 }

abbrev pub no_fault : FaultPair
no_fault = record { status = 0; address = 0 }
