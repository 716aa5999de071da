-- The registers of hardware threads, and their reset state.
use Rattle.std.specs.Prelude.{ℕ, false, zero, suc, ◌+◌, List, [], ◌∷◌, slice_index, slice_index_or, slice_set, replicate}
use Rattle.ppc_bits.specs.Addresses.{next_address, aligned}
use Rattle.ppc_spr.specs.declared.msr.Msr.{Msr}
use Rattle.ppc_spr.specs.Profile.{msr_of}
use Rattle.thread_regs.specs.declared.registers.Thread.{Thread}

-- the reset state: r3 and PIR are the thread's number, r12 the entry, and instructions lie at multiples of 4
unfoldable pub reset : ℕ → ℕ → Thread
reset number entry = record {
  gpr = slice_set (slice_set (replicate 32 0) 3 number) 12 entry;
  cr = 0;
  xer = record { so = false; ov = false; ca = false; ov32 = false; ca32 = false };
  lr = 0;
  ctr = 0;
  tar = 0;
  msr = msr_of 0x9000_0000_0000_1001;
  nia = aligned entry;
  tb = 0;
  dec = 0;
  hdec = 0;
  srr0 = 0;
  srr1 = 0;
  hsrr0 = 0;
  hsrr1 = 0;
  dar = 0;
  dsisr = 0;
  hdar = 0;
  hdsisr = 0;
  asdr = 0;
  heir = 0;
  sprg0 = 0;
  sprg1 = 0;
  sprg2 = 0;
  sprg3 = 0;
  hsprg0 = 0;
  hsprg1 = 0;
  lpidr = 0;
  pidr = 0;
  lpcr = 0x250_0000;
  ptcr = 0;
  amr = 0;
  iamr = 0;
  pvr = 0x4e_0000;
  pir = number;
}

-- the value of a general purpose register
abbrev pub gpr : Thread → ℕ → ℕ
gpr t n = slice_index t.gpr n

-- a general purpose register set, all else as it was
abbrev pub with_gpr : Thread → ℕ → ℕ → Thread
with_gpr t n value = record t { gpr = slice_set t.gpr n value }

-- the condition register set, all else as it was
abbrev pub with_cr : Thread → ℕ → Thread
with_cr t value = record t { cr = value }

-- the machine state register set, all else as it was
abbrev pub with_msr : Thread → Msr → Thread
with_msr t value = record t { msr = value }

-- the next address set, all else as it was
abbrev pub with_nia : Thread → ℕ → Thread
with_nia t value = record t { nia = value }

-- gone on to the next instruction, all else as it was
abbrev pub advanced : Thread → Thread
advanced t = with_nia t (next_address t.nia)

-- so many threads in their reset state, numbered from a number on
unfoldable pub reset_from : ℕ → ℕ → ℕ → List Thread
reset_from number zero entry = []
reset_from number (suc count) entry = reset number entry ∷ reset_from (number + 1) count entry

-- all threads in their reset state, numbered from 0
abbrev pub all_reset : ℕ → ℕ → List Thread
all_reset count entry = reset_from 0 count entry

-- the thread with this number
abbrev pub thread_at : List Thread → ℕ → Thread
thread_at threads i = slice_index_or threads i (reset 0 0)
