-- What each instruction that writes the machine state register, and an interrupt, leave in it (Power ISA, Book III, System
-- Linkage Instructions; Move To/From System Register Instructions; chapter 6, Interrupts).
use Rattle.std.specs.Prelude.{ℕ, ◌==◌, nat_le, Bool, true, false, ◌||◌, if◌then◌else◌, [], ◌∷◌, Result}
use Rattle.ppc_bits.specs.Bits.{bit, word_of, is_within, is_among, either, both, is_set}
use Rattle.ppc_spr.specs.declared.msr.Msr.{Msr}
use Rattle.ppc_spr.specs.declared.msr.ProfileBits.{ProfileBits}
use Rattle.ppc_spr.specs.declared.msr.Hyper.{Hyper}
use Rattle.ppc_spr.specs.declared.msr.Hyper.TheVariants.{Keep, Raise, RaiseKeepRi, KeepRi}
use Rattle.ppc_bits.specs.MachineStateBits as at
use Rattle.ppc_spr.specs.Profile.{msr_of, profiled}

-- ---- the bits that are read

abbrev pub hv : Msr → Bool
hv m = is_set 64 m.0 at.hv

abbrev pub ee : Msr → Bool
ee m = is_set 64 m.0 at.ee

abbrev pub pr : Msr → Bool
pr m = is_set 64 m.0 at.pr

abbrev pub ir : Msr → Bool
ir m = is_set 64 m.0 at.ir

abbrev pub dr : Msr → Bool
dr m = is_set 64 m.0 at.dr

-- ---- each bit of a new value

-- bit i of a value that is put in: EE, IR and DR become 1 where PR is put in as 1
abbrev pub put_bit : (ℕ → ℕ) → ℕ → ℕ
put_bit new i = if is_among (at.ee ∷ at.ir ∷ at.dr ∷ []) i then either (new i) (new at.pr) else new i

-- mtmsrd with l = 0: RS, but HV, ME and LE are kept
abbrev pub mtmsrd_bit : ℕ → ℕ → ℕ → ℕ
mtmsrd_bit old rs i =
    if is_among (at.hv ∷ at.me ∷ at.le ∷ []) i then bit 64 old i
    else put_bit (λ k. bit 64 rs k) i

-- mtmsr with l = 0: bits 0:31 are kept too
abbrev pub mtmsr_bit : ℕ → ℕ → ℕ → ℕ
mtmsr_bit old rs i = if nat_le i 31 then bit 64 old i else mtmsrd_bit old rs i

-- both with l = 1: EE and RI of RS, all else is kept
abbrev pub enabled_bit : ℕ → ℕ → ℕ → ℕ
enabled_bit old rs i = if is_among (at.ee ∷ at.ri ∷ []) i then bit 64 rs i else bit 64 old i

-- a saved register holds something else than MSR bits in 33:36 and 42:47
abbrev pub saved_bit : ℕ → ℕ → ℕ
saved_bit saved i = if is_within 33 36 i || is_within 42 47 i then 0 else bit 64 saved i

-- hrfid: HSRR1
abbrev pub hrfid_bit : ℕ → ℕ → ℕ
hrfid_bit hsrr1 i = put_bit (λ k. saved_bit hsrr1 k) i

-- rfid: SRR1, but HV can only fall, and ME is kept outside hypervisor state
abbrev pub rfid_bit : ℕ → ℕ → ℕ → ℕ
rfid_bit old srr1 i =
    if i == at.hv then both (bit 64 old at.hv) (bit 64 srr1 at.hv)
    else (if i == at.me then (if is_set 64 old at.hv then bit 64 srr1 at.me else bit 64 old at.me)
    else put_bit (λ k. saved_bit srr1 k) i)

-- an interrupt enters hypervisor state
abbrev pub raises : Hyper → Bool
raises Keep = false
raises Raise = true
raises RaiseKeepRi = true
raises KeepRi = false

-- an interrupt keeps RI
abbrev pub keeps_ri : Hyper → Bool
keeps_ri Keep = false
keeps_ri Raise = false
keeps_ri RaiseKeepRi = true
keeps_ri KeepRi = true

-- an interrupt: EE, PR, IR and DR become 0, and so does RI where it is not kept; HV becomes 1 where it is raised
abbrev pub interrupt_bit : ℕ → Hyper → ℕ → ℕ
interrupt_bit old hyper i =
    if is_among (at.ee ∷ at.pr ∷ at.ir ∷ at.dr ∷ []) i then 0
    else (if i == at.ri then (if keeps_ri hyper then bit 64 old i else 0)
    else (if i == at.hv then (if raises hyper then 1 else bit 64 old i)
    else bit 64 old i))

-- ---- the new values

abbrev pub after_enabling : Msr → ℕ → Result Msr ProfileBits
after_enabling old rs = profiled (word_of 64 (λ i. enabled_bit old.0 rs i))

unfoldable pub after_mtmsrd : Msr → ℕ → Bool → Result Msr ProfileBits
after_mtmsrd old rs false = profiled (word_of 64 (λ i. mtmsrd_bit old.0 rs i))
after_mtmsrd old rs true = after_enabling old rs

unfoldable pub after_mtmsr : Msr → ℕ → Bool → Result Msr ProfileBits
after_mtmsr old rs false = profiled (word_of 64 (λ i. mtmsr_bit old.0 rs i))
after_mtmsr old rs true = after_enabling old rs

unfoldable pub after_rfid : Msr → ℕ → Result Msr ProfileBits
after_rfid old srr1 = profiled (word_of 64 (λ i. rfid_bit old.0 srr1 i))

unfoldable pub after_hrfid : Msr → ℕ → Result Msr ProfileBits
after_hrfid old hsrr1 = profiled (word_of 64 (λ i. hrfid_bit hsrr1 i))

unfoldable pub after_interrupt : Msr → Hyper → Msr
after_interrupt old hyper = msr_of (word_of 64 (λ i. interrupt_bit old.0 hyper i))
