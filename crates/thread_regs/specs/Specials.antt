-- The special purpose registers of a thread by name, and one of them set.
use Rattle.std.specs.Prelude.{ℕ, ◌%◌, ◌^◌}
use Rattle.ppc_ops.specs.Results.{xer_of, xer_number}
use Rattle.ppc_spr.specs.declared.spr.Spr.{Spr}
use Rattle.ppc_spr.specs.declared.spr.Spr.TheVariants.{Xer, Lr, Ctr, Dsisr, Dar, Dec, Srr0, Srr1, Amr, Pidr, Iamr, UserSprg3, Tb, Sprg0, Sprg1, Sprg2, Sprg3, Pvr, Hsprg0, Hsprg1, Hdsisr, Hdar, Hdec, Hsrr0, Hsrr1, Lpcr, Lpidr, Heir, Ptcr, Tar, Asdr, Pir}
use Rattle.ppc_spr.specs.Sprs.{width_of}
use Rattle.thread_regs.specs.declared.registers.Thread.{Thread}

-- the value of a register, a narrow one with zeros above its width
unfoldable pub spr : Thread → Spr → ℕ
spr t Xer = xer_number t.xer
spr t Lr = t.lr
spr t Ctr = t.ctr
spr t Dsisr = t.dsisr
spr t Dar = t.dar
spr t Dec = t.dec
spr t Srr0 = t.srr0
spr t Srr1 = t.srr1
spr t Amr = t.amr
spr t Pidr = t.pidr
spr t Iamr = t.iamr
spr t UserSprg3 = t.sprg3
spr t Tb = t.tb
spr t Sprg0 = t.sprg0
spr t Sprg1 = t.sprg1
spr t Sprg2 = t.sprg2
spr t Sprg3 = t.sprg3
spr t Pvr = t.pvr
spr t Hsprg0 = t.hsprg0
spr t Hsprg1 = t.hsprg1
spr t Hdsisr = t.hdsisr
spr t Hdar = t.hdar
spr t Hdec = t.hdec
spr t Hsrr0 = t.hsrr0
spr t Hsrr1 = t.hsrr1
spr t Lpcr = t.lpcr
spr t Lpidr = t.lpidr
spr t Heir = t.heir
spr t Ptcr = t.ptcr
spr t Tar = t.tar
spr t Asdr = t.asdr
spr t Pir = t.pir

-- what a register keeps of a value: its low bits, and of the exception register the five bits that there are
unfoldable pub kept_of : Spr → ℕ → ℕ
kept_of Xer v = xer_number (xer_of v)
kept_of s v = v % 2 ^ width_of s

-- a register set, all else as it was
unfoldable pub with_spr : Thread → Spr → ℕ → Thread
with_spr t Xer v = record t { xer = xer_of v }
with_spr t Lr v = record t { lr = v }
with_spr t Ctr v = record t { ctr = v }
with_spr t Dsisr v = record t { dsisr = v % 2 ^ 32 }
with_spr t Dar v = record t { dar = v }
with_spr t Dec v = record t { dec = v % 2 ^ 32 }
with_spr t Srr0 v = record t { srr0 = v }
with_spr t Srr1 v = record t { srr1 = v }
with_spr t Amr v = record t { amr = v }
with_spr t Pidr v = record t { pidr = v % 2 ^ 20 }
with_spr t Iamr v = record t { iamr = v }
with_spr t UserSprg3 v = record t { sprg3 = v }
with_spr t Tb v = record t { tb = v }
with_spr t Sprg0 v = record t { sprg0 = v }
with_spr t Sprg1 v = record t { sprg1 = v }
with_spr t Sprg2 v = record t { sprg2 = v }
with_spr t Sprg3 v = record t { sprg3 = v }
with_spr t Pvr v = record t { pvr = v }
with_spr t Hsprg0 v = record t { hsprg0 = v }
with_spr t Hsprg1 v = record t { hsprg1 = v }
with_spr t Hdsisr v = record t { hdsisr = v % 2 ^ 32 }
with_spr t Hdar v = record t { hdar = v }
with_spr t Hdec v = record t { hdec = v % 2 ^ 32 }
with_spr t Hsrr0 v = record t { hsrr0 = v }
with_spr t Hsrr1 v = record t { hsrr1 = v }
with_spr t Lpcr v = record t { lpcr = v }
with_spr t Lpidr v = record t { lpidr = v % 2 ^ 12 }
with_spr t Heir v = record t { heir = v % 2 ^ 32 }
with_spr t Ptcr v = record t { ptcr = v }
with_spr t Tar v = record t { tar = v }
with_spr t Asdr v = record t { asdr = v }
with_spr t Pir v = record t { pir = v }
