-- What a form does to storage, and where (Power ISA, Book I, 1.10.3; Book II, 4).
use Rattle.std.specs.Prelude.{◌≡◌, ℕ, ◌<◌, ◌+◌, ◌-◌, ◌%◌, ◌^◌, ◌==◌, ◌&&◌, not, ℤ, pos, ◌+ℤ◌, Bool, true, false, if◌then◌else◌, List, [], ◌∷◌, Option, Some, None}
use Rattle.ppc_bits.specs.Bits.{modulo}
use Rattle.ppc_ops.specs.declared.op.Op.{Op}
use Rattle.ppc_ops.specs.declared.op.Op.TheVariants.{Dcbz, Dcbf, Dcbst, Dcbt, Dcbtst, Icbi}
use Rattle.ppc_ops.specs.declared.insn.Insn.{Insn}
use Rattle.ppc_ops.specs.declared.insn.Insn.TheVariants as insn
use Rattle.journal_core.specs.declared.asks.AccessKind.{AccessKind}
use Rattle.journal_core.specs.declared.asks.AccessKind.TheVariants.{Load, Store}
use Rattle.thread_regs.specs.declared.registers.Thread.{Thread}
use Rattle.thread_regs.specs.Registers.{gpr}
use Rattle.storage_ops.specs.declared.forms.AccessForm.{AccessForm}
use Rattle.storage_ops.specs.declared.deeds.Deed.{Deed}
use Rattle.storage_ops.specs.declared.deeds.Deed.TheVariants.{Moves, Clears, Touches, Nothing}
use Rattle.storage_ops.specs.declared.parts.Part.{Part}
use Rattle.storage_ops.specs.declared.parts.Parts.{Parts}
use Rattle.ppc_bus.specs.Holding.{is_size}
use Rattle.storage_ops.specs.AccessTable.{access_form}
use Rattle.storage_ops.specs.Parts.{part, parts_of}

-- the value of RA, or 0 where RA is 0
abbrev pub gpr_or_zero : Thread → ℕ → ℕ
gpr_or_zero t ra = if ra == 0 then 0 else gpr t ra

-- the value from which the effective address counts: of forms with update it is that of RA
abbrev pub base_of : AccessForm → Thread → ℕ → ℕ
base_of form t ra = if form.update then gpr t ra else gpr_or_zero t ra

-- bytes of this form are moved between a register and storage, at the base plus a distance
abbrev pub moves : Option AccessForm → Thread → ℕ → ℕ → ℤ → Deed
moves None t register base distance = Nothing
moves (Some form) t register base distance = Moves form register base (modulo 64 (pos (base_of form t base) +ℤ distance))

-- The bytes of a cache block of 128 bytes are set to zero; a byte is looked for as by a load; a hint does nothing. The last line is
-- for operations of other layouts, and says nothing of any form.
abbrev pub block_deed : Op → ℕ → Deed
block_deed Dcbz at = Clears (at - at % 128)
block_deed Dcbf at = Touches at
block_deed Dcbst at = Touches at
block_deed Icbi at = Touches at
block_deed Dcbt at = Nothing
block_deed Dcbtst at = Nothing
block_deed other at = Nothing

-- What a form does. The last line is for forms that do nothing to storage.
unfoldable pub deed_of : Insn → Thread → Deed
deed_of (insn.Access op rt ra disp) t = moves (access_form op) t rt ra disp
deed_of (insn.AccessX op rt ra rb) t = moves (access_form op) t rt ra (pos (gpr t rb))
deed_of (insn.Block op ra rb) t = block_deed op ((gpr_or_zero t ra + gpr t rb) % 2 ^ 64)
deed_of other t = Nothing

-- the form reserves, or asks for a reservation
abbrev pub reserves_by : Option AccessForm → Bool
reserves_by None = false
reserves_by (Some form) = form.reserved

-- loads, stores and the forms of cache blocks, but for those with a reservation
abbrev pub is_storage : Insn → Bool
is_storage (insn.Access op rt ra disp) = true
is_storage (insn.AccessX op rt ra rb) = not (reserves_by (access_form op))
is_storage (insn.Block op ra rb) = true
is_storage other = false

abbrev pub IsStorage : Insn → Type 0
IsStorage i = is_storage i ≡ true

-- a deed has a size of 1, 2, 4 or 8 bytes, and registers that there are
abbrev pub IsDeed : Deed → Type 0
IsDeed (Moves form register base at) = (is_size form.size ≡ true) × (register < 32) × (base < 32)
IsDeed (Clears at) = at < 2 ^ 64
IsDeed (Touches at) = at < 2 ^ 64
IsDeed Nothing = Unit {0}

-- the access of a form
abbrev pub kind_of : AccessForm → AccessKind
kind_of form = if form.store then Store else Load

-- a form that does not use caches wants an address that its size divides
abbrev pub is_misaligned : Deed → Bool
is_misaligned (Moves form register base at) = form.inhibited && not ((at % form.size) == 0)
is_misaligned (Clears at) = false
is_misaligned (Touches at) = false
is_misaligned Nothing = false

-- the effective address
abbrev pub address_in : Deed → ℕ
address_in (Moves form register base at) = at
address_in (Clears at) = at
address_in (Touches at) = at
address_in Nothing = 0

-- the parts of the access at effective addresses; a cache block lies in one page
abbrev pub parts_in : Deed → List Part
parts_in (Moves form register base at) = parts_of at form.size
parts_in (Clears at) = part at 128 ∷ []
parts_in (Touches at) = part at 1 ∷ []
parts_in Nothing = []

-- what the access does
abbrev pub kind_in : Deed → AccessKind
kind_in (Moves form register base at) = kind_of form
kind_in (Clears at) = Store
kind_in (Touches at) = Load
kind_in Nothing = Load

-- how many bytes are accessed
abbrev pub size_in : Deed → ℕ
size_in (Moves form register base at) = form.size
size_in (Clears at) = 128
size_in (Touches at) = 1
size_in Nothing = 0

-- a cache block is one part
abbrev pub IsWhole : Deed → Parts → Type 0
IsWhole (Moves form register base at) parts = Unit {0}
IsWhole (Clears at) parts = parts.second ≡ None
IsWhole (Touches at) parts = Unit {0}
IsWhole Nothing parts = Unit {0}

-- a deed without parts does nothing
abbrev pub IsIdle : Deed → Option Parts → Type 0
IsIdle deed None = deed ≡ Nothing
IsIdle deed (Some parts) = Unit {0}
