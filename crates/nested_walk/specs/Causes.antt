-- Which interrupts a walk raises, and with which bits (Power ISA, Book III, storage interrupts).
use Rattle.std.specs.Prelude.{◌≡◌, ℕ, ◌+◌, ◌%◌, ◌^◌, true, false, List, [], ◌∷◌, ◌++◌, map, Option}
use Rattle.ppc_bits.specs.Bits.{is_among}
use Rattle.journal_core.specs.declared.rows.ReadRow.{ReadRow}
use Rattle.journal_core.specs.declared.asks.AccessKind.{AccessKind}
use Rattle.journal_core.specs.declared.asks.Ask.{Ask}
use Rattle.journal_core.specs.declared.asks.Denial.{Denial}
use Rattle.journal_core.specs.declared.asks.Rights.{Rights}
use Rattle.journal_core.specs.declared.causes.Cause.{Cause}
use Rattle.journal_core.specs.declared.causes.Cause.TheVariants.{DataStorage, DataSegment, InstStorage, InstSegment, Alignment, Program, Decrementer, HypDecrementer, SystemCall, HypDataStorage, HypInstStorage, HypAssist, HypDoorbell}
use Rattle.journal_core.specs.declared.walks.NestResult.TheVariants.{Fault}
use Rattle.journal_core.specs.Asks.{is_fetch}
use Rattle.journal_core.specs.Faults.{fault_bit, store_bits}
use Rattle.journal_core.specs.Following.{Walk}

-- why the process's tables give no page: one of these bits
abbrev pub process_bits : List ℕ
process_bits = map fault_bit (33 ∷ 35 ∷ 36 ∷ 44 ∷ 45 ∷ [])

-- why the partition's give none: one of the same, and with it bit 46 where the address is one of a table's entry
abbrev pub partition_bits : List ℕ
partition_bits = process_bits ++ map (λ why. why + fault_bit 46) process_bits

-- the bits of a fetch
abbrev pub IsFetchOf : Ask → List ℕ → ℕ → Type 0
IsFetchOf ask whys bits = (is_fetch ask.access ≡ true) × (is_among whys bits ≡ true)

-- those of a load or store, with its effective address, and bit 38 for a store
abbrev pub IsDataOf : Ask → List ℕ → ℕ → ℕ → Type 0
IsDataOf ask whys address bits = (is_fetch ask.access ≡ false) × (address ≡ ask.ea) × (why : ℕ) × (is_among whys why ≡ true) × (bits ≡ why + store_bits ask.access)

-- a guest real address without its 12 lowest bits
abbrev pub IsPageAddress : ℕ → Type 0
IsPageAddress asdr = asdr % 2 ^ 12 ≡ 0

-- an interrupt that the walk of an ask raises: one of six
abbrev pub IsWalkCause : Ask → Cause → Type 0
IsWalkCause ask (InstStorage bits) = IsFetchOf ask process_bits bits
IsWalkCause ask (DataStorage dar dsisr) = IsDataOf ask process_bits dar dsisr
IsWalkCause ask InstSegment = is_fetch ask.access ≡ true
IsWalkCause ask (DataSegment dar) = (is_fetch ask.access ≡ false) × (dar ≡ ask.ea)
IsWalkCause ask (HypInstStorage bits asdr) = IsFetchOf ask partition_bits bits × IsPageAddress asdr
IsWalkCause ask (HypDataStorage hdar hdsisr asdr) = IsDataOf ask partition_bits hdar hdsisr × IsPageAddress asdr
IsWalkCause ask (Alignment dar) = ⊥
IsWalkCause ask (Program bits) = ⊥
IsWalkCause ask Decrementer = ⊥
IsWalkCause ask HypDecrementer = ⊥
IsWalkCause ask (SystemCall lev) = ⊥
IsWalkCause ask (HypAssist heir) = ⊥
IsWalkCause ask HypDoorbell = ⊥

-- a walk that follows the definitions, whatever its rights refuse, raises only these
abbrev pub WalksRaiseSixCauses : Type 0
WalksRaiseSixCauses = (deny : Rights → AccessKind → Option Denial) (word : ℕ → Option ℕ) (ask : Ask) (rs : List ReadRow) (cause : Cause) → Walk deny word ask rs (Fault cause) → IsWalkCause ask cause
