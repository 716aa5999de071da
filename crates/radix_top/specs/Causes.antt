-- Why a call is refused, and the line that it prints then.
use Rattle.std.specs.Prelude.{◌≡◌, ◌++◌, ℕ, List, [], Some, None, Err, codes}
use Rattle.std.specs.Fmt.{decimal}
use Rattle.line_text.specs.Text.{hex, end_of_line}
use Rattle.ppc_bus.specs.Windows.{Window}
use Rattle.ppc_bus.specs.declared.faults.PlugReason.{PlugReason}
use Rattle.ppc_bus.specs.declared.faults.PlugReason.TheVariants as plug_reasons
use Rattle.elf_image.specs.declared.span.Span.{Span}
use Rattle.elf_image.specs.Places.{bad_place_of}
use Rattle.ppc_machine.specs.Plugging.{first_refused}
use Rattle.asm_places.specs.declared.fault.AsmKind.{AsmKind}
use Rattle.asm_places.specs.declared.fault.AsmKind.TheVariants as asm_kinds
use Rattle.elf_image.specs.declared.fault.ElfFault.{ElfFault}
use Rattle.elf_image.specs.declared.fault.ElfFault.TheVariants as elf_faults
use Rattle.radix_top.specs.declared.status.Refusal.{Refusal}
use Rattle.radix_top.specs.declared.status.Refusal.TheVariants as refusals
use Rattle.radix_top.specs.Words.{Text, command_of}
use Rattle.radix_top.specs.Inputs.{FilesSeen, FileWord, Reaches, FileFails, AsksFor}

-- the refusal is about a file that the command comes to read
pub record FailsAtFile (m : FilesSeen) (words : List Text) (r : Refusal) : Type 0 where
  pub file : FileWord
  pub reaches : Reaches m words file
  pub fails : FileFails m file r

-- RAM of a run, in MiB
abbrev pub ram_mib : ℕ
ram_mib = 16

-- the first range of the image and the guests that leaves RAM, or meets one before it, and what it has no place beside
pub record FailsAtPlace (m : FilesSeen) (words : List Text) (range other : Span) : Type 0 where
  pub asks : AsksFor m words
  pub place : bad_place_of asks.image asks.guests ram_mib ≡ Some (range, other)

-- the image and the guests have their places, and the first of the devices with these windows that is not plugged has this number
pub record FailsAtDevice (m : FilesSeen) (words : List Text) (windows : List Window) (number : ℕ) (reason : PlugReason) : Type 0 where
  pub asks : AsksFor m words
  pub place : bad_place_of asks.image asks.guests ram_mib ≡ None
  pub device : first_refused 0 [] windows ≡ Some (number, reason)

-- why a call with devices of these windows is refused; memory that ran out has no cause
abbrev pub HasCause : FilesSeen → List Text → List Window → Refusal → Type 0
HasCause m words windows (refusals.Usage place) = command_of words ≡ Err place
HasCause m words windows (refusals.ReadFault place) = FailsAtFile m words (refusals.ReadFault place)
HasCause m words windows (refusals.TooLong place) = FailsAtFile m words (refusals.TooLong place)
HasCause m words windows (refusals.BadImage fault) = FailsAtFile m words (refusals.BadImage fault)
HasCause m words windows (refusals.BadSchedule place) = FailsAtFile m words (refusals.BadSchedule place)
HasCause m words windows (refusals.BadAsm line kind) = FailsAtFile m words (refusals.BadAsm line kind)
HasCause m words windows (refusals.BadPlace range other) = FailsAtPlace m words range other
HasCause m words windows (refusals.BadDevice number reason) = FailsAtDevice m words windows number reason
HasCause m words windows refusals.Memory = Unit {0}

-- the name of an image's fault, and its numbers
abbrev pub elf_name : ElfFault → List ℕ
elf_name elf_faults.Short = codes "Short"
elf_name elf_faults.Magic = codes "Magic"
elf_name elf_faults.Class = codes "Class"
elf_name elf_faults.Order = codes "Order"
elf_name elf_faults.Machine = codes "Machine"
elf_name elf_faults.Abi = codes "Abi"
elf_name elf_faults.FileType = codes "FileType"
elf_name elf_faults.Header = codes "Header"
elf_name elf_faults.TooMany = codes "TooMany"
elf_name (elf_faults.Segment number) = codes "Segment " ++ decimal number
elf_name (elf_faults.Overlap i j) = codes "Overlap " ++ decimal i ++ codes " " ++ decimal j
elf_name elf_faults.Memory = codes "Memory"

-- the name of what is wrong with a line of a source, or with the source
abbrev pub asm_name : AsmKind → List ℕ
asm_name asm_kinds.Lex = codes "Lex"
asm_name asm_kinds.Form = codes "Form"
asm_name asm_kinds.Twice = codes "Twice"
asm_name asm_kinds.NoSegment = codes "NoSegment"
asm_name asm_kinds.Lines = codes "Lines"
asm_name asm_kinds.Unknown = codes "Unknown"
asm_name asm_kinds.Range = codes "Range"
asm_name asm_kinds.Overlap = codes "Overlap"
asm_name asm_kinds.Entry = codes "Entry"
asm_name asm_kinds.Segments = codes "Segments"
asm_name asm_kinds.Empty = codes "Empty"

-- the two ends of a range
abbrev pub span_text : Span → List ℕ
span_text range = codes " " ++ hex 16 range.from ++ codes " " ++ hex 16 range.to

-- the name of the reason why a device is not plugged, and the slot that its window meets
abbrev pub plug_name : PlugReason → List ℕ
plug_name plug_reasons.SlotsFull = codes "SlotsFull"
plug_name plug_reasons.BadWindow = codes "BadWindow"
plug_name (plug_reasons.SlotUsed slot) = codes "SlotUsed " ++ decimal slot

-- the line of a refusal
abbrev pub fault_line : Refusal → List ℕ
fault_line (refusals.Usage place) = codes "fault usage " ++ decimal place ++ end_of_line
fault_line (refusals.ReadFault place) = codes "fault read " ++ decimal place ++ end_of_line
fault_line (refusals.TooLong place) = codes "fault long " ++ decimal place ++ end_of_line
fault_line (refusals.BadImage fault) = codes "fault image " ++ elf_name fault ++ end_of_line
fault_line (refusals.BadSchedule place) = codes "fault schedule " ++ decimal place ++ end_of_line
fault_line (refusals.BadAsm line kind) = codes "fault asm " ++ decimal line ++ codes " " ++ asm_name kind ++ end_of_line
fault_line (refusals.BadPlace range other) = codes "fault place" ++ span_text range ++ span_text other ++ end_of_line
fault_line (refusals.BadDevice number reason) = codes "fault device " ++ decimal number ++ codes " " ++ plug_name reason ++ end_of_line
fault_line refusals.Memory = codes "fault memory" ++ end_of_line
