-- What each line puts into memory, or what is wrong with it once all names are known.
use Rattle.std.specs.Prelude.{ℕ, ◌+◌, ◌^◌, List, [], ◌∷◌, length, take, replicate, slice_get, Bool, true, false, not, ◌&&◌, ◌||◌, Option, Some, None, option_map, Result, Ok, Err, nat_le, nat_lt, ◌==◌, ℤ, pos, negsuc, if◌then◌else◌}
use Rattle.std.specs.Int.{bytes_low_first, bytes_high_first}
use Rattle.ppc_bits.specs.Bits.{modulo}
use Rattle.asm_statements.specs.declared.statement.Width.{Width}
use Rattle.asm_statements.specs.declared.statement.Width.TheVariants as widths
use Rattle.asm_statements.specs.declared.statement.Statement.{Statement}
use Rattle.asm_statements.specs.declared.statement.Statement.TheVariants as statements
use Rattle.asm_places.specs.Names.{Definition}
use Rattle.asm_places.specs.Sums.{total, all_known}
use Rattle.asm_places.specs.Ranges.{in_range, base_of, space_of, padding_of}
use Rattle.asm_places.specs.Places.{here_of, end_of}
use Rattle.asm_places.specs.FirstPass.{Placed}
use Rattle.asm_places.specs.declared.places.SegmentLine.{SegmentLine}
use Rattle.asm_places.specs.declared.places.Places.{Places}
use Rattle.asm_places.specs.declared.fault.AsmKind.{AsmKind}
use Rattle.asm_places.specs.declared.fault.AsmKind.TheVariants as kinds
use Rattle.asm_contents.specs.declared.content.Content.{Content}
use Rattle.asm_contents.specs.declared.content.Content.TheVariants as contents
use Rattle.asm_contents.specs.Values.{line_word, are_known}

-- the bytes of what a line puts into memory
abbrev pub content_bytes : Content → List ℕ
content_bytes contents.Nothing = []
content_bytes (contents.Word n) = bytes_low_first 0 4 n
content_bytes (contents.Doubleword n) = bytes_low_first 0 8 n
content_bytes (contents.BigEndianDoubleword n) = bytes_high_first 8 n
content_bytes (contents.Text text) = text
content_bytes (contents.Zeros n) = replicate n 0

-- -2^31 to 2^32 - 1
abbrev pub fits_word : ℤ → Bool
fits_word (pos n) = nat_lt n (2 ^ 32)
fits_word (negsuc n) = nat_lt n (2 ^ 31)

abbrev pub word_content : ℤ → Content
word_content z = contents.Word (modulo 32 z)

abbrev pub doubleword_content : ℤ → Content
doubleword_content z = contents.Doubleword (modulo 64 z)

abbrev pub big_endian_content : ℤ → Content
big_endian_content z = contents.BigEndianDoubleword (modulo 64 z)

-- a number in memory; a negative one in two's complement
abbrev pub data_content : Width → ℤ → Option Content
data_content widths.Word z = if fits_word z then Some (word_content z) else None
data_content widths.Doubleword z = option_map doubleword_content (in_range z)
data_content widths.BigEndianDoubleword z = option_map big_endian_content (in_range z)

abbrev pub nothing_where : {A : Type 0} → Option A → Option Content
nothing_where (Some a) = Some contents.Nothing
nothing_where None = None

-- What a statement puts into memory; nothing at all where a number in it is out of range. The expressions of .seg, .equ, .space
-- and .align are worth what the names before them say, and all others what all names of the source say.
abbrev pub statement_content : List Definition → Places → Statement → Option Content
statement_content names p (statements.Seg e) = nothing_where (base_of (total p.names (pos (here_of p)) e))
statement_content names p (statements.Entry name) = Some contents.Nothing
statement_content names p (statements.Equ name e) = nothing_where (in_range (total p.names (pos (here_of p)) e))
statement_content names p (statements.Data width e) = data_content width (total names (pos (here_of p)) e)
statement_content names p (statements.Ascii text) = Some (contents.Text text)
statement_content names p (statements.Space e) = option_map contents.Zeros (space_of p.zeros (total p.names (pos (here_of p)) e))
statement_content names p (statements.Align e) = option_map contents.Zeros (padding_of p.zeros (here_of p) (total p.names (pos (here_of p)) e))
statement_content names p (statements.Instruction mnemonic operands) = option_map contents.Word (line_word names (pos (here_of p)) mnemonic operands)

-- all names of a statement are defined, those of a .seg, .equ, .space or .align before it
abbrev pub is_known : List Definition → Places → Statement → Bool
is_known names p (statements.Seg e) = all_known p.names e
is_known names p (statements.Entry name) = true
is_known names p (statements.Equ name e) = all_known p.names e
is_known names p (statements.Data width e) = all_known names e
is_known names p (statements.Ascii text) = true
is_known names p (statements.Space e) = all_known p.names e
is_known names p (statements.Align e) = all_known p.names e
is_known names p (statements.Instruction mnemonic operands) = are_known names operands

-- no byte stands at 2^64 or above
abbrev pub ends_below : ℕ → ℕ → Bool
ends_below here size = size == 0 || nat_le (here + size) (2 ^ 64)

-- both segments have bytes, and one address is in both
abbrev pub meet : SegmentLine → SegmentLine → Bool
meet s t = not (s.size == 0) && not (t.size == 0) && nat_lt s.base (end_of t) && nat_lt t.base (end_of s)

abbrev pub meets_one : SegmentLine → List SegmentLine → Bool
meets_one s [] = false
meets_one s (t ∷ ts) = meet s t || meets_one s ts

abbrev pub meets_some : Option SegmentLine → List SegmentLine → Bool
meets_some (Some s) ts = meets_one s ts
meets_some None ts = false

-- the segment with so many before it meets one of these
abbrev pub overlaps : List SegmentLine → ℕ → Bool
overlaps ss i = meets_some (slice_get ss i) (take i ss)

-- the most segments of a source
abbrev pub most_segments : ℕ
most_segments = 64

-- what is wrong with the segment that has so many before it: it meets one of these, or is the 65th
abbrev pub segment_kind : List SegmentLine → ℕ → Option AsmKind
segment_kind ss i =
    if overlaps ss i then Some kinds.Overlap
    else if nat_le most_segments i then Some kinds.Segments
    else None

-- the same of the segment that a statement begins, where it is a .seg
abbrev pub begun_kind : List SegmentLine → Places → Statement → Option AsmKind
begun_kind ss p (statements.Seg e) = segment_kind ss (length p.segments)
begun_kind ss p statement = None

abbrev pub unless_kind : Option AsmKind → Content → Result Content AsmKind
unless_kind (Some kind) c = Err kind
unless_kind None c = Ok c

abbrev pub in_place : Places → Places → Statement → Option Content → Result Content AsmKind
in_place whole p statement (Some c) = if ends_below (here_of p) (length (content_bytes c)) then unless_kind (begun_kind whole.segments p statement) c else Err kinds.Range
in_place whole p statement None = Err kinds.Range

-- What a statement at these places puts into memory, or the first that is wrong with it in the order of the kinds: a name in it is
-- not defined, a number or a byte is out of range, or its segment meets another or is one too many. `whole` are the places behind
-- all lines.
abbrev pub statement_or_kind : Places → Places → Statement → Result Content AsmKind
statement_or_kind whole p statement =
    if is_known whole.names p statement then in_place whole p statement (statement_content whole.names p statement) else Err kinds.Unknown

-- the same of a line, which may have no statement
abbrev pub content_or_kind : Places → Places → Option Statement → Result Content AsmKind
content_or_kind whole p (Some statement) = statement_or_kind whole p statement
content_or_kind whole p None = Ok contents.Nothing

-- the same of a line at its place
abbrev pub content_of : Places → Placed → Result Content AsmKind
content_of whole x = content_or_kind whole x.at x.statement
