-- What stands where: the names, the segments and the addresses that lines make.
use Rattle.std.specs.Prelude.{ℕ, ◌+◌, List, [], ◌∷◌, ◌++◌, length, Bool, true, false, Option, Some, None, ℤ, pos}
use Rattle.asm_statements.specs.declared.expression.Term.{Term}
use Rattle.asm_statements.specs.declared.statement.Width.{Width}
use Rattle.asm_statements.specs.declared.statement.Width.TheVariants as widths
use Rattle.asm_statements.specs.declared.statement.Statement.{Statement}
use Rattle.asm_statements.specs.declared.statement.Statement.TheVariants as statements
use Rattle.asm_places.specs.Names.{defined}
use Rattle.asm_places.specs.Ranges.{in_range, base_of, space_of, padding_of}
use Rattle.asm_places.specs.Sums.{sum_of}
use Rattle.asm_places.specs.declared.sum.Sum.{Sum}
use Rattle.asm_places.specs.declared.places.SegmentLine.{SegmentLine}
use Rattle.asm_places.specs.declared.places.Places.{Places}

-- before the first line
abbrev pub no_places : Places
no_places = record { names = []; entry = None; zeros = 0; segments = [] }

abbrev pub end_of : SegmentLine → ℕ
end_of s = s.base + s.size

-- the address behind the last segment's bytes so far, where there is a segment
abbrev pub address_of : List SegmentLine → Option ℕ
address_of [] = None
address_of (s ∷ []) = Some (end_of s)
address_of (s ∷ t ∷ ss) = address_of (t ∷ ss)

abbrev pub address_or_zero : Option ℕ → ℕ
address_or_zero (Some at) = at
address_or_zero None = 0

-- the address of the next statement
abbrev pub here_of : Places → ℕ
here_of p = address_or_zero (address_of p.segments)

-- a number that is known and in range, or 0
abbrev pub if_known : Bool → Option ℕ → ℕ
if_known true (Some n) = n
if_known true None = 0
if_known false n = 0

abbrev pub value_if_known : Bool → Option ℤ → ℤ
value_if_known true (Some z) = z
value_if_known true None = pos 0
value_if_known false z = pos 0

-- the value of an .equ's expression, or 0 where it is refused
abbrev pub settled : Sum → ℤ
settled s = value_if_known s.is_known (in_range s.value)

-- a .seg's address, or 0 where it is refused
abbrev pub settled_base : Sum → ℕ
settled_base s = if_known s.is_known (base_of s.value)

-- how many zeros a .space has; 0 where it is refused
abbrev pub settled_space : ℕ → Sum → ℕ
settled_space zeros s = if_known s.is_known (space_of zeros s.value)

-- how many zeros an .align has; 0 where it is refused
abbrev pub settled_padding : ℕ → ℕ → Sum → ℕ
settled_padding zeros at s = if_known s.is_known (padding_of zeros at s.value)

abbrev pub width_size : Width → ℕ
width_size widths.Word = 4
width_size widths.Doubleword = 8
width_size widths.BigEndianDoubleword = 8

-- so many bytes more in the last segment
abbrev pub grown : ℕ → List SegmentLine → List SegmentLine
grown n [] = []
grown n (s ∷ []) = record { line = s.line; base = s.base; size = s.size + n } ∷ []
grown n (s ∷ t ∷ ss) = s ∷ grown n (t ∷ ss)

abbrev pub with_bytes : ℕ → Places → Places
with_bytes n p = record { names = p.names; entry = p.entry; zeros = p.zeros; segments = grown n p.segments }

-- so many zeros more
abbrev pub with_zeros : ℕ → Places → Places
with_zeros n p = record { names = p.names; entry = p.entry; zeros = p.zeros + n; segments = grown n p.segments }

abbrev pub with_name : List ℕ → ℤ → Places → Places
with_name name value p = record { names = p.names ++ defined name value ∷ []; entry = p.entry; zeros = p.zeros; segments = p.segments }

abbrev pub with_entry : List ℕ → Places → Places
with_entry name p = record { names = p.names; entry = Some name; zeros = p.zeros; segments = p.segments }

abbrev pub with_segment : ℕ → ℕ → Places → Places
with_segment line base p =
    record { names = p.names; entry = p.entry; zeros = p.zeros; segments = p.segments ++ record { line = line; base = base; size = 0 } ∷ [] }

-- what an expression is worth here, by the names so far
abbrev pub worth : Places → List Term → Sum
worth p ts = sum_of p.names (pos (here_of p)) ts

-- the statement of a line is added
abbrev pub after_statement : ℕ → Statement → Places → Places
after_statement line (statements.Seg e) p = with_segment line (settled_base (worth p e)) p
after_statement line (statements.Entry name) p = with_entry name p
after_statement line (statements.Equ name e) p = with_name name (settled (worth p e)) p
after_statement line (statements.Data width e) p = with_bytes (width_size width) p
after_statement line (statements.Ascii text) p = with_bytes (length text) p
after_statement line (statements.Space e) p = with_zeros (settled_space p.zeros (worth p e)) p
after_statement line (statements.Align e) p = with_zeros (settled_padding p.zeros (here_of p) (worth p e)) p
after_statement line (statements.Instruction mnemonic operands) p = with_bytes 4 p

-- a label's value is the address of what stands behind it
abbrev pub after_label : Option (List ℕ) → Places → Places
after_label (Some name) p = with_name name (pos (here_of p)) p
after_label None p = p

-- the statement of a line is added, where it has one
abbrev pub after_optional : ℕ → Option Statement → Places → Places
after_optional line (Some statement) p = after_statement line statement p
after_optional line None p = p
