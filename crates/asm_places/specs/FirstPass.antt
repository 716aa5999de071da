-- The first pass: the places that the lines of a source make, or the first line that is wrong by itself or by those before it.
use Rattle.std.specs.Prelude.{◌≡◌, ℕ, ◌+◌, List, [], ◌∷◌, Bool, true, false, ◌&&◌, ◌||◌, Option, Some, None, is_some, Result, Ok, Err, nat_lt, if◌then◌else◌}
use Rattle.std.specs.Str.{bytes_eq}
use Rattle.asm_statements.specs.declared.piece.Piece.{Piece}
use Rattle.asm_statements.specs.declared.statement.Statement.{Statement}
use Rattle.asm_statements.specs.declared.statement.Statement.TheVariants as statements
use Rattle.asm_statements.specs.declared.line.Line.{Line}
use Rattle.asm_statements.specs.Pieces.{line_pieces}
use Rattle.asm_statements.specs.Statements.{line_of}
use Rattle.asm_places.specs.Names.{is_defined}
use Rattle.asm_places.specs.Sums.{uses_here}
use Rattle.asm_places.specs.Lines.{lines_of}
use Rattle.asm_places.specs.Places.{no_places, after_label, after_optional}
use Rattle.asm_places.specs.declared.places.SegmentLine.{SegmentLine}
use Rattle.asm_places.specs.declared.places.Places.{Places}
use Rattle.asm_places.specs.declared.fault.AsmKind.{AsmKind}
use Rattle.asm_places.specs.declared.fault.AsmKind.TheVariants as kinds
use Rattle.asm_places.specs.declared.fault.AsmFault.{AsmFault}
use Rattle.asm_places.specs.declared.fault.AsmFault.TheVariants as faults

-- the most lines of a source
abbrev pub most_lines : ℕ
most_lines = 65536

abbrev pub is_same_name : Option (List ℕ) → List ℕ → Bool
is_same_name (Some label) name = bytes_eq label name
is_same_name None name = false

abbrev pub defines_twice : Option (List ℕ) → Places → Bool
defines_twice (Some name) p = is_defined p.names name
defines_twice None p = false

-- a statement defines a name again, or is a second .entry
abbrev pub repeats : Option (List ℕ) → Option Statement → Places → Bool
repeats label (Some (statements.Equ name e)) p = is_defined p.names name || is_same_name label name
repeats label (Some (statements.Entry name)) p = is_some p.entry
repeats label statement p = false

-- a name is defined twice, or a second .entry stands there
abbrev pub is_twice : Places → Line → Bool
is_twice p line = defines_twice line.label p || repeats line.label line.statement p

-- a statement needs a segment before it: its bytes or zeros stand there, even if there are none, or it uses its address
abbrev pub needs_segment : Option Statement → Bool
needs_segment None = false
needs_segment (Some (statements.Seg e)) = uses_here e
needs_segment (Some (statements.Entry name)) = false
needs_segment (Some (statements.Equ name e)) = uses_here e
needs_segment (Some statement) = true

abbrev pub has_none : List SegmentLine → Bool
has_none [] = true
has_none (s ∷ ss) = false

-- a label or a statement needs a segment, and there is none yet
abbrev pub lacks_segment : Places → Line → Bool
lacks_segment p line = has_none p.segments && (is_some line.label || needs_segment line.statement)

-- the first fault of a line that is one of the language, in the order of the kinds
abbrev pub fault_of : ℕ → Places → Line → Option AsmKind
fault_of number p line =
    if is_twice p line then Some kinds.Twice
    else if lacks_segment p line then Some kinds.NoSegment
    else if nat_lt most_lines number then Some kinds.Lines
    else None

abbrev pub fault_at : ℕ → AsmKind → AsmFault
fault_at number kind = faults.At number kind

-- a line at its place: its number, its statement, and the places at the statement, where the line's label is defined
pub record Placed : Type 0 where
  pub number : ℕ
  pub statement : Option Statement
  pub at : Places

abbrev pub at_place : ℕ → Option Statement → Places → Placed
at_place number statement p = record { number = number; statement = statement; at = p }

abbrev pub placed_or_fault : ℕ → Places → Line → Option AsmKind → Result Placed AsmFault
placed_or_fault number p line (Some kind) = Err (fault_at number kind)
placed_or_fault number p line None = Ok (at_place number line.statement (after_label line.label p))

abbrev pub placed_line : ℕ → Places → Option Line → Result Placed AsmFault
placed_line number p (Some line) = placed_or_fault number p line (fault_of number p line)
placed_line number p None = Err (fault_at number kinds.Form)

abbrev pub placed_pieces : ℕ → Places → Option (List Piece) → Result Placed AsmFault
placed_pieces number p (Some pieces) = placed_line number p (line_of pieces)
placed_pieces number p None = Err (fault_at number kinds.Lex)

-- a line of this number behind these places at its place, or its first fault
abbrev pub placed : ℕ → List ℕ → Places → Result Placed AsmFault
placed number line p = placed_pieces number p (line_pieces line)

-- the places behind a line
abbrev pub after_placed : Placed → Places
after_placed x = after_optional x.number x.statement x.at

abbrev pub and_next : Result Placed AsmFault → (Placed → Result Places AsmFault) → Result Places AsmFault
and_next (Ok x) next = next x
and_next (Err fault) next = Err fault

-- the places behind lines, of which the first has this number; or the fault of the first wrong line
abbrev pub after_lines : ℕ → List (List ℕ) → Places → Result Places AsmFault
after_lines number [] p = Ok p
after_lines number (line ∷ lines) p = and_next (placed number line p) (λ x. after_lines (number + 1) lines (after_placed x))

-- the first pass over a source
abbrev pub first_pass : List ℕ → Result Places AsmFault
first_pass source = after_lines 1 (lines_of source) no_places

-- What the first pass answers. That memory ran out says nothing of the source.
abbrev pub Passes : List ℕ → Result Places AsmFault → Type 0
Passes source (Err faults.Memory) = Unit {0}
Passes source result = result ≡ first_pass source

-- What placing a line of a number answers, and the places that it leaves.
abbrev pub PlacesLine : ℕ → List ℕ → Places → Places → Result (Option Statement) AsmFault → Type 0
PlacesLine number line old new (Ok statement) = placed number line old ≡ Ok (at_place number statement new)
PlacesLine number line old new (Err faults.Memory) = Unit {0}
PlacesLine number line old new (Err (faults.At at kind)) = placed number line old ≡ Err (faults.At at kind)
