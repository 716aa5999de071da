-- Room for the bytes of a line.
use Rattle.std.proofs.Common.{◌≡◌, ℕ, ◌+◌, ◌-◌, ◌<◌, ◌≤◌, ◌^◌, Bool, true, false, cond, List, [], ◌∷◌, ◌++◌, length, Some, None, Option, refl, ap, sym, arith, true≢false}
use Rattle.std.specs.Prelude.{is_some, ◌||◌, nat_lt, ℤ, pos}
use Rattle.std.specs.Str.{bytes_eq}
use Rattle.std.proofs.lemmas.Option.{none-some}
use Rattle.asm_statements.specs.declared.statement.Width.{Width}
use Rattle.asm_statements.specs.declared.statement.Width.TheVariants as widths
use Rattle.asm_statements.specs.declared.statement.Statement.{Statement}
use Rattle.asm_statements.specs.declared.statement.Statement.TheVariants as statements
use Rattle.asm_statements.specs.declared.line.Line.{Line}
use Rattle.asm_statements.specs.declared.piece.Piece.{Piece}
use Rattle.asm_statements.specs.Pieces.{line_pieces}
use Rattle.asm_statements.specs.Statements.{line_of, line_with}
use Rattle.asm_statements.proofs.Texts.{texts-short}
use Rattle.asm_places.specs.declared.fault.AsmKind.TheVariants as kinds
use Rattle.asm_places.specs.Names.{Definition, defined, value_of, is_defined}
use Rattle.asm_places.specs.declared.places.SegmentLine.{SegmentLine}
use Rattle.asm_places.specs.declared.places.Places.{Places}
use Rattle.asm_places.specs.Ranges.{most_zeros}
use Rattle.asm_places.specs.Places.{address_of, address_or_zero, here_of, width_size, after_label}
use Rattle.asm_places.specs.FirstPass.{most_lines, is_same_name, defines_twice, repeats, is_twice, lacks_segment, fault_of}
use Rattle.asm_places.specs.Keeping.{HaveAtMost, text_size, IsNew, AddsTo, AddsOptional, IsRoomy}

-- fewer bytes than some are no more than others
pub at_most : (m n : ℕ) (ss : List SegmentLine) → m ≤ n → HaveAtMost m ss → HaveAtMost n ss
at_most m n [] e h = tt
at_most m n (s ∷ ss) e h = (h.0, (let l : s.size ≤ m = h.1 in omega arith), at_most m n ss e h.2)

-- a number has at most eight bytes
pub width_few : (width : Width) → width_size width ≤ 8
width_few widths.Word = omega arith
width_few widths.Doubleword = omega arith
width_few widths.BigEndianDoubleword = omega arith

-- the address behind a segment of fewer than 2 ^ 64 bytes is below 2 ^ 65
pub end_small : (m : ℕ) (ss : List SegmentLine) → m < 2 ^ 64 → HaveAtMost m ss → address_or_zero (address_of ss) < 2 ^ 65
end_small m [] e h = omega arith
end_small m (s ∷ []) e h = let l : s.size ≤ m = h.1 in let b : s.base < 2 ^ 64 = h.0 in omega arith
end_small m (s ∷ t ∷ ss) e h = end_small m (t ∷ ss) e h.2

false-or : (a b : Bool) → (a || b) ≡ false → (a ≡ false) × (b ≡ false)
false-or true b e = absurd (true≢false e)
false-or false b e = (refl, e)

-- a name that is defined neither in some names nor by one more
not-among : (ds : List Definition) (name label : List ℕ) (value : ℤ) → is_defined ds name ≡ false → bytes_eq label name ≡ false → is_defined (ds ++ defined label value ∷ []) name ≡ false
not-among [] name label value e n = ap (λ b. is_some (cond b (Some value) None)) n
not-among (d ∷ ds) name label value e n = cases (not-among ds name label value) (bytes_eq d.name name) e
  where
    cases : (is_defined ds name ≡ false → bytes_eq label name ≡ false → is_defined (ds ++ defined label value ∷ []) name ≡ false) → (same : Bool) →
        is_some (cond same (Some d.value) (value_of ds name)) ≡ false → is_some (cond same (Some d.value) (value_of (ds ++ defined label value ∷ []) name)) ≡ false
    cases rest true e = absurd (true≢false e)
    cases rest false e = rest e n

-- behind its label a statement's name is still new
new-behind : (label : Option (List ℕ)) (statement : Statement) (p : Places) → repeats label (Some statement) p ≡ false → IsNew statement (after_label label p)
new-behind None (statements.Equ name e) p h = (false-or (is_defined p.names name) (is_same_name None name) h).0
new-behind (Some l) (statements.Equ name e) p h =
    let parts = false-or (is_defined p.names name) (is_same_name (Some l) name) h in
    not-among p.names name l (pos (here_of p)) parts.0 parts.1
new-behind label (statements.Seg e) p h = tt
new-behind label (statements.Entry name) p h = tt
new-behind label (statements.Data width e) p h = tt
new-behind label (statements.Ascii text) p h = tt
new-behind label (statements.Space e) p h = tt
new-behind label (statements.Align e) p h = tt
new-behind label (statements.Instruction mnemonic operands) p h = tt

-- behind its label a statement can be added
adds-behind : (label : Option (List ℕ)) (statement : Statement) (p : Places) → p.zeros ≤ most_zeros → HaveAtMost (2 ^ 64 - 1 - most_zeros - text_size statement) p.segments
    → is_twice p (line_with label (Some statement)) ≡ false → AddsTo statement (after_label label p)
adds-behind None statement p zeros sizes once =
    record { zeros = zeros; sizes = sizes; new = new-behind None statement p (false-or (defines_twice None p) (repeats None (Some statement) p) once).1 }
adds-behind (Some l) statement p zeros sizes once =
    record { zeros = zeros; sizes = sizes; new = new-behind (Some l) statement p (false-or (defines_twice (Some l) p) (repeats (Some l) (Some statement) p) once).1 }

-- a line without a fault defines nothing twice
pub once : (number : ℕ) (p : Places) (line : Line) → fault_of number p line ≡ None → is_twice p line ≡ false
once number p line e = cases (is_twice p line) (lacks_segment p line) (nat_lt most_lines number) e
  where
    cases : (twice lacks many : Bool) → cond twice (Some kinds.Twice) (cond lacks (Some kinds.NoSegment) (cond many (Some kinds.Lines) None)) ≡ None → twice ≡ false
    cases true lacks many e = absurd (none-some kinds.Twice (sym e))
    cases false lacks many e = refl

-- a statement with a text no longer than its line adds at most eight bytes more than these
size-short : (n : ℕ) (statement : Statement) → ((text : List ℕ) → Some statement ≡ Some (statements.Ascii text) → length text ≤ n) → text_size statement ≤ 8 + n
size-short n (statements.Ascii text) short = let e : length text ≤ n = short text refl in omega arith
size-short n (statements.Equ name e) short = omega arith
size-short n (statements.Seg e) short = omega arith
size-short n (statements.Entry name) short = omega arith
size-short n (statements.Data width e) short = omega arith
size-short n (statements.Space e) short = omega arith
size-short n (statements.Align e) short = omega arith
size-short n (statements.Instruction mnemonic operands) short = omega arith

-- the statement of a line without a fault can be added behind the line's label where there is room for the line's bytes
can-add : (number n : ℕ) (label : Option (List ℕ)) (o : Option Statement) (p : Places) → IsRoomy n p
    → ((text : List ℕ) → o ≡ Some (statements.Ascii text) → length text ≤ n) → is_twice p (line_with label o) ≡ false → AddsOptional o (after_label label p)
can-add number n label None p roomy short once = tt
can-add number n label (Some statement) p roomy short once =
    let size = size-short n statement short in
    adds-behind label statement p roomy.zeros (at_most (2 ^ 64 - 1 - most_zeros - 8 - n) (2 ^ 64 - 1 - most_zeros - text_size statement) p.segments (omega arith) roomy.sizes) once

pub line-adds : (number : ℕ) (bytes : List ℕ) (pieces : List Piece) (line : Line) (p : Places) → IsRoomy (length bytes) p → line_pieces bytes ≡ Some pieces → line_of pieces ≡ Some line
    → fault_of number p line ≡ None → AddsOptional line.statement (after_label line.label p)
line-adds number bytes pieces line p roomy has is good =
    can-add number (length bytes) line.label line.statement p roomy (λ text. texts-short bytes text pieces line has is) (once number p line good)

-- and its label is not defined yet
pub label-new : (number : ℕ) (line : Line) (p : Places) → fault_of number p line ≡ None → defines_twice line.label p ≡ false
label-new number line p good = (false-or (defines_twice line.label p) (repeats line.label line.statement p) (once number p line good)).0
