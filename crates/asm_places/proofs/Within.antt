-- How great the numbers of the first pass are behind each line.
use Rattle.std.proofs.Common.{◌≡◌, ℕ, ◌+◌, ◌-◌, ◌<◌, ◌≤◌, ◌^◌, Bool, true, false, cond, List, [], ◌∷◌, ◌++◌, length, take, drop, Some, None, Ok, Err, Option, refl, ap, ◌∙◌, sym, subst, arith, true≢false, ℤ, pos, negsuc}
use Rattle.std.specs.Prelude.{◌&&◌, nat_le, nat_lt}
use Rattle.std.proofs.lemmas.Bool.{leb-true, ltb-true, ltb-false}
use Rattle.std.proofs.lemmas.Option.{none-some}
use Rattle.std.proofs.lemmas.List.{length-take-le, length-drop}
use Rattle.asm_statements.specs.declared.piece.Piece.{Piece}
use Rattle.asm_statements.specs.declared.statement.Width.{Width}
use Rattle.asm_statements.specs.declared.statement.Width.TheVariants as widths
use Rattle.asm_statements.specs.declared.statement.Statement.{Statement}
use Rattle.asm_statements.specs.declared.statement.Statement.TheVariants as statements
use Rattle.asm_statements.specs.declared.line.Line.{Line}
use Rattle.asm_statements.specs.Pieces.{line_pieces}
use Rattle.asm_statements.specs.Statements.{line_of}
use Rattle.asm_statements.proofs.Texts.{texts-short}
use Rattle.asm_places.specs.Lines.{lines_of}
use Rattle.asm_places.specs.Ranges.{most_zeros, base_of, space_of, padding_of, is_alignment, padding}
use Rattle.asm_places.specs.Places.{here_of, if_known, settled_base, settled_space, settled_padding, width_size, grown, with_bytes, with_zeros, worth, after_statement, after_label, after_optional}
use Rattle.asm_places.specs.FirstPass.{most_lines, first_pass, is_twice, lacks_segment, fault_of, Placed, at_place, placed_or_fault, placed_line, placed_pieces, placed, after_placed, and_next, after_lines}
use Rattle.asm_places.specs.Keeping.{HaveAtMost, most_size, IsWithin, IsRoomy}
use Rattle.asm_places.specs.declared.sum.Sum.{Sum}
use Rattle.asm_places.specs.declared.places.SegmentLine.{SegmentLine}
use Rattle.asm_places.specs.declared.places.Places.{Places}
use Rattle.asm_places.specs.declared.fault.AsmKind.{AsmKind}
use Rattle.asm_places.specs.declared.fault.AsmKind.TheVariants as kinds
use Rattle.asm_places.specs.declared.fault.AsmFault.{AsmFault}
use Rattle.asm_places.proofs.Room.{at_most, end_small}

-- settled numbers are in their ranges
base-small-of : (z : ℤ) (o : Option ℕ) → base_of z ≡ o → (b : Bool) → if_known b o < 2 ^ 64
base-small-of z o e false = omega arith
base-small-of z None e true = omega arith
base-small-of (pos n) (Some m) e true = fits (nat_lt n (2 ^ 64)) refl e
  where
    fits : (t : Bool) → nat_lt n (2 ^ 64) ≡ t → cond t (Some n) None ≡ Some m → m < 2 ^ 64
    fits true is same = let l = ltb-true n (2 ^ 64) is in let j : n ≡ m = cc in omega arith
    fits false is same = absurd (none-some m same)
base-small-of (negsuc n) (Some m) e true = absurd (none-some m e)

base-small : (s : Sum) → settled_base s < 2 ^ 64
base-small s = base-small-of s.value (base_of s.value) refl s.is_known

-- a number that is 0 where it is not known, and has room where it is there
if-known-most : (before : ℕ) (b : Bool) (o : Option ℕ) → before ≤ most_zeros → ((n : ℕ) → o ≡ Some n → before + n ≤ most_zeros) → before + if_known b o ≤ most_zeros
if-known-most before true (Some n) l h = h n refl
if-known-most before true None l h = omega arith
if-known-most before false o l h = omega arith

room-of : (t : Bool) (total m n : ℕ) → (t ≡ true → total ≤ most_zeros) → cond t (Some m) None ≡ Some n → (m ≡ n) × (total ≤ most_zeros)
room-of true total m n h e = (cc, h refl)
room-of false total m n h e = absurd (none-some n e)

space-room : (before : ℕ) (z : ℤ) (n : ℕ) → space_of before z ≡ Some n → before + n ≤ most_zeros
space-room before (pos m) n e =
    let both = room-of (nat_le (before + m) most_zeros) (before + m) m n (leb-true (before + m) most_zeros) e in
    let same = both.0 in
    let few = both.1 in
    omega arith
space-room before (negsuc m) n e = absurd (none-some n e)

and-right : (a b : Bool) → (a && b) ≡ true → b ≡ true
and-right true b e = e
and-right false b e = absurd (true≢false (sym e))

padding-room : (before at : ℕ) (z : ℤ) (n : ℕ) → padding_of before at z ≡ Some n → before + n ≤ most_zeros
padding-room before at (pos m) n e =
    let count = padding m at in
    let fits = nat_le (before + count) most_zeros in
    let both = room-of (is_alignment m && fits) (before + count) count n (λ t. leb-true (before + count) most_zeros (and-right (is_alignment m) fits t)) e in
    let same = both.0 in
    let few = both.1 in
    omega arith
padding-room before at (negsuc m) n e = absurd (none-some n e)

space-most : (before : ℕ) (s : Sum) → before ≤ most_zeros → before + settled_space before s ≤ most_zeros
space-most before s l = if-known-most before s.is_known (space_of before s.value) l (space-room before s.value)

padding-most : (before at : ℕ) (s : Sum) → before ≤ most_zeros → before + settled_padding before at s ≤ most_zeros
padding-most before at s l = if-known-most before s.is_known (padding_of before at s.value) l (padding-room before at s.value)

-- so many bytes more in the last segment
grown-most : (m n more : ℕ) (ss : List SegmentLine) → m + more ≤ n → HaveAtMost m ss → HaveAtMost n (grown more ss)
grown-most m n more [] e h = tt
grown-most m n more (s ∷ []) e h = (h.0, omega arith, tt)
grown-most m n more (s ∷ t ∷ ss) e h = (h.0, omega arith, grown-most m n more (t ∷ ss) e h.2)

-- one more segment without bytes
pushed-most : (m n : ℕ) (ss : List SegmentLine) (s : SegmentLine) → m ≤ n → s.base < 2 ^ 64 → s.size ≤ n → HaveAtMost m ss → HaveAtMost n (ss ++ s ∷ [])
pushed-most m n [] s e b l h = (b, l, tt)
pushed-most m n (x ∷ xs) s e b l h = (h.0, omega arith, pushed-most m n xs s e b l h.2)

width-most : (width : Width) → width_size width ≤ 8
width-most widths.Word = omega arith
width-most widths.Doubleword = omega arith
width-most widths.BigEndianDoubleword = omega arith

-- one more line, which adds at most eight bytes and its text, or zeros
wider : (m n a b : ℕ) (p : Places) → m ≤ n → a ≤ b → IsWithin m a p → IsWithin n b p
wider m n a b p l s w = record { zeros = w.zeros; sizes = at_most (most_size p.zeros m a) (most_size p.zeros n b) p.segments (omega arith) w.sizes }

with-bytes : (n a b more : ℕ) (p : Places) → more ≤ 8 + (b - a) → a ≤ b → IsWithin n a p → IsWithin (n + 1) b (with_bytes more p)
with-bytes n a b more p l s w =
    record { zeros = w.zeros; sizes = grown-most (most_size p.zeros n a) (most_size p.zeros (n + 1) b) more p.segments (omega arith) w.sizes }

with-zeros : (n a b more : ℕ) (p : Places) → p.zeros + more ≤ most_zeros → a ≤ b → IsWithin n a p → IsWithin (n + 1) b (with_zeros more p)
with-zeros n a b more p l s w =
    record { zeros = l; sizes = grown-most (most_size p.zeros n a) (most_size (p.zeros + more) (n + 1) b) more p.segments (omega arith) w.sizes }

labelled : (n a : ℕ) (label : Option (List ℕ)) (p : Places) → IsWithin n a p → IsWithin n a (after_label label p)
labelled n a (Some name) p w = record { zeros = w.zeros; sizes = w.sizes }
labelled n a None p w = w

abbrev TextFits : ℕ → Option Statement → Type 0
TextFits size o = (text : List ℕ) → o ≡ Some (statements.Ascii text) → length text ≤ size

stated : (n a size number : ℕ) (statement : Statement) (p : Places) → TextFits size (Some statement) → IsWithin n a p → IsWithin (n + 1) (a + size) (after_statement number statement p)
stated n a size number (statements.Seg e) p f w =
    record {
      zeros = w.zeros;
      sizes = pushed-most (most_size p.zeros n a) (most_size p.zeros (n + 1) (a + size)) p.segments
          (record { line = number; base = settled_base (worth p e); size = 0 }) (omega arith) (base-small (worth p e)) (omega arith) w.sizes;
    }
stated n a size number (statements.Entry name) p f w =
    let v = wider n (n + 1) a (a + size) p (omega arith) (omega arith) w in record { zeros = v.zeros; sizes = v.sizes }
stated n a size number (statements.Equ name e) p f w =
    let v = wider n (n + 1) a (a + size) p (omega arith) (omega arith) w in record { zeros = v.zeros; sizes = v.sizes }
stated n a size number (statements.Data width e) p f w =
    let l = width-most width in with-bytes n a (a + size) (width_size width) p (omega arith) (omega arith) w
stated n a size number (statements.Ascii text) p f w =
    let l : length text ≤ size = f text refl in with-bytes n a (a + size) (length text) p (omega arith) (omega arith) w
stated n a size number (statements.Space e) p f w =
    with-zeros n a (a + size) (settled_space p.zeros (worth p e)) p (space-most p.zeros (worth p e) w.zeros) (omega arith) w
stated n a size number (statements.Align e) p f w =
    with-zeros n a (a + size) (settled_padding p.zeros (here_of p) (worth p e)) p (padding-most p.zeros (here_of p) (worth p e) w.zeros) (omega arith) w
stated n a size number (statements.Instruction mnemonic operands) p f w = with-bytes n a (a + size) 4 p (omega arith) (omega arith) w

optional : (n a size number : ℕ) (o : Option Statement) (p : Places) → TextFits size o → IsWithin n a p → IsWithin (n + 1) (a + size) (after_optional number o p)
optional n a size number (Some statement) p f w = stated n a size number statement p f w
optional n a size number None p f w = wider n (n + 1) a (a + size) p (omega arith) (omega arith) w

-- what is known behind a line
record IsBehind (number bytes : ℕ) (p : Places) : Type 0 where
  few : number ≤ 65536
  within : IsWithin number bytes p

not-more : (a b c : Bool) → cond a (Some kinds.Twice) (cond b (Some kinds.NoSegment) (cond c (Some kinds.Lines) None)) ≡ None → c ≡ false
not-more true b c e = cc
not-more false true c e = cc
not-more false false true e = cc
not-more false false false e = refl

behind-good : (n a size : ℕ) (line : Line) (p : Places) (x : Placed) → TextFits size line.statement → IsWithin n a p → (kind : Option AsmKind) → fault_of (n + 1) p line ≡ kind
    → placed_or_fault (n + 1) p line kind ≡ Ok x → IsBehind (n + 1) (a + size) (after_placed x)
behind-good n a size line p x f w (Some kind) is e = let no : ⊥ = cc in absurd no
behind-good n a size line p x f w None is e =
    let same : at_place (n + 1) line.statement (after_label line.label p) ≡ x = cc in
    let line-within = optional n a size (n + 1) line.statement (after_label line.label p) f (labelled n a line.label p w) in
    record {
      few = ltb-false most_lines (n + 1) (not-more (is_twice p line) (lacks_segment p line) _ is);
      within = subst (λ y. IsWithin (n + 1) (a + size) (after_placed y)) same line-within;
    }

behind-line : (n a : ℕ) (bytes : List ℕ) (pieces : List Piece) (p : Places) (x : Placed) → IsWithin n a p → line_pieces bytes ≡ Some pieces → (o : Option Line) → line_of pieces ≡ o
    → placed_line (n + 1) p o ≡ Ok x → IsBehind (n + 1) (a + length bytes) (after_placed x)
behind-line n a bytes pieces p x w has (Some line) is e =
    behind-good n a (length bytes) line p x (λ text t. texts-short bytes text pieces line has is t) w (fault_of (n + 1) p line) refl e
behind-line n a bytes pieces p x w has None is e = let no : ⊥ = cc in absurd no

behind-pieces : (n a : ℕ) (bytes : List ℕ) (p : Places) (x : Placed) → IsWithin n a p → (o : Option (List Piece)) → line_pieces bytes ≡ o
    → placed_pieces (n + 1) p o ≡ Ok x → IsBehind (n + 1) (a + length bytes) (after_placed x)
behind-pieces n a bytes p x w (Some pieces) is e = behind-line n a bytes pieces p x w is (line_of pieces) refl e
behind-pieces n a bytes p x w None is e = let no : ⊥ = cc in absurd no

behind : (n a : ℕ) (bytes : List ℕ) (p : Places) (x : Placed) → IsWithin n a p → placed (n + 1) bytes p ≡ Ok x → IsBehind (n + 1) (a + length bytes) (after_placed x)
behind n a bytes p x w e = behind-pieces n a bytes p x w (line_pieces bytes) refl e

-- So many lines with the bytes before the rest of a source are added to these places.
pub record IsBefore (source rest : List ℕ) (number : ℕ) (p : Places) : Type 0 where
  pub few : number ≤ 65536
  pub shorter : length rest ≤ length source
  pub within : IsWithin number (length source - length rest) p

-- Then there is room for the next line.
pub room : (source rest : List ℕ) (n k : ℕ) (p : Places) → length source < 2 ^ 63 → k ≤ length rest → IsBefore source rest n p → IsRoomy (length (take k rest)) p
room source rest n k p small l a =
    let t = length-take-le k rest l in
    let few = a.few in
    let shorter = a.shorter in
    let zeros = a.within.zeros in
    record {
      zeros = zeros;
      sizes = at_most (most_size p.zeros n (length source - length rest)) (2 ^ 64 - 1 - most_zeros - 8 - length (take k rest)) p.segments (omega arith) a.within.sizes;
    }

-- And once that line is added, all lines before the rest behind it are.
pub before-next : (source rest : List ℕ) (n k : ℕ) (p : Places) (x : Placed) → k ≤ length rest → placed (n + 1) (take k rest) p ≡ Ok x
    → IsBefore source rest n p → IsBefore source (drop (k + 1) rest) (n + 1) (after_placed x)
before-next source rest n k p x l is a =
    let b = behind n (length source - length rest) (take k rest) p x a.within is in
    let t = length-take-le k rest l in
    let d = length-drop (k + 1) rest in
    let shorter = a.shorter in
    record {
      few = b.few;
      shorter = omega arith;
      within = wider (n + 1) (n + 1) (length source - length rest + length (take k rest)) (length source - length (drop (k + 1) rest)) (after_placed x) (omega arith) (omega arith) b.within;
    }

-- The lines before the rest of a source are added to these places, and the first pass is what the others then make.
pub record IsAlong (source rest : List ℕ) (number : ℕ) (p : Places) : Type 0 where
  pub whole : first_pass source ≡ after_lines (number + 1) (lines_of rest) p
  pub before : IsBefore source rest number p

pub along-line : (source rest : List ℕ) (n k : ℕ) (p : Places) (x : Placed) → k ≤ length rest → lines_of rest ≡ take k rest ∷ lines_of (drop (k + 1) rest)
    → placed (n + 1) (take k rest) p ≡ Ok x → IsAlong source rest n p → IsAlong source (drop (k + 1) rest) (n + 1) (after_placed x)
along-line source rest n k p x l lines is a =
    record {
      whole = a.whole ∙ ap (λ ls. after_lines (n + 1) ls p) lines ∙ ap (λ r. and_next r (λ y. after_lines (n + 1 + 1) (lines_of (drop (k + 1) rest)) (after_placed y))) is;
      before = before-next source rest n k p x l is a.before;
    }

-- The next line is wrong, and so is the source.
pub along-fault : (source rest : List ℕ) (n k : ℕ) (p : Places) (fault : AsmFault) → lines_of rest ≡ take k rest ∷ lines_of (drop (k + 1) rest)
    → placed (n + 1) (take k rest) p ≡ Err fault → IsAlong source rest n p → first_pass source ≡ Err fault
along-fault source rest n k p fault lines is a =
    a.whole ∙ ap (λ ls. after_lines (n + 1) ls p) lines ∙ ap (λ r. and_next r (λ y. after_lines (n + 1 + 1) (lines_of (drop (k + 1) rest)) (after_placed y))) is

-- At the statement of a line the segments and the zeros are those before the line.
pub record IsStill (p q : Places) : Type 0 where
  pub segments : q.segments ≡ p.segments
  pub zeros : q.zeros ≡ p.zeros

still-label : (label : Option (List ℕ)) (p : Places) → IsStill p (after_label label p)
still-label (Some name) p = record { segments = refl; zeros = refl }
still-label None p = record { segments = refl; zeros = refl }

still-good : (number : ℕ) (p : Places) (line : Line) (x : Placed) (kind : Option AsmKind) → placed_or_fault number p line kind ≡ Ok x → IsStill p x.at
still-good number p line x (Some kind) e = let no : ⊥ = cc in absurd no
still-good number p line x None e =
    let same : at_place number line.statement (after_label line.label p) ≡ x = cc in
    subst (λ y. IsStill p y.at) same (still-label line.label p)

still-line : (number : ℕ) (p : Places) (x : Placed) (o : Option Line) → placed_line number p o ≡ Ok x → IsStill p x.at
still-line number p x (Some line) e = still-good number p line x (fault_of number p line) e
still-line number p x None e = let no : ⊥ = cc in absurd no

still-pieces : (number : ℕ) (p : Places) (x : Placed) (o : Option (List Piece)) → placed_pieces number p o ≡ Ok x → IsStill p x.at
still-pieces number p x (Some pieces) e = still-line number p x (line_of pieces) e
still-pieces number p x None e = let no : ⊥ = cc in absurd no

pub still-placed : (number : ℕ) (bytes : List ℕ) (p : Places) (x : Placed) → placed number bytes p ≡ Ok x → IsStill p x.at
still-placed number bytes p x e = still-pieces number p x (line_pieces bytes) e

-- No address of the first pass reaches 2^65.
pub here-small : (source rest : List ℕ) (n : ℕ) (p : Places) → length source < 2 ^ 63 → IsBefore source rest n p → here_of p < 2 ^ 65
here-small source rest n p small b =
    let few = b.few in
    let zeros = b.within.zeros in
    end_small (most_size p.zeros n (length source - length rest)) p.segments (omega arith) b.within.sizes
