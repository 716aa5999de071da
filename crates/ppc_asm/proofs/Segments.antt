-- How many segments a source has.
use Rattle.std.proofs.Common.{◌≡◌, ℕ, ◌+◌, ◌≤◌, Bool, true, false, cond, List, [], ◌∷◌, length, Option, Some, None, Result, Ok, Err, refl, ap, sym, arith, true≢false}
use Rattle.std.specs.Prelude.{nat_le}
use Rattle.std.proofs.lemmas.Bool.{leb-false}
use Rattle.std.proofs.lemmas.Option.{none-some}
use Rattle.std.proofs.lemmas.List.{length-append, length-map}
use Rattle.elf_image.specs.Parts.{SegmentParts, ImageParts, segment_parts, image_parts}
use Rattle.elf_image.specs.declared.image.Image.{Image}
use Rattle.asm_statements.specs.declared.statement.Statement.{Statement}
use Rattle.asm_statements.specs.declared.statement.Statement.TheVariants as statements
use Rattle.asm_places.specs.Lines.{lines_of}
use Rattle.asm_places.specs.Places.{no_places, grown, width_size, worth, here_of, settled_base, settled_space, settled_padding, after_statement, after_optional}
use Rattle.asm_places.specs.FirstPass.{Placed, placed, after_placed, fault_at, first_pass}
use Rattle.asm_places.specs.declared.places.SegmentLine.{SegmentLine}
use Rattle.asm_places.specs.declared.places.Places.{Places}
use Rattle.asm_places.specs.declared.fault.AsmKind.{AsmKind}
use Rattle.asm_places.specs.declared.fault.AsmKind.TheVariants as kinds
use Rattle.asm_places.specs.declared.fault.AsmFault.{AsmFault}
use Rattle.asm_places.proofs.Within.{still-placed}
use Rattle.asm_contents.specs.declared.content.Content.{Content}
use Rattle.asm_contents.specs.Contents.{overlaps, most_segments, content_or_kind, content_of}
use Rattle.ppc_asm.specs.Images.{and_placed, placed_lines, begun_by, begun_at, front, where_begun, segments_of, fault_or, first_fault, entry_in, has_bytes, image_with, unless_fault, second_pass, and_second, IsSource}
use Rattle.ppc_asm.proofs.Sizes.{stands}

-- more bytes in the last segment are no segment more
grown-count : (n : ℕ) (ss : List SegmentLine) → length (grown n ss) ≡ length ss
grown-count n [] = refl
grown-count n (s ∷ []) = refl
grown-count n (s ∷ t ∷ ss) = let same = grown-count n (t ∷ ss) in omega arith

-- a segment that is not refused has fewer than 64 before it
few-before : (a b : Bool) (i : ℕ) → nat_le most_segments i ≡ b → cond a (Some kinds.Overlap) (cond b (Some kinds.Segments) None) ≡ None → i + 1 ≤ 64
few-before true b i is e = absurd (none-some kinds.Overlap (sym e))
few-before false true i is e = absurd (none-some kinds.Segments (sym e))
few-before false false i is e = let l = leb-false most_segments i is in omega arith

-- how many segments there are behind a line: one more where the line begins one, and then they are not too many
abbrev Counts : Option ℕ → ℕ → ℕ → Type 0
Counts (Some base) before after = (after ≡ before + 1) × (after ≤ 64)
Counts None before after = after ≡ before

counts-statement : (number : ℕ) (whole p : Places) (statement : Statement) (c : Content) → content_or_kind whole p (Some statement) ≡ Ok c
    → Counts (begun_by (Some statement) p) (length p.segments) (length (after_statement number statement p).segments)
counts-statement number whole p (statements.Seg e) c is =
    let one = length-append p.segments (record { line = number; base = settled_base (worth p e); size = 0 } ∷ []) in
    let few = few-before (overlaps whole.segments (length p.segments)) (nat_le most_segments (length p.segments)) (length p.segments) refl (stands whole p (statements.Seg e) c is).begun in
    (one, omega arith)
counts-statement number whole p (statements.Entry name) c is = refl
counts-statement number whole p (statements.Equ name e) c is = refl
counts-statement number whole p (statements.Data width e) c is = grown-count (width_size width) p.segments
counts-statement number whole p (statements.Ascii text) c is = grown-count (length text) p.segments
counts-statement number whole p (statements.Space e) c is = grown-count (settled_space p.zeros (worth p e)) p.segments
counts-statement number whole p (statements.Align e) c is = grown-count (settled_padding p.zeros (here_of p) (worth p e)) p.segments
counts-statement number whole p (statements.Instruction mnemonic operands) c is = grown-count 4 p.segments

counts-optional : (number : ℕ) (whole p : Places) (o : Option Statement) (c : Content) → content_or_kind whole p o ≡ Ok c
    → Counts (begun_by o p) (length p.segments) (length (after_optional number o p).segments)
counts-optional number whole p (Some statement) c is = counts-statement number whole p statement c is
counts-optional number whole p None c is = refl

-- the segments before a line, with those of the line and of all behind it
counts-joined : (begun : Option ℕ) (before after : ℕ) (bytes : List ℕ) (ss : List SegmentParts) → before ≤ 64 → Counts begun before after → (after ≤ 64 → after + length ss ≤ 64)
    → before + length (where_begun begun bytes ss) ≤ 64
counts-joined (Some base) before after bytes ss l counts next = let one = counts.0 in let most = next counts.1 in omega arith
counts-joined None before after bytes ss l counts next = let most = next (omega arith) in omega arith

-- lines without a fault begin at most 64 segments, with those before them
abbrev AreFew : Places → ℕ → List (List ℕ) → Places → Type 0
AreFew whole number lines p =
    length p.segments ≤ 64 → first_fault whole (placed_lines number lines p) ≡ None → length p.segments + length (segments_of whole (placed_lines number lines p)) ≤ 64

few-segments : (whole : Places) (number : ℕ) (lines : List (List ℕ)) (p : Places) → AreFew whole number lines p
few-segments whole number [] p l e = omega arith
few-segments whole number (line ∷ lines) p l e = by (placed number line p) refl e (λ q. few-segments whole (number + 1) lines q)
  where
    next : Placed → List Placed
    next x = placed_lines (number + 1) lines (after_placed x)

    good : (x : Placed) (r : Result Content AsmKind) → content_of whole x ≡ r → x.at.segments ≡ p.segments → fault_or x.number r (first_fault whole (next x)) ≡ None
        → ((q : Places) → AreFew whole (number + 1) lines q) → length p.segments + length (where_begun (begun_at x) (front whole (next x)) (segments_of whole (next x))) ≤ 64
    good x (Ok c) is still none rest =
        let same : length x.at.segments ≡ length p.segments = ap length still in
        let most = counts-joined (begun_at x) (length x.at.segments) (length (after_placed x).segments) (front whole (next x)) (segments_of whole (next x)) (omega arith)
        (counts-optional x.number whole x.at x.statement c is) (λ few. rest (after_placed x) few none) in
        omega arith
    good x (Err kind) is still none rest = absurd (none-some (fault_at x.number kind) (sym none))

    by : (r : Result Placed AsmFault) → placed number line p ≡ r → first_fault whole (and_placed r next) ≡ None
        → ((q : Places) → AreFew whole (number + 1) lines q) → length p.segments + length (segments_of whole (and_placed r next)) ≤ 64
    by (Ok x) is none rest = good x (content_of whole x) refl (still-placed number line p x is).segments none rest
    by (Err fault) is none rest = omega arith

-- where a segment has a byte, there is one
some-segment : (ss : List SegmentParts) → has_bytes ss ≡ true → 1 ≤ length ss
some-segment [] e = absurd (true≢false (sym e))
some-segment (s ∷ ss) e = omega arith

-- an image is made only where no line has a fault, of segments of which one has a byte
record IsMade (fault : Option AsmFault) (ss : List SegmentParts) (image : ImageParts) : Type 0 where
  good : fault ≡ None
  bytes : has_bytes ss ≡ true
  same : image.segments ≡ ss

made-with : (entry : Option ℕ) (ss : List SegmentParts) (image : ImageParts) → image_with entry ss ≡ Ok image → IsMade None ss image
made-with (Some entry) ss image e = of (has_bytes ss) refl e
  where
    of : (b : Bool) → has_bytes ss ≡ b → cond b (Ok (record { entry = entry; segments = ss })) (Err (fault_at 0 kinds.Empty)) ≡ Ok image → IsMade None ss image
    of true is same = let j : record { entry = entry; segments = ss } ≡ image = cc in record { good = refl; bytes = is; same = ap (λ i. i.segments) (sym j) }
    of false is same = let no : ⊥ = cc in absurd no
made-with None ss image e = let no : ⊥ = cc in absurd no

made-unless : (fault : Option AsmFault) (whole : Places) (ss : List SegmentParts) (image : ImageParts) → unless_fault fault whole ss ≡ Ok image → IsMade fault ss image
made-unless (Some fault) whole ss image e = let no : ⊥ = cc in absurd no
made-unless None whole ss image e = made-with (entry_in whole.names whole.entry) ss image e

abbrev HasSegments : ℕ → Type 0
HasSegments n = (1 ≤ n) × (n ≤ 64)

made-segments : (whole : Places) (lines : List (List ℕ)) (image : ImageParts) → second_pass (placed_lines 1 lines no_places) whole ≡ Ok image → HasSegments (length image.segments)
made-segments whole lines image e =
    let xs = placed_lines 1 lines no_places in
    let made = made-unless (first_fault whole xs) whole (segments_of whole xs) image e in
    let same = ap length made.same in
    let some = some-segment (segments_of whole xs) made.bytes in
    let few : 0 + length (segments_of whole xs) ≤ 64 = few-segments whole 1 lines no_places (omega arith) made.good in
    (omega arith, omega arith)

passed-segments : (lines : List (List ℕ)) (image : ImageParts) (r : Result Places AsmFault) → and_second r (second_pass (placed_lines 1 lines no_places)) ≡ Ok image → HasSegments (length image.segments)
passed-segments lines image (Ok whole) e = made-segments whole lines image e
passed-segments lines image (Err fault) e = let no : ⊥ = cc in absurd no

pub sources-have-segments : (source : List ℕ) (image : Image) → IsSource source image → (1 ≤ length image.segments) × (length image.segments ≤ 64)
sources-have-segments source image e =
    let has = passed-segments (lines_of source) (image_parts image) (first_pass source) e in
    let some = has.0 in
    let few = has.1 in
    let same = length-map image.segments segment_parts in
    (omega arith, omega arith)
