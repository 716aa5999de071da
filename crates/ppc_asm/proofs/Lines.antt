-- Segments that are filled line by line.
use Rattle.std.proofs.Common.{◌≡◌, ℕ, ◌+◌, ◌≤◌, ◌<◌, ◌^◌, List, [], ◌∷◌, ◌++◌, length, take, drop, Some, None, Ok, Err, Option, refl, ap, ◌∙◌, sym, subst, arith}
use Rattle.std.specs.Prelude.{option_map}
use Rattle.std.proofs.lemmas.List.{append_assoc, append-nil}
use Rattle.elf_image.specs.Parts.{SegmentParts}
use Rattle.asm_places.specs.Lines.{lines_of}
use Rattle.asm_places.specs.Ranges.{most_zeros}
use Rattle.asm_places.specs.Places.{no_places, address_of, address_or_zero, here_of}
use Rattle.asm_places.specs.FirstPass.{Placed, placed, after_placed, fault_at, and_next, after_lines, first_pass}
use Rattle.asm_places.specs.declared.places.Places.{Places}
use Rattle.asm_places.specs.declared.fault.AsmKind.{AsmKind}
use Rattle.asm_places.specs.declared.fault.AsmFault.{AsmFault}
use Rattle.asm_places.proofs.Within.{IsBefore, before-next, still-placed, here-small}
use Rattle.asm_contents.specs.Contents.{content_of}
use Rattle.ppc_asm.specs.Images.{and_placed, placed_lines, line_bytes, begun_at, unless_begun, front, segment_at, where_begun, segments_of, fault_or, first_fault}
use Rattle.ppc_asm.specs.Filling.{Part, Filled, no_segments, closed, with_last, longer, filled_by, with_line, EndsAlike, IsGood}
use Rattle.ppc_asm.proofs.Sizes.{ends-behind}

-- the segment that is being filled with more bytes, before others
abbrev joined : Option Part → List ℕ → List SegmentParts → List SegmentParts
joined (Some o) bytes ss = segment_at o.base (o.bytes ++ bytes) ∷ ss
joined None bytes ss = ss

joined-line : (f : Filled) (begun : Option ℕ) (bytes more : List ℕ) (ss : List SegmentParts)
    → f.finished ++ joined f.last (unless_begun begun (bytes ++ more)) (where_begun begun more ss) ≡ (filled_by begun bytes f).finished ++ joined (filled_by begun bytes f).last more ss
joined-line f (Some base) bytes more ss = of f.last
  where
    of : (o : Option Part) → f.finished ++ joined o [] (segment_at base more ∷ ss) ≡ with_last f.finished o ++ segment_at base more ∷ ss
    of (Some o) = ap (λ b. f.finished ++ segment_at o.base b ∷ segment_at base more ∷ ss) (append-nil o.bytes) ∙ sym (append_assoc f.finished (segment_at o.base o.bytes ∷ []) (segment_at base more ∷ ss))
    of None = refl
joined-line f None bytes more ss = of f.last
  where
    of : (o : Option Part) → f.finished ++ joined o (bytes ++ more) ss ≡ f.finished ++ joined (option_map (longer bytes) o) more ss
    of (Some o) = ap (λ b. f.finished ++ segment_at o.base b ∷ ss) (sym (append_assoc o.bytes bytes more))
    of None = refl

joined-end : (f : Filled) → f.finished ++ joined f.last [] [] ≡ closed f
joined-end f = of f.last
  where
    of : (o : Option Part) → f.finished ++ joined o [] [] ≡ with_last f.finished o
    of (Some o) = ap (λ b. f.finished ++ segment_at o.base b ∷ []) (append-nil o.bytes)
    of None = append-nil f.finished

-- all lines of a source at their places
abbrev all_placed : List ℕ → List Placed
all_placed source = placed_lines 1 (lines_of source) no_places

-- The lines before the rest of a source are good, and their bytes stand in these segments.
pub record IsFilled (source rest : List ℕ) (whole p : Places) (number : ℕ) (f : Filled) : Type 0 where
  pub before : IsBefore source rest number p
  pub passes : after_lines (number + 1) (lines_of rest) p ≡ Ok whole
  pub faults : first_fault whole (all_placed source) ≡ first_fault whole (placed_lines (number + 1) (lines_of rest) p)
  pub segments : segments_of whole (all_placed source) ≡ f.finished ++ joined f.last (front whole (placed_lines (number + 1) (lines_of rest) p)) (segments_of whole (placed_lines (number + 1) (lines_of rest) p))
  pub ends : EndsAlike p.segments f.last

pub filled-start : (source : List ℕ) (whole : Places) → first_pass source ≡ Ok whole → IsFilled source source whole no_places 0 no_segments
filled-start source whole e = record {
  before = record { few = omega arith; shorter = omega arith; within = record { zeros = omega arith; sizes = tt } };
  passes = e;
  faults = refl;
  segments = refl;
  ends = refl;
}

-- the lines from one on, which has its place
lines-from : (n : ℕ) (line rest behind : List ℕ) (p : Places) (x : Placed) → lines_of rest ≡ line ∷ lines_of behind → placed n line p ≡ Ok x
    → placed_lines n (lines_of rest) p ≡ x ∷ placed_lines (n + 1) (lines_of behind) (after_placed x)
lines-from n line rest behind p x lines is =
    ap (λ ls. placed_lines n ls p) lines ∙ ap (λ r. and_placed r (λ y. placed_lines (n + 1) (lines_of behind) (after_placed y))) is

pub filled-next : (source rest : List ℕ) (whole p : Places) (n k : ℕ) (x : Placed) (f : Filled) → k ≤ length rest → lines_of rest ≡ take k rest ∷ lines_of (drop (k + 1) rest)
    → placed (n + 1) (take k rest) p ≡ Ok x → IsGood whole x → IsFilled source rest whole p n f → IsFilled source (drop (k + 1) rest) whole (after_placed x) (n + 1) (with_line whole x f)
filled-next source rest whole p n k x f l lines is good a =
    let behind = drop (k + 1) rest in
    let xs = placed_lines (n + 1 + 1) (lines_of behind) (after_placed x) in
    let from = lines-from (n + 1) (take k rest) rest behind p x lines is in
    let still = still-placed (n + 1) (take k rest) p x is in
    record {
      before = before-next source rest n k p x l is a.before;
      passes = sym (ap (λ ls. after_lines (n + 1) ls p) lines ∙ ap (λ r. and_next r (λ y. after_lines (n + 1 + 1) (lines_of behind) (after_placed y))) is) ∙ a.passes;
      faults = a.faults ∙ ap (first_fault whole) from ∙ ap (λ r. fault_or x.number r (first_fault whole xs)) good.is;
      segments = a.segments ∙ ap (λ ls. f.finished ++ joined f.last (front whole ls) (segments_of whole ls)) from
          ∙ joined-line f (begun_at x) (line_bytes whole x) (front whole xs) (segments_of whole xs);
      ends = ends-behind whole x f good (subst (λ ss. EndsAlike ss f.last) (sym still.segments) a.ends);
    }

-- a line that cannot be placed would have been found by the first pass
pub never-misplaced : (source rest : List ℕ) (whole p : Places) (n k : ℕ) (f : Filled) (fault : AsmFault) → lines_of rest ≡ take k rest ∷ lines_of (drop (k + 1) rest)
    → placed (n + 1) (take k rest) p ≡ Err fault → IsFilled source rest whole p n f → ⊥
never-misplaced source rest whole p n k f fault lines is a =
    let e = sym (ap (λ ls. after_lines (n + 1) ls p) lines ∙ ap (λ r. and_next r (λ y. after_lines (n + 1 + 1) (lines_of (drop (k + 1) rest)) (after_placed y))) is) ∙ a.passes in
    cc

-- the first line that is wrong
pub filled-fault : (source rest : List ℕ) (whole p : Places) (n k : ℕ) (x : Placed) (f : Filled) (kind : AsmKind) → lines_of rest ≡ take k rest ∷ lines_of (drop (k + 1) rest)
    → placed (n + 1) (take k rest) p ≡ Ok x → content_of whole x ≡ Err kind → IsFilled source rest whole p n f → first_fault whole (all_placed source) ≡ Some (fault_at x.number kind)
filled-fault source rest whole p n k x f kind lines is wrong a =
    let xs = placed_lines (n + 1 + 1) (lines_of (drop (k + 1) rest)) (after_placed x) in
    a.faults ∙ ap (first_fault whole) (lines-from (n + 1) (take k rest) rest (drop (k + 1) rest) p x lines is) ∙ ap (λ r. fault_or x.number r (first_fault whole xs)) wrong

-- at the end
pub filled-end : (source : List ℕ) (whole p : Places) (n : ℕ) (f : Filled) → IsFilled source [] whole p n f
    → (first_fault whole (all_placed source) ≡ None) × (closed f ≡ segments_of whole (all_placed source))
filled-end source whole p n f a = (a.faults, sym (a.segments ∙ joined-end f))

-- What the next line finds at its place.
pub ends-at : (source rest : List ℕ) (whole p : Places) (n k : ℕ) (x : Placed) (f : Filled) → placed (n + 1) (take k rest) p ≡ Ok x → IsFilled source rest whole p n f → EndsAlike x.at.segments f.last
ends-at source rest whole p n k x f is a = subst (λ ss. EndsAlike ss f.last) (sym (still-placed (n + 1) (take k rest) p x is).segments) a.ends

pub here-at : (source rest : List ℕ) (whole p : Places) (n k : ℕ) (x : Placed) (f : Filled) → length source < 2 ^ 63 → placed (n + 1) (take k rest) p ≡ Ok x → IsFilled source rest whole p n f → here_of x.at < 2 ^ 65
here-at source rest whole p n k x f small is a =
    subst (λ ss. address_or_zero (address_of ss) < 2 ^ 65) (sym (still-placed (n + 1) (take k rest) p x is).segments) (here-small source rest n p small a.before)

pub zeros-at : (source rest : List ℕ) (whole p : Places) (n k : ℕ) (x : Placed) (f : Filled) → placed (n + 1) (take k rest) p ≡ Ok x → IsFilled source rest whole p n f → x.at.zeros ≤ most_zeros
zeros-at source rest whole p n k x f is a =
    subst (λ z. z ≤ most_zeros) (sym (still-placed (n + 1) (take k rest) p x is).zeros) a.before.within.zeros

pub empty-list : (xs : List ℕ) → length xs ≡ 0 → xs ≡ []
empty-list [] e = refl
empty-list (x ∷ xs) e = absurd (omega arith)
