-- Generated images lie in RAM, and their code is of forms.
use Rattle.std.proofs.Common.{◌≡◌, ℕ, ◌≤◌, List, [], ◌∷◌, ◌++◌, length, map, None, refl, ap, sym, ◌∙◌, arith}
use Rattle.std.proofs.lemmas.List.{length-map}
use Rattle.ppc_ops.specs.declared.insn.Insn.{Insn}
use Rattle.ppc_decode.proofs.Whole.{encoded}
use Rattle.elf_image.specs.declared.address_range.AddressRange.{AddressRange}
use Rattle.elf_image.specs.declared.segment.Segment.{Segment}
use Rattle.elf_image.specs.Parts.{SegmentParts, segment_parts, ImageParts}
use Rattle.elf_image.specs.Ranges.{segment_range, ranges_of}
use Rattle.elf_image.specs.Places.{bad_pair, spans_of, ram_range, bad_place_of}
use Rattle.gen_image.specs.Draws.{first_draws, second_draws}
use Rattle.gen_image.specs.Code.{handler, beginning, guest_code}
use Rattle.gen_image.specs.Generated.{segments, IsSize}
use Rattle.gen_image.specs.Forms.{AreForms}
use Rattle.gen_image.specs.Laws.{GeneratedFits, GeneratedCodeMeansForms, MeansForms}
use Rattle.gen_image.proofs.TableLemmas.{length-partition_table, length-partition_tree}
use Rattle.gen_image.proofs.CodeLemmas.{length-code_bytes}
use Rattle.gen_image.proofs.PageLemmas.{length-guest_pages}
use Rattle.gen_image.proofs.FormLemmas.{handler-forms, beginning-forms, guest_code-forms, form-at}
use Rattle.gen_image.proofs.DrawLemmas.{AreBelow, first-length, second-length, first-below, second-below}

-- ---- forms

means-forms : (code : List Insn) → AreForms code → MeansForms code
means-forms code forms k i is = let form = form-at code k i forms is in (form, encoded i form.0 form.1)

below-64 : (bound : ℕ) (xs : List ℕ) → bound ≤ 64 → AreBelow bound xs → AreBelow 64 xs
below-64 bound [] few below = tt
below-64 bound (x ∷ xs) few below = (omega arith, below-64 bound xs few below.1)

guest-means : (draws : List ℕ) (size : ℕ) → size ≤ 64 → AreBelow size draws → length draws ≡ size → MeansForms (guest_code draws)
guest-means draws size few below long = means-forms (guest_code draws) (guest_code-forms draws (below-64 size draws few below) (omega arith))

guests-mean : (seed size : ℕ) → IsSize size → MeansForms (guest_code (first_draws seed size)) × MeansForms (guest_code (second_draws seed size))
guests-mean seed size allowed =
    let first = guest-means (first_draws seed size) size allowed.1 (first-below seed size allowed.0) (first-length seed size) in
    let second = guest-means (second_draws seed size) size allowed.1 (second-below seed size allowed.0) (second-length seed size) in
    (first, second)

pub code_means_forms : GeneratedCodeMeansForms
code_means_forms = (means-forms handler handler-forms, means-forms beginning beginning-forms, guests-mean)

-- ---- places

-- the range of a segment, by its parts
abbrev part_range : SegmentParts → AddressRange
part_range p = record { at = p.at; size = p.size }

by_parts : (ss : List Segment) → map segment_range ss ++ [] ≡ map part_range (map segment_parts ss)
by_parts [] = refl
by_parts (s ∷ ss) = ap (λ (rs : List AddressRange). segment_range s ∷ rs) (by_parts ss)

abbrev range_at : ℕ → ℕ → AddressRange
range_at at size = record { at = at; size = size }

abbrev ranges : List AddressRange
ranges =
    range_at 0xC00 44 ∷ range_at 0x10000 68 ∷ range_at 0x20000 48 ∷ range_at 0x100000 0x3000 ∷ range_at 0x110000 0x6000 ∷ range_at 0x200000 0x3000 ∷ range_at 0x210000 0x6000 ∷ []

ranges-are : (first second : List ℕ) → length first ≤ 64 → length second ≤ 64 → map part_range (segments first second) ≡ ranges
ranges-are first second few also_few =
    rw (length-code_bytes handler, length-code_bytes beginning, length-partition_table, length-partition_tree 1, length-partition_tree 2, length-guest_pages first few, length-guest_pages second also_few) refl

all_fit : spans_of (bad_pair (ram_range 16) [] ranges) ≡ None
all_fit = refl

pub image_fits : GeneratedFits
unfolding bad_place_of
image_fits image seed size is allowed =
    let first = first_draws seed size in
    let second = second_draws seed size in
    let parts : map segment_parts image.segments ≡ segments first second = ap (λ (p : ImageParts). p.segments) is in
    let in_place : map part_range (segments first second) ≡ ranges = ranges-are first second (omega (arith, first-length seed size)) (omega (arith, second-length seed size)) in
    let same : ranges_of image.segments [] ≡ ranges = by_parts image.segments ∙ ap (λ (ps : List SegmentParts). map part_range ps) parts ∙ in_place in
    let seven : length image.segments ≡ 7 = sym (length-map image.segments segment_parts) ∙ ap (λ (ps : List SegmentParts). length ps) parts in
    (seven, ap (λ (rs : List AddressRange). spans_of (bad_pair (ram_range 16) [] rs)) same ∙ all_fit)
