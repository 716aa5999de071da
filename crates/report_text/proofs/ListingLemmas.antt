-- The lines of a segment and the texts of segments, by their numbers.
use Rattle.std.proofs.Common.{◌≡◌, ℕ, ◌/◌, ◌+◌, ◌<◌, List, [], ◌∷◌, ◌++◌, length, map, get_or, Some, refl, ap, sym, ◌∙◌, arith, append_assoc}
use Rattle.std.specs.Prelude.{slice_get, flat_map, option_map}
use Rattle.std.proofs.lemmas.Option.{slice_get-get_or, slice_get_read, slice_get-map}
use Rattle.std.proofs.lemmas.List.{length-map}
use Rattle.std.proofs.lemmas.List.FromFn.{get_or-map-range_with_len, length-map-range_with_len}
use Rattle.line_text.specs.Text.{text_of}
use Rattle.elf_image.specs.declared.segment.Segment.{Segment}
use Rattle.elf_image.specs.declared.image.Image.{Image}
use Rattle.report_text.specs.Listing.{segment_line, segment_lines, listing}

pub length-segment_lines : (s : Segment) → length (segment_lines s) ≡ length s.bytes / 4
length-segment_lines s = length-map-range_with_len (segment_line s) 0 (length s.bytes / 4)

-- the line of word k
pub get-segment_lines : (s : Segment) (k : ℕ) → k < length s.bytes / 4 → slice_get (segment_lines s) k ≡ Some (segment_line s k)
get-segment_lines s k lt =
    let inside : k < length (segment_lines s) = omega (arith, length-segment_lines s) in
    let here : 0 + k ≡ k = omega arith in
    slice_get-get_or (segment_lines s) k [] inside
    ∙ ap Some (get_or-map-range_with_len (segment_line s) 0 (length s.bytes / 4) k k [] lt here)

abbrev segment_text : Segment → List ℕ
segment_text s = text_of (segment_lines s)

-- the text of each segment
abbrev pub segment_texts : List Segment → List (List ℕ)
segment_texts segments = map segment_text segments

pub length-segment_texts : (segments : List Segment) → length (segment_texts segments) ≡ length segments
length-segment_texts segments = length-map segments segment_text

pub get-segment_texts : (segments : List Segment) (k : ℕ) (s : Segment) → k < length segments → s ≡ get_or segments k s → slice_get (segment_texts segments) k ≡ Some (text_of (segment_lines s))
get-segment_texts segments k s lt is =
    slice_get-map segment_text segments k ∙ ap (option_map segment_text) (slice_get_read segments (length segments) k s refl lt is)

text_of-append : (front back : List (List ℕ)) → text_of (front ++ back) ≡ text_of front ++ text_of back
unfolding text_of
text_of-append [] back = refl
text_of-append (part ∷ parts) back = ap (λ (t : List ℕ). part ++ t) (text_of-append parts back) ∙ sym (append_assoc part (text_of parts) (text_of back))

text_of-lines : (segments : List Segment) → text_of (flat_map segment_lines segments) ≡ text_of (segment_texts segments)
unfolding text_of
text_of-lines [] = refl
text_of-lines (s ∷ ss) =
    text_of-append (segment_lines s) (flat_map segment_lines ss)
    ∙ ap (λ (t : List ℕ). text_of (segment_lines s) ++ t) (text_of-lines ss)

-- the listing of an image is the texts of its segments
pub listing_texts : (image : Image) → listing image ≡ text_of (segment_texts image.segments)
unfolding listing
listing_texts image = text_of-lines image.segments
