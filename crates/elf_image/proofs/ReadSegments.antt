-- The segments of a file's image.
use Rattle.std.proofs.Common.{◌≡◌, ◌⊎◌, inl, inr, ℕ, zero, suc, Bool, true, false, List, [], ◌∷◌, ◌++◌, length, map, Option, Some, None, Result, Ok, Err, refl, ap, sym, ◌∙◌, subst, arith, append_assoc}
use Rattle.std.specs.Prelude.{if◌then◌else◌}
use Rattle.std.specs.List.{AllPairs, Contains, filter, find}
use Rattle.std.proofs.lemmas.List.Kept.{AllPairs-filter}
use Rattle.std.proofs.lemmas.Option.{none-some, same_Some, some_pair_parts}
use Rattle.elf_image.specs.declared.address_range.AddressRange.{AddressRange}
use Rattle.elf_image.specs.declared.file_header.FileHeader.{FileHeader}
use Rattle.elf_image.specs.declared.load.Load.{Load}
use Rattle.elf_image.specs.declared.guests.Guest.{Guest}
use Rattle.elf_image.specs.declared.span.Span.{Span}
use Rattle.elf_image.specs.declared.image.Image.{Image}
use Rattle.elf_image.specs.declared.fault.ElfFault.{ElfFault}
use Rattle.elf_image.specs.Parts.{SegmentParts, ImageParts, segment_parts, image_parts}
use Rattle.elf_image.specs.Ranges.{meets, leaves, segment_range, guest_range, ranges_of}
use Rattle.elf_image.specs.Places.{rival_of, pair_or, bad_pair, span_of, spans_of, ram_range, bad_place_of}
use Rattle.elf_image.specs.Grammar.{header_of, loads_from, has_size, segment_of, segments_of, fault_of, unless_fault, image_after, image_of}
use Rattle.elf_image.specs.IsImage.{IsImage}
use Rattle.elf_image.specs.Laws.{AreApart}
use Rattle.elf_image.proofs.ImageLemmas.{no_fault}
use Rattle.elf_image.proofs.OneImage.{same_ok, not_both}
use Rattle.elf_image.proofs.ApartLemmas.{AllPairs-map, AllPairs-of_map, loads_apart, find-of_none, first_apart}

-- the range of a segment's parts
abbrev parts_range : SegmentParts → AddressRange
parts_range p = record { at = p.at; size = p.size }

-- two parts are apart
abbrev Apart : SegmentParts → SegmentParts → Type 0
Apart p q = meets (parts_range p) (parts_range q) ≡ false

-- loads without a fault make segments that are apart
apart_with : (bytes : List ℕ) (entry : ℕ) (loads : List Load) (parts : ImageParts) (fault : Option ElfFault) → fault ≡ fault_of (length bytes) loads → ◌≡◌ {A = Result ImageParts ElfFault} (unless_fault fault (record { entry = entry; segments = segments_of bytes loads })) (Ok parts) → AllPairs Apart parts.segments
apart_with bytes entry loads parts None is same =
    let loads_are : AllPairs (λ a b. meets a.range b.range ≡ false) loads = loads_apart loads (no_fault (length bytes) loads (sym is)).1 in
    let kept : AllPairs (λ a b. meets a.range b.range ≡ false) (filter has_size loads) = AllPairs-filter (λ a b. meets a.range b.range ≡ false) has_size loads loads_are in
    let of_parts : AllPairs Apart (segments_of bytes loads) = AllPairs-map Apart (segment_of bytes) (filter has_size loads) kept in
    let whole = same_ok {E = ElfFault} (record { entry = entry; segments = segments_of bytes loads }) parts same in
    subst (λ (ps : List SegmentParts). AllPairs Apart ps) (ap (λ (i : ImageParts). i.segments) whole) of_parts
apart_with bytes entry loads parts (Some f) is same = absurd (not_both {E = ElfFault} parts f (sym same))

apart_after : (bytes : List ℕ) (header : Result FileHeader ElfFault) (parts : ImageParts) → image_after bytes header ≡ Ok parts → AllPairs Apart parts.segments
apart_after bytes (Ok header) parts is =
    let loads : List Load = loads_from bytes header.table header.count in
    apart_with bytes header.entry loads parts (fault_of (length bytes) loads) refl is
apart_after bytes (Err f) parts is = absurd (not_both {E = ElfFault} parts f (sym is))

pub read_segments_apart : (bytes : List ℕ) (image : Image) → IsImage bytes image → AreApart (map segment_range image.segments)
unfolding image_of
read_segments_apart bytes image is =
    let parts : AllPairs Apart (map segment_parts image.segments) = apart_after bytes (header_of bytes) (image_parts image) is in
    AllPairs-map (λ a b. meets a b ≡ false) segment_range image.segments (AllPairs-of_map Apart segment_parts image.segments parts)

-- a range that stays in RAM and meets none of some others, and one that leaves RAM
ram_rival : (ram : AddressRange) (before : List AddressRange) (a b : AddressRange) (test : Bool) → leaves a ram ≡ test → find (λ r. meets r a) before ≡ None → (if test then Some ram else find (λ r. meets r a) before) ≡ Some b → b ≡ ram
ram_rival ram before a b true is none some = sym (same_Some ram b some)
ram_rival ram before a b false is none some = absurd (none-some b (sym none ∙ some))

pair-some : (x : AddressRange) (o : Option AddressRange) (next : Option (AddressRange × AddressRange)) (a b : AddressRange) → pair_or x o next ≡ Some (a, b) → ((x ≡ a) × (o ≡ Some b)) ⊎ ((o ≡ None) × (next ≡ Some (a, b)))
pair-some x None next a b is = inr (refl, is)
pair-some x (Some y) next a b is = let parts = some_pair_parts x a y b is in inl (parts.0, ap (λ (z : AddressRange). Some z) parts.1)

-- the first of a bad pair is among the ranges
among : (ram : AddressRange) (before gs : List AddressRange) (a b : AddressRange) → bad_pair ram before gs ≡ Some (a, b) → Contains gs a
among ram before [] a b is = absurd (none-some _ is)
among ram before (g ∷ gs) a b is = at (pair-some g (rival_of ram before g) (bad_pair ram (before ++ g ∷ []) gs) a b is) (among ram (before ++ g ∷ []) gs a b)
  where
    at : ((g ≡ a) × (rival_of ram before g ≡ Some b)) ⊎ ((rival_of ram before g ≡ None) × (bad_pair ram (before ++ g ∷ []) gs ≡ Some (a, b))) → (bad_pair ram (before ++ g ∷ []) gs ≡ Some (a, b) → Contains gs a) → Contains (g ∷ gs) a
    at (inl here) rest = (0, omega arith, here.0)
    at (inr later) rest = let found = rest later.1 in (suc found.0, let lt = found.1 in omega arith, found.2)

-- the pair of a list in whose first part no two ranges meet
named : (ram : AddressRange) (before ss gs : List AddressRange) (a b : AddressRange) → AreApart (before ++ ss) → bad_pair ram before (ss ++ gs) ≡ Some (a, b) → (b ≡ ram) ⊎ Contains gs a
named ram before [] gs a b apart is = inr (among ram before gs a b is)
named ram before (s ∷ ss) gs a b apart is =
    at (find-of_none (λ r. meets r s) before (first_apart (λ x y. meets x y ≡ false) before ss s apart)) (pair-some s (rival_of ram before s) (bad_pair ram (before ++ s ∷ []) (ss ++ gs)) a b is)
    (named ram (before ++ s ∷ []) ss gs a b (rw append_assoc apart))
  where
    at : find (λ r. meets r s) before ≡ None → ((s ≡ a) × (rival_of ram before s ≡ Some b)) ⊎ ((rival_of ram before s ≡ None) × (bad_pair ram (before ++ s ∷ []) (ss ++ gs) ≡ Some (a, b))) → (bad_pair ram (before ++ s ∷ []) (ss ++ gs) ≡ Some (a, b) → (b ≡ ram) ⊎ Contains gs a) → (b ≡ ram) ⊎ Contains gs a
    at none (inl here) rest = inl (ram_rival ram before s b (leaves s ram) refl none here.1)
    at none (inr later) rest = rest later.1

-- the span of a range among those of guests
spans-contain : (guests : List Guest) (x : AddressRange) (a : Span) → span_of x ≡ a → Contains (map guest_range guests) x → Contains (map (λ g. span_of (guest_range g)) guests) a
spans-contain [] x a same here = let lt = here.1 in absurd (omega arith)
spans-contain (g ∷ gs) x a same (zero, lt, is) = (0, omega arith, ap span_of is ∙ same)
spans-contain (g ∷ gs) x a same (suc k, lt, is) =
    let found = spans-contain gs x a same (k, omega arith, is) in
    (suc found.0, let below = found.1 in omega arith, found.2)

told : (ram : AddressRange) (guests : List Guest) (o : Option (AddressRange × AddressRange)) (a b : Span) → spans_of o ≡ Some (a, b) → ((x y : AddressRange) → o ≡ Some (x, y) → (y ≡ ram) ⊎ Contains (map guest_range guests) x) → (b ≡ span_of ram) ⊎ Contains (map (λ g. span_of (guest_range g)) guests) a
told ram guests None a b is names = absurd (none-some _ is)
told ram guests (Some pair) a b is names = at (names pair.0 pair.1 refl) (some_pair_parts (span_of pair.0) a (span_of pair.1) b is)
  where
    at : (pair.1 ≡ ram) ⊎ Contains (map guest_range guests) pair.0 → (span_of pair.0 ≡ a) × (span_of pair.1 ≡ b) → (b ≡ span_of ram) ⊎ Contains (map (λ g. span_of (guest_range g)) guests) a
    at (inl same) parts = inl (sym parts.1 ∙ ap span_of same)
    at (inr here) parts = inr (spans-contain guests pair.0 a parts.0 here)

pub bad_place_names : (bytes : List ℕ) (image : Image) (guests : List Guest) (ram_mib : ℕ) (a b : Span) → IsImage bytes image → bad_place_of image guests ram_mib ≡ Some (a, b) → (b ≡ span_of (ram_range ram_mib)) ⊎ Contains (map (λ g. span_of (guest_range g)) guests) a
unfolding bad_place_of
bad_place_names bytes image guests ram_mib a b is bad =
    told (ram_range ram_mib) guests (bad_pair (ram_range ram_mib) [] (ranges_of image.segments guests)) a b bad
    (λ x y found. named (ram_range ram_mib) [] (map segment_range image.segments) (map guest_range guests) x y (read_segments_apart bytes image is) found)
