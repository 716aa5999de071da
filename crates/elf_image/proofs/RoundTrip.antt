-- The file of an image is read back.
use Rattle.std.proofs.Common.{◌≡◌, ℕ, ◌+◌, ◌*◌, ◌^◌, ◌<◌, ◌≤◌, Bool, true, false, cond, not, List, [], ◌∷◌, ◌++◌, length, take, drop, map, None, Ok, refl, ap, sym, ◌∙◌, arith, append_assoc, length-append}
use Rattle.std.specs.Prelude.{nat_le, nat_lt, ◌==◌, ◌||◌, ◌%◌, slice_index}
use Rattle.std.specs.List.{AllByRecursion, filter, position_from}
use Rattle.std.proofs.lemmas.List.{drop_at, take_at, append-nil}
use Rattle.std.proofs.lemmas.Bool.Decides.{nat_tests}
use Rattle.byteorder.specs.Numbers.{little_number-reads_back}
use Rattle.elf_image.specs.declared.address_range.AddressRange.{AddressRange}
use Rattle.elf_image.specs.declared.load.Load.{Load}
use Rattle.elf_image.specs.declared.file_header.FileHeader.{FileHeader}
use Rattle.elf_image.specs.declared.segment.Segment.{Segment}
use Rattle.elf_image.specs.declared.image.Image.{Image}
use Rattle.elf_image.specs.Fields.{half_at, word_at, xword_at}
use Rattle.elf_image.specs.Header.{header, program_header}
use Rattle.elf_image.specs.Ranges.{meets, segment_range}
use Rattle.elf_image.specs.Parts.{SegmentParts, segment_parts}
use Rattle.elf_image.specs.Grammar.{table_lies_in, header_of, load_of, loads_from, is_bad, overlap_from, fault_of, segment_of, has_size, segments_of}
use Rattle.elf_image.specs.Written.{program_headers, bytes_of, written}
use Rattle.elf_image.specs.IsImage.{IsImage}
use Rattle.elf_image.specs.Laws.{AreApart, IsWritable, without_empty}
use Rattle.elf_image.proofs.ImageLemmas.{image-after}
use Rattle.elf_image.proofs.ApartLemmas.{AllPairs-of_map, no_overlap}

pub length-header : (entry count : ℕ) → length (header entry count) ≡ 64
unfolding header
length-header entry count = refl

pub length-program_header : (offset at filesz memsz : ℕ) → length (program_header offset at filesz memsz) ≡ 56
unfolding program_header
length-program_header offset at filesz memsz = refl

length-program_headers : (ss : List Segment) (offset : ℕ) → length (program_headers offset ss) ≡ 56 * length ss
length-program_headers [] offset = refl
length-program_headers (s ∷ ss) offset =
    let first = length-program_header offset s.at (length s.bytes) s.size in
    let rest = length-program_headers ss (offset + length s.bytes) in
    omega (arith, length-append (program_header offset s.at (length s.bytes) s.size) (program_headers (offset + length s.bytes) ss), first, rest)

pub length-written : (image : Image) → length (written image) ≡ 64 + 56 * length image.segments + length (bytes_of image.segments)
unfolding written
length-written image =
    let offset : ℕ = 64 + 56 * length image.segments in
    let first : List ℕ = header image.entry (length image.segments) in
    let table : List ℕ = program_headers offset image.segments in
    omega (arith, length-append (first ++ table) (bytes_of image.segments), length-append first table, length-header image.entry (length image.segments), length-program_headers image.segments offset)

pub length-written-twelve : (image : Image) (s : Segment) → image.segments ≡ s ∷ [] → length s.bytes ≡ 12 → length (written image) ≡ 132
length-written-twelve image s one twelve =
    let whole = length-written image in
    let count : length image.segments ≡ 1 = ap (λ (ss : List Segment). length ss) one in
    let bytes : length (bytes_of image.segments) ≡ 12 = ap (λ (ss : List Segment). length (bytes_of ss)) one ∙ ap (λ (b : List ℕ). length b) (append-nil s.bytes) ∙ twelve in
    omega (arith, whole, count, bytes)

-- a header all of whose tests are passed
passes : (bytes : List ℕ) (entry table count : ℕ) → nat_le 64 (length bytes) ≡ true → (word_at bytes 0 == 1179403647) ≡ true → (slice_index bytes 4 == 2) ≡ true → (slice_index bytes 5 == 1) ≡ true → (half_at bytes 18 == 21) ≡ true → (word_at bytes 48 % 4 == 0 || word_at bytes 48 % 4 == 2) ≡ true → (half_at bytes 16 == 2 || half_at bytes 16 == 3) ≡ true → (half_at bytes 54 == 56) ≡ true → not (half_at bytes 56 == 0) ≡ true → table_lies_in (length bytes) (xword_at bytes 32) (half_at bytes 56) ≡ true → nat_le (half_at bytes 56) 64 ≡ true → xword_at bytes 24 ≡ entry → xword_at bytes 32 ≡ table → half_at bytes 56 ≡ count → header_of bytes ≡ Ok (record { entry = entry; table = table; count = count })
passes bytes entry table count long magic class order machine abi kind size some within few e t c = rw (long, magic, class, order, machine, abi, kind, size, some, within, few, e, t, c) refl

entry_in : (entry count : ℕ) (rest : List ℕ) → entry < 2 ^ 64 → xword_at (header entry count ++ rest) 24 ≡ entry
unfolding header
entry_in entry count rest fits = little_number-reads_back 8 entry (drop 32 (header entry count ++ rest)) fits

table_in : (entry count : ℕ) (rest : List ℕ) → xword_at (header entry count ++ rest) 32 ≡ 64
unfolding header
table_in entry count rest = refl

count_in : (entry count : ℕ) (rest : List ℕ) → count < 2 ^ 16 → half_at (header entry count ++ rest) 56 ≡ count
unfolding header
count_in entry count rest fits = little_number-reads_back 2 count (drop 58 (header entry count ++ rest)) fits

magic_in : (entry count : ℕ) (rest : List ℕ) → (word_at (header entry count ++ rest) 0 == 1179403647) ≡ true
unfolding header
magic_in entry count rest = refl

class_in : (entry count : ℕ) (rest : List ℕ) → (slice_index (header entry count ++ rest) 4 == 2) ≡ true
unfolding header
class_in entry count rest = refl

order_in : (entry count : ℕ) (rest : List ℕ) → (slice_index (header entry count ++ rest) 5 == 1) ≡ true
unfolding header
order_in entry count rest = refl

machine_in : (entry count : ℕ) (rest : List ℕ) → (half_at (header entry count ++ rest) 18 == 21) ≡ true
unfolding header
machine_in entry count rest = refl

abi_in : (entry count : ℕ) (rest : List ℕ) → (word_at (header entry count ++ rest) 48 % 4 == 0 || word_at (header entry count ++ rest) 48 % 4 == 2) ≡ true
unfolding header
abi_in entry count rest = refl

file_type_in : (entry count : ℕ) (rest : List ℕ) → (half_at (header entry count ++ rest) 16 == 2 || half_at (header entry count ++ rest) 16 == 3) ≡ true
unfolding header
file_type_in entry count rest = refl

size_in : (entry count : ℕ) (rest : List ℕ) → (half_at (header entry count ++ rest) 54 == 56) ≡ true
unfolding header
size_in entry count rest = refl

is_within : (len place count : ℕ) → place + 56 * count ≤ len → table_lies_in len place count ≡ true
is_within len place count le = grind (arith, nat_tests)

le_true : (a b : ℕ) → a ≤ b → nat_le a b ≡ true
le_true a b le = grind (arith, nat_tests)

not_zero : (a : ℕ) → 1 ≤ a → not (a == 0) ≡ true
not_zero a some = grind (arith, nat_tests)

-- the header that is written is read
header_in : (entry count : ℕ) (rest : List ℕ) → entry < 2 ^ 64 → 1 ≤ count → count ≤ 64 → 56 * count ≤ length rest → header_of (header entry count ++ rest) ≡ Ok (record { entry = entry; table = 64; count = count })
header_in entry count rest fits some few long =
    let bytes : List ℕ = header entry count ++ rest in
    let len : length bytes ≡ 64 + length rest = omega (arith, length-append (header entry count) rest, length-header entry count) in
    let t = table_in entry count rest in
    let c = count_in entry count rest (omega arith) in
    passes bytes entry 64 count (le_true 64 (length bytes) (omega (arith, len))) (magic_in entry count rest) (class_in entry count rest) (order_in entry count rest) (machine_in entry count rest) (abi_in entry count rest) (file_type_in entry count rest) (size_in entry count rest)
    (rw c (not_zero count some)) (rw (t, c) (is_within (length bytes) 64 count (omega (arith, len)))) (rw c (le_true count 64 few)) (entry_in entry count rest fits) t c

-- what is loaded of segments whose bytes stand from an offset on
abbrev pub load_at : ℕ → Segment → Load
load_at offset s = record { offset = offset; filesz = length s.bytes; range = record { at = s.at; size = s.size } }

abbrev pub loads_at : ℕ → List Segment → List Load
loads_at offset [] = []
loads_at offset (s ∷ ss) = load_at offset s ∷ loads_at (offset + length s.bytes) ss

kind_in : (offset at filesz memsz : ℕ) (rest : List ℕ) → (word_at (program_header offset at filesz memsz ++ rest) 0 == 1) ≡ true
unfolding program_header
kind_in offset at filesz memsz rest = refl

offset_in : (offset at filesz memsz : ℕ) (rest : List ℕ) → offset < 2 ^ 64 → xword_at (program_header offset at filesz memsz ++ rest) 8 ≡ offset
unfolding program_header
offset_in offset at filesz memsz rest fits = little_number-reads_back 8 offset (drop 16 (program_header offset at filesz memsz ++ rest)) fits

at_in : (offset at filesz memsz : ℕ) (rest : List ℕ) → at < 2 ^ 64 → xword_at (program_header offset at filesz memsz ++ rest) 24 ≡ at
unfolding program_header
at_in offset at filesz memsz rest fits = little_number-reads_back 8 at (drop 32 (program_header offset at filesz memsz ++ rest)) fits

filesz_in : (offset at filesz memsz : ℕ) (rest : List ℕ) → filesz < 2 ^ 64 → xword_at (program_header offset at filesz memsz ++ rest) 32 ≡ filesz
unfolding program_header
filesz_in offset at filesz memsz rest fits = little_number-reads_back 8 filesz (drop 40 (program_header offset at filesz memsz ++ rest)) fits

memsz_in : (offset at filesz memsz : ℕ) (rest : List ℕ) → memsz < 2 ^ 64 → xword_at (program_header offset at filesz memsz ++ rest) 40 ≡ memsz
unfolding program_header
memsz_in offset at filesz memsz rest fits = little_number-reads_back 8 memsz (drop 48 (program_header offset at filesz memsz ++ rest)) fits

load_by : (bytes : List ℕ) (offset at filesz memsz : ℕ) → (word_at bytes 0 == 1) ≡ true → xword_at bytes 8 ≡ offset → xword_at bytes 24 ≡ at → xword_at bytes 32 ≡ filesz → xword_at bytes 40 ≡ memsz → load_of bytes ≡ record { offset = offset; filesz = filesz; range = record { at = at; size = memsz } }
load_by bytes offset at filesz memsz kind o a f m = rw (kind, o, a, f, m) refl

load_in : (offset : ℕ) (s : Segment) (rest : List ℕ) → offset < 2 ^ 64 → s.at < 2 ^ 64 → s.size < 2 ^ 64 → load_of (program_header offset s.at (length s.bytes) s.size ++ rest) ≡ load_at offset s
load_in offset s rest o a m =
    let f : length s.bytes < 2 ^ 64 = let holds = s.holds_bytes in omega arith in
    load_by (program_header offset s.at (length s.bytes) s.size ++ rest) offset s.at (length s.bytes) s.size (kind_in offset s.at (length s.bytes) s.size rest) (offset_in offset s.at (length s.bytes) s.size rest o) (at_in offset s.at (length s.bytes) s.size rest a) (filesz_in offset s.at (length s.bytes) s.size rest f) (memsz_in offset s.at (length s.bytes) s.size rest m)

-- the headers of segments that are written are read
loads_in : (ss : List Segment) (before rest : List ℕ) (place offset : ℕ) → length before ≡ place → AllByRecursion (λ s. (s.at < 2 ^ 64) × (s.size < 2 ^ 64)) ss → offset + length (bytes_of ss) < 2 ^ 64 → loads_from (before ++ (program_headers offset ss ++ rest)) place (length ss) ≡ loads_at offset ss
loads_in [] before rest place offset long fits few = refl
loads_in (s ∷ ss) before rest place offset long fits few =
    let first : List ℕ = program_header offset s.at (length s.bytes) s.size in
    let table : List ℕ = program_headers (offset + length s.bytes) ss in
    let regroup : before ++ ((first ++ table) ++ rest) ≡ before ++ (first ++ (table ++ rest)) = ap (λ (r : List ℕ). before ++ r) (append_assoc first table rest) in
    let behind : drop place (before ++ (first ++ (table ++ rest))) ≡ first ++ (table ++ rest) = drop_at before (first ++ (table ++ rest)) place long in
    let ranges = fits.0 in
    let bytes : length (bytes_of (s ∷ ss)) ≡ length s.bytes + length (bytes_of ss) = length-append s.bytes (bytes_of ss) in
    let here : load_of (drop place (before ++ (first ++ (table ++ rest)))) ≡ load_at offset s = ap load_of behind ∙ load_in offset s (table ++ rest) (omega arith) ranges.0 ranges.1 in
    let next : length (before ++ first) ≡ place + 56 = omega (arith, length-append before first, length-program_header offset s.at (length s.bytes) s.size) in
    let rest_in : loads_from (before ++ (first ++ (table ++ rest))) (place + 56) (length ss) ≡ loads_at (offset + length s.bytes) ss = rw append_assoc at (loads_in ss (before ++ first) rest (place + 56) (offset + length s.bytes) next fits.1 (omega arith)) in
    ap (λ (b : List ℕ). loads_from b place (length (s ∷ ss))) regroup
    ∙ ap (λ (l : Load). l ∷ loads_from (before ++ (first ++ (table ++ rest))) (place + 56) (length ss)) here
    ∙ ap (λ (ls : List Load). load_at offset s ∷ ls) rest_in

good_load : (len : ℕ) (load : Load) → load.filesz ≤ load.range.size → load.offset + load.filesz ≤ len → load.range.at + load.range.size ≤ 2 ^ 64 → is_bad len load ≡ false
good_load len load holds within ends = grind (arith, nat_tests)

-- they are good
all_good : (len : ℕ) (ss : List Segment) (n offset : ℕ) → offset + length (bytes_of ss) ≤ len → position_from (is_bad len) n (loads_at offset ss) ≡ None
all_good len [] n offset within = refl
all_good len (s ∷ ss) n offset within =
    let bytes : length (bytes_of (s ∷ ss)) ≡ length s.bytes + length (bytes_of ss) = length-append s.bytes (bytes_of ss) in
    let here : is_bad len (load_at offset s) ≡ false = good_load len (load_at offset s) s.holds_bytes (omega arith) s.ends in
    rw here (all_good len ss (n + 1) (offset + length s.bytes) (omega arith))

load_ranges : (ss : List Segment) (offset : ℕ) → map (λ (l : Load). l.range) (loads_at offset ss) ≡ map segment_range ss
load_ranges [] offset = refl
load_ranges (s ∷ ss) offset = ap (λ (rs : List AddressRange). segment_range s ∷ rs) (load_ranges ss (offset + length s.bytes))

-- they are apart where the segments are
no_meeting : (ss : List Segment) (offset : ℕ) → AreApart (map segment_range ss) → overlap_from [] (loads_at offset ss) ≡ None
no_meeting ss offset apart =
    let same : AreApart (map (λ (l : Load). l.range) (loads_at offset ss)) = rw load_ranges apart in
    no_overlap [] (loads_at offset ss) (AllPairs-of_map (λ a b. meets a b ≡ false) (λ (l : Load). l.range) (loads_at offset ss) same)

-- a segment's bytes stand where its header says
bytes_in : (front bytes rest : List ℕ) (offset : ℕ) → length front ≡ offset → take (length bytes) (drop offset (front ++ (bytes ++ rest))) ≡ bytes
bytes_in front bytes rest offset long = rw (drop_at front (bytes ++ rest) offset long) (take_at bytes rest (length bytes) refl)

-- the segments that have a size are the image's
segments_in : (file : List ℕ) (ss : List Segment) (front : List ℕ) (offset : ℕ) → file ≡ front ++ bytes_of ss → length front ≡ offset → segments_of file (loads_at offset ss) ≡ map segment_parts (filter (λ s. nat_lt 0 s.size) ss)
segments_in file [] front offset is long = refl
segments_in file (s ∷ ss) front offset is long =
    let parts : file ≡ (front ++ s.bytes) ++ bytes_of ss = is ∙ sym (append_assoc front s.bytes (bytes_of ss)) in
    let next : length (front ++ s.bytes) ≡ offset + length s.bytes = omega (arith, length-append front s.bytes) in
    at (nat_lt 0 s.size)
    (ap (λ (f : List ℕ). take (length s.bytes) (drop offset f)) is ∙ bytes_in front s.bytes (bytes_of ss) offset long)
    (segments_in file ss (front ++ s.bytes) (offset + length s.bytes) parts next)
  where
    at : (some : Bool) → take (length s.bytes) (drop offset file) ≡ s.bytes → segments_of file (loads_at (offset + length s.bytes) ss) ≡ map segment_parts (filter (λ s. nat_lt 0 s.size) ss) → map (segment_of file) (cond some (load_at offset s ∷ filter has_size (loads_at (offset + length s.bytes) ss)) (filter has_size (loads_at (offset + length s.bytes) ss))) ≡ map segment_parts (cond some (s ∷ filter (λ s. nat_lt 0 s.size) ss) (filter (λ s. nat_lt 0 s.size) ss))
    at true here rest =
        ap (λ (b : List ℕ). record { at = s.at; size = s.size; bytes = b } ∷ segments_of file (loads_at (offset + length s.bytes) ss)) here
        ∙ ap (λ (ps : List SegmentParts). segment_parts s ∷ ps) rest
    at false here rest = rest

no_faults : (len : ℕ) (loads : List Load) → position_from (is_bad len) 0 loads ≡ None → overlap_from [] loads ≡ None → fault_of len loads ≡ None
unfolding fault_of
no_faults len loads good apart = rw (good, apart) refl

-- the file of an image is that of the image without its empty segments
pub reads_back : (image : Image) → IsWritable image → IsImage (written image) (without_empty image)
unfolding written
reads_back image w =
    let count : ℕ = length image.segments in
    let offset : ℕ = 64 + 56 * count in
    let first : List ℕ = header image.entry count in
    let table : List ℕ = program_headers offset image.segments in
    let bytes : List ℕ = bytes_of image.segments in
    let file : List ℕ = written image in
    let loads : List Load = loads_at offset image.segments in
    let made : FileHeader = record { entry = image.entry; table = 64; count = count } in
    let parts : file ≡ first ++ (table ++ bytes) = append_assoc first table bytes in
    let len = length-written image in
    let fits = w.file_fits in
    let table_len = length-program_headers image.segments offset in
    let rest_len = length-append table bytes in
    let front_len = length-append first table in
    let front : length (first ++ table) ≡ offset = omega (arith, length-header image.entry count) in
    let is_header : header_of file ≡ Ok made = ap header_of parts ∙ header_in image.entry count (table ++ bytes) w.entry_fits w.some w.few (omega (arith, rest_len, table_len)) in
    let few : offset + length bytes < 2 ^ 64 = omega (arith, len, fits) in
    let are_loads : loads_from file 64 count ≡ loads = ap (λ (f : List ℕ). loads_from f 64 count) parts ∙ loads_in image.segments first bytes 64 offset (length-header image.entry count) w.ranges_fit few in
    let good = all_good (length file) image.segments 0 offset (omega (arith, len)) in
    let apart = no_meeting image.segments offset w.apart in
    let none = no_faults (length file) loads good apart in
    image-after file made loads None (sym is_header) (sym are_loads) (sym none)
    ∙ ap (λ (ps : List SegmentParts). Ok (record { entry = image.entry; segments = ps })) (segments_in file image.segments (first ++ table) offset refl front)
