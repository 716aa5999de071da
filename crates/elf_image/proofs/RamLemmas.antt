-- What lies in RAM where no place is bad.
use Rattle.std.proofs.Common.{◌≡◌, ℕ, zero, suc, ◌+◌, ◌*◌, ◌<◌, ◌≤◌, Bool, true, false, List, [], ◌∷◌, ◌++◌, length, take, map, get_or, Option, Some, None, refl, ap, sym, ◌∙◌, arith, append_assoc}
use Rattle.std.specs.Prelude.{if◌then◌else◌}
use Rattle.std.specs.List.{find, slice_get}
use Rattle.std.proofs.lemmas.List.{append-nil}
use Rattle.std.proofs.lemmas.Option.{none-some, same_Some, slice_get-get_or, slice_get-map, slice_get_read}
use Rattle.std.proofs.lemmas.Bool.Decides.{nat_tests}
use Rattle.elf_image.specs.declared.address_range.AddressRange.{AddressRange}
use Rattle.elf_image.specs.declared.segment.Segment.{Segment}
use Rattle.elf_image.specs.declared.guests.Guest.{Guest}
use Rattle.elf_image.specs.declared.image.Image.{Image}
use Rattle.elf_image.specs.Ranges.{end_of, meets, leaves, segment_range, guest_range, ranges_of}
use Rattle.elf_image.specs.Places.{rival_of, pair_or, bad_pair, spans_of, ram_range, bad_place_of}
use Rattle.elf_image.specs.Laws.{LieInRam}

pair_or-none : (a : AddressRange) (o : Option AddressRange) (next : Option (AddressRange × AddressRange)) → pair_or a o next ≡ None → (o ≡ None) × (next ≡ None)
pair_or-none a None next is = (refl, is)
pair_or-none a (Some b) next is = absurd (none-some (a, b) (sym is))

spans_of-none : (o : Option (AddressRange × AddressRange)) → spans_of o ≡ None → o ≡ None
spans_of-none None is = refl
spans_of-none (Some p) is = absurd (none-some _ (sym is))

if-none : {X : Type 0} (test : Bool) (x : X) (o : Option X) → (if test then Some x else o) ≡ None → (test ≡ false) × (o ≡ None)
if-none true x o is = absurd (none-some x (sym is))
if-none false x o is = (refl, is)

pub find-none : {X : Type 0} (p : X → Bool) (xs : List X) (i : ℕ) (x : X) → find p xs ≡ None → slice_get xs i ≡ Some x → p x ≡ false
find-none p [] i x none is = absurd (none-some x is)
find-none p (y ∷ ys) zero x none is = let same = same_Some y x is in rw (← same) (if-none (p y) y (find p ys) none).0
find-none p (y ∷ ys) (suc i) x none is = find-none p ys i x (if-none (p y) y (find p ys) none).1 is

-- each range has its place among those before it
pub no_rival : (ram : AddressRange) (before rs : List AddressRange) (i : ℕ) (a : AddressRange) → bad_pair ram before rs ≡ None → slice_get rs i ≡ Some a → rival_of ram (before ++ take i rs) a ≡ None
no_rival ram before [] i a none is = absurd (none-some a is)
no_rival ram before (r ∷ rest) zero a none is =
    let same = same_Some r a is in
    rw (append-nil before, ← same) (pair_or-none r (rival_of ram before r) (bad_pair ram (before ++ r ∷ []) rest) none).0
no_rival ram before (r ∷ rest) (suc i) a none is =
    rw append_assoc at (no_rival ram (before ++ r ∷ []) rest i a (pair_or-none r (rival_of ram before r) (bad_pair ram (before ++ r ∷ []) rest) none).1 is)

slice_get-append_left : {X : Type 0} (xs ys : List X) (i : ℕ) (x : X) → slice_get xs i ≡ Some x → slice_get (xs ++ ys) i ≡ Some x
slice_get-append_left [] ys i x is = absurd (none-some x is)
slice_get-append_left (z ∷ zs) ys zero x is = is
slice_get-append_left (z ∷ zs) ys (suc i) x is = slice_get-append_left zs ys i x is

slice_get-append_right : {X : Type 0} (xs ys : List X) (i : ℕ) → slice_get (xs ++ ys) (length xs + i) ≡ slice_get ys i
slice_get-append_right [] ys i = let e : 0 + i ≡ i = omega arith in ap (slice_get ys) e
slice_get-append_right (z ∷ zs) ys i = let e : suc (length zs) + i ≡ suc (length zs + i) = omega arith in ap (slice_get (z ∷ (zs ++ ys))) e ∙ slice_get-append_right zs ys i

slice_get-take : {X : Type 0} (xs : List X) (n i : ℕ) (x : X) → i < n → slice_get xs i ≡ Some x → slice_get (take n xs) i ≡ Some x
slice_get-take [] n i x lt is = absurd (none-some x is)
slice_get-take (z ∷ zs) zero i x lt is = absurd (omega arith)
slice_get-take (z ∷ zs) (suc n) zero x lt is = is
slice_get-take (z ∷ zs) (suc n) (suc i) x lt is = slice_get-take zs n i x (omega arith) is

stays : (a ram : AddressRange) → leaves a ram ≡ false → 0 < a.size → end_of a ≤ end_of ram
stays a ram no_address some = grind (arith, nat_tests)

range_stays : (ram_mib : ℕ) (rs : List AddressRange) (i : ℕ) (a : AddressRange) → bad_pair (ram_range ram_mib) [] rs ≡ None → slice_get rs i ≡ Some a → 0 < a.size → a.at + a.size ≤ ram_mib * 1048576
range_stays ram_mib rs i a none is some =
    let within : end_of a ≤ end_of (ram_range ram_mib) = stays a (ram_range ram_mib) (if-none (leaves a (ram_range ram_mib)) (ram_range ram_mib) (find (λ r. meets r a) (take i rs)) (no_rival (ram_range ram_mib) [] rs i a none is)).0 some in
    omega arith

pub lie_in_ram : (image : Image) (guests : List Guest) (ram_mib : ℕ) → bad_place_of image guests ram_mib ≡ None → LieInRam image guests ram_mib
unfolding bad_place_of
lie_in_ram image guests ram_mib none =
    let rs : List AddressRange = ranges_of image.segments guests in
    let ram : AddressRange = ram_range ram_mib in
    let no_pair = spans_of-none (bad_pair ram [] rs) none in
    record {
      segments_lie = λ i s is some.
          range_stays ram_mib rs i (segment_range s) no_pair
          (slice_get-append_left (map segment_range image.segments) (map guest_range guests) i (segment_range s) (rw (slice_get-map segment_range image.segments i, is) refl)) some;
      guests_lie = λ i g is some.
          range_stays ram_mib rs (length (map segment_range image.segments) + i) (guest_range g) no_pair
          (rw (slice_get-append_right (map segment_range image.segments) (map guest_range guests) i, slice_get-map guest_range guests i, is) refl) some;
      apart = λ i j d lt within.
          let b : AddressRange = get_or rs j d in
          let a : AddressRange = get_or rs i d in
          find-none (λ r. meets r b) (take j rs) i a
          (if-none (leaves b ram) ram (find (λ r. meets r b) (take j rs)) (no_rival ram [] rs j b no_pair (slice_get-get_or rs j d within))).1
          (slice_get-take rs j i a lt (slice_get-get_or rs i d (omega arith)));
    }

-- what a caller has of a segment in its turn: its bytes lie in RAM
pub segment_fits : (image : Image) (guests : List Guest) (ram_mib i : ℕ) (s : Segment) → LieInRam image guests ram_mib → i < length image.segments → s ≡ get_or image.segments i s → 0 < length s.bytes → s.at + length s.bytes ≤ ram_mib * 1048576
segment_fits image guests ram_mib i s lie below is some =
    let holds = s.holds_bytes in
    let within : s.at + s.size ≤ ram_mib * 1048576 = lie.segments_lie i s (slice_get_read image.segments (length image.segments) i s refl below is) (omega arith) in
    omega arith

-- and of a guest
pub guest_fits : (image : Image) (guests : List Guest) (ram_mib i : ℕ) (g : Guest) → LieInRam image guests ram_mib → i < length guests → g ≡ get_or guests i g → 0 < length g.bytes → g.at + length g.bytes ≤ ram_mib * 1048576
guest_fits image guests ram_mib i g lie below is some = lie.guests_lie i g (slice_get_read guests (length guests) i g refl below is) some
