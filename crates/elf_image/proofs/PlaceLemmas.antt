-- The first of some ranges that meets one, and the first that has no place.
use Rattle.std.proofs.Common.{◌≡◌, ℕ, ◌+◌, ◌<◌, ◌≤◌, Bool, true, false, List, [], ◌∷◌, ◌++◌, length, take, drop, Option, Some, None, refl, ap, sym, ◌∙◌, arith}
use Rattle.std.specs.List.{find, slice_get}
use Rattle.std.proofs.lemmas.List.{take_more, drop_more, take-take, take-append-drop, drop_all}
use Rattle.std.proofs.lemmas.List.Folds.{find-append}
use Rattle.std.proofs.lemmas.Option.{get_or_from_slice_get, slice_get_within}
use Rattle.elf_image.specs.declared.address_range.AddressRange.{AddressRange}
use Rattle.elf_image.specs.declared.segment.Segment.{Segment}
use Rattle.elf_image.specs.declared.guests.Guest.{Guest}
use Rattle.elf_image.specs.declared.image.Image.{Image}
use Rattle.elf_image.specs.Ranges.{ranges_of}
use Rattle.elf_image.specs.Places.{rival_of, pair_or, bad_pair, spans_of, ram_range, bad_place_of}

pub take-next : {X : Type 0} (xs : List X) (i : ℕ) (x : X) → slice_get xs i ≡ Some x → take (i + 1) xs ≡ take i xs ++ x ∷ []
take-next xs i x is =
    take_more xs i x (slice_get_within xs i x is) ∙ ap (λ (y : _). take i xs ++ y ∷ []) (get_or_from_slice_get xs i x x is)

pub drop-next : {X : Type 0} (xs : List X) (i : ℕ) (x : X) → slice_get xs i ≡ Some x → drop i xs ≡ x ∷ drop (i + 1) xs
drop-next xs i x is =
    drop_more xs i x (slice_get_within xs i x is) ∙ ap (λ (y : _). y ∷ drop (i + 1) xs) (get_or_from_slice_get xs i x x is)

pub find-next : {X : Type 0} (p : X → Bool) (xs : List X) (i : ℕ) (x : X) → slice_get xs i ≡ Some x → find p (take i xs) ≡ None → p x ≡ false → find p (take (i + 1) xs) ≡ None
find-next p xs i x is none fails = rw (take-next xs i x is, find-append p (take i xs) (x ∷ []), none, fails) refl

pub find-first : {X : Type 0} (p : X → Bool) (xs : List X) (n i : ℕ) (x : X) → i < n → slice_get xs i ≡ Some x → find p (take i xs) ≡ None → p x ≡ true → find p (take n xs) ≡ Some x
find-first p xs n i x lt is none passes =
    let le : i + 1 ≤ n = omega arith in
    let front : take (i + 1) (take n xs) ≡ take i xs ++ x ∷ [] = take-take (i + 1) n xs le ∙ take-next xs i x is in
    let parts : take n xs ≡ (take i xs ++ x ∷ []) ++ drop (i + 1) (take n xs) = sym (take-append-drop (i + 1) (take n xs)) ∙ ap (λ (f : _). f ++ drop (i + 1) (take n xs)) front in
    rw (parts, find-append p (take i xs ++ x ∷ []) (drop (i + 1) (take n xs)), find-append p (take i xs) (x ∷ []), none, passes) refl

-- a range that has its place, and the one after it
pub bad_pair-next : (ram : AddressRange) (rs : List AddressRange) (i : ℕ) (a : AddressRange) (whole : Option (AddressRange × AddressRange)) → slice_get rs i ≡ Some a → rival_of ram (take i rs) a ≡ None → bad_pair ram (take i rs) (drop i rs) ≡ whole → bad_pair ram (take (i + 1) rs) (drop (i + 1) rs) ≡ whole
bad_pair-next ram rs i a whole is none so_far =
    let next : bad_pair ram (take i rs) (drop i rs) ≡ pair_or a (rival_of ram (take i rs) a) (bad_pair ram (take i rs ++ a ∷ []) (drop (i + 1) rs)) = ap (bad_pair ram (take i rs)) (drop-next rs i a is) in
    let none_here : pair_or a (rival_of ram (take i rs) a) (bad_pair ram (take i rs ++ a ∷ []) (drop (i + 1) rs)) ≡ bad_pair ram (take i rs ++ a ∷ []) (drop (i + 1) rs) = ap (λ (o : Option AddressRange). pair_or a o (bad_pair ram (take i rs ++ a ∷ []) (drop (i + 1) rs))) none in
    ap (λ (f : List AddressRange). bad_pair ram f (drop (i + 1) rs)) (take-next rs i a is) ∙ sym none_here ∙ sym next ∙ so_far

-- the first range without a place
pub bad_pair-first : (ram : AddressRange) (rs : List AddressRange) (i : ℕ) (a b : AddressRange) (whole : Option (AddressRange × AddressRange)) → slice_get rs i ≡ Some a → rival_of ram (take i rs) a ≡ Some b → bad_pair ram (take i rs) (drop i rs) ≡ whole → whole ≡ Some (a, b)
bad_pair-first ram rs i a b whole is some so_far =
    let next : bad_pair ram (take i rs) (drop i rs) ≡ pair_or a (rival_of ram (take i rs) a) (bad_pair ram (take i rs ++ a ∷ []) (drop (i + 1) rs)) = ap (bad_pair ram (take i rs)) (drop-next rs i a is) in
    sym so_far ∙ next ∙ ap (λ (o : Option AddressRange). pair_or a o (bad_pair ram (take i rs ++ a ∷ []) (drop (i + 1) rs))) some

-- no range is left
pub bad_pair-none : (ram : AddressRange) (rs : List AddressRange) (i : ℕ) (whole : Option (AddressRange × AddressRange)) → length rs ≤ i → bad_pair ram (take i rs) (drop i rs) ≡ whole → whole ≡ None
bad_pair-none ram rs i whole le so_far = sym so_far ∙ ap (bad_pair ram (take i rs)) (drop_all i rs le)

-- what is told of the first pair
pub bad_place-told : (image : Image) (guests gs : List Guest) (ram_mib : ℕ) (ss : List Segment) (ram : AddressRange) (pair : Option (AddressRange × AddressRange)) → ss ≡ image.segments → gs ≡ guests → ram ≡ ram_range ram_mib → bad_pair ram [] (ranges_of ss gs) ≡ pair → bad_place_of image guests ram_mib ≡ spans_of pair
unfolding bad_place_of
bad_place-told image guests gs ram_mib ss ram pair same_segments same_guests same_ram is =
    ap spans_of (rw (← same_segments, ← same_guests, ← same_ram) is)
