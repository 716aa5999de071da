-- RAM as segments and guests are placed in it, one after another.
use Rattle.std.proofs.Common.{◌≡◌, ℕ, ◌+◌, ◌<◌, ◌≤◌, List, [], ◌∷◌, ◌++◌, length, take, drop, get_or, refl, sym, ap, ◌∙◌, arith}
use Rattle.std.proofs.lemmas.List.{take_more, take_all, append-nil, take-append-drop}
use Rattle.journal_core.specs.Bytes.{placed}
use Rattle.journal_core.proofs.BytesLemmas.{length-placed}
use Rattle.elf_image.specs.declared.segment.Segment.{Segment}
use Rattle.elf_image.specs.declared.guests.Guest.{Guest}
use Rattle.elf_image.specs.Start.{loaded, with_guests}

loaded-push : (ram : List ℕ) (ss : List Segment) (s : Segment) → loaded ram (ss ++ s ∷ []) ≡ placed (loaded ram ss) s.at s.bytes
loaded-push ram [] s = refl
loaded-push ram (first ∷ ss) s = loaded-push (placed ram first.at first.bytes) ss s

with_guests-push : (ram : List ℕ) (gs : List Guest) (g : Guest) → with_guests ram (gs ++ g ∷ []) ≡ placed (with_guests ram gs) g.at g.bytes
with_guests-push ram [] g = refl
with_guests-push ram (first ∷ gs) g = with_guests-push (placed ram first.at first.bytes) gs g

-- one segment more
pub loaded_more : (ram : List ℕ) (all : List Segment) (k : ℕ) (s : Segment) → k < length all → s ≡ get_or all k s → loaded ram (take (k + 1) all) ≡ placed (loaded ram (take k all)) s.at s.bytes
loaded_more ram all k s below is =
    let last : take (k + 1) all ≡ take k all ++ s ∷ [] = take_more all k s below ∙ ap (λ (x : Segment). take k all ++ x ∷ []) (sym is) in
    ap (λ (ss : List Segment). loaded ram ss) last ∙ loaded-push ram (take k all) s

-- all segments
pub all_loaded : (ram now : List ℕ) (all : List Segment) (k : ℕ) → length all ≤ k → now ≡ loaded ram (take k all) → now ≡ loaded ram all
all_loaded ram now all k le is = is ∙ ap (λ (ss : List Segment). loaded ram ss) (take_all k all le)

-- one guest more
pub with_guests_more : (ram : List ℕ) (all : List Guest) (k : ℕ) (g : Guest) → k < length all → g ≡ get_or all k g → with_guests ram (take (k + 1) all) ≡ placed (with_guests ram (take k all)) g.at g.bytes
with_guests_more ram all k g below is =
    let last : take (k + 1) all ≡ take k all ++ g ∷ [] = take_more all k g below ∙ ap (λ (x : Guest). take k all ++ x ∷ []) (sym is) in
    ap (λ (gs : List Guest). with_guests ram gs) last ∙ with_guests-push ram (take k all) g

-- all guests
pub all_with_guests : (ram now : List ℕ) (all : List Guest) (k : ℕ) → length all ≤ k → now ≡ with_guests ram (take k all) → now ≡ with_guests ram all
all_with_guests ram now all k le is = is ∙ ap (λ (gs : List Guest). with_guests ram gs) (take_all k all le)

-- storage keeps its length where bytes are placed in it, or none at all
pub length-placed_within : (ram : List ℕ) (at : ℕ) (bytes : List ℕ) → (0 < length bytes → at + length bytes ≤ length ram) → length (placed ram at bytes) ≡ length ram
unfolding placed
length-placed_within ram at [] within =
    let none : take at ram ++ [] ++ drop (at + 0) ram ≡ ram = let e : at + 0 ≡ at = omega arith in rw (e, append-nil (take at ram)) (take-append-drop at ram) in
    ap (λ (r : List ℕ). length r) none
length-placed_within ram at (b ∷ bs) within = length-placed ram at (b ∷ bs) (within (omega arith))
