-- A file has one image or one fault.
use Rattle.std.proofs.Common.{◌≡◌, ◌≢◌, ℕ, ◌+◌, ◌^◌, ◌≤◌, List, [], ◌∷◌, length, map, Result, Ok, Err, refl, sym, ap, ◌∙◌, subst}
use Rattle.std.proofs.Math.Bridge.{le_prop}
use Rattle.elf_image.specs.declared.segment.Segment.{Segment}
use Rattle.elf_image.specs.declared.image.Image.{Image}
use Rattle.elf_image.specs.declared.fault.ElfFault.{ElfFault}
use Rattle.elf_image.specs.declared.fault.ElfFault.TheVariants as faults
use Rattle.elf_image.specs.Parts.{SegmentParts, ImageParts, segment_parts, image_parts}
use Rattle.elf_image.specs.Grammar.{image_of}
use Rattle.elf_image.specs.IsImage.{IsImage, IsImageFault}

-- a segment of these parts
abbrev made : (at size : ℕ) (bytes : List ℕ) → length bytes ≤ size → at + size ≤ 2 ^ 64 → Segment
made at size bytes holds ends = record { at = at; size = size; bytes = bytes; holds_bytes = holds; ends = ends }

same_proofs : (at size : ℕ) (bytes : List ℕ) (h h' : length bytes ≤ size) (e e' : at + size ≤ 2 ^ 64) → made at size bytes h e ≡ made at size bytes h' e'
same_proofs at size bytes h h' e e' =
    ap (λ (x : length bytes ≤ size). made at size bytes x e) (le_prop h h') ∙ ap (λ (x : at + size ≤ 2 ^ 64). made at size bytes h' x) (le_prop e e')

same_made : (at at' size size' : ℕ) (bytes bytes' : List ℕ) → at ≡ at' → size ≡ size' → bytes ≡ bytes'
    → (h : length bytes ≤ size) (e : at + size ≤ 2 ^ 64) (h' : length bytes' ≤ size') (e' : at' + size' ≤ 2 ^ 64)
    → made at size bytes h e ≡ made at' size' bytes' h' e'
same_made at at' size size' bytes bytes' p q r h e h' e' =
    subst (λ (a : ℕ). (f : a + size' ≤ 2 ^ 64) → made at size bytes h e ≡ made a size' bytes' h' f) p
    (subst (λ (z : ℕ). (g : length bytes' ≤ z) (f : at + z ≤ 2 ^ 64) → made at size bytes h e ≡ made at z bytes' g f) q
    (subst (λ (b : List ℕ). (g : length b ≤ size) (f : at + size ≤ 2 ^ 64) → made at size bytes h e ≡ made at size b g f) r
    (λ g f. same_proofs at size bytes h g e f)) h') e'

-- segments are the same where their parts are
same_segment : (s t : Segment) → segment_parts s ≡ segment_parts t → s ≡ t
same_segment s t is =
    same_made s.at t.at s.size t.size s.bytes t.bytes (ap (λ (p : SegmentParts). p.at) is) (ap (λ (p : SegmentParts). p.size) is) (ap (λ (p : SegmentParts). p.bytes) is) s.holds_bytes s.ends t.holds_bytes t.ends

same_head : {X : Type 0} (x y : X) (xs ys : List X) → x ∷ xs ≡ y ∷ ys → x ≡ y
same_head x y xs ys is = cc

same_tail : {X : Type 0} (x y : X) (xs ys : List X) → x ∷ xs ≡ y ∷ ys → xs ≡ ys
same_tail x y xs ys is = cc

same_segments : (ss ts : List Segment) → map segment_parts ss ≡ map segment_parts ts → ss ≡ ts
same_segments [] [] is = refl
same_segments [] (t ∷ ts) is = cc
same_segments (s ∷ ss) [] is = cc
same_segments (s ∷ ss) (t ∷ ts) is =
    let first : s ≡ t = same_segment s t (same_head (segment_parts s) (segment_parts t) (map segment_parts ss) (map segment_parts ts) is) in
    let rest : ss ≡ ts = same_segments ss ts (same_tail (segment_parts s) (segment_parts t) (map segment_parts ss) (map segment_parts ts) is) in
    ap (λ (x : Segment). x ∷ ss) first ∙ ap (λ (xs : List Segment). t ∷ xs) rest

same_image : (i j : Image) → image_parts i ≡ image_parts j → i ≡ j
same_image i j is =
    let entries : i.entry ≡ j.entry = ap (λ (p : ImageParts). p.entry) is in
    let lists : i.segments ≡ j.segments = same_segments i.segments j.segments (ap (λ (p : ImageParts). p.segments) is) in
    let made_of : ℕ → List Segment → Image = λ e ss. record { entry = e; segments = ss } in
    ap (λ (e : ℕ). made_of e i.segments) entries ∙ ap (λ (ss : List Segment). made_of j.entry ss) lists

pub same_ok : {A E : Type 0} (a b : A) → ◌≡◌ {A = Result A E} (Ok a) (Ok b) → a ≡ b
same_ok a b is = cc

pub one_image : (bytes : List ℕ) (i j : Image) → IsImage bytes i → IsImage bytes j → i ≡ j
one_image bytes i j is_i is_j =
    same_image i j (same_ok {E = ElfFault} (image_parts i) (image_parts j) (sym is_i ∙ is_j))

-- what a fault other than want of memory says
first_fault : (bytes : List ℕ) (f : ElfFault) → f ≢ faults.Memory → IsImageFault bytes f → image_of bytes ≡ Err f
first_fault bytes faults.Short other is = is
first_fault bytes faults.Magic other is = is
first_fault bytes faults.Class other is = is
first_fault bytes faults.Order other is = is
first_fault bytes faults.Machine other is = is
first_fault bytes faults.Abi other is = is
first_fault bytes faults.FileType other is = is
first_fault bytes faults.Header other is = is
first_fault bytes faults.TooMany other is = is
first_fault bytes (faults.Segment i) other is = is
first_fault bytes (faults.Overlap i j) other is = is
first_fault bytes faults.Memory other is = absurd (other refl)

same_err : {A E : Type 0} (f g : E) → ◌≡◌ {A = Result A E} (Err f) (Err g) → f ≡ g
same_err f g is = cc

pub not_both : {A E : Type 0} (a : A) (e : E) → ◌≡◌ {A = Result A E} (Ok a) (Err e) → ⊥
not_both a e is = cc

pub one_fault : (bytes : List ℕ) (f g : ElfFault) → f ≢ faults.Memory → g ≢ faults.Memory → IsImageFault bytes f → IsImageFault bytes g → f ≡ g
one_fault bytes f g other_f other_g is_f is_g =
    same_err {A = ImageParts} f g (sym (first_fault bytes f other_f is_f) ∙ first_fault bytes g other_g is_g)

pub image_or_fault : (bytes : List ℕ) (i : Image) (f : ElfFault) → f ≢ faults.Memory → IsImage bytes i → IsImageFault bytes f → ⊥
image_or_fault bytes i f other is fails = not_both (image_parts i) f (sym is ∙ first_fault bytes f other fails)
