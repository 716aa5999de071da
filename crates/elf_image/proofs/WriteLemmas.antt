-- The file of segments, one segment after another.
use Rattle.std.proofs.Common.{◌≡◌, ℕ, zero, suc, ◌+◌, ◌<◌, ◌≤◌, List, [], ◌∷◌, ◌++◌, length, take, get_or, ap, sym, ◌∙◌, arith, append_assoc, length-append}
use Rattle.std.proofs.lemmas.List.{take_more, append-nil}
use Rattle.elf_image.specs.declared.segment.Segment.{Segment}
use Rattle.elf_image.specs.Header.{program_header}
use Rattle.elf_image.specs.Written.{program_headers, bytes_of}

bytes_of-push : (ss : List Segment) (s : Segment) → bytes_of (ss ++ s ∷ []) ≡ bytes_of ss ++ s.bytes
bytes_of-push [] s = append-nil s.bytes
bytes_of-push (t ∷ ts) s = ap (λ (r : List ℕ). t.bytes ++ r) (bytes_of-push ts s) ∙ sym (append_assoc t.bytes (bytes_of ts) s.bytes)

program_headers-push : (ss : List Segment) (s : Segment) (offset : ℕ) → program_headers offset (ss ++ s ∷ []) ≡ program_headers offset ss ++ program_header (offset + length (bytes_of ss)) s.at (length s.bytes) s.size
program_headers-push [] s offset = let e : offset + 0 ≡ offset = omega arith in rw e (append-nil (program_header offset s.at (length s.bytes) s.size))
program_headers-push (t ∷ ts) s offset =
    let e : offset + length t.bytes + length (bytes_of ts) ≡ offset + length (t.bytes ++ bytes_of ts) = omega (arith, length-append t.bytes (bytes_of ts)) in
    let first : List ℕ = program_header offset t.at (length t.bytes) t.size in
    ap (λ (r : List ℕ). first ++ r) (rw e at (program_headers-push ts s (offset + length t.bytes)))
    ∙ sym (append_assoc first (program_headers (offset + length t.bytes) ts) (program_header (offset + length (t.bytes ++ bytes_of ts)) s.at (length s.bytes) s.size))

-- one segment more
pub bytes_of-more : (ss : List Segment) (i : ℕ) (s : Segment) → i < length ss → s ≡ get_or ss i s → bytes_of (take (i + 1) ss) ≡ bytes_of (take i ss) ++ s.bytes
bytes_of-more ss i s lt is =
    ap bytes_of (take_more ss i s lt ∙ ap (λ (t : Segment). take i ss ++ t ∷ []) (sym is)) ∙ bytes_of-push (take i ss) s

pub length-bytes_of-more : (ss : List Segment) (i : ℕ) (s : Segment) → i < length ss → s ≡ get_or ss i s → length (bytes_of (take (i + 1) ss)) ≡ length (bytes_of (take i ss)) + length s.bytes
length-bytes_of-more ss i s lt is = ap (λ (b : List ℕ). length b) (bytes_of-more ss i s lt is) ∙ length-append (bytes_of (take i ss)) s.bytes

pub program_headers-more : (ss : List Segment) (i : ℕ) (s : Segment) (offset : ℕ) → i < length ss → s ≡ get_or ss i s → program_headers offset (take (i + 1) ss) ≡ program_headers offset (take i ss) ++ program_header (offset + length (bytes_of (take i ss))) s.at (length s.bytes) s.size
program_headers-more ss i s offset lt is =
    ap (program_headers offset) (take_more ss i s lt ∙ ap (λ (t : Segment). take i ss ++ t ∷ []) (sym is)) ∙ program_headers-push (take i ss) s offset

pub length-bytes_of-take : (ss : List Segment) (i : ℕ) → length (bytes_of (take i ss)) ≤ length (bytes_of ss)
length-bytes_of-take [] zero = omega arith
length-bytes_of-take [] (suc i) = omega arith
length-bytes_of-take (s ∷ ss) zero = omega arith
length-bytes_of-take (s ∷ ss) (suc i) =
    let rest = length-bytes_of-take ss i in
    omega (arith, length-append s.bytes (bytes_of (take i ss)), length-append s.bytes (bytes_of ss))
