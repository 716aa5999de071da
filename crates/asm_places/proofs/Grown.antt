-- The last segment of a list.
use Rattle.std.proofs.Common.{◌≡◌, ◌<◌, ◌≤◌, ℕ, ◌+◌, ◌-◌, List, [], ◌∷◌, length, get_or, set, suc, zero, slice_get, Some, ap, arith}
use Rattle.asm_places.specs.Places.{grown, address_of, end_of}
use Rattle.asm_places.specs.Keeping.{HaveAtMost}
use Rattle.asm_places.specs.declared.places.SegmentLine.{SegmentLine}

-- a segment with n more bytes
abbrev pub longer : ℕ → SegmentLine → SegmentLine
longer n s = record { line = s.line; base = s.base; size = s.size + n }

-- a write of the last one
pub grown_at : (n : ℕ) (ss : List SegmentLine) (i : ℕ) (s : SegmentLine) → i + 1 ≡ length ss → s ≡ get_or ss i s → set ss i (longer n s) ≡ grown n ss
grown_at n [] i s e h = absurd (omega arith)
grown_at n (x ∷ []) zero s e h = ap (λ r. longer n r ∷ []) h
grown_at n (x ∷ []) (suc i) s e h = absurd (omega arith)
grown_at n (x ∷ y ∷ ys) zero s e h = absurd (omega arith)
grown_at n (x ∷ y ∷ ys) (suc i) s e h = ap (λ r. x ∷ r) (grown_at n (y ∷ ys) i s (omega arith) h)

-- has no more bytes than each may have
pub most_at : (most : ℕ) (ss : List SegmentLine) (i : ℕ) (s : SegmentLine) → HaveAtMost most ss → i < length ss → s ≡ get_or ss i s → s.size ≤ most
most_at most [] i s m l h = absurd (omega arith)
most_at most (x ∷ xs) zero s m l h = let e = ap (λ r. r.size) h in omega arith
most_at most (x ∷ xs) (suc i) s m l h = most_at most xs i s m.2 (omega arith) h

-- and gives the address
pub address_at : (ss : List SegmentLine) (i : ℕ) (s : SegmentLine) → i ≡ length ss - 1 → slice_get ss i ≡ Some s → address_of ss ≡ Some (end_of s)
address_at [] i s e h = cc
address_at (x ∷ []) zero s e h = let j : x ≡ s = cc in ap (λ r. Some (end_of r)) j
address_at (x ∷ []) (suc i) s e h = absurd (omega arith)
address_at (x ∷ y ∷ ys) zero s e h = absurd (omega arith)
address_at (x ∷ y ∷ ys) (suc i) s e h = address_at (y ∷ ys) i s (omega arith) h
