-- The first line of a source.
use Rattle.std.proofs.Common.{◌≡◌, ◌<◌, ℕ, suc, zero, List, [], ◌∷◌, length, get_or, take, drop, ap, ◌∙◌, arith}
use Rattle.asm_places.specs.Lines.{lines_of, and_lines}

-- the bytes before n are no newline
pub record NoneBefore (bs : List ℕ) (n : ℕ) : Type 0 where
  pub none : (k : ℕ) → k < n → get_or bs k 0 ≡ 10 → ⊥

inner : (b : ℕ) (bs : List ℕ) (n : ℕ) → NoneBefore (b ∷ bs) (suc n) → NoneBefore bs n
inner b bs n h = record { none = λ k l e. h.none (suc k) (omega arith) e }

at_newline : (b : ℕ) (bs : List ℕ) → b ≡ 10 → lines_of (b ∷ bs) ≡ [] ∷ lines_of bs
at_newline b bs e = grind arith

at_other : (b : ℕ) (bs : List ℕ) → (b ≡ 10 → ⊥) → lines_of (b ∷ bs) ≡ and_lines b (lines_of bs)
at_other b bs e = grind arith

-- the line up to a newline
pub line_before : (bs : List ℕ) (n : ℕ) → n < length bs → NoneBefore bs n → get_or bs n 0 ≡ 10 → lines_of bs ≡ take n bs ∷ lines_of (drop (suc n) bs)
line_before [] n l h e = absurd (omega arith)
line_before (b ∷ bs) zero l h e = at_newline b bs e
line_before (b ∷ bs) (suc n) l h e =
    at_other b bs (h.none 0 (omega arith)) ∙ ap (and_lines b) (line_before bs n (omega arith) (inner b bs n h) e)

-- the only line of a source with no newline
pub only_line : (bs : List ℕ) → 0 < length bs → NoneBefore bs (length bs) → lines_of bs ≡ bs ∷ []
only_line [] l h = absurd (omega arith)
only_line (b ∷ []) l h = at_other b [] (h.none 0 (omega arith))
only_line (b ∷ x ∷ xs) l h =
    at_other b (x ∷ xs) (h.none 0 (omega arith)) ∙ ap (and_lines b) (only_line (x ∷ xs) (omega arith) (inner b (x ∷ xs) (length (x ∷ xs)) h))
