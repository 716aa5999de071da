-- Words after a text, and the lines of rows by their numbers.
use Rattle.std.proofs.Common.{◌≡◌, ℕ, zero, suc, ◌+◌, ◌<◌, ◌≤◌, ◌^◌, List, [], ◌∷◌, ◌++◌, length, take, map, get_or, Some, None, refl, ap, ◌∙◌, arith, length-append}
use Rattle.std.specs.Prelude.{codes, slice_get}
use Rattle.std.specs.Fmt.{decimal}
use Rattle.std.proofs.lemmas.Fmt.{length-decimal-le}
use Rattle.std.proofs.lemmas.List.{take_more, map-append}
use Rattle.journal_core.specs.declared.rows.Use.{Use}
use Rattle.report_text.specs.Words.{with_words, numbered}
use Rattle.report_text.specs.StepText.{use_text}

pub with_words-append : (text : List ℕ) (front back : List (List ℕ)) → with_words text (front ++ back) ≡ with_words (with_words text front) back
with_words-append text [] back = refl
with_words-append text (word ∷ words) back = with_words-append (text ++ codes " " ++ word) words back

-- one use more
pub uses_next : (text : List ℕ) (uses : List Use) (k : ℕ) (d : Use) → k < length uses → with_words text (map use_text (take (k + 1) uses)) ≡ with_words text (map use_text (take k uses)) ++ codes " " ++ use_text (get_or uses k d)
uses_next text uses k d lt =
    ap (λ (us : List Use). with_words text (map use_text us)) (take_more uses k d lt)
    ∙ ap (with_words text) (map-append use_text (take k uses) (get_or uses k d ∷ []))
    ∙ with_words-append text (map use_text (take k uses)) (use_text (get_or uses k d) ∷ [])

pub length-numbered : {R : Type 0} (line : ℕ → R → List ℕ) (number : ℕ) (rows : List R) → length (numbered line number rows) ≡ length rows
length-numbered line number [] = refl
length-numbered line number (row ∷ rows) = omega (arith, length-numbered line (number + 1) rows)

get-numbered_from : {R : Type 0} (line : ℕ → R → List ℕ) (number : ℕ) (rows : List R) (k : ℕ) (row : R) → slice_get rows k ≡ Some row → slice_get (numbered line number rows) k ≡ Some (line (number + k) row)
get-numbered_from line number [] k row e = absurd cc
get-numbered_from line number (first ∷ rows) zero row e = let n : number + 0 ≡ number = omega arith in let same : first ≡ row = cc in rw (n, same) refl
get-numbered_from line number (first ∷ rows) (suc k) row e =
    let n : number + 1 + k ≡ number + suc k = omega arith in
    get-numbered_from line (number + 1) rows k row e ∙ rw n refl

-- the line of row k
pub get-numbered : {R : Type 0} (line : ℕ → R → List ℕ) (rows : List R) (k : ℕ) (row : R) → slice_get rows k ≡ Some row → slice_get (numbered line 0 rows) k ≡ Some (line k row)
get-numbered line rows k row is = let n : 0 + k ≡ k = omega arith in get-numbered_from line 0 rows k row is ∙ rw n refl

-- there is a row below the number of lines
pub no_row_past : {R : Type 0} (line : ℕ → R → List ℕ) (rows : List R) (k : ℕ) → k < length (numbered line 0 rows) → slice_get rows k ≡ None → ⊥
no_row_past {R} line rows k lt e = there rows k (omega (arith, length-numbered line 0 rows)) e
  where
    there : (rs : List R) (i : ℕ) → i < length rs → slice_get rs i ≡ None → ⊥
    there [] i lt e = absurd (omega arith)
    there (r ∷ rs) zero lt e = absurd cc
    there (r ∷ rs) (suc i) lt e = there rs i (omega arith) e

-- one number more
pub numbers_next : (text : List ℕ) (numbers : List ℕ) (k : ℕ) (d : ℕ) → k < length numbers → with_words text (map decimal (take (k + 1) numbers)) ≡ with_words text (map decimal (take k numbers)) ++ codes " " ++ decimal (get_or numbers k d)
numbers_next text numbers k d lt =
    ap (λ (ns : List ℕ). with_words text (map decimal ns)) (take_more numbers k d lt)
    ∙ ap (with_words text) (map-append decimal (take k numbers) (get_or numbers k d ∷ []))
    ∙ with_words-append text (map decimal (take k numbers)) (decimal (get_or numbers k d) ∷ [])

-- the room of a number of at most so many digits behind a space
pub length-number : (text : List ℕ) (digits n : ℕ) → 0 < digits → n < 10 ^ digits → n < 2 ^ 64 → length (text ++ codes " " ++ decimal n) ≤ length text + 1 + digits
length-number text digits n some few fits =
    omega (arith, length-append (text ++ codes " ") (decimal n), length-append text (codes " "), length-decimal-le digits n some few fits)
