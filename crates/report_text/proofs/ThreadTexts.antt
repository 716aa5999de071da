-- The texts of the threads, by their numbers.
use Rattle.std.proofs.Common.{◌≡◌, ℕ, zero, suc, ◌+◌, ◌<◌, List, [], ◌∷◌, length, get_or, Some, refl, ◌∙◌, arith}
use Rattle.std.specs.Prelude.{slice_get}
use Rattle.thread_regs.specs.declared.registers.Thread.{Thread}
use Rattle.line_text.specs.Text.{text_of}
use Rattle.report_text.specs.ThreadText.{thread_lines, thread_texts}

pub length-thread_texts : (number : ℕ) (ts : List Thread) → length (thread_texts number ts) ≡ length ts
length-thread_texts number [] = refl
length-thread_texts number (t ∷ ts) = omega (arith, length-thread_texts (number + 1) ts)

get-thread_texts : (number : ℕ) (ts : List Thread) (k : ℕ) (d : Thread) → k < length ts → slice_get (thread_texts number ts) k ≡ Some (text_of (thread_lines (number + k) (get_or ts k d)))
get-thread_texts number [] k d lt = absurd (omega arith)
get-thread_texts number (t ∷ ts) zero d lt = let n : number + 0 ≡ number = omega arith in rw n refl
get-thread_texts number (t ∷ ts) (suc k) d lt =
    let n : number + 1 + k ≡ number + suc k = omega arith in
    get-thread_texts (number + 1) ts k d (omega arith) ∙ rw n refl

-- the text of thread k
pub text_of_thread : (ts : List Thread) (k : ℕ) (d : Thread) → k < length ts → slice_get (thread_texts 0 ts) k ≡ Some (text_of (thread_lines k (get_or ts k d)))
text_of_thread ts k d lt = let n : 0 + k ≡ k = omega arith in get-thread_texts 0 ts k d lt ∙ rw n refl
