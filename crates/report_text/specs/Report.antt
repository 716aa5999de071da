-- The report of a machine: how its run ended, how many steps it made, its threads, what its devices showed and, where it is
-- asked for, the rows of the run, as text.
use Rattle.std.specs.Prelude.{ℕ, Bool, if◌then◌else◌, List, [], ◌∷◌, ◌++◌, codes, length}
use Rattle.std.specs.Fmt.{decimal}
use Rattle.line_text.specs.Text.{hex, end_of_line, text_of}
use Rattle.thread_regs.specs.declared.registers.Thread.{Thread}
use Rattle.journal_core.specs.declared.rows.Ended.{Ended}
use Rattle.journal_core.specs.Rows.{Rows}
use Rattle.report_text.specs.EndText.{end_text}
use Rattle.report_text.specs.ThreadText.{thread_texts}
use Rattle.report_text.specs.ConsoleText.{console_lines}
use Rattle.report_text.specs.StepText.{step_lines}
use Rattle.report_text.specs.AccessText.{write_lines, device_lines}
use Rattle.report_text.specs.WalkText.{read_lines, fill_lines}

abbrev pub first_line : List ℕ
first_line = codes "radix 1" ++ end_of_line

-- how the run ended, in a text as `end_text` gives it
abbrev pub end_line : List ℕ → List ℕ
end_line text = codes "end " ++ text ++ end_of_line

abbrev pub steps_line : ℕ → List ℕ
steps_line steps = codes "steps " ++ decimal steps ++ end_of_line

abbrev pub tb_line : ℕ → List ℕ
tb_line tb = codes "tb " ++ hex 16 tb ++ end_of_line

-- the time base, which all threads share; there is always a thread 0
abbrev pub time_base : List Thread → ℕ
time_base [] = 0
time_base (first ∷ others) = first.tb

-- the lines before those of the threads
abbrev pub head_lines : Ended → ℕ → ℕ → List (List ℕ)
head_lines end steps tb = first_line ∷ end_line (end_text end) ∷ steps_line steps ∷ tb_line tb ∷ []

abbrev pub last_line : List ℕ
last_line = codes "." ++ end_of_line

-- what a report shows besides the threads and what the devices showed
pub record Flags : Type 0 where
  -- the step rows, the write rows and the device rows
  pub trace : Bool
  -- the read rows and the fill rows
  pub walks : Bool

-- the lines, where they are asked for
abbrev pub lines_if : Bool → List (List ℕ) → List ℕ
lines_if asked lines = if asked then text_of lines else []

-- the sections of a report, in their order
abbrev pub sections : Ended → List Thread → Rows → Flags → List (List ℕ)
sections end threads rows flags =
    text_of (head_lines end (length rows.steps) (time_base threads))
    ∷ text_of (thread_texts 0 threads)
    ∷ text_of (console_lines rows.devices)
    ∷ lines_if flags.trace (step_lines rows.steps)
    ∷ lines_if flags.trace (write_lines rows.writes)
    ∷ lines_if flags.trace (device_lines rows.devices)
    ∷ lines_if flags.walks (read_lines rows.reads)
    ∷ lines_if flags.walks (fill_lines rows.fills)
    ∷ last_line
    ∷ []

-- the report of a machine whose run ended so, with these threads and these rows
unfoldable pub report : Ended → List Thread → Rows → Flags → List ℕ
report end threads rows flags = text_of (sections end threads rows flags)
