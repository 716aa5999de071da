-- Step rows, as text.
use Rattle.std.specs.Prelude.{ℕ, List, [], ◌∷◌, ◌++◌, codes, map, Option, Some, None}
use Rattle.std.specs.Fmt.{decimal}
use Rattle.line_text.specs.Text.{hex}
use Rattle.journal_core.specs.declared.rows.StepEnd.{StepEnd}
use Rattle.journal_core.specs.declared.rows.StepEnd.TheVariants as ends
use Rattle.journal_core.specs.declared.rows.Use.{Use}
use Rattle.journal_core.specs.declared.rows.Use.TheVariants.{Unused, Real, Hit, Walked, Faulted}
use Rattle.journal_core.specs.declared.rows.StepRow.{StepRow}
use Rattle.interrupts.specs.Table.{offset_of}
use Rattle.report_text.specs.declared.step_ends.LineEnd.{LineEnd}
use Rattle.report_text.specs.declared.step_ends.LineEnd.TheVariants.{Ran, Took, Stop}
use Rattle.report_text.specs.EndText.{stop_name}
use Rattle.report_text.specs.Words.{line_of, numbered}

-- how the line of a step says that it ended so: a taken cause is told by its offset alone
abbrev pub line_end : StepEnd → LineEnd
line_end ends.Ran = Ran
line_end (ends.Took cause) = Took (offset_of cause)
line_end (ends.Stopped name value) = Stop name value

-- the name of an end
abbrev pub end_name : LineEnd → List ℕ
end_name Ran = codes "ran"
end_name (Took offset) = codes "took"
end_name (Stop name value) = codes "stop"

-- what more an end tells
abbrev pub end_words : LineEnd → List (List ℕ)
end_words Ran = []
end_words (Took offset) = hex 3 offset ∷ []
end_words (Stop name value) = stop_name name ∷ hex 16 value ∷ []

-- the word of an instruction, where it was fetched
abbrev pub word_text : Option ℕ → List ℕ
word_text None = codes "-"
word_text (Some word) = hex 8 word

-- what answered an ask: a real address, a fill with one, or the first read of a fault and how many it has
abbrev pub use_text : Use → List ℕ
use_text Unused = codes "-"
use_text (Real at) = codes "R" ++ hex 16 at
use_text (Hit fill at) = codes "H" ++ decimal fill ++ codes ":" ++ hex 16 at
use_text (Walked fill at) = codes "W" ++ decimal fill ++ codes ":" ++ hex 16 at
use_text (Faulted first count) = codes "F" ++ decimal first ++ codes "+" ++ decimal count

-- the words of a step: its number, its thread, its end, the address and the word of its instruction, what more its end
-- tells, and what answered its asks
abbrev pub step_words : ℕ → ℕ → LineEnd → ℕ → Option ℕ → List Use → List (List ℕ)
step_words number thread end cia word uses =
    codes "s" ∷ decimal number ∷ decimal thread ∷ end_name end ∷ hex 16 cia ∷ word_text word ∷ (end_words end ++ map use_text uses)

-- the line of a step row with its number
abbrev pub step_line : ℕ → StepRow → List ℕ
step_line number row = line_of (step_words number row.thread (line_end row.end) row.cia row.word row.uses)

-- the lines of the step rows of a run
abbrev pub step_lines : List StepRow → List (List ℕ)
step_lines rows = numbered step_line 0 rows
