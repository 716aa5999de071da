use Rattle.std.proofs.Common.{◌≡◌, ◌+◌, ◌*◌, ◌≤◌, length, map, take}
use Rattle.report_text.specs.Words.{with_words}
use Rattle.report_text.specs.StepText.{use_text}
use Rattle.report_text.proofs.step_lines.push_uses.Given as goal

abbrev pub invariant-loop-used : goal.invariant-loop-used
invariant-loop-used l =
    (l.line ≡ with_words l.fn.line (map use_text (take l.used-index l.uses)))
    × (length l.line ≤ length l.fn.line + 43 * l.used-index)
