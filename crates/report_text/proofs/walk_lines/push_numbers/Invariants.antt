use Rattle.std.proofs.Common.{◌≡◌, ◌+◌, ◌*◌, ◌≤◌, length, map, take}
use Rattle.std.specs.Fmt.{decimal}
use Rattle.report_text.specs.Words.{with_words}
use Rattle.report_text.proofs.walk_lines.push_numbers.Given as goal

abbrev pub invariant-loop-number : goal.invariant-loop-number
invariant-loop-number l =
    (l.line ≡ with_words l.fn.line (map decimal (take l.number-index l.numbers)))
    × (length l.line ≤ length l.fn.line + 11 * l.number-index)
