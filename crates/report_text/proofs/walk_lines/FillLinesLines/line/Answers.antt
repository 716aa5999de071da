use Rattle.std.proofs.Common.{◌∙◌, ap, sym, Some}
use Rattle.report_text.specs.WalkText.{fill_line}
use Rattle.report_text.proofs.WordLemmas.{get-numbered, no_row_past}
use Rattle.report_text.proofs.walk_lines.FillLinesLines.line.Goals as goal

pub returns-in-Some : goal.returns-in-Some
returns-in-Some c = get-numbered fill_line _ _ _ (sym c.in-Some.ensures) ∙ ap Some (sym c.make_fill_line.ensures)

pub returns-in_default : goal.returns-in_default
returns-in_default c = absurd (no_row_past fill_line _ _ c.requires (sym c.in_default.ensures))
