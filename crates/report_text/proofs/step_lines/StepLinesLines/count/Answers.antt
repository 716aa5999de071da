use Rattle.std.proofs.Common.{◌∙◌, sym}
use Rattle.report_text.specs.StepText.{step_line}
use Rattle.report_text.proofs.WordLemmas.{length-numbered}
use Rattle.report_text.proofs.step_lines.StepLinesLines.count.Goals as goal

pub returns : goal.returns
returns c = c.counts.ensures.steps ∙ sym (length-numbered step_line 0 _)
