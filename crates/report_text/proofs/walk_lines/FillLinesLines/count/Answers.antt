use Rattle.std.proofs.Common.{◌∙◌, sym}
use Rattle.report_text.specs.WalkText.{fill_line}
use Rattle.report_text.proofs.WordLemmas.{length-numbered}
use Rattle.report_text.proofs.walk_lines.FillLinesLines.count.Goals as goal

pub returns : goal.returns
returns c = c.counts.ensures.fills ∙ sym (length-numbered fill_line 0 _)
