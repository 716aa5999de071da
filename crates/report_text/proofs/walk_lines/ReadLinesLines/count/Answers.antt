use Rattle.std.proofs.Common.{◌∙◌, sym}
use Rattle.report_text.specs.WalkText.{read_line}
use Rattle.report_text.proofs.WordLemmas.{length-numbered}
use Rattle.report_text.proofs.walk_lines.ReadLinesLines.count.Goals as goal

pub returns : goal.returns
returns c = c.counts.ensures.reads ∙ sym (length-numbered read_line 0 _)
