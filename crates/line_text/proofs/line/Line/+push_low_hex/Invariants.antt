use Rattle.line_text.proofs.line.Line.+push_low_hex.Given as goal

abbrev pub decreases-push_low_hex : goal.decreases-push_low_hex
decreases-push_low_hex l = l.width
