use Rattle.asm_lex.proofs.Gaps.{blank_gap, comment_gap, no_blank_behind, no_blank_after, no_hash_after}
use Rattle.asm_lex.proofs.lexer.gap_length.Goals as goal

pub returns-then-bytes-blanks-eq35-clause-gap : goal.returns-then-bytes-blanks-eq35-clause-gap
returns-then-bytes-blanks-eq35-clause-gap c = comment_gap c.args.bytes.now c.run-blanks.result c.run.result c.run-blanks.ensures.run c.if-bytes-blanks-eq35.true c.run.ensures.run

pub returns-then-bytes-blanks-eq35-clause-no_blank : goal.returns-then-bytes-blanks-eq35-clause-no_blank
returns-then-bytes-blanks-eq35-clause-no_blank c = no_blank_after c.args.bytes.now c.run-blanks.result c.run.result c.run.ensures.run

pub returns-then-bytes-blanks-eq35-clause-no_hash : goal.returns-then-bytes-blanks-eq35-clause-no_hash
returns-then-bytes-blanks-eq35-clause-no_hash c = no_hash_after c.args.bytes.now c.run-blanks.result c.run.result c.run.ensures.run

pub returns-clause-gap : goal.returns-clause-gap
returns-clause-gap c = blank_gap c.args.bytes.now c.run-blanks.result c.run-blanks.ensures.run

pub returns-clause-no_blank : goal.returns-clause-no_blank
returns-clause-no_blank c = no_blank_behind c.args.bytes.now c.run-blanks.result c.run-blanks.ensures.run
