use Rattle.std.proofs.Common.{◌≡◌, drop}
use Rattle.asm_contents.specs.Contents as said
use Rattle.asm_contents.proofs.overlap.meets_one.Given as goal

-- none so far is met
abbrev pub invariant-loop-other : goal.invariant-loop-other
invariant-loop-other l = said.meets_one l.segment l.others ≡ said.meets_one l.segment (drop l.other-index l.others)
