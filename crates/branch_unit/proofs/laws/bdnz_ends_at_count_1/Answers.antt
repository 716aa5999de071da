use Rattle.branch_unit.proofs.LawLemmas.{ends_at_one}
use Rattle.branch_unit.proofs.laws.bdnz_ends_at_count_1.Goals as goal

pub returns : goal.returns
returns c condition ctr h = ends_at_one condition ctr h
