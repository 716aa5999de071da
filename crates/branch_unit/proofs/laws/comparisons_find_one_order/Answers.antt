use Rattle.std.specs.Prelude.{int_lt}
use Rattle.std.specs.Ordering.{int_eq}
use Rattle.branch_unit.specs.Compare.{compare_of, signed_number, unsigned_number}
use Rattle.branch_unit.proofs.LawLemmas.{one_order}
use Rattle.branch_unit.proofs.laws.comparisons_find_one_order.Goals as goal

pub returns : goal.returns
unfolding compare_of
returns c bf ra rb a b wide value xer = (
  one_order (int_lt (signed_number wide a) value) (int_eq (signed_number wide a) value) xer.so,
  one_order (int_lt (unsigned_number wide a) value) (int_eq (unsigned_number wide a) value) xer.so,
  one_order (int_lt (signed_number wide a) (signed_number wide b)) (int_eq (signed_number wide a) (signed_number wide b)) xer.so,
  one_order (int_lt (unsigned_number wide a) (unsigned_number wide b)) (int_eq (unsigned_number wide a) (unsigned_number wide b)) xer.so,
)
