-- What branches, traps and comparisons always do.
use Rattle.std.proofs.Common.{◌≡◌, ℕ, zero, suc, ◌^◌, ◌<◌, Bool, true, false, ◌||◌, not, eqb, refl, arith}
use Rattle.std.specs.Prelude.{nat_lt, int_lt}
use Rattle.std.proofs.lemmas.Bool.Decides.{nat_tests}
use Rattle.ppc_bits.specs.Bits.{signed_of}
use Rattle.ppc_ops.specs.Results.{field_of_order}
use Rattle.branch_unit.specs.Branch.{count_after, is_taken}
use Rattle.branch_unit.specs.Trap.{has_order}
use Rattle.branch_unit.specs.Laws.{HasOneOrder}

-- two numbers are equal, or one of them is the lesser one
some_order : (a b : ℕ) → (eqb a b || (nat_lt a b || nat_lt b a)) ≡ true
some_order a b = grind (arith, nat_tests)

or_true : (p q : Bool) → q ≡ true → (p || q) ≡ true
or_true true q h = refl
or_true false q h = h

pub traps_at_31 : (w a b : ℕ) → has_order w 31 a b ≡ true
traps_at_31 w a b = or_true (int_lt (signed_of w a) (signed_of w b) || int_lt (signed_of w b) (signed_of w a)) (eqb a b || (nat_lt a b || nat_lt b a)) (some_order a b)

pub one_order : (less equal so : Bool) → HasOneOrder (field_of_order less equal so)
one_order true true true = refl
one_order true true false = refl
one_order true false true = refl
one_order true false false = refl
one_order false true true = refl
one_order false true false = refl
one_order false false true = refl
one_order false false false = refl

pub ends_at_one : (condition ctr : ℕ) → ctr < 2 ^ 64 → is_taken 16 condition (count_after 16 ctr) ≡ not (eqb ctr 1)
ends_at_one condition zero h = refl
ends_at_one condition (suc zero) h = refl
ends_at_one condition (suc (suc n)) h = grind (arith, nat_tests)
