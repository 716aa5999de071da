-- The schedule of one thread.
use Rattle.std.proofs.Common.{◌≡◌, ℕ, ◌%◌, Some, refl, arith}
use Rattle.std.specs.Prelude.{Result, Ok, Err, Bool, true, false, List, if◌then◌else◌}
use Rattle.std.specs.Str.{bytes_eq}
use Rattle.sched_text.specs.Plan.{Plan, turn}
use Rattle.sched_text.specs.Reading.{plan_of, one_thread, one_thread_text}

-- its turn is always that of thread 0
pub turn-one_thread : (n : ℕ) → turn one_thread n ≡ Some 0
turn-one_thread n =
    let zero_left : n % 1 ≡ 0 = omega arith in
    rw zero_left refl

only : (b : Bool) (p : Plan) (place : ℕ) (read : Result Plan ℕ) → read ≡ (if b then Ok one_thread else Err place) → read ≡ Ok p → p ≡ one_thread
only true p place read is ok = cc
only false p place read is ok = absurd cc

-- no other plan is read
pub plan_of-one_thread : (bytes : List ℕ) (p : Plan) → plan_of bytes ≡ Ok p → p ≡ one_thread
plan_of-one_thread bytes p is = only (bytes_eq bytes one_thread_text) p 0 (plan_of bytes) refl is
