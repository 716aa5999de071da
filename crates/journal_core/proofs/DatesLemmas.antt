-- Rows in the order of their steps.
use Rattle.std.proofs.Common.{◌≡◌, ℕ, ◌+◌, ◌≤◌, List, [], ◌∷◌, ◌++◌, arith}
use Rattle.journal_core.specs.Steps.{InOrder}

-- one more row of the step that is being made
pub in_order_push : {R : Type 0} (number : R → ℕ) (low n : ℕ) (rows : List R) (row : R) → number row ≡ n → low ≤ n → InOrder number low (n + 1) rows → InOrder number low (n + 1) (rows ++ row ∷ [])
unfolding InOrder
in_order_push number low n [] row is below order = (omega (arith, is), omega (arith, is), tt)
in_order_push number low n (r ∷ rows) row is below order =
    (order.0, order.1, in_order_push number (number r) n rows row is (omega (arith, order.1)) order.2)

-- rows below a number are below a higher one
pub in_order_higher : {R : Type 0} (number : R → ℕ) (low high higher : ℕ) (rows : List R) → high ≤ higher → InOrder number low high rows → InOrder number low higher rows
unfolding InOrder
in_order_higher number low high higher [] above order = tt
in_order_higher number low high higher (r ∷ rows) above order =
    (order.0, omega (arith, order.1), in_order_higher number (number r) high higher rows above order.2)
