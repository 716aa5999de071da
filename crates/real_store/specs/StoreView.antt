-- What contracts see of RAM.
use Rattle.std.specs.Prelude.{ℕ, List}

-- its bytes, from real address 0 on
pub record StoreView : Type 0 where
  pub ram : List ℕ
