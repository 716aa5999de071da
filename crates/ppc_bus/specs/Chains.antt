use Rattle.std.specs.Prelude.{◌≡◌, List, [], ◌∷◌, ◌++◌}
use Rattle.std.proofs.Common.{refl, sym}
use Rattle.journal_core.specs.declared.rows.DeviceRow.{DeviceRow}

-- rows one after another, each related to what stood before it and after it
unfoldable pub Chain : {P : Type 0} → (P → DeviceRow → P → Type 0) → P → List DeviceRow → P → Type 0
Chain related before [] after = after ≡ before
Chain related before (row ∷ rows) after = (next : _) × related before row next × Chain related next rows after

-- a chain goes on by one more row
pub Chain-push : {P : Type 0} (related : P → DeviceRow → P → Type 0) (before middle after : P) (rows : List DeviceRow) (row : DeviceRow) →
    Chain related before rows middle → related middle row after → Chain related before (rows ++ row ∷ []) after
unfolding Chain
Chain-push related before middle after [] row chain is = (after, rw (sym chain) is, refl)
Chain-push related before middle after (first ∷ rows) row chain is = (chain.0, chain.1, Chain-push related chain.0 middle after rows row chain.2 is)
