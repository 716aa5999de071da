-- Files of which each can be read.
use Rattle.std.specs.Prelude.{ℕ, ◌++◌, List, [], ◌∷◌, Option, None}
use Rattle.outer_io.specs.Outside.{Asked}
use Rattle.outer_io.specs.Shelf.{Named}

-- the files in the order in which they came, and the last call that did not run out of memory
pub record SureShelf : Type 0 where
  pub files : List Named
  pub last : Option Asked

abbrev pub bare_shelf : SureShelf
bare_shelf = record { files = []; last = None }

-- one file more, after the others
abbrev pub with_sure_file : SureShelf → List ℕ → List ℕ → SureShelf
with_sure_file m name bytes = record m { files = m.files ++ record { name = name; bytes = bytes } ∷ [] }
