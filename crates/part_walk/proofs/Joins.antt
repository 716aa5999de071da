-- Words that are taken apart mean to a walk what its definitions say of them.
use Rattle.std.proofs.Common.{◌≡◌, ℕ, ◌+◌, Bool, true, false, refl}
use Rattle.std.proofs.lemmas.Bool.{eqb-true}
use Rattle.std.specs.Prelude.{◌==◌, ◌&&◌, nat_le, if◌then◌else◌}
use Rattle.ppc_bits.specs.Bits.{field_of, is_set}
use Rattle.journal_core.specs.declared.rows.Role.{Role}
use Rattle.journal_core.specs.declared.walks.FaultKind.TheVariants.{Missing, Unsupported}
use Rattle.journal_core.specs.declared.walks.PartResult.TheVariants.{Fault}
use Rattle.journal_core.specs.declared.walks.PartStage.TheVariants.{Ended}
use Rattle.journal_core.specs.PartitionWalk.{at_node, after_tree, leaf_of, is_leaf, node_of}
use Rattle.table_formats.specs.Entries.{entry_of, leaf_of as leaf_entry, base_of, size_of}
use Rattle.table_formats.specs.declared.entries.Entry.TheVariants.{Invalid, Directory}
use Rattle.part_walk.specs.Entries.{after_entry_of_tree, role_by}

-- an entry by what its two highest bits say
by_bits : (rest level v : ℕ) (none leaf : Bool) →
    (if none then Ended (Fault Missing) else if leaf then Ended (leaf_of rest v) else if nat_le 4 level then Ended (Fault Unsupported) else at_node (node_of v rest (level + 1)))
    ≡ after_entry_of_tree rest level (if none then Invalid else if leaf then leaf_entry v else Directory (base_of v) (size_of v))
by_bits rest level v true leaf = refl
by_bits rest level v false true = refl
by_bits rest level v false false = refl

pub tree_joins : (rest level v : ℕ) → after_tree rest level v ≡ after_entry_of_tree rest level (entry_of v)
unfolding after_tree entry_of
tree_joins rest level v = by_bits rest level v (field_of 64 v 0 0 == 0) (is_leaf v)

role_bits : (a b : Role) (v x : ℕ) (leaf : Bool) → (x == 0 ≡ true → leaf ≡ false) → (none : Bool) → x == 0 ≡ none → (if leaf then a else b) ≡ role_by a b (if none then Invalid else if leaf then leaf_entry v else Directory (base_of v) (size_of v))
role_bits a b v x leaf h true e = rw (h e) refl
role_bits a b v x true h false e = refl
role_bits a b v x false h false e = refl

no_leaf : (v : ℕ) → field_of 64 v 0 0 == 0 ≡ true → is_leaf v ≡ false
no_leaf v e = by_zero (field_of 64 v 0 0) (is_set 64 v 1) (eqb-true (field_of 64 v 0 0) 0 e)
  where
    by_zero : (x : ℕ) (second : Bool) → x ≡ 0 → (x == 1 && second) ≡ false
    by_zero x second e = rw e refl

-- the role of an entry of a tree, for the roles of a leaf and a directory
pub role_joins : (a b : Role) (v : ℕ) → (if is_leaf v then a else b) ≡ role_by a b (entry_of v)
unfolding entry_of
role_joins a b v = role_bits a b v (field_of 64 v 0 0) (is_leaf v) (no_leaf v) (field_of 64 v 0 0 == 0) refl
