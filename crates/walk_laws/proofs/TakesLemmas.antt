-- A walk that takes what is due, and goes on.
use Rattle.std.proofs.Common.{◌≡◌, ℕ, ◌≤◌, ◌+◌, ◌-◌, List, [], ◌∷◌, ◌++◌, map, length, Option, Some, None, arith, refl}
use Rattle.journal_core.specs.declared.rows.ReadRow.{ReadRow}
use Rattle.journal_core.specs.declared.asks.Denial.{Denial}
use Rattle.journal_core.specs.declared.walks.Goal.{Goal}
use Rattle.journal_core.specs.declared.walks.Goal.TheVariants.{ForEntry, ForTable, ForResult, ForGuest}
use Rattle.journal_core.specs.declared.walks.NestResult.{NestResult}
use Rattle.journal_core.specs.declared.walks.PartResult.TheVariants.{Leaf, Fault as PartFault, Stop as PartStop}
use Rattle.journal_core.specs.declared.walks.PartStage.{PartStage}
use Rattle.journal_core.specs.declared.walks.PartStage.TheVariants.{Entry, Tree, Ended}
use Rattle.journal_core.specs.declared.walks.Stage.{Stage}
use Rattle.journal_core.specs.declared.walks.TrailItem.{TrailItem}
use Rattle.journal_core.specs.declared.walks.TrailItem.TheVariants.{Old}
use Rattle.journal_core.specs.PartitionWalk.{part_after, after_entry, after_tree, real_in, PartFollows}
use Rattle.journal_core.specs.Walk.{Task, next, arrived, granted, inside, stage_after, partition_rights, access_for}
use Rattle.journal_core.specs.Following.{Follows}
use Rattle.journal_core.specs.Standing.{AreRows}
use Rattle.journal_core.specs.Resumed.{KeptAnswers, due, ResumesFrom}
use Rattle.journal_core.specs.WalkLeft.{reads_left}
use Rattle.journal_core.specs.PartResumed.{kept_for}
use Rattle.journal_core.specs.Takes.{Replays}
use Rattle.walk_laws.proofs.WalkBounds.{next-left}
use Rattle.walk_laws.proofs.PartSoFar.{entry_no_entry, tree_no_entry}

arrived_none : (a : KeptAnswers) (k : Task) (goal : Goal) (at : ℕ) → due a k (arrived goal at) [] ≡ []
arrived_none a k ForEntry at = refl
arrived_none a k (ForTable n) at = refl
arrived_none a k ForResult at = refl
arrived_none a k ForGuest at = refl

granted_none : (a : KeptAnswers) (k : Task) (goal : Goal) (gra at : ℕ) (d : Option Denial) → due a k (granted k.ask goal gra at d) [] ≡ []
granted_none a k goal gra at None = arrived_none a k goal at
granted_none a k goal gra at (Some d) = refl

-- in the tree, or at its end, nothing is due
inside_none : (a : KeptAnswers) (k : Task) (goal : Goal) (gra : ℕ) (p : PartStage) → ((at : ℕ) → p ≡ Entry at → ⊥) → due a k (inside k goal gra p) [] ≡ []
unfolding inside
inside_none a k goal gra (Entry at) never = absurd (never at refl)
inside_none a k goal gra (Tree n) never = refl
inside_none a k goal gra (Ended (Leaf page low att eaa r c)) never = granted_none a k goal gra (real_in page low gra) (k.deny (partition_rights att eaa r c) (access_for k.ask goal))
inside_none a k goal gra (Ended (PartFault kind)) never = refl
inside_none a k goal gra (Ended (PartStop name value)) never = refl

never_entry : (lpid gra : ℕ) (s : PartStage) (rs : List ReadRow) → ((at : ℕ) → s ≡ Entry at → ⊥) → PartFollows lpid gra s rs → (at : ℕ) → part_after lpid gra s rs ≡ Entry at → ⊥
never_entry lpid gra s [] never h at e = never at e
never_entry lpid gra (Entry x) (r ∷ rs) never h at e = never x refl
never_entry lpid gra (Tree n) (r ∷ rs) never h at e = never_entry lpid gra (after_tree (n.left - n.size) n.level r.value) rs (λ z q. tree_no_entry (n.left - n.size) n.level r.value z q) h.1 at e
never_entry lpid gra (Ended out) (r ∷ rs) never h at e = h.0

-- what is taken of the partition's walk is taken inside
pub inside_replays : (reads : List ReadRow) (k : Task) (goal : Goal) (gra : ℕ) (s : PartStage) (is : List ℕ) (rs : List ReadRow) → AreRows reads is rs → PartFollows k.lpid gra s rs → Replays reads k (inside k goal gra s) is (inside k goal gra (part_after k.lpid gra s rs))
unfolding inside
inside_replays reads k goal gra s [] [] named h = refl
inside_replays reads k goal gra s [] (r ∷ rs) named h = absurd named
inside_replays reads k goal gra s (i ∷ is) [] named h = absurd named
inside_replays reads k goal gra (Entry at) (i ∷ is) (r ∷ rs) named h = (r, named.0, h.0, inside_replays reads k goal gra (after_entry k.lpid gra r.value) is rs named.1 h.1)
inside_replays reads k goal gra (Tree n) (i ∷ is) (r ∷ rs) named h = (r, named.0, h.0, inside_replays reads k goal gra (after_tree (n.left - n.size) n.level r.value) is rs named.1 h.1)
inside_replays reads k goal gra (Ended out) (i ∷ is) (r ∷ rs) named h = absurd h.0

-- after what is kept nothing more is due
pub none_after : (a : KeptAnswers) (k : Task) (goal : Goal) (gra at : ℕ) (is : List ℕ) (rs : List ReadRow) → kept_for a k.lpid gra ≡ is → AreRows a.reads is rs → PartFollows k.lpid gra (Entry at) rs → due a k (inside k goal gra (part_after k.lpid gra (Entry at) rs)) [] ≡ []
unfolding inside
none_after a k goal gra at [] [] e named h = e
none_after a k goal gra at (i ∷ is) [] e named h = absurd named
none_after a k goal gra at is (r ∷ rs) e named h =
    inside_none a k goal gra (part_after k.lpid gra (after_entry k.lpid gra r.value) rs) (never_entry k.lpid gra (after_entry k.lpid gra r.value) rs (λ z q. entry_no_entry k.lpid gra r.value z q) h.1)

-- what is taken is taken from what can still be read
pub replays_few : (reads : List ReadRow) (k : Task) (s : Stage) (is : List ℕ) (last : Stage) → Replays reads k s is last → length is + reads_left last ≤ reads_left s
replays_few reads k s [] last h = rw h (omega arith)
replays_few reads k s (i ∷ is) last h = omega (arith, replays_few reads k (next k s h.0.value) is last h.3, next-left k s h.0 h.2)

-- what is owed is taken
take_owed : (word : ℕ → Option ℕ) (n : ℕ) (a : KeptAnswers) (k : Task) (s : Stage) (owed : List ℕ) (i : ℕ) (is : List ℕ) (last : Stage) (items : List TrailItem) (out : NestResult) → due a k s owed ≡ i ∷ is → Replays a.reads k s (i ∷ is) last → ResumesFrom word n a k last [] items out
    → ResumesFrom word n a k s owed (map Old (i ∷ is) ++ items) out
take_owed word n a k s owed i [] last items out is_due h rest = ([], h.0, is_due, h.1, h.2, rw h.3 at rest)
take_owed word n a k s owed i (j ∷ js) last items out is_due h rest = (j ∷ js, h.0, is_due, h.1, h.2, take_owed word n a k (next k s h.0.value) (j ∷ js) j js last items out refl h.3 rest)

-- all that was owed from the beginning
pub take_all : (word : ℕ → Option ℕ) (n : ℕ) (a : KeptAnswers) (k : Task) (s : Stage) (owed : List ℕ) (last : Stage) (items : List TrailItem) (out : NestResult) → Replays a.reads k s owed last → ResumesFrom word n a k last [] items out → ResumesFrom word n a k s owed (map Old owed ++ items) out
take_all word n a k s [] last items out h rest = rw h at rest
take_all word n a k s (i ∷ is) last items out h rest = take_owed word n a k s (i ∷ is) i is last items out refl h rest

pub take_due : (word : ℕ → Option ℕ) (n : ℕ) (a : KeptAnswers) (k : Task) (s : Stage) (is : List ℕ) (last : Stage) (items : List TrailItem) (out : NestResult) → due a k s [] ≡ is → Replays a.reads k s is last → ResumesFrom word n a k last [] items out → ResumesFrom word n a k s [] (map Old is ++ items) out
take_due word n a k s [] last items out is_due h rest = rw h at rest
take_due word n a k s (i ∷ is) last items out is_due h rest = take_owed word n a k s [] i is last items out is_due h rest

-- readings that follow may be taken
pub replays_begin : (reads : List ReadRow) (k : Task) (s : Stage) (is : List ℕ) (rs : List ReadRow) → AreRows reads is rs → Follows k s rs → Replays reads k s is (stage_after k s rs)
replays_begin reads k s [] [] named h = refl
replays_begin reads k s [] (r ∷ rs) named h = absurd named
replays_begin reads k s (i ∷ is) [] named h = absurd named
replays_begin reads k s (i ∷ is) (r ∷ rs) named h = (r, named.0, h.0, replays_begin reads k (next k s r.value) is rs named.1 h.1)
