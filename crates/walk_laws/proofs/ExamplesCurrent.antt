-- A leaf that is changed, and then invalidated: what an access may reach.
use Rattle.std.proofs.Common.{◌≡◌, ℕ, ◌≤◌, List, [], ◌∷◌, Option, Some, None, zero, suc, true, false, arith, refl, ◌∙◌}
use Rattle.std.specs.Prelude.{if◌then◌else◌, nat_le}
use Rattle.std.specs.List.{AllByRecursion}
use Rattle.walk_laws.proofs.ExampleWalks.{trace, word_next, task, start, rows_of, Leads, leads_by, trace_follows}
use Rattle.walk_laws.proofs.ExampleTables.{tables, with_words, leaf, ask_of}
use Rattle.journal_core.proofs.CurrentLemmas.{current_with_later}
use Rattle.walk_laws.proofs.FreedWalks.{permitted_walks}
use Rattle.journal_core.specs.PartitionWalk.{part_start, after_entry, after_tree, at_node}
use Rattle.journal_core.specs.Rights.{first_denial}
use Rattle.journal_core.specs.Places.{place_of}
use Rattle.journal_core.specs.Walk.{Task, next, inside, in_process, after_second, after_process_entry, process_start}
use Rattle.journal_core.specs.Following.{IsTrueReading}
use Rattle.journal_core.specs.Covers.{covers, ends_reading, IsCurrent}
use Rattle.journal_core.specs.Rows.{no_rows}
use Rattle.journal_core.specs.Turns.{turn_of}
use Rattle.journal_core.specs.WalkPlaces.{row_at}
use Rattle.journal_core.specs.Translating.{AreFrom}
use Rattle.journal_core.specs.Admitted.{IsReadBy, IsAdmitted}
use Rattle.journal_core.specs.declared.rows.Inval.{Inval}
use Rattle.journal_core.specs.declared.rows.Done.{Done}
use Rattle.journal_core.specs.declared.rows.Done.TheVariants.{Global}
use Rattle.journal_core.specs.declared.rows.DoneRow.{DoneRow}
use Rattle.journal_core.specs.declared.asks.Ask.{Ask}
use Rattle.journal_core.specs.declared.asks.AccessKind.TheVariants.{Load}
use Rattle.journal_core.specs.declared.walks.NestResult.TheVariants.{Page}
use Rattle.journal_core.specs.declared.walks.Stage.{Stage}
use Rattle.journal_core.specs.declared.walks.Stage.TheVariants.{SecondWord, PartEntry, PartTable, ProcessEntry, ProcessTable, Over}

-- step 8 writes the leaf of the process's page 16: from then on it is guest page 17
abbrev changed : ℕ → Option ℕ
changed = with_words ((0x11_4080, leaf 0x1_1000) ∷ []) tables

abbrev past : ℕ → ℕ → Option ℕ
past n at = if nat_le n 8 then tables at else changed at

abbrev load : Ask
load = ask_of 0x1_0014 Load

-- storage stood so at step n
abbrev pub Stood : (ℕ → ℕ → Option ℕ) → (ℕ → Option ℕ) → ℕ → Type 0
Stood past word n = (at : ℕ) → past n at ≡ word at

nothing : {X : Type 0} (x : X) → None ≡ Some x → ⊥
nothing x e = cc

row_true : (past : ℕ → ℕ → Option ℕ) (word : ℕ → Option ℕ) (k : Task) (n : ℕ) (s : Stage) (v : ℕ) → Stood past word n → word_next word s ≡ Some v → IsTrueReading past (row_at k n s v)
row_true past word k n (SecondWord at) v stood e = stood at ∙ e
row_true past word k n (PartEntry goal gra at) v stood e = stood at ∙ e
row_true past word k n (PartTable goal gra node) v stood e = stood _ ∙ e
row_true past word k n (ProcessEntry at) v stood e = stood at ∙ e
row_true past word k n (ProcessTable node at) v stood e = stood at ∙ e
row_true past word k n (Over out) v stood e = absurd (nothing v e)

row_moment : (k : Task) (n : ℕ) (s : Stage) (v : ℕ) → (row_at k n s v).moment ≡ n
row_moment k n (SecondWord at) v = refl
row_moment k n (PartEntry goal gra at) v = refl
row_moment k n (PartTable goal gra node) v = refl
row_moment k n (ProcessEntry at) v = refl
row_moment k n (ProcessTable node at) v = refl
row_moment k n (Over out) v = refl

-- what a fresh walk of step n read is true, and was made by each later step
pub all_read : (past : ℕ → ℕ → Option ℕ) (word : ℕ → Option ℕ) (k : Task) (n m later : ℕ) (s : Stage) → n ≤ later → Stood past word n → AllByRecursion (IsReadBy past later) (trace word k n m s)
all_read past word k n zero later s above stood = tt
all_read past word k n (suc m) later s above stood = by (word_next word s) refl (λ v. all_read past word k n m later (next k s v) above stood)
  where
    by : (o : Option ℕ) → word_next word s ≡ o → ((v : ℕ) → AllByRecursion (IsReadBy past later) (trace word k n m (next k s v))) →
        AllByRecursion (IsReadBy past later) (elim o [ None ↦ [] | Some v ↦ row_at k n s v ∷ trace word k n m (next k s v) ])
    by None e rest = tt
    by (Some v) e rest = ((let is : (row_at k n s v).moment ≡ n = row_moment k n s v in omega (arith, is, above), row_true past word k n s v stood e), rest v)

-- readings are current for as long as no completion comes
pub all_current : (word : ℕ → Option ℕ) (k : Task) (n m t later : ℕ) (s : Stage) (dones : List DoneRow) → n ≤ later → AreFrom later dones → AllByRecursion (IsCurrent dones t later) (trace word k n m s)
all_current word k n zero t later s dones above from = tt
all_current word k n (suc m) t later s dones above from = by (word_next word s) (λ v. all_current word k n m t later (next k s v) dones above from)
  where
    by : (o : Option ℕ) → ((v : ℕ) → AllByRecursion (IsCurrent dones t later) (trace word k n m (next k s v))) →
        AllByRecursion (IsCurrent dones t later) (elim o [ None ↦ [] | Some v ↦ row_at k n s v ∷ trace word k n m (next k s v) ])
    by None rest = tt
    by (Some v) rest = (current_with_later [] dones t later (row_at k n s v) from (record { made = (let e : (row_at k n s v).moment ≡ n = row_moment k n s v in omega (arith, e, above)); kept = tt }), rest v)

-- in step 9 storage has another leaf, but nothing is invalidated: the load is admitted to the old page still, by the
-- readings of step 7 (IsAdmitted, IsTrueReading, IsCurrent)
changed_leaf : IsAdmitted past (turn_of no_rows 0 0 9) load (rows_of tables load) 0x12_0014
unfolding place_of part_start process_start after_second after_process_entry inside in_process after_entry after_tree at_node first_denial
changed_leaf = record {
  read = all_read past tables (task load) 7 36 9 (start load) (omega arith) (λ at. refl);
  current = all_current tables (task load) 7 36 0 9 (start load) [] (omega arith) tt;
  walk = permitted_walks load (rows_of tables load) 0x12_0014 (trace_follows tables (task load) 7 36 (start load)) refl;
  right = refl;
}

-- a walk made anew gives the new page (Fresh)
changed_walk : Leads changed load (Page 0x12_1014)
unfolding place_of part_start process_start after_second after_process_entry inside in_process after_entry after_tree at_node first_denial
changed_walk = leads_by changed load (Page 0x12_1014) refl

-- step 10, of thread 1, completes the invalidation of this page for all threads
abbrev of_page : Inval
of_page = record { ric = 0; prs = true; is = 0; lpid = 1; pid = 1; page = 0x1_0000; bits = 12 }

abbrev completed : Done → List DoneRow
completed what = record { step = 10; thread = 1; what = what } ∷ []

-- in step 10 itself the readings are current still (IsCurrent)
step_itself : AllByRecursion (IsCurrent (completed (Global of_page)) 0 10) (rows_of tables load)
step_itself = all_current tables (task load) 7 36 0 10 (start load) (completed (Global of_page)) (omega arith) (omega arith, tt)

false_true : true ≡ false → ⊥
false_true e = cc

-- in step 11 the thirteenth, the process's leaf, is not, and the load is not admitted by these readings (IsCurrent, covers)
invalidated : AllByRecursion (IsCurrent (completed (Global of_page)) 0 11) (rows_of tables load) → ⊥
unfolding place_of part_start process_start after_second after_process_entry inside in_process after_entry after_tree at_node first_denial ends_reading covers
invalidated h = false_true (h.1.1.1.1.1.1.1.1.1.1.1.1.0.kept.0 (omega arith))
