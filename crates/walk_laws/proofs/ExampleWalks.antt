-- Fresh walks of given words, made one reading after the other.
use Rattle.std.proofs.Common.{◌≡◌, ℕ, List, [], ◌∷◌, refl, subst, Option, Some, None, zero, suc}
use Rattle.journal_core.specs.PartitionWalk.{entry_at}
use Rattle.journal_core.specs.Rights.{first_denial}
use Rattle.journal_core.specs.Walk.{Task, next, stage_after, task_of, start_of}
use Rattle.journal_core.specs.Following.{IsRead, Follows, EndsAt, IsNew, AreNew, sought_at, Fresh}
use Rattle.journal_core.specs.WalkPlaces.{row_at}
use Rattle.journal_core.specs.declared.rows.ReadRow.{ReadRow}
use Rattle.journal_core.specs.declared.asks.Ask.{Ask}
use Rattle.journal_core.specs.declared.walks.NestResult.{NestResult}
use Rattle.journal_core.specs.declared.walks.Stage.{Stage}
use Rattle.journal_core.specs.declared.walks.Stage.TheVariants.{SecondWord, PartEntry, PartTable, ProcessEntry, ProcessTable, Over}

-- the word that is read next, if the walk is not over and storage has it
abbrev pub word_next : (ℕ → Option ℕ) → Stage → Option ℕ
word_next word (SecondWord at) = word at
word_next word (PartEntry goal gra at) = word at
word_next word (PartTable goal gra node) = word (entry_at gra node)
word_next word (ProcessEntry at) = word at
word_next word (ProcessTable node at) = word at
word_next word (Over out) = None

-- the readings of a fresh walk, at most so many
abbrev pub trace : (ℕ → Option ℕ) → Task → ℕ → ℕ → Stage → List ReadRow
trace word k n zero s = []
trace word k n (suc m) s = elim (word_next word s) [ None ↦ [] | Some v ↦ row_at k n s v ∷ trace word k n m (next k s v) ]

nothing : {X : Type 0} (x : X) → None ≡ Some x → ⊥
nothing x e = cc

pub row_read : (word : ℕ → Option ℕ) (k : Task) (n : ℕ) (s : Stage) (v : ℕ) → word_next word s ≡ Some v → IsRead k s (row_at k n s v)
row_read word k n (SecondWord at) v e = record { same_role = refl; same_lpid = refl; same_pid = refl; same_level = refl; same_left = refl; same_at = refl }
row_read word k n (PartEntry goal gra at) v e = record { same_role = refl; same_lpid = refl; same_pid = refl; same_sought = refl; same_level = refl; same_left = refl; same_at = refl }
row_read word k n (PartTable goal gra node) v e = record { same_role = refl; same_lpid = refl; same_pid = refl; same_sought = refl; same_level = refl; same_left = refl; same_at = refl }
row_read word k n (ProcessEntry at) v e = record { same_role = refl; same_lpid = refl; same_pid = refl; same_sought = refl; same_level = refl; same_left = refl; same_at = refl }
row_read word k n (ProcessTable node at) v e = record { same_role = refl; same_lpid = refl; same_pid = refl; same_sought = refl; same_level = refl; same_left = refl; same_at = refl }
row_read word k n (Over out) v e = nothing v e

pub row_new : (word : ℕ → Option ℕ) (k : Task) (n : ℕ) (s : Stage) (v : ℕ) → word_next word s ≡ Some v → IsNew word n (sought_at k s) (row_at k n s v)
row_new word k n (SecondWord at) v e = record { stands = e; same_moment = refl; same_sought = refl }
row_new word k n (PartEntry goal gra at) v e = record { stands = e; same_moment = refl; same_sought = refl }
row_new word k n (PartTable goal gra node) v e = record { stands = e; same_moment = refl; same_sought = refl }
row_new word k n (ProcessEntry at) v e = record { stands = e; same_moment = refl; same_sought = refl }
row_new word k n (ProcessTable node at) v e = record { stands = e; same_moment = refl; same_sought = refl }
row_new word k n (Over out) v e = absurd (nothing v e)

pub row_value : (k : Task) (n : ℕ) (s : Stage) (v : ℕ) → v ≡ (row_at k n s v).value
row_value k n (SecondWord at) v = refl
row_value k n (PartEntry goal gra at) v = refl
row_value k n (PartTable goal gra node) v = refl
row_value k n (ProcessEntry at) v = refl
row_value k n (ProcessTable node at) v = refl
row_value k n (Over out) v = refl

pub trace_follows : (word : ℕ → Option ℕ) (k : Task) (n m : ℕ) (s : Stage) → Follows k s (trace word k n m s)
trace_follows word k n zero s = tt
trace_follows word k n (suc m) s = by (word_next word s) refl (λ v. trace_follows word k n m (next k s v))
  where
    by : (o : Option ℕ) → word_next word s ≡ o → ((v : ℕ) → Follows k (next k s v) (trace word k n m (next k s v))) → Follows k s (elim o [ None ↦ [] | Some v ↦ row_at k n s v ∷ trace word k n m (next k s v) ])
    by None e rest = tt
    by (Some v) e rest = (row_read word k n s v e, subst (λ x. Follows k (next k s x) (trace word k n m (next k s v))) (row_value k n s v) (rest v))

pub trace_new : (word : ℕ → Option ℕ) (k : Task) (n m : ℕ) (s : Stage) → AreNew word n k s (trace word k n m s)
trace_new word k n zero s = tt
trace_new word k n (suc m) s = by (word_next word s) refl (λ v. trace_new word k n m (next k s v))
  where
    by : (o : Option ℕ) → word_next word s ≡ o → ((v : ℕ) → AreNew word n k (next k s v) (trace word k n m (next k s v))) → AreNew word n k s (elim o [ None ↦ [] | Some v ↦ row_at k n s v ∷ trace word k n m (next k s v) ])
    by None e rest = tt
    by (Some v) e rest = (row_new word k n s v e, subst (λ x. AreNew word n k (next k s x) (trace word k n m (next k s v))) (row_value k n s v) (rest v))

-- what is walked for an ask, and where its walk begins
abbrev pub task : Ask → Task
task ask = task_of (first_denial ask) ask

abbrev pub start : Ask → Stage
start ask = start_of (first_denial ask) ask

-- the readings of the fresh walk of an ask, in step 7
abbrev pub rows_of : (ℕ → Option ℕ) → Ask → List ReadRow
rows_of word ask = trace word (task ask) 7 36 (start ask)

-- where that walk stands after its readings
abbrev pub leads : (ℕ → Option ℕ) → Ask → Stage
leads word ask = stage_after (task ask) (start ask) (rows_of word ask)

-- the fresh walk of an ask over these words ends so
abbrev pub Leads : (ℕ → Option ℕ) → Ask → NestResult → Type 0
Leads word ask out = Fresh word 7 ask (rows_of word ask) out

pub leads_by : (word : ℕ → Option ℕ) (ask : Ask) (out : NestResult) → EndsAt word (leads word ask) out → Leads word ask out
leads_by word ask out ends =
    record { walk = record { follows = trace_follows word (task ask) 7 36 (start ask); ends = ends }; new = trace_new word (task ask) 7 36 (start ask) }
