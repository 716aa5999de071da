-- The bits that an interrupt of a walk sets in the saved machine state.
use Rattle.std.proofs.Common.{◌≡◌, ℕ, zero, suc, ◌+◌, ◌-◌, ◌*◌, ◌^◌, ◌<◌, ◌==◌, ◌&&◌, ◌||◌, not, Bool, true, false, List, [], ◌∷◌, Option, Some, None, arith, sym, refl, subst}
use Rattle.std.specs.Prelude.{Ok}
use Rattle.ppc_bits.specs.Bits.{bit, is_within}
use Rattle.ppc_spr.specs.Profile.{is_in_profile}
use Rattle.journal_core.specs.Asks.{bits, is_one}
use Rattle.journal_core.specs.Faults.{fault_bit, kind_bits, denial_bits, process_fault, partition_fault, segment_fault}
use Rattle.journal_core.specs.PartitionWalk.{real_in, after_entry, after_tree, at_node, entry_at}
use Rattle.journal_core.specs.Places.{place_of}
use Rattle.journal_core.specs.Walk.{Task, partition_rights, process_rights, access_for, table_bits, granted, inside, enter, at_table, process_granted, in_process, next, stage_after, start_at, task_at, task_of, start_of}
use Rattle.journal_core.specs.Following.{EndsAt, Walk}
use Rattle.journal_core.specs.declared.rows.ReadRow.{ReadRow}
use Rattle.journal_core.specs.declared.rows.StopName.TheVariants.{NoStorage}
use Rattle.journal_core.specs.declared.asks.AccessKind.{AccessKind}
use Rattle.journal_core.specs.declared.asks.AccessKind.TheVariants.{Fetch, Load, Store}
use Rattle.journal_core.specs.declared.asks.Ask.{Ask}
use Rattle.journal_core.specs.declared.asks.Denial.{Denial}
use Rattle.journal_core.specs.declared.asks.Denial.TheVariants.{Privilege, Read, Write, Execute, Guarded, Referenced, Changed}
use Rattle.journal_core.specs.declared.asks.Rights.{Rights}
use Rattle.journal_core.specs.declared.asks.Place.{Place}
use Rattle.journal_core.specs.declared.asks.Place.TheVariants.{Real, GuestReal, Space, Segment}
use Rattle.journal_core.specs.declared.causes.Cause.{Cause}
use Rattle.journal_core.specs.declared.walks.FaultKind.{FaultKind}
use Rattle.journal_core.specs.declared.walks.FaultKind.TheVariants.{Missing, Unsupported}
use Rattle.journal_core.specs.declared.walks.Node.{Node}
use Rattle.journal_core.specs.declared.walks.Goal.{Goal}
use Rattle.journal_core.specs.declared.walks.Goal.TheVariants.{ForEntry, ForTable, ForResult, ForGuest}
use Rattle.journal_core.specs.declared.walks.NestResult.TheVariants.{Page, Fault, Stop}
use Rattle.journal_core.specs.declared.walks.Stage.{Stage}
use Rattle.journal_core.specs.declared.walks.Stage.TheVariants.{SecondWord, PartEntry, PartTable, ProcessEntry, ProcessTable, Over}
use Rattle.thread_regs.specs.declared.registers.Thread.{Thread}
use Rattle.interrupts.specs.Delivery.{delivered}
use Rattle.interrupts.specs.Laws.{IsConfined, IsStatus, returned}
use Rattle.interrupts.specs.Table.{interrupt_of}
use Rattle.interrupts.proofs.ReturnLemmas.{restores}
use Rattle.walk_laws.proofs.StageCases.{if_else, by_node, by_start, by_entry, by_tree, by_second, by_process_entry, by_process_start}

-- ---- single bits

-- of the bits below m, those that are 1 are among 33 to 36 and 42 to 47
abbrev are_status : ℕ → ℕ → Bool
are_status n zero = true
are_status n (suc m) = (not (bit 64 n m == 1) || (is_within 33 36 m || is_within 42 47 m)) && are_status n m

no : {X : Type 0} → false ≡ true → X
no e = absurd (apart e)
  where
    apart : false ≡ true → ⊥
    apart e = cc

both : (a b : Bool) → (a && b) ≡ true → (a ≡ true) × (b ≡ true)
both true true e = (refl, refl)
both true false e = no e
both false b e = no e

where_one : (a b : Bool) → (not a || b) ≡ true → a ≡ true → b ≡ true
where_one true b e one = e
where_one false b e one = no one

is_equal : (a b : ℕ) → a ≡ b → (a == b) ≡ true
is_equal a b e = grind arith

-- below a number one higher: there, or below
at_or_below : (P : ℕ → Type 0) (m i : ℕ) → i < suc m → P m → (i < m → P i) → P i
at_or_below P m i below here under = by_place (i == m) refl
  where
    same : (i == m) ≡ true → i ≡ m
    same e = grind arith

    less : (i == m) ≡ false → i < m
    less e = grind (arith, below)

    by_place : (b : Bool) → (i == m) ≡ b → P i
    by_place true e = subst P (sym (same e)) here
    by_place false e = under (less e)

all_status : (n m : ℕ) → are_status n m ≡ true → (i : ℕ) → i < m → bit 64 n i ≡ 1 → (is_within 33 36 i || is_within 42 47 i) ≡ true
all_status n zero e i below = absurd (omega (arith, below))
all_status n (suc m) e i below =
    let parts : ((not (bit 64 n m == 1) || (is_within 33 36 m || is_within 42 47 m)) ≡ true) × (are_status n m ≡ true) = both (not (bit 64 n m == 1) || (is_within 33 36 m || is_within 42 47 m)) (are_status n m) e in
    at_or_below (λ j. bit 64 n j ≡ 1 → (is_within 33 36 j || is_within 42 47 j) ≡ true) m i below (λ one. where_one (bit 64 n m == 1) (is_within 33 36 m || is_within 42 47 m) parts.0 (is_equal (bit 64 n m) 1 one)) (all_status n m parts.1 i)

is_status : (n : ℕ) → are_status n 64 ≡ true → IsStatus n
is_status n e i below one = all_status n 64 e i below one

-- ---- the bits of each fault

none_more : (why : ℕ) → why ≡ why + 0
none_more why = omega arith

with_table : (why : ℕ) → are_status why 64 ≡ true → are_status (why + fault_bit 46) 64 ≡ true → (goal : Goal) → IsStatus (why + table_bits goal)
with_table why plain table ForEntry = is_status (why + fault_bit 46) table
with_table why plain table (ForTable n) = is_status (why + fault_bit 46) table
with_table why plain table ForResult = subst IsStatus (none_more why) (is_status why plain)
with_table why plain table ForGuest = subst IsStatus (none_more why) (is_status why plain)

kind_status : (kind : FaultKind) (goal : Goal) → IsStatus (kind_bits kind + table_bits goal)
kind_status Missing goal = with_table (kind_bits Missing) refl refl goal
kind_status Unsupported goal = with_table (kind_bits Unsupported) refl refl goal

denial_status : (denial : Denial) (goal : Goal) → IsStatus (denial_bits denial + table_bits goal)
denial_status Execute goal = with_table (denial_bits Execute) refl refl goal
denial_status Guarded goal = with_table (denial_bits Guarded) refl refl goal
denial_status Privilege goal = with_table (denial_bits Privilege) refl refl goal
denial_status Read goal = with_table (denial_bits Read) refl refl goal
denial_status Write goal = with_table (denial_bits Write) refl refl goal
denial_status Referenced goal = with_table (denial_bits Referenced) refl refl goal
denial_status Changed goal = with_table (denial_bits Changed) refl refl goal

-- a process's fault, and that of a missing partition's entry, has no bit of a table
alone : (why : ℕ) → IsStatus (why + table_bits ForGuest) → IsStatus why
alone why status = subst IsStatus (sym (none_more why)) status

none_status : IsStatus 0
none_status = is_status 0 refl

abbrev HasStatus : Cause → Type 0
HasStatus cause = IsStatus (interrupt_of cause).bits

process_status : (ask : Ask) (why : ℕ) → IsStatus why → HasStatus (process_fault ask why)
unfolding interrupt_of
process_status ask why status = by_access ask.access
  where
    by_access : (a : AccessKind) → HasStatus (process_fault (record ask { access = a }) why)
    by_access Fetch = status
    by_access Load = none_status
    by_access Store = none_status

partition_status : (ask : Ask) (why gra : ℕ) → IsStatus why → HasStatus (partition_fault ask why gra)
unfolding interrupt_of
partition_status ask why gra status = by_access ask.access
  where
    by_access : (a : AccessKind) → HasStatus (partition_fault (record ask { access = a }) why gra)
    by_access Fetch = status
    by_access Load = none_status
    by_access Store = none_status

segment_status : (ask : Ask) → HasStatus (segment_fault ask)
unfolding interrupt_of
segment_status ask = by_access ask.access
  where
    by_access : (a : AccessKind) → HasStatus (segment_fault (record ask { access = a }))
    by_access Fetch = none_status
    by_access Load = none_status
    by_access Store = none_status

-- ---- walks

-- a fault in which a walk has ended has such bits
abbrev FaultsAt : Stage → Type 0
FaultsAt (SecondWord at) = Unit {0}
FaultsAt (PartEntry goal gra at) = Unit {0}
FaultsAt (PartTable goal gra n) = Unit {0}
FaultsAt (ProcessEntry at) = Unit {0}
FaultsAt (ProcessTable n at) = Unit {0}
FaultsAt (Over (Page real)) = Unit {0}
FaultsAt (Over (Fault cause)) = HasStatus cause
FaultsAt (Over (Stop name value)) = Unit {0}

at_granted : (ask : Ask) (goal : Goal) (gra at : ℕ) (d : Option Denial) → FaultsAt (granted ask goal gra at d)
at_granted ask ForEntry gra at None = tt
at_granted ask (ForTable n) gra at None = tt
at_granted ask ForResult gra at None = tt
at_granted ask ForGuest gra at None = tt
at_granted ask goal gra at (Some denial) = partition_status ask (denial_bits denial + table_bits goal) gra (denial_status denial goal)

at_kind : (k : Task) (goal : Goal) (gra : ℕ) (kind : FaultKind) → FaultsAt (Over (Fault (partition_fault k.ask (kind_bits kind + table_bits goal) gra)))
at_kind k goal gra kind = partition_status k.ask (kind_bits kind + table_bits goal) gra (kind_status kind goal)

at_process_kind : (k : Task) (kind : FaultKind) → FaultsAt (Over (Fault (process_fault k.ask (kind_bits kind))))
at_process_kind k kind = process_status k.ask (kind_bits kind) (alone (kind_bits kind) (kind_status kind ForGuest))

at_enter : (k : Task) (goal : Goal) (gra : ℕ) → FaultsAt (enter k goal gra)
unfolding inside
at_enter k goal gra = by_start (λ p. FaultsAt (inside k goal gra p)) k.ask.ptcr k.lpid (at_kind k goal gra) tt

after_part_entry : (k : Task) (goal : Goal) (gra v : ℕ) → FaultsAt (inside k goal gra (after_entry k.lpid gra v))
unfolding inside
after_part_entry k goal gra v = by_entry (λ p. FaultsAt (inside k goal gra p)) k.lpid gra v (at_kind k goal gra) (λ name value. tt) (λ n. tt)

after_part_tree : (k : Task) (goal : Goal) (gra rest level v : ℕ) → FaultsAt (inside k goal gra (after_tree rest level v))
unfolding inside
after_part_tree k goal gra rest level v =
    by_tree (λ p. FaultsAt (inside k goal gra p)) rest level v (at_kind k goal gra) (λ n. tt)
    (λ leaf size. at_granted k.ask goal gra (real_in (bits v 7 51 * 2 ^ 12) rest gra) (k.deny (partition_rights (bits v 58 59) (bits v 60 63) (is_one v 55) (is_one v 56)) (access_for k.ask goal)))

at_process_table : (k : Task) (n : Node) → FaultsAt (at_table k n)
at_process_table k n = if_else FaultsAt (k.lpid == 0) (ProcessTable n (entry_at k.address n)) (enter k (ForTable n) (entry_at k.address n)) (λ e. tt) (λ e. at_enter k (ForTable n) (entry_at k.address n))

at_process_leaf : (k : Task) (gra : ℕ) (d : Option Denial) → FaultsAt (process_granted k gra d)
at_process_leaf k gra None = if_else FaultsAt (k.lpid == 0) (Over (Page gra)) (enter k ForResult gra) (λ e. tt) (λ e. at_enter k ForResult gra)
at_process_leaf k gra (Some denial) = process_status k.ask (denial_bits denial) (alone (denial_bits denial) (denial_status denial ForGuest))

after_process_tree : (k : Task) (rest level v : ℕ) → FaultsAt (in_process k (after_tree rest level v))
unfolding in_process
after_process_tree k rest level v =
    by_tree (λ p. FaultsAt (in_process k p)) rest level v (at_process_kind k) (λ n. at_process_table k n)
    (λ leaf size. at_process_leaf k (real_in (bits v 7 51 * 2 ^ 12) rest k.address) (k.deny (process_rights (bits v 58 59) (bits v 60 63) (is_one v 55) (is_one v 56)) k.ask.access))

at_process_node : (k : Task) (n : Node) → FaultsAt (in_process k (at_node n))
unfolding in_process
at_process_node k n = by_node (λ p. FaultsAt (in_process k p)) n (at_process_kind k) (at_process_table k n)

faults_next : (k : Task) (s : Stage) (v : ℕ) → FaultsAt s → FaultsAt (next k s v)
faults_next k (SecondWord at) v h = by_second FaultsAt k v (at_process_kind k) (λ gra. at_enter k ForEntry gra)
faults_next k (PartEntry goal gra at) v h = after_part_entry k goal gra v
faults_next k (PartTable goal gra n) v h = after_part_tree k goal gra (n.left - n.size) n.level v
faults_next k (ProcessEntry at) v h = by_process_entry FaultsAt k v (at_process_kind k) (segment_status k.ask) (λ n. at_process_node k n)
faults_next k (ProcessTable n at) v h = after_process_tree k (n.left - n.size) n.level v
faults_next k (Over out) v h = h

faults_after : (k : Task) (s : Stage) (rs : List ReadRow) → FaultsAt s → FaultsAt (stage_after k s rs)
faults_after k s [] h = h
faults_after k s (r ∷ rs) h = faults_after k (next k s r.value) rs (faults_next k s r.value h)

at_start : (deny : Rights → AccessKind → Option Denial) (ask : Ask) (p : Place) → FaultsAt (start_at (task_at deny ask p) p)
at_start deny ask (Real a) = tt
at_start deny ask (GuestReal lpid a) = at_enter (task_at deny ask (GuestReal lpid a)) ForGuest a
at_start deny ask (Space lpid pid a) = by_process_start FaultsAt (task_at deny ask (Space lpid pid a)) (partition_status ask (kind_bits Missing) 0 (alone (kind_bits Missing) (kind_status Missing ForGuest))) tt
at_start deny ask Segment = segment_status ask

-- a word that is not in storage ends a walk in a stop
apart : {cause : Cause} {X : Type 0} (at : ℕ) → Fault cause ≡ Stop NoStorage at → X
apart at e = cc

-- a walk that ends in a fault has come to it
fault_ends : (word : ℕ → Option ℕ) (s : Stage) (cause : Cause) → EndsAt word s (Fault cause) → FaultsAt s → HasStatus cause
fault_ends word (SecondWord at) cause ends h = apart at ends.1
fault_ends word (PartEntry goal gra at) cause ends h = apart at ends.1
fault_ends word (PartTable goal gra n) cause ends h = apart (entry_at gra n) ends.1
fault_ends word (ProcessEntry at) cause ends h = apart at ends.1
fault_ends word (ProcessTable n at) cause ends h = apart at ends.1
fault_ends word (Over o) cause ends h = subst (λ x. FaultsAt (Over x)) (sym ends) h

pub walk_status : (deny : Rights → AccessKind → Option Denial) (word : ℕ → Option ℕ) (ask : Ask) (rs : List ReadRow) (cause : Cause) → Walk deny word ask rs (Fault cause) → IsStatus (interrupt_of cause).bits
walk_status deny word ask rs cause walk =
    let k : Task = task_of deny ask in
    let s : Stage = start_of deny ask in
    fault_ends word (stage_after k s rs) cause walk.ends (faults_after k s rs (at_start deny ask (place_of ask)))

pub walk_returns : (t : Thread) → t.msr.0 < 2 ^ 64 → (deny : Rights → AccessKind → Option Denial) (word : ℕ → Option ℕ) (ask : Ask) (rs : List ReadRow) (cause : Cause) → Walk deny word ask rs (Fault cause) →
    is_in_profile t.msr.0 ≡ true → IsConfined t.msr → returned (interrupt_of cause).saved_in (delivered cause t) ≡ Ok t.msr
walk_returns t small deny word ask rs cause walk profile confined = restores cause t small profile confined (walk_status deny word ask rs cause walk)
