-- A walk raises only six interrupts, with their bits.
use Rattle.std.proofs.Common.{◌≡◌, ℕ, ◌+◌, ◌-◌, ◌*◌, ◌/◌, ◌^◌, true, List, [], ◌∷◌, Option, Some, None, refl, sym, subst}
use Rattle.std.specs.Prelude.{nat_le, nat_lt, ◌==◌}
use Rattle.std.proofs.Math.Nat.{mul-mod_left}
use Rattle.ppc_bits.specs.Bits.{is_among}
use Rattle.journal_core.specs.declared.rows.ReadRow.{ReadRow}
use Rattle.journal_core.specs.declared.asks.AccessKind.{AccessKind}
use Rattle.journal_core.specs.declared.asks.Ask.{Ask}
use Rattle.journal_core.specs.declared.asks.Denial.{Denial}
use Rattle.journal_core.specs.declared.asks.Denial.TheVariants.{Privilege, Read, Write, Execute, Guarded, Referenced, Changed}
use Rattle.journal_core.specs.declared.asks.Place.{Place}
use Rattle.journal_core.specs.declared.asks.Place.TheVariants.{Real, GuestReal, Space, Segment}
use Rattle.journal_core.specs.declared.asks.Rights.{Rights}
use Rattle.journal_core.specs.declared.causes.Cause.{Cause}
use Rattle.journal_core.specs.declared.rows.StopName.TheVariants.{NoStorage}
use Rattle.journal_core.specs.declared.walks.FaultKind.{FaultKind}
use Rattle.journal_core.specs.declared.walks.FaultKind.TheVariants.{Missing, Unsupported}
use Rattle.journal_core.specs.declared.walks.Node.{Node}
use Rattle.journal_core.specs.declared.walks.Goal.{Goal}
use Rattle.journal_core.specs.declared.walks.Goal.TheVariants.{ForEntry, ForTable, ForResult, ForGuest}
use Rattle.journal_core.specs.declared.walks.NestResult.{NestResult}
use Rattle.journal_core.specs.declared.walks.NestResult.TheVariants.{Page, Fault, Stop}
use Rattle.journal_core.specs.declared.walks.PartResult.TheVariants.{Leaf, Fault as PartFault, Stop as PartStop}
use Rattle.journal_core.specs.declared.walks.PartStage.{PartStage}
use Rattle.journal_core.specs.declared.walks.PartStage.TheVariants.{Entry, Tree, Ended}
use Rattle.journal_core.specs.declared.walks.Stage.{Stage}
use Rattle.journal_core.specs.declared.walks.Stage.TheVariants.{SecondWord, PartEntry, PartTable, ProcessEntry, ProcessTable, Over}
use Rattle.journal_core.specs.Asks.{bits, is_fetch}
use Rattle.journal_core.specs.Faults.{fault_bit, kind_bits, denial_bits, process_fault, partition_fault, segment_fault}
use Rattle.journal_core.specs.Places.{place_of}
use Rattle.journal_core.specs.PartitionWalk.{at_node, part_start, after_entry, after_tree, root_bits, node_of, has_entry, real_in, entry_at}
use Rattle.journal_core.specs.Walk.{Task, table_bits, inside, granted, arrived, enter, at_table, at_result, process_granted, in_process, after_second, after_process_entry, next, stage_after, process_start, start_at, task_at, partition_rights, process_rights, access_for}
use Rattle.journal_core.specs.Following.{EndsAt, Walk}
use Rattle.walk_laws.proofs.WalkBounds.{cond_case}
use Rattle.walk_laws.proofs.KeptPart.{task_ask}
use Rattle.nested_walk.specs.Causes.{process_bits, partition_bits, IsWalkCause}

-- an outcome that raises something raises what a walk of the ask may
abbrev pub Raises : Ask → NestResult → Type 0
Raises ask (Page real) = Unit {0}
Raises ask (Fault cause) = IsWalkCause ask cause
Raises ask (Stop name value) = Unit {0}

abbrev pub RaisesAt : Ask → Stage → Type 0
RaisesAt ask (SecondWord at) = Unit {0}
RaisesAt ask (PartEntry goal gra at) = Unit {0}
RaisesAt ask (PartTable goal gra n) = Unit {0}
RaisesAt ask (ProcessEntry at) = Unit {0}
RaisesAt ask (ProcessTable n at) = Unit {0}
RaisesAt ask (Over out) = Raises ask out

-- ---- the bits

kind_is_why : (kind : FaultKind) → is_among process_bits (kind_bits kind) ≡ true
kind_is_why Missing = refl
kind_is_why Unsupported = refl

denial_is_why : (d : Denial) → is_among process_bits (denial_bits d) ≡ true
denial_is_why Privilege = refl
denial_is_why Read = refl
denial_is_why Write = refl
denial_is_why Execute = refl
denial_is_why Guarded = refl
denial_is_why Referenced = refl
denial_is_why Changed = refl

kind_is_inner : (kind : FaultKind) (goal : Goal) → is_among partition_bits (kind_bits kind + table_bits goal) ≡ true
kind_is_inner Missing ForEntry = refl
kind_is_inner Missing (ForTable n) = refl
kind_is_inner Missing ForResult = refl
kind_is_inner Missing ForGuest = refl
kind_is_inner Unsupported ForEntry = refl
kind_is_inner Unsupported (ForTable n) = refl
kind_is_inner Unsupported ForResult = refl
kind_is_inner Unsupported ForGuest = refl

denial_alone : (d : Denial) → is_among partition_bits (denial_bits d + 0) ≡ true
denial_alone Privilege = refl
denial_alone Read = refl
denial_alone Write = refl
denial_alone Execute = refl
denial_alone Guarded = refl
denial_alone Referenced = refl
denial_alone Changed = refl

denial_for_table : (d : Denial) → is_among partition_bits (denial_bits d + fault_bit 46) ≡ true
denial_for_table Privilege = refl
denial_for_table Read = refl
denial_for_table Write = refl
denial_for_table Execute = refl
denial_for_table Guarded = refl
denial_for_table Referenced = refl
denial_for_table Changed = refl

denial_is_inner : (d : Denial) (goal : Goal) → is_among partition_bits (denial_bits d + table_bits goal) ≡ true
denial_is_inner d ForEntry = denial_for_table d
denial_is_inner d (ForTable n) = denial_for_table d
denial_is_inner d ForResult = denial_alone d
denial_is_inner d ForGuest = denial_alone d

-- ---- the interrupts

process_raises : (ask : Ask) (why : ℕ) → is_among process_bits why ≡ true → Raises ask (Fault (process_fault ask why))
process_raises ask why h = cond_case (λ c. IsWalkCause ask c) (is_fetch ask.access) _ _ (λ is. (is, h)) (λ isnt. (isnt, refl, why, h, refl))

partition_raises : (ask : Ask) (why gra : ℕ) → is_among partition_bits why ≡ true → Raises ask (Fault (partition_fault ask why gra))
partition_raises ask why gra h = cond_case (λ c. IsWalkCause ask c) (is_fetch ask.access) _ _ (λ is. ((is, h), mul-mod_left (gra / 2 ^ 12) (2 ^ 12))) (λ isnt. ((isnt, refl, why, h, refl), mul-mod_left (gra / 2 ^ 12) (2 ^ 12)))

segment_raises : (ask : Ask) → Raises ask (Fault (segment_fault ask))
segment_raises ask = cond_case (λ c. IsWalkCause ask c) (is_fetch ask.access) _ _ (λ is. is) (λ isnt. (isnt, refl))

-- ---- the steps

arrived_raises : (ask : Ask) (goal : Goal) (at : ℕ) → RaisesAt ask (arrived goal at)
arrived_raises ask ForEntry at = tt
arrived_raises ask (ForTable n) at = tt
arrived_raises ask ForResult at = tt
arrived_raises ask ForGuest at = tt

granted_raises : (ask : Ask) (goal : Goal) (gra at : ℕ) (d : Option Denial) → RaisesAt ask (granted ask goal gra at d)
granted_raises ask goal gra at None = arrived_raises ask goal at
granted_raises ask goal gra at (Some d) = partition_raises ask (denial_bits d + table_bits goal) gra (denial_is_inner d goal)

inside_raises : (k : Task) (goal : Goal) (gra : ℕ) (s : PartStage) → RaisesAt k.ask (inside k goal gra s)
unfolding inside
inside_raises k goal gra (Entry at) = tt
inside_raises k goal gra (Tree n) = tt
inside_raises k goal gra (Ended (Leaf page low att eaa r c)) = granted_raises k.ask goal gra (real_in page low gra) (k.deny (partition_rights att eaa r c) (access_for k.ask goal))
inside_raises k goal gra (Ended (PartFault kind)) = partition_raises k.ask (kind_bits kind + table_bits goal) gra (kind_is_inner kind goal)
inside_raises k goal gra (Ended (PartStop name value)) = tt

enter_raises : (k : Task) (goal : Goal) (gra : ℕ) → RaisesAt k.ask (enter k goal gra)
enter_raises k goal gra = inside_raises k goal gra (part_start k.ask.ptcr k.lpid)

at_table_raises : (k : Task) (n : Node) → RaisesAt k.ask (at_table k n)
at_table_raises k n = cond_case (λ s. RaisesAt k.ask s) (k.lpid == 0) _ _ (λ is. tt) (λ isnt. enter_raises k (ForTable n) (entry_at k.address n))

at_result_raises : (k : Task) (gra : ℕ) → RaisesAt k.ask (at_result k gra)
at_result_raises k gra = cond_case (λ s. RaisesAt k.ask s) (k.lpid == 0) _ _ (λ is. tt) (λ isnt. enter_raises k ForResult gra)

process_granted_raises : (k : Task) (gra : ℕ) (d : Option Denial) → RaisesAt k.ask (process_granted k gra d)
process_granted_raises k gra None = at_result_raises k gra
process_granted_raises k gra (Some d) = process_raises k.ask (denial_bits d) (denial_is_why d)

in_process_raises : (k : Task) (s : PartStage) → RaisesAt k.ask (in_process k s)
unfolding in_process
in_process_raises k (Entry at) = tt
in_process_raises k (Tree n) = at_table_raises k n
in_process_raises k (Ended (Leaf page low att eaa r c)) = process_granted_raises k (real_in page low k.address) (k.deny (process_rights att eaa r c) k.ask.access)
in_process_raises k (Ended (PartFault kind)) = process_raises k.ask (kind_bits kind) (kind_is_why kind)
in_process_raises k (Ended (PartStop name value)) = tt

after_second_raises : (k : Task) (v : ℕ) → RaisesAt k.ask (after_second k v)
unfolding after_second
after_second_raises k v =
    cond_case (λ s. RaisesAt k.ask s) (nat_lt (16 * k.pid) (2 ^ (12 + bits v 59 63))) _ _ (λ is. enter_raises k ForEntry (bits v 4 51 * 2 ^ 12 + 16 * k.pid)) (λ isnt. process_raises k.ask (kind_bits Missing) refl)

after_process_entry_raises : (k : Task) (v : ℕ) → RaisesAt k.ask (after_process_entry k v)
unfolding after_process_entry
after_process_entry_raises k v =
    let P : Stage → Type 0 = λ s. RaisesAt k.ask s in
    cond_case P (nat_lt 52 (root_bits v)) _ _ (λ is. process_raises k.ask (kind_bits Unsupported) refl)
    (λ h. cond_case P (nat_le (2 ^ root_bits v) k.address) _ _ (λ is. segment_raises k.ask) (λ h. in_process_raises k (at_node (node_of v (root_bits v) 1))))

next_raises : (k : Task) (s : Stage) (v : ℕ) → RaisesAt k.ask s → RaisesAt k.ask (next k s v)
next_raises k (SecondWord at) v h = after_second_raises k v
next_raises k (PartEntry goal gra at) v h = inside_raises k goal gra (after_entry k.lpid gra v)
next_raises k (PartTable goal gra n) v h = inside_raises k goal gra (after_tree (n.left - n.size) n.level v)
next_raises k (ProcessEntry at) v h = after_process_entry_raises k v
next_raises k (ProcessTable n at) v h = in_process_raises k (after_tree (n.left - n.size) n.level v)
next_raises k (Over out) v h = h

process_start_raises : (k : Task) → RaisesAt k.ask (process_start k)
unfolding process_start
process_start_raises k = cond_case (λ s. RaisesAt k.ask s) (has_entry k.ask.ptcr k.lpid) _ _ (λ is. tt) (λ isnt. partition_raises k.ask (kind_bits Missing) 0 refl)

start_raises : (k : Task) (p : Place) → RaisesAt k.ask (start_at k p)
start_raises k (Real a) = tt
start_raises k (GuestReal lpid a) = enter_raises k ForGuest a
start_raises k (Space lpid pid a) = process_start_raises k
start_raises k Segment = segment_raises k.ask

after_raises : (k : Task) (s : Stage) (rs : List ReadRow) → RaisesAt k.ask s → RaisesAt k.ask (stage_after k s rs)
after_raises k s [] h = h
after_raises k s (r ∷ rs) h = after_raises k (next k s r.value) rs (next_raises k s r.value h)

no_gap : (cause : Cause) (at : ℕ) → Fault cause ≡ Stop NoStorage at → ⊥
no_gap cause at e = cc

end_raises : (word : ℕ → Option ℕ) (ask : Ask) (s : Stage) (cause : Cause) → RaisesAt ask s → EndsAt word s (Fault cause) → IsWalkCause ask cause
end_raises word ask (SecondWord at) cause h e = absurd (no_gap cause at e.1)
end_raises word ask (PartEntry goal gra at) cause h e = absurd (no_gap cause at e.1)
end_raises word ask (PartTable goal gra n) cause h e = absurd (no_gap cause (entry_at gra n) e.1)
end_raises word ask (ProcessEntry at) cause h e = absurd (no_gap cause at e.1)
end_raises word ask (ProcessTable n at) cause h e = absurd (no_gap cause at e.1)
end_raises word ask (Over out) cause h e = subst (λ o. Raises ask o) (sym e) h

pub six_causes : (deny : Rights → AccessKind → Option Denial) (word : ℕ → Option ℕ) (ask : Ask) (rs : List ReadRow) (cause : Cause) → Walk deny word ask rs (Fault cause) → IsWalkCause ask cause
six_causes deny word ask rs cause w =
    let p : Place = place_of ask in
    let k : Task = task_at deny ask p in
    let raises : RaisesAt k.ask (stage_after k (start_at k p) rs) = after_raises k (start_at k p) rs (start_raises k p) in
    subst (λ a. IsWalkCause a cause) (task_ask deny ask p) (end_raises word k.ask (stage_after k (start_at k p) rs) cause raises w.ends)
