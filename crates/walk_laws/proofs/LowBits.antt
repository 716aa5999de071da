-- A walk to a page keeps the 12 low bits of the address.
use Rattle.std.proofs.Common.{◌≡◌, ℕ, ◌-◌, ◌*◌, ◌%◌, ◌^◌, ◌==◌, ◌||◌, true, List, [], ◌∷◌, Option, Some, None, arith, ◌∙◌, refl, subst}
use Rattle.std.specs.Prelude.{if◌then◌else◌}
use Rattle.journal_core.specs.Asks.{bits, is_one, is_hypervisor, is_problem, is_relocated}
use Rattle.journal_core.specs.PartitionWalk.{entry_at, after_entry, after_tree, at_node, is_page_size, real_in}
use Rattle.journal_core.specs.Places.{in_space, hypervisor_quadrant, guest_quadrant, place_of}
use Rattle.journal_core.specs.Walk.{Task, partition_rights, process_rights, access_for, granted, inside, enter, at_table, process_granted, in_process, next, stage_after, process_start, start_at, task_at, never_denied}
use Rattle.journal_core.specs.Turns.{Turn}
use Rattle.walk_laws.proofs.AlikeWalks.{no_way}
use Rattle.walk_laws.proofs.StageCases.{if_else, by_page_size, by_node, by_start, by_entry, by_tree, by_second, by_process_entry, by_process_start}
use Rattle.journal_core.specs.Admitted.{IsAdmitted}
use Rattle.journal_core.specs.declared.rows.ReadRow.{ReadRow}
use Rattle.journal_core.specs.declared.asks.Ask.{Ask}
use Rattle.journal_core.specs.declared.asks.Denial.{Denial}
use Rattle.journal_core.specs.declared.asks.Place.{Place}
use Rattle.journal_core.specs.declared.asks.Place.TheVariants.{Real, GuestReal, Space, Segment}
use Rattle.journal_core.specs.declared.walks.Node.{Node}
use Rattle.journal_core.specs.declared.walks.Goal.{Goal}
use Rattle.journal_core.specs.declared.walks.Goal.TheVariants.{ForEntry, ForTable, ForResult, ForGuest}
use Rattle.journal_core.specs.declared.walks.NestResult.TheVariants.{Page, Fault, Stop}
use Rattle.journal_core.specs.declared.walks.Stage.{Stage}
use Rattle.journal_core.specs.declared.walks.Stage.TheVariants.{SecondWord, PartEntry, PartTable, ProcessEntry, ProcessTable, Over}

-- an address has these low bits
abbrev LowOf : ℕ → ℕ → Type 0
LowOf a b = a % 2 ^ 12 ≡ b % 2 ^ 12

low_in : (page low address : ℕ) → is_page_size low ≡ true → LowOf (real_in page low address) address
low_in page low address size = by_page_size (λ l. LowOf (real_in page l address) address) low size (omega arith) (omega arith) (omega arith) (omega arith)

-- a guest real address that is walked for a result, and not for a table, has the low bits of the ask's address
abbrev LowGoal : ℕ → Goal → ℕ → Type 0
LowGoal address ForEntry gra = Unit {0}
LowGoal address (ForTable n) gra = Unit {0}
LowGoal address ForResult gra = LowOf gra address
LowGoal address ForGuest gra = LowOf gra address

-- where a walk stands, the address that it is at has the low bits of the ask's
abbrev LowAt : ℕ → Stage → Type 0
LowAt address (SecondWord at) = Unit {0}
LowAt address (PartEntry goal gra at) = LowGoal address goal gra
LowAt address (PartTable goal gra n) = LowGoal address goal gra
LowAt address (ProcessEntry at) = Unit {0}
LowAt address (ProcessTable n at) = Unit {0}
LowAt address (Over (Page real)) = LowOf real address
LowAt address (Over (Fault cause)) = Unit {0}
LowAt address (Over (Stop name value)) = Unit {0}

low_arrived : (address : ℕ) (goal : Goal) (ask : Ask) (gra at : ℕ) (d : Option Denial) → LowGoal address goal gra → LowOf at gra → LowAt address (granted ask goal gra at d)
low_arrived address goal ask gra at (Some d) low same = tt
low_arrived address ForEntry ask gra at None low same = tt
low_arrived address (ForTable n) ask gra at None low same = tt
low_arrived address ForResult ask gra at None low same = same ∙ low
low_arrived address ForGuest ask gra at None low same = same ∙ low

low_tree : (k : Task) (goal : Goal) (gra rest level v : ℕ) → LowGoal k.address goal gra → LowAt k.address (inside k goal gra (after_tree rest level v))
unfolding inside
low_tree k goal gra rest level v low =
    by_tree (λ p. LowAt k.address (inside k goal gra p)) rest level v (λ kind. tt) (λ n. low)
    (λ leaf size. low_arrived k.address goal k.ask gra (real_in (bits v 7 51 * 2 ^ 12) rest gra) (k.deny (partition_rights (bits v 58 59) (bits v 60 63) (is_one v 55) (is_one v 56)) (access_for k.ask goal)) low (low_in (bits v 7 51 * 2 ^ 12) rest gra size))

low_entry : (k : Task) (goal : Goal) (gra v : ℕ) → LowGoal k.address goal gra → LowAt k.address (inside k goal gra (after_entry k.lpid gra v))
unfolding inside
low_entry k goal gra v low = by_entry (λ p. LowAt k.address (inside k goal gra p)) k.lpid gra v (λ kind. tt) (λ name value. tt) (λ n. low)

low_enter : (k : Task) (goal : Goal) (gra : ℕ) → LowGoal k.address goal gra → LowAt k.address (enter k goal gra)
unfolding inside
low_enter k goal gra low = by_start (λ p. LowAt k.address (inside k goal gra p)) k.ask.ptcr k.lpid (λ kind. tt) low

low_table : (k : Task) (n : Node) → LowAt k.address (at_table k n)
low_table k n = if_else (LowAt k.address) (k.lpid == 0) (ProcessTable n (entry_at k.address n)) (enter k (ForTable n) (entry_at k.address n)) (λ e. tt) (λ e. low_enter k (ForTable n) (entry_at k.address n) tt)

low_result : (k : Task) (gra : ℕ) (d : Option Denial) → LowOf gra k.address → LowAt k.address (process_granted k gra d)
low_result k gra None low = if_else (LowAt k.address) (k.lpid == 0) (Over (Page gra)) (enter k ForResult gra) (λ e. low) (λ e. low_enter k ForResult gra low)
low_result k gra (Some d) low = tt

low_process_tree : (k : Task) (rest level v : ℕ) → LowAt k.address (in_process k (after_tree rest level v))
unfolding in_process
low_process_tree k rest level v =
    by_tree (λ p. LowAt k.address (in_process k p)) rest level v (λ kind. tt) (λ n. low_table k n)
    (λ leaf size. low_result k (real_in (bits v 7 51 * 2 ^ 12) rest k.address) (k.deny (process_rights (bits v 58 59) (bits v 60 63) (is_one v 55) (is_one v 56)) k.ask.access) (low_in (bits v 7 51 * 2 ^ 12) rest k.address size))

low_process_node : (k : Task) (n : Node) → LowAt k.address (in_process k (at_node n))
unfolding in_process
low_process_node k n = by_node (λ p. LowAt k.address (in_process k p)) n (λ kind. tt) (low_table k n)

low_next : (k : Task) (s : Stage) (v : ℕ) → LowAt k.address s → LowAt k.address (next k s v)
low_next k (SecondWord at) v low = by_second (LowAt k.address) k v (λ kind. tt) (λ gra. low_enter k ForEntry gra tt)
low_next k (PartEntry goal gra at) v low = low_entry k goal gra v low
low_next k (PartTable goal gra n) v low = low_tree k goal gra (n.left - n.size) n.level v low
low_next k (ProcessEntry at) v low = by_process_entry (LowAt k.address) k v (λ kind. tt) tt (λ n. low_process_node k n)
low_next k (ProcessTable n at) v low = low_process_tree k (n.left - n.size) n.level v
low_next k (Over (Page real)) v low = low
low_next k (Over (Fault cause)) v low = low
low_next k (Over (Stop name value)) v low = low

low_after : (k : Task) (s : Stage) (rs : List ReadRow) → LowAt k.address s → LowAt k.address (stage_after k s rs)
low_after k s [] low = low
low_after k s (r ∷ rs) low = low_after k (next k s r.value) rs (low_next k s r.value low)

-- the address that a place has, which is one of this effective address
abbrev LowPlace : ℕ → Place → Type 0
LowPlace ea (Real a) = LowOf a ea
LowPlace ea (GuestReal lpid a) = LowOf a ea
LowPlace ea (Space lpid pid a) = LowOf a ea
LowPlace ea Segment = Unit {0}

low_space : (ask : Ask) (lpid pid : ℕ) → LowPlace ask.ea (in_space ask lpid pid)
low_space ask lpid pid = omega arith

low_guest : (ask : Ask) (q : ℕ) → LowPlace ask.ea (guest_quadrant ask q)
low_guest ask q = if_else (LowPlace ask.ea) (q == 0) (in_space ask ask.lpid ask.pid) upper (λ e. low_space ask ask.lpid ask.pid) (λ e. low_upper)
  where
    upper : Place
    upper = if q == 3 then in_space ask ask.lpid 0 else Segment

    low_upper : LowPlace ask.ea upper
    low_upper = if_else (LowPlace ask.ea) (q == 3) (in_space ask ask.lpid 0) Segment (λ e. low_space ask ask.lpid 0) (λ e. tt)

low_hypervisor : (ask : Ask) (q : ℕ) → LowPlace ask.ea (hypervisor_quadrant ask q)
low_hypervisor ask q = if_else (LowPlace ask.ea) (q == 0) (in_space ask 0 ask.pid) upper (λ e. low_space ask 0 ask.pid) (λ e. low_upper)
  where
    guest : Place
    guest = if q == 1 then in_space ask ask.lpid ask.pid else in_space ask ask.lpid 0

    middle : Place
    middle = if is_problem ask || (ask.lpid == 0) then Segment else guest

    upper : Place
    upper = if q == 3 then in_space ask 0 0 else middle

    low_middle : LowPlace ask.ea middle
    low_middle = if_else (LowPlace ask.ea) (is_problem ask || (ask.lpid == 0)) Segment guest (λ e. tt) (λ e. if_else (LowPlace ask.ea) (q == 1) (in_space ask ask.lpid ask.pid) (in_space ask ask.lpid 0) (λ e. low_space ask ask.lpid ask.pid) (λ e. low_space ask ask.lpid 0))

    low_upper : LowPlace ask.ea upper
    low_upper = if_else (LowPlace ask.ea) (q == 3) (in_space ask 0 0) middle (λ e. low_space ask 0 0) (λ e. low_middle)

low_place : (ask : Ask) → LowPlace ask.ea (place_of ask)
unfolding place_of
low_place ask =
    let q : ℕ = bits ask.ea 0 1 in
    let relocated : Place = if is_hypervisor ask then hypervisor_quadrant ask q else guest_quadrant ask q in
    let plain : Place = if is_hypervisor ask then Real (bits ask.ea 4 63) else GuestReal ask.lpid (bits ask.ea 4 63) in
    if_else (LowPlace ask.ea) (is_relocated ask) relocated plain
    (λ e. if_else (LowPlace ask.ea) (is_hypervisor ask) (hypervisor_quadrant ask q) (guest_quadrant ask q) (λ e. low_hypervisor ask q) (λ e. low_guest ask q))
    (λ e. if_else (LowPlace ask.ea) (is_hypervisor ask) (Real (bits ask.ea 4 63)) (GuestReal ask.lpid (bits ask.ea 4 63)) (λ e. omega arith) (λ e. omega arith))

low_start : (k : Task) → LowAt k.address (process_start k)
low_start k = by_process_start (LowAt k.address) k tt tt

low_from : (ask : Ask) (p : Place) (rs : List ReadRow) (real : ℕ) → LowPlace ask.ea p → stage_after (task_at never_denied ask p) (start_at (task_at never_denied ask p) p) rs ≡ Over (Page real) → LowOf real ask.ea
low_from ask (Real a) rs real low leads = subst (LowAt a) leads (low_after (task_at never_denied ask (Real a)) (Over (Page a)) rs refl) ∙ low
low_from ask (GuestReal lpid a) rs real low leads =
    (let k : Task = task_at never_denied ask (GuestReal lpid a) in subst (LowAt a) leads (low_after k (enter k ForGuest a) rs (low_enter k ForGuest a refl)) ∙ low)
low_from ask (Space lpid pid a) rs real low leads =
    (let k : Task = task_at never_denied ask (Space lpid pid a) in subst (LowAt a) leads (low_after k (process_start k) rs (low_start k)) ∙ low)
low_from ask Segment rs real low leads = absurd (no_way (task_at never_denied ask Segment) _ rs real tt leads)

-- the real address that an ask is admitted to has the low bits of the effective one
pub admitted_low : (past : ℕ → ℕ → Option ℕ) (v : Turn) (ask : Ask) (rs : List ReadRow) (real : ℕ) → IsAdmitted past v ask rs real → real % 2 ^ 12 ≡ ask.ea % 2 ^ 12
admitted_low past v ask rs real h = low_from ask (place_of ask) rs real (low_place ask) h.walk.leads
