-- A walk that the rights permit is a walk that no right refuses: as long as nothing is refused both stand at one place, and a
-- refusal ends the walk with no page.
use Rattle.std.proofs.Common.{◌≡◌, ℕ, ◌+◌, ◌-◌, ◌*◌, ◌^◌, nat_lt, nat_le, ◌==◌, Bool, true, false, List, [], ◌∷◌, Option, Some, None, ◌⊎◌, inl, inr, sym, ◌∙◌, refl, subst}
use Rattle.std.specs.Prelude.{if◌then◌else◌, ◌↔◌}
use Rattle.walk_laws.proofs.AlikeWalks.{NoPage, no_way}
use Rattle.journal_core.specs.Asks.{bits}
use Rattle.journal_core.specs.Rights.{first_denial}
use Rattle.journal_core.specs.PartitionWalk.{root_bits, node_of, entry_at, part_start, after_entry, after_tree, at_node}
use Rattle.journal_core.specs.Places.{place_of}
use Rattle.journal_core.specs.Walk.{Task, granted, inside, enter, at_table, at_result, process_granted, in_process, after_second, after_process_entry, next, stage_after, process_start, start_at, task_at, task_of, start_of, never_denied}
use Rattle.journal_core.specs.Following.{IsRead, Follows}
use Rattle.journal_core.specs.Admitted.{IsWalkTo, IsRight}
use Rattle.journal_core.specs.declared.rows.ReadRow.{ReadRow}
use Rattle.journal_core.specs.declared.asks.AccessKind.{AccessKind}
use Rattle.journal_core.specs.declared.asks.Ask.{Ask}
use Rattle.journal_core.specs.declared.asks.Rights.{Rights}
use Rattle.journal_core.specs.declared.asks.Denial.{Denial}
use Rattle.journal_core.specs.declared.asks.Place.{Place}
use Rattle.journal_core.specs.declared.asks.Place.TheVariants.{Real, GuestReal, Space, Segment}
use Rattle.journal_core.specs.declared.walks.PartResult.TheVariants.{Leaf}
use Rattle.journal_core.specs.declared.walks.PartResult.TheVariants.{Fault as PartFault, Stop as PartStop}
use Rattle.journal_core.specs.declared.walks.Node.{Node}
use Rattle.journal_core.specs.declared.walks.PartStage.{PartStage}
use Rattle.journal_core.specs.declared.walks.PartStage.TheVariants.{Entry, Tree, Ended}
use Rattle.journal_core.specs.declared.walks.Goal.{Goal}
use Rattle.journal_core.specs.declared.walks.Goal.TheVariants.{ForEntry, ForTable, ForResult, ForGuest}
use Rattle.journal_core.specs.declared.walks.NestResult.{NestResult}
use Rattle.journal_core.specs.declared.walks.NestResult.TheVariants.{Page}
use Rattle.journal_core.specs.declared.walks.Stage.{Stage}
use Rattle.journal_core.specs.declared.walks.Stage.TheVariants.{SecondWord, PartEntry, PartTable, ProcessEntry, ProcessTable, Over}

-- the same task, whose rights refuse nothing
abbrev pub free : Task → Task
free k = record k { deny = never_denied }

-- a walk is over with no page
abbrev pub IsLost : Stage → Type 0
IsLost s = (o : NestResult) × (s ≡ Over o) × NoPage o

-- a walk stands where the other one does, unless it is over with no page
abbrev pub Freed : Stage → Stage → Type 0
Freed s t = (s ≡ t) ⊎ IsLost s

freed_if : (b : Bool) (x y x1 y1 : Stage) → Freed x x1 → Freed y y1 → Freed (if b then x else y) (if b then x1 else y1)
freed_if true x y x1 y1 one two = one
freed_if false x y x1 y1 one two = two

freed_granted : (a : Ask) (goal : Goal) (gra at : ℕ) (d : Option Denial) → Freed (granted a goal gra at d) (granted a goal gra at None)
freed_granted a goal gra at None = inl refl
freed_granted a goal gra at (Some d) = inr (_, refl, tt)

freed_inside : (k : Task) (goal : Goal) (gra : ℕ) (p : PartStage) → Freed (inside k goal gra p) (inside (free k) goal gra p)
unfolding inside
freed_inside k goal gra (Entry at) = inl refl
freed_inside k goal gra (Tree n) = inl refl
freed_inside k goal gra (Ended (Leaf page low att eaa r c)) = freed_granted k.ask goal gra _ _
freed_inside k goal gra (Ended (PartFault kind)) = inl refl
freed_inside k goal gra (Ended (PartStop name value)) = inl refl

freed_enter : (k : Task) (goal : Goal) (gra : ℕ) → Freed (enter k goal gra) (enter (free k) goal gra)
freed_enter k goal gra = freed_inside k goal gra (part_start k.ask.ptcr k.lpid)

freed_at_table : (k : Task) (n : Node) → Freed (at_table k n) (at_table (free k) n)
freed_at_table k n = freed_if (k.lpid == 0) _ _ _ _ (inl refl) (freed_enter k (ForTable n) (entry_at k.address n))

freed_at_result : (k : Task) (gra : ℕ) → Freed (at_result k gra) (at_result (free k) gra)
freed_at_result k gra = freed_if (k.lpid == 0) _ _ _ _ (inl refl) (freed_enter k ForResult gra)

freed_process_granted : (k : Task) (gra : ℕ) (d : Option Denial) → Freed (process_granted k gra d) (process_granted (free k) gra None)
freed_process_granted k gra None = freed_at_result k gra
freed_process_granted k gra (Some d) = inr (_, refl, tt)

freed_in_process : (k : Task) (p : PartStage) → Freed (in_process k p) (in_process (free k) p)
unfolding in_process
freed_in_process k (Entry at) = inl refl
freed_in_process k (Tree n) = freed_at_table k n
freed_in_process k (Ended (Leaf page low att eaa r c)) = freed_process_granted k _ _
freed_in_process k (Ended (PartFault kind)) = inl refl
freed_in_process k (Ended (PartStop name value)) = inl refl

freed_second : (k : Task) (v : ℕ) → Freed (after_second k v) (after_second (free k) v)
unfolding after_second
freed_second k v = freed_if (nat_lt (16 * k.pid) (2 ^ (12 + bits v 59 63))) _ _ _ _ (freed_enter k ForEntry _) (inl refl)

freed_process_entry : (k : Task) (v : ℕ) → Freed (after_process_entry k v) (after_process_entry (free k) v)
unfolding after_process_entry
freed_process_entry k v =
    freed_if (nat_lt 52 (root_bits v)) _ _ _ _ (inl refl)
    (freed_if (nat_le (2 ^ root_bits v) k.address) _ _ _ _ (inl refl) (freed_in_process k (at_node (node_of v (root_bits v) 1))))

pub freed_next : (k : Task) (s : Stage) (v : ℕ) → Freed (next k s v) (next (free k) s v)
freed_next k (SecondWord at) v = freed_second k v
freed_next k (PartEntry goal gra at) v = freed_inside k goal gra (after_entry k.lpid gra v)
freed_next k (PartTable goal gra n) v = freed_inside k goal gra (after_tree (n.left - n.size) n.level v)
freed_next k (ProcessEntry at) v = freed_process_entry k v
freed_next k (ProcessTable n at) v = freed_in_process k (after_tree (n.left - n.size) n.level v)
freed_next k (Over o) v = inl refl

-- rights do not matter for which reading a walk may make
free_read : (k : Task) (s : Stage) (r : ReadRow) → IsRead k s r → IsRead (free k) s r
free_read k (SecondWord at) r a = record { same_role = a.same_role; same_lpid = a.same_lpid; same_pid = a.same_pid; same_level = a.same_level; same_left = a.same_left; same_at = a.same_at }
free_read k (PartEntry goal gra at) r a = a
free_read k (PartTable goal gra n) r a = a
free_read k (ProcessEntry at) r a = record { same_role = a.same_role; same_lpid = a.same_lpid; same_pid = a.same_pid; same_sought = a.same_sought; same_level = a.same_level; same_left = a.same_left; same_at = a.same_at }
free_read k (ProcessTable n at) r a = record { same_role = a.same_role; same_lpid = a.same_lpid; same_pid = a.same_pid; same_sought = a.same_sought; same_level = a.same_level; same_left = a.same_left; same_at = a.same_at }
free_read k (Over o) r a = a

bound_read : (k : Task) (s : Stage) (r : ReadRow) → IsRead (free k) s r → IsRead k s r
bound_read k (SecondWord at) r a = record { same_role = a.same_role; same_lpid = a.same_lpid; same_pid = a.same_pid; same_level = a.same_level; same_left = a.same_left; same_at = a.same_at }
bound_read k (PartEntry goal gra at) r a = a
bound_read k (PartTable goal gra n) r a = a
bound_read k (ProcessEntry at) r a = record { same_role = a.same_role; same_lpid = a.same_lpid; same_pid = a.same_pid; same_sought = a.same_sought; same_level = a.same_level; same_left = a.same_left; same_at = a.same_at }
bound_read k (ProcessTable n at) r a = record { same_role = a.same_role; same_lpid = a.same_lpid; same_pid = a.same_pid; same_sought = a.same_sought; same_level = a.same_level; same_left = a.same_left; same_at = a.same_at }
bound_read k (Over o) r a = a

-- a walk that is over with no page leads to none
pub lost_leads : {X : Type 0} (k : Task) (s : Stage) (rs : List ReadRow) (real : ℕ) → IsLost s → stage_after k s rs ≡ Over (Page real) → X
lost_leads k s rs real lost leads = absurd (no_way k lost.0 rs real lost.2 (subst (λ x. stage_after k x rs ≡ Over (Page real)) lost.1 leads))

record IsFreeWalk (k : Task) (s : Stage) (rs : List ReadRow) (real : ℕ) : Type 0 where
  follows : Follows (free k) s rs
  leads : stage_after (free k) s rs ≡ Over (Page real)

freed_walk : (k : Task) (s t : Stage) (rs : List ReadRow) (real : ℕ) → Freed s t → Follows k s rs → stage_after k s rs ≡ Over (Page real) → IsFreeWalk k t rs real
freed_walk k s t rs real (inr lost) follows leads = lost_leads k s rs real lost leads
freed_walk k s t [] real (inl e) follows leads = record { follows = tt; leads = sym e ∙ leads }
freed_walk k s t (r ∷ rs) real (inl e) follows leads =
    let rest : IsFreeWalk k (next (free k) s r.value) rs real = freed_walk k (next k s r.value) (next (free k) s r.value) rs real (freed_next k s r.value) follows.1 leads in
    subst (λ x. IsFreeWalk k x (r ∷ rs) real) e (let w : IsFreeWalk k s (r ∷ rs) real = record { follows = (free_read k s r follows.0, rest.follows); leads = rest.leads } in w)

bound_walk : (k : Task) (s t : Stage) (rs : List ReadRow) (real : ℕ) → Freed s t → Follows (free k) t rs → stage_after k s rs ≡ Over (Page real) → Follows k s rs
bound_walk k s t rs real (inr lost) follows leads = lost_leads k s rs real lost leads
bound_walk k s t [] real (inl e) follows leads = tt
bound_walk k s t (r ∷ rs) real (inl e) follows leads =
    let same : Follows (free k) s (r ∷ rs) = subst (λ x. Follows (free k) x (r ∷ rs)) (sym e) follows in
    (bound_read k s r same.0, bound_walk k (next k s r.value) (next (free k) s r.value) rs real (freed_next k s r.value) same.1 leads)

pub freed_start : (k : Task) (p : Place) → Freed (start_at k p) (start_at (free k) p)
unfolding process_start
freed_start k (Real a) = inl refl
freed_start k (GuestReal lpid a) = freed_enter k ForGuest a
freed_start k (Space lpid pid a) = inl refl
freed_start k Segment = inl refl

-- for every place the task without rights is the freed one
pub free_task : (deny : Rights → AccessKind → Option Denial) (ask : Ask) (p : Place) → free (task_at deny ask p) ≡ task_at never_denied ask p
free_task deny ask (Real a) = refl
free_task deny ask (GuestReal lpid a) = refl
free_task deny ask (Space lpid pid a) = refl
free_task deny ask Segment = refl

-- a walk to a page that the rights permit is a walk to it
pub permitted_walks : (ask : Ask) (rs : List ReadRow) (real : ℕ) → Follows (task_of (first_denial ask) ask) (start_of (first_denial ask) ask) rs → IsRight ask rs real → IsWalkTo ask rs real
permitted_walks ask rs real follows right =
    let p : Place = place_of ask in
    let k : Task = task_at (first_denial ask) ask p in
    let w : IsFreeWalk k (start_at (free k) p) rs real = freed_walk k (start_at k p) (start_at (free k) p) rs real (freed_start k p) follows right in
    let e : free k ≡ task_at never_denied ask p = free_task (first_denial ask) ask p in
    record { follows = subst (λ x. Follows x (start_at x p) rs) e w.follows; leads = subst (λ x. stage_after x (start_at x p) rs ≡ Over (Page real)) e w.leads }

-- and a walk to a page whose rights permit it follows the walk of the ask by its rights
pub right_follows : (ask : Ask) (rs : List ReadRow) (real : ℕ) → IsWalkTo ask rs real → IsRight ask rs real → Follows (task_of (first_denial ask) ask) (start_of (first_denial ask) ask) rs
right_follows ask rs real walks right =
    let p : Place = place_of ask in
    let k : Task = task_at (first_denial ask) ask p in
    let e : free k ≡ task_at never_denied ask p = free_task (first_denial ask) ask p in
    bound_walk k (start_at k p) (start_at (free k) p) rs real (freed_start k p) (subst (λ x. Follows x (start_at x p) rs) (sym e) walks.follows) right

pub permitted_or_free : (ask : Ask) (rs : List ReadRow) (real : ℕ) → (Follows (task_of (first_denial ask) ask) (start_of (first_denial ask) ask) rs × IsRight ask rs real) ↔ (IsWalkTo ask rs real × IsRight ask rs real)
permitted_or_free ask rs real = (λ h. (permitted_walks ask rs real h.0 h.1, h.1), λ h. (right_follows ask rs real h.0 h.1, h.1))
