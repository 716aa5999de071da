-- What is kept of a process's tree begins the walk of each ask of an address of its key.
use Rattle.std.proofs.Common.{◌≡◌, ℕ, ◌+◌, ◌-◌, ◌/◌, ◌^◌, ◌≤◌, List, [], ◌∷◌, ◌++◌, length, Bool, true, false, Option, Some, None, arith, ap, sym, ◌∙◌, refl, subst, length-append}
use Rattle.std.specs.Prelude.{nat_lt, nat_le, ◌==◌}
use Rattle.journal_core.specs.declared.rows.KeyKind.TheVariants.{ProcessDir}
use Rattle.journal_core.specs.declared.rows.ReadRow.{ReadRow}
use Rattle.journal_core.specs.declared.rows.FillRow.{FillRow}
use Rattle.journal_core.specs.declared.asks.AccessKind.TheVariants.{Load}
use Rattle.journal_core.specs.declared.asks.Denial.{Denial}
use Rattle.journal_core.specs.declared.asks.Ask.{Ask}
use Rattle.journal_core.specs.declared.asks.Place.{Place}
use Rattle.journal_core.specs.declared.asks.Place.TheVariants.{Real, GuestReal, Space, Segment}
use Rattle.journal_core.specs.declared.walks.PartResult.TheVariants.{Leaf, Fault as PartFault, Stop as PartStop}
use Rattle.journal_core.specs.declared.walks.Node.{Node}
use Rattle.journal_core.specs.declared.walks.Goal.TheVariants.{ForTable, ForGuest}
use Rattle.journal_core.specs.declared.walks.NestResult.{NestResult}
use Rattle.journal_core.specs.declared.walks.PartStage.{PartStage}
use Rattle.journal_core.specs.declared.walks.PartStage.TheVariants.{Entry, Tree, Ended}
use Rattle.journal_core.specs.declared.walks.Stage.{Stage}
use Rattle.journal_core.specs.declared.walks.Stage.TheVariants.{SecondWord, PartEntry, PartTable, ProcessEntry, ProcessTable, Over}
use Rattle.journal_core.specs.Fills.{own_key}
use Rattle.journal_core.specs.Rows.{JournalView}
use Rattle.journal_core.specs.Places.{place_of}
use Rattle.journal_core.specs.Rights.{first_denial}
use Rattle.journal_core.specs.PartitionWalk.{SameOver, entry_place, root_bits, node_of, at_node, part_start, has_entry, after_entry, after_tree, real_in, entry_at}
use Rattle.journal_core.specs.Walk.{Task, granted, inside, enter, at_table, in_process, after_process_entry, next, stage_after, process_start, start_at, task_at, task_of, start_of, partition_rights, access_for}
use Rattle.journal_core.specs.Following.{IsRead, Follows}
use Rattle.journal_core.specs.Translating.{IsFillOfWalk, IsKeptDirectory}
use Rattle.walk_laws.specs.KeptBegins.{IsUnderWay, BeginsProcess}
use Rattle.walk_laws.proofs.WalkBounds.{walk-few}
use Rattle.walk_laws.proofs.PartServes.{beyond}
use Rattle.walk_laws.proofs.LedFills.{LeadsToTable, LedProcess, IsLed}
use Rattle.walk_laws.proofs.LedWalks.{walk_led}
use Rattle.walk_laws.proofs.SameTables.{SameTables, Open, LeavesHere, same_reads, FollowsAlike, follows_same}

-- a walk that is over, or that of a guest real address, has come to no table of a process
abbrev IsGuest : Stage → Type 0
IsGuest (SecondWord at) = ⊥
IsGuest (PartEntry goal gra at) = goal ≡ ForGuest
IsGuest (PartTable goal gra n) = goal ≡ ForGuest
IsGuest (ProcessEntry at) = ⊥
IsGuest (ProcessTable n at) = ⊥
IsGuest (Over out) = Unit {0}

guest_granted : (k : Task) (gra at : ℕ) (d : Option Denial) → IsGuest (granted k.ask ForGuest gra at d)
guest_granted k gra at None = tt
guest_granted k gra at (Some denial) = tt

guest_inside : (k : Task) (gra : ℕ) (p : PartStage) → IsGuest (inside k ForGuest gra p)
unfolding inside
guest_inside k gra (Entry at) = refl
guest_inside k gra (Tree n) = refl
guest_inside k gra (Ended (Leaf page low att eaa r c)) = guest_granted k gra (real_in page low gra) (k.deny (partition_rights att eaa r c) (access_for k.ask ForGuest))
guest_inside k gra (Ended (PartFault kind)) = tt
guest_inside k gra (Ended (PartStop name value)) = tt

guest_next : (k : Task) (s : Stage) (v : ℕ) → IsGuest s → IsGuest (next k s v)
guest_next k (SecondWord at) v h = absurd h
guest_next k (PartEntry goal gra at) v h = subst (λ g. IsGuest (inside k g gra (after_entry k.lpid gra v))) (sym h) (guest_inside k gra (after_entry k.lpid gra v))
guest_next k (PartTable goal gra n) v h = subst (λ g. IsGuest (inside k g gra (after_tree (n.left - n.size) n.level v))) (sym h) (guest_inside k gra (after_tree (n.left - n.size) n.level v))
guest_next k (ProcessEntry at) v h = absurd h
guest_next k (ProcessTable n at) v h = absurd h
guest_next k (Over out) v h = tt

guest_after : (k : Task) (s : Stage) (rs : List ReadRow) → IsGuest s → IsGuest (stage_after k s rs)
guest_after k s [] h = h
guest_after k s (r ∷ rs) h = guest_after k (next k s r.value) rs (guest_next k s r.value h)

no_table : (k : Task) (s : Stage) (v : ℕ) (n : Node) → IsGuest s → LeadsToTable k s v n → ⊥
no_table k (SecondWord at) v n h l = h
no_table k (PartEntry goal gra at) v n h l = l
no_table k (PartTable goal gra m) v n h l = l
no_table k (ProcessEntry at) v n h l = h
no_table k (ProcessTable m at) v n h l = h
no_table k (Over out) v n h l = l

-- the directory's reading leaves the bits of its key
open_last : (k : Task) (s : Stage) (r : ReadRow) (n : Node) → IsRead k s r → LeadsToTable k s r.value n → Open r.left s
open_last k (SecondWord at) r n a l = absurd l
open_last k (PartEntry goal gra at) r n a l = absurd l
open_last k (PartTable goal gra m) r n a l = absurd l
open_last k (ProcessEntry at) r n a l = tt
open_last k (ProcessTable m at) r n a l = (let left : r.left ≡ m.left - m.size = a.same_left in omega (arith, left))
open_last k (Over out) r n a l = absurd l

leaves_last : (k : Task) (s : Stage) (r : ReadRow) (n : Node) → LeadsToTable k s r.value n → LeavesHere r.left s r
leaves_last k (SecondWord at) r n l = tt
leaves_last k (PartEntry goal gra at) r n l = tt
leaves_last k (PartTable goal gra m) r n l = tt
leaves_last k (ProcessEntry at) r n l = omega arith
leaves_last k (ProcessTable m at) r n l = tt
leaves_last k (Over out) r n l = tt

entry_goes : (k0 k : Task) (v : ℕ) (n : Node) → nat_lt 52 (root_bits v) ≡ false → nat_le (2 ^ root_bits v) k0.address ≡ false → at_node (node_of v (root_bits v) 1) ≡ Tree n → SameOver (root_bits v) k0.address k.address → after_process_entry k v ≡ at_table k n
unfolding after_process_entry in_process
entry_goes k0 k v n e f t same = rw (e, sym (beyond (root_bits v) k0.address k.address same) ∙ f) (ap (in_process k) t)

table_goes : (k : Task) (p : PartStage) (n : Node) → p ≡ Tree n → in_process k p ≡ at_table k n
unfolding in_process
table_goes k p n t = ap (in_process k) t

goes_on : (k0 k : Task) (s : Stage) (r : ReadRow) (n : Node) → SameTables r.left k0 k → IsRead k0 s r → LeadsToTable k0 s r.value n → next k s r.value ≡ at_table k n
goes_on k0 k (SecondWord at) r n same a l = absurd l
goes_on k0 k (PartEntry goal gra at) r n same a l = absurd l
goes_on k0 k (PartTable goal gra m) r n same a l = absurd l
goes_on k0 k (ProcessEntry at) r n same a l = entry_goes k0 k r.value n l.0 l.1 l.2 (subst (λ b. SameOver b k0.address k.address) a.same_left same.address)
goes_on k0 k (ProcessTable m at) r n same a l = table_goes k (after_tree (m.left - m.size) m.level r.value) n l
goes_on k0 k (Over out) r n same a l = absurd l

-- a walk that made a reading found its partition's entry
has_read : (k : Task) (rs : List ReadRow) (r : ReadRow) (b : Bool) → has_entry k.ask.ptcr k.lpid ≡ b → Follows k (process_start k) (rs ++ r ∷ []) → has_entry k.ask.ptcr k.lpid ≡ true
unfolding process_start
has_read k rs r true e h = e
has_read k [] r false e h = absurd (rw e at h).0
has_read k (q ∷ rs) r false e h = absurd (rw e at h).0

in_entry : (k : Task) (n : Node) (out : NestResult) → has_entry k.ask.ptcr k.lpid ≡ true → enter k (ForTable n) (entry_at k.address n) ≡ Over out → ⊥
unfolding inside part_start
in_entry k n out e h = (let h2 : PartEntry (ForTable n) (entry_at k.address n) _ ≡ Over out = rw e at h in cc)

table_under_way : (k : Task) (n : Node) (b : Bool) → (k.lpid == 0) ≡ b → has_entry k.ask.ptcr k.lpid ≡ true → IsUnderWay (at_table k n)
table_under_way k n true e has out h = (let h2 : ProcessTable n (entry_at k.address n) ≡ Over out = rw e at h in cc)
table_under_way k n false e has out h = in_entry k n out has (rw e at h)

follows_append : (k : Task) (s : Stage) (ps : List ReadRow) (r : ReadRow) → Follows k s ps → IsRead k (stage_after k s ps) r → Follows k s (ps ++ r ∷ [])
follows_append k s [] r h one = (one, tt)
follows_append k s (p ∷ ps) r h one = (h.0, follows_append k (next k s p.value) ps r h.1 one)

after_append : (k : Task) (s : Stage) (ps : List ReadRow) (r : ReadRow) → stage_after k s (ps ++ r ∷ []) ≡ next k (stage_after k s ps) r.value
after_append k s [] r = refl
after_append k s (p ∷ ps) r = after_append k (next k s p.value) ps r

-- readings of a directory begin a walk, and leave it under way
record BeginsWalk (k : Task) (s : Stage) (rs : List ReadRow) : Type 0 where
  follows : Follows k s rs
  under_way : IsUnderWay (stage_after k s rs)

led_serves : (k0 k : Task) (start : Stage) (reads : List ReadRow) (f : FillRow) → start ≡ process_start k → (led : LedProcess k0 start reads f) → SameTables led.last.left k0 k → BeginsWalk k start (led.qs ++ led.last ∷ [])
led_serves k0 k start reads f is led same =
    let s : Stage = stage_after k0 start led.qs in
    let opened : Open led.last.left s = open_last k0 s led.last led.table led.read led.leads in
    let alike : FollowsAlike k0 k start led.qs = follows_same led.last.left k0 k start led.qs same led.follows opened in
    let read : IsRead k s led.last = same_reads led.last.left k0 k s led.last same opened (leaves_last k0 s led.last led.table led.leads) led.read in
    let whole : Follows k start (led.qs ++ led.last ∷ []) = follows_append k start led.qs led.last alike.follows (subst (λ x. IsRead k x led.last) (sym alike.after) read) in
    let has : has_entry k.ask.ptcr k.lpid ≡ true = has_read k led.qs led.last (has_entry k.ask.ptcr k.lpid) refl (subst (λ x. Follows k x (led.qs ++ led.last ∷ [])) is whole) in
    let there : stage_after k start (led.qs ++ led.last ∷ []) ≡ at_table k led.table =
    after_append k start led.qs led.last ∙ (ap (λ x. next k x led.last.value) alike.after ∙ goes_on k0 k s led.last led.table same led.read led.leads) in
    record { follows = whole; under_way = subst IsUnderWay (sym there) (table_under_way k led.table (k.lpid == 0) refl has) }

-- rights of a partition's leaf do not know the state of the thread
same_rights : (a0 a : Ask) (att eaa : ℕ) (r c : Bool) → first_denial a0 (partition_rights att eaa r c) Load ≡ first_denial a (partition_rights att eaa r c) Load
unfolding first_denial
same_rights a0 a att eaa r c = refl

same_start : (k0 k : Task) → k0.lpid ≡ k.lpid → k0.ask.ptcr ≡ k.ask.ptcr → has_entry k0.ask.ptcr k0.lpid ≡ true → process_start k0 ≡ process_start k
unfolding process_start
same_start k0 k lpid ptcr has =
    let entries : has_entry k.ask.ptcr k.lpid ≡ has_entry k0.ask.ptcr k0.lpid = ap (λ x. has_entry x k.lpid) (sym ptcr) ∙ ap (λ x. has_entry k0.ask.ptcr x) (sym lpid) in
    let places : entry_place k0.ask.ptcr k0.lpid + 8 ≡ entry_place k.ask.ptcr k.lpid + 8 = ap (λ x. entry_place x k0.lpid + 8) ptcr ∙ ap (λ x. entry_place k.ask.ptcr x + 8) lpid in
    rw (has, entries ∙ has) (ap SecondWord places)

-- which walk led to the fill, by where its ask points
led_by : (a0 a : Ask) (p0 : Place) (lpid pid sought : ℕ) (reads : List ReadRow) (f : FillRow) → a0.ptcr ≡ a.ptcr → f.key.lpid ≡ lpid → f.key.pid ≡ pid → f.key.page ≡ sought / 2 ^ f.key.left → (led : LedProcess (task_at (first_denial a0) a0 p0) (start_at (task_at (first_denial a0) a0 p0) p0) reads f)
    → BeginsWalk (task_at (first_denial a) a (Space lpid pid sought)) (start_at (task_at (first_denial a) a (Space lpid pid sought)) (Space lpid pid sought)) (led.qs ++ led.last ∷ [])
led_by a0 a (Real x) lpid pid sought reads f ptcr l q page led =
    (let k0 : Task = task_at (first_denial a0) a0 (Real x) in absurd (no_table k0 (stage_after k0 (start_at k0 (Real x)) led.qs) led.last.value led.table (guest_after k0 (start_at k0 (Real x)) led.qs tt) led.leads))
led_by a0 a Segment lpid pid sought reads f ptcr l q page led =
    (let k0 : Task = task_at (first_denial a0) a0 Segment in absurd (no_table k0 (stage_after k0 (start_at k0 Segment) led.qs) led.last.value led.table (guest_after k0 (start_at k0 Segment) led.qs tt) led.leads))
led_by a0 a (GuestReal l0 x) lpid pid sought reads f ptcr l q page led =
    (let k0 : Task = task_at (first_denial a0) a0 (GuestReal l0 x) in absurd (no_table k0 (stage_after k0 (start_at k0 (GuestReal l0 x)) led.qs) led.last.value led.table (guest_after k0 (start_at k0 (GuestReal l0 x)) led.qs (guest_inside k0 x (part_start a0.ptcr l0))) led.leads))
led_by a0 a (Space l0 q0 x) lpid pid sought reads f ptcr l q page led =
    let k0 : Task = task_at (first_denial a0) a0 (Space l0 q0 x) in
    let k : Task = task_at (first_denial a) a (Space lpid pid sought) in
    let has : has_entry k0.ask.ptcr k0.lpid ≡ true = has_read k0 led.qs led.last (has_entry k0.ask.ptcr k0.lpid) refl (follows_append k0 (process_start k0) led.qs led.last led.follows led.read) in
    let start : process_start k0 ≡ process_start k = same_start k0 k (sym led.lpid ∙ l) ptcr has in
    let paged : SameOver led.last.left x sought = sym led.page ∙ (page ∙ ap (λ b. sought / 2 ^ b) led.left) in
    let same : SameTables led.last.left k0 k = record { lpid = sym led.lpid ∙ l; pid = sym led.pid ∙ q; ptcr = ptcr; address = paged; tables = λ att eaa r c. same_rights a0 a att eaa r c } in
    subst (λ s. BeginsWalk k s (led.qs ++ led.last ∷ [])) start (led_serves k0 k (process_start k0) reads f start led same)

pub directory_begins_process : (j : JournalView) (t lpid pid sought i : ℕ) (ask : Ask) → place_of ask ≡ Space lpid pid sought → IsKeptDirectory j t ask.ptcr ProcessDir lpid pid sought i → BeginsProcess j.rows ask i
directory_begins_process j t lpid pid sought i ask place h =
    let w : IsFillOfWalk j.rows ask.ptcr h.fill = h.of_walk in
    let led : LedProcess (task_of (first_denial w.ask) w.ask) (start_of (first_denial w.ask) w.ask) j.rows.reads h.fill = subst (IsLed (task_of (first_denial w.ask) w.ask) (start_of (first_denial w.ask) w.ask) (own_key (place_of w.ask)) j.rows.reads h.fill) h.for_it.of_kind (walk_led j.rows ask.ptcr h.fill w) in
    let rs : List ReadRow = led.qs ++ led.last ∷ [] in
    let b : BeginsWalk (task_of (first_denial ask) ask) (start_of (first_denial ask) ask) rs =
    subst (λ p. BeginsWalk (task_at (first_denial ask) ask p) (start_at (task_at (first_denial ask) ask p) p) rs) (sym place)
    (led_by w.ask ask (place_of w.ask) lpid pid sought j.rows.reads h.fill w.same_ptcr h.for_it.of_lpid h.for_it.of_pid h.for_it.of_page led) in
    let few : length rs ≤ 36 = walk-few (first_denial ask) ask rs b.follows in
    let longer : length rs ≡ length led.qs + 1 = length-append led.qs (led.last ∷ []) in
    record {
      fill = h.fill;
      is = h.standing.is;
      few = omega (arith, few, longer, led.count);
      rs = rs;
      named = led.named;
      follows = b.follows;
      under_way = b.under_way;
    }
