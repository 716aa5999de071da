-- A finished walk that ended in a page adds at most 35 fills.
use Rattle.std.proofs.Common.{◌≡◌, ℕ, ◌+◌, ◌-◌, ◌*◌, ◌^◌, ◌≤◌, List, [], ◌∷◌, ◌++◌, length, Bool, true, false, Option, Some, None, arith, ap, sym, ◌∙◌, refl, inl, inr, ◌⊎◌, length-append}
use Rattle.std.proofs.lemmas.List.{length-map}
use Rattle.std.specs.Prelude.{nat_lt, nat_le, ◌==◌, ◌&&◌, ◌||◌, if◌then◌else◌}
use Rattle.journal_core.specs.declared.rows.Key.{Key}
use Rattle.journal_core.specs.declared.rows.ReadRow.{ReadRow}
use Rattle.journal_core.specs.declared.asks.AccessKind.{AccessKind}
use Rattle.journal_core.specs.declared.asks.Rights.{Rights}
use Rattle.journal_core.specs.declared.asks.Ask.{Ask}
use Rattle.journal_core.specs.declared.asks.Denial.{Denial}
use Rattle.journal_core.specs.declared.asks.Place.{Place}
use Rattle.journal_core.specs.declared.asks.Place.TheVariants.{Real, GuestReal, Space, Segment}
use Rattle.journal_core.specs.declared.walks.Node.{Node}
use Rattle.journal_core.specs.declared.walks.Goal.{Goal}
use Rattle.journal_core.specs.declared.walks.Goal.TheVariants.{ForEntry, ForTable, ForResult, ForGuest}
use Rattle.journal_core.specs.declared.walks.FaultKind.TheVariants.{Missing, Unsupported}
use Rattle.journal_core.specs.declared.walks.PartResult.TheVariants.{Leaf, Fault as PartFault, Stop as PartStop}
use Rattle.journal_core.specs.declared.walks.PartStage.{PartStage}
use Rattle.journal_core.specs.declared.walks.PartStage.TheVariants.{Entry, Tree, Ended}
use Rattle.journal_core.specs.declared.walks.NestResult.{NestResult}
use Rattle.journal_core.specs.declared.walks.NestResult.TheVariants.{Page}
use Rattle.journal_core.specs.declared.walks.Stage.{Stage}
use Rattle.journal_core.specs.declared.walks.Stage.TheVariants.{SecondWord, PartEntry, PartTable, ProcessEntry, ProcessTable, Over}
use Rattle.journal_core.specs.declared.walks.TrailItem.{TrailItem}
use Rattle.journal_core.specs.Asks.{bits}
use Rattle.journal_core.specs.PartitionWalk.{has_entry, root_bits, node_of, at_node, part_start, after_entry, after_tree, is_leaf, leaf_of, entry_at, real_in}
use Rattle.journal_core.specs.Walk.{Task, arrived, granted, inside, enter, at_table, in_process, after_second, after_process_entry, next, stage_after, process_start, start_at, task_at, task_of, start_of, never_denied, partition_rights, access_for}
use Rattle.journal_core.specs.Following.{IsRead, Follows}
use Rattle.journal_core.specs.Places.{place_of}
use Rattle.journal_core.specs.Resumed.{readings}
use Rattle.journal_core.specs.Fills.{own_key, number_items, nothing_so_far, fills_of, found_at, is_own, has_key, NumberedItem, SoFar, taking, first_found, fills_for, own_fill, fills_from, OldsBelow}
use Rattle.journal_core.specs.Admitted.{IsWalkTo}
use Rattle.walk_laws.proofs.AlikeWalks.{NoPage, no_way}
use Rattle.journal_core.specs.WalkLeft.{reads_left}
use Rattle.walk_laws.proofs.WalkBounds.{follows-few, walk-few}
use Rattle.walk_laws.proofs.NumberedLemmas.{rows_in, numbered_rows}

-- 1 for a reading that finds no key
abbrev none_in : Option Key → ℕ
none_in None = 1
none_in (Some key) = 0

-- how many of these readings find no key
abbrev nones : Task → Stage → List ReadRow → ℕ
nones k s [] = 0
nones k s (r ∷ rs) = none_in (found_at k s r) + nones k (next k s r.value) rs

-- how many readings that find none are still to come: the second doubleword, and the leaf of the process's tree
abbrev pending_for : Goal → ℕ
pending_for ForEntry = 1
pending_for (ForTable n) = 1
pending_for ForResult = 0
pending_for ForGuest = 0

abbrev pending : Stage → ℕ
pending (SecondWord at) = 2
pending (PartEntry goal gra at) = pending_for goal
pending (PartTable goal gra n) = pending_for goal
pending (ProcessEntry at) = 1
pending (ProcessTable n at) = 1
pending (Over out) = 0

-- so many are to come, or the walk has ended with no page
abbrev Awaits : ℕ → Stage → Type 0
Awaits m s = (m ≤ pending s) ⊎ ((o : NestResult) × (s ≡ Over o) × NoPage o)

lost : (m : ℕ) (o : NestResult) → NoPage o → Awaits m (Over o)
lost m o none = inr (o, refl, none)

arrived_awaits : (goal : Goal) (at : ℕ) → Awaits (pending_for goal) (arrived goal at)
arrived_awaits ForEntry at = inl (omega arith)
arrived_awaits (ForTable n) at = inl (omega arith)
arrived_awaits ForResult at = inl (omega arith)
arrived_awaits ForGuest at = inl (omega arith)

granted_awaits : (ask : Ask) (goal : Goal) (gra at : ℕ) (d : Option Denial) → Awaits (pending_for goal) (granted ask goal gra at d)
granted_awaits ask goal gra at None = arrived_awaits goal at
granted_awaits ask goal gra at (Some denial) = lost (pending_for goal) _ tt

inside_awaits : (k : Task) (goal : Goal) (gra : ℕ) (s : PartStage) → Awaits (pending_for goal) (inside k goal gra s)
unfolding inside
inside_awaits k goal gra (Entry at) = inl (omega arith)
inside_awaits k goal gra (Tree n) = inl (omega arith)
inside_awaits k goal gra (Ended (Leaf page low att eaa r c)) = granted_awaits k.ask goal gra (real_in page low gra) (k.deny (partition_rights att eaa r c) (access_for k.ask goal))
inside_awaits k goal gra (Ended (PartFault kind)) = lost (pending_for goal) _ tt
inside_awaits k goal gra (Ended (PartStop name value)) = lost (pending_for goal) _ tt

if_awaits : (m : ℕ) (b : Bool) (x y : Stage) → Awaits m x → Awaits m y → Awaits m (if b then x else y)
if_awaits m true x y one two = one
if_awaits m false x y one two = two

table_awaits : (k : Task) (n : Node) → Awaits 1 (at_table k n)
table_awaits k n = if_awaits 1 (k.lpid == 0) _ _ (inl (omega arith)) (inside_awaits k (ForTable n) (entry_at k.address n) (part_start k.ask.ptcr k.lpid))

-- where a process's tree is walked on, its leaf is to come, unless the walk has ended
node_awaits : (k : Task) (n : Node) → Awaits 1 (in_process k (at_node n))
unfolding at_node in_process
node_awaits k n = by_test (nat_le 5 n.size && (nat_le n.size 16 && nat_le (n.size + 12) n.left))
  where
    by_test : (b : Bool) → Awaits 1 (in_process k (if b then Tree n else Ended (PartFault Unsupported)))
    by_test true = table_awaits k n
    by_test false = lost 1 _ tt

second_awaits : (k : Task) (v : ℕ) → Awaits 1 (after_second k v)
unfolding after_second
second_awaits k v = if_awaits 1 (nat_lt (16 * k.pid) (2 ^ (12 + bits v 59 63))) _ _ (inside_awaits k ForEntry (bits v 4 51 * 2 ^ 12 + 16 * k.pid) (part_start k.ask.ptcr k.lpid)) (lost 1 _ tt)

entry_awaits : (k : Task) (v : ℕ) → Awaits 1 (after_process_entry k v)
unfolding after_process_entry
entry_awaits k v = if_awaits 1 (nat_lt 52 (root_bits v)) _ _ (lost 1 _ tt) (if_awaits 1 (nat_le (2 ^ root_bits v) k.address) _ _ (lost 1 _ tt) (node_awaits k (node_of v (root_bits v) 1)))

-- after an entry of a process's tree that is no leaf
dir_awaits : (k : Task) (rest level v : ℕ) → is_leaf v ≡ false → Awaits 1 (in_process k (after_tree rest level v))
unfolding after_tree in_process
dir_awaits k rest level v e = by_test (bits v 0 0 == 0) (nat_le 4 level)
  where
    by_test : (b c : Bool) → Awaits 1 (in_process k (if b then Ended (PartFault Missing) else if is_leaf v then Ended (leaf_of rest v) else if c then Ended (PartFault Unsupported) else at_node (node_of v rest (level + 1))))
    by_test true c = lost 1 _ tt
    by_test false true = rw e (lost 1 _ tt)
    by_test false false = rw e (node_awaits k (node_of v rest (level + 1)))

either_leaf : (b : Bool) → (b ≡ true) ⊎ (b ≡ false)
either_leaf true = inl refl
either_leaf false = inr refl

-- each reading finds none, or leaves what is to come
step_awaits : (k : Task) (s : Stage) (r : ReadRow) → IsRead k s r → (m : ℕ) × (pending s ≤ none_in (found_at k s r) + m) × Awaits m (next k s r.value)
step_awaits k (SecondWord at) r h = (1, omega arith, second_awaits k r.value)
step_awaits k (PartEntry goal gra at) r h = (pending_for goal, omega arith, inside_awaits k goal gra (after_entry k.lpid gra r.value))
step_awaits k (PartTable goal gra n) r h = (pending_for goal, omega arith, inside_awaits k goal gra (after_tree (n.left - n.size) n.level r.value))
step_awaits k (ProcessEntry at) r h = (1, omega arith, entry_awaits k r.value)
step_awaits k (ProcessTable n at) r h = elim (either_leaf (is_leaf r.value)) [
  | inl leaf ↦ (0, rw leaf (omega arith), inl (omega arith))
  | inr dir ↦ (1, omega arith, dir_awaits k (n.left - n.size) n.level r.value dir)
]
step_awaits k (Over out) r h = absurd h

-- so a walk to a page has so many readings that find none
at_least_pending : (k : Task) (s : Stage) (rs : List ReadRow) (real : ℕ) → Follows k s rs → stage_after k s rs ≡ Over (Page real) → pending s ≤ nones k s rs
at_least_pending k s [] real h leads = rw leads (omega arith)
at_least_pending k s (r ∷ rs) real h leads =
    let x : (m : ℕ) × (pending s ≤ none_in (found_at k s r) + m) × Awaits m (next k s r.value) = step_awaits k s r h.0 in
    elim x.2 [
      | inl more ↦ omega (arith, x.1, more, at_least_pending k (next k s r.value) rs real h.1 leads)
      | inr gone ↦ absurd (no_way k gone.0 rs real gone.2 (sym (ap (λ y. stage_after k y rs) gone.1) ∙ leads))
    ]

-- a reading adds at most one fill, and none where it finds no key
first_few : (t n level : ℕ) (own : Option Key) (keys : List Key) (x : SoFar) (new : Bool) (o : Option Key) → length (fills_for t n x level (first_found own keys new o)) + none_in o ≤ 1
first_few t n level own keys x false None = omega arith
first_few t n level own keys x false (Some key) = omega arith
first_few t n level own keys x true None = omega arith
first_few t n level own keys x true (Some key) = by_test (is_own key own || has_key key keys)
  where
    by_test : (b : Bool) → length (fills_for t n x level (if b then [] else key ∷ [])) + 0 ≤ 1
    by_test true = omega arith
    by_test false = omega arith

own_few : (t n : ℕ) (x : SoFar) (own : Option Key) → length (own_fill t n x own) ≤ 1
own_few t n x None = omega arith
own_few t n x (Some key) = omega arith

fills_few : (t n : ℕ) (k : Task) (own : Option Key) (s : Stage) (x : SoFar) (items : List NumberedItem) → length (fills_from t n k own s x items) + nones k s (rows_in items) ≤ 1 + length items
fills_few t n k own s x [] = omega (arith, own_few t n x own)
fills_few t n k own s x (item ∷ items) =
    let taken : SoFar = taking s x item in
    let found : List Key = first_found own x.keys item.is_new (found_at k s item.row) in
    let later : SoFar = record taken { keys = x.keys ++ found } in
    let one : length (fills_for t n taken item.row.level found) + none_in (found_at k s item.row) ≤ 1 = first_few t n item.row.level own x.keys taken item.is_new (found_at k s item.row) in
    let rest : length (fills_from t n k own (next k s item.row.value) later items) + nones k (next k s item.row.value) (rows_in items) ≤ 1 + length items = fills_few t n k own (next k s item.row.value) later items in
    omega (arith, one, rest, length-append (fills_for t n taken item.row.level found) (fills_from t n k own (next k s item.row.value) later items))

guest_left : (k : Task) (gra : ℕ) (b : Bool) → has_entry k.ask.ptcr k.lpid ≡ b → reads_left (enter k ForGuest gra) ≤ 5
unfolding inside part_start
guest_left k gra true e = rw e (omega arith)
guest_left k gra false e = rw e (omega arith)

space_pending : (k : Task) (rs : List ReadRow) (real : ℕ) (b : Bool) → has_entry k.ask.ptcr k.lpid ≡ b → stage_after k (process_start k) rs ≡ Over (Page real) → 2 ≤ pending (process_start k)
unfolding process_start
space_pending k rs real true e leads = rw e (omega arith)
space_pending k rs real false e leads = absurd (no_way k _ rs real tt (rw e at leads))

-- all but one of a walk's 36 readings, and the ask's own key
few_by : (deny : Rights → AccessKind → Option Denial) (ask : Ask) (p : Place) (rs : List ReadRow) (real : ℕ) → Follows (task_at deny ask p) (start_at (task_at deny ask p) p) rs → stage_after (task_at deny ask p) (start_at (task_at deny ask p) p) rs ≡ Over (Page real) →
    length rs ≤ 36 → 1 + length rs ≤ 35 + nones (task_at deny ask p) (start_at (task_at deny ask p) p) rs
few_by deny ask (Real a) [] real h leads few = omega arith
few_by deny ask (Real a) (r ∷ rs) real h leads few = absurd h.0
few_by deny ask (GuestReal lpid a) rs real h leads few =
    let k : Task = task_at deny ask (GuestReal lpid a) in
    omega (arith, follows-few k (enter k ForGuest a) rs h, guest_left k a (has_entry ask.ptcr lpid) refl)
few_by deny ask (Space lpid pid a) rs real h leads few =
    let k : Task = task_at deny ask (Space lpid pid a) in
    omega (arith, few, at_least_pending k (process_start k) rs real h leads, space_pending k rs real (has_entry ask.ptcr lpid) refl leads)
few_by deny ask Segment [] real h leads few = omega arith
few_by deny ask Segment (r ∷ rs) real h leads few = absurd h.0

-- a finished walk of an ask that ended in a page adds at most 35 fills
pub at_most_35 : (t n : ℕ) (ask : Ask) (reads : List ReadRow) (first : ℕ) (items : List TrailItem) (real : ℕ) → OldsBelow (length reads) items → IsWalkTo ask (readings reads items) real →
    length (fills_of t n ask reads first items) ≤ 35
at_most_35 t n ask reads first items real olds h =
    let k : Task = task_of never_denied ask in
    let s : Stage = start_of never_denied ask in
    let same : rows_in (number_items reads first items) ≡ readings reads items = numbered_rows reads first items in
    omega (
      arith,
      fills_few t n k (own_key (place_of ask)) s nothing_so_far (number_items reads first items),
      few_by never_denied ask (place_of ask) (readings reads items) real h.follows h.leads (walk-few never_denied ask (readings reads items) h.follows),
      ap (nones k s) same,
      ap length same,
      length-map (number_items reads first items) (λ (x : NumberedItem). x.row),
    )
