-- A walk of a partition's tree that begins with what is kept: with nothing kept it is the fresh one; there is one; it is a
-- walk; it is short; and it is part of each walk that enters the tree.
use Rattle.std.proofs.Common.{◌≡◌, ℕ, ◌+◌, ◌-◌, ◌≤◌, List, [], ◌∷◌, ◌++◌, length, map, Bool, true, false, Option, None, arith, ap, sym, ◌∙◌, refl, subst, append_assoc, length-append}
use Rattle.std.proofs.lemmas.List.{length-map}
use Rattle.std.specs.Prelude.{◌↔◌, option_to_list}
use Rattle.journal_core.specs.declared.rows.ReadRow.{ReadRow}
use Rattle.journal_core.specs.declared.rows.KeyKind.TheVariants.{PartDir}
use Rattle.journal_core.specs.declared.walks.NestResult.{NestResult}
use Rattle.journal_core.specs.declared.walks.NestResult.TheVariants.{Stop as StopResult}
use Rattle.journal_core.specs.declared.walks.PartResult.{PartResult}
use Rattle.journal_core.specs.declared.walks.PartResult.TheVariants.{Fault}
use Rattle.journal_core.specs.declared.rows.StopName.TheVariants.{NoStorage}
use Rattle.journal_core.specs.declared.walks.PartStage.{PartStage}
use Rattle.journal_core.specs.declared.walks.PartStage.TheVariants.{Entry, Tree, Ended}
use Rattle.journal_core.specs.declared.walks.Goal.{Goal}
use Rattle.journal_core.specs.declared.walks.Stage.{Stage}
use Rattle.journal_core.specs.declared.walks.Stage.TheVariants.{PartEntry, PartTable, Over}
use Rattle.journal_core.specs.declared.walks.TrailItem.{TrailItem}
use Rattle.journal_core.specs.declared.walks.TrailItem.TheVariants.{Old, New}
use Rattle.journal_core.specs.PartitionWalk.{has_entry, part_start, after_entry, after_tree, part_next, part_after, entry_at, PartFollows, PartEndsAt, PartitionWalk}
use Rattle.journal_core.specs.Walk.{Task, inside, enter}
use Rattle.journal_core.specs.Following.{EndsAt, FreshPartitionWalk}
use Rattle.journal_core.specs.Standing.{AreRows}
use Rattle.journal_core.specs.Resumed.{KeptAnswers, KnowsNothing, due, ResumesFrom, readings}
use Rattle.journal_core.specs.Fills.{new_rows}
use Rattle.journal_core.specs.PartResumed.{kept_for, PartFreshFrom, PartResumed}
use Rattle.walk_laws.proofs.WalkBounds.{part-few}
use Rattle.journal_core.proofs.StandingStays.{rows_unique}
use Rattle.walk_laws.proofs.PartitionWalkIsOne.{fresh_part}
use Rattle.walk_laws.proofs.PartSoFar.{entry_no_entry, tree_no_entry}
use Rattle.walk_laws.proofs.LedFills.{rows_length}

-- both lists, one after the other
follows_both : (lpid gra : ℕ) (s : PartStage) (xs ys : List ReadRow) → PartFollows lpid gra s xs → PartFollows lpid gra (part_after lpid gra s xs) ys → PartFollows lpid gra s (xs ++ ys)
follows_both lpid gra s [] ys h g = g
follows_both lpid gra s (x ∷ xs) ys h g = (h.0, follows_both lpid gra (part_next lpid gra s x.value) xs ys h.1 g)

after_both : (lpid gra : ℕ) (s : PartStage) (xs ys : List ReadRow) → part_after lpid gra s (xs ++ ys) ≡ part_after lpid gra (part_after lpid gra s xs) ys
after_both lpid gra s [] ys = refl
after_both lpid gra s (x ∷ xs) ys = after_both lpid gra (part_next lpid gra s x.value) xs ys

readings_old : (reads : List ReadRow) (is : List ℕ) (rs : List ReadRow) (items : List TrailItem) → AreRows reads is rs → readings reads (map Old is ++ items) ≡ rs ++ readings reads items
readings_old reads [] [] items h = refl
readings_old reads [] (r ∷ rs) items h = absurd h
readings_old reads (i ∷ is) [] items h = absurd h
readings_old reads (i ∷ is) (r ∷ rs) items h =
    ap (λ o. option_to_list o ++ readings reads (map Old is ++ items)) h.0 ∙ ap (λ (qs : List ReadRow). r ∷ qs) (readings_old reads is rs items h.1)

readings_new : (reads rs : List ReadRow) → readings reads (map New rs) ≡ rs
readings_new reads [] = refl
readings_new reads (r ∷ rs) = ap (λ (qs : List ReadRow). r ∷ qs) (readings_new reads rs)

new_rows_of : (rs : List ReadRow) → new_rows (map New rs) ≡ rs
new_rows_of [] = refl
new_rows_of (r ∷ rs) = ap (λ (qs : List ReadRow). r ∷ qs) (new_rows_of rs)

pub part_resumed_is_walk : (word : ℕ → Option ℕ) (moment : ℕ) (a : KeptAnswers) (ptcr lpid gra : ℕ) (items : List TrailItem) (out : PartResult) → PartResumed word moment a ptcr lpid gra items out → PartitionWalk word ptcr lpid gra (readings a.reads items) out
part_resumed_is_walk word moment a ptcr lpid gra items out h =
    let is : List ℕ = kept_for a lpid gra in
    let start : PartStage = part_start ptcr lpid in
    let are : readings a.reads items ≡ h.taken ++ h.rs = ap (readings a.reads) h.items_are ∙ (readings_old a.reads is h.taken (map New h.rs) h.named ∙ ap (λ (qs : List ReadRow). h.taken ++ qs) (readings_new a.reads h.rs)) in
    let w : PartitionWalk word ptcr lpid gra (h.taken ++ h.rs) out = record {
      follows = follows_both lpid gra start h.taken h.rs h.follows h.rest.follows;
      ends = subst (λ s. PartEndsAt word gra s out) (sym (after_both lpid gra start h.taken h.rs)) h.rest.ends;
    } in
    subst (λ rs. PartitionWalk word ptcr lpid gra rs out) (sym are) w

pub part_resumed_is_short : (word : ℕ → Option ℕ) (moment : ℕ) (a : KeptAnswers) (ptcr lpid gra : ℕ) (items : List TrailItem) (out : PartResult) → PartResumed word moment a ptcr lpid gra items out → length items ≤ 5
part_resumed_is_short word moment a ptcr lpid gra items out h =
    let is : List ℕ = kept_for a lpid gra in
    let few : length (h.taken ++ h.rs) ≤ 5 = part-few ptcr lpid gra (h.taken ++ h.rs) (follows_both lpid gra (part_start ptcr lpid) h.taken h.rs h.follows h.rest.follows) in
    let both : length (h.taken ++ h.rs) ≡ length h.taken + length h.rs = length-append h.taken h.rs in
    let old : length is ≡ length h.taken = rows_length a.reads is h.taken h.named in
    rw h.items_are (rw length-append (rw length-map (rw length-map (omega arith))))

one_part : (word : ℕ → Option ℕ) (moment : ℕ) (a : KeptAnswers) (ptcr lpid gra : ℕ) (xs ys : List TrailItem) (o p : PartResult) (taken : List ReadRow) (h : PartResumed word moment a ptcr lpid gra xs o) (g : PartResumed word moment a ptcr lpid gra ys p) → h.taken ≡ g.taken → (xs ≡ ys) × (o ≡ p)
one_part word moment a ptcr lpid gra xs ys o p taken h g same =
    let s : PartStage = part_after lpid gra (part_start ptcr lpid) g.taken in
    let first : PartFreshFrom word moment lpid gra s h.rs o = subst (λ rs. PartFreshFrom word moment lpid gra (part_after lpid gra (part_start ptcr lpid) rs) h.rs o) same h.rest in
    let both : (h.rs ≡ g.rs) × (o ≡ p) = fresh_part word moment lpid gra s h.rs g.rs o p (record { follows = first.follows; ends = first.ends }) first.new (record { follows = g.rest.follows; ends = g.rest.ends }) g.rest.new in
    (h.items_are ∙ (ap (λ (rs : List ReadRow). map Old (kept_for a lpid gra) ++ map New rs) both.0 ∙ sym g.items_are), both.1)

pub part_resumed_is_one : (word : ℕ → Option ℕ) (moment : ℕ) (a : KeptAnswers) (ptcr lpid gra : ℕ) (xs ys : List TrailItem) (o p : PartResult) → PartResumed word moment a ptcr lpid gra xs o → PartResumed word moment a ptcr lpid gra ys p → (xs ≡ ys) × (o ≡ p)
part_resumed_is_one word moment a ptcr lpid gra xs ys o p h g = one_part word moment a ptcr lpid gra xs ys o p h.taken h g (rows_unique a.reads (kept_for a lpid gra) h.taken g.taken h.named g.named)

-- where nothing is kept nothing is taken
pub nothing_for : (a : KeptAnswers) (lpid gra : ℕ) → KnowsNothing a → kept_for a lpid gra ≡ []
nothing_for a lpid gra none =
    let page : a.page lpid gra ≡ None = none.no_page lpid gra in
    let dir : a.directory PartDir lpid 0 gra ≡ None = none.no_directory PartDir lpid 0 gra tt in
    rw page (rw dir refl)

no_rows_named : (reads rs : List ReadRow) → AreRows reads [] rs → rs ≡ []
no_rows_named reads [] h = refl
no_rows_named reads (r ∷ rs) h = absurd h

record FreshItems (word : ℕ → Option ℕ) (moment ptcr lpid gra : ℕ) (items : List TrailItem) (out : PartResult) : Type 0 where
  are : items ≡ map New (new_rows items)
  fresh : FreshPartitionWalk word moment ptcr lpid gra (new_rows items) out

to_fresh : (word : ℕ → Option ℕ) (moment : ℕ) (a : KeptAnswers) (ptcr lpid gra : ℕ) (items : List TrailItem) (out : PartResult) → kept_for a lpid gra ≡ [] → PartResumed word moment a ptcr lpid gra items out → FreshItems word moment ptcr lpid gra items out
to_fresh word moment a ptcr lpid gra items out none h =
    let taken : h.taken ≡ [] = no_rows_named a.reads h.taken (subst (λ is. AreRows a.reads is h.taken) none h.named) in
    let items_are : items ≡ map New h.rs = h.items_are ∙ ap (λ is. map Old is ++ map New h.rs) none in
    let rows : h.rs ≡ new_rows items = sym (ap new_rows items_are ∙ new_rows_of h.rs) in
    let rest : PartFreshFrom word moment lpid gra (part_start ptcr lpid) h.rs out = subst (λ rs. PartFreshFrom word moment lpid gra (part_after lpid gra (part_start ptcr lpid) rs) h.rs out) taken h.rest in
    let fresh : FreshPartitionWalk word moment ptcr lpid gra h.rs out = record { walk = record { follows = rest.follows; ends = rest.ends }; new = rest.new } in
    record { are = items_are ∙ ap (λ (rs : List ReadRow). map New rs) rows; fresh = subst (λ rs. FreshPartitionWalk word moment ptcr lpid gra rs out) rows fresh }

from_fresh : (word : ℕ → Option ℕ) (moment : ℕ) (a : KeptAnswers) (ptcr lpid gra : ℕ) (items : List TrailItem) (rs : List ReadRow) (out : PartResult) → kept_for a lpid gra ≡ [] → items ≡ map New rs → FreshPartitionWalk word moment ptcr lpid gra rs out → PartResumed word moment a ptcr lpid gra items out
from_fresh word moment a ptcr lpid gra items rs out none are h = record {
  taken = [];
  rs = rs;
  items_are = are ∙ ap (λ is. map Old is ++ map New rs) (sym none);
  named = subst (λ is. AreRows a.reads is []) (sym none) tt;
  follows = tt;
  rest = record { follows = h.walk.follows; new = h.new; ends = h.walk.ends };
}

pub nothing_kept_is_fresh_part : (word : ℕ → Option ℕ) (moment : ℕ) (a : KeptAnswers) (ptcr lpid gra : ℕ) (items : List TrailItem) (out : PartResult) → KnowsNothing a →
    PartResumed word moment a ptcr lpid gra items out ↔ ((items ≡ map New (new_rows items)) × FreshPartitionWalk word moment ptcr lpid gra (new_rows items) out)
nothing_kept_is_fresh_part word moment a ptcr lpid gra items out nothing =
    let none : kept_for a lpid gra ≡ [] = nothing_for a lpid gra nothing in
    let forth : PartResumed word moment a ptcr lpid gra items out → ((items ≡ map New (new_rows items)) × FreshPartitionWalk word moment ptcr lpid gra (new_rows items) out) =
    λ h. (let f : FreshItems word moment ptcr lpid gra items out = to_fresh word moment a ptcr lpid gra items out none h in (f.are, f.fresh)) in
    let back : ((items ≡ map New (new_rows items)) × FreshPartitionWalk word moment ptcr lpid gra (new_rows items) out) → PartResumed word moment a ptcr lpid gra items out =
    λ h. from_fresh word moment a ptcr lpid gra items (new_rows items) out none h.0 h.1 in
    (forth, back)

-- nothing is read after the end
over_resumes : (word : ℕ → Option ℕ) (moment : ℕ) (a : KeptAnswers) (k : Task) (s : Stage) (x : NestResult) (later : List TrailItem) (o : NestResult) → due a k s [] ≡ [] → EndsAt word s x → ResumesFrom word moment a k (Over x) [] later o → ResumesFrom word moment a k s [] later o
over_resumes word moment a k s x [] o none ends h = (none, subst (EndsAt word s) (sym h.1) ends)
over_resumes word moment a k s x (Old i ∷ later) o none ends h = absurd (not_due i h.0 h.2)
  where
    not_due : (i : ℕ) (rest : List ℕ) → [] ≡ i ∷ rest → ⊥
    not_due i rest e = cc
over_resumes word moment a k s x (New r ∷ later) o none ends h = absurd h.1

-- what is read anew in the tree is read so inside
inside_new : (word : ℕ → Option ℕ) (moment : ℕ) (a : KeptAnswers) (k : Task) (goal : Goal) (gra : ℕ) (p : PartStage) (rs : List ReadRow) (out : PartResult) (later : List TrailItem) (o : NestResult) → ((at : ℕ) → p ≡ Entry at → kept_for a k.lpid gra ≡ [])
    → PartFreshFrom word moment k.lpid gra p rs out → ResumesFrom word moment a k (inside k goal gra (Ended out)) [] later o → ResumesFrom word moment a k (inside k goal gra p) [] (map New rs ++ later) o
unfolding inside
inside_new word moment a k goal gra (Entry at) [] out later o none h g =
    over_resumes word moment a k (PartEntry goal gra at) (StopResult NoStorage at) later o (none at refl) (h.ends.0, refl) (subst (λ x. ResumesFrom word moment a k (inside k goal gra (Ended x)) [] later o) h.ends.1 g)
inside_new word moment a k goal gra (Tree n) [] out later o none h g =
    over_resumes word moment a k (PartTable goal gra n) (StopResult NoStorage (entry_at gra n)) later o refl (h.ends.0, refl) (subst (λ x. ResumesFrom word moment a k (inside k goal gra (Ended x)) [] later o) h.ends.1 g)
inside_new word moment a k goal gra (Ended e) [] out later o none h g = subst (λ x. ResumesFrom word moment a k (inside k goal gra (Ended x)) [] later o) h.ends g
inside_new word moment a k goal gra (Entry at) (r ∷ rs) out later o none h g = (
  none at refl,
  h.follows.0,
  h.new.0,
  inside_new word moment a k goal gra (after_entry k.lpid gra r.value) rs out later o (λ x e. absurd (entry_no_entry k.lpid gra r.value x e)) (record { follows = h.follows.1; new = h.new.1; ends = h.ends }) g,
)
inside_new word moment a k goal gra (Tree n) (r ∷ rs) out later o none h g = (
  refl,
  h.follows.0,
  h.new.0,
  inside_new word moment a k goal gra (after_tree (n.left - n.size) n.level r.value) rs out later o (λ x e. absurd (tree_no_entry (n.left - n.size) n.level r.value x e)) (record { follows = h.follows.1; new = h.new.1; ends = h.ends }) g,
)
inside_new word moment a k goal gra (Ended e) (r ∷ rs) out later o none h g = absurd h.follows.0

-- what is owed in the tree is taken so inside
inside_old : (word : ℕ → Option ℕ) (moment : ℕ) (a : KeptAnswers) (k : Task) (goal : Goal) (gra : ℕ) (p : PartStage) (is : List ℕ) (taken rs : List ReadRow) (out : PartResult) (later : List TrailItem) (o : NestResult) → ((at : ℕ) → p ≡ Entry at → ⊥)
    → AreRows a.reads is taken → PartFollows k.lpid gra p taken → PartFreshFrom word moment k.lpid gra (part_after k.lpid gra p taken) rs out → ResumesFrom word moment a k (inside k goal gra (Ended out)) [] later o
    → ResumesFrom word moment a k (inside k goal gra p) is (map Old is ++ (map New rs ++ later)) o
unfolding inside
inside_old word moment a k goal gra p [] [] rs out later o never named follows h g = inside_new word moment a k goal gra p rs out later o (λ x e. absurd (never x e)) h g
inside_old word moment a k goal gra p [] (r ∷ taken) rs out later o never named follows h g = absurd named
inside_old word moment a k goal gra p (i ∷ is) [] rs out later o never named follows h g = absurd named
inside_old word moment a k goal gra (Entry at) (i ∷ is) (r ∷ taken) rs out later o never named follows h g = absurd (never at refl)
inside_old word moment a k goal gra (Tree n) (i ∷ is) (r ∷ taken) rs out later o never named follows h g = (
  is,
  r,
  refl,
  named.0,
  follows.0,
  inside_old word moment a k goal gra (after_tree (n.left - n.size) n.level r.value) is taken rs out later o (λ x e. tree_no_entry (n.left - n.size) n.level r.value x e) named.1 follows.1 h g,
)
inside_old word moment a k goal gra (Ended e) (i ∷ is) (r ∷ taken) rs out later o never named follows h g = absurd follows.0

no_tree_yet : (ptcr lpid : ℕ) (n : _) (b : Bool) → has_entry ptcr lpid ≡ b → part_start ptcr lpid ≡ Tree n → ⊥
unfolding part_start
no_tree_yet ptcr lpid n true e h = (let h2 : Entry _ ≡ Tree n = rw e at h in cc)
no_tree_yet ptcr lpid n false e h = (let h2 : Ended (Fault _) ≡ Tree n = rw e at h in cc)

-- from where the walk of the tree begins
inside_start : (word : ℕ → Option ℕ) (moment : ℕ) (a : KeptAnswers) (k : Task) (goal : Goal) (gra : ℕ) (p : PartStage) (is : List ℕ) (taken rs : List ReadRow) (out : PartResult) (later : List TrailItem) (o : NestResult) → kept_for a k.lpid gra ≡ is → ((n : _) → p ≡ Tree n → ⊥)
    → AreRows a.reads is taken → PartFollows k.lpid gra p taken → PartFreshFrom word moment k.lpid gra (part_after k.lpid gra p taken) rs out → ResumesFrom word moment a k (inside k goal gra (Ended out)) [] later o
    → ResumesFrom word moment a k (inside k goal gra p) [] (map Old is ++ (map New rs ++ later)) o
unfolding inside
inside_start word moment a k goal gra p [] [] rs out later o due_is never named follows h g = inside_new word moment a k goal gra p rs out later o (λ x e. due_is) h g
inside_start word moment a k goal gra p [] (r ∷ taken) rs out later o due_is never named follows h g = absurd named
inside_start word moment a k goal gra p (i ∷ is) [] rs out later o due_is never named follows h g = absurd named
inside_start word moment a k goal gra (Entry at) (i ∷ is) (r ∷ taken) rs out later o due_is never named follows h g = (
  is,
  r,
  due_is,
  named.0,
  follows.0,
  inside_old word moment a k goal gra (after_entry k.lpid gra r.value) is taken rs out later o (λ x e. entry_no_entry k.lpid gra r.value x e) named.1 follows.1 h g,
)
inside_start word moment a k goal gra (Tree n) (i ∷ is) (r ∷ taken) rs out later o due_is never named follows h g = absurd (never n refl)
inside_start word moment a k goal gra (Ended e) (i ∷ is) (r ∷ taken) rs out later o due_is never named follows h g = absurd follows.0

pub part_resumed_is_inside : (word : ℕ → Option ℕ) (moment : ℕ) (a : KeptAnswers) (k : Task) (goal : Goal) (gra : ℕ) (items later : List TrailItem) (out : PartResult) (o : NestResult) →
    PartResumed word moment a k.ask.ptcr k.lpid gra items out → ResumesFrom word moment a k (inside k goal gra (Ended out)) [] later o → ResumesFrom word moment a k (enter k goal gra) [] (items ++ later) o
part_resumed_is_inside word moment a k goal gra items later out o h g =
    let is : List ℕ = kept_for a k.lpid gra in
    let are : items ++ later ≡ map Old is ++ (map New h.rs ++ later) = ap (λ (xs : List TrailItem). xs ++ later) h.items_are ∙ append_assoc (map Old is) (map New h.rs) later in
    subst (λ xs. ResumesFrom word moment a k (enter k goal gra) [] xs o) (sym are)
    (inside_start word moment a k goal gra (part_start k.ask.ptcr k.lpid) is h.taken h.rs out later o refl (λ n e. no_tree_yet k.ask.ptcr k.lpid n (has_entry k.ask.ptcr k.lpid) refl e) h.named h.follows h.rest g)
