-- There is one walk that uses given answers; with no answers it is the fresh one; and it is a walk.
use Rattle.std.proofs.Common.{◌≡◌, ℕ, List, [], ◌∷◌, map, ap, sym, ◌∙◌, refl, Option, Some, None, slice_get}
use Rattle.std.specs.Prelude.{◌↔◌}
use Rattle.journal_core.specs.declared.rows.ReadRow.{ReadRow}
use Rattle.journal_core.specs.declared.rows.KeyKind.TheVariants.{ProcessDir, PartDir}
use Rattle.journal_core.specs.declared.asks.Ask.{Ask}
use Rattle.journal_core.specs.declared.asks.Place.{Place}
use Rattle.journal_core.specs.declared.asks.Place.TheVariants.{Real, GuestReal, Space, Segment}
use Rattle.journal_core.specs.declared.walks.NestResult.{NestResult}
use Rattle.journal_core.specs.declared.walks.Stage.{Stage}
use Rattle.journal_core.specs.declared.walks.Stage.TheVariants.{SecondWord, PartEntry, PartTable, ProcessEntry, ProcessTable, Over}
use Rattle.journal_core.specs.declared.walks.TrailItem.{TrailItem}
use Rattle.journal_core.specs.declared.walks.TrailItem.TheVariants.{Old, New}
use Rattle.journal_core.specs.Places.{place_of}
use Rattle.journal_core.specs.Rights.{first_denial}
use Rattle.journal_core.specs.Walk.{Task, next, task_of, start_of}
use Rattle.journal_core.specs.Following.{WalksFrom, FreshFrom, Fresh}
use Rattle.journal_core.specs.Resumed.{KeptAnswers, due, ResumesFrom, Resumed, owed_at, KnowsNothing, readings}
use Rattle.journal_core.specs.Fills.{new_rows}
use Rattle.walk_laws.proofs.WalkIsOne.{same_read, no_more, same_end, fresh_rest}

not_both : {X : Type 0} (xs : List ℕ) (i : ℕ) (rest : List ℕ) → xs ≡ [] → xs ≡ i ∷ rest → X
not_both xs i rest a b = (let e : [] ≡ i ∷ rest = sym a ∙ b in cc)

-- two walks that use the same answers from one stage are one
pub resumed_unique : (word : ℕ → Option ℕ) (moment : ℕ) (a : KeptAnswers) (k : Task) (s : Stage) (owed : List ℕ) (xs ys : List TrailItem) (o p : NestResult)
    → ResumesFrom word moment a k s owed xs o → ResumesFrom word moment a k s owed ys p → (xs ≡ ys) × (o ≡ p)
resumed_unique word moment a k s owed [] [] o p h g = (refl, same_end word s o p h.1 g.1)
resumed_unique word moment a k s owed [] (New r ∷ ys) o p h g = no_more word k s r o h.1 g.1 g.2.stands
resumed_unique word moment a k s owed [] (Old i ∷ ys) o p h g = not_both (due a k s owed) i g.0 h.0 g.2
resumed_unique word moment a k s owed (New r ∷ xs) [] o p h g = no_more word k s r p g.1 h.1 h.2.stands
resumed_unique word moment a k s owed (Old i ∷ xs) [] o p h g = not_both (due a k s owed) i h.0 g.0 h.2
resumed_unique word moment a k s owed (New r ∷ xs) (Old i ∷ ys) o p h g = not_both (due a k s owed) i g.0 h.0 g.2
resumed_unique word moment a k s owed (Old i ∷ xs) (New r ∷ ys) o p h g = not_both (due a k s owed) i h.0 g.0 h.2
resumed_unique word moment a k s owed (New r ∷ xs) (New q ∷ ys) o p h g =
    let e : r ≡ q = same_read word moment k s r q h.1 g.1 h.2 g.2 in
    let rest : (xs ≡ ys) × (o ≡ p) = resumed_unique word moment a k (next k s r.value) [] xs ys o p h.3 (rw (← e) at g.3) in
    (cc, rest.1)
resumed_unique word moment a k s owed (Old i ∷ xs) (Old j ∷ ys) o p h g =
    let both : i ∷ h.0 ≡ j ∷ g.0 = sym h.2 ∙ g.2 in
    let same : i ≡ j = cc in
    let owes : h.0 ≡ g.0 = cc in
    let named : Some h.1 ≡ Some g.1 = sym h.3 ∙ (ap (λ n. slice_get a.reads n) same ∙ g.3) in
    let e : h.1 ≡ g.1 = cc in
    let rest : (xs ≡ ys) × (o ≡ p) = resumed_unique word moment a k (next k s h.1.value) h.0 xs ys o p h.5 (rw (← e) at (rw (← owes) at g.5)) in
    (cc, rest.1)

-- where nothing is kept nothing is due
nothing_due : (a : KeptAnswers) (k : Task) (s : Stage) → KnowsNothing a → due a k s [] ≡ []
nothing_due a k (SecondWord at) h = refl
nothing_due a k (PartEntry goal gra at) h =
    let page : a.page k.lpid gra ≡ None = h.no_page k.lpid gra in
    let dir : a.directory PartDir k.lpid 0 gra ≡ None = h.no_directory PartDir k.lpid 0 gra tt in
    rw page (rw dir refl)
nothing_due a k (PartTable goal gra n) h = refl
nothing_due a k (ProcessEntry at) h = refl
nothing_due a k (ProcessTable n at) h = refl
nothing_due a k (Over o) h = refl

-- nor is anything owed from the beginning
pub nothing_owed : (a : KeptAnswers) (p : Place) → KnowsNothing a → owed_at a p ≡ []
nothing_owed a (Real at) h = refl
nothing_owed a (GuestReal lpid at) h = refl
nothing_owed a (Space lpid pid at) h =
    let dir : a.directory ProcessDir lpid pid at ≡ None = h.no_directory ProcessDir lpid pid at tt in
    rw dir refl
nothing_owed a Segment h = refl

-- a walk that may use nothing is the fresh one
pub record IsFreshTrail (word : ℕ → Option ℕ) (moment : ℕ) (k : Task) (s : Stage) (items : List TrailItem) (out : NestResult) : Type 0 where
  pub items_are : items ≡ map New (new_rows items)
  pub fresh : FreshFrom word moment k s (new_rows items) out

resumed_is_fresh : (word : ℕ → Option ℕ) (moment : ℕ) (a : KeptAnswers) (k : Task) (s : Stage) (items : List TrailItem) (out : NestResult)
    → KnowsNothing a → ResumesFrom word moment a k s [] items out → IsFreshTrail word moment k s items out
resumed_is_fresh word moment a k s [] out none h = record { items_are = refl; fresh = record { walk = record { follows = tt; ends = h.1 }; new = tt } }
resumed_is_fresh word moment a k s (Old i ∷ items) out none h = not_both (due a k s []) i h.0 (nothing_due a k s none) h.2
resumed_is_fresh word moment a k s (New r ∷ items) out none h =
    let rest : IsFreshTrail word moment k (next k s r.value) items out = resumed_is_fresh word moment a k (next k s r.value) items out none h.3 in
    record {
      items_are = ap (λ (xs : List TrailItem). New r ∷ xs) rest.items_are;
      fresh = record { walk = record { follows = (h.1, rest.fresh.walk.follows); ends = rest.fresh.walk.ends }; new = (h.2, rest.fresh.new) };
    }

pub fresh_is_resumed : (word : ℕ → Option ℕ) (moment : ℕ) (a : KeptAnswers) (k : Task) (s : Stage) (rs : List ReadRow) (out : NestResult)
    → KnowsNothing a → FreshFrom word moment k s rs out → ResumesFrom word moment a k s [] (map New rs) out
fresh_is_resumed word moment a k s [] out none h = (nothing_due a k s none, h.walk.ends)
fresh_is_resumed word moment a k s (r ∷ rs) out none h =
    (nothing_due a k s none, h.walk.follows.0, h.new.0, fresh_is_resumed word moment a k (next k s r.value) rs out none (fresh_rest word moment k s r rs out h))

fresh_items_resume : (word : ℕ → Option ℕ) (moment : ℕ) (a : KeptAnswers) (k : Task) (s : Stage) (items : List TrailItem) (rs : List ReadRow) (out : NestResult)
    → KnowsNothing a → items ≡ map New rs → FreshFrom word moment k s rs out → ResumesFrom word moment a k s [] items out
fresh_items_resume word moment a k s items rs out none are h = rw are (fresh_is_resumed word moment a k s rs out none h)

-- where nothing is kept, the walk that uses what is kept is the fresh walk
pub nothing_kept : (word : ℕ → Option ℕ) (moment : ℕ) (a : KeptAnswers) (ask : Ask) (items : List TrailItem) (out : NestResult)
    → KnowsNothing a → Resumed word moment a ask items out ↔ ((items ≡ map New (new_rows items)) × Fresh word moment ask (new_rows items) out)
nothing_kept word moment a ask items out none =
    let k : Task = task_of (first_denial ask) ask in
    let s : Stage = start_of (first_denial ask) ask in
    let owes : owed_at a (place_of ask) ≡ [] = nothing_owed a (place_of ask) none in
    let forth : Resumed word moment a ask items out → ((items ≡ map New (new_rows items)) × Fresh word moment ask (new_rows items) out) =
    λ h. (let t : IsFreshTrail word moment k s items out = resumed_is_fresh word moment a k s items out none (rw owes at h) in (t.items_are, t.fresh)) in
    let back : ((items ≡ map New (new_rows items)) × Fresh word moment ask (new_rows items) out) → Resumed word moment a ask items out =
    λ h. rw owes (fresh_items_resume word moment a k s items (new_rows items) out none h.0 h.1) in
    (forth, back)

-- a walk that uses answers is a walk
pub resumed_walks : (word : ℕ → Option ℕ) (moment : ℕ) (a : KeptAnswers) (k : Task) (s : Stage) (owed : List ℕ) (items : List TrailItem) (out : NestResult)
    → ResumesFrom word moment a k s owed items out → WalksFrom word k s (readings a.reads items) out
resumed_walks word moment a k s owed [] out h = record { follows = tt; ends = h.1 }
resumed_walks word moment a k s owed (New r ∷ items) out h =
    let rest : WalksFrom word k (next k s r.value) (readings a.reads items) out = resumed_walks word moment a k (next k s r.value) [] items out h.3 in
    record { follows = (h.1, rest.follows); ends = rest.ends }
resumed_walks word moment a k s owed (Old i ∷ items) out h =
    let rest : WalksFrom word k (next k s h.1.value) (readings a.reads items) out = resumed_walks word moment a k (next k s h.1.value) h.0 items out h.5 in
    rw h.3 (let w : WalksFrom word k s (h.1 ∷ readings a.reads items) out = record { follows = (h.4, rest.follows); ends = rest.ends } in w)

-- a walk that used nothing of what is kept is the fresh one
pub unused_is_fresh : (word : ℕ → Option ℕ) (moment : ℕ) (a : KeptAnswers) (k : Task) (s : Stage) (owed : List ℕ) (rs : List ReadRow) (out : NestResult)
    → ResumesFrom word moment a k s owed (map New rs) out → FreshFrom word moment k s rs out
unused_is_fresh word moment a k s owed [] out h = record { walk = record { follows = tt; ends = h.1 }; new = tt }
unused_is_fresh word moment a k s owed (r ∷ rs) out h =
    let rest : FreshFrom word moment k (next k s r.value) rs out = unused_is_fresh word moment a k (next k s r.value) [] rs out h.3 in
    record { walk = record { follows = (h.1, rest.walk.follows); ends = rest.walk.ends }; new = (h.2, rest.new) }
