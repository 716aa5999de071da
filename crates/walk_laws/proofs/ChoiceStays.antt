-- A choice stays the choice when later rows come.
use Rattle.std.proofs.Common.{◌≡◌, ℕ, ◌+◌, ◌<◌, ◌≤◌, List, [], ◌∷◌, ◌++◌, length, map, Option, Some, None, true, arith, ap, sym, ◌∙◌, refl, subst, inl, inr}
use Rattle.std.specs.Prelude.{slice_get, option_to_list}
use Rattle.std.specs.List.{AllByRecursion}
use Rattle.std.proofs.lemmas.Option.{slice_get_within}
use Rattle.journal_core.specs.declared.rows.ReadRow.{ReadRow}
use Rattle.journal_core.specs.declared.rows.FillRow.{FillRow}
use Rattle.journal_core.specs.declared.rows.KeyKind.{KeyKind}
use Rattle.journal_core.specs.declared.rows.KeyKind.TheVariants.{ProcessDir, PartDir}
use Rattle.journal_core.specs.declared.asks.Ask.{Ask}
use Rattle.journal_core.specs.declared.asks.Place.{Place}
use Rattle.journal_core.specs.declared.asks.Place.TheVariants.{Real as RealPlace, GuestReal, Space, Segment}
use Rattle.journal_core.specs.declared.walks.NestResult.{NestResult}
use Rattle.journal_core.specs.declared.walks.NestResult.TheVariants.{Page}
use Rattle.journal_core.specs.declared.walks.Stage.{Stage}
use Rattle.journal_core.specs.declared.walks.Stage.TheVariants.{SecondWord, PartEntry, PartTable, ProcessEntry, ProcessTable, Over}
use Rattle.journal_core.specs.declared.walks.TrailItem.{TrailItem}
use Rattle.journal_core.specs.declared.walks.TrailItem.TheVariants.{Old, New}
use Rattle.journal_core.specs.Rows.{Rows}
use Rattle.journal_core.specs.Places.{place_of}
use Rattle.journal_core.specs.Rights.{first_denial}
use Rattle.journal_core.specs.Walk.{Task, next, task_of, start_of, never_denied}
use Rattle.journal_core.specs.Resumed.{KeptAnswers, numbers_in, numbers_of, kept_reads, due, ResumesFrom, owed_at, Resumed, KnowsStanding}
use Rattle.journal_core.specs.Turns.{Mark, Query, turn_of, turn_later, query_later}
use Rattle.journal_core.specs.Standing.{fill_reads, AreRows, IsNamed, AreNamed, IsStandingPage, IsDeepest}
use Rattle.journal_core.specs.Fills.{NumberedItem, as_old, number_items, nothing_so_far, fills_of, fills_of_query, fills_from, own_key, OldsBelow}
use Rattle.journal_core.specs.Choice.{IsPermitted, NonePermits, NoneResumes, NoneServes, AddsWalk, WalkedBy, ChoseHit, ChoseWalk, IsFault, IsStop, Choice, AddsOwn, last_of, PlainChoice}
use Rattle.journal_core.specs.Early.{PagesChoice}
use Rattle.journal_core.specs.Translating.{GoesOn, IsWithin, Stays}
use Rattle.journal_core.proofs.StandingStays.{at_front, in_front, all_get, standing_goes_on, standing_goes_back}
use Rattle.walk_laws.proofs.AnswersStay.{get_front, reads_go_on, fills_go_on, by_kind_on, fault_goes_on, stop_goes_on}

-- what holds of a journal that goes on from one whose fills are named, for what stands before fill c
pub record Goes (n c : ℕ) (old new : Rows) : Type 0 where
  on : GoesOn n old new
  within : c ≤ length old.fills
  named : AreNamed old.reads old.fills

pub permitted_on : (old new : Rows) (floor t n c : ℕ) (ask : Ask) (i real : ℕ) → Goes n c old new → IsPermitted (turn_of old floor t n) c ask i real → IsPermitted (turn_of new floor t n) c ask i real
unfolding standing_goes_on
permitted_on old new floor t n c ask i real g h = record { fill = h.fill; standing = standing_goes_on old new floor t n c i h.fill g.on g.within h.standing; own = h.own; permits = h.permits }

pub permitted_back : (old new : Rows) (floor t n c : ℕ) (ask : Ask) (i real : ℕ) → Goes n c old new → IsPermitted (turn_of new floor t n) c ask i real → IsPermitted (turn_of old floor t n) c ask i real
unfolding standing_goes_back
permitted_back old new floor t n c ask i real g h = record { fill = h.fill; standing = standing_goes_back old new floor t n c i h.fill g.on g.within g.named h.standing; own = h.own; permits = h.permits }

pub none_permits_on : (old new : Rows) (floor t n c : ℕ) (ask : Ask) → Goes n c old new → NonePermits (turn_of old floor t n) c ask → NonePermits (turn_of new floor t n) c ask
none_permits_on old new floor t n c ask g none i real hit = none i real (permitted_back old new floor t n c ask i real g hit)

deepest_on : (old new : Rows) (floor t n c : ℕ) (kind : KeyKind) (lpid pid sought : ℕ) (x : Option ℕ) → Goes n c old new → IsDeepest (turn_of old floor t n) c kind lpid pid sought x → IsDeepest (turn_of new floor t n) c kind lpid pid sought x
deepest_on old new floor t n c kind lpid pid sought None g h = λ j f s for. h j f (standing_goes_back old new floor t n c j f g.on g.within g.named s) for
deepest_on old new floor t n c kind lpid pid sought (Some i) g h = record {
  fill = h.fill;
  standing = standing_goes_on old new floor t n c i h.fill g.on g.within h.standing;
  for_it = h.for_it;
  least = λ j f s for. h.least j f (standing_goes_back old new floor t n c j f g.on g.within g.named s) for;
}

page_on : (old new : Rows) (floor t n c lpid gra : ℕ) (x : Option ℕ) → Goes n c old new → IsStandingPage (turn_of old floor t n) c lpid gra x → IsStandingPage (turn_of new floor t n) c lpid gra x
page_on old new floor t n c lpid gra None g h = λ j f s same. h j f (standing_goes_back old new floor t n c j f g.on g.within g.named s) same
page_on old new floor t n c lpid gra (Some i) g h = record { fill = h.fill; standing = standing_goes_on old new floor t n c i h.fill g.on g.within h.standing; of_key = h.of_key }

-- the same answers beside the journal that went on
abbrev pub beside : KeptAnswers → Rows → KeptAnswers
beside a new = record a { reads = new.reads; fills = new.fills }

pub knows_on : (old new : Rows) (floor t n c : ℕ) (a : KeptAnswers) → Goes n c old new → KnowsStanding (turn_of old floor t n) c a → KnowsStanding (turn_of new floor t n) c (beside a new)
knows_on old new floor t n c a g h = record {
  reads = refl;
  fills = refl;
  directories = λ kind lpid pid sought of_kind. deepest_on old new floor t n c kind lpid pid sought (a.directory kind lpid pid sought) g (h.directories kind lpid pid sought of_kind);
  pages = λ lpid gra. page_on old new floor t n c lpid gra (a.page lpid gra) g (h.pages lpid gra);
}

-- an answer that stands has the numbers that it had
same_in : (old new : Rows) (n c i : ℕ) → Goes n c old new → i < c → numbers_of new.fills (Some i) ≡ numbers_of old.fills (Some i)
same_in old new n c i g below = ap numbers_in (ap (λ xs. slice_get xs i) g.on.fills ∙ get_front old.fills g.on.more_fills i (let w : c ≤ length old.fills = g.within in omega (arith, below, w)))

same_deepest : (old new : Rows) (floor t n c : ℕ) (kind : KeyKind) (lpid pid sought : ℕ) (x : Option ℕ) → Goes n c old new → IsDeepest (turn_of old floor t n) c kind lpid pid sought x → numbers_of new.fills x ≡ numbers_of old.fills x
same_deepest old new floor t n c kind lpid pid sought None g h = refl
same_deepest old new floor t n c kind lpid pid sought (Some i) g h = same_in old new n c i g h.standing.below

same_page : (old new : Rows) (floor t n c lpid gra : ℕ) (x : Option ℕ) → Goes n c old new → IsStandingPage (turn_of old floor t n) c lpid gra x → numbers_of new.fills x ≡ numbers_of old.fills x
same_page old new floor t n c lpid gra None g h = refl
same_page old new floor t n c lpid gra (Some i) g h = same_in old new n c i g h.standing.below

same_kept : (xs ys : List FillRow) (p d : Option ℕ) → numbers_of xs p ≡ numbers_of ys p → numbers_of xs d ≡ numbers_of ys d → kept_reads xs p d ≡ kept_reads ys p d
same_kept xs ys (Some i) d one two = one
same_kept xs ys None d one two = two

-- what is due is what was due
same_due : (old new : Rows) (floor t n c : ℕ) (a : KeptAnswers) (k : Task) (s : Stage) (owed : List ℕ) → Goes n c old new → KnowsStanding (turn_of old floor t n) c a → due (beside a new) k s owed ≡ due a k s owed
same_due old new floor t n c a k s (i ∷ is) g h = refl
same_due old new floor t n c a k (SecondWord at) [] g h = refl
same_due old new floor t n c a k (PartEntry goal gra at) [] g h =
    same_kept new.fills old.fills (a.page k.lpid gra) (a.directory PartDir k.lpid 0 gra) (same_page old new floor t n c k.lpid gra (a.page k.lpid gra) g (h.pages k.lpid gra))
    (same_deepest old new floor t n c PartDir k.lpid 0 gra (a.directory PartDir k.lpid 0 gra) g (h.directories PartDir k.lpid 0 gra tt))
    ∙ ap (λ xs. kept_reads xs (a.page k.lpid gra) (a.directory PartDir k.lpid 0 gra)) (sym h.fills)
same_due old new floor t n c a k (PartTable goal gra node) [] g h = refl
same_due old new floor t n c a k (ProcessEntry at) [] g h = refl
same_due old new floor t n c a k (ProcessTable node at) [] g h = refl
same_due old new floor t n c a k (Over out) [] g h = refl

same_owed : (old new : Rows) (floor t n c : ℕ) (a : KeptAnswers) (p : Place) → Goes n c old new → KnowsStanding (turn_of old floor t n) c a → owed_at (beside a new) p ≡ owed_at a p
same_owed old new floor t n c a (RealPlace at) g h = refl
same_owed old new floor t n c a (GuestReal lpid at) g h = refl
same_owed old new floor t n c a (Space lpid pid at) g h =
    same_deepest old new floor t n c ProcessDir lpid pid at (a.directory ProcessDir lpid pid at) g (h.directories ProcessDir lpid pid at tt)
    ∙ ap (λ xs. numbers_of xs (a.directory ProcessDir lpid pid at)) (sym h.fills)
same_owed old new floor t n c a Segment g h = refl

-- numbers that name rows of a list
abbrev pub AreBelow : ℕ → List ℕ → Type 0
AreBelow m is = AllByRecursion (λ i. i < m) is

pub names_below : (reads : List ReadRow) (is : List ℕ) (rs : List ReadRow) → AreRows reads is rs → AreBelow (length reads) is
names_below reads [] rs h = tt
names_below reads (i ∷ is) [] h = absurd h
names_below reads (i ∷ is) (r ∷ rs) h = (slice_get_within reads i r h.0, names_below reads is rs h.1)

in_below : (old : Rows) (i : ℕ) (o : Option FillRow) → AreNamed old.reads old.fills → slice_get old.fills i ≡ o → AreBelow (length old.reads) (numbers_in o)
in_below old i None named e = tt
in_below old i (Some f) named e =
    let of_it : IsNamed old.reads f = all_get (IsNamed old.reads) old.fills i f named e in
    names_below old.reads (fill_reads f) of_it.readings of_it.named

numbers_below : (old : Rows) (x : Option ℕ) → AreNamed old.reads old.fills → AreBelow (length old.reads) (numbers_of old.fills x)
numbers_below old None named = tt
numbers_below old (Some i) named = in_below old i (slice_get old.fills i) named refl

kept_below : (old : Rows) (p d : Option ℕ) → AreNamed old.reads old.fills → AreBelow (length old.reads) (kept_reads old.fills p d)
kept_below old (Some i) d named = numbers_below old (Some i) named
kept_below old None d named = numbers_below old d named

pub due_below : (old : Rows) (a : KeptAnswers) (k : Task) (s : Stage) (owed : List ℕ) → AreNamed old.reads old.fills → a.fills ≡ old.fills → AreBelow (length old.reads) owed → AreBelow (length old.reads) (due a k s owed)
due_below old a k s (i ∷ is) named e below = below
due_below old a k (SecondWord at) [] named e below = tt
due_below old a k (PartEntry goal gra at) [] named e below =
    subst (λ xs. AreBelow (length old.reads) (kept_reads xs (a.page k.lpid gra) (a.directory PartDir k.lpid 0 gra))) (sym e) (kept_below old (a.page k.lpid gra) (a.directory PartDir k.lpid 0 gra) named)
due_below old a k (PartTable goal gra node) [] named e below = tt
due_below old a k (ProcessEntry at) [] named e below = tt
due_below old a k (ProcessTable node at) [] named e below = tt
due_below old a k (Over out) [] named e below = tt

pub owed_below : (old : Rows) (a : KeptAnswers) (p : Place) → AreNamed old.reads old.fills → a.fills ≡ old.fills → AreBelow (length old.reads) (owed_at a p)
owed_below old a (RealPlace at) named e = tt
owed_below old a (GuestReal lpid at) named e = tt
owed_below old a (Space lpid pid at) named e =
    subst (λ xs. AreBelow (length old.reads) (numbers_of xs (a.directory ProcessDir lpid pid at))) (sym e) (numbers_below old (a.directory ProcessDir lpid pid at) named)
owed_below old a Segment named e = tt

-- the walk that uses what is kept goes as it went
resumes_on : (word : ℕ → Option ℕ) (old new : Rows) (floor t n c : ℕ) (a : KeptAnswers) (k : Task) (s : Stage) (owed : List ℕ) (items : List TrailItem) (out : NestResult) → Goes n c old new → KnowsStanding (turn_of old floor t n) c a →
    ResumesFrom word n a k s owed items out → ResumesFrom word n (beside a new) k s owed items out
resumes_on word old new floor t n c a k s owed [] out g knows h = (same_due old new floor t n c a k s owed g knows ∙ h.0, h.1)
resumes_on word old new floor t n c a k s owed (New r ∷ items) out g knows h =
    (same_due old new floor t n c a k s owed g knows ∙ h.0, h.1, h.2, resumes_on word old new floor t n c a k (next k s r.value) [] items out g knows h.3)
resumes_on word old new floor t n c a k s owed (Old i ∷ items) out g knows h = (
  h.0,
  h.1,
  same_due old new floor t n c a k s owed g knows ∙ h.2,
  ap (λ xs. slice_get xs i) g.on.reads ∙ at_front old.reads g.on.more_reads i h.1 (ap (λ xs. slice_get xs i) (sym knows.reads) ∙ h.3),
  h.4,
  resumes_on word old new floor t n c a k (next k s h.1.value) h.0 items out g knows h.5,
)

resumes_back : (word : ℕ → Option ℕ) (old new : Rows) (floor t n c : ℕ) (a : KeptAnswers) (k : Task) (s : Stage) (owed : List ℕ) (items : List TrailItem) (out : NestResult) → Goes n c old new → KnowsStanding (turn_of old floor t n) c a →
    AreBelow (length old.reads) owed → ResumesFrom word n (beside a new) k s owed items out → ResumesFrom word n a k s owed items out
resumes_back word old new floor t n c a k s owed [] out g knows below h = (sym (same_due old new floor t n c a k s owed g knows) ∙ h.0, h.1)
resumes_back word old new floor t n c a k s owed (New r ∷ items) out g knows below h =
    (sym (same_due old new floor t n c a k s owed g knows) ∙ h.0, h.1, h.2, resumes_back word old new floor t n c a k (next k s r.value) [] items out g knows tt h.3)
resumes_back word old new floor t n c a k s owed (Old i ∷ items) out g knows below h =
    let is_due : due a k s owed ≡ i ∷ h.0 = sym (same_due old new floor t n c a k s owed g knows) ∙ h.2 in
    let all : AreBelow (length old.reads) (i ∷ h.0) = subst (AreBelow (length old.reads)) is_due (due_below old a k s owed g.named knows.fills below) in (
      h.0,
      h.1,
      is_due,
      ap (λ xs. slice_get xs i) knows.reads ∙ in_front old.reads g.on.more_reads i h.1 all.0 (ap (λ xs. slice_get xs i) (sym g.on.reads) ∙ h.3),
      h.4,
      resumes_back word old new floor t n c a k (next k s h.1.value) h.0 items out g knows all.1 h.5,
    )

pub resumed_on : (word : ℕ → Option ℕ) (old new : Rows) (floor t n c : ℕ) (a : KeptAnswers) (ask : Ask) (items : List TrailItem) (out : NestResult) → Goes n c old new → KnowsStanding (turn_of old floor t n) c a → Resumed word n a ask items out → Resumed word n (beside a new) ask items out
resumed_on word old new floor t n c a ask items out g knows h =
    rw (same_owed old new floor t n c a (place_of ask) g knows) (resumes_on word old new floor t n c a (task_of (first_denial ask) ask) (start_of (first_denial ask) ask) (owed_at a (place_of ask)) items out g knows h)

pub none_resumes_on : (word : ℕ → Option ℕ) (old new : Rows) (floor t n c : ℕ) (a : KeptAnswers) (ask : Ask) → Goes n c old new → KnowsStanding (turn_of old floor t n) c a → NoneResumes word n a ask → NoneResumes word n (beside a new) ask
none_resumes_on word old new floor t n c a ask g knows none items real h =
    none items real (resumes_back word old new floor t n c a (task_of (first_denial ask) ask) (start_of (first_denial ask) ask) (owed_at a (place_of ask)) items (Page real) g knows
    (owed_below old a (place_of ask) g.named knows.fills) (rw (same_owed old new floor t n c a (place_of ask) g knows) at h))

pub resumed_olds : (word : ℕ → Option ℕ) (n : ℕ) (a : KeptAnswers) (k : Task) (s : Stage) (owed : List ℕ) (items : List TrailItem) (out : NestResult) → ResumesFrom word n a k s owed items out → OldsBelow (length a.reads) items
resumed_olds word n a k s owed [] out h = tt
resumed_olds word n a k s owed (New r ∷ items) out h = resumed_olds word n a k (next k s r.value) [] items out h.3
resumed_olds word n a k s owed (Old i ∷ items) out h = (slice_get_within a.reads i h.1 h.3, resumed_olds word n a k (next k s h.1.value) h.0 items out h.5)

pub fresh_olds : (m : ℕ) (rs : List ReadRow) → OldsBelow m (map New rs)
fresh_olds m [] = tt
fresh_olds m (r ∷ rs) = fresh_olds m rs

pub walked_olds : (q : Query) (a : KeptAnswers) (items : List TrailItem) (real : ℕ) → a.reads ≡ q.turn.rows.reads → WalkedBy q a items real → OldsBelow (length q.turn.rows.reads) items
walked_olds q a items real reads (inl h) =
    subst (λ (xs : List ReadRow). OldsBelow (length xs) items) reads (resumed_olds q.word q.turn.step a (task_of (first_denial q.ask) q.ask) (start_of (first_denial q.ask) q.ask) (owed_at a (place_of q.ask)) items (Page real) h)
walked_olds q a items real reads (inr h) = subst (OldsBelow (length q.turn.rows.reads)) (sym h.2) (fresh_olds (length q.turn.rows.reads) h.1)

as_new : ℕ → ReadRow → NumberedItem
as_new i r = record { number = i; row = r; is_new = true }

same_numbered : (reads more : List ReadRow) (first : ℕ) (items : List TrailItem) → OldsBelow (length reads) items → number_items (reads ++ more) first items ≡ number_items reads first items
unfolding as_new
same_numbered reads more first [] h = refl
same_numbered reads more first (Old j ∷ items) h =
    ap (λ x. map (as_old j) (option_to_list x) ++ number_items (reads ++ more) first items) (get_front reads more j h.0)
    ∙ ap (λ xs. map (as_old j) (option_to_list (slice_get reads j)) ++ xs) (same_numbered reads more first items h.1)
same_numbered reads more first (New r ∷ items) h = ap (λ xs. as_new first r ∷ xs) (same_numbered reads more (first + 1) items h)

pub same_fills_of : (old new : Rows) (t n from : ℕ) (ask : Ask) (items : List TrailItem) → GoesOn n old new → OldsBelow (length old.reads) items → fills_of t n ask new.reads from items ≡ fills_of t n ask old.reads from items
same_fills_of old new t n from ask items on h =
    ap (λ xs. fills_of t n ask xs from items) on.reads ∙
    ap (λ xs. fills_from t n (task_of never_denied ask) (own_key (place_of ask)) (start_of never_denied ask) nothing_so_far xs) (same_numbered old.reads on.more_reads from items h)

adds_on : (q : Query) (new : Rows) (items : List TrailItem) (i : ℕ) (after : Mark) → GoesOn q.turn.step q.turn.rows new → IsWithin after q.turn.rows → OldsBelow (length q.turn.rows.reads) items → AddsWalk q items i after → AddsWalk (query_later q new) items i after
adds_on q new items i after on within olds h =
    let same : fills_of_query (query_later q new) items ≡ fills_of_query q items = same_fills_of q.turn.rows new q.turn.thread q.turn.step q.before.reads q.ask items on olds in
    record {
      reads_to = h.reads_to;
      fills_to = h.fills_to ∙ ap (λ (xs : List FillRow). q.before.fills + length xs) (sym same);
      reads = reads_go_on q.turn.rows new q.turn.step q.before.reads after.reads on within.reads ∙ h.reads;
      fills = fills_go_on q.turn.rows new q.turn.step q.before.fills after.fills on within.fills ∙ (h.fills ∙ sym same);
      last = h.last;
    }

walked_on : (q : Query) (new : Rows) (a : KeptAnswers) (items : List TrailItem) (real : ℕ) → Goes q.turn.step q.before.fills q.turn.rows new → KnowsStanding q.turn q.before.fills a → WalkedBy q a items real → WalkedBy (query_later q new) (beside a new) items real
walked_on q new a items real g knows (inl h) = inl (resumed_on q.word q.turn.rows new q.turn.floor q.turn.thread q.turn.step q.before.fills a q.ask items (Page real) g knows h)
walked_on q new a items real g knows (inr h) = inr (none_resumes_on q.word q.turn.rows new q.turn.floor q.turn.thread q.turn.step q.before.fills a q.ask g knows h.0, h.1, h.2, h.3)

chose_walk_on : (q : Query) (new : Rows) (i real : ℕ) (after : Mark) → Goes q.turn.step q.before.fills q.turn.rows new → IsWithin after q.turn.rows → ChoseWalk q i real after → ChoseWalk (query_later q new) i real after
chose_walk_on q new i real after g within h = record {
  known = beside h.known new;
  knows = knows_on q.turn.rows new q.turn.floor q.turn.thread q.turn.step q.before.fills h.known g h.knows;
  none_permits = none_permits_on q.turn.rows new q.turn.floor q.turn.thread q.turn.step q.before.fills q.ask g h.none_permits;
  items = h.items;
  walked = walked_on q new h.known h.items real g h.knows h.walked;
  adds = adds_on q new h.items i after g.on within (walked_olds q h.known h.items real h.knows.reads h.walked) h.adds;
}

none_serves_on : (q : Query) (new : Rows) → Goes q.turn.step q.before.fills q.turn.rows new → NoneServes q → NoneServes (query_later q new)
none_serves_on q new g h = record {
  known = beside h.known new;
  knows = knows_on q.turn.rows new q.turn.floor q.turn.thread q.turn.step q.before.fills h.known g h.knows;
  none_permits = none_permits_on q.turn.rows new q.turn.floor q.turn.thread q.turn.step q.before.fills q.ask g h.none_permits;
  none_resumes = none_resumes_on q.word q.turn.rows new q.turn.floor q.turn.thread q.turn.step q.before.fills h.known q.ask g h.knows h.none_resumes;
}

goes : (q : Query) (after : Mark) (new : Rows) → GoesOn q.turn.step q.turn.rows new → IsWithin after q.turn.rows → AreNamed q.turn.rows.reads q.turn.rows.fills → q.before.fills ≤ after.fills → Goes q.turn.step q.before.fills q.turn.rows new
goes q after new on within named above = record { on = on; within = (let w : after.fills ≤ length q.turn.rows.fills = within.fills in omega (arith, w, above)); named = named }

hit_on : (q : Query) (new : Rows) (i real : ℕ) (after : Mark) → GoesOn q.turn.step q.turn.rows new → IsWithin after q.turn.rows → AreNamed q.turn.rows.reads q.turn.rows.fills → ChoseHit q i real after → ChoseHit (query_later q new) i real after
hit_on q new i real after on within named h = (permitted_on q.turn.rows new q.turn.floor q.turn.thread q.turn.step q.before.fills q.ask i real (goes q after new on within named (omega (arith, h.1.0))) h.0, h.1)

own_grows : (q : Query) (items : List TrailItem) (i : ℕ) (after : Mark) → AddsWalk q items i after → q.before.fills ≤ after.fills
own_grows q items i after h = (let e : after.fills ≡ q.before.fills + length (fills_of_query q items) = h.fills_to in omega (arith, e))

pub choice_goes_on : Stays Choice
choice_goes_on q new found after on within named h =
    by_kind_on q (query_later q new) (ChoseHit q) (ChoseWalk q) (ChoseHit (query_later q new)) (ChoseWalk (query_later q new)) (λ cause first count to. NoneServes q × IsFault q cause first count to) (λ cause first count to. NoneServes (query_later q new) × IsFault (query_later q new) cause first count to)
    (λ name value to. NoneServes q × IsStop q name value to) (λ name value to. NoneServes (query_later q new) × IsStop (query_later q new) name value to) found after refl refl
    (λ i real. hit_on q new i real after on within named)
    (λ i real w. chose_walk_on q new i real after (goes q after new on within named (own_grows q w.items i after w.adds)) within w)
    (λ cause first count f. (none_serves_on q new (goes q after new on within named (omega (arith, f.1.adds.fills_to))) f.0, fault_goes_on q new cause first count after on within f.1))
    (λ name value s. (none_serves_on q new (goes q after new on within named (omega (arith, s.1.same.0))) s.0, stop_goes_on q new name value after s.1)) h

-- new readings are numbered whatever rows there are, so the fills of a fresh walk are the same
pub fresh_fills_of : (old new : Rows) (t n from : ℕ) (ask : Ask) (rs : List ReadRow) → GoesOn n old new → fills_of t n ask old.reads from (map New rs) ≡ fills_of t n ask new.reads from (map New rs)
fresh_fills_of old new t n from ask rs on = sym (same_fills_of old new t n from ask (map New rs) on (fresh_olds (length old.reads) rs))

own_on : (q : Query) (new : Rows) (i real : ℕ) (after : Mark) → GoesOn q.turn.step q.turn.rows new → IsWithin after q.turn.rows → AddsOwn q i real after → AddsOwn (query_later q new) i real after
own_on q new i real after on within h = record {
  rs = h.rs;
  fresh = h.fresh;
  reads_to = h.reads_to;
  fills_to = h.fills_to;
  reads = reads_go_on q.turn.rows new q.turn.step q.before.reads after.reads on within.reads ∙ h.reads;
  fills = fills_go_on q.turn.rows new q.turn.step q.before.fills after.fills on within.fills ∙ (h.fills ∙ ap last_of (fresh_fills_of q.turn.rows new q.turn.thread q.turn.step q.before.reads q.ask h.rs on));
  last = h.last;
}

pub plain_choice_goes_on : Stays PlainChoice
plain_choice_goes_on q new found after on within named h =
    by_kind_on q (query_later q new) (λ i real to. ⊥) (AddsOwn q) (λ i real to. ⊥) (AddsOwn (query_later q new)) (IsFault q) (IsFault (query_later q new)) (IsStop q) (IsStop (query_later q new)) found after refl refl
    (λ i real none. none)
    (λ i real. own_on q new i real after on within)
    (λ cause first count. fault_goes_on q new cause first count after on within)
    (λ name value. stop_goes_on q new name value after) h

pub pages_choice_goes_on : Stays PagesChoice
pages_choice_goes_on q new found after on within named h =
    let None : Query → Type 0 = λ r. NonePermits r.turn r.before.fills r.ask in
    by_kind_on q (query_later q new) (ChoseHit q) (λ i real to. None q × AddsOwn q i real to) (ChoseHit (query_later q new)) (λ i real to. None (query_later q new) × AddsOwn (query_later q new) i real to)
    (λ cause first count to. None q × IsFault q cause first count to) (λ cause first count to. None (query_later q new) × IsFault (query_later q new) cause first count to)
    (λ name value to. None q × IsStop q name value to) (λ name value to. None (query_later q new) × IsStop (query_later q new) name value to) found after refl refl
    (λ i real. hit_on q new i real after on within named)
    (λ i real w. (none_on (omega (arith, w.1.fills_to)) w.0, own_on q new i real after on within w.1))
    (λ cause first count f. (none_on (omega (arith, f.1.adds.fills_to)) f.0, fault_goes_on q new cause first count after on within f.1))
    (λ name value s. (none_on (omega (arith, s.1.same.0)) s.0, stop_goes_on q new name value after s.1)) h
  where
    none_on : q.before.fills ≤ after.fills → NonePermits q.turn q.before.fills q.ask → NonePermits (turn_later q.turn new) q.before.fills q.ask
    none_on above = none_permits_on q.turn.rows new q.turn.floor q.turn.thread q.turn.step q.before.fills q.ask (goes q after new on within named above)
