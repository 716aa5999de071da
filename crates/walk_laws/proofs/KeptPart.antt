-- What is kept of a partition's tree begins the walk of each address of its key.
use Rattle.std.proofs.Common.{◌≡◌, ℕ, ◌/◌, ◌^◌, List, [], ◌∷◌, Option, None, Some, arith, ap, sym, ◌∙◌, refl, subst}
use Rattle.std.specs.Prelude.{slice_get}
use Rattle.journal_core.specs.declared.rows.KeyKind.{KeyKind}
use Rattle.journal_core.specs.declared.rows.KeyKind.TheVariants.{Translation, GuestPage, PartDir}
use Rattle.journal_core.specs.declared.rows.Key.{Key}
use Rattle.journal_core.specs.declared.rows.ReadRow.{ReadRow}
use Rattle.journal_core.specs.declared.rows.FillRow.{FillRow}
use Rattle.journal_core.specs.declared.asks.AccessKind.{AccessKind}
use Rattle.journal_core.specs.declared.asks.Rights.{Rights}
use Rattle.journal_core.specs.declared.asks.Denial.{Denial}
use Rattle.journal_core.specs.declared.asks.Ask.{Ask}
use Rattle.journal_core.specs.declared.asks.Place.{Place}
use Rattle.journal_core.specs.declared.asks.Place.TheVariants.{Real, GuestReal, Space, Segment}
use Rattle.journal_core.specs.declared.walks.PartStage.{PartStage}
use Rattle.journal_core.specs.declared.walks.Stage.{Stage}
use Rattle.std.specs.List.{AllByRecursion}
use Rattle.journal_core.specs.Turns.{Turn}
use Rattle.journal_core.specs.Covers.{IsCurrent}
use Rattle.journal_core.specs.Admitted.{IsReadBy, IsRight, IsAdmitted}
use Rattle.journal_core.specs.Choice.{IsTranslated, IsPermitted}
use Rattle.walk_laws.proofs.AlikeWalks.{follows_by_key}
use Rattle.walk_laws.proofs.FreedWalks.{permitted_walks}
use Rattle.journal_core.specs.declared.walks.Goal.TheVariants.{ForGuest}
use Rattle.journal_core.specs.Following.{Follows, IsTrueReading}
use Rattle.journal_core.specs.Standing.{AreRows, fill_reads, key_of}
use Rattle.journal_core.specs.Fills.{own_key}
use Rattle.journal_core.proofs.StandingStays.{rows_unique}
use Rattle.walk_laws.proofs.PartitionPart.{part-inside}
use Rattle.journal_core.specs.Rows.{Rows, JournalView}
use Rattle.journal_core.specs.Places.{place_of}
use Rattle.journal_core.specs.PartitionWalk.{part_start, part_after, PartFollows}
use Rattle.journal_core.specs.Rights.{first_denial}
use Rattle.journal_core.specs.Walk.{Task, task_at, task_of, start_of, enter, start_at}
use Rattle.journal_core.specs.Translating.{IsFillOfWalk, IsKeptDirectory, IsKeptPage}
use Rattle.walk_laws.specs.KeptBegins.{IsInTree, BeginsPart}
use Rattle.walk_laws.proofs.WalkBounds.{part-few}
use Rattle.walk_laws.proofs.PartServes.{Serves, serves}
use Rattle.walk_laws.proofs.LedFills.{LedPart, LedWhole, IsLed}
use Rattle.walk_laws.proofs.LedWalks.{walk_led}

pub task_ask : (deny : Rights → AccessKind → Option Denial) (ask : Ask) (p : Place) → (task_at deny ask p).ask ≡ ask
task_ask deny ask (Real a) = refl
task_ask deny ask (GuestReal lpid a) = refl
task_ask deny ask (Space lpid pid a) = refl
task_ask deny ask Segment = refl

record FollowsHere (ptcr lpid gra : ℕ) (rs : List ReadRow) : Type 0 where
  follows : PartFollows lpid gra (part_start ptcr lpid) rs
  in_tree : IsInTree (part_after lpid gra (part_start ptcr lpid) rs)

led_here : (rows : Rows) (k : Task) (ptcr lpid gra : ℕ) (f : FillRow) → k.ask.ptcr ≡ ptcr → f.key.lpid ≡ lpid → f.key.page ≡ gra / 2 ^ f.key.left → (led : LedPart k rows.reads f) → FollowsHere ptcr lpid gra led.rs
led_here rows k ptcr lpid gra f table partition page led =
    let start : PartStage = part_start k.ask.ptcr k.lpid in
    let s : Serves k.lpid led.gra gra start led.rs = serves led.leaving k.lpid led.gra gra start led.rs (led.same gra page) led.follows led.leaves in
    let there : FollowsHere k.ask.ptcr k.lpid gra led.rs = record { follows = s.follows; in_tree = subst IsInTree (sym s.after) led.in_tree } in
    subst (λ l. FollowsHere ptcr l gra led.rs) (sym led.lpid ∙ partition) (subst (λ p. FollowsHere p k.lpid gra led.rs) table there)

led_begins : (rows : Rows) (k : Task) (ptcr lpid gra i : ℕ) (f : FillRow) → slice_get rows.fills i ≡ Some f → k.ask.ptcr ≡ ptcr → f.key.lpid ≡ lpid → f.key.page ≡ gra / 2 ^ f.key.left → LedPart k rows.reads f → BeginsPart rows ptcr lpid gra i
led_begins rows k ptcr lpid gra i f is table partition page led =
    let here : FollowsHere ptcr lpid gra led.rs = led_here rows k ptcr lpid gra f table partition page led in
    record {
      fill = f;
      is = is;
      few = omega (arith, led.count, part-few ptcr lpid gra led.rs here.follows);
      rs = led.rs;
      named = led.named;
      follows = here.follows;
      in_tree = here.in_tree;
    }

-- what is current was made by then
pub read_by : (past : ℕ → ℕ → Option ℕ) (v : Turn) (rs : List ReadRow) → AllByRecursion (IsCurrent v.rows.dones v.thread v.step) rs → AllByRecursion (IsTrueReading past) rs → AllByRecursion (IsReadBy past v.step) rs
read_by past v [] current stood = tt
read_by past v (r ∷ rs) current stood = ((current.0.made, stood.0), read_by past v rs current.1 stood.1)

pub directory_begins_part : (j : JournalView) (t ptcr lpid gra i : ℕ) → IsKeptDirectory j t ptcr PartDir lpid 0 gra i → BeginsPart j.rows ptcr lpid gra i
directory_begins_part j t ptcr lpid gra i h =
    let w : IsFillOfWalk j.rows ptcr h.fill = h.of_walk in
    let k : Task = task_of (first_denial w.ask) w.ask in
    let led : LedPart k j.rows.reads h.fill = subst (IsLed k (start_of (first_denial w.ask) w.ask) (own_key (place_of w.ask)) j.rows.reads h.fill) h.for_it.of_kind (walk_led j.rows ptcr h.fill w) in
    led_begins j.rows k ptcr lpid gra i h.fill h.standing.is (ap (λ (a : Ask). a.ptcr) (task_ask (first_denial w.ask) w.ask (place_of w.ask)) ∙ w.same_ptcr) h.for_it.of_lpid h.for_it.of_page led

pub page_begins_part : (j : JournalView) (t ptcr lpid gra i : ℕ) → IsKeptPage j t ptcr lpid gra i → BeginsPart j.rows ptcr lpid gra i
page_begins_part j t ptcr lpid gra i h =
    let w : IsFillOfWalk j.rows ptcr h.fill = h.of_walk in
    let k : Task = task_of (first_denial w.ask) w.ask in
    let led : LedPart k j.rows.reads h.fill = subst (IsLed k (start_of (first_denial w.ask) w.ask) (own_key (place_of w.ask)) j.rows.reads h.fill) (ap (λ x. x.kind) h.of_key) (walk_led j.rows ptcr h.fill w) in
    let left : h.fill.key.left ≡ 12 = ap (λ x. x.left) h.of_key in
    led_begins j.rows k ptcr lpid gra i h.fill h.standing.is (ap (λ (a : Ask). a.ptcr) (task_ask (first_denial w.ask) w.ask (place_of w.ask)) ∙ w.same_ptcr) (ap (λ x. x.lpid) h.of_key) (ap (λ x. x.page) h.of_key ∙ ap (λ l. gra / 2 ^ l) (sym left)) led

same_fill : (f g : FillRow) → Some f ≡ Some g → f ≡ g
same_fill f g e = cc

key_in : (key other : Key) → Some key ≡ Some other → other ≡ key
key_in key other e = cc

kind_in : (kind : KeyKind) (key : Key) (e : Option Key) → e ≡ Some key → (other : Key) → e ≡ Some other → key.kind ≡ kind → other.kind ≡ kind
kind_in kind key e a other b of = (let same : other ≡ key = key_in key other (sym a ∙ b) in ap (λ x. x.kind) same ∙ of)

-- readings that a finished walk left for a key follow the walk of each ask of this key that their rights lead to a page
pub walk_serves_key : (rows : Rows) (ask : Ask) (f : FillRow) (rs : List ReadRow) (real : ℕ) (p : Place) → place_of ask ≡ p → own_key p ≡ Some f.key → AreRows rows.reads (fill_reads f) rs → IsFillOfWalk rows ask.ptcr f → IsRight ask rs real →
    Follows (task_of (first_denial ask) ask) (start_of (first_denial ask) ask) rs
walk_serves_key rows ask f rs real (Real a) place own named w right = absurd (nothing f.key own)
  where
    nothing : (x : Key) → None ≡ Some x → ⊥
    nothing x e = cc
walk_serves_key rows ask f rs real Segment place own named w right = absurd (nothing f.key own)
  where
    nothing : (x : Key) → None ≡ Some x → ⊥
    nothing x e = cc
walk_serves_key rows ask f rs real (GuestReal lpid gra) place own named w right =
    let of_key : f.key ≡ key_of GuestPage lpid 0 12 gra = key_in (key_of GuestPage lpid 0 12 gra) f.key own in
    let k0 : Task = task_of (first_denial w.ask) w.ask in
    let led : LedPart k0 rows.reads f = subst (IsLed k0 (start_of (first_denial w.ask) w.ask) (own_key (place_of w.ask)) rows.reads f) (ap (λ x. x.kind) of_key) (walk_led rows ask.ptcr f w) in
    let left : f.key.left ≡ 12 = ap (λ x. x.left) of_key in
    let here : FollowsHere ask.ptcr lpid gra led.rs = led_here rows k0 ask.ptcr lpid gra f (ap (λ (a : Ask). a.ptcr) (task_ask (first_denial w.ask) w.ask (place_of w.ask)) ∙ w.same_ptcr) (ap (λ x. x.lpid) of_key) (ap (λ x. x.page) of_key ∙ ap (λ l. gra / 2 ^ l) (sym left)) led in
    let same : led.rs ≡ rs = rows_unique rows.reads (fill_reads f) led.rs rs led.named named in
    let k : Task = task_at (first_denial ask) ask (GuestReal lpid gra) in
    let inside : Follows k (enter k ForGuest gra) led.rs = (part-inside k ForGuest gra led.rs here.follows).0 in
    subst (Follows (task_of (first_denial ask) ask) (start_of (first_denial ask) ask)) same
    (subst (λ p. Follows (task_at (first_denial ask) ask p) (start_at (task_at (first_denial ask) ask p) p) led.rs) (sym place) inside)
walk_serves_key rows ask f rs real (Space lpid pid a) place own named w right =
    let of_key : f.key ≡ key_of Translation lpid pid 12 a = key_in (key_of Translation lpid pid 12 a) f.key own in
    let k0 : Task = task_of (first_denial w.ask) w.ask in
    let start0 : Stage = start_of (first_denial w.ask) w.ask in
    let led : LedWhole k0 start0 (own_key (place_of w.ask)) rows.reads f = subst (IsLed k0 start0 (own_key (place_of w.ask)) rows.reads f) (ap (λ x. x.kind) of_key) (walk_led rows ask.ptcr f w) in
    let same : led.rs ≡ rs = rows_unique rows.reads (fill_reads f) led.rs rs led.named named in
    let away : IsTranslated ask = λ b real_place. space_apart (sym place ∙ real_place) in
    follows_by_key (first_denial w.ask) (first_denial ask) w.ask ask rs real away w.same_ptcr (led.of_key ∙ (sym own ∙ ap own_key (sym place))) (subst (Follows k0 start0) same led.follows) right
  where
    space_apart : {b : ℕ} → Space lpid pid a ≡ Real b → ⊥
    space_apart e = cc

-- an ask that its own standing fill permits is admitted, if this was made by a finished walk and its readings are true
pub hit_admitted : (past : ℕ → ℕ → Option ℕ) (v : Turn) (c : ℕ) (ask : Ask) (i real : ℕ) (hit : IsPermitted v c ask i real) → AllByRecursion (IsTrueReading past) hit.standing.readings → IsFillOfWalk v.rows ask.ptcr hit.fill → IsAdmitted past v ask hit.standing.readings real
hit_admitted past v c ask i real hit stood w =
    let follows : Follows (task_of (first_denial ask) ask) (start_of (first_denial ask) ask) hit.standing.readings = walk_serves_key v.rows ask hit.fill hit.standing.readings real (place_of ask) refl hit.own hit.standing.named w hit.permits in
    record {
      read = read_by past v hit.standing.readings hit.standing.current stood;
      current = hit.standing.current;
      walk = permitted_walks ask hit.standing.readings real follows hit.permits;
      right = hit.permits;
    }
