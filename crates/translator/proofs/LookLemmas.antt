-- What a look-up says of an ask.
use Rattle.std.proofs.Common.{◌≡◌, ℕ, ◌+◌, ◌<◌, ◌≤◌, List, [], ◌∷◌, length, Option, Some, None, arith, ap, sym, ◌∙◌, subst, refl}
use Rattle.std.specs.Prelude.{slice_get}
use Rattle.std.specs.List.{AllByRecursion}
use Rattle.journal_core.specs.declared.rows.Key.{Key}
use Rattle.journal_core.specs.declared.rows.ReadRow.{ReadRow}
use Rattle.journal_core.specs.declared.rows.FillRow.{FillRow}
use Rattle.journal_core.specs.declared.asks.Ask.{Ask}
use Rattle.journal_core.specs.declared.asks.Place.{Place}
use Rattle.journal_core.specs.declared.asks.Place.TheVariants.{Real, GuestReal, Space, Segment}
use Rattle.journal_core.specs.declared.walks.NestResult.TheVariants.{Page, Fault, Stop}
use Rattle.journal_core.specs.declared.walks.Stage.{Stage}
use Rattle.journal_core.specs.declared.walks.Stage.TheVariants.{SecondWord, PartEntry, PartTable, ProcessEntry, ProcessTable, Over}
use Rattle.journal_core.specs.Rows.{JournalView}
use Rattle.journal_core.specs.Steps.{InOrder, IsDatedSoFar}
use Rattle.journal_core.specs.Turns.{next_turn}
use Rattle.journal_core.specs.Places.{place_of}
use Rattle.journal_core.specs.Standing.{fill_reads, IsNamed, AreNamed, AreShort, IsStanding, IsStandingFill, IsStandingKey}
use Rattle.journal_core.specs.Fills.{own_key}
use Rattle.journal_core.specs.Choice.{IsPermitted, NonePermits}
use Rattle.journal_core.specs.Translating.{IsQuiet}
use Rattle.journal_core.proofs.StandingStays.{all_get, all_mapped}
use Rattle.walk_laws.proofs.OneStands.{one_of_key}
use Rattle.walk_rows.specs.FillPage.{fill_rows, stage_by, page_in, page_of_fill}
use Rattle.translator.specs.declared.lists.Lists.{Lists}
use Rattle.translator.specs.PlaceLists.{newest, live}
use Rattle.translator.specs.Fits.{list_of, IsPageKind, Fits}
use Rattle.translator.proofs.ExpectedLemmas.{rows_of_named}
use Rattle.translator.proofs.ExpectedLemmas.{get_dropped}
use Rattle.translator.proofs.StandingLemmas.{newest_stands}

-- rows in order are below their end
below_end : {R : Type 0} (number : R → ℕ) (low high : ℕ) (rows : List R) → InOrder number low high rows → AllByRecursion (λ r. number r < high) rows
unfolding InOrder
below_end number low high [] order = tt
below_end number low high (r ∷ rows) order = (order.1, below_end number (number r) high rows order.2)

-- the readings of a fill were made by now
pub made_by_now : (j : JournalView) (t i : ℕ) (f : FillRow) → AreNamed j.rows.reads j.rows.fills → IsDatedSoFar j.rows → slice_get j.rows.fills i ≡ Some f → AllByRecursion (λ (r : ReadRow). r.moment ≤ length j.rows.steps) (fill_rows j.rows.reads f)
made_by_now j t i f named dated at =
    let n : IsNamed j.rows.reads f = all_get (IsNamed j.rows.reads) j.rows.fills i f named at in
    let below : f.moment < length j.rows.steps + 1 = all_get (λ (g : FillRow). g.moment < length j.rows.steps + 1) j.rows.fills i f (below_end (λ (g : FillRow). g.moment) 0 (length j.rows.steps + 1) j.rows.fills dated.fills) at in
    subst (AllByRecursion (λ (r : ReadRow). r.moment ≤ length j.rows.steps)) (sym (rows_of_named j.rows.reads (fill_reads f) n.readings n.named))
    (all_mapped (λ (r : ReadRow). r.moment ≤ f.moment) (λ (r : ReadRow). r.moment ≤ length j.rows.steps) (λ r h. omega (arith, h, below)) n.readings n.made)

-- the look-up gives exactly the fill of the key that stands
pub look_stands : (s : Lists) (j : JournalView) (values : List ℕ) (t : ℕ) (key : Key) → Fits s j values → t < s.threads → AreNamed j.rows.reads j.rows.fills → IsDatedSoFar j.rows → IsQuiet j.rows → IsPageKind key.kind →
    IsStandingKey (next_turn j t) (length j.rows.fills) key (live (newest key (list_of key.kind s t)))
look_stands s j values t key h below named dated quiet page =
    subst (λ ps. IsStandingKey (next_turn j t) (length j.rows.fills) key (live (newest key ps))) (sym (h.same t below key.kind page))
    (newest_stands j.rows j.floor t (length j.rows.steps) key.kind key refl named quiet
    (λ k f new kept. made_by_now j t (j.floor + k) f named dated (get_dropped j.rows.fills j.floor k ∙ new.is)))

some_same : {X : Type 0} (x y : X) → Some x ≡ Some y → x ≡ y
some_same x y e = cc

nothing : {X : Type 0} (x : X) → None ≡ Some x → ⊥
nothing x e = cc

-- the own key of an ask is of a kind that is kept
own_kind : (p : Place) (key : Key) → own_key p ≡ Some key → IsPageKind key.kind
own_kind (Real a) key e = absurd (nothing key e)
own_kind (GuestReal lpid a) key e = subst (λ (k : Key). IsPageKind k.kind) (some_same _ key e) tt
own_kind (Space lpid pid a) key e = subst (λ (k : Key). IsPageKind k.kind) (some_same _ key e) tt
own_kind Segment key e = absurd (nothing key e)

-- what gives a page is the end of a walk in it
page_is : (s : Stage) (real : ℕ) → Some real ≡ page_in s → s ≡ Over (Page real)
page_is (SecondWord at) real e = absurd (nothing real (sym e))
page_is (PartEntry goal gra at) real e = absurd (nothing real (sym e))
page_is (PartTable goal gra n) real e = absurd (nothing real (sym e))
page_is (ProcessEntry at) real e = absurd (nothing real (sym e))
page_is (ProcessTable n at) real e = absurd (nothing real (sym e))
page_is (Over (Page at)) real e = ap (λ x. Over (Page x)) (sym (some_same real at e))
page_is (Over (Fault cause)) real e = absurd (nothing real (sym e))
page_is (Over (Stop name value)) real e = absurd (nothing real (sym e))

-- the look-up for an ask
pub looked : (s : Lists) (j : JournalView) (values : List ℕ) (t : ℕ) (ask : Ask) (key : Key) (o : Option ℕ) → Fits s j values → t < s.threads → AreNamed j.rows.reads j.rows.fills → IsDatedSoFar j.rows → IsQuiet j.rows →
    own_key (place_of ask) ≡ Some key → o ≡ live (newest key (list_of key.kind s t)) → IsStandingKey (next_turn j t) (length j.rows.fills) key o
looked s j values t ask key o h below named dated quiet own e =
    subst (IsStandingKey (next_turn j t) (length j.rows.fills) key) (sym e) (look_stands s j values t key h below named dated quiet (own_kind (place_of ask) key own))

-- an ask with no key: none permits
pub none_of_key : (j : JournalView) (t : ℕ) (ask : Ask) → own_key (place_of ask) ≡ None → NonePermits (next_turn j t) (length j.rows.fills) ask
none_of_key j t ask none i real p = nothing p.fill.key (sym none ∙ p.own)

-- no standing fill of the key: none permits
pub none_stands : (j : JournalView) (t : ℕ) (ask : Ask) (key : Key) → own_key (place_of ask) ≡ Some key → IsStandingKey (next_turn j t) (length j.rows.fills) key None → NonePermits (next_turn j t) (length j.rows.fills) ask
none_stands j t ask key own h i real p = h i p.fill p.standing (some_same p.fill.key key (sym p.own ∙ own))

-- the standing fill, which is f, and its readings
stands_as : (j : JournalView) (t : ℕ) (key : Key) (i : ℕ) (f : FillRow) → IsStandingFill (next_turn j t) (length j.rows.fills) key i → Some f ≡ slice_get j.rows.fills i →
    (st : IsStanding (next_turn j t) (length j.rows.fills) i f) × (f.key ≡ key) × (fill_rows j.rows.reads f ≡ st.readings)
stands_as j t key i f h e =
    let is : h.fill ≡ f = some_same h.fill f (sym h.standing.is ∙ sym e) in
    subst (λ x. (st : IsStanding (next_turn j t) (length j.rows.fills) i x) × (x.key ≡ key) × (fill_rows j.rows.reads x ≡ st.readings)) is
    (h.standing, h.of_key, rows_of_named j.rows.reads (fill_reads h.fill) h.standing.readings h.standing.named)

-- the fill that stands does not permit: none permits
pub none_serves : (j : JournalView) (t : ℕ) (ask : Ask) (key : Key) (i : ℕ) (f : FillRow) → own_key (place_of ask) ≡ Some key → IsStandingKey (next_turn j t) (length j.rows.fills) key (Some i) → Some f ≡ slice_get j.rows.fills i →
    None ≡ page_of_fill j.rows.reads ask f → NonePermits (next_turn j t) (length j.rows.fills) ask
none_serves j t ask key i f own h e none k real p =
    let s : (st : IsStanding (next_turn j t) (length j.rows.fills) i f) × (f.key ≡ key) × (fill_rows j.rows.reads f ≡ st.readings) = stands_as j t key i f h e in
    let same : k ≡ i = one_of_key j.rows j.floor t (length j.rows.steps) (length j.rows.fills) k i p.fill f p.standing s.0 (some_same p.fill.key key (sym p.own ∙ own) ∙ sym s.1) in
    let fill : p.fill ≡ f = some_same p.fill f (sym p.standing.is ∙ (ap (slice_get j.rows.fills) same ∙ sym e)) in
    let readings : fill_rows j.rows.reads f ≡ p.standing.readings = ap (fill_rows j.rows.reads) (sym fill) ∙ rows_of_named j.rows.reads (fill_reads p.fill) p.standing.readings p.standing.named in
    nothing real (none ∙ (ap (λ rs. page_in (stage_by ask rs)) readings ∙ ap page_in p.permits))

-- the fill that stands permits
pub serves : (j : JournalView) (t : ℕ) (ask : Ask) (key : Key) (i : ℕ) (f : FillRow) (real : ℕ) → own_key (place_of ask) ≡ Some key → IsStandingKey (next_turn j t) (length j.rows.fills) key (Some i) → Some f ≡ slice_get j.rows.fills i →
    Some real ≡ page_of_fill j.rows.reads ask f → IsPermitted (next_turn j t) (length j.rows.fills) ask i real
serves j t ask key i f real own stands e page =
    let st : (x : IsStanding (next_turn j t) (length j.rows.fills) i f) × (f.key ≡ key) × (fill_rows j.rows.reads f ≡ x.readings) = stands_as j t key i f stands e in
    record {
      fill = f;
      standing = st.0;
      own = own ∙ ap Some (sym st.1);
      permits = page_is (stage_by ask st.0.readings) real (page ∙ ap (λ rs. page_in (stage_by ask rs)) st.2);
    }

-- a standing fill is there
pub is_there : (j : JournalView) (t : ℕ) (key : Key) (i : ℕ) → IsStandingKey (next_turn j t) (length j.rows.fills) key (Some i) → None ≡ slice_get j.rows.fills i → ⊥
is_there j t key i h e = nothing h.fill (e ∙ h.standing.is)

-- and it is short
pub is_short : (fills : List FillRow) (i : ℕ) (f : FillRow) → AreShort fills → Some f ≡ slice_get fills i → f.count ≤ 36
is_short fills i f short e = all_get (λ (g : FillRow). g.count ≤ 36) fills i f short (sym e)
