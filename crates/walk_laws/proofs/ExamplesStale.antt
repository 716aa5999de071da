-- The machine's choice where a kept directory is out of date: a guest's entry was changed after it was read, and nothing was
-- invalidated. Each line says which definitions it exercises.
use Rattle.std.proofs.Common.{◌≡◌, ℕ, ◌^◌, ◌/◌, ◌<◌, ◌≤◌, List, [], ◌∷◌, map, refl, Option, Some, None, Bool, true, false, zero, suc, arith, inr, subst, sym, ◌==◌, ◌&&◌, ◌∙◌}
use Rattle.std.specs.Prelude.{slice_get}
use Rattle.walk_laws.proofs.ExampleWalks.{rows_of, leads_by, task, start}
use Rattle.walk_laws.proofs.ExampleTables.{tables, guest_ask}
use Rattle.journal_core.specs.PartitionWalk.{part_start, after_entry, after_tree, at_node}
use Rattle.journal_core.specs.Rights.{first_denial}
use Rattle.journal_core.specs.Places.{place_of}
use Rattle.journal_core.specs.Walk.{next, inside}
use Rattle.journal_core.specs.Rows.{Rows, no_rows}
use Rattle.journal_core.specs.Turns.{turn_of, query_of}
use Rattle.journal_core.specs.Standing.{IsStanding, IsFor, IsDeepest, key_of}
use Rattle.journal_core.specs.Resumed.{KeptAnswers, ResumesFrom, KnowsStanding}
use Rattle.journal_core.specs.Fills.{fills_of, fill_of}
use Rattle.journal_core.specs.Choice.{IsTranslated, NoneResumes, Choice}
use Rattle.journal_core.specs.declared.rows.FillRow.{FillRow}
use Rattle.journal_core.specs.declared.rows.ReadRow.{ReadRow}
use Rattle.journal_core.specs.declared.rows.Key.{Key}
use Rattle.journal_core.specs.declared.rows.KeyKind.{KeyKind}
use Rattle.journal_core.specs.declared.rows.KeyKind.TheVariants.{Translation, GuestPage, ProcessDir, PartDir}
use Rattle.journal_core.specs.declared.rows.Role.TheVariants.{Pate}
use Rattle.journal_core.specs.declared.rows.Use.TheVariants.{Walked}
use Rattle.journal_core.specs.declared.asks.Ask.{Ask}
use Rattle.journal_core.specs.declared.asks.AccessKind.TheVariants.{Load}
use Rattle.journal_core.specs.declared.asks.Found.TheVariants.{Real}
use Rattle.journal_core.specs.declared.walks.NestResult.TheVariants.{Page, Fault, Stop}
use Rattle.journal_core.specs.declared.causes.Cause.TheVariants.{HypDataStorage}
use Rattle.journal_core.specs.declared.rows.StopName.TheVariants.{NoStorage}
use Rattle.journal_core.specs.declared.walks.TrailItem.{TrailItem}
use Rattle.journal_core.specs.declared.walks.TrailItem.TheVariants.{New, Old}

abbrev ask : Ask
ask = guest_ask 0x1_0014 Load

-- the partition's entry, as it stood in step 5: its root was at 0x20_0000, where the tables have nothing now
abbrev old : ReadRow
old = record { role = Pate; lpid = 1; pid = 0; sought = 0x1_0014; level = 0; left = 31; at = 0x2_0010; value = 0x8000_0000_0020_000a; moment = 5 }

abbrev new : List ReadRow
new = rows_of tables ask

abbrev reads : List ReadRow
reads = old ∷ new

abbrev kept : FillRow
kept = fill_of 0 5 (key_of PartDir 1 0 31 0x1_0014) 0 (0 ∷ [])

-- the journal after the load in step 7
abbrev rows : Rows
rows = record no_rows { reads = reads; fills = kept ∷ fills_of 0 7 ask reads 1 (map New new) }

-- the address lies where the kept directory reaches
abbrev is_it : KeyKind → ℕ → ℕ → ℕ → Bool
is_it Translation lpid pid page = false
is_it GuestPage lpid pid page = false
is_it ProcessDir lpid pid page = false
is_it PartDir lpid pid page = (lpid == 1) && ((pid == 0) && (page == 0))

abbrev first_if : Bool → Option ℕ
first_if true = Some 0
first_if false = None

abbrev known : KeptAnswers
known = record { reads = reads; fills = rows.fills; directory = λ kind lpid pid sought. first_if (is_it kind lpid pid (sought / 2 ^ 31)); page = λ lpid gra. None }

none_above : (j : ℕ) → suc j < 1 → ⊥
none_above j below = omega arith

same_fill : (g : FillRow) → Some kept ≡ Some g → kept ≡ g
same_fill g e = cc

only : (j : ℕ) (g : FillRow) → IsStanding (turn_of rows 0 0 7) 1 j g → kept ≡ g
only zero g s = same_fill g s.is
only (suc j) g s = absurd (none_above j s.below)

kept_stands : IsStanding (turn_of rows 0 0 7) 1 0 kept
kept_stands =
    record {
      is = refl;
      of_thread = refl;
      from_floor = omega arith;
      below = omega arith;
      last = λ j later below g at thread same. nothing_between j later below;
      few = omega arith;
      readings = old ∷ [];
      named = (refl, tt);
      current = (record { made = omega arith; kept = tt }, tt);
    }
  where
    nothing_between : (j : ℕ) → 0 < j → j < 1 → ⊥
    nothing_between j later below = omega arith

left_of : (x y : Bool) → (x && y) ≡ true → x ≡ true
left_of true y e = refl
left_of false y e = e

right_of : (x y : Bool) → (x && y) ≡ true → y ≡ true
right_of true y e = e
right_of false y e = cc

equal : (a b : ℕ) → (a == b) ≡ true → b ≡ a
equal a b e = grind arith

one : (a b c : ℕ) → (a == 1 && (b == 0 && c == 0)) ≡ true → 1 ≡ a
one a b c e = equal a 1 (left_of (a == 1) (b == 0 && c == 0) e)

second : (a b c : ℕ) → (a == 1 && (b == 0 && c == 0)) ≡ true → 0 ≡ b
second a b c e = equal b 0 (left_of (b == 0) (c == 0) (right_of (a == 1) (b == 0 && c == 0) e))

third : (a b c : ℕ) → (a == 1 && (b == 0 && c == 0)) ≡ true → 0 ≡ c
third a b c e = equal c 0 (right_of (b == 0) (c == 0) (right_of (a == 1) (b == 0 && c == 0) e))

it_is_for : (kind : KeyKind) (lpid pid sought : ℕ) → is_it kind lpid pid (sought / 2 ^ 31) ≡ true → IsFor kind lpid pid sought kept
it_is_for PartDir lpid pid sought e = record { of_kind = refl; of_lpid = one lpid pid (sought / 2 ^ 31) e; of_pid = second lpid pid (sought / 2 ^ 31) e; of_page = third lpid pid (sought / 2 ^ 31) e }
it_is_for Translation lpid pid sought e = cc
it_is_for GuestPage lpid pid sought e = cc
it_is_for ProcessDir lpid pid sought e = cc

all_three : (a b c : ℕ) → 1 ≡ a → 0 ≡ b → 0 ≡ c → (a == 1 && (b == 0 && c == 0)) ≡ true
all_three a b c is_one is_zero is_first =
    subst (λ x. (x == 1 && (b == 0 && c == 0)) ≡ true) is_one (subst (λ x. (x == 0 && c == 0) ≡ true) is_zero (subst (λ x. (x == 0) ≡ true) is_first refl))

for_means_it : (kind : KeyKind) (lpid pid sought : ℕ) → IsFor kind lpid pid sought kept → is_it kind lpid pid (sought / 2 ^ 31) ≡ true
for_means_it PartDir lpid pid sought f = all_three lpid pid (sought / 2 ^ 31) f.of_lpid f.of_pid f.of_page
for_means_it Translation lpid pid sought f = absurd (different f.of_kind)
  where
    different : PartDir ≡ Translation → ⊥
    different e = cc
for_means_it GuestPage lpid pid sought f = absurd (different f.of_kind)
  where
    different : PartDir ≡ GuestPage → ⊥
    different e = cc
for_means_it ProcessDir lpid pid sought f = absurd (different f.of_kind)
  where
    different : PartDir ≡ ProcessDir → ⊥
    different e = cc

deepest : (kind : KeyKind) (lpid pid sought : ℕ) (b : Bool) → is_it kind lpid pid (sought / 2 ^ 31) ≡ b → IsDeepest (turn_of rows 0 0 7) 1 kind lpid pid sought (first_if b)
deepest kind lpid pid sought true e =
    record { fill = kept; standing = kept_stands; for_it = it_is_for kind lpid pid sought e; least = λ j g s for. subst (λ x. 31 ≤ x.key.left) (only j g s) (omega arith) }
deepest kind lpid pid sought false e = λ j g s for. different (sym e ∙ for_means_it kind lpid pid sought (subst (λ x. IsFor kind lpid pid sought x) (sym (only j g s)) for))
  where
    different : false ≡ true → ⊥
    different x = cc

no_guest_page : (g : FillRow) (lpid gra : ℕ) → kept ≡ g → g.key ≡ key_of GuestPage lpid 0 12 gra → ⊥
no_guest_page g lpid gra same of_key = different (subst (λ x. x.key.kind ≡ GuestPage) (sym same) (subst (λ x. x.kind ≡ GuestPage) (sym of_key) refl))
  where
    different : PartDir ≡ GuestPage → ⊥
    different e = cc

knows : KnowsStanding (turn_of rows 0 0 7) 1 known
knows =
    record {
      reads = refl;
      fills = refl;
      directories = λ kind lpid pid sought of_kind. deepest kind lpid pid sought (is_it kind lpid pid (sought / 2 ^ 31)) refl;
      pages = λ lpid gra j g s same. no_guest_page g lpid gra (only j g s) same;
    }

-- an entry that is not valid ends the walk
at_end : (items : List TrailItem) (real : ℕ) → ResumesFrom tables 7 known (task ask) (next (task ask) (next (task ask) (start ask) old.value) 0) [] items (Page real) → ⊥
unfolding place_of part_start inside after_entry after_tree at_node
at_end [] real h = different h.1
  where
    different : Page real ≡ Fault (HypDataStorage 0x1_0014 0x4000_0000 0x1_0000) → ⊥
    different e = cc
at_end (New r ∷ items) real h = h.1
at_end (Old i ∷ items) real h = h.4

-- the table that the old entry names has no valid entry there
in_old_table : (items : List TrailItem) (real : ℕ) → ResumesFrom tables 7 known (task ask) (next (task ask) (start ask) old.value) [] items (Page real) → ⊥
unfolding place_of part_start inside after_entry after_tree at_node
in_old_table [] real h = different h.1.1
  where
    different : Page real ≡ Stop NoStorage 0x20_0000 → ⊥
    different e = cc
in_old_table (New r ∷ items) real h = at_end items real (subst (λ v. ResumesFrom tables 7 known (task ask) (next (task ask) (next (task ask) (start ask) old.value) v) [] items (Page real)) (is_zero r.value (subst (λ a. tables a ≡ Some r.value) h.1.same_at h.2.stands)) h.3)
  where
    is_zero : (v : ℕ) → Some 0 ≡ Some v → v ≡ 0
    is_zero v e = cc
in_old_table (Old i ∷ items) real h = different h.0 h.2
  where
    different : (rest : List ℕ) → [] ≡ i ∷ rest → ⊥
    different rest e = cc

-- the kept directory's readings
abbrev owed : List ℕ
owed = 0 ∷ []

-- the walk that uses the kept directory goes on in the old table
none_resumes : NoneResumes tables 7 known ask
unfolding place_of part_start inside after_entry after_tree at_node
none_resumes [] real h = different h.0
  where
    different : owed ≡ [] → ⊥
    different e = cc
none_resumes (New r ∷ items) real h = different h.0
  where
    different : owed ≡ [] → ⊥
    different e = cc
none_resumes (Old i ∷ items) real h = in_old_table items real
    (subst (λ x. ResumesFrom tables 7 known (task ask) (next (task ask) (start ask) x.value) [] items (Page real)) (is_old i h.0 h.1 h.2 h.3)
    (subst (λ x. ResumesFrom tables 7 known (task ask) (next (task ask) (start ask) h.1.value) x items (Page real)) (is_last i h.0 h.2) h.5))
  where
    is_last : (i : ℕ) (rest : List ℕ) → owed ≡ i ∷ rest → rest ≡ []
    is_last i rest e = cc

    is_first : (i : ℕ) (rest : List ℕ) → owed ≡ i ∷ rest → i ≡ 0
    is_first i rest e = cc

    same : (r : ReadRow) → Some old ≡ Some r → r ≡ old
    same r e = cc

    is_old : (i : ℕ) (rest : List ℕ) (r : ReadRow) → owed ≡ i ∷ rest → slice_get reads i ≡ Some r → r ≡ old
    is_old i rest r e found = same r (subst (λ x. slice_get reads x ≡ Some r) (is_first i rest e) found)

same_key : (a b : Key) → Some a ≡ Some b → b ≡ a
same_key a b e = cc

is_guest_real : IsTranslated ask
unfolding place_of
is_guest_real a e = cc

-- the fresh walk gives the page, from the table that the entry names now; it adds three reads and three fills (Choice,
-- ChoseWalk, WalkedBy, NoneResumes, KnowsStanding, IsDeepest)
stale_load : Choice (query_of (turn_of rows 0 0 7) tables (record { fills = 1; reads = 1 }) ask) (Real 0x12_0014 (Walked 3 0x12_0014)) (record { fills = 4; reads = 4 })
unfolding place_of part_start inside after_entry after_tree at_node first_denial
stale_load = (
  is_guest_real,
  refl,
  record {
    known = known;
    knows = knows;
    none_permits = λ i real hit. no_guest_page hit.fill 1 0x1_0014 (only i hit.fill hit.standing) (same_key _ _ hit.own);
    items = map New new;
    walked = inr (none_resumes, new, refl, leads_by tables ask (Page 0x12_0014) refl);
    adds = record { reads_to = refl; fills_to = refl; reads = refl; fills = refl; last = refl };
  },
)
