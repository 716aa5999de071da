-- What the journal of the tests keeps stands, and was left by finished walks.
use Rattle.std.proofs.Common.{◌≡◌, ℕ, zero, suc, ◌+◌, ◌-◌, ◌<◌, ◌≤◌, List, [], ◌∷◌, map, take, drop, replicate, Bool, true, false, not, Option, Some, None, refl, sym, ap, subst, arith, slice_get}
use Rattle.std.specs.Prelude.{Contains, if◌then◌else◌, ◌==◌, ◌&&◌, nat_lt}
use Rattle.std.proofs.lemmas.Bool.{le-leb}
use Rattle.std.proofs.lemmas.List.{length-replicate, drop-replicate, take-replicate}
use Rattle.std.specs.List.{AllByRecursion, count_by}
use Rattle.walk_laws.proofs.ExampleTables.{with_words}
use Rattle.walk_laws.proofs.ExampleWalks.{trace_follows, task, start}
use Rattle.walk_laws.proofs.ExamplesStanding.{IsOther, later_at}
use Rattle.walk_laws.proofs.FreedWalks.{permitted_walks}
use Rattle.walk_laws.proofs.KeyLemmas.{and_left, and_right, eq_of, same_key, key_passes}
use Rattle.journal_core.specs.declared.rows.ReadRow.{ReadRow}
use Rattle.journal_core.specs.declared.rows.FillRow.{FillRow}
use Rattle.journal_core.specs.declared.rows.Key.{Key}
use Rattle.journal_core.specs.declared.rows.KeyKind.{KeyKind}
use Rattle.journal_core.specs.declared.rows.KeyKind.TheVariants.{Translation, GuestPage, ProcessDir, PartDir}
use Rattle.journal_core.specs.declared.asks.Ask.{Ask}
use Rattle.journal_core.specs.declared.asks.AccessKind.TheVariants.{Load}
use Rattle.journal_core.specs.declared.walks.TrailItem.TheVariants.{New}
use Rattle.journal_core.specs.Rows.{JournalView}
use Rattle.journal_core.specs.Bytes.{piece, be_value}
use Rattle.journal_core.specs.Past.{word_in}
use Rattle.journal_core.specs.Turns.{next_turn}
use Rattle.journal_core.specs.Covers.{IsCurrent}
use Rattle.journal_core.specs.PartitionWalk.{part_start, after_entry, after_tree, at_node}
use Rattle.journal_core.specs.Rights.{first_denial}
use Rattle.journal_core.specs.Places.{place_of}
use Rattle.journal_core.specs.Walk.{inside}
use Rattle.journal_core.specs.Following.{Follows}
use Rattle.journal_core.specs.Admitted.{IsRight}
use Rattle.journal_core.specs.Fills.{fills_of, is_same_key}
use Rattle.journal_core.specs.Standing.{key_of, AreRows, fill_reads, is_same_set, IsStanding}
use Rattle.journal_core.specs.Translating.{IsFillOfWalk, IsKeptDirectory, IsKeptPage}
use Rattle.part_walk.specs.GivenJournal.{GivesKept, deep_reads, large_reads, given, is_directory, is_page, if_there, given_directory, given_page}

-- the loads that were walked, at guest real addresses
abbrev guest_load : ℕ → ℕ → Ask
guest_load lpid ea = record { ea = ea; access = Load; msr = 0x8000_0000_0000_1003; lpid = lpid; pid = 0; ptcr = 0x2_0000; amr = 0; iamr = 0 }

abbrev deep_load : Ask
deep_load = guest_load 1 0x5000

abbrev large_load : Ask
large_load = guest_load 2 0x40_5000

abbrev tables : ℕ → Option ℕ
tables =
    with_words ((0x2_0010, 0xc000_0000_0040_00ad) ∷ (0x40_0000, 0x8000_0000_0041_0009) ∷ (0x41_0000, 0x8000_0000_0041_1009) ∷ (0x41_1000, 0x8000_0000_0041_2009) ∷ (0x41_2028, 0xc000_0000_0050_5187)
    ∷ (0x2_0020, 0x8000_0000_0080_000a) ∷ (0x80_0010, 0xc000_0000_0060_0187) ∷ []) (λ at. None)

deep_follows : Follows (task deep_load) (start deep_load) deep_reads
unfolding place_of part_start inside after_entry after_tree at_node first_denial
deep_follows = trace_follows tables (task deep_load) 0 5 (start deep_load)

large_follows : Follows (task large_load) (start large_load) large_reads
unfolding place_of part_start inside after_entry after_tree at_node first_denial
large_follows = trace_follows tables (task large_load) 0 2 (start large_load)

deep_right : IsRight deep_load deep_reads 0x50_5000
unfolding place_of part_start inside after_entry after_tree at_node first_denial
deep_right = refl

large_right : IsRight large_load large_reads 0x60_5000
unfolding place_of part_start inside after_entry after_tree at_node first_denial
large_right = refl

-- a fill of the first walk, and of the second
deep_fill : (f : FillRow) → Contains (fills_of f.thread f.moment deep_load given.rows.reads 0 (map New deep_reads)) f → IsFillOfWalk given.rows 0x2_0000 f
unfolding place_of part_start inside after_entry after_tree at_node first_denial
deep_fill f is_one = record { ask = deep_load; same_ptcr = refl; items = map New deep_reads; from = 0; real = 0x50_5000; old_are = tt; new_stand = refl; walk = permitted_walks deep_load deep_reads 0x50_5000 deep_follows deep_right; right = deep_right; is_one = is_one }

large_fill : (f : FillRow) → Contains (fills_of f.thread f.moment large_load given.rows.reads 5 (map New large_reads)) f → IsFillOfWalk given.rows 0x2_0000 f
unfolding place_of part_start inside after_entry after_tree at_node first_denial
large_fill f is_one = record { ask = large_load; same_ptcr = refl; items = map New large_reads; from = 5; real = 0x60_5000; old_are = tt; new_stand = refl; walk = permitted_walks large_load large_reads 0x60_5000 large_follows large_right; right = large_right; is_one = is_one }

-- what holds of each element by its place
abbrev AllPlaces : (ℕ → FillRow → Type 0) → List FillRow → Type 0
AllPlaces P [] = Unit {0}
AllPlaces P (x ∷ xs) = P 0 x × AllPlaces (λ i. P (suc i)) xs

nothing : {X : Type 0} (x : X) → None ≡ Some x → ⊥
nothing x e = cc

some_is : {X : Type 0} (x y : X) → Some x ≡ Some y → x ≡ y
some_is x y e = cc

at_place : (P : ℕ → FillRow → Type 0) (i : ℕ) (xs : List FillRow) (f : FillRow) → AllPlaces P xs → slice_get xs i ≡ Some f → P i f
at_place P i [] f all e = absurd (nothing f e)
at_place P zero (x ∷ xs) f all e = subst (P 0) (some_is x f e) all.0
at_place P (suc i) (x ∷ xs) f all e = at_place (λ k. P (suc k)) i xs f all.1 e

-- each fill of the journal is of one of these walks
all_of_walks : AllPlaces (λ i f. IsFillOfWalk given.rows 0x2_0000 f) given.rows.fills
unfolding place_of part_start inside after_entry after_tree at_node first_denial
all_of_walks = (deep_fill _ (0, omega arith, refl), (deep_fill _ (1, omega arith, refl), (deep_fill _ (2, omega arith, refl), (deep_fill _ (3, omega arith, refl), (deep_fill _ (4, omega arith, refl), (large_fill _ (0, omega arith, refl), (large_fill _ (1, omega arith, refl), tt)))))))

-- ---- they stand

-- no fill of these has this key
abbrev free : Key → List FillRow → Bool
free key [] = true
free key (g ∷ gs) = not (is_same_key g.key key) && free key gs

is_other : (t : ℕ) (key : Key) (g : FillRow) (rest : Bool) → (not (is_same_key g.key key) && rest) ≡ true → IsOther t key g
is_other t key g rest e thread same = differ (is_same_key g.key key) (key_passes g.key key same) (and_left (not (is_same_key g.key key)) rest e)
  where
    differ : (b : Bool) → b ≡ true → not b ≡ true → ⊥
    differ true e f = cc
    differ false e f = cc

all_other : (t : ℕ) (key : Key) (gs : List FillRow) → free key gs ≡ true → AllByRecursion (IsOther t key) gs
all_other t key [] e = tt
all_other t key (g ∷ gs) e = (is_other t key g (free key gs) e, all_other t key gs (and_right (not (is_same_key g.key key)) (free key gs) e))

all_current : (t : ℕ) (rs : List ReadRow) → AllByRecursion (λ (r : ReadRow). r.moment ≡ 0) rs → AllByRecursion (IsCurrent [] t 0) rs
all_current t [] h = tt
all_current t (r ∷ rs) h = (record { made = omega (arith, h.0); kept = tt }, all_current t rs h.1)

-- a fill stands for its own thread
abbrev Stands : ℕ → FillRow → Type 0
Stands i f = IsStanding (next_turn given f.thread) 7 i f

stands : (i : ℕ) (f : FillRow) (rs : List ReadRow) → slice_get given.rows.fills i ≡ Some f → i < 7 → free f.key (drop (suc i) (take 7 given.rows.fills)) ≡ true → count_by (is_same_set f) (drop (i + 1) (take 7 given.rows.fills)) < 4 → AreRows given.rows.reads (fill_reads f) rs
    → AllByRecursion (λ (r : ReadRow). r.moment ≡ 0) rs → Stands i f
stands i f rs is below alone few named made = record {
  is = is;
  of_thread = refl;
  from_floor = omega arith;
  below = below;
  last = λ j later before g at thread same. later_at (IsOther f.thread f.key) given.rows.fills 7 i j g (all_other f.thread f.key (drop (suc i) (take 7 given.rows.fills)) alone) later before at thread same;
  few = few;
  readings = rs;
  named = named;
  current = all_current f.thread rs made;
}

all_stand : AllPlaces Stands given.rows.fills
all_stand = (stands 0 _ (take 1 deep_reads) refl (omega arith) refl (omega arith) (refl, tt) (refl, tt), (stands 1 _ (take 2 deep_reads) refl (omega arith) refl (omega arith) (refl, (refl, tt)) (refl, (refl, tt)), (stands 2 _ (take 3 deep_reads) refl (omega arith) refl (omega arith) (refl, (refl, (refl, tt))) (refl, (refl, (refl, tt))), (stands 3 _ (take 4 deep_reads) refl (omega arith) refl (omega arith) (refl, (refl, (refl, (refl, tt)))) (refl, (refl, (refl, (refl, tt)))), (stands 4 _ deep_reads refl (omega arith) refl (omega arith) (refl, (refl, (refl, (refl, (refl, tt))))) (refl, (refl, (refl, (refl, (refl, tt))))), (stands 5 _ (take 1 large_reads) refl (omega arith) refl (omega arith) (refl, tt) (refl, tt), (stands 6 _ large_reads refl (omega arith) refl (omega arith) (refl, (refl, tt)) (refl, (refl, tt)), tt)))))))

-- ---- so what gives one of them gives what is kept

record IsGiven (n i : ℕ) (test : FillRow → Bool) : Type 0 where
  fill : FillRow
  is : slice_get given.rows.fills i ≡ Some fill
  passes : test fill ≡ true

given_is : (n i : ℕ) (test : FillRow → Bool) (o : Option FillRow) → slice_get given.rows.fills n ≡ o → if_there o test n ≡ Some i → IsGiven n i test
given_is n i test None there e = absurd (nothing i e)
given_is n i test (Some f) there e = passed (test f) refl e
  where
    passed : (b : Bool) → test f ≡ b → (if b then Some n else None) ≡ Some i → IsGiven n i test
    passed true is e = record { fill = f; is = subst (λ k. slice_get given.rows.fills k ≡ Some f) (some_is n i e) there; passes = is }
    passed false is e = absurd (nothing i e)

record IsKeptFill (t i : ℕ) (f : FillRow) : Type 0 where
  standing : IsStanding (next_turn given t) 7 i f
  walk : IsFillOfWalk given.rows 0x2_0000 f

kept_fill : (t i : ℕ) (f : FillRow) → slice_get given.rows.fills i ≡ Some f → f.thread ≡ t → IsKeptFill t i f
kept_fill t i f is thread = record {
  standing = subst (λ u. IsStanding (next_turn given u) 7 i f) thread (at_place Stands i given.rows.fills f all_stand is);
  walk = at_place (λ i f. IsFillOfWalk given.rows 0x2_0000 f) i given.rows.fills f all_of_walks is;
}

directory_kept : (n t ptcr lpid pid sought i : ℕ) → ptcr ≡ 0x2_0000 → given_directory n given t PartDir lpid pid sought ≡ Some i → IsKeptDirectory given t ptcr PartDir lpid pid sought i
directory_kept n t ptcr lpid pid sought i value e =
    let g : IsGiven n i (λ f. is_directory f t lpid pid sought) = given_is n i (λ f. is_directory f t lpid pid sought) (slice_get given.rows.fills n) refl e in
    let f : FillRow = g.fill in
    let wanted : Key = key_of PartDir lpid pid f.key.left sought in
    let both : (f.thread == t && is_same_key f.key wanted) ≡ true = and_right (nat_lt f.key.left 64) (f.thread == t && is_same_key f.key wanted) g.passes in
    let thread : f.thread ≡ t = eq_of f.thread t (and_left (f.thread == t) (is_same_key f.key wanted) both) in
    let key : f.key ≡ wanted = same_key f.key wanted (and_right (f.thread == t) (is_same_key f.key wanted) both) in
    let kept : IsKeptFill t i f = kept_fill t i f g.is thread in
    record {
      fill = f;
      standing = kept.standing;
      for_it = record { of_kind = ap (λ (k : Key). k.kind) key; of_lpid = ap (λ (k : Key). k.lpid) key; of_pid = ap (λ (k : Key). k.pid) key; of_page = ap (λ (k : Key). k.page) key };
      of_walk = subst (λ p. IsFillOfWalk given.rows p f) (sym value) kept.walk;
    }

page_kept : (n t ptcr lpid gra i : ℕ) → ptcr ≡ 0x2_0000 → given_page n given t lpid gra ≡ Some i → IsKeptPage given t ptcr lpid gra i
page_kept n t ptcr lpid gra i value e =
    let g : IsGiven n i (λ f. is_page f t lpid gra) = given_is n i (λ f. is_page f t lpid gra) (slice_get given.rows.fills n) refl e in
    let f : FillRow = g.fill in
    let wanted : Key = key_of GuestPage lpid 0 12 gra in
    let thread : f.thread ≡ t = eq_of f.thread t (and_left (f.thread == t) (is_same_key f.key wanted) g.passes) in
    let key : f.key ≡ wanted = same_key f.key wanted (and_right (f.thread == t) (is_same_key f.key wanted) g.passes) in
    let kept : IsKeptFill t i f = kept_fill t i f g.is thread in
    record { fill = f; standing = kept.standing; of_key = key; of_walk = subst (λ p. IsFillOfWalk given.rows p f) (sym value) kept.walk }

kept_of_kind : (n t ptcr : ℕ) (kind : KeyKind) (lpid pid sought i : ℕ) → ptcr ≡ 0x2_0000 → given_directory n given t kind lpid pid sought ≡ Some i → IsKeptDirectory given t ptcr kind lpid pid sought i
kept_of_kind n t ptcr PartDir lpid pid sought i value e = directory_kept n t ptcr lpid pid sought i value e
kept_of_kind n t ptcr ProcessDir lpid pid sought i value e = absurd (nothing i e)
kept_of_kind n t ptcr GuestPage lpid pid sought i value e = absurd (nothing i e)
kept_of_kind n t ptcr Translation lpid pid sought i value e = absurd (nothing i e)

pub gives_kept : (n : ℕ) (j : JournalView) (t : ℕ) → j ≡ given → GivesKept n j t 0x2_0000
gives_kept n j t is = subst (λ k. GivesKept n k t 0x2_0000) (sym is) (record { directories = λ kind lpid pid sought i e. kept_of_kind n t 0x2_0000 kind lpid pid sought i refl e; pages = λ lpid gra i e. page_kept n t 0x2_0000 lpid gra i refl e })

-- ---- storage of zeros

pub zero_word : (size at : ℕ) → at + 8 ≤ size → word_in (replicate size 0) at ≡ Some 0
unfolding word_in piece be_value
zero_word size at within = rw (length-replicate {A = ℕ} size 0) (rw (le-leb (at + 8) size within) (rw (drop-replicate {X = ℕ} at size 0) (rw (take-replicate {X = ℕ} 8 (size - at) 0 (omega (arith, within))) refl)))
