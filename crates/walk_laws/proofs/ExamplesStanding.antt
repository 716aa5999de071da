-- Which fills stand, on small journals, by computation; each line says which definitions it exercises.
use Rattle.std.proofs.Common.{◌≡◌, ℕ, ◌+◌, ◌<◌, ◌≤◌, List, [], ◌∷◌, Some, None, zero, suc, arith, ap, sym, ◌∙◌, refl}
use Rattle.std.specs.Prelude.{take, drop, slice_get, count_by, replicate}
use Rattle.std.specs.List.{AllByRecursion}
use Rattle.journal_core.specs.Rows.{Rows, no_rows}
use Rattle.journal_core.specs.Turns.{turn_of}
use Rattle.journal_core.specs.LastFour.{fill_at, newest_of_key}
use Rattle.journal_core.specs.Standing.{AreRows, IsNamed, AreNamed, IsStanding, IsStandingKey, IsFor, IsDeepest, key_of, is_same_set}
use Rattle.journal_core.specs.declared.rows.Key.{Key}
use Rattle.journal_core.specs.declared.rows.KeyKind.TheVariants.{Translation, GuestPage, PartDir}
use Rattle.journal_core.specs.declared.rows.FillRow.{FillRow}
use Rattle.journal_core.specs.declared.rows.ReadRow.{ReadRow}
use Rattle.journal_core.specs.declared.rows.Role.TheVariants.{Pate}

-- a fill of a thread that took no reading
abbrev fill : ℕ → Key → FillRow
fill thread key = record { thread = thread; key = key; level = 2; moment = 3; count = 0; reads = replicate 36 0 }

-- the key of a page of process 1 of partition 1
abbrev page : ℕ → Key
page p = record { kind = Translation; lpid = 1; pid = 1; left = 12; page = p }

abbrev with_fills : List FillRow → Rows
with_fills fills = record no_rows { fills = fills }

nothing : {X : Type 0} (x : X) → None ≡ Some x → ⊥
nothing x e = cc

some_same : {X : Type 0} (P : X → Type 0) (x y : X) → Some x ≡ Some y → P x → P y
some_same P x y e p = (let same : x ≡ y = cc in rw (sym same) p)

-- what holds of all rows before c holds of the one at a place below it
all_at : {X : Type 0} (P : X → Type 0) (xs : List X) (c j : ℕ) (x : X) → AllByRecursion P (take c xs) → j < c → slice_get xs j ≡ Some x → P x
all_at P [] c j x all below e = absurd (nothing x e)
all_at P (y ∷ ys) zero j x all below e = absurd (omega arith)
all_at P (y ∷ ys) (suc c) zero x all below e = some_same P y x e all.0
all_at P (y ∷ ys) (suc c) (suc j) x all below e = all_at P ys c j x all.1 (omega (arith, below)) e

-- what holds of all rows from place i + 1 to c - 1 holds of each that is later than i
pub later_at : {X : Type 0} (P : X → Type 0) (xs : List X) (c i j : ℕ) (x : X) → AllByRecursion P (drop (suc i) (take c xs)) → i < j → j < c → slice_get xs j ≡ Some x → P x
later_at P [] c i j x all later below e = absurd (nothing x e)
later_at P (y ∷ ys) zero i j x all later below e = absurd (omega arith)
later_at P (y ∷ ys) (suc c) i zero x all later below e = absurd (omega arith)
later_at P (y ∷ ys) (suc c) zero (suc j) x all later below e = all_at P ys c j x all (omega (arith, below)) e
later_at P (y ∷ ys) (suc c) (suc i) (suc j) x all later below e = later_at P ys c i j x all (omega (arith, later)) (omega (arith, below)) e

-- a fill is not one of thread t with this key
abbrev pub IsOther : ℕ → Key → FillRow → Type 0
IsOther t key g = g.thread ≡ t → g.key ≡ key → ⊥

-- a fill that took no reading stands where it is the thread's and in bounds, no later one has its key, and few are of its set
stands : (fills : List FillRow) (floor t n c i : ℕ) (f : FillRow) → slice_get fills i ≡ Some f → f.thread ≡ t → f.count ≡ 0 → floor ≤ i → i < c →
    AllByRecursion (IsOther t f.key) (drop (suc i) (take c fills)) → count_by (is_same_set f) (drop (i + 1) (take c fills)) < 4 → IsStanding (turn_of (with_fills fills) floor t n) c i f
stands fills floor t n c i f is thread none above below others few =
    record { is = is; of_thread = thread; from_floor = above; below = below; last = λ j later before g at. later_at (IsOther t f.key) fills c i j g others later before at; few = few; readings = []; named = rw none tt; current = tt }

-- Fill 0 is of page 16, and three later ones are of pages of its set, which is 0: it stands (IsStanding).
abbrev three_later : List FillRow
three_later = fill 0 (page 16) ∷ fill 0 (page 32) ∷ fill 0 (page 48) ∷ fill 0 (page 64) ∷ []

other_page : (p q : ℕ) (t : ℕ) (f : FillRow) → f.key ≡ page p → (p ≡ q → ⊥) → IsOther t (page q) f
other_page p q t f is differ thread same = differ (ap (λ k. k.page) (sym is ∙ same))

after_three : IsStanding (turn_of (with_fills three_later) 0 0 9) 4 0 (fill 0 (page 16))
after_three = stands three_later 0 0 9 4 0 (fill 0 (page 16)) refl refl refl (omega arith) (omega arith)
    (other_page 32 16 0 (fill 0 (page 32)) refl (λ e. omega (arith, e)), (other_page 48 16 0 (fill 0 (page 48)) refl (λ e. omega (arith, e)), (other_page 64 16 0 (fill 0 (page 64)) refl (λ e. omega (arith, e)), tt)))
    (omega arith)

-- so the standing fill of its key is fill 0 (IsStandingKey)
page_is_kept : IsStandingKey (turn_of (with_fills three_later) 0 0 9) 4 (page 16) (Some 0)
page_is_kept = record { fill = fill 0 (page 16); standing = after_three; of_key = refl }

-- a fourth later one of its set pushes it out (IsStanding.few)
abbrev four_later : List FillRow
four_later = fill 0 (page 16) ∷ fill 0 (page 32) ∷ fill 0 (page 48) ∷ fill 0 (page 64) ∷ fill 0 (page 80) ∷ []

after_four : (f : FillRow) → IsStanding (turn_of (with_fills four_later) 0 0 9) 5 0 f → ⊥
after_four f h = some_same (λ g. count_by (is_same_set g) (drop 1 (take 5 four_later)) < 4 → ⊥) (fill 0 (page 16)) f h.is (λ few. omega (arith, few)) h.few

-- seen from before the fifth fill it still stands: later fills count only below c (IsStanding.below)
before_fifth : IsStanding (turn_of (with_fills four_later) 0 0 9) 4 0 (fill 0 (page 16))
before_fifth = stands four_later 0 0 9 4 0 (fill 0 (page 16)) refl refl refl (omega arith) (omega arith)
    (other_page 32 16 0 (fill 0 (page 32)) refl (λ e. omega (arith, e)), (other_page 48 16 0 (fill 0 (page 48)) refl (λ e. omega (arith, e)), (other_page 64 16 0 (fill 0 (page 64)) refl (λ e. omega (arith, e)), tt)))
    (omega arith)

-- a fill of another thread, another kind or another set pushes nothing out (is_same_set)
abbrev others_later : List FillRow
others_later =
    fill 0 (page 16) ∷ fill 0 (page 32) ∷ fill 0 (page 48) ∷ fill 0 (page 64) ∷ fill 1 (page 80) ∷ fill 0 (page 81) ∷ fill 0 (page 24)
    ∷ fill 0 (record { kind = GuestPage; lpid = 1; pid = 0; left = 12; page = 96 }) ∷ []

after_others : count_by (is_same_set (fill 0 (page 16))) (drop 1 (take 8 others_later)) ≡ 3
after_others = refl

-- Fills 0 and 1 have one key, and four later ones of its set push fill 1 out: fill 0 does not stand again (IsStanding.last).
abbrev twice : List FillRow
twice = fill 0 (page 16) ∷ fill 0 (page 16) ∷ fill 0 (page 32) ∷ fill 0 (page 48) ∷ fill 0 (page 64) ∷ fill 0 (page 80) ∷ []

newer_is_out : (f : FillRow) → IsStanding (turn_of (with_fills twice) 0 0 9) 6 1 f → ⊥
newer_is_out f h = some_same (λ g. count_by (is_same_set g) (drop 2 (take 6 twice)) < 4 → ⊥) (fill 0 (page 16)) f h.is (λ few. omega (arith, few)) h.few

older_stays_out : (f : FillRow) → IsStanding (turn_of (with_fills twice) 0 0 9) 6 0 f → ⊥
older_stays_out f h = h.last 1 (omega arith) (omega arith) (fill 0 (page 16)) refl refl (some_same (λ g. page 16 ≡ g.key) (fill 0 (page 16)) f h.is refl)

-- a floor of 1 forgets fill 0 (IsStanding.from_floor)
forgotten : (f : FillRow) → IsStanding (turn_of (with_fills three_later) 1 0 9) 4 0 f → ⊥
forgotten f h = (let above : 1 ≤ 0 = h.from_floor in omega (arith, above))

-- fill 0 is thread 0's, and answers no other thread (IsStanding.of_thread)
of_thread_0 : (f : FillRow) → IsStanding (turn_of (with_fills three_later) 0 1 9) 4 0 f → ⊥
of_thread_0 f h = some_same (λ g. g.thread ≡ 1 → ⊥) (fill 0 (page 16)) f h.is (λ e. omega (arith, e)) h.of_thread

-- The newest of a key among the last four of its set: fill 0 while three later ones are there, and none after a fourth
-- (newest_of_key, last_fills, last_four).
newest_after_three : newest_of_key (turn_of (with_fills three_later) 0 0 9) 4 (page 16) ≡ Some (fill_at 0 (fill 0 (page 16)))
newest_after_three = refl

newest_after_four : newest_of_key (turn_of (with_fills four_later) 0 0 9) 5 (page 16) ≡ None
newest_after_four = refl

-- other threads, kinds and sets have a last four of their own (is_in_set)
newest_after_others : newest_of_key (turn_of (with_fills others_later) 0 0 9) 8 (page 16) ≡ Some (fill_at 0 (fill 0 (page 16)))
newest_after_others = refl

-- of two fills of one key it is the later one, and when that one is no longer among the four, there is none (newest, last_in)
newest_of_two : newest_of_key (turn_of (with_fills twice) 0 0 9) 5 (page 16) ≡ Some (fill_at 1 (fill 0 (page 16)))
newest_of_two = refl

newest_of_none : newest_of_key (turn_of (with_fills twice) 0 0 9) 6 (page 16) ≡ None
newest_of_none = refl

-- it is sought from the floor on, and the fills there keep their numbers (fills_before, fills_at)
newest_below_floor : newest_of_key (turn_of (with_fills three_later) 1 0 9) 4 (page 16) ≡ None
newest_below_floor = refl

newest_from_floor : newest_of_key (turn_of (with_fills three_later) 1 0 9) 4 (page 32) ≡ Some (fill_at 1 (fill 0 (page 32)))
newest_from_floor = refl

-- Two directories of partition 1 for one address, of 31 and 21 bits: the one that leaves fewer bits is the deepest
-- (IsDeepest).
abbrev two_directories : List FillRow
two_directories = fill 0 (key_of PartDir 1 0 31 0x1_0014) ∷ fill 0 (key_of PartDir 1 0 21 0x1_0014) ∷ []

other_left : IsOther 0 (key_of PartDir 1 0 31 0x1_0014) (fill 0 (key_of PartDir 1 0 21 0x1_0014))
other_left thread same = (let e : 21 ≡ 31 = ap (λ k. k.left) same in omega (arith, e))

first_stands : IsStanding (turn_of (with_fills two_directories) 0 0 9) 2 0 (fill 0 (key_of PartDir 1 0 31 0x1_0014))
first_stands = stands two_directories 0 0 9 2 0 (fill 0 (key_of PartDir 1 0 31 0x1_0014)) refl refl refl (omega arith) (omega arith) (other_left, tt) (omega arith)

second_stands : IsStanding (turn_of (with_fills two_directories) 0 0 9) 2 1 (fill 0 (key_of PartDir 1 0 21 0x1_0014))
second_stands = stands two_directories 0 0 9 2 1 (fill 0 (key_of PartDir 1 0 21 0x1_0014)) refl refl refl (omega arith) (omega arith) tt (omega arith)

second_for : IsFor PartDir 1 0 0x1_0014 (fill 0 (key_of PartDir 1 0 21 0x1_0014))
second_for = record { of_kind = refl; of_lpid = refl; of_pid = refl; of_page = refl }

deepest : IsDeepest (turn_of (with_fills two_directories) 0 0 9) 2 PartDir 1 0 0x1_0014 (Some 1)
deepest = record {
  fill = fill 0 (key_of PartDir 1 0 21 0x1_0014);
  standing = second_stands;
  for_it = second_for;
  least = λ j g s for. all_at (λ h. 21 ≤ h.key.left) two_directories 2 j g (omega arith, (omega arith, tt)) s.below s.is;
}

-- the one of 31 bits stands too, and is not the deepest (IsDeepestFill.least)
not_deepest : IsDeepest (turn_of (with_fills two_directories) 0 0 9) 2 PartDir 1 0 0x1_0014 (Some 0) → ⊥
not_deepest h =
    some_same (λ g. g.key.left ≤ 21 → ⊥) (fill 0 (key_of PartDir 1 0 31 0x1_0014)) h.fill h.standing.is (λ e. omega (arith, e)) (h.least 1 (fill 0 (key_of PartDir 1 0 21 0x1_0014)) second_stands second_for)

-- for an address beyond the page of 21 bits only the other one is there (IsFor)
beyond : IsFor PartDir 1 0 0x21_0014 (fill 0 (key_of PartDir 1 0 21 0x1_0014)) → ⊥
beyond h = (let e : 0 ≡ 1 = h.of_page in omega (arith, e))

-- no fill of page 17 stands (IsStandingKey of no answer)
no_such_page : IsStandingKey (turn_of (with_fills three_later) 0 0 9) 4 (page 17) None
no_such_page j g s same =
    all_at (λ h. h.key ≡ page 17 → ⊥) three_later 4 j g
    (other 16 (λ e. omega (arith, e)), (other 32 (λ e. omega (arith, e)), (other 48 (λ e. omega (arith, e)), (other 64 (λ e. omega (arith, e)), tt)))) s.below s.is same
  where
    other : (p : ℕ) → (p ≡ 17 → ⊥) → page p ≡ page 17 → ⊥
    other p differ e = differ (ap (λ k. k.page) e)

-- a reading made in step n
abbrev reading : ℕ → ReadRow
reading n = record { role = Pate; lpid = 1; pid = 0; sought = 0; level = 0; left = 31; at = 0; value = 0; moment = n }

-- a fill of step 3 that took reading 0
abbrev taking_one : FillRow
taking_one = record (fill 0 (page 16)) { count = 1 }

-- its number names a reading of the same step (IsNamed)
reading_in_time : IsNamed (reading 3 ∷ []) taking_one
reading_in_time = record { readings = reading 3 ∷ []; named = (refl, tt); made = (omega arith, tt) }

-- where the reading is later than the fill, the fill names it, and is none of a journal's (IsNamed.made)
later_reading : IsNamed (reading 4 ∷ []) taking_one → ⊥
later_reading h = none h.readings h.named h.made
  where
    none : (rs : List ReadRow) → AreRows (reading 4 ∷ []) (0 ∷ []) rs → AllByRecursion (λ (r : ReadRow). r.moment ≤ 3) rs → ⊥
    none [] named made = named
    none (r ∷ []) named made = some_same (λ x. x.moment ≤ 3 → ⊥) (reading 4) r named.0 (λ made. omega (arith, made)) made.0
    none (r ∷ q ∷ rs) named made = named.1

-- nor is it where its number names no reading (IsNamed.named, AreNamed)
no_reading : AreNamed [] (taking_one ∷ []) → ⊥
no_reading h = none h.0.readings h.0.named
  where
    none : (rs : List ReadRow) → AreRows [] (0 ∷ []) rs → ⊥
    none [] named = named
    none (r ∷ rs) named = nothing r named.0
