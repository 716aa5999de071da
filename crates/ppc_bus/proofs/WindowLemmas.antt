use Rattle.std.proofs.Common.{◌≡◌, ℕ, zero, suc, ◌+◌, ◌-◌, ◌<◌, ◌≤◌, ◌%◌, ◌==◌, ◌&&◌, ◌||◌, Bool, true, false, List, [], ◌∷◌, ◌++◌, slice_set, if◌then◌else◌, Option, Some, None, IsSome, IfSome, refl, sym, ap, ◌∙◌, arith}
use Rattle.std.proofs.lemmas.Bool.Decides.{nat_tests}
use Rattle.ppc_bus.specs.declared.slots.Slot.{Slot}
use Rattle.ppc_bus.specs.Windows.{Window, window_of, windows_of}
use Rattle.ppc_bus.specs.Holding.{holds, window_from, window_at, slot_holds, slot_of, is_size, is_access, LiesIn}
use Rattle.ppc_bus.specs.Meeting.{meets, met_from, AreApart}
use Rattle.ppc_bus.specs.Plugging.{is_window, refusal_by, refusal_of, AreWindows, ArePlugged}
use Rattle.ppc_bus.specs.Slots.{slot_in, emptied}

-- windows of slots
pub windows-push : {D : Type 0} (slots : List (Option (Slot D))) (s : Option (Slot D)) → windows_of (slots ++ s ∷ []) ≡ windows_of slots ++ window_of s ∷ []
windows-push [] s = refl
windows-push (slot ∷ more) s = ap (λ rest. window_of slot ∷ rest) (windows-push more s)

pub windows-emptied : {D : Type 0} (slots : List (Option (Slot D))) (n : ℕ) → windows_of (emptied slots n) ≡ emptied (windows_of slots) n
windows-emptied [] n = refl
windows-emptied (slot ∷ more) zero = refl
windows-emptied (slot ∷ more) (suc n) = ap (λ rest. window_of slot ∷ rest) (windows-emptied more n)

pub windows-set : {D : Type 0} (slots : List (Option (Slot D))) (k : ℕ) (s : Option (Slot D)) → window_of s ≡ window_of (slot_in slots k) → windows_of (slice_set slots k s) ≡ windows_of slots
unfolding slot_in
windows-set [] k s same = refl
windows-set (slot ∷ more) zero s same = ap (λ w. w ∷ windows_of more) same
windows-set (slot ∷ more) (suc k) s same = ap (λ rest. window_of slot ∷ rest) (windows-set more k s same)

pub slot_in-windows : {D : Type 0} (slots : List (Option (Slot D))) (k : ℕ) → slot_in (windows_of slots) k ≡ window_of (slot_in slots k)
unfolding slot_in
slot_in-windows [] k = refl
slot_in-windows (slot ∷ more) zero = refl
slot_in-windows (slot ∷ more) (suc k) = slot_in-windows more k

some_window : {D : Type 0} (slot : Option (Slot D)) (w : Window) → window_of slot ≡ Some w → IsSome slot
some_window None w is = cc
some_window (Some s) w is = refl

-- windows that hold one address meet
both_hold : (a b : Window) (at : ℕ) → holds a at ≡ true → holds b at ≡ true → meets a b ≡ true
both_hold a b at x y = grind (arith, nat_tests)

meets_back : (a b : Window) → meets a b ≡ meets b a
meets_back a b = grind (arith, nat_tests)

-- a test of the first window, and the search after it
first_met : (n : ℕ) (rest : Option ℕ) (b : Bool) → b ≡ true → (if b then Some n else rest) ≡ None → ⊥
first_met n rest true is none = cc
first_met n rest false is none = cc

first_not : (n : ℕ) (rest : Option ℕ) (b : Bool) → (if b then Some n else rest) ≡ None → b ≡ false
first_not n rest true none = cc
first_not n rest false none = refl

rest_not : (n : ℕ) (rest : Option ℕ) (b : Bool) → (if b then Some n else rest) ≡ None → rest ≡ None
rest_not n rest true none = cc
rest_not n rest false none = none

none_by : {A : Type 0} (x : A) (rest : Option A) (b : Bool) → b ≡ false → rest ≡ None → (if b then Some x else rest) ≡ None
none_by x rest true is none = cc
none_by x rest false is none = none

-- no window that was not met holds an address of the window
not_met : (n k at : ℕ) (windows : List (Option Window)) (w : Window) → met_from n windows w ≡ None → holds w at ≡ true → slot_holds (slot_in windows k) at ≡ true → ⊥
unfolding met_from slot_in
not_met n k at [] w none in_w in_k = cc
not_met n zero at (None ∷ more) w none in_w in_k = cc
not_met n (suc k) at (None ∷ more) w none in_w in_k = not_met (n + 1) k at more w none in_w in_k
not_met n zero at (Some o ∷ more) w none in_w in_k = first_met n (met_from (n + 1) more w) (meets o w) (both_hold o w at in_k in_w) none
not_met n (suc k) at (Some o ∷ more) w none in_w in_k = not_met (n + 1) k at more w (rest_not n (met_from (n + 1) more w) (meets o w) none) in_w in_k

found_if : (n place : ℕ) (rest : Option (ℕ × ℕ)) (b : Bool) → b ≡ true → slot_of (if b then Some (n, place) else rest) ≡ Some n
found_if n place rest true is = refl
found_if n place rest false is = cc

found_else : (n place : ℕ) (rest : Option (ℕ × ℕ)) (b : Bool) → (b ≡ true → ⊥) → slot_of (if b then Some (n, place) else rest) ≡ slot_of rest
found_else n place rest true never = absurd (never refl)
found_else n place rest false never = refl

one_more : (n k : ℕ) → n + 1 + k ≡ n + suc k
one_more n k = omega arith

none_more : (n : ℕ) → n ≡ n + 0
none_more n = omega arith

plain : (n : ℕ) → 0 + n ≡ n
plain n = omega arith

-- the slot whose window holds an address is the one that is found
found_alone : (n k at : ℕ) (windows : List (Option Window)) → AreApart windows → slot_holds (slot_in windows k) at ≡ true → slot_of (window_from n windows at) ≡ Some (n + k)
unfolding AreApart window_from slot_in
found_alone n k at [] apart is = cc
found_alone n zero at (None ∷ more) apart is = cc
found_alone n (suc k) at (None ∷ more) apart is = found_alone (n + 1) k at more apart is ∙ ap Some (one_more n k)
found_alone n zero at (Some w ∷ more) apart is = found_if n (at - w.place) (window_from (n + 1) more at) (holds w at) is ∙ ap Some (none_more n)
found_alone n (suc k) at (Some w ∷ more) apart is =
    found_else n (at - w.place) (window_from (n + 1) more at) (holds w at) (λ in_w. not_met 0 k at more w apart.0 in_w is)
    ∙ found_alone (n + 1) k at more apart.1 is
    ∙ ap Some (one_more n k)

pub alone : (windows : List (Option Window)) (at k : ℕ) → ArePlugged windows → slot_holds (slot_in windows k) at ≡ true → slot_of (window_at windows at) ≡ Some k
alone windows at k plugged is = found_alone 0 k at windows plugged.apart is ∙ ap Some (plain k)

-- windows stay apart where one is added that meets none
met_push : (n : ℕ) (windows : List (Option Window)) (w new : Window) → met_from n windows w ≡ None → meets new w ≡ false → met_from n (windows ++ Some new ∷ []) w ≡ None
unfolding met_from
met_push n [] w new none apart = none_by n None (meets new w) apart refl
met_push n (None ∷ more) w new none apart = met_push (n + 1) more w new none apart
met_push n (Some o ∷ more) w new none apart = none_by n (met_from (n + 1) (more ++ Some new ∷ []) w) (meets o w) (first_not n (met_from (n + 1) more w) (meets o w) none) (met_push (n + 1) more w new (rest_not n (met_from (n + 1) more w) (meets o w) none) apart)

apart_push : (n : ℕ) (windows : List (Option Window)) (new : Window) → AreApart windows → met_from n windows new ≡ None → AreApart (windows ++ Some new ∷ [])
unfolding AreApart met_from
apart_push n [] new apart none = (refl, tt)
apart_push n (None ∷ more) new apart none = apart_push (n + 1) more new apart none
apart_push n (Some o ∷ more) new apart none =
    let away : meets new o ≡ false = meets_back new o ∙ first_not n (met_from (n + 1) more new) (meets o new) none in
    (met_push 0 more o new apart.0 away, apart_push (n + 1) more new apart.1 (rest_not n (met_from (n + 1) more new) (meets o new) none))

-- and where one is taken away
met_emptied : (n k : ℕ) (windows : List (Option Window)) (w : Window) → met_from n windows w ≡ None → met_from n (emptied windows k) w ≡ None
unfolding met_from
met_emptied n k [] w none = none
met_emptied n zero (None ∷ more) w none = none
met_emptied n (suc k) (None ∷ more) w none = met_emptied (n + 1) k more w none
met_emptied n zero (Some o ∷ more) w none = rest_not n (met_from (n + 1) more w) (meets o w) none
met_emptied n (suc k) (Some o ∷ more) w none = none_by n (met_from (n + 1) (emptied more k) w) (meets o w) (first_not n (met_from (n + 1) more w) (meets o w) none) (met_emptied (n + 1) k more w (rest_not n (met_from (n + 1) more w) (meets o w) none))

apart_emptied : (k : ℕ) (windows : List (Option Window)) → AreApart windows → AreApart (emptied windows k)
unfolding AreApart
apart_emptied k [] apart = apart
apart_emptied zero (None ∷ more) apart = apart
apart_emptied (suc k) (None ∷ more) apart = apart_emptied k more apart
apart_emptied zero (Some o ∷ more) apart = apart.1
apart_emptied (suc k) (Some o ∷ more) apart = (met_emptied 0 k more o apart.0, apart_emptied k more apart.1)

-- every window stays one that a device may have
each_push : (windows : List (Option Window)) (new : Window) → AreWindows windows → is_window new ≡ true → AreWindows (windows ++ Some new ∷ [])
unfolding AreWindows
each_push [] new each is = (is, tt)
each_push (None ∷ more) new each is = each_push more new each is
each_push (Some o ∷ more) new each is = (each.0, each_push more new each.1 is)

each_emptied : (k : ℕ) (windows : List (Option Window)) → AreWindows windows → AreWindows (emptied windows k)
unfolding AreWindows
each_emptied k [] each = each
each_emptied zero (None ∷ more) each = each
each_emptied (suc k) (None ∷ more) each = each_emptied k more each
each_emptied zero (Some o ∷ more) each = each.1
each_emptied (suc k) (Some o ∷ more) each = (each.0, each_emptied k more each.1)

window_or : Window → Option Window → Window
window_or w None = w
window_or w (Some other) = other

each_at : (windows : List (Option Window)) (k : ℕ) (w : Window) → AreWindows windows → slot_in windows k ≡ Some w → is_window w ≡ true
unfolding AreWindows slot_in window_or
each_at [] k w each is = cc
each_at (None ∷ more) zero w each is = cc
each_at (None ∷ more) (suc k) w each is = each_at more k w each is
each_at (Some o ∷ more) zero w each is = rw (ap (window_or w) (sym is)) each.0
each_at (Some o ∷ more) (suc k) w each is = each_at more k w each.1 is

may_be : (room may : Bool) (met : Option ℕ) → refusal_by room may met ≡ None → may ≡ true
may_be false may met none = cc
may_be true false met none = cc
may_be true true met none = refl

meets_none : (room may : Bool) (met : Option ℕ) → refusal_by room may met ≡ None → met ≡ None
meets_none false may met none = cc
meets_none true false met none = cc
meets_none true true None none = refl
meets_none true true (Some slot) none = cc

-- the windows of a bus
pub none_plugged : ArePlugged []
unfolding AreWindows AreApart
none_plugged = record { each = tt; apart = tt }

pub plugged_push : {D : Type 0} (slots : List (Option (Slot D))) (s : Slot D) (w : Window) → window_of (Some s) ≡ Some w → ArePlugged (windows_of slots) → refusal_of (windows_of slots) w ≡ None → ArePlugged (windows_of (slots ++ Some s ∷ []))
plugged_push slots s w is plugged none =
    rw (windows-push slots (Some s), is) (record { each = each_push (windows_of slots) w plugged.each (may_be _ _ _ none); apart = apart_push 0 (windows_of slots) w plugged.apart (meets_none _ _ _ none) })

pub plugged_emptied : {D : Type 0} (slots : List (Option (Slot D))) (k : ℕ) → ArePlugged (windows_of slots) → ArePlugged (windows_of (emptied slots k))
plugged_emptied slots k plugged =
    rw (windows-emptied slots k) (record { each = each_emptied k (windows_of slots) plugged.each; apart = apart_emptied k (windows_of slots) plugged.apart })

-- no window holds an address below all places
below_all : (w : Window) (at : ℕ) → is_window w ≡ true → at < 268435456 → holds w at ≡ false
below_all w at is less = grind (arith, nat_tests)

none_below : (n : ℕ) (windows : List (Option Window)) (at : ℕ) → AreWindows windows → at < 268435456 → window_from n windows at ≡ None
unfolding AreWindows window_from
none_below n [] at each less = refl
none_below n (None ∷ more) at each less = none_below (n + 1) more at each less
none_below n (Some w ∷ more) at each less = none_by (n, at - w.place) (window_from (n + 1) more at) (holds w at) (below_all w at each.0 less) (none_below (n + 1) more at each.1 less)

pub nothing_below : (windows : List (Option Window)) (at : ℕ) → ArePlugged windows → at < 268435456 → window_at windows at ≡ None
nothing_below windows at plugged less = none_below 0 windows at plugged.each less

-- where a window was found
record Found (windows : List (Option Window)) (first at slot offset : ℕ) : Type 0 where
  number : ℕ
  is : slot ≡ first + number
  window : Window
  stands : slot_in windows number ≡ Some window
  inside : holds window at ≡ true
  place : offset ≡ at - window.place

found_more : (w : Option Window) (windows : List (Option Window)) (first at slot offset : ℕ) → Found windows (first + 1) at slot offset → Found (w ∷ windows) first at slot offset
unfolding slot_in
found_more w windows first at slot offset found =
    record { number = suc found.number; is = found.is ∙ one_more first found.number; window = found.window; stands = found.stands; inside = found.inside; place = found.place }

slot_or : ℕ → Option (ℕ × ℕ) → ℕ
slot_or n None = n
slot_or n (Some place) = place.0

offset_or : ℕ → Option (ℕ × ℕ) → ℕ
offset_or n None = n
offset_or n (Some place) = place.1

found_by : (w : Window) (windows : List (Option Window)) (first at slot offset : ℕ) (rest : Option (ℕ × ℕ)) (b : Bool) → holds w at ≡ b →
    (if b then Some (first, at - w.place) else rest) ≡ Some (slot, offset) → (rest ≡ Some (slot, offset) → Found windows (first + 1) at slot offset) → Found (Some w ∷ windows) first at slot offset
unfolding slot_in slot_or offset_or
found_by w windows first at slot offset rest true inside is more =
    record { number = 0; is = sym (ap (slot_or first) is) ∙ none_more first; window = w; stands = refl; inside = inside; place = sym (ap (offset_or first) is) }
found_by w windows first at slot offset rest false inside is more = found_more (Some w) windows first at slot offset (more is)

found_from : (windows : List (Option Window)) (first at slot offset : ℕ) → window_from first windows at ≡ Some (slot, offset) → Found windows first at slot offset
unfolding window_from
found_from [] first at slot offset is = cc
found_from (None ∷ more) first at slot offset is = found_more None more first at slot offset (found_from more (first + 1) at slot offset is)
found_from (Some w ∷ more) first at slot offset is = found_by w more first at slot offset (window_from (first + 1) more at) (holds w at) refl is (found_from more (first + 1) at slot offset)

found : (windows : List (Option Window)) (at slot offset : ℕ) → window_at windows at ≡ Some (slot, offset) → Found windows 0 at slot offset
found windows at slot offset is = found_from windows 0 at slot offset is

stands_at : (windows : List (Option Window)) (at slot offset : ℕ) (f : Found windows 0 at slot offset) → slot_in windows slot ≡ Some f.window
stands_at windows at slot offset f = ap (slot_in windows) (f.is ∙ plain f.number) ∙ f.stands

-- a slot whose window holds an address has a device
pub found_there : {D : Type 0} (slots : List (Option (Slot D))) (at slot offset : ℕ) → window_at (windows_of slots) at ≡ Some (slot, offset) → IsSome (slot_in slots slot)
found_there slots at slot offset is =
    let f = found (windows_of slots) at slot offset is in
    some_window (slot_in slots slot) f.window (sym (slot_in-windows slots slot) ∙ stands_at (windows_of slots) at slot offset f)

-- an aligned access that begins in a window ends in it
ends_in_8 : (at place w : ℕ) → place % 4096 ≡ 0 → w % 8 ≡ 0 → at % 8 ≡ 0 → place ≤ at → at < place + w → at - place + 8 ≤ w
ends_in_8 at place w p s a low high = omega arith

ends_in_4 : (at place w : ℕ) → place % 4096 ≡ 0 → w % 8 ≡ 0 → at % 4 ≡ 0 → place ≤ at → at < place + w → at - place + 4 ≤ w
ends_in_4 at place w p s a low high = omega arith

ends_in_2 : (at place w : ℕ) → place % 4096 ≡ 0 → w % 8 ≡ 0 → at % 2 ≡ 0 → place ≤ at → at < place + w → at - place + 2 ≤ w
ends_in_2 at place w p s a low high = omega arith

ends_in_1 : (at place w : ℕ) → place ≤ at → at < place + w → at - place + 1 ≤ w
ends_in_1 at place w low high = omega arith

same_number : (m n : ℕ) → (m == n) ≡ true → m ≡ n
same_number m n is = grind (arith, nat_tests)

by_either : (a b : Bool) (P : Type 0) → (a || b) ≡ true → (a ≡ true → P) → (b ≡ true → P) → P
by_either true b P is first second = first refl
by_either false b P is first second = second is

of_sizes : (size : ℕ) (P : ℕ → Type 0) → is_size size ≡ true → P 1 → P 2 → P 4 → P 8 → P size
of_sizes size P is p1 p2 p4 p8 =
    by_either _ _ (P size) is
    (λ below8. by_either _ _ (P size) below8
    (λ below4. by_either _ _ (P size) below4 (λ is1. rw (same_number size 1 is1) p1) (λ is2. rw (same_number size 2 is2) p2))
    (λ is4. rw (same_number size 4 is4) p4))
    (λ is8. rw (same_number size 8 is8) p8)

first_of_both : (a b : Bool) → (a && b) ≡ true → a ≡ true
first_of_both true b is = refl
first_of_both false b is = cc

second_of_both : (a b : Bool) → (a && b) ≡ true → b ≡ true
second_of_both true b is = is
second_of_both false b is = cc

-- a window and an address that it holds, in numbers
record Inside (w : Window) (at : ℕ) : Type 0 where
  page : w.place % 4096 ≡ 0
  words : w.size % 8 ≡ 0
  low : w.place ≤ at
  high : at < w.place + w.size

in_numbers : (w : Window) (at : ℕ) → is_window w ≡ true → holds w at ≡ true → Inside w at
in_numbers w at is inside =
    record { page = grind (arith, nat_tests); words = grind (arith, nat_tests); low = grind (arith, nat_tests); high = grind (arith, nat_tests) }

ends_in : (w : Window) (at size : ℕ) → Inside w at → is_size size ≡ true → at % size ≡ 0 → at - w.place + size ≤ w.size
ends_in w at size i is =
    of_sizes size (λ s. at % s ≡ 0 → at - w.place + s ≤ w.size) is
    (λ a. ends_in_1 at w.place w.size i.low i.high)
    (λ a. ends_in_2 at w.place w.size i.page i.words a i.low i.high)
    (λ a. ends_in_4 at w.place w.size i.page i.words a i.low i.high)
    (λ a. ends_in_8 at w.place w.size i.page i.words a i.low i.high)

lies_by : (slot : Option Window) (w : Window) (at offset size : ℕ) → slot ≡ Some w → offset ≡ at - w.place → at - w.place + size ≤ w.size → LiesIn slot offset size
lies_by slot w at offset size is place less = rw (is, place) less

pub whole : (windows : List (Option Window)) (at size slot offset : ℕ) → AreWindows windows → window_at windows at ≡ Some (slot, offset) → is_access at size ≡ true → LiesIn (slot_in windows slot) offset size
whole windows at size slot offset each is access =
    let f = found windows at slot offset is in
    let stands = stands_at windows at slot offset f in
    lies_by (slot_in windows slot) f.window at offset size stands f.place
    (ends_in f.window at size (in_numbers f.window at (each_at windows slot f.window each stands) f.inside)
    (first_of_both (is_size size) ((at % size) == 0) access)
    (same_number (at % size) 0 (second_of_both (is_size size) ((at % size) == 0) access)))

pub whole_from : (windows : List (Option Window)) (at : ℕ) (place : Option (ℕ × ℕ)) → ArePlugged windows → place ≡ window_at windows at → IfSome place (λ r. (size : ℕ) → is_access at size ≡ true → LiesIn (slot_in windows r.0) r.1 size)
whole_from windows at None plugged is = tt
whole_from windows at (Some r) plugged is = λ size access. whole windows at size r.0 r.1 plugged.each (sym is) access

pub plugged_now : {D : Type 0} (xs ys : List (Option (Slot D))) → xs ≡ ys → ArePlugged (windows_of xs) → ArePlugged (windows_of ys)
plugged_now xs ys same plugged = rw (sym same) plugged
