-- What an ask is admitted to is confined: each address that a walk comes to in a guest was given by a leaf that it read.
use Rattle.std.proofs.Common.{◌≡◌, ℕ, ◌-◌, ◌*◌, ◌^◌, ◌==◌, not, Bool, true, false, List, [], ◌∷◌, Option, Some, None, arith, ap, sym, ◌∙◌, refl, subst}
use Rattle.std.specs.Prelude.{if◌then◌else◌, Contains}
use Rattle.std.specs.List.{AllByRecursion}
use Rattle.journal_core.specs.Asks.{bits, is_one}
use Rattle.journal_core.specs.Rights.{first_denial}
use Rattle.journal_core.specs.Covers.{is_process_role}
use Rattle.journal_core.specs.PartitionWalk.{entry_at, after_entry, after_tree, at_node, is_leaf, is_page_size, real_in, IsTreeRead, SameOver}
use Rattle.journal_core.specs.Places.{place_of}
use Rattle.journal_core.specs.Walk.{Task, partition_rights, process_rights, access_for, granted, inside, enter, at_table, process_granted, in_process, next, stage_after, process_start, start_at, task_at, task_of, start_of}
use Rattle.journal_core.specs.Following.{IsRead, Follows}
use Rattle.journal_core.specs.Turns.{Turn}
use Rattle.journal_core.specs.Admitted.{IsWalkTo, IsRight, IsAdmitted}
use Rattle.journal_core.specs.Confined.{gives, AreGiven, IsGiven, IsConfinedAt, IsConfined}
use Rattle.journal_core.specs.declared.rows.Role.TheVariants.{Pate, PartDir, PartLeaf}
use Rattle.journal_core.specs.declared.rows.ReadRow.{ReadRow}
use Rattle.journal_core.specs.declared.asks.AccessKind.{AccessKind}
use Rattle.journal_core.specs.declared.asks.AccessKind.TheVariants.{Fetch, Load, Store}
use Rattle.journal_core.specs.declared.asks.Ask.{Ask}
use Rattle.journal_core.specs.declared.asks.Denial.{Denial}
use Rattle.journal_core.specs.declared.asks.Denial.TheVariants.{Read, Write, Execute, Guarded, Referenced, Changed}
use Rattle.journal_core.specs.declared.asks.Place.{Place}
use Rattle.journal_core.specs.declared.asks.Place.TheVariants.{Real, GuestReal, Space, Segment}
use Rattle.journal_core.specs.declared.walks.Node.{Node}
use Rattle.journal_core.specs.declared.walks.Goal.{Goal}
use Rattle.journal_core.specs.declared.walks.Goal.TheVariants.{ForEntry, ForTable, ForResult, ForGuest}
use Rattle.journal_core.specs.declared.walks.NestResult.TheVariants.{Page, Fault, Stop}
use Rattle.journal_core.specs.declared.walks.Stage.{Stage}
use Rattle.journal_core.specs.declared.walks.Stage.TheVariants.{SecondWord, PartEntry, PartTable, ProcessEntry, ProcessTable, Over}
use Rattle.walk_laws.proofs.ChoiceKeeps.{contains_self}
use Rattle.walk_laws.proofs.FreedWalks.{permitted_or_free}
use Rattle.walk_laws.proofs.StageCases.{by_page_size, by_node, by_start, by_entry, by_tree, by_second, by_process_entry, by_process_start}

-- a chain of refusals that refuses nothing
load_free : (none r : Bool) → (if none then Some Read else if not r then Some Referenced else None) ≡ None → (not none ≡ true) × (r ≡ true)
load_free true r e = absurd (apart e)
  where
    apart : Some Read ≡ None → ⊥
    apart e = cc
load_free false true e = (refl, refl)
load_free false false e = absurd (apart e)
  where
    apart : Some Referenced ≡ None → ⊥
    apart e = cc

store_free : (may r c : Bool) → (if not may then Some Write else if not r then Some Referenced else if not c then Some Changed else None) ≡ None → (may ≡ true) × (r ≡ true)
store_free false r c e = absurd (apart e)
  where
    apart : Some Write ≡ None → ⊥
    apart e = cc
store_free true true c e = (refl, refl)
store_free true false c e = absurd (apart e)
  where
    apart : Some Referenced ≡ None → ⊥
    apart e = cc

fetch_free : (may guarded r : Bool) → (if not may then Some Execute else if guarded then Some Guarded else if not r then Some Referenced else None) ≡ None → (may ≡ true) × (r ≡ true)
fetch_free false guarded r e = absurd (apart e)
  where
    apart : Some Execute ≡ None → ⊥
    apart e = cc
fetch_free true true r e = absurd (apart e)
  where
    apart : Some Guarded ≡ None → ⊥
    apart e = cc
fetch_free true false true e = (refl, refl)
fetch_free true false false e = absurd (apart e)
  where
    apart : Some Referenced ≡ None → ⊥
    apart e = cc

-- the authority has the leaf's own bits
same_read : (v : ℕ) → bits (bits v 60 63) 61 62 ≡ bits v 61 62
same_read v = omega arith

same_write : (v : ℕ) → bits (bits v 60 63) 62 62 ≡ bits v 62 62
same_write v = omega arith

same_execute : (v : ℕ) → bits (bits v 60 63) 63 63 ≡ bits v 63 63
same_execute v = omega arith

-- where no right of a partition's leaf refuses an access, the leaf gives it, and its page is marked
leaf_gives : (ask : Ask) (a : AccessKind) (v : ℕ) → first_denial ask (partition_rights (bits v 58 59) (bits v 60 63) (is_one v 55) (is_one v 56)) a ≡ None → (gives a v ≡ true) × (is_one v 55 ≡ true)
unfolding first_denial
leaf_gives ask Load v e = (let free : (not (bits (bits v 60 63) 61 62 == 0) ≡ true) × (is_one v 55 ≡ true) = load_free (bits (bits v 60 63) 61 62 == 0) (is_one v 55) e in (subst (λ m. not (m == 0) ≡ true) (same_read v) free.0, free.1))
leaf_gives ask Store v e = (let free : (is_one (bits v 60 63) 62 ≡ true) × (is_one v 55 ≡ true) = store_free (is_one (bits v 60 63) 62) (is_one v 55) (is_one v 56) e in (subst (λ m. (m == 1) ≡ true) (same_write v) free.0, free.1))
leaf_gives ask Fetch v e = (let free : (is_one (bits v 60 63) 63 ≡ true) × (is_one v 55 ≡ true) = fetch_free (is_one (bits v 60 63) 63) (bits v 58 59 == 2) (is_one v 55) e in (subst (λ m. (m == 1) ≡ true) (same_execute v) free.0, free.1))

-- a byte of the same 4 KiB as an address in a page lies in the page
in_page : (page low gra byte : ℕ) → is_page_size low ≡ true → SameOver 12 byte (real_in page low gra) → SameOver low byte page
in_page page low gra byte size same =
    by_page_size (λ l. SameOver 12 byte (real_in page l gra) → SameOver l byte page) low size (λ h. omega (arith, h)) (λ h. omega (arith, h)) (λ h. omega (arith, h)) (λ h. omega (arith, h)) same

-- what a walk reads in a partition's tree is for a guest's own access, or for a process of a partition other than 0
abbrev IsServed : ℕ → Goal → Type 0
IsServed lpid ForEntry = (lpid == 0) ≡ false
IsServed lpid (ForTable n) = (lpid == 0) ≡ false
IsServed lpid ForResult = (lpid == 0) ≡ false
IsServed lpid ForGuest = Unit {0}

-- where a walk stands, the address that it is at was given by a leaf among these readings
abbrev IsGivenAt : Ask → ℕ → List ReadRow → Stage → Type 0
IsGivenAt ask lpid all (SecondWord at) = (lpid == 0) ≡ false
IsGivenAt ask lpid all (PartEntry goal gra at) = IsServed lpid goal
IsGivenAt ask lpid all (PartTable goal gra n) = IsServed lpid goal
IsGivenAt ask lpid all (ProcessEntry at) = ((lpid == 0) ≡ false) × AreGiven lpid Load all at
IsGivenAt ask lpid all (ProcessTable n at) = ((lpid == 0) ≡ false) × AreGiven lpid Load all at
IsGivenAt ask lpid all (Over (Page real)) = AreGiven lpid ask.access all real
IsGivenAt ask lpid all (Over (Fault cause)) = Unit {0}
IsGivenAt ask lpid all (Over (Stop name value)) = Unit {0}

-- the walk of an address of a process of a partition by the ask's rights
abbrev walk_of : Ask → ℕ → ℕ → ℕ → Task
walk_of ask lpid pid address = record { deny = first_denial ask; ask = ask; lpid = lpid; pid = pid; address = address }

given_granted : (ask : Ask) (lpid : ℕ) (all : List ReadRow) (goal : Goal) (gra at : ℕ) (d : Option Denial) → IsServed lpid goal → (d ≡ None → AreGiven lpid (access_for ask goal) all at) → IsGivenAt ask lpid all (granted ask goal gra at d)
given_granted ask lpid all goal gra at (Some d) served given = tt
given_granted ask lpid all ForEntry gra at None served given = (served, given refl)
given_granted ask lpid all (ForTable n) gra at None served given = (served, given refl)
given_granted ask lpid all ForResult gra at None served given = given refl
given_granted ask lpid all ForGuest gra at None served given = given refl

given_entry : (ask : Ask) (lpid pid address : ℕ) (all : List ReadRow) (goal : Goal) (gra v : ℕ) → IsServed lpid goal → IsGivenAt ask lpid all (inside (walk_of ask lpid pid address) goal gra (after_entry lpid gra v))
unfolding inside
given_entry ask lpid pid address all goal gra v served = by_entry (λ p. IsGivenAt ask lpid all (inside (walk_of ask lpid pid address) goal gra p)) lpid gra v (λ kind. tt) (λ name value. tt) (λ n. served)

given_enter : (ask : Ask) (lpid pid address : ℕ) (all : List ReadRow) (goal : Goal) (gra : ℕ) → IsServed lpid goal → IsGivenAt ask lpid all (enter (walk_of ask lpid pid address) goal gra)
unfolding inside
given_enter ask lpid pid address all goal gra served = by_start (λ p. IsGivenAt ask lpid all (inside (walk_of ask lpid pid address) goal gra p)) ask.ptcr lpid (λ kind. tt) served

-- a leaf that was read gives the bytes of its page
given_leaf : (ask : Ask) (lpid gra : ℕ) (all : List ReadRow) (n : Node) (r : ReadRow) (a : AccessKind) → IsTreeRead lpid gra n r → Contains all r → is_leaf r.value ≡ true → is_page_size (n.left - n.size) ≡ true →
    first_denial ask (partition_rights (bits r.value 58 59) (bits r.value 60 63) (is_one r.value 55) (is_one r.value 56)) a ≡ None → AreGiven lpid a all (real_in (bits r.value 7 51 * 2 ^ 12) (n.left - n.size) gra)
given_leaf ask lpid gra all n r a read there leaf size free byte from same =
    let given : (gives a r.value ≡ true) × (is_one r.value 55 ≡ true) = leaf_gives ask a r.value free in (
      r,
      there,
      record {
        leaf = read.same_role ∙ ap (λ b. if b then PartLeaf else PartDir) leaf;
        same_lpid = read.same_lpid;
        right = given.0;
        referenced = given.1;
        holds = subst (λ l. SameOver l byte (bits r.value 7 51 * 2 ^ 12)) (sym read.same_left) (in_page (bits r.value 7 51 * 2 ^ 12) (n.left - n.size) gra byte size same);
      },
    )

given_tree : (ask : Ask) (lpid pid address : ℕ) (all : List ReadRow) (goal : Goal) (gra : ℕ) (n : Node) (r : ReadRow) → IsServed lpid goal → IsTreeRead lpid gra n r → Contains all r →
    IsGivenAt ask lpid all (inside (walk_of ask lpid pid address) goal gra (after_tree (n.left - n.size) n.level r.value))
unfolding inside
given_tree ask lpid pid address all goal gra n r served read there =
    by_tree (λ p. IsGivenAt ask lpid all (inside (walk_of ask lpid pid address) goal gra p)) (n.left - n.size) n.level r.value (λ kind. tt) (λ m. served)
    (λ leaf size. given_granted ask lpid all goal gra (real_in (bits r.value 7 51 * 2 ^ 12) (n.left - n.size) gra)
    (first_denial ask (partition_rights (bits r.value 58 59) (bits r.value 60 63) (is_one r.value 55) (is_one r.value 56)) (access_for ask goal)) served (given_leaf ask lpid gra all n r (access_for ask goal) read there leaf size))

-- a walk of a process of a partition other than 0 has no table at a real address
elsewhere : (ask : Ask) (lpid : ℕ) (all : List ReadRow) (x y : Stage) → (lpid == 0) ≡ false → IsGivenAt ask lpid all y → IsGivenAt ask lpid all (if lpid == 0 then x else y)
elsewhere ask lpid all x y guest h = subst (λ b. IsGivenAt ask lpid all (if b then x else y)) (sym guest) h

given_table : (ask : Ask) (lpid pid address : ℕ) (all : List ReadRow) (n : Node) → (lpid == 0) ≡ false → IsGivenAt ask lpid all (at_table (walk_of ask lpid pid address) n)
given_table ask lpid pid address all n guest = elsewhere ask lpid all (ProcessTable n (entry_at address n)) (enter (walk_of ask lpid pid address) (ForTable n) (entry_at address n)) guest (given_enter ask lpid pid address all (ForTable n) (entry_at address n) guest)

given_result : (ask : Ask) (lpid pid address : ℕ) (all : List ReadRow) (gra : ℕ) (d : Option Denial) → (lpid == 0) ≡ false → IsGivenAt ask lpid all (process_granted (walk_of ask lpid pid address) gra d)
given_result ask lpid pid address all gra None guest = elsewhere ask lpid all (Over (Page gra)) (enter (walk_of ask lpid pid address) ForResult gra) guest (given_enter ask lpid pid address all ForResult gra guest)
given_result ask lpid pid address all gra (Some d) guest = tt

given_process_node : (ask : Ask) (lpid pid address : ℕ) (all : List ReadRow) (n : Node) → (lpid == 0) ≡ false → IsGivenAt ask lpid all (in_process (walk_of ask lpid pid address) (at_node n))
unfolding in_process
given_process_node ask lpid pid address all n guest = by_node (λ p. IsGivenAt ask lpid all (in_process (walk_of ask lpid pid address) p)) n (λ kind. tt) (given_table ask lpid pid address all n guest)

given_process_tree : (ask : Ask) (lpid pid address : ℕ) (all : List ReadRow) (rest level v : ℕ) → (lpid == 0) ≡ false → IsGivenAt ask lpid all (in_process (walk_of ask lpid pid address) (after_tree rest level v))
unfolding in_process
given_process_tree ask lpid pid address all rest level v guest =
    by_tree (λ p. IsGivenAt ask lpid all (in_process (walk_of ask lpid pid address) p)) rest level v (λ kind. tt) (λ n. given_table ask lpid pid address all n guest)
    (λ leaf size. given_result ask lpid pid address all (real_in (bits v 7 51 * 2 ^ 12) rest address) (first_denial ask (process_rights (bits v 58 59) (bits v 60 63) (is_one v 55) (is_one v 56)) ask.access) guest)

given_next : (ask : Ask) (lpid pid address : ℕ) (all : List ReadRow) (s : Stage) (r : ReadRow) → IsGivenAt ask lpid all s → IsRead (walk_of ask lpid pid address) s r → Contains all r → IsGivenAt ask lpid all (next (walk_of ask lpid pid address) s r.value)
given_next ask lpid pid address all (SecondWord at) r h read there = by_second (IsGivenAt ask lpid all) (walk_of ask lpid pid address) r.value (λ kind. tt) (λ gra. given_enter ask lpid pid address all ForEntry gra h)
given_next ask lpid pid address all (PartEntry goal gra at) r h read there = given_entry ask lpid pid address all goal gra r.value h
given_next ask lpid pid address all (PartTable goal gra n) r h read there = given_tree ask lpid pid address all goal gra n r h read there
given_next ask lpid pid address all (ProcessEntry at) r h read there = by_process_entry (IsGivenAt ask lpid all) (walk_of ask lpid pid address) r.value (λ kind. tt) tt (λ n. given_process_node ask lpid pid address all n h.0)
given_next ask lpid pid address all (ProcessTable n at) r h read there = given_process_tree ask lpid pid address all (n.left - n.size) n.level r.value h.0
given_next ask lpid pid address all (Over out) r h read there = absurd read

no_process : (b : Bool) → is_process_role (if b then PartLeaf else PartDir) ≡ true → ⊥
no_process true e = cc
no_process false e = cc

-- each reading of a process's tables was made at an address that was given
given_read : (ask : Ask) (lpid pid address : ℕ) (all : List ReadRow) (s : Stage) (r : ReadRow) → IsGivenAt ask lpid all s → IsRead (walk_of ask lpid pid address) s r → is_process_role r.role ≡ true → AreGiven lpid Load all r.at
given_read ask lpid pid address all (SecondWord at) r h read e = absurd (no (sym (ap is_process_role read.same_role) ∙ e))
  where
    no : is_process_role Pate ≡ true → ⊥
    no e = cc
given_read ask lpid pid address all (PartEntry goal gra at) r h read e = absurd (no (sym (ap is_process_role read.same_role) ∙ e))
  where
    no : is_process_role Pate ≡ true → ⊥
    no e = cc
given_read ask lpid pid address all (PartTable goal gra n) r h read e = absurd (no_process (is_leaf r.value) (sym (ap is_process_role read.same_role) ∙ e))
given_read ask lpid pid address all (ProcessEntry at) r h read e = subst (AreGiven lpid Load all) (sym read.same_at) h.1
given_read ask lpid pid address all (ProcessTable n at) r h read e = subst (AreGiven lpid Load all) (sym read.same_at) h.1
given_read ask lpid pid address all (Over out) r h read e = absurd read

given_along : (ask : Ask) (lpid pid address : ℕ) (all : List ReadRow) (s : Stage) (rs : List ReadRow) → IsGivenAt ask lpid all s → Follows (walk_of ask lpid pid address) s rs → AllByRecursion (Contains all) rs →
    AllByRecursion (λ (r : ReadRow). is_process_role r.role ≡ true → AreGiven lpid Load all r.at) rs × IsGivenAt ask lpid all (stage_after (walk_of ask lpid pid address) s rs)
given_along ask lpid pid address all s [] h follows there = (tt, h)
given_along ask lpid pid address all s (r ∷ rs) h follows there =
    let rest : AllByRecursion (λ (q : ReadRow). is_process_role q.role ≡ true → AreGiven lpid Load all q.at) rs × IsGivenAt ask lpid all (stage_after (walk_of ask lpid pid address) (next (walk_of ask lpid pid address) s r.value) rs) =
    given_along ask lpid pid address all (next (walk_of ask lpid pid address) s r.value) rs (given_next ask lpid pid address all s r h follows.0 there.0) follows.1 there.1 in
    ((given_read ask lpid pid address all s r h follows.0, rest.0), rest.1)

given_from : (ask : Ask) (lpid pid address : ℕ) (s : Stage) (rs : List ReadRow) (real : ℕ) → IsGivenAt ask lpid rs s → Follows (walk_of ask lpid pid address) s rs → stage_after (walk_of ask lpid pid address) s rs ≡ Over (Page real) → IsGiven lpid ask.access rs real
given_from ask lpid pid address s rs real h follows leads =
    let all : AllByRecursion (λ (r : ReadRow). is_process_role r.role ≡ true → AreGiven lpid Load rs r.at) rs × IsGivenAt ask lpid rs (stage_after (walk_of ask lpid pid address) s rs) = given_along ask lpid pid address rs s rs h follows (contains_self rs []) in
    record { reached = subst (IsGivenAt ask lpid rs) leads all.1; tables = all.0 }

other : (lpid : ℕ) → (lpid ≡ 0 → ⊥) → (lpid == 0) ≡ false
other lpid away = by_case (lpid == 0) refl
  where
    equal : (lpid : ℕ) → (lpid == 0) ≡ true → lpid ≡ 0
    equal lpid e = grind arith

    by_case : (b : Bool) → (lpid == 0) ≡ b → (lpid == 0) ≡ false
    by_case false e = e
    by_case true e = absurd (away (equal lpid e))

given_start : (ask : Ask) (lpid pid address : ℕ) (all : List ReadRow) → (lpid == 0) ≡ false → IsGivenAt ask lpid all (process_start (walk_of ask lpid pid address))
given_start ask lpid pid address all guest = by_process_start (IsGivenAt ask lpid all) (walk_of ask lpid pid address) tt guest

confined_at : (ask : Ask) (p : Place) (rs : List ReadRow) (real : ℕ) → Follows (task_at (first_denial ask) ask p) (start_at (task_at (first_denial ask) ask p) p) rs → stage_after (task_at (first_denial ask) ask p) (start_at (task_at (first_denial ask) ask p) p) rs ≡ Over (Page real) →
    IsConfinedAt p ask.access rs real
confined_at ask (Real a) rs real follows leads = tt
confined_at ask (GuestReal lpid a) rs real follows leads = given_from ask lpid 0 a (enter (walk_of ask lpid 0 a) ForGuest a) rs real (given_enter ask lpid 0 a rs ForGuest a tt) follows leads
confined_at ask (Space lpid pid a) rs real follows leads = λ away. given_from ask lpid pid a (process_start (walk_of ask lpid pid a)) rs real (given_start ask lpid pid a rs (other lpid away)) follows leads
confined_at ask Segment rs real follows leads = tt

-- a walk to a page that the rights permit is confined
pub walk_confined : (ask : Ask) (rs : List ReadRow) (real : ℕ) → IsWalkTo ask rs real → IsRight ask rs real → IsConfined ask rs real
walk_confined ask rs real walk right =
    let follows : Follows (task_of (first_denial ask) ask) (start_of (first_denial ask) ask) rs = ((permitted_or_free ask rs real).1 (walk, right)).0 in
    confined_at ask (place_of ask) rs real follows right

pub admitted_confined : (past : ℕ → ℕ → Option ℕ) (v : Turn) (ask : Ask) (rs : List ReadRow) (real : ℕ) → IsAdmitted past v ask rs real → IsConfined ask rs real
admitted_confined past v ask rs real h = walk_confined ask rs real h.walk h.right
