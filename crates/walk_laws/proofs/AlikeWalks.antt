-- Readings that follow the walk of one ask follow that of another of the same key.
use Rattle.std.proofs.Common.{◌≡◌, ℕ, ◌+◌, ◌-◌, ◌*◌, ◌/◌, ◌^◌, ◌≤◌, nat_le, nat_lt, ◌==◌, Bool, true, false, List, [], ◌∷◌, Option, Some, None, arith, ap, sym, ◌∙◌, refl, subst}
use Rattle.std.specs.Prelude.{if◌then◌else◌}
use Rattle.walk_laws.proofs.SamePage.{same_more, same_beyond, root_large, same_entry, same_real, IsLarge, large_node, large_tree, large_entry, large_start, same_after_entry}
use Rattle.journal_core.specs.Asks.{bits}
use Rattle.journal_core.specs.PartitionWalk.{SameOver, has_entry, entry_place, root_bits, node_of, real_in, entry_at, part_start, after_entry, after_tree, at_node}
use Rattle.journal_core.specs.Places.{place_of}
use Rattle.journal_core.specs.Walk.{Task, granted, arrived, inside, enter, at_table, at_result, process_granted, in_process, after_second, after_process_entry, next, stage_after, process_start, start_at, task_at, task_of, start_of}
use Rattle.journal_core.specs.Following.{IsRead, Follows}
use Rattle.journal_core.specs.declared.rows.Key.{Key}
use Rattle.journal_core.specs.Standing.{key_of}
use Rattle.journal_core.specs.Fills.{own_key}
use Rattle.journal_core.specs.Choice.{IsTranslated}
use Rattle.journal_core.specs.declared.rows.ReadRow.{ReadRow}
use Rattle.journal_core.specs.declared.rows.KeyKind.TheVariants.{Translation, GuestPage}
use Rattle.journal_core.specs.declared.asks.AccessKind.{AccessKind}
use Rattle.journal_core.specs.declared.asks.Ask.{Ask}
use Rattle.journal_core.specs.declared.asks.Rights.{Rights}
use Rattle.journal_core.specs.declared.asks.Denial.{Denial}
use Rattle.journal_core.specs.declared.asks.Place.{Place}
use Rattle.journal_core.specs.declared.asks.Place.TheVariants.{Real, GuestReal, Space, Segment}
use Rattle.journal_core.specs.declared.walks.PartResult.TheVariants.{Leaf}
use Rattle.journal_core.specs.declared.walks.PartResult.TheVariants.{Fault as PartFault, Stop as PartStop}
use Rattle.journal_core.specs.declared.walks.Node.{Node}
use Rattle.journal_core.specs.declared.walks.PartStage.{PartStage}
use Rattle.journal_core.specs.declared.walks.PartStage.TheVariants.{Entry, Tree, Ended}
use Rattle.journal_core.specs.declared.walks.Goal.{Goal}
use Rattle.journal_core.specs.declared.walks.Goal.TheVariants.{ForEntry, ForTable, ForResult, ForGuest}
use Rattle.journal_core.specs.declared.walks.NestResult.{NestResult}
use Rattle.journal_core.specs.declared.walks.NestResult.TheVariants.{Page, Fault, Stop}
use Rattle.journal_core.specs.declared.walks.Stage.{Stage}
use Rattle.journal_core.specs.declared.walks.Stage.TheVariants.{SecondWord, PartEntry, PartTable, ProcessEntry, ProcessTable, Over}

-- two tasks of one space and one page
pub record AreAlike (k0 k : Task) : Type 0 where
  pub lpid : k0.lpid ≡ k.lpid
  pub pid : k0.pid ≡ k.pid
  pub ptcr : k0.ask.ptcr ≡ k.ask.ptcr
  pub page : SameOver 12 k0.address k.address

-- guest real addresses are walked for the same: a table's entry is one, and others are of one page
abbrev LikeGoal : Goal → Goal → ℕ → ℕ → Type 0
LikeGoal ForEntry ForEntry g0 g = g0 ≡ g
LikeGoal (ForTable n0) (ForTable n) g0 g = (n0 ≡ n) × (g0 ≡ g) × (12 ≤ n.left - n.size)
LikeGoal ForResult ForResult g0 g = SameOver 12 g0 g
LikeGoal ForGuest ForGuest g0 g = SameOver 12 g0 g
LikeGoal _ _ g0 g = ⊥

abbrev pub NoPage : NestResult → Type 0
NoPage (Page real) = ⊥
NoPage (Fault cause) = Unit {0}
NoPage (Stop name value) = Unit {0}

-- a walk stands where the other one does, unless this one is over, or the other is over with no page
abbrev Like : Stage → Stage → Type 0
Like (Over o) s = Unit {0}
Like (SecondWord a) (SecondWord b) = a ≡ b
Like (SecondWord a) (Over o) = NoPage o
Like (PartEntry goal0 g0 a) (PartEntry goal g b) = LikeGoal goal0 goal g0 g × (a ≡ b)
Like (PartEntry goal0 g0 a) (Over o) = NoPage o
Like (PartTable goal0 g0 n0) (PartTable goal g n) = LikeGoal goal0 goal g0 g × (n0 ≡ n) × (12 ≤ n.left - n.size)
Like (PartTable goal0 g0 n0) (Over o) = NoPage o
Like (ProcessEntry a) (ProcessEntry b) = a ≡ b
Like (ProcessEntry a) (Over o) = NoPage o
Like (ProcessTable n0 a) (ProcessTable n b) = (n0 ≡ n) × (a ≡ b) × (12 ≤ n.left - n.size)
Like (ProcessTable n0 a) (Over o) = NoPage o
Like _ _ = ⊥

like_bad : (s : Stage) (o : NestResult) → NoPage o → Like s (Over o)
like_bad (Over out) o h = tt
like_bad (SecondWord a) o h = h
like_bad (PartEntry goal g a) o h = h
like_bad (PartTable goal g n) o h = h
like_bad (ProcessEntry a) o h = h
like_bad (ProcessTable n a) o h = h

like_if : (b0 b : Bool) (x0 x y0 y : Stage) → b0 ≡ b → Like x0 x → Like y0 y → Like (if b0 then x0 else y0) (if b then x else y)
like_if true true x0 x y0 y e one two = one
like_if true false x0 x y0 y e one two = absurd (apart e)
  where
    apart : true ≡ false → ⊥
    apart h = cc
like_if false true x0 x y0 y e one two = absurd (apart e)
  where
    apart : false ≡ true → ⊥
    apart h = cc
like_if false false x0 x y0 y e one two = two

same_gra : (goal0 goal : Goal) (g0 g : ℕ) → LikeGoal goal0 goal g0 g → SameOver 12 g0 g
same_gra ForEntry ForEntry g0 g h = ap (λ x. x / 2 ^ 12) h
same_gra (ForTable n0) (ForTable n) g0 g h = ap (λ x. x / 2 ^ 12) h.1
same_gra ForResult ForResult g0 g h = h
same_gra ForGuest ForGuest g0 g h = h
same_gra _ _ g0 g h = absurd h

like_arrived : (goal0 goal : Goal) (g0 g page low : ℕ) → LikeGoal goal0 goal g0 g → Like (arrived goal0 (real_in page low g0)) (arrived goal (real_in page low g))
like_arrived ForEntry ForEntry g0 g page low h = ap (real_in page low) h
like_arrived (ForTable n0) (ForTable n) g0 g page low h = (h.0, ap (real_in page low) h.1, h.2)
like_arrived ForResult ForResult g0 g page low h = tt
like_arrived ForGuest ForGuest g0 g page low h = tt
like_arrived _ _ g0 g page low h = absurd h

like_granted : (a0 a : Ask) (goal0 goal : Goal) (g0 g page low : ℕ) (d0 d : Option Denial) → LikeGoal goal0 goal g0 g →
    Like (granted a0 goal0 g0 (real_in page low g0) d0) (granted a goal g (real_in page low g) d)
like_granted a0 a goal0 goal g0 g page low (Some d0) d h = tt
like_granted a0 a goal0 goal g0 g page low None (Some d) h = like_bad (arrived goal0 (real_in page low g0)) _ tt
like_granted a0 a goal0 goal g0 g page low None None h = like_arrived goal0 goal g0 g page low h

like_inside : (k0 k : Task) (goal0 goal : Goal) (g0 g : ℕ) (p : PartStage) → LikeGoal goal0 goal g0 g → IsLarge p → Like (inside k0 goal0 g0 p) (inside k goal g p)
unfolding inside
like_inside k0 k goal0 goal g0 g (Entry at) h large = (h, refl)
like_inside k0 k goal0 goal g0 g (Tree n) h large = (h, refl, large)
like_inside k0 k goal0 goal g0 g (Ended (Leaf page low att eaa r c)) h large = like_granted k0.ask k.ask goal0 goal g0 g page low _ _ h
like_inside k0 k goal0 goal g0 g (Ended (PartFault kind)) h large = tt
like_inside k0 k goal0 goal g0 g (Ended (PartStop name value)) h large = tt

like_enter : (k0 k : Task) (goal0 goal : Goal) (g0 g : ℕ) → AreAlike k0 k → LikeGoal goal0 goal g0 g → Like (enter k0 goal0 g0) (enter k goal g)
like_enter k0 k goal0 goal g0 g alike h =
    let start : part_start k.ask.ptcr k.lpid ≡ part_start k0.ask.ptcr k0.lpid = ap (λ x. part_start x k.lpid) (sym alike.ptcr) ∙ ap (λ x. part_start k0.ask.ptcr x) (sym alike.lpid) in
    subst (λ p. Like (enter k0 goal0 g0) (inside k goal g p)) (sym start) (like_inside k0 k goal0 goal g0 g (part_start k0.ask.ptcr k0.lpid) h (large_start k0.ask.ptcr k0.lpid))

like_at_table : (k0 k : Task) (n : Node) → AreAlike k0 k → 12 ≤ n.left - n.size → Like (at_table k0 n) (at_table k n)
like_at_table k0 k n alike large =
    let same : entry_at k0.address n ≡ entry_at k.address n = same_entry n k0.address k.address large alike.page in
    like_if (k0.lpid == 0) (k.lpid == 0) _ _ _ _ (ap (λ x. x == 0) alike.lpid) (refl, same, large)
    (like_enter k0 k (ForTable n) (ForTable n) (entry_at k0.address n) (entry_at k.address n) alike (refl, same, large))

like_at_result : (k0 k : Task) (g0 g : ℕ) → AreAlike k0 k → SameOver 12 g0 g → Like (at_result k0 g0) (at_result k g)
like_at_result k0 k g0 g alike same = like_if (k0.lpid == 0) (k.lpid == 0) _ _ _ _ (ap (λ x. x == 0) alike.lpid) tt (like_enter k0 k ForResult ForResult g0 g alike same)

like_process_granted : (k0 k : Task) (g0 g : ℕ) (d0 d : Option Denial) → AreAlike k0 k → SameOver 12 g0 g → Like (process_granted k0 g0 d0) (process_granted k g d)
like_process_granted k0 k g0 g (Some d0) d alike same = tt
like_process_granted k0 k g0 g None (Some d) alike same = like_bad (at_result k0 g0) _ tt
like_process_granted k0 k g0 g None None alike same = like_at_result k0 k g0 g alike same

like_in_process : (k0 k : Task) (p : PartStage) → AreAlike k0 k → IsLarge p → Like (in_process k0 p) (in_process k p)
unfolding in_process
like_in_process k0 k (Entry at) alike large = tt
like_in_process k0 k (Tree n) alike large = like_at_table k0 k n alike large
like_in_process k0 k (Ended (Leaf page low att eaa r c)) alike large =
    like_process_granted k0 k _ _ _ _ alike (same_real page low k0.address k.address large alike.page)
like_in_process k0 k (Ended (PartFault kind)) alike large = tt
like_in_process k0 k (Ended (PartStop name value)) alike large = tt

like_second : (k0 k : Task) (v : ℕ) → AreAlike k0 k → Like (after_second k0 v) (after_second k v)
unfolding after_second
like_second k0 k v alike =
    like_if (nat_lt (16 * k0.pid) (2 ^ (12 + bits v 59 63))) (nat_lt (16 * k.pid) (2 ^ (12 + bits v 59 63))) _ _ _ _ (ap (λ x. nat_lt (16 * x) (2 ^ (12 + bits v 59 63))) alike.pid)
    (like_enter k0 k ForEntry ForEntry _ _ alike (ap (λ x. bits v 4 51 * 2 ^ 12 + 16 * x) alike.pid)) tt

like_process_entry : (k0 k : Task) (v : ℕ) → AreAlike k0 k → Like (after_process_entry k0 v) (after_process_entry k v)
unfolding after_process_entry
like_process_entry k0 k v alike =
    like_if (nat_lt 52 (root_bits v)) (nat_lt 52 (root_bits v)) _ _ _ _ refl tt
    (like_if (nat_le (2 ^ root_bits v) k0.address) (nat_le (2 ^ root_bits v) k.address) _ _ _ _ (same_beyond (root_bits v) k0.address k.address (root_large v) alike.page) tt
    (like_in_process k0 k (at_node (node_of v (root_bits v) 1)) alike (large_node (node_of v (root_bits v) 1))))

like_next : (k0 k : Task) (s0 s : Stage) (v : ℕ) → AreAlike k0 k → Like s0 s → Like (next k0 s0 v) (next k s v)
like_next k0 k (Over o) s v alike h = tt
like_next k0 k (SecondWord a) (SecondWord b) v alike h = like_second k0 k v alike
like_next k0 k (PartEntry goal0 g0 a) (PartEntry goal g b) v alike h =
    subst (λ p. Like (inside k0 goal0 g0 (after_entry k0.lpid g0 v)) (inside k goal g p)) (same_after_entry k0.lpid k.lpid g0 g v alike.lpid (same_gra goal0 goal g0 g h.0))
    (like_inside k0 k goal0 goal g0 g (after_entry k0.lpid g0 v) h.0 (large_entry k0.lpid g0 v))
like_next k0 k (PartTable goal0 g0 n0) (PartTable goal g n) v alike h =
    subst (λ m. Like (inside k0 goal0 g0 (after_tree (n0.left - n0.size) n0.level v)) (inside k goal g (after_tree (m.left - m.size) m.level v))) h.1
    (like_inside k0 k goal0 goal g0 g (after_tree (n0.left - n0.size) n0.level v) h.0 (large_tree (n0.left - n0.size) n0.level v))
like_next k0 k (ProcessEntry a) (ProcessEntry b) v alike h = like_process_entry k0 k v alike
like_next k0 k (ProcessTable n0 a) (ProcessTable n b) v alike h =
    subst (λ m. Like (in_process k0 (after_tree (n0.left - n0.size) n0.level v)) (in_process k (after_tree (m.left - m.size) m.level v))) h.0
    (like_in_process k0 k (after_tree (n0.left - n0.size) n0.level v) alike (large_tree (n0.left - n0.size) n0.level v))
like_next k0 k (SecondWord a) (Over o) v alike h = like_bad (next k0 (SecondWord a) v) o h
like_next k0 k (PartEntry goal0 g0 a) (Over o) v alike h = like_bad (next k0 (PartEntry goal0 g0 a) v) o h
like_next k0 k (PartTable goal0 g0 n0) (Over o) v alike h = like_bad (next k0 (PartTable goal0 g0 n0) v) o h
like_next k0 k (ProcessEntry a) (Over o) v alike h = like_bad (next k0 (ProcessEntry a) v) o h
like_next k0 k (ProcessTable n0 a) (Over o) v alike h = like_bad (next k0 (ProcessTable n0 a) v) o h
like_next k0 k _ _ v alike h = absurd h

pub over_stays : (k : Task) (o : NestResult) (rs : List ReadRow) → stage_after k (Over o) rs ≡ Over o
over_stays k o [] = refl
over_stays k o (r ∷ rs) = over_stays k o rs

pub over_same : (o p : NestResult) → Over o ≡ Over p → o ≡ p
over_same o p e = cc

pub no_way : (k : Task) (o : NestResult) (rs : List ReadRow) (real : ℕ) → NoPage o → stage_after k (Over o) rs ≡ Over (Page real) → ⊥
no_way k o rs real none leads = subst NoPage (over_same o (Page real) (sym (over_stays k o rs) ∙ leads)) none

sought_root : (r : ReadRow) (a b : ℕ) → r.left ≡ root_bits r.value → SameOver 12 a b → SameOver r.left r.sought a → SameOver r.left r.sought b
sought_root r a b left same sought = sought ∙ same_more 12 r.left a b (let large : 12 ≤ root_bits r.value = root_large r.value in omega (arith, left, large)) same

sought_node : (r : ReadRow) (n : Node) (a b : ℕ) → r.left ≡ n.left - n.size → 12 ≤ n.left - n.size → SameOver 12 a b → SameOver r.left r.sought a → SameOver r.left r.sought b
sought_node r n a b left large same sought = sought ∙ same_more 12 r.left a b (omega (arith, left, large)) same

like_read : (k0 k : Task) (s0 s : Stage) (r : ReadRow) (rs : List ReadRow) (real : ℕ) → AreAlike k0 k → Like s0 s → IsRead k0 s0 r → stage_after k s (r ∷ rs) ≡ Over (Page real) → IsRead k s r
like_read k0 k (Over o) s r rs real alike h x leads = absurd x
like_read k0 k (SecondWord a) (SecondWord b) r rs real alike h x leads =
    record { same_role = x.same_role; same_lpid = x.same_lpid ∙ alike.lpid; same_pid = x.same_pid ∙ alike.pid; same_level = x.same_level; same_left = x.same_left; same_at = x.same_at ∙ h }
like_read k0 k (PartEntry goal0 g0 a) (PartEntry goal g b) r rs real alike h x leads =
    record {
      same_role = x.same_role;
      same_lpid = x.same_lpid ∙ alike.lpid;
      same_pid = x.same_pid;
      same_sought = sought_root r g0 g x.same_left (same_gra goal0 goal g0 g h.0) x.same_sought;
      same_level = x.same_level;
      same_left = x.same_left;
      same_at = x.same_at ∙ h.1;
    }
like_read k0 k (PartTable goal0 g0 n0) (PartTable goal g n) r rs real alike h x leads =
    let left : r.left ≡ n.left - n.size = x.same_left ∙ ap (λ m. m.left - m.size) h.1 in
    let same : SameOver 12 g0 g = same_gra goal0 goal g0 g h.0 in
    record {
      same_role = x.same_role;
      same_lpid = x.same_lpid ∙ alike.lpid;
      same_pid = x.same_pid;
      same_sought = sought_node r n g0 g left h.2 same x.same_sought;
      same_level = x.same_level ∙ ap (λ m. m.level) h.1;
      same_left = left;
      same_at = x.same_at ∙ (ap (entry_at g0) h.1 ∙ same_entry n g0 g h.2 same);
    }
like_read k0 k (ProcessEntry a) (ProcessEntry b) r rs real alike h x leads =
    record {
      same_role = x.same_role;
      same_lpid = x.same_lpid ∙ alike.lpid;
      same_pid = x.same_pid ∙ alike.pid;
      same_sought = sought_root r k0.address k.address x.same_left alike.page x.same_sought;
      same_level = x.same_level;
      same_left = x.same_left;
      same_at = x.same_at ∙ h;
    }
like_read k0 k (ProcessTable n0 a) (ProcessTable n b) r rs real alike h x leads =
    let left : r.left ≡ n.left - n.size = x.same_left ∙ ap (λ m. m.left - m.size) h.0 in
    record {
      same_role = x.same_role;
      same_lpid = x.same_lpid ∙ alike.lpid;
      same_pid = x.same_pid ∙ alike.pid;
      same_sought = sought_node r n k0.address k.address left h.2 alike.page x.same_sought;
      same_level = x.same_level ∙ ap (λ m. m.level) h.0;
      same_left = left;
      same_at = x.same_at ∙ h.1;
    }
like_read k0 k (SecondWord a) (Over o) r rs real alike h x leads = absurd (no_way k o (r ∷ rs) real h leads)
like_read k0 k (PartEntry goal0 g0 a) (Over o) r rs real alike h x leads = absurd (no_way k o (r ∷ rs) real h leads)
like_read k0 k (PartTable goal0 g0 n0) (Over o) r rs real alike h x leads = absurd (no_way k o (r ∷ rs) real h leads)
like_read k0 k (ProcessEntry a) (Over o) r rs real alike h x leads = absurd (no_way k o (r ∷ rs) real h leads)
like_read k0 k (ProcessTable n0 a) (Over o) r rs real alike h x leads = absurd (no_way k o (r ∷ rs) real h leads)
like_read k0 k _ _ r rs real alike h x leads = absurd h

follows_alike : (k0 k : Task) (s0 s : Stage) (rs : List ReadRow) (real : ℕ) → AreAlike k0 k → Like s0 s → Follows k0 s0 rs → stage_after k s rs ≡ Over (Page real) → Follows k s rs
follows_alike k0 k s0 s [] real alike h follows leads = tt
follows_alike k0 k s0 s (r ∷ rs) real alike h follows leads = (
  like_read k0 k s0 s r rs real alike h follows.0 leads,
  follows_alike k0 k (next k0 s0 r.value) (next k s r.value) rs real alike (like_next k0 k s0 s r.value alike h) follows.1 leads,
)

like_process_start : (k0 k : Task) → AreAlike k0 k → Like (process_start k0) (process_start k)
unfolding process_start
like_process_start k0 k alike =
    like_if (has_entry k0.ask.ptcr k0.lpid) (has_entry k.ask.ptcr k.lpid) _ _ _ _ (ap (λ x. has_entry x k0.lpid) alike.ptcr ∙ ap (λ x. has_entry k.ask.ptcr x) alike.lpid)
    (ap (λ x. entry_place x k0.lpid + 8) alike.ptcr ∙ ap (λ x. entry_place k.ask.ptcr x + 8) alike.lpid) tt

inner : (a b : Key) → Some a ≡ Some b → a ≡ b
inner a b e = cc

kinds_apart : GuestPage ≡ Translation → ⊥
kinds_apart e = cc

-- asks of one key, at places that are not real
follows_at : (deny0 deny : Rights → AccessKind → Option Denial) (first ask : Ask) (p0 p : Place) (rs : List ReadRow) (real : ℕ) → ((a : ℕ) → p ≡ Real a → ⊥) → first.ptcr ≡ ask.ptcr →
    own_key p0 ≡ own_key p → Follows (task_at deny0 first p0) (start_at (task_at deny0 first p0) p0) rs →
    stage_after (task_at deny ask p) (start_at (task_at deny ask p) p) rs ≡ Over (Page real) → Follows (task_at deny ask p) (start_at (task_at deny ask p) p) rs
follows_at deny0 deny first ask p0 (Real a) rs real away ptcr key follows leads = absurd (away a refl)
follows_at deny0 deny first ask p0 Segment rs real away ptcr key follows leads =
    absurd (no_way (task_at deny ask Segment) _ rs real tt leads)
follows_at deny0 deny first ask (Real a0) p [] real away ptcr key follows leads = tt
follows_at deny0 deny first ask (Real a0) p (r ∷ rs) real away ptcr key follows leads = absurd follows.0
follows_at deny0 deny first ask Segment p [] real away ptcr key follows leads = tt
follows_at deny0 deny first ask Segment p (r ∷ rs) real away ptcr key follows leads = absurd follows.0
follows_at deny0 deny first ask (GuestReal l0 a0) (GuestReal l a) rs real away ptcr key follows leads =
    let k0 : Task = task_at deny0 first (GuestReal l0 a0) in
    let k : Task = task_at deny ask (GuestReal l a) in
    let same : key_of GuestPage l0 0 12 a0 ≡ key_of GuestPage l 0 12 a = inner _ _ key in
    let alike : AreAlike k0 k = record { lpid = ap (λ x. x.lpid) same; pid = refl; ptcr = ptcr; page = ap (λ x. x.page) same } in
    follows_alike k0 k (enter k0 ForGuest a0) (enter k ForGuest a) rs real alike (like_enter k0 k ForGuest ForGuest a0 a alike (ap (λ x. x.page) same)) follows leads
follows_at deny0 deny first ask (Space l0 q0 a0) (Space l q a) rs real away ptcr key follows leads =
    let k0 : Task = task_at deny0 first (Space l0 q0 a0) in
    let k : Task = task_at deny ask (Space l q a) in
    let same : key_of Translation l0 q0 12 a0 ≡ key_of Translation l q 12 a = inner _ _ key in
    let alike : AreAlike k0 k = record { lpid = ap (λ x. x.lpid) same; pid = ap (λ x. x.pid) same; ptcr = ptcr; page = ap (λ x. x.page) same } in
    follows_alike k0 k (process_start k0) (process_start k) rs real alike (like_process_start k0 k alike) follows leads
follows_at deny0 deny first ask (GuestReal l0 a0) (Space l q a) rs real away ptcr key follows leads = absurd (kinds_apart (ap (λ x. x.kind) (inner (key_of GuestPage l0 0 12 a0) (key_of Translation l q 12 a) key)))
follows_at deny0 deny first ask (Space l0 q0 a0) (GuestReal l a) rs real away ptcr key follows leads = absurd (kinds_apart (sym (ap (λ x. x.kind) (inner (key_of Translation l0 q0 12 a0) (key_of GuestPage l 0 12 a) key))))

pub follows_by_key : (deny0 deny : Rights → AccessKind → Option Denial) (first ask : Ask) (rs : List ReadRow) (real : ℕ) → IsTranslated ask → first.ptcr ≡ ask.ptcr →
    own_key (place_of first) ≡ own_key (place_of ask) → Follows (task_of deny0 first) (start_of deny0 first) rs →
    stage_after (task_of deny ask) (start_of deny ask) rs ≡ Over (Page real) → Follows (task_of deny ask) (start_of deny ask) rs
follows_by_key deny0 deny first ask = follows_at deny0 deny first ask (place_of first) (place_of ask)
