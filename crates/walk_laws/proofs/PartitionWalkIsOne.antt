-- There is one walk of an address in a partition's tree over words that stand.
use Rattle.std.proofs.Common.{◌≡◌, ℕ, List, [], ◌∷◌, ap, sym, ◌∙◌, refl, Option, Some, None}
use Rattle.journal_core.specs.declared.rows.ReadRow.{ReadRow}
use Rattle.journal_core.specs.declared.walks.PartResult.{PartResult}
use Rattle.journal_core.specs.declared.walks.PartStage.{PartStage}
use Rattle.journal_core.specs.declared.walks.PartStage.TheVariants.{Entry, Tree, Ended}
use Rattle.journal_core.specs.PartitionWalk.{part_start, part_next, part_after, entry_at, IsPartRead, PartFollows, PartEndsAt, PartitionWalk}
use Rattle.std.specs.List.{AllByRecursion}
use Rattle.journal_core.specs.declared.asks.AccessKind.TheVariants.{Load}
use Rattle.journal_core.specs.declared.walks.Goal.TheVariants.{ForGuest}
use Rattle.journal_core.specs.declared.walks.Stage.TheVariants.{PartEntry, PartTable}
use Rattle.journal_core.specs.Walk.{Task, never_denied}
use Rattle.journal_core.specs.Following.{IsNew, FreshPartitionWalk}
use Rattle.walk_laws.specs.WalkLaws.{StandSo, addresses, values}
use Rattle.walk_laws.proofs.WalkIsOne.{same_value, same_read}

-- where the word stands that is read next
abbrev part_place : ℕ → PartStage → ℕ
part_place gra (Entry at) = at
part_place gra (Tree n) = entry_at gra n
part_place gra (Ended o) = 0

read_there : (lpid gra : ℕ) (s : PartStage) (r : ReadRow) → IsPartRead lpid gra s r → r.at ≡ part_place gra s
read_there lpid gra (Entry at) r a = a.same_at
read_there lpid gra (Tree n) r a = a.same_at
read_there lpid gra (Ended o) r a = absurd a

-- a walk that ends here reads nothing more
no_more : {X : Type 0} (word : ℕ → Option ℕ) (lpid gra : ℕ) (s : PartStage) (r : ReadRow) (out : PartResult) → PartEndsAt word gra s out → IsPartRead lpid gra s r → word r.at ≡ Some r.value → X
no_more word lpid gra (Entry at) r out e a m = (let h : Some r.value ≡ None = sym m ∙ (ap word a.same_at ∙ e.0) in cc)
no_more word lpid gra (Tree n) r out e a m = (let h : Some r.value ≡ None = sym m ∙ (ap word a.same_at ∙ e.0) in cc)
no_more word lpid gra (Ended o) r out e a m = absurd a

same_end : (word : ℕ → Option ℕ) (gra : ℕ) (s : PartStage) (o p : PartResult) → PartEndsAt word gra s o → PartEndsAt word gra s p → o ≡ p
same_end word gra (Entry at) o p a b = a.1 ∙ sym b.1
same_end word gra (Tree n) o p a b = a.1 ∙ sym b.1
same_end word gra (Ended out) o p a b = a ∙ sym b

-- a walk from where it stands
pub record PartFrom (word : ℕ → Option ℕ) (lpid gra : ℕ) (s : PartStage) (rs : List ReadRow) (out : PartResult) : Type 0 where
  pub follows : PartFollows lpid gra s rs
  pub ends : PartEndsAt word gra (part_after lpid gra s rs) out

part_rest : (word : ℕ → Option ℕ) (lpid gra : ℕ) (s : PartStage) (r : ReadRow) (rs : List ReadRow) (out : PartResult) → PartFrom word lpid gra s (r ∷ rs) out → PartFrom word lpid gra (part_next lpid gra s r.value) rs out
part_rest word lpid gra s r rs out h = record { follows = h.follows.1; ends = h.ends }

part_unique : (word : ℕ → Option ℕ) (lpid gra : ℕ) (s : PartStage) (xs ys : List ReadRow) (o p : PartResult)
    → PartFrom word lpid gra s xs o → StandSo word xs → PartFrom word lpid gra s ys p → StandSo word ys → (addresses xs ≡ addresses ys) × (values xs ≡ values ys) × (o ≡ p)
part_unique word lpid gra s [] [] o p a t b u = (refl, refl, same_end word gra s o p a.ends b.ends)
part_unique word lpid gra s [] (y ∷ ys) o p a t b u = no_more word lpid gra s y o a.ends b.follows.0 u.0
part_unique word lpid gra s (x ∷ xs) [] o p a t b u = no_more word lpid gra s x p b.ends a.follows.0 t.0
part_unique word lpid gra s (x ∷ xs) (y ∷ ys) o p a t b u =
    let place : x.at ≡ y.at = read_there lpid gra s x a.follows.0 ∙ sym (read_there lpid gra s y b.follows.0) in
    let e : x.value ≡ y.value = same_value word x y place t.0 u.0 in
    let rest : (addresses xs ≡ addresses ys) × (values xs ≡ values ys) × (o ≡ p) = part_unique word lpid gra (part_next lpid gra s x.value) xs ys o p (part_rest word lpid gra s x xs o a) t.1 (rw (← e) at (part_rest word lpid gra s y ys p b)) u.1 in
    let places : addresses xs ≡ addresses ys = rest.0 in
    let read : values xs ≡ values ys = rest.1 in
    (cc, cc, rest.2)

pub true_part_unique : (word : ℕ → Option ℕ) (ptcr lpid gra : ℕ) (rs qs : List ReadRow) (o p : PartResult)
    → PartitionWalk word ptcr lpid gra rs o → StandSo word rs → PartitionWalk word ptcr lpid gra qs p → StandSo word qs → (addresses rs ≡ addresses qs) × (values rs ≡ values qs) × (o ≡ p)
true_part_unique word ptcr lpid gra rs qs o p a t b u =
    part_unique word lpid gra (part_start ptcr lpid) rs qs o p (record { follows = a.follows; ends = a.ends }) t (record { follows = b.follows; ends = b.ends }) u

-- a task in this partition; of it nothing else matters here
in_partition : ℕ → Task
in_partition lpid = record { deny = never_denied; ask = record { ea = 0; access = Load; msr = 0; lpid = lpid; pid = 0; ptcr = 0; amr = 0; iamr = 0 }; lpid = lpid; pid = 0; address = 0 }

same_part_read : (word : ℕ → Option ℕ) (moment lpid gra : ℕ) (s : PartStage) (r q : ReadRow) → IsPartRead lpid gra s r → IsPartRead lpid gra s q → IsNew word moment gra r → IsNew word moment gra q → r ≡ q
unfolding in_partition
same_part_read word moment lpid gra (Entry at) r q a b m n = same_read word moment (in_partition lpid) (PartEntry ForGuest gra at) r q a b m n
same_part_read word moment lpid gra (Tree node) r q a b m n = same_read word moment (in_partition lpid) (PartTable ForGuest gra node) r q a b m n
same_part_read word moment lpid gra (Ended o) r q a b m n = absurd a

pub fresh_part : (word : ℕ → Option ℕ) (moment lpid gra : ℕ) (s : PartStage) (xs ys : List ReadRow) (o p : PartResult)
    → PartFrom word lpid gra s xs o → AllByRecursion (IsNew word moment gra) xs → PartFrom word lpid gra s ys p → AllByRecursion (IsNew word moment gra) ys → (xs ≡ ys) × (o ≡ p)
fresh_part word moment lpid gra s [] [] o p a t b u = (refl, same_end word gra s o p a.ends b.ends)
fresh_part word moment lpid gra s [] (y ∷ ys) o p a t b u = no_more word lpid gra s y o a.ends b.follows.0 u.0.stands
fresh_part word moment lpid gra s (x ∷ xs) [] o p a t b u = no_more word lpid gra s x p b.ends a.follows.0 t.0.stands
fresh_part word moment lpid gra s (x ∷ xs) (y ∷ ys) o p a t b u =
    let e : x ≡ y = same_part_read word moment lpid gra s x y a.follows.0 b.follows.0 t.0 u.0 in
    let rest : (xs ≡ ys) × (o ≡ p) = fresh_part word moment lpid gra (part_next lpid gra s x.value) xs ys o p (part_rest word lpid gra s x xs o a) t.1 (rw (← e) at (part_rest word lpid gra s y ys p b)) u.1 in
    (cc, rest.1)

pub fresh_part_unique : (word : ℕ → Option ℕ) (moment ptcr lpid gra : ℕ) (rs qs : List ReadRow) (o p : PartResult)
    → FreshPartitionWalk word moment ptcr lpid gra rs o → FreshPartitionWalk word moment ptcr lpid gra qs p → (rs ≡ qs) × (o ≡ p)
fresh_part_unique word moment ptcr lpid gra rs qs o p a b =
    fresh_part word moment lpid gra (part_start ptcr lpid) rs qs o p (record { follows = a.walk.follows; ends = a.walk.ends }) a.new (record { follows = b.walk.follows; ends = b.walk.ends }) b.new
