-- There is one fresh walk from a stage.
use Rattle.std.proofs.Common.{◌≡◌, ℕ, List, [], ◌∷◌, ap, sym, ◌∙◌, refl, Option, Some, None}
use Rattle.journal_core.specs.declared.rows.Role.{Role}
use Rattle.journal_core.specs.declared.rows.ReadRow.{ReadRow}
use Rattle.journal_core.specs.declared.walks.NestResult.{NestResult}
use Rattle.journal_core.specs.declared.walks.Stage.{Stage}
use Rattle.journal_core.specs.declared.walks.Stage.TheVariants.{SecondWord, PartEntry, PartTable, ProcessEntry, ProcessTable, Over}
use Rattle.journal_core.specs.Walk.{Task, next}
use Rattle.journal_core.specs.Following.{IsRead, EndsAt, IsNew, sought_at, WalksFrom, FreshFrom}
use Rattle.walk_laws.specs.WalkLaws.{StandSo, addresses, values}
use Rattle.journal_core.specs.WalkPlaces.{read_at, row_of, row_at}

-- a reading, by its parts
made : Role → ℕ → ℕ → ℕ → ℕ → ℕ → ℕ → ℕ → ℕ → ReadRow
made role lpid pid sought level left at v moment = row_of role lpid pid sought level left at v moment

made-of : (r : ReadRow) → r ≡ made r.role r.lpid r.pid r.sought r.level r.left r.at r.value r.moment
unfolding made
made-of r = refl

-- readings with equal parts are equal
made_same : (r q : ReadRow) → r.role ≡ q.role → r.lpid ≡ q.lpid → r.pid ≡ q.pid → r.sought ≡ q.sought → r.level ≡ q.level → r.left ≡ q.left → r.at ≡ q.at → r.value ≡ q.value → r.moment ≡ q.moment → r ≡ q
made_same r q e1 e2 e3 e4 e5 e6 e7 e8 e9 = made-of r ∙ ((let e : made r.role r.lpid r.pid r.sought r.level r.left r.at r.value r.moment ≡ made q.role q.lpid q.pid q.sought q.level q.left q.at q.value q.moment = cc in e) ∙ sym (made-of q))

-- a new reading is the row that the walk makes of its value
pub is_row_at : (word : ℕ → Option ℕ) (moment : ℕ) (k : Task) (s : Stage) (r : ReadRow) → IsRead k s r → IsNew word moment (sought_at k s) r → r ≡ row_at k moment s r.value
is_row_at word moment k (SecondWord at) r a m = made_same r (row_at k moment (SecondWord at) r.value) a.same_role a.same_lpid a.same_pid m.same_sought a.same_level a.same_left a.same_at refl m.same_moment
is_row_at word moment k (PartEntry goal gra at) r a m = made_same r (row_at k moment (PartEntry goal gra at) r.value) a.same_role a.same_lpid a.same_pid m.same_sought a.same_level a.same_left a.same_at refl m.same_moment
is_row_at word moment k (PartTable goal gra n) r a m = made_same r (row_at k moment (PartTable goal gra n) r.value) a.same_role a.same_lpid a.same_pid m.same_sought a.same_level a.same_left a.same_at refl m.same_moment
is_row_at word moment k (ProcessEntry at) r a m = made_same r (row_at k moment (ProcessEntry at) r.value) a.same_role a.same_lpid a.same_pid m.same_sought a.same_level a.same_left a.same_at refl m.same_moment
is_row_at word moment k (ProcessTable n at) r a m = made_same r (row_at k moment (ProcessTable n at) r.value) a.same_role a.same_lpid a.same_pid m.same_sought a.same_level a.same_left a.same_at refl m.same_moment
is_row_at word moment k (Over o) r a m = absurd a

-- a reading stands where the walk reads next
pub is_read_at : (k : Task) (s : Stage) (r : ReadRow) → IsRead k s r → r.at ≡ read_at s
is_read_at k (SecondWord at) r a = a.same_at
is_read_at k (PartEntry goal gra at) r a = a.same_at
is_read_at k (PartTable goal gra n) r a = a.same_at
is_read_at k (ProcessEntry at) r a = a.same_at
is_read_at k (ProcessTable n at) r a = a.same_at
is_read_at k (Over o) r a = absurd a

-- true readings of one place have one value
pub same_value : (word : ℕ → Option ℕ) (r q : ReadRow) → r.at ≡ q.at → word r.at ≡ Some r.value → word q.at ≡ Some q.value → r.value ≡ q.value
same_value word r q at m n = (let e : Some r.value ≡ Some q.value = sym m ∙ (ap word at ∙ n) in cc)

-- two readings that a walk may make where it stands have one place
pub same_place : (k : Task) (s : Stage) (r q : ReadRow) → IsRead k s r → IsRead k s q → r.at ≡ q.at
same_place k s r q a b = is_read_at k s r a ∙ sym (is_read_at k s q b)

pub same_read : (word : ℕ → Option ℕ) (moment : ℕ) (k : Task) (s : Stage) (r q : ReadRow) → IsRead k s r → IsRead k s q → IsNew word moment (sought_at k s) r → IsNew word moment (sought_at k s) q → r ≡ q
same_read word moment k s r q a b m n =
    is_row_at word moment k s r a m ∙ (ap (λ v. row_at k moment s v) (same_value word r q (same_place k s r q a b) m.stands n.stands) ∙ sym (is_row_at word moment k s q b n))

-- a walk that ends here reads nothing more
pub no_more : {X : Type 0} (word : ℕ → Option ℕ) (k : Task) (s : Stage) (r : ReadRow) (out : NestResult) → EndsAt word s out → IsRead k s r → word r.at ≡ Some r.value → X
no_more word k (SecondWord at) r out e a m = (let h : Some r.value ≡ None = sym m ∙ (ap word a.same_at ∙ e.0) in cc)
no_more word k (PartEntry goal gra at) r out e a m = (let h : Some r.value ≡ None = sym m ∙ (ap word a.same_at ∙ e.0) in cc)
no_more word k (PartTable goal gra n) r out e a m = (let h : Some r.value ≡ None = sym m ∙ (ap word a.same_at ∙ e.0) in cc)
no_more word k (ProcessEntry at) r out e a m = (let h : Some r.value ≡ None = sym m ∙ (ap word a.same_at ∙ e.0) in cc)
no_more word k (ProcessTable n at) r out e a m = (let h : Some r.value ≡ None = sym m ∙ (ap word a.same_at ∙ e.0) in cc)
no_more word k (Over o) r out e a m = absurd a

pub same_end : (word : ℕ → Option ℕ) (s : Stage) (o p : NestResult) → EndsAt word s o → EndsAt word s p → o ≡ p
same_end word (SecondWord at) o p a b = a.1 ∙ sym b.1
same_end word (PartEntry goal gra at) o p a b = a.1 ∙ sym b.1
same_end word (PartTable goal gra n) o p a b = a.1 ∙ sym b.1
same_end word (ProcessEntry at) o p a b = a.1 ∙ sym b.1
same_end word (ProcessTable n at) o p a b = a.1 ∙ sym b.1
same_end word (Over out) o p a b = a ∙ sym b

-- a fresh walk after its first reading
pub fresh_rest : (word : ℕ → Option ℕ) (moment : ℕ) (k : Task) (s : Stage) (r : ReadRow) (rs : List ReadRow) (out : NestResult) → FreshFrom word moment k s (r ∷ rs) out → FreshFrom word moment k (next k s r.value) rs out
fresh_rest word moment k s r rs out h = record { walk = record { follows = h.walk.follows.1; ends = h.walk.ends }; new = h.new.1 }

-- two fresh walks from one stage are one
pub fresh_unique : (word : ℕ → Option ℕ) (moment : ℕ) (k : Task) (s : Stage) (xs ys : List ReadRow) (o p : NestResult)
    → FreshFrom word moment k s xs o → FreshFrom word moment k s ys p → (xs ≡ ys) × (o ≡ p)
fresh_unique word moment k s [] [] o p a b = (refl, same_end word s o p a.walk.ends b.walk.ends)
fresh_unique word moment k s [] (y ∷ ys) o p a b = no_more word k s y o a.walk.ends b.walk.follows.0 b.new.0.stands
fresh_unique word moment k s (x ∷ xs) [] o p a b = no_more word k s x p b.walk.ends a.walk.follows.0 a.new.0.stands
fresh_unique word moment k s (x ∷ xs) (y ∷ ys) o p a b =
    let e : x ≡ y = same_read word moment k s x y a.walk.follows.0 b.walk.follows.0 a.new.0 b.new.0 in
    let rest : (xs ≡ ys) × (o ≡ p) = fresh_unique word moment k (next k s x.value) xs ys o p (fresh_rest word moment k s x xs o a) (rw (← e) at (fresh_rest word moment k s y ys p b)) in
    (cc, rest.1)

-- a walk after its first reading
walk_rest : (word : ℕ → Option ℕ) (k : Task) (s : Stage) (r : ReadRow) (rs : List ReadRow) (out : NestResult) → WalksFrom word k s (r ∷ rs) out → WalksFrom word k (next k s r.value) rs out
walk_rest word k s r rs out h = record { follows = h.follows.1; ends = h.ends }

-- two walks from one stage, whose words stand as they were read, are one but for what was sought
pub true_unique : (word : ℕ → Option ℕ) (k : Task) (s : Stage) (xs ys : List ReadRow) (o p : NestResult)
    → WalksFrom word k s xs o → StandSo word xs → WalksFrom word k s ys p → StandSo word ys → (addresses xs ≡ addresses ys) × (values xs ≡ values ys) × (o ≡ p)
true_unique word k s [] [] o p a t b u = (refl, refl, same_end word s o p a.ends b.ends)
true_unique word k s [] (y ∷ ys) o p a t b u = no_more word k s y o a.ends b.follows.0 u.0
true_unique word k s (x ∷ xs) [] o p a t b u = no_more word k s x p b.ends a.follows.0 t.0
true_unique word k s (x ∷ xs) (y ∷ ys) o p a t b u =
    let place : x.at ≡ y.at = same_place k s x y a.follows.0 b.follows.0 in
    let e : x.value ≡ y.value = same_value word x y place t.0 u.0 in
    let rest : (addresses xs ≡ addresses ys) × (values xs ≡ values ys) × (o ≡ p) = true_unique word k (next k s x.value) xs ys o p (walk_rest word k s x xs o a) t.1 (rw (← e) at (walk_rest word k s y ys p b)) u.1 in
    let places : addresses xs ≡ addresses ys = rest.0 in
    let read : values xs ≡ values ys = rest.1 in
    (cc, cc, rest.2)
