-- The tests for kinds and keys decide equality.
use Rattle.std.proofs.Common.{◌≡◌, ℕ, Bool, true, false, arith, sym, ◌∙◌, refl, subst}
use Rattle.std.specs.Prelude.{◌&&◌, ◌==◌}
use Rattle.std.proofs.lemmas.Bool.Decides.{nat_tests}
use Rattle.journal_core.specs.declared.rows.KeyKind.{KeyKind}
use Rattle.journal_core.specs.declared.rows.KeyKind.TheVariants.{Translation, GuestPage, ProcessDir, PartDir}
use Rattle.journal_core.specs.declared.rows.Key.{Key}
use Rattle.journal_core.specs.Standing.{kind_number}
use Rattle.journal_core.specs.Fills.{is_same_key}

-- kinds with one number are one
pub same_kind : (a b : KeyKind) → kind_number a ≡ kind_number b → a ≡ b
same_kind Translation Translation e = refl
same_kind Translation GuestPage e = absurd (omega arith)
same_kind Translation ProcessDir e = absurd (omega arith)
same_kind Translation PartDir e = absurd (omega arith)
same_kind GuestPage Translation e = absurd (omega arith)
same_kind GuestPage GuestPage e = refl
same_kind GuestPage ProcessDir e = absurd (omega arith)
same_kind GuestPage PartDir e = absurd (omega arith)
same_kind ProcessDir Translation e = absurd (omega arith)
same_kind ProcessDir GuestPage e = absurd (omega arith)
same_kind ProcessDir ProcessDir e = refl
same_kind ProcessDir PartDir e = absurd (omega arith)
same_kind PartDir Translation e = absurd (omega arith)
same_kind PartDir GuestPage e = absurd (omega arith)
same_kind PartDir ProcessDir e = absurd (omega arith)
same_kind PartDir PartDir e = refl

pub and_left : (a b : Bool) → (a && b) ≡ true → a ≡ true
and_left true b e = refl
and_left false b e = e

pub and_right : (a b : Bool) → (a && b) ≡ true → b ≡ true
and_right true b e = e
and_right false b e = cc

pub eq_of : (a b : ℕ) → (a == b) ≡ true → a ≡ b
eq_of a b e = grind (arith, nat_tests)

pub eq_itself : (k : ℕ) → (k == k) ≡ true
eq_itself k = grind (arith, nat_tests)

made : KeyKind → ℕ → ℕ → ℕ → ℕ → Key
made kind lpid pid left page = record { kind = kind; lpid = lpid; pid = pid; left = left; page = page }

made-of : (k : Key) → k ≡ made k.kind k.lpid k.pid k.left k.page
unfolding made
made-of k = refl

-- keys that pass the test are one
pub same_key : (a b : Key) → is_same_key a b ≡ true → a ≡ b
same_key a b e =
    let e1 : ((a.lpid == b.lpid) && ((a.pid == b.pid) && ((a.left == b.left) && (a.page == b.page)))) ≡ true = and_right (kind_number a.kind == kind_number b.kind) _ e in
    let e2 : ((a.pid == b.pid) && ((a.left == b.left) && (a.page == b.page))) ≡ true = and_right (a.lpid == b.lpid) _ e1 in
    let e3 : ((a.left == b.left) && (a.page == b.page)) ≡ true = and_right (a.pid == b.pid) _ e2 in
    let kind : a.kind ≡ b.kind = same_kind a.kind b.kind (eq_of _ _ (and_left (kind_number a.kind == kind_number b.kind) _ e)) in
    let lpid : a.lpid ≡ b.lpid = eq_of _ _ (and_left (a.lpid == b.lpid) _ e1) in
    let pid : a.pid ≡ b.pid = eq_of _ _ (and_left (a.pid == b.pid) _ e2) in
    let left : a.left ≡ b.left = eq_of _ _ (and_left (a.left == b.left) _ e3) in
    let page : a.page ≡ b.page = eq_of _ _ (and_right (a.left == b.left) _ e3) in
    made-of a ∙ ((let same : made a.kind a.lpid a.pid a.left a.page ≡ made b.kind b.lpid b.pid b.left b.page = cc in same) ∙ sym (made-of b))

pub key_itself : (a : Key) → is_same_key a a ≡ true
key_itself a = rw (eq_itself (kind_number a.kind), eq_itself a.lpid, eq_itself a.pid, eq_itself a.left, eq_itself a.page) refl

-- keys that are one pass it
pub key_passes : (a b : Key) → a ≡ b → is_same_key a b ≡ true
key_passes a b e = subst (λ k. is_same_key a k ≡ true) e (key_itself a)
