-- There is one standing fill of a key, and one deepest directory.
use Rattle.std.proofs.Common.{◌≡◌, ℕ, ◌<◌, ◌≤◌, ◌/◌, ◌^◌, Option, Some, None, arith, ap, sym, ◌∙◌, refl}
use Rattle.journal_core.specs.Rows.{Rows}
use Rattle.journal_core.specs.Turns.{turn_of}
use Rattle.journal_core.specs.Standing.{IsStanding, IsDeepest, IsStandingKey}
use Rattle.journal_core.specs.declared.rows.KeyKind.{KeyKind}
use Rattle.journal_core.specs.declared.rows.Key.{Key}
use Rattle.journal_core.specs.declared.rows.FillRow.{FillRow}

made : KeyKind → ℕ → ℕ → ℕ → ℕ → Key
made kind lpid pid left page = record { kind = kind; lpid = lpid; pid = pid; left = left; page = page }

made-of : (k : Key) → k ≡ made k.kind k.lpid k.pid k.left k.page
unfolding made
made-of k = refl

same_key_of : (a b : Key) → a.kind ≡ b.kind → a.lpid ≡ b.lpid → a.pid ≡ b.pid → a.left ≡ b.left → a.page ≡ b.page → a ≡ b
same_key_of a b e1 e2 e3 e4 e5 = made-of a ∙ ((let e : made a.kind a.lpid a.pid a.left a.page ≡ made b.kind b.lpid b.pid b.left b.page = cc in e) ∙ sym (made-of b))

neither_later : (i j : ℕ) → ((i < j → ⊥) → (j < i → ⊥) → i ≡ j)
neither_later i j a b = grind arith

-- two standing fills of one key are one
pub one_of_key : (rows : Rows) (floor t n c i j : ℕ) (f g : FillRow) → IsStanding (turn_of rows floor t n) c i f → IsStanding (turn_of rows floor t n) c j g → f.key ≡ g.key → i ≡ j
one_of_key rows floor t n c i j f g a b e =
    neither_later i j (λ lt. a.last j lt b.below g b.is b.of_thread (sym e)) (λ lt. b.last i lt a.below f a.is a.of_thread e)

pub standing_key_unique : (rows : Rows) (floor t n c : ℕ) (key : Key) (x y : Option ℕ) → IsStandingKey (turn_of rows floor t n) c key x → IsStandingKey (turn_of rows floor t n) c key y → x ≡ y
standing_key_unique rows floor t n c key None None a b = refl
standing_key_unique rows floor t n c key None (Some j) a b = absurd (a j b.fill b.standing b.of_key)
standing_key_unique rows floor t n c key (Some i) None a b = absurd (b i a.fill a.standing a.of_key)
standing_key_unique rows floor t n c key (Some i) (Some j) a b = ap Some (one_of_key rows floor t n c i j a.fill b.fill a.standing b.standing (a.of_key ∙ sym b.of_key))

pub deepest_unique : (rows : Rows) (floor t n c : ℕ) (kind : KeyKind) (lpid pid sought : ℕ) (x y : Option ℕ) →
    IsDeepest (turn_of rows floor t n) c kind lpid pid sought x → IsDeepest (turn_of rows floor t n) c kind lpid pid sought y → x ≡ y
deepest_unique rows floor t n c kind lpid pid sought None None a b = refl
deepest_unique rows floor t n c kind lpid pid sought None (Some j) a b = absurd (a j b.fill b.standing b.for_it)
deepest_unique rows floor t n c kind lpid pid sought (Some i) None a b = absurd (b i a.fill a.standing a.for_it)
deepest_unique rows floor t n c kind lpid pid sought (Some i) (Some j) a b =
    let ab : a.fill.key.left ≤ b.fill.key.left = a.least j b.fill b.standing b.for_it in
    let ba : b.fill.key.left ≤ a.fill.key.left = b.least i a.fill a.standing a.for_it in
    let left : a.fill.key.left ≡ b.fill.key.left = omega arith in
    let page : a.fill.key.page ≡ b.fill.key.page = a.for_it.of_page ∙ (ap (λ m. sought / 2 ^ m) left ∙ sym b.for_it.of_page) in
    ap Some (one_of_key rows floor t n c i j a.fill b.fill a.standing b.standing
    (same_key_of a.fill.key b.fill.key (a.for_it.of_kind ∙ sym b.for_it.of_kind) (a.for_it.of_lpid ∙ sym b.for_it.of_lpid) (a.for_it.of_pid ∙ sym b.for_it.of_pid) left page))
