-- Which bits of a word decide its row.
use Rattle.std.proofs.Common.{◌≡◌, ℕ, zero, suc, ◌+◌, ◌-◌, ◌*◌, ◌/◌, ◌%◌, ◌^◌, ◌<◌, Bool, true, false, List, [], ◌∷◌, refl, cond, eqb, ◌&&◌, Some, sym, ap, ◌∙◌, arith, inl, inr}
use Rattle.std.specs.Prelude.{bit_and}
use Rattle.std.proofs.lemmas.Nat.{and_assoc, and_shr, and_mask, and_block, shr_split, mod_below, pow_pos}
use Rattle.std.proofs.lemmas.Nat.Bits.{and_high}
use Rattle.std.proofs.lemmas.Bool.Decides.{nat_tests}
use Rattle.std.proofs.lemmas.Bool.{cases_lt}
use Rattle.ppc_ops.specs.declared.op.Row.{Row}
use Rattle.ppc_ops.specs.Rows.{agrees}
use Rattle.ppc_ops.specs.Table.{rows}
use Rattle.word_decoder.specs.Find.{find_op, op_at}

-- each row fixes bits of a key alone
abbrev pub masks_in : ℕ → List Row → Bool
masks_in key [] = true
masks_in key (r ∷ rs) = eqb (bit_and key r.mask) r.mask && masks_in key rs

both : (a b : Bool) → (a && b) ≡ true → (a ≡ true) × (b ≡ true)
both true true h = (refl, refl)
both true false h = absurd (no h)
  where
    no : false ≡ true → ⊥
    no h = cc
both false b h = absurd (no h)
  where
    no : false ≡ true → ⊥
    no h = cc

same_number : (a b : ℕ) → eqb a b ≡ true → a ≡ b
same_number a b h = grind (arith, nat_tests)

agrees_at : (key word : ℕ) (r : Row) → bit_and key r.mask ≡ r.mask → agrees word r ≡ agrees (bit_and word key) r
agrees_at key word r h = ap (λ m. eqb m r.value) (ap (bit_and word) (sym h) ∙ sym (and_assoc r.mask word key))

-- the row is decided by the key's bits
pub find_by_key : (key : ℕ) (rs : List Row) (word : ℕ) → masks_in key rs ≡ true → find_op rs word ≡ find_op rs (bit_and word key)
unfolding find_op
find_by_key key [] word h = refl
find_by_key key (r ∷ rs) word h =
    let parts = both (eqb (bit_and key r.mask) r.mask) (masks_in key rs) h in
    ap (λ t. cond t (Some r.op) (find_op rs word)) (agrees_at key word r (same_number (bit_and key r.mask) r.mask parts.0))
    ∙ ap (cond (agrees (bit_and word key) r) (Some r.op)) (find_by_key key rs word parts.1)

-- ---- the rows of one primary opcode

abbrev pub of_primary : ℕ → List Row → List Row
of_primary p [] = []
of_primary p (r ∷ rs) = cond (eqb (r.value / 2 ^ 26) p) (r ∷ of_primary p rs) (of_primary p rs)

abbrev pub tops_in : List Row → Bool
tops_in [] = true
tops_in (r ∷ rs) = eqb (r.mask / 2 ^ 26) 63 && tops_in rs

top_of : (word mask value : ℕ) → word < 2 ^ 32 → mask / 2 ^ 26 ≡ 63 → bit_and word mask ≡ value → value / 2 ^ 26 ≡ word / 2 ^ 26
top_of word mask value f m e =
    let d : value / 2 ^ 26 ≡ bit_and (word / 2 ^ 26) (mask / 2 ^ 26) = ap (λ n. n / 2 ^ 26) (sym e) ∙ and_shr word mask 26 in
    let x : bit_and (word / 2 ^ 26) (mask / 2 ^ 26) ≡ word / 2 ^ 26 % 2 ^ 6 = ap (bit_and (word / 2 ^ 26)) m ∙ and_mask (word / 2 ^ 26) 6 in
    omega (arith, d, x)

other_primary : (word p : ℕ) (r : Row) → word < 2 ^ 32 → r.mask / 2 ^ 26 ≡ 63 → word / 2 ^ 26 ≡ p → eqb (r.value / 2 ^ 26) p ≡ false → agrees word r ≡ false
other_primary word p r f m e n = grind (arith, nat_tests, top_of word r.mask r.value f m)

pub find_in_primary : (p : ℕ) (rs : List Row) (word : ℕ) → word < 2 ^ 32 → word / 2 ^ 26 ≡ p → tops_in rs ≡ true → find_op rs word ≡ find_op (of_primary p rs) word
unfolding find_op
find_in_primary p [] word f e h = refl
find_in_primary p (r ∷ rs) word f e h =
    let parts = both (eqb (r.mask / 2 ^ 26) 63) (tops_in rs) h in
    let rest : find_op rs word ≡ find_op (of_primary p rs) word = find_in_primary p rs word f e parts.1 in
    by_test (eqb (r.value / 2 ^ 26) p) refl rest (same_number (r.mask / 2 ^ 26) 63 parts.0)
  where
    by_test : (t : Bool) → eqb (r.value / 2 ^ 26) p ≡ t → find_op rs word ≡ find_op (of_primary p rs) word → r.mask / 2 ^ 26 ≡ 63 → cond (agrees word r) (Some r.op) (find_op rs word) ≡ find_op (cond t (r ∷ of_primary p rs) (of_primary p rs)) word
    by_test true t rest m = ap (cond (agrees word r) (Some r.op)) rest
    by_test false t rest m = ap (λ b. cond b (Some r.op) (find_op rs word)) (other_primary word p r f m e t) ∙ rest

pub tops : tops_in rows ≡ true
unfolding rows
tops = refl

pub op_in_primary : (p key word : ℕ) → word < 2 ^ 32 → word / 2 ^ 26 ≡ p → masks_in key (of_primary p rows) ≡ true → op_at word ≡ find_op (of_primary p rows) (bit_and word key)
unfolding op_at
op_in_primary p key word f e m = find_in_primary p rows word f e tops ∙ find_by_key key (of_primary p rows) word m

-- ---- two functions that agree on the numbers from a base on, by computing both

abbrev pub values : {A : Type 0} → (ℕ → A) → ℕ → List A
values f zero = []
values f (suc n) = f n ∷ values f n

pub same_below : {A : Type 0} (f g : ℕ → A) (n : ℕ) → values f n ≡ values g n → (k : ℕ) → k < n → f k ≡ g k
same_below f g zero e k h = absurd (omega arith)
same_below f g (suc n) e k h =
    let head : f n ≡ g n = cc in
    let tail : values f n ≡ values g n = cc in
    elim (cases_lt k n) [ inl l ↦ same_below f g n tail k l | inr l ↦ (let at : k ≡ n = omega arith in ap f at ∙ head ∙ ap g (sym at)) ]

pub further : {A : Type 0} (f g : ℕ → A) (m : ℕ) → ((n : ℕ) → n < m → f n ≡ g n) → values (λ k. f (m + k)) 256 ≡ values (λ k. g (m + k)) 256 → (n : ℕ) → n < m + 256 → f n ≡ g n
further f g m below e n h = elim (cases_lt n m) [
  | inl l ↦ below n l
  | inr l ↦ (let at : n ≡ m + (n - m) = omega arith in ap f at ∙ same_below (λ k. f (m + k)) (λ k. g (m + k)) 256 e (n - m) (omega arith) ∙ ap g (sym at))
]

-- the primary opcode and the bits of m stand apart
pub word_key : (word p m : ℕ) → word / 2 ^ 26 ≡ p → p < 64 → m < 2 ^ 26 → bit_and word (63 * 2 ^ 26 + m) ≡ p * 2 ^ 26 + bit_and (word % 2 ^ 26) m
word_key word p m e l h =
    ap (λ n. bit_and n (63 * 2 ^ 26 + m)) (sym (shr_split word 26))
    ∙ and_block 26 (word / 2 ^ 26) 63 (word % 2 ^ 26) m (mod_below word (2 ^ 26) (pow_pos 26)) h
    ∙ ap (λ n. n * 2 ^ 26 + bit_and (word % 2 ^ 26) m) (and_mask (word / 2 ^ 26) 6 ∙ low_six (word / 2 ^ 26) p e l)
  where
    low_six : (n p : ℕ) → n ≡ p → p < 64 → n % 2 ^ 6 ≡ p
    low_six n p e l = omega arith

-- a key of the bits from k on, j of them
pub field_key : (word p j k : ℕ) → word / 2 ^ 26 ≡ p → p < 64 → 2 ^ (j + k) - 2 ^ k < 2 ^ 26 → bit_and word (63 * 2 ^ 26 + (2 ^ (j + k) - 2 ^ k)) ≡ p * 2 ^ 26 + (word % 2 ^ 26 / 2 ^ k % 2 ^ j) * 2 ^ k
field_key word p j k e l h = word_key word p (2 ^ (j + k) - 2 ^ k) e l h ∙ ap (λ n. p * 2 ^ 26 + n) (and_high (word % 2 ^ 26) j k)

-- bit_and r (2 ^ 20 + 2047) by its two parts
pub two_parts : (r : ℕ) → bit_and r (1 * 2 ^ 20 + 2047) ≡ r / 2 ^ 20 % 2 * 2 ^ 20 + r % 2 ^ 11
two_parts r =
    ap (λ n. bit_and n (1 * 2 ^ 20 + 2047)) (sym (shr_split r 20))
    ∙ and_block 20 (r / 2 ^ 20) 1 (r % 2 ^ 20) 2047 (mod_below r (2 ^ 20) (pow_pos 20)) (omega arith)
    ∙ ap (λ n. n * 2 ^ 20 + bit_and (r % 2 ^ 20) 2047) (and_mask (r / 2 ^ 20) 1)
    ∙ ap (λ n. r / 2 ^ 20 % 2 * 2 ^ 20 + n) (and_mask (r % 2 ^ 20) 11 ∙ low r)
  where
    low : (r : ℕ) → r % 2 ^ 20 % 2 ^ 11 ≡ r % 2 ^ 11
    low r = omega arith
