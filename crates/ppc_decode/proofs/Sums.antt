-- Sums of fields that stand in bits of their own.
use Rattle.std.proofs.Common.{◌≡◌, ℕ, ◌+◌, ◌-◌, ◌*◌, ◌/◌, ◌%◌, ◌^◌, ◌<◌, min, max, Bool, true, List, [], ◌∷◌, ◌++◌, eqb, ◌&&◌, zero-add, refl, sym, ap, ◌∙◌, arith}
use Rattle.std.specs.Prelude.{bit_and, bit_or}
use Rattle.std.specs.Int.{bit_at}
use Rattle.std.proofs.lemmas.Nat.{and_comm, or_disjoint, pow_pos, pow-add, shl-shr}
use Rattle.std.proofs.lemmas.Nat.Bits.{and_high, bit_at_and, bit_at_or, bit_at-zero, same_from_bits}
use Rattle.std.proofs.Math.Nat.{mod-eq_of_lt}
use Rattle.ppc_bits.specs.Bits.{field_of}
use Rattle.ppc_ops.specs.Rows.{Fixed, mask_of, value_of}
use Rattle.ppc_ops.proofs.Apart.{both, same_number}

-- ---- sums of numbers that share no bit

and_either : (w a b : ℕ) → bit_and w (bit_or a b) ≡ bit_or (bit_and w a) (bit_and w b)
and_either w a b = same_from_bits (bit_and w (bit_or a b)) (bit_or (bit_and w a) (bit_and w b)) (λ i.
    bit_at_and w (bit_or a b) i
    ∙ ap (min (bit_at w i)) (bit_at_or a b i)
    ∙ rule (bit_at w i) (bit_at a i) (bit_at b i)
    ∙ sym (bit_at_or (bit_and w a) (bit_and w b) i ∙ ap (λ k. max k (bit_at (bit_and w b) i)) (bit_at_and w a i) ∙ ap (max (min (bit_at w i) (bit_at a i))) (bit_at_and w b i)))
  where
    rule : (w a b : ℕ) → min w (max a b) ≡ max (min w a) (min w b)
    rule w a b = omega arith

-- parts of numbers that share no bit share none
parts_apart : (x y a b : ℕ) → bit_and a b ≡ 0 → bit_and (bit_and x a) (bit_and y b) ≡ 0
parts_apart x y a b h = same_from_bits (bit_and (bit_and x a) (bit_and y b)) 0 (λ i.
    bit_at_and (bit_and x a) (bit_and y b) i
    ∙ ap (λ k. min k (bit_at (bit_and y b) i)) (bit_at_and x a i)
    ∙ ap (min (min (bit_at x i) (bit_at a i))) (bit_at_and y b i)
    ∙ rule (bit_at x i) (bit_at y i) (bit_at a i) (bit_at b i) (sym (bit_at_and a b i) ∙ ap (λ k. bit_at k i) h ∙ bit_at-zero i)
    ∙ sym (bit_at-zero i))
  where
    rule : (x y a b : ℕ) → min a b ≡ 0 → min (min x a) (min y b) ≡ 0
    rule x y a b h = omega arith

pub and_sum : (w a b : ℕ) → bit_and a b ≡ 0 → bit_and w (a + b) ≡ bit_and w a + bit_and w b
and_sum w a b h = ap (bit_and w) (sym (or_disjoint a b h)) ∙ and_either w a b ∙ or_disjoint (bit_and w a) (bit_and w b) (parts_apart w w a b h)

and_self : (n : ℕ) → bit_and n n ≡ n
and_self n = same_from_bits (bit_and n n) n (λ i. bit_at_and n n i ∙ rule (bit_at n i))
  where
    rule : (b : ℕ) → min b b ≡ b
    rule b = omega arith

-- numbers that lie in bits m and n apart
module _ (m n : ℕ) (h : bit_and m n ≡ 0) where
  apart_of : (a b : ℕ) → bit_and a m ≡ a → bit_and b n ≡ b → bit_and a b ≡ 0
  apart_of a b p q = ap (λ k. bit_and k b) (sym p) ∙ ap (bit_and (bit_and a m)) (sym q) ∙ parts_apart a b m n h

  first_of : (a b : ℕ) → bit_and a m ≡ a → bit_and b n ≡ b → bit_and m (a + b) ≡ a
  first_of a b p q = and_sum m a b (apart_of a b p q) ∙ alone (bit_and m a) (bit_and m b) (and_comm m a ∙ p) (apart_of m b (and_self m) q)
    where
      alone : (x y : ℕ) → x ≡ a → y ≡ 0 → x + y ≡ a
      alone x y e f = omega arith

  second_of : (a b : ℕ) → bit_and a m ≡ a → bit_and b n ≡ b → bit_and (a + b) n ≡ b
  second_of a b p q = and_comm (a + b) n ∙ and_sum n a b (apart_of a b p q) ∙ alone (bit_and n a) (bit_and n b) (and_comm n a ∙ apart_of a n p (and_self n)) (and_comm n b ∙ q)
    where
      alone : (x y : ℕ) → x ≡ 0 → y ≡ b → x + y ≡ b
      alone x y e f = omega arith

  same_first : (a b c d : ℕ) → bit_and a m ≡ a → bit_and b n ≡ b → bit_and c m ≡ c → bit_and d n ≡ d → a + b ≡ c + d → a ≡ c
  same_first a b c d p q r s e = sym (first_of a b p q) ∙ ap (bit_and m) e ∙ first_of c d r s

  sum_within : (a b : ℕ) → bit_and a m ≡ a → bit_and b n ≡ b → bit_and (a + b) (m + n) ≡ a + b
  sum_within a b p q =
      and_sum (a + b) m n h
      ∙ ap (λ k. k + bit_and (a + b) n) (and_comm (a + b) m ∙ first_of a b p q)
      ∙ ap (λ k. a + k) (second_of a b p q)

-- ---- one field

-- ones in the bits of a field
abbrev pub mask : Fixed → ℕ
mask f = (2 ^ (f.last - f.first + 1) - 1) * 2 ^ (31 - f.last)

ones_at : (n s : ℕ) → (2 ^ n - 1) * 2 ^ s ≡ 2 ^ (n + s) - 2 ^ s
ones_at n s = less_one (2 ^ n) (2 ^ s) (pow_pos n) ∙ ap (λ k. k - 2 ^ s) (sym (pow-add 2 n s))
  where
    less_one : (a b : ℕ) → 0 < a → (a - 1) * b ≡ a * b - b
    less_one a b h =
        let e : a ≡ a - 1 + 1 = omega arith in
        let d : (a - 1 + 1) * b ≡ (a - 1) * b + b = omega arith in
        let f : a * b ≡ (a - 1) * b + b = ap (λ n. n * b) e ∙ d in
        omega arith

in_field : (w n s : ℕ) → bit_and w ((2 ^ n - 1) * 2 ^ s) ≡ (w / 2 ^ s % 2 ^ n) * 2 ^ s
in_field w n s = ap (bit_and w) (ones_at n s) ∙ and_high w n s

value_within : (v n s : ℕ) → v < 2 ^ n → bit_and (v * 2 ^ s) ((2 ^ n - 1) * 2 ^ s) ≡ v * 2 ^ s
value_within v n s h = in_field (v * 2 ^ s) n s ∙ ap (λ k. k % 2 ^ n * 2 ^ s) (shl-shr v s) ∙ ap (λ k. k * 2 ^ s) (mod-eq_of_lt h)

same_value : (a b s : ℕ) → a * 2 ^ s ≡ b * 2 ^ s → a ≡ b
same_value a b s e = sym (shl-shr a s) ∙ ap (λ k. k / 2 ^ s) e ∙ shl-shr b s

-- ---- several fields

abbrev pub masks : List Fixed → List ℕ
masks [] = []
masks (f ∷ fs) = mask f ∷ masks fs

abbrev pub total : List ℕ → ℕ
total [] = 0
total (m ∷ ms) = m + total ms

-- no two share a bit
abbrev pub separate : List ℕ → Bool
separate [] = true
separate (m ∷ ms) = eqb (bit_and m (total ms)) 0 && separate ms

-- each value fits its bits
abbrev pub Fitted : List Fixed → Type 0
Fitted [] = Unit {0}
Fitted (f ∷ fs) = (f.value < 2 ^ (f.last - f.first + 1)) × Fitted fs

-- the word has each value in its bits
abbrev pub Reads : ℕ → List Fixed → Type 0
Reads word [] = Unit {0}
Reads word (f ∷ fs) = (field_of 32 word f.first f.last ≡ f.value) × Reads word fs

pub mask_total : (fs : List Fixed) → mask_of fs ≡ total (masks fs)
mask_total [] = refl
mask_total (f ∷ fs) = ap (λ k. mask f + k) (mask_total fs)

first_apart : (f : Fixed) (fs : List Fixed) → separate (masks (f ∷ fs)) ≡ true → (bit_and (mask f) (mask_of fs) ≡ 0) × (separate (masks fs) ≡ true)
first_apart f fs h =
    let parts = both (eqb (bit_and (mask f) (total (masks fs))) 0) (separate (masks fs)) h in
    (ap (bit_and (mask f)) (mask_total fs) ∙ same_number (bit_and (mask f) (total (masks fs))) 0 parts.0, parts.1)

-- the sum of fields lies in their bits
pub within : (fs : List Fixed) → separate (masks fs) ≡ true → Fitted fs → bit_and (value_of fs) (mask_of fs) ≡ value_of fs
within [] h t = refl
within (f ∷ fs) h t =
    let parts = first_apart f fs h in
    sum_within (mask f) (mask_of fs) parts.0 (f.value * 2 ^ (31 - f.last)) (value_of fs) (value_within f.value (f.last - f.first + 1) (31 - f.last) t.0) (within fs parts.1 t.1)

-- a word that has each value has their sum in their bits
pub sum_of_reads : (word : ℕ) (fs : List Fixed) → separate (masks fs) ≡ true → Reads word fs → bit_and word (mask_of fs) ≡ value_of fs
sum_of_reads word [] h r = same_from_bits (bit_and word 0) 0 (λ i. bit_at_and word 0 i ∙ ap (min (bit_at word i)) (bit_at-zero i) ∙ rule (bit_at word i) ∙ sym (bit_at-zero i))
  where
    rule : (b : ℕ) → min b 0 ≡ 0
    rule b = omega arith
sum_of_reads word (f ∷ fs) h r =
    let parts = first_apart f fs h in
    and_sum word (mask f) (mask_of fs) parts.0
    ∙ ap (λ k. k + bit_and word (mask_of fs)) (in_field word (f.last - f.first + 1) (31 - f.last) ∙ ap (λ k. k * 2 ^ (31 - f.last)) r.0)
    ∙ ap (λ k. f.value * 2 ^ (31 - f.last) + k) (sum_of_reads word fs parts.1 r.1)

-- a word that has the sum of fields in their bits has each value
pub reads_of_sum : (word : ℕ) (fs : List Fixed) → separate (masks fs) ≡ true → Fitted fs → bit_and word (mask_of fs) ≡ value_of fs → Reads word fs
reads_of_sum word [] h t e = tt
reads_of_sum word (f ∷ fs) h t e =
    let parts = first_apart f fs h in
    let sum : bit_and word (mask f) + bit_and word (mask_of fs) ≡ f.value * 2 ^ (31 - f.last) + value_of fs = sym (and_sum word (mask f) (mask_of fs) parts.0) ∙ e in
    let own : bit_and (f.value * 2 ^ (31 - f.last)) (mask f) ≡ f.value * 2 ^ (31 - f.last) = value_within f.value (f.last - f.first + 1) (31 - f.last) t.0 in
    let first : bit_and word (mask f) ≡ f.value * 2 ^ (31 - f.last) = same_first (mask f) (mask_of fs) parts.0 (bit_and word (mask f)) (bit_and word (mask_of fs)) (f.value * 2 ^ (31 - f.last)) (value_of fs) (twice word (mask f)) (twice word (mask_of fs)) own (within fs parts.1 t.1) sum in (
      same_value (field_of 32 word f.first f.last) f.value (31 - f.last) (sym (in_field word (f.last - f.first + 1) (31 - f.last)) ∙ first),
      reads_of_sum word fs parts.1 t.1 (rest (bit_and word (mask f)) (bit_and word (mask_of fs)) (f.value * 2 ^ (31 - f.last)) (value_of fs) sum first),
    )
  where
    twice : (w m : ℕ) → bit_and (bit_and w m) m ≡ bit_and w m
    twice w m = same_from_bits (bit_and (bit_and w m) m) (bit_and w m) (λ i. bit_at_and (bit_and w m) m i ∙ ap (λ k. min k (bit_at m i)) (bit_at_and w m i) ∙ rule (bit_at w i) (bit_at m i) ∙ sym (bit_at_and w m i))
      where
        rule : (a b : ℕ) → min (min a b) b ≡ min a b
        rule a b = omega arith

    rest : (a b c d : ℕ) → a + b ≡ c + d → a ≡ c → b ≡ d
    rest a b c d e f = omega arith

-- ---- two lists of fields

pub mask_both : (fs gs : List Fixed) → mask_of (fs ++ gs) ≡ mask_of fs + mask_of gs
mask_both [] gs = sym (zero-add (mask_of gs))
mask_both (f ∷ fs) gs = ap (λ k. mask f + k) (mask_both fs gs) ∙ regroup (mask f) (mask_of fs) (mask_of gs)
  where
    regroup : (a b c : ℕ) → a + (b + c) ≡ a + b + c
    regroup a b c = omega arith

pub value_both : (fs gs : List Fixed) → value_of (fs ++ gs) ≡ value_of fs + value_of gs
value_both [] gs = sym (zero-add (value_of gs))
value_both (f ∷ fs) gs = ap (λ k. f.value * 2 ^ (31 - f.last) + k) (value_both fs gs) ∙ regroup (f.value * 2 ^ (31 - f.last)) (value_of fs) (value_of gs)
  where
    regroup : (a b c : ℕ) → a + (b + c) ≡ a + b + c
    regroup a b c = omega arith

pub masks_both : (fs gs : List Fixed) → masks (fs ++ gs) ≡ masks fs ++ masks gs
masks_both [] gs = refl
masks_both (f ∷ fs) gs = ap (λ ms. mask f ∷ ms) (masks_both fs gs)

pub fitted_both : (fs gs : List Fixed) → Fitted fs → Fitted gs → Fitted (fs ++ gs)
fitted_both [] gs s t = t
fitted_both (f ∷ fs) gs s t = (s.0, fitted_both fs gs s.1 t)

pub reads_both : (word : ℕ) (fs gs : List Fixed) → Reads word fs → Reads word gs → Reads word (fs ++ gs)
reads_both word [] gs r s = s
reads_both word (f ∷ fs) gs r s = (r.0, reads_both word fs gs r.1 s)

pub reads_first : (word : ℕ) (fs gs : List Fixed) → Reads word (fs ++ gs) → Reads word fs
reads_first word [] gs r = tt
reads_first word (f ∷ fs) gs r = (r.0, reads_first word fs gs r.1)

pub reads_second : (word : ℕ) (fs gs : List Fixed) → Reads word (fs ++ gs) → Reads word gs
reads_second word [] gs r = r
reads_second word (f ∷ fs) gs r = reads_second word fs gs r.1
