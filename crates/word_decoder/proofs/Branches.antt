-- Written by tools/make_tables.py from docs/INSTRUCTIONS.md.
-- The decoder's branches on extended opcodes find the row of the table, by computing both for each key.
use Rattle.std.proofs.Common.{◌≡◌, ℕ, ◌+◌, ◌*◌, ◌/◌, ◌%◌, ◌^◌, ◌<◌, true, Option, refl, sym, ap, ◌∙◌, arith}
use Rattle.ppc_ops.specs.declared.op.Op.{Op}
use Rattle.ppc_ops.specs.Table.{rows}
use Rattle.word_decoder.specs.Find.{find_op, op_at}
use Rattle.word_decoder.specs.Opcodes.{extended_4, extended_17, extended_19, extended_30, extended_31, extended_58, extended_62}
use Rattle.word_decoder.proofs.Keys.{of_primary, masks_in, op_in_primary, values, same_below, further, field_key, word_key, two_parts}

at_4 : values extended_4 64 ≡ values (λ x. find_op (of_primary 4 rows) (4 * 2 ^ 26 + x * 2 ^ 0)) 64
unfolding rows find_op
at_4 = refl

keys_4 : masks_in (63 * 2 ^ 26 + 63) (of_primary 4 rows) ≡ true
unfolding rows
keys_4 = refl

pub case_4 : (word : ℕ) → word < 2 ^ 32 → word / 2 ^ 26 ≡ 4 → extended_4 (word / 2 ^ 0 % 2 ^ 6) ≡ op_at word
case_4 word f e =
    same_below extended_4 (λ x. find_op (of_primary 4 rows) (4 * 2 ^ 26 + x * 2 ^ 0)) 64 at_4 (word / 2 ^ 0 % 2 ^ 6) (omega arith)
    ∙ ap (find_op (of_primary 4 rows)) (same word ∙ sym (field_key word 4 6 0 e (omega arith) (omega arith)))
    ∙ sym (op_in_primary 4 (63 * 2 ^ 26 + 63) word f e keys_4)
  where
    same : (word : ℕ) → 4 * 2 ^ 26 + (word / 2 ^ 0 % 2 ^ 6) * 2 ^ 0 ≡ 4 * 2 ^ 26 + (word % 2 ^ 26 / 2 ^ 0 % 2 ^ 6) * 2 ^ 0
    same word = omega arith

at_17 : values extended_17 2 ≡ values (λ x. find_op (of_primary 17 rows) (17 * 2 ^ 26 + x * 2 ^ 1)) 2
unfolding rows find_op
at_17 = refl

keys_17 : masks_in (63 * 2 ^ 26 + 2) (of_primary 17 rows) ≡ true
unfolding rows
keys_17 = refl

pub case_17 : (word : ℕ) → word < 2 ^ 32 → word / 2 ^ 26 ≡ 17 → extended_17 (word / 2 ^ 1 % 2 ^ 1) ≡ op_at word
case_17 word f e =
    same_below extended_17 (λ x. find_op (of_primary 17 rows) (17 * 2 ^ 26 + x * 2 ^ 1)) 2 at_17 (word / 2 ^ 1 % 2 ^ 1) (omega arith)
    ∙ ap (find_op (of_primary 17 rows)) (same word ∙ sym (field_key word 17 1 1 e (omega arith) (omega arith)))
    ∙ sym (op_in_primary 17 (63 * 2 ^ 26 + 2) word f e keys_17)
  where
    same : (word : ℕ) → 17 * 2 ^ 26 + (word / 2 ^ 1 % 2 ^ 1) * 2 ^ 1 ≡ 17 * 2 ^ 26 + (word % 2 ^ 26 / 2 ^ 1 % 2 ^ 1) * 2 ^ 1
    same word = omega arith

at_19 : values extended_19 1024 ≡ values (λ x. find_op (of_primary 19 rows) (19 * 2 ^ 26 + x * 2 ^ 1)) 1024
unfolding rows find_op
at_19 = refl

keys_19 : masks_in (63 * 2 ^ 26 + 2046) (of_primary 19 rows) ≡ true
unfolding rows
keys_19 = refl

pub case_19 : (word : ℕ) → word < 2 ^ 32 → word / 2 ^ 26 ≡ 19 → extended_19 (word / 2 ^ 1 % 2 ^ 10) ≡ op_at word
case_19 word f e =
    same_below extended_19 (λ x. find_op (of_primary 19 rows) (19 * 2 ^ 26 + x * 2 ^ 1)) 1024 at_19 (word / 2 ^ 1 % 2 ^ 10) (omega arith)
    ∙ ap (find_op (of_primary 19 rows)) (same word ∙ sym (field_key word 19 10 1 e (omega arith) (omega arith)))
    ∙ sym (op_in_primary 19 (63 * 2 ^ 26 + 2046) word f e keys_19)
  where
    same : (word : ℕ) → 19 * 2 ^ 26 + (word / 2 ^ 1 % 2 ^ 10) * 2 ^ 1 ≡ 19 * 2 ^ 26 + (word % 2 ^ 26 / 2 ^ 1 % 2 ^ 10) * 2 ^ 1
    same word = omega arith

at_30 : values extended_30 16 ≡ values (λ x. find_op (of_primary 30 rows) (30 * 2 ^ 26 + x * 2 ^ 1)) 16
unfolding rows find_op
at_30 = refl

keys_30 : masks_in (63 * 2 ^ 26 + 30) (of_primary 30 rows) ≡ true
unfolding rows
keys_30 = refl

pub case_30 : (word : ℕ) → word < 2 ^ 32 → word / 2 ^ 26 ≡ 30 → extended_30 (word / 2 ^ 1 % 2 ^ 4) ≡ op_at word
case_30 word f e =
    same_below extended_30 (λ x. find_op (of_primary 30 rows) (30 * 2 ^ 26 + x * 2 ^ 1)) 16 at_30 (word / 2 ^ 1 % 2 ^ 4) (omega arith)
    ∙ ap (find_op (of_primary 30 rows)) (same word ∙ sym (field_key word 30 4 1 e (omega arith) (omega arith)))
    ∙ sym (op_in_primary 30 (63 * 2 ^ 26 + 30) word f e keys_30)
  where
    same : (word : ℕ) → 30 * 2 ^ 26 + (word / 2 ^ 1 % 2 ^ 4) * 2 ^ 1 ≡ 30 * 2 ^ 26 + (word % 2 ^ 26 / 2 ^ 1 % 2 ^ 4) * 2 ^ 1
    same word = omega arith

at_58 : values extended_58 4 ≡ values (λ x. find_op (of_primary 58 rows) (58 * 2 ^ 26 + x * 2 ^ 0)) 4
unfolding rows find_op
at_58 = refl

keys_58 : masks_in (63 * 2 ^ 26 + 3) (of_primary 58 rows) ≡ true
unfolding rows
keys_58 = refl

pub case_58 : (word : ℕ) → word < 2 ^ 32 → word / 2 ^ 26 ≡ 58 → extended_58 (word / 2 ^ 0 % 2 ^ 2) ≡ op_at word
case_58 word f e =
    same_below extended_58 (λ x. find_op (of_primary 58 rows) (58 * 2 ^ 26 + x * 2 ^ 0)) 4 at_58 (word / 2 ^ 0 % 2 ^ 2) (omega arith)
    ∙ ap (find_op (of_primary 58 rows)) (same word ∙ sym (field_key word 58 2 0 e (omega arith) (omega arith)))
    ∙ sym (op_in_primary 58 (63 * 2 ^ 26 + 3) word f e keys_58)
  where
    same : (word : ℕ) → 58 * 2 ^ 26 + (word / 2 ^ 0 % 2 ^ 2) * 2 ^ 0 ≡ 58 * 2 ^ 26 + (word % 2 ^ 26 / 2 ^ 0 % 2 ^ 2) * 2 ^ 0
    same word = omega arith

at_62 : values extended_62 4 ≡ values (λ x. find_op (of_primary 62 rows) (62 * 2 ^ 26 + x * 2 ^ 0)) 4
unfolding rows find_op
at_62 = refl

keys_62 : masks_in (63 * 2 ^ 26 + 3) (of_primary 62 rows) ≡ true
unfolding rows
keys_62 = refl

pub case_62 : (word : ℕ) → word < 2 ^ 32 → word / 2 ^ 26 ≡ 62 → extended_62 (word / 2 ^ 0 % 2 ^ 2) ≡ op_at word
case_62 word f e =
    same_below extended_62 (λ x. find_op (of_primary 62 rows) (62 * 2 ^ 26 + x * 2 ^ 0)) 4 at_62 (word / 2 ^ 0 % 2 ^ 2) (omega arith)
    ∙ ap (find_op (of_primary 62 rows)) (same word ∙ sym (field_key word 62 2 0 e (omega arith) (omega arith)))
    ∙ sym (op_in_primary 62 (63 * 2 ^ 26 + 3) word f e keys_62)
  where
    same : (word : ℕ) → 62 * 2 ^ 26 + (word / 2 ^ 0 % 2 ^ 2) * 2 ^ 0 ≡ 62 * 2 ^ 26 + (word % 2 ^ 26 / 2 ^ 0 % 2 ^ 2) * 2 ^ 0
    same word = omega arith

-- primary opcode 31: a key is bit 11 followed by the last eleven bits
abbrev by_code : ℕ → Option Op
by_code n = extended_31 (n / 2048) (n % 2048)

abbrev by_rows : ℕ → Option Op
by_rows n = find_op (of_primary 31 rows) (31 * 2 ^ 26 + (n / 2048 * 2 ^ 20 + n % 2048))

none_31 : (n : ℕ) → n < 0 → by_code n ≡ by_rows n
none_31 n h = absurd (omega arith)

to_256 : (n : ℕ) → n < 256 → by_code n ≡ by_rows n
unfolding rows find_op
to_256 = further by_code by_rows 0 none_31 refl

to_512 : (n : ℕ) → n < 512 → by_code n ≡ by_rows n
unfolding rows find_op
to_512 = further by_code by_rows 256 to_256 refl

to_768 : (n : ℕ) → n < 768 → by_code n ≡ by_rows n
unfolding rows find_op
to_768 = further by_code by_rows 512 to_512 refl

to_1024 : (n : ℕ) → n < 1024 → by_code n ≡ by_rows n
unfolding rows find_op
to_1024 = further by_code by_rows 768 to_768 refl

to_1280 : (n : ℕ) → n < 1280 → by_code n ≡ by_rows n
unfolding rows find_op
to_1280 = further by_code by_rows 1024 to_1024 refl

to_1536 : (n : ℕ) → n < 1536 → by_code n ≡ by_rows n
unfolding rows find_op
to_1536 = further by_code by_rows 1280 to_1280 refl

to_1792 : (n : ℕ) → n < 1792 → by_code n ≡ by_rows n
unfolding rows find_op
to_1792 = further by_code by_rows 1536 to_1536 refl

to_2048 : (n : ℕ) → n < 2048 → by_code n ≡ by_rows n
unfolding rows find_op
to_2048 = further by_code by_rows 1792 to_1792 refl

to_2304 : (n : ℕ) → n < 2304 → by_code n ≡ by_rows n
unfolding rows find_op
to_2304 = further by_code by_rows 2048 to_2048 refl

to_2560 : (n : ℕ) → n < 2560 → by_code n ≡ by_rows n
unfolding rows find_op
to_2560 = further by_code by_rows 2304 to_2304 refl

to_2816 : (n : ℕ) → n < 2816 → by_code n ≡ by_rows n
unfolding rows find_op
to_2816 = further by_code by_rows 2560 to_2560 refl

to_3072 : (n : ℕ) → n < 3072 → by_code n ≡ by_rows n
unfolding rows find_op
to_3072 = further by_code by_rows 2816 to_2816 refl

to_3328 : (n : ℕ) → n < 3328 → by_code n ≡ by_rows n
unfolding rows find_op
to_3328 = further by_code by_rows 3072 to_3072 refl

to_3584 : (n : ℕ) → n < 3584 → by_code n ≡ by_rows n
unfolding rows find_op
to_3584 = further by_code by_rows 3328 to_3328 refl

to_3840 : (n : ℕ) → n < 3840 → by_code n ≡ by_rows n
unfolding rows find_op
to_3840 = further by_code by_rows 3584 to_3584 refl

to_4096 : (n : ℕ) → n < 4096 → by_code n ≡ by_rows n
unfolding rows find_op
to_4096 = further by_code by_rows 3840 to_3840 refl

keys_31 : masks_in (63 * 2 ^ 26 + (2 ^ 20 + 2047)) (of_primary 31 rows) ≡ true
unfolding rows
keys_31 = refl

pub case_31 : (word : ℕ) → word < 2 ^ 32 → word / 2 ^ 26 ≡ 31 → extended_31 (word / 2 ^ 20 % 2 ^ 1) (word / 2 ^ 0 % 2 ^ 11) ≡ op_at word
case_31 word f e =
    let eleven : (word / 2 ^ 20 % 2 * 2048 + word % 2048) / 2048 ≡ word / 2 ^ 20 % 2 ^ 1 = omega arith in
    let key : (word / 2 ^ 20 % 2 * 2048 + word % 2048) % 2048 ≡ word / 2 ^ 0 % 2 ^ 11 = omega arith in
    let there : by_code (word / 2 ^ 20 % 2 * 2048 + word % 2048) ≡ by_rows (word / 2 ^ 20 % 2 * 2048 + word % 2048) = to_4096 (word / 2 ^ 20 % 2 * 2048 + word % 2048) (omega arith) in
    ap (λ x. extended_31 x (word / 2 ^ 0 % 2 ^ 11)) (sym eleven)
    ∙ ap (extended_31 ((word / 2 ^ 20 % 2 * 2048 + word % 2048) / 2048)) (sym key)
    ∙ there
    ∙ ap (find_op (of_primary 31 rows)) (same word ∙ ap (λ n. 31 * 2 ^ 26 + n) (sym (two_parts (word % 2 ^ 26))) ∙ sym (word_key word 31 (2 ^ 20 + 2047) e (omega arith) (omega arith)))
    ∙ sym (op_in_primary 31 (63 * 2 ^ 26 + (2 ^ 20 + 2047)) word f e keys_31)
  where
    same : (word : ℕ) → 31 * 2 ^ 26 + ((word / 2 ^ 20 % 2 * 2048 + word % 2048) / 2048 * 2 ^ 20 + (word / 2 ^ 20 % 2 * 2048 + word % 2048) % 2048) ≡ 31 * 2 ^ 26 + (word % 2 ^ 26 / 2 ^ 20 % 2 * 2 ^ 20 + word % 2 ^ 26 % 2 ^ 11)
    same word = omega arith
