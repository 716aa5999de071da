-- Logical operations bit by bit (Power ISA, Book I, 3.3.13).
use Rattle.std.specs.Prelude.{ℕ, ◌+◌, ◌-◌, ◌%◌, min, max}
use Rattle.ppc_bits.specs.Bits.{bit, word_of}

-- the doubleword whose bit i is f of the bits i of a and b
abbrev pub bitwise : (ℕ → ℕ → ℕ) → ℕ → ℕ → ℕ
bitwise f a b = word_of 64 (λ i. f (bit 64 a i) (bit 64 b i))

abbrev pub and_of : ℕ → ℕ → ℕ
and_of a b = bitwise (λ x y. min x y) a b

abbrev pub or_of : ℕ → ℕ → ℕ
or_of a b = bitwise (λ x y. max x y) a b

abbrev pub xor_of : ℕ → ℕ → ℕ
xor_of a b = bitwise (λ x y. (x + y) % 2) a b

abbrev pub nand_of : ℕ → ℕ → ℕ
nand_of a b = bitwise (λ x y. 1 - min x y) a b

abbrev pub nor_of : ℕ → ℕ → ℕ
nor_of a b = bitwise (λ x y. 1 - max x y) a b

abbrev pub eqv_of : ℕ → ℕ → ℕ
eqv_of a b = bitwise (λ x y. 1 - (x + y) % 2) a b

abbrev pub andc_of : ℕ → ℕ → ℕ
andc_of a b = bitwise (λ x y. min x (1 - y)) a b

abbrev pub orc_of : ℕ → ℕ → ℕ
orc_of a b = bitwise (λ x y. max x (1 - y)) a b
