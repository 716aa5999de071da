-- Rotations under a mask (Power ISA, Book I, 3.3.14).
use Rattle.std.specs.Prelude.{ℕ, ◌+◌, ◌*◌, ◌^◌, if◌then◌else◌}
use Rattle.ppc_bits.specs.Bits.{bit, is_set, field_of, low, word_of, mask_of, rotated}

-- the bits of r where the mask m has ones, those of old elsewhere
abbrev pub inserted : ℕ → ℕ → ℕ → ℕ
inserted r m old = word_of 64 (λ i. if is_set 64 m i then bit 64 r i else bit 64 old i)

-- the low word turned left, in both words
abbrev pub turned_word : ℕ → ℕ → ℕ
turned_word s by = rotated 32 (low 32 s) by * 2 ^ 32 + rotated 32 (low 32 s) by

abbrev pub turned : ℕ → ℕ → ℕ
turned s by = rotated 64 s by

-- the mask of a rotation of words, whose bits are numbered in the low word
abbrev pub word_mask : ℕ → ℕ → ℕ
word_mask mb me = mask_of (mb + 32) (me + 32)

-- how far a register turns a word, and a doubleword
abbrev pub word_turn : ℕ → ℕ
word_turn b = field_of 64 b 59 63

abbrev pub turn : ℕ → ℕ
turn b = field_of 64 b 58 63
