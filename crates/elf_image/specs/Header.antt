-- The headers of an ELF file of 64 bits whose numbers stand with the lowest byte first: the file's own,
-- of 64 bytes, and a segment's, of 56 bytes.
use Rattle.std.specs.Prelude.{ℕ, List, ◌∷◌, ◌++◌, codes, replicate}
use Rattle.byteorder.specs.Endian.{little_bytes}

-- numbers of two, four and eight bytes
abbrev pub half : ℕ → List ℕ
half x = little_bytes 2 x

abbrev pub word : ℕ → List ℕ
word x = little_bytes 4 x

abbrev pub xword : ℕ → List ℕ
xword x = little_bytes 8 x

-- what the file is: an ELF file of 64 bits, with the lowest byte first, of version 1
abbrev pub identification : List ℕ
identification = 127 ∷ codes "ELF" ++ (2 ∷ 1 ∷ 1 ∷ replicate 9 0)

-- The header of a file: where the program starts, and how many headers of segments follow.
-- An executable file (2) for Power of 64 bits (21), by the second version of its ABI (2).
unfoldable pub header : ℕ → ℕ → List ℕ
header entry count =
    identification
    ++ half 2
    ++ half 21
    ++ word 1
    ++ xword entry
    ++ xword 64
    ++ xword 0
    ++ word 2
    ++ half 64
    ++ half 56
    ++ half count
    ++ half 0
    ++ half 0
    ++ half 0

-- The header of a segment that is loaded (1), and may be read, written and run (7): where its bytes
-- stand in the file, where it lies in memory, how many bytes the file has of it, and how many memory.
unfoldable pub program_header : ℕ → ℕ → ℕ → ℕ → List ℕ
program_header offset at filesz memsz =
    word 1
    ++ word 7
    ++ xword offset
    ++ xword at
    ++ xword at
    ++ xword filesz
    ++ xword memsz
    ++ xword 1
