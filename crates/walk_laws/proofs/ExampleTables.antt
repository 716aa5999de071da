-- Small tables, for examples.
use Rattle.std.proofs.Common.{ℕ, ◌+◌, ◌-◌, ◌*◌, ◌/◌, ◌%◌, List, [], ◌∷◌, Option, Some, None}
use Rattle.std.specs.Prelude.{if◌then◌else◌, ◌==◌, nat_lt, nat_le, ◌&&◌}
use Rattle.journal_core.specs.declared.asks.Ask.{Ask}
use Rattle.journal_core.specs.declared.asks.AccessKind.{AccessKind}

-- these words, and others where they have none
abbrev pub with_words : List (ℕ × ℕ) → (ℕ → Option ℕ) → ℕ → Option ℕ
with_words [] word at = word at
with_words (w ∷ ws) word at = if w.0 == at then Some w.1 else with_words ws word at

-- a directory and a leaf whose page may be read, written and executed, and is marked as referenced and changed
abbrev pub directory : ℕ → ℕ → ℕ
directory base size = 0x8000_0000_0000_0000 + base + size

abbrev pub leaf : ℕ → ℕ
leaf page = 0xc000_0000_0000_0000 + page + 0x187

-- a leaf without some of the marks and rights 0x187 = 0x100 (referenced) + 0x80 (changed) + 4 (read) + 2 (read, write) + 1 (execute)
abbrev pub leaf_with : ℕ → ℕ → ℕ
leaf_with low page = 0xc000_0000_0000_0000 + page + low

-- Partition 1: a tree of 31 bits with tables of 10 and 9 bits at real 0x10_0000 and 0x10_2000, whose guest pages 0 to 127 lie from
-- real 0x11_0000 on. In it process 1: its entry at guest 0x10, its tree of 31 bits with tables of 10 and 9 bits at guest 0x2000
-- and 0x4000, whose pages 0 to 127 are the guest pages of the same numbers.
abbrev pub tables : ℕ → Option ℕ
tables at =
    if at == 0x2_0010 then Some 0x8000_0000_0010_000a
    else if at == 0x10_0000 then Some (directory 0x10_2000 9)
    else if nat_le 0x10_2000 at && nat_lt at 0x10_2400 then Some (leaf (0x11_0000 + 0x1000 * ((at - 0x10_2000) / 8)))
    else if at == 0x11_0010 then Some 0x200a
    else if at == 0x11_2000 then Some (directory 0x4000 9)
    else if nat_le 0x11_4000 at && nat_lt at 0x11_4400 then Some (leaf (0x1000 * ((at - 0x11_4000) / 8)))
    else if nat_lt at 0x100_0000 then Some 0
    else None

-- an ask of process 1 of partition 1 in a guest's privileged state, with relocation
abbrev pub ask_of : ℕ → AccessKind → Ask
ask_of ea access = record { ea = ea; access = access; msr = 0x8000_0000_0000_1033; lpid = 1; pid = 1; ptcr = 0x2_0000; amr = 0; iamr = 0 }

-- the same in problem state
abbrev pub problem_ask : ℕ → AccessKind → Ask
problem_ask ea access = record { ea = ea; access = access; msr = 0x8000_0000_0000_5033; lpid = 1; pid = 1; ptcr = 0x2_0000; amr = 0; iamr = 0 }

-- the same in privileged state without relocation
abbrev pub guest_ask : ℕ → AccessKind → Ask
guest_ask ea access = record { ea = ea; access = access; msr = 0x8000_0000_0000_1003; lpid = 1; pid = 1; ptcr = 0x2_0000; amr = 0; iamr = 0 }

-- The largest tables: both trees have 52 bits and tables of 13, 9, 9 and 9 bits. The process's entry stands at guest 0x10, and
-- its four tables and the page of its address 0 at the multiples 1 to 5 of 2^39, so that the six guest real addresses of the
-- walk of address 0 share no directory. The guest page of such a multiple i lies at real 0x100_0000 + 0x1000 i.
abbrev pub largest : ℕ → Option ℕ
largest at =
    if at == 0x2_0010 then Some 0xc000_0000_0010_00ad
    else if at == 0x2_0018 then Some 0
    else if nat_le 0x10_0000 at && nat_lt at 0x11_0000 then Some (directory (0x20_0000 + 0x4000 * ((at - 0x10_0000) / 8)) 9)
    else if nat_le 0x20_0000 at && nat_lt at 0x40_0000 then
    (if (at - 0x20_0000) / 0x1000 % 4 == 2 then Some (leaf (0x100_0000 + 0x1000 * ((at - 0x20_0000) / 0x4000))) else Some (directory (at + 0x1000) 9))
    else if at == 0x100_0010 then Some 0x4000_0080_0000_00ad
    else if at == 0x100_1000 then Some (directory 0x100_0000_0000 9)
    else if at == 0x100_2000 then Some (directory 0x180_0000_0000 9)
    else if at == 0x100_3000 then Some (directory 0x200_0000_0000 9)
    else if at == 0x100_4000 then Some (leaf 0x280_0000_0000)
    else None
