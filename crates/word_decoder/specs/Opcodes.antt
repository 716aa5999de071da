-- Written by tools/make_tables.py from docs/INSTRUCTIONS.md.
-- What the decoder's branches on opcodes answer. No promise is made in these words: they are the parts of the one
-- function whose contract is the row of the table.
use Rattle.std.specs.Prelude.{ℕ, ◌/◌, ◌%◌, ◌==◌, if◌then◌else◌, List, [], ◌∷◌, Option, Some, None}
use Rattle.ppc_ops.specs.declared.op.Op.{Op}
use Rattle.ppc_ops.specs.declared.op.Op.TheVariants.{Addi, Addis, Addic, AddicDot, Subfic, Mulli, Addpcis, Add, Subf, Addc, Subfc, Adde, Subfe, Addme, Subfme, Addze, Subfze, Neg, Mullw, Mulld, Divw, Divwu, Divd, Divdu, Divwe, Divweu, Divde, Divdeu, Mulhw, Mulhwu, Mulhd, Mulhdu, Modsw, Moduw, Modsd, Modud, Maddhd, Maddhdu, Maddld, Ori, Oris, Xori, Xoris, AndiDot, AndisDot, And, Or, Xor, Nand, Nor, Eqv, Andc, Orc, Slw, Srw, Sraw, Sld, Srd, Srad, Extsb, Extsh, Extsw, Cntlzw, Cntlzd, Cnttzw, Cnttzd, Popcntb, Popcntw, Popcntd, Prtyw, Prtyd, Cmpb, Bpermd, Srawi, Sradi, Extswsli, Rlwimi, Rlwinm, Rlwnm, Rldicl, Rldicr, Rldic, Rldimi, Rldcl, Rldcr, Isel, Cmpi, Cmpli, Cmp, Cmpl, Cmprb, Cmpeqb, Setb, Tdi, Twi, Tw, Td, B, Bc, Bclr, Bcctr, Bctar, Crand, Cror, Crxor, Crnand, Crnor, Creqv, Crandc, Crorc, Mcrf, Mcrxrx, Mfcr, Mfocrf, Mtcrf, Mtocrf, Lwz, Lwzu, Lbz, Lbzu, Stw, Stwu, Stb, Stbu, Lhz, Lhzu, Lha, Lhau, Sth, Sthu, Ld, Ldu, Lwa, Std, Stdu, Lwzx, Lwzux, Lbzx, Lbzux, Lhzx, Lhzux, Lhax, Lhaux, Lwax, Lwaux, Ldx, Ldux, Stwx, Stwux, Stbx, Stbux, Sthx, Sthux, Stdx, Stdux, Lwbrx, Lhbrx, Ldbrx, Stwbrx, Sthbrx, Stdbrx, Lbarx, Lharx, Lwarx, Ldarx, StbcxDot, SthcxDot, StwcxDot, StdcxDot, Lwzcix, Lhzcix, Lbzcix, Ldcix, Stwcix, Sthcix, Stbcix, Stdcix, Dcbz, Dcbf, Dcbst, Dcbt, Dcbtst, Icbi, Mfspr, Mtspr, Mftb, Mfmsr, Mtmsr, Mtmsrd, Sync, Eieio, Tlbsync, Tlbie, Tlbiel, Msgsnd, Msgclr, Isync, Rfid, Hrfid, Sc}

-- the operation beside a key
abbrev pub chosen : List (ℕ × Op) → ℕ → Option Op
chosen [] key = None
chosen ((k, op) ∷ rest) key = if key == k then Some op else chosen rest key

-- the operation of a primary opcode that has no extended one
abbrev pub plain : ℕ → Option Op
plain = chosen (
    (2, Tdi) ∷
    (3, Twi) ∷
    (7, Mulli) ∷
    (8, Subfic) ∷
    (10, Cmpli) ∷
    (11, Cmpi) ∷
    (12, Addic) ∷
    (13, AddicDot) ∷
    (14, Addi) ∷
    (15, Addis) ∷
    (16, Bc) ∷
    (18, B) ∷
    (20, Rlwimi) ∷
    (21, Rlwinm) ∷
    (23, Rlwnm) ∷
    (24, Ori) ∷
    (25, Oris) ∷
    (26, Xori) ∷
    (27, Xoris) ∷
    (28, AndiDot) ∷
    (29, AndisDot) ∷
    (32, Lwz) ∷
    (33, Lwzu) ∷
    (34, Lbz) ∷
    (35, Lbzu) ∷
    (36, Stw) ∷
    (37, Stwu) ∷
    (38, Stb) ∷
    (39, Stbu) ∷
    (40, Lhz) ∷
    (41, Lhzu) ∷
    (42, Lha) ∷
    (43, Lhau) ∷
    (44, Sth) ∷
    (45, Sthu) ∷
    [])

-- the operation of primary opcode 4, by bits 26 to 31
abbrev pub extended_4 : ℕ → Option Op
extended_4 = chosen (
    (48, Maddhd) ∷
    (49, Maddhdu) ∷
    (51, Maddld) ∷
    [])

-- the operation of primary opcode 17, by bit 30
abbrev pub extended_17 : ℕ → Option Op
extended_17 = chosen (
    (1, Sc) ∷
    [])

-- the operation of primary opcode 19, by bits 21 to 30
abbrev pub extended_19 : ℕ → Option Op
extended_19 = chosen (
    (0, Mcrf) ∷
    (2, Addpcis) ∷
    (16, Bclr) ∷
    (18, Rfid) ∷
    (33, Crnor) ∷
    (34, Addpcis) ∷
    (66, Addpcis) ∷
    (98, Addpcis) ∷
    (129, Crandc) ∷
    (130, Addpcis) ∷
    (150, Isync) ∷
    (162, Addpcis) ∷
    (193, Crxor) ∷
    (194, Addpcis) ∷
    (225, Crnand) ∷
    (226, Addpcis) ∷
    (257, Crand) ∷
    (258, Addpcis) ∷
    (274, Hrfid) ∷
    (289, Creqv) ∷
    (290, Addpcis) ∷
    (322, Addpcis) ∷
    (354, Addpcis) ∷
    (386, Addpcis) ∷
    (417, Crorc) ∷
    (418, Addpcis) ∷
    (449, Cror) ∷
    (450, Addpcis) ∷
    (482, Addpcis) ∷
    (514, Addpcis) ∷
    (528, Bcctr) ∷
    (546, Addpcis) ∷
    (560, Bctar) ∷
    (578, Addpcis) ∷
    (610, Addpcis) ∷
    (642, Addpcis) ∷
    (674, Addpcis) ∷
    (706, Addpcis) ∷
    (738, Addpcis) ∷
    (770, Addpcis) ∷
    (802, Addpcis) ∷
    (834, Addpcis) ∷
    (866, Addpcis) ∷
    (898, Addpcis) ∷
    (930, Addpcis) ∷
    (962, Addpcis) ∷
    (994, Addpcis) ∷
    [])

-- the operation of primary opcode 30, by bits 27 to 30
abbrev pub extended_30 : ℕ → Option Op
extended_30 = chosen (
    (0, Rldicl) ∷
    (1, Rldicl) ∷
    (2, Rldicr) ∷
    (3, Rldicr) ∷
    (4, Rldic) ∷
    (5, Rldic) ∷
    (6, Rldimi) ∷
    (7, Rldimi) ∷
    (8, Rldcl) ∷
    (9, Rldcr) ∷
    [])

-- the operation of primary opcode 58, by bits 30 to 31
abbrev pub extended_58 : ℕ → Option Op
extended_58 = chosen (
    (0, Ld) ∷
    (1, Ldu) ∷
    (2, Lwa) ∷
    [])

-- the operation of primary opcode 62, by bits 30 to 31
abbrev pub extended_62 : ℕ → Option Op
extended_62 = chosen (
    (0, Std) ∷
    (1, Stdu) ∷
    [])

-- the operation of primary opcode 31 whose extended opcode ends in 0, by its upper half
abbrev pub ending_0 : ℕ → Option Op
ending_0 = chosen (
    (0, Cmp) ∷
    (1, Cmpl) ∷
    (4, Setb) ∷
    (6, Cmprb) ∷
    (7, Cmpeqb) ∷
    (18, Mcrxrx) ∷
    [])

-- the operation of primary opcode 31 whose extended opcode ends in 4, by its upper half
abbrev pub ending_4 : ℕ → Option Op
ending_4 = chosen (
    (0, Tw) ∷
    (2, Td) ∷
    [])

-- the operation of primary opcode 31 whose extended opcode ends in 8, by its upper half
abbrev pub ending_8 : ℕ → Option Op
ending_8 = chosen (
    (0, Subfc) ∷
    (1, Subf) ∷
    (3, Neg) ∷
    (4, Subfe) ∷
    (6, Subfze) ∷
    (7, Subfme) ∷
    (16, Subfc) ∷
    (17, Subf) ∷
    (19, Neg) ∷
    (20, Subfe) ∷
    (22, Subfze) ∷
    (23, Subfme) ∷
    [])

-- the operation of primary opcode 31 whose extended opcode ends in 9, by its upper half
abbrev pub ending_9 : ℕ → Option Op
ending_9 = chosen (
    (0, Mulhdu) ∷
    (2, Mulhd) ∷
    (7, Mulld) ∷
    (8, Modud) ∷
    (12, Divdeu) ∷
    (13, Divde) ∷
    (14, Divdu) ∷
    (15, Divd) ∷
    (16, Mulhdu) ∷
    (18, Mulhd) ∷
    (23, Mulld) ∷
    (24, Modsd) ∷
    (28, Divdeu) ∷
    (29, Divde) ∷
    (30, Divdu) ∷
    (31, Divd) ∷
    [])

-- the operation of primary opcode 31 whose extended opcode ends in 10, by its upper half
abbrev pub ending_10 : ℕ → Option Op
ending_10 = chosen (
    (0, Addc) ∷
    (4, Adde) ∷
    (6, Addze) ∷
    (7, Addme) ∷
    (8, Add) ∷
    (16, Addc) ∷
    (20, Adde) ∷
    (22, Addze) ∷
    (23, Addme) ∷
    (24, Add) ∷
    [])

-- the operation of primary opcode 31 whose extended opcode ends in 11, by its upper half
abbrev pub ending_11 : ℕ → Option Op
ending_11 = chosen (
    (0, Mulhwu) ∷
    (2, Mulhw) ∷
    (7, Mullw) ∷
    (8, Moduw) ∷
    (12, Divweu) ∷
    (13, Divwe) ∷
    (14, Divwu) ∷
    (15, Divw) ∷
    (16, Mulhwu) ∷
    (18, Mulhw) ∷
    (23, Mullw) ∷
    (24, Modsw) ∷
    (28, Divweu) ∷
    (29, Divwe) ∷
    (30, Divwu) ∷
    (31, Divw) ∷
    [])

-- the operation of primary opcode 31 whose extended opcode ends in 14, by its upper half
abbrev pub ending_14 : ℕ → Option Op
ending_14 = chosen (
    (6, Msgsnd) ∷
    (7, Msgclr) ∷
    [])

-- the operation of primary opcode 31 whose extended opcode ends in 15, by its upper half
abbrev pub ending_15 : ℕ → Option Op
ending_15 = chosen (
    (0, Isel) ∷
    (1, Isel) ∷
    (2, Isel) ∷
    (3, Isel) ∷
    (4, Isel) ∷
    (5, Isel) ∷
    (6, Isel) ∷
    (7, Isel) ∷
    (8, Isel) ∷
    (9, Isel) ∷
    (10, Isel) ∷
    (11, Isel) ∷
    (12, Isel) ∷
    (13, Isel) ∷
    (14, Isel) ∷
    (15, Isel) ∷
    (16, Isel) ∷
    (17, Isel) ∷
    (18, Isel) ∷
    (19, Isel) ∷
    (20, Isel) ∷
    (21, Isel) ∷
    (22, Isel) ∷
    (23, Isel) ∷
    (24, Isel) ∷
    (25, Isel) ∷
    (26, Isel) ∷
    (27, Isel) ∷
    (28, Isel) ∷
    (29, Isel) ∷
    (30, Isel) ∷
    (31, Isel) ∷
    [])

-- the operation of primary opcode 31 whose extended opcode ends in 16, by its upper half
abbrev pub ending_16 : ℕ → Option Op
ending_16 = chosen (
    (4, Mtcrf) ∷
    [])

-- the operation of primary opcode 31 whose extended opcode ends in 18, by its upper half
abbrev pub ending_18 : ℕ → Option Op
ending_18 = chosen (
    (4, Mtmsr) ∷
    (5, Mtmsrd) ∷
    (8, Tlbiel) ∷
    (9, Tlbie) ∷
    [])

-- the operation of primary opcode 31 whose extended opcode ends in 19, by its upper half
abbrev pub ending_19 : ℕ → Option Op
ending_19 = chosen (
    (0, Mfcr) ∷
    (2, Mfmsr) ∷
    (10, Mfspr) ∷
    (11, Mftb) ∷
    (14, Mtspr) ∷
    [])

-- the operation of primary opcode 31 whose extended opcode ends in 20, by its upper half
abbrev pub ending_20 : ℕ → Option Op
ending_20 = chosen (
    (0, Lwarx) ∷
    (1, Lbarx) ∷
    (2, Ldarx) ∷
    (3, Lharx) ∷
    (16, Ldbrx) ∷
    (20, Stdbrx) ∷
    [])

-- the operation of primary opcode 31 whose extended opcode ends in 21, by its upper half
abbrev pub ending_21 : ℕ → Option Op
ending_21 = chosen (
    (0, Ldx) ∷
    (1, Ldux) ∷
    (4, Stdx) ∷
    (5, Stdux) ∷
    (10, Lwax) ∷
    (11, Lwaux) ∷
    (24, Lwzcix) ∷
    (25, Lhzcix) ∷
    (26, Lbzcix) ∷
    (27, Ldcix) ∷
    (28, Stwcix) ∷
    (29, Sthcix) ∷
    (30, Stbcix) ∷
    (31, Stdcix) ∷
    [])

-- the operation of primary opcode 31 whose extended opcode ends in 22, by its upper half
abbrev pub ending_22 : ℕ → Option Op
ending_22 = chosen (
    (1, Dcbst) ∷
    (2, Dcbf) ∷
    (4, StwcxDot) ∷
    (6, StdcxDot) ∷
    (7, Dcbtst) ∷
    (8, Dcbt) ∷
    (16, Lwbrx) ∷
    (17, Tlbsync) ∷
    (18, Sync) ∷
    (20, Stwbrx) ∷
    (21, StbcxDot) ∷
    (22, SthcxDot) ∷
    (24, Lhbrx) ∷
    (26, Eieio) ∷
    (28, Sthbrx) ∷
    (30, Icbi) ∷
    (31, Dcbz) ∷
    [])

-- the operation of primary opcode 31 whose extended opcode ends in 23, by its upper half
abbrev pub ending_23 : ℕ → Option Op
ending_23 = chosen (
    (0, Lwzx) ∷
    (1, Lwzux) ∷
    (2, Lbzx) ∷
    (3, Lbzux) ∷
    (4, Stwx) ∷
    (5, Stwux) ∷
    (6, Stbx) ∷
    (7, Stbux) ∷
    (8, Lhzx) ∷
    (9, Lhzux) ∷
    (10, Lhax) ∷
    (11, Lhaux) ∷
    (12, Sthx) ∷
    (13, Sthux) ∷
    [])

-- the operation of primary opcode 31 whose extended opcode ends in 24, by its upper half
abbrev pub ending_24 : ℕ → Option Op
ending_24 = chosen (
    (0, Slw) ∷
    (16, Srw) ∷
    (24, Sraw) ∷
    (25, Srawi) ∷
    [])

-- the operation of primary opcode 31 whose extended opcode ends in 26, by its upper half
abbrev pub ending_26 : ℕ → Option Op
ending_26 = chosen (
    (0, Cntlzw) ∷
    (1, Cntlzd) ∷
    (3, Popcntb) ∷
    (4, Prtyw) ∷
    (5, Prtyd) ∷
    (11, Popcntw) ∷
    (15, Popcntd) ∷
    (16, Cnttzw) ∷
    (17, Cnttzd) ∷
    (24, Srad) ∷
    (25, Sradi) ∷
    (27, Extswsli) ∷
    (28, Extsh) ∷
    (29, Extsb) ∷
    (30, Extsw) ∷
    [])

-- the operation of primary opcode 31 whose extended opcode ends in 27, by its upper half
abbrev pub ending_27 : ℕ → Option Op
ending_27 = chosen (
    (0, Sld) ∷
    (16, Srd) ∷
    (25, Sradi) ∷
    (27, Extswsli) ∷
    [])

-- the operation of primary opcode 31 whose extended opcode ends in 28, by its upper half
abbrev pub ending_28 : ℕ → Option Op
ending_28 = chosen (
    (0, And) ∷
    (1, Andc) ∷
    (3, Nor) ∷
    (7, Bpermd) ∷
    (8, Eqv) ∷
    (9, Xor) ∷
    (12, Orc) ∷
    (13, Or) ∷
    (14, Nand) ∷
    (15, Cmpb) ∷
    [])

-- the operation of primary opcode 31, by the last five bits of its extended opcode and by its upper half
abbrev pub by_ending : ℕ → ℕ → Option Op
by_ending low high =
    if low == 0 then ending_0 high else (
    if low == 4 then ending_4 high else (
    if low == 8 then ending_8 high else (
    if low == 9 then ending_9 high else (
    if low == 10 then ending_10 high else (
    if low == 11 then ending_11 high else (
    if low == 14 then ending_14 high else (
    if low == 15 then ending_15 high else (
    if low == 16 then ending_16 high else (
    if low == 18 then ending_18 high else (
    if low == 19 then ending_19 high else (
    if low == 20 then ending_20 high else (
    if low == 21 then ending_21 high else (
    if low == 22 then ending_22 high else (
    if low == 23 then ending_23 high else (
    if low == 24 then ending_24 high else (
    if low == 26 then ending_26 high else (
    if low == 27 then ending_27 high else (
    if low == 28 then ending_28 high else (
    None)))))))))))))))))))

-- bit 11 parts the moves of the whole condition register from those of one field, and a conditional store has bit 31
abbrev pub adjusted : ℕ → ℕ → Option Op → Option Op
adjusted one_field last (Some Mfcr) = if one_field == 0 then Some Mfcr else Some Mfocrf
adjusted one_field last (Some Mtcrf) = if one_field == 0 then Some Mtcrf else Some Mtocrf
adjusted one_field last (Some StbcxDot) = if last == 0 then None else Some StbcxDot
adjusted one_field last (Some SthcxDot) = if last == 0 then None else Some SthcxDot
adjusted one_field last (Some StwcxDot) = if last == 0 then None else Some StwcxDot
adjusted one_field last (Some StdcxDot) = if last == 0 then None else Some StdcxDot
adjusted one_field last other = other

-- the operation of primary opcode 31, by bit 11 and by bits 21 to 31
abbrev pub extended_31 : ℕ → ℕ → Option Op
extended_31 one_field key = adjusted one_field (key % 2) (by_ending (key / 2 % 32) (key / 64))
