-- Written by tools/make_tables.py from docs/INSTRUCTIONS.md.
-- The instruction table: of each operation the name, the layout of the operands, and the fixed bits of its words.
use Rattle.std.specs.Prelude.{ℕ, List, [], ◌∷◌, codes, map}
use Rattle.ppc_ops.specs.declared.op.Op.{Op}
use Rattle.ppc_ops.specs.declared.op.Op.TheVariants.{Addi, Addis, Addic, AddicDot, Subfic, Mulli, Addpcis, Add, Subf, Addc, Subfc, Adde, Subfe, Addme, Subfme, Addze, Subfze, Neg, Mullw, Mulld, Divw, Divwu, Divd, Divdu, Divwe, Divweu, Divde, Divdeu, Mulhw, Mulhwu, Mulhd, Mulhdu, Modsw, Moduw, Modsd, Modud, Maddhd, Maddhdu, Maddld, Ori, Oris, Xori, Xoris, AndiDot, AndisDot, And, Or, Xor, Nand, Nor, Eqv, Andc, Orc, Slw, Srw, Sraw, Sld, Srd, Srad, Extsb, Extsh, Extsw, Cntlzw, Cntlzd, Cnttzw, Cnttzd, Popcntb, Popcntw, Popcntd, Prtyw, Prtyd, Cmpb, Bpermd, Srawi, Sradi, Extswsli, Rlwimi, Rlwinm, Rlwnm, Rldicl, Rldicr, Rldic, Rldimi, Rldcl, Rldcr, Isel, Cmpi, Cmpli, Cmp, Cmpl, Cmprb, Cmpeqb, Setb, Tdi, Twi, Tw, Td, B, Bc, Bclr, Bcctr, Bctar, Crand, Cror, Crxor, Crnand, Crnor, Creqv, Crandc, Crorc, Mcrf, Mcrxrx, Mfcr, Mfocrf, Mtcrf, Mtocrf, Lwz, Lwzu, Lbz, Lbzu, Stw, Stwu, Stb, Stbu, Lhz, Lhzu, Lha, Lhau, Sth, Sthu, Ld, Ldu, Lwa, Std, Stdu, Lwzx, Lwzux, Lbzx, Lbzux, Lhzx, Lhzux, Lhax, Lhaux, Lwax, Lwaux, Ldx, Ldux, Stwx, Stwux, Stbx, Stbux, Sthx, Sthux, Stdx, Stdux, Lwbrx, Lhbrx, Ldbrx, Stwbrx, Sthbrx, Stdbrx, Lbarx, Lharx, Lwarx, Ldarx, StbcxDot, SthcxDot, StwcxDot, StdcxDot, Lwzcix, Lhzcix, Lbzcix, Ldcix, Stwcix, Sthcix, Stbcix, Stdcix, Dcbz, Dcbf, Dcbst, Dcbt, Dcbtst, Icbi, Mfspr, Mtspr, Mftb, Mfmsr, Mtmsr, Mtmsrd, Sync, Eieio, Tlbsync, Tlbie, Tlbiel, Msgsnd, Msgclr, Isync, Rfid, Hrfid, Sc}
use Rattle.ppc_ops.specs.declared.insn.Layout.{Layout}
use Rattle.ppc_ops.specs.declared.insn.Layout.TheVariants as layout
use Rattle.ppc_ops.specs.declared.op.Row.{Row}
use Rattle.ppc_ops.specs.Rows.{Fixed, at, opcode, row_of}

-- a line of the table
pub record Entry : Type 0 where
  pub name : List ℕ
  pub layout : Layout
  pub fixed : List Fixed

abbrev pub entry : List ℕ → Layout → List Fixed → Entry
entry name layout fixed = record { name = name; layout = layout; fixed = fixed }

abbrev pub entry_of : Op → Entry
entry_of Addi = entry (codes "addi") layout.AddImm (opcode 14 ∷ [])
entry_of Addis = entry (codes "addis") layout.AddImm (opcode 15 ∷ [])
entry_of Addic = entry (codes "addic") layout.AddImm (opcode 12 ∷ [])
entry_of AddicDot = entry (codes "addic.") layout.AddImm (opcode 13 ∷ [])
entry_of Subfic = entry (codes "subfic") layout.AddImm (opcode 8 ∷ [])
entry_of Mulli = entry (codes "mulli") layout.AddImm (opcode 7 ∷ [])
entry_of Addpcis = entry (codes "addpcis") layout.AddPc (opcode 19 ∷ at 26 30 2 ∷ [])
entry_of Add = entry (codes "add") layout.Arith (opcode 31 ∷ at 22 30 266 ∷ [])
entry_of Subf = entry (codes "subf") layout.Arith (opcode 31 ∷ at 22 30 40 ∷ [])
entry_of Addc = entry (codes "addc") layout.Arith (opcode 31 ∷ at 22 30 10 ∷ [])
entry_of Subfc = entry (codes "subfc") layout.Arith (opcode 31 ∷ at 22 30 8 ∷ [])
entry_of Adde = entry (codes "adde") layout.Arith (opcode 31 ∷ at 22 30 138 ∷ [])
entry_of Subfe = entry (codes "subfe") layout.Arith (opcode 31 ∷ at 22 30 136 ∷ [])
entry_of Addme = entry (codes "addme") layout.Arith (opcode 31 ∷ at 22 30 234 ∷ [])
entry_of Subfme = entry (codes "subfme") layout.Arith (opcode 31 ∷ at 22 30 232 ∷ [])
entry_of Addze = entry (codes "addze") layout.Arith (opcode 31 ∷ at 22 30 202 ∷ [])
entry_of Subfze = entry (codes "subfze") layout.Arith (opcode 31 ∷ at 22 30 200 ∷ [])
entry_of Neg = entry (codes "neg") layout.Arith (opcode 31 ∷ at 22 30 104 ∷ [])
entry_of Mullw = entry (codes "mullw") layout.Arith (opcode 31 ∷ at 22 30 235 ∷ [])
entry_of Mulld = entry (codes "mulld") layout.Arith (opcode 31 ∷ at 22 30 233 ∷ [])
entry_of Divw = entry (codes "divw") layout.Arith (opcode 31 ∷ at 22 30 491 ∷ [])
entry_of Divwu = entry (codes "divwu") layout.Arith (opcode 31 ∷ at 22 30 459 ∷ [])
entry_of Divd = entry (codes "divd") layout.Arith (opcode 31 ∷ at 22 30 489 ∷ [])
entry_of Divdu = entry (codes "divdu") layout.Arith (opcode 31 ∷ at 22 30 457 ∷ [])
entry_of Divwe = entry (codes "divwe") layout.Arith (opcode 31 ∷ at 22 30 427 ∷ [])
entry_of Divweu = entry (codes "divweu") layout.Arith (opcode 31 ∷ at 22 30 395 ∷ [])
entry_of Divde = entry (codes "divde") layout.Arith (opcode 31 ∷ at 22 30 425 ∷ [])
entry_of Divdeu = entry (codes "divdeu") layout.Arith (opcode 31 ∷ at 22 30 393 ∷ [])
entry_of Mulhw = entry (codes "mulhw") layout.MulHigh (opcode 31 ∷ at 22 30 75 ∷ [])
entry_of Mulhwu = entry (codes "mulhwu") layout.MulHigh (opcode 31 ∷ at 22 30 11 ∷ [])
entry_of Mulhd = entry (codes "mulhd") layout.MulHigh (opcode 31 ∷ at 22 30 73 ∷ [])
entry_of Mulhdu = entry (codes "mulhdu") layout.MulHigh (opcode 31 ∷ at 22 30 9 ∷ [])
entry_of Modsw = entry (codes "modsw") layout.Modulo (opcode 31 ∷ at 21 30 779 ∷ [])
entry_of Moduw = entry (codes "moduw") layout.Modulo (opcode 31 ∷ at 21 30 267 ∷ [])
entry_of Modsd = entry (codes "modsd") layout.Modulo (opcode 31 ∷ at 21 30 777 ∷ [])
entry_of Modud = entry (codes "modud") layout.Modulo (opcode 31 ∷ at 21 30 265 ∷ [])
entry_of Maddhd = entry (codes "maddhd") layout.MulAdd (opcode 4 ∷ at 26 31 48 ∷ [])
entry_of Maddhdu = entry (codes "maddhdu") layout.MulAdd (opcode 4 ∷ at 26 31 49 ∷ [])
entry_of Maddld = entry (codes "maddld") layout.MulAdd (opcode 4 ∷ at 26 31 51 ∷ [])
entry_of Ori = entry (codes "ori") layout.LogicImm (opcode 24 ∷ [])
entry_of Oris = entry (codes "oris") layout.LogicImm (opcode 25 ∷ [])
entry_of Xori = entry (codes "xori") layout.LogicImm (opcode 26 ∷ [])
entry_of Xoris = entry (codes "xoris") layout.LogicImm (opcode 27 ∷ [])
entry_of AndiDot = entry (codes "andi.") layout.LogicImm (opcode 28 ∷ [])
entry_of AndisDot = entry (codes "andis.") layout.LogicImm (opcode 29 ∷ [])
entry_of And = entry (codes "and") layout.Logic (opcode 31 ∷ at 21 30 28 ∷ [])
entry_of Or = entry (codes "or") layout.Logic (opcode 31 ∷ at 21 30 444 ∷ [])
entry_of Xor = entry (codes "xor") layout.Logic (opcode 31 ∷ at 21 30 316 ∷ [])
entry_of Nand = entry (codes "nand") layout.Logic (opcode 31 ∷ at 21 30 476 ∷ [])
entry_of Nor = entry (codes "nor") layout.Logic (opcode 31 ∷ at 21 30 124 ∷ [])
entry_of Eqv = entry (codes "eqv") layout.Logic (opcode 31 ∷ at 21 30 284 ∷ [])
entry_of Andc = entry (codes "andc") layout.Logic (opcode 31 ∷ at 21 30 60 ∷ [])
entry_of Orc = entry (codes "orc") layout.Logic (opcode 31 ∷ at 21 30 412 ∷ [])
entry_of Slw = entry (codes "slw") layout.Logic (opcode 31 ∷ at 21 30 24 ∷ [])
entry_of Srw = entry (codes "srw") layout.Logic (opcode 31 ∷ at 21 30 536 ∷ [])
entry_of Sraw = entry (codes "sraw") layout.Logic (opcode 31 ∷ at 21 30 792 ∷ [])
entry_of Sld = entry (codes "sld") layout.Logic (opcode 31 ∷ at 21 30 27 ∷ [])
entry_of Srd = entry (codes "srd") layout.Logic (opcode 31 ∷ at 21 30 539 ∷ [])
entry_of Srad = entry (codes "srad") layout.Logic (opcode 31 ∷ at 21 30 794 ∷ [])
entry_of Extsb = entry (codes "extsb") layout.Unary (opcode 31 ∷ at 21 30 954 ∷ [])
entry_of Extsh = entry (codes "extsh") layout.Unary (opcode 31 ∷ at 21 30 922 ∷ [])
entry_of Extsw = entry (codes "extsw") layout.Unary (opcode 31 ∷ at 21 30 986 ∷ [])
entry_of Cntlzw = entry (codes "cntlzw") layout.Unary (opcode 31 ∷ at 21 30 26 ∷ [])
entry_of Cntlzd = entry (codes "cntlzd") layout.Unary (opcode 31 ∷ at 21 30 58 ∷ [])
entry_of Cnttzw = entry (codes "cnttzw") layout.Unary (opcode 31 ∷ at 21 30 538 ∷ [])
entry_of Cnttzd = entry (codes "cnttzd") layout.Unary (opcode 31 ∷ at 21 30 570 ∷ [])
entry_of Popcntb = entry (codes "popcntb") layout.Count (opcode 31 ∷ at 21 30 122 ∷ [])
entry_of Popcntw = entry (codes "popcntw") layout.Count (opcode 31 ∷ at 21 30 378 ∷ [])
entry_of Popcntd = entry (codes "popcntd") layout.Count (opcode 31 ∷ at 21 30 506 ∷ [])
entry_of Prtyw = entry (codes "prtyw") layout.Count (opcode 31 ∷ at 21 30 154 ∷ [])
entry_of Prtyd = entry (codes "prtyd") layout.Count (opcode 31 ∷ at 21 30 186 ∷ [])
entry_of Cmpb = entry (codes "cmpb") layout.Bytes (opcode 31 ∷ at 21 30 508 ∷ [])
entry_of Bpermd = entry (codes "bpermd") layout.Bytes (opcode 31 ∷ at 21 30 252 ∷ [])
entry_of Srawi = entry (codes "srawi") layout.ShiftImm (opcode 31 ∷ at 21 30 824 ∷ [])
entry_of Sradi = entry (codes "sradi") layout.ShiftImm (opcode 31 ∷ at 21 29 413 ∷ [])
entry_of Extswsli = entry (codes "extswsli") layout.ShiftImm (opcode 31 ∷ at 21 29 445 ∷ [])
entry_of Rlwimi = entry (codes "rlwimi") layout.RotWord (opcode 20 ∷ [])
entry_of Rlwinm = entry (codes "rlwinm") layout.RotWord (opcode 21 ∷ [])
entry_of Rlwnm = entry (codes "rlwnm") layout.RotWord (opcode 23 ∷ [])
entry_of Rldicl = entry (codes "rldicl") layout.RotDouble (opcode 30 ∷ at 27 29 0 ∷ [])
entry_of Rldicr = entry (codes "rldicr") layout.RotDouble (opcode 30 ∷ at 27 29 1 ∷ [])
entry_of Rldic = entry (codes "rldic") layout.RotDouble (opcode 30 ∷ at 27 29 2 ∷ [])
entry_of Rldimi = entry (codes "rldimi") layout.RotDouble (opcode 30 ∷ at 27 29 3 ∷ [])
entry_of Rldcl = entry (codes "rldcl") layout.RotDouble (opcode 30 ∷ at 27 30 8 ∷ [])
entry_of Rldcr = entry (codes "rldcr") layout.RotDouble (opcode 30 ∷ at 27 30 9 ∷ [])
entry_of Isel = entry (codes "isel") layout.Select (opcode 31 ∷ at 26 30 15 ∷ [])
entry_of Cmpi = entry (codes "cmpi") layout.CmpImm (opcode 11 ∷ [])
entry_of Cmpli = entry (codes "cmpli") layout.CmpImm (opcode 10 ∷ [])
entry_of Cmp = entry (codes "cmp") layout.Cmp (opcode 31 ∷ at 21 30 0 ∷ [])
entry_of Cmpl = entry (codes "cmpl") layout.Cmp (opcode 31 ∷ at 21 30 32 ∷ [])
entry_of Cmprb = entry (codes "cmprb") layout.CmpByte (opcode 31 ∷ at 21 30 192 ∷ [])
entry_of Cmpeqb = entry (codes "cmpeqb") layout.CmpByte (opcode 31 ∷ at 21 30 224 ∷ [])
entry_of Setb = entry (codes "setb") layout.SetB (opcode 31 ∷ at 21 30 128 ∷ [])
entry_of Tdi = entry (codes "tdi") layout.TrapImm (opcode 2 ∷ [])
entry_of Twi = entry (codes "twi") layout.TrapImm (opcode 3 ∷ [])
entry_of Tw = entry (codes "tw") layout.Trap (opcode 31 ∷ at 21 30 4 ∷ [])
entry_of Td = entry (codes "td") layout.Trap (opcode 31 ∷ at 21 30 68 ∷ [])
entry_of B = entry (codes "b") layout.Jump (opcode 18 ∷ [])
entry_of Bc = entry (codes "bc") layout.Branch (opcode 16 ∷ [])
entry_of Bclr = entry (codes "bclr") layout.BranchReg (opcode 19 ∷ at 21 30 16 ∷ [])
entry_of Bcctr = entry (codes "bcctr") layout.BranchReg (opcode 19 ∷ at 21 30 528 ∷ [])
entry_of Bctar = entry (codes "bctar") layout.BranchReg (opcode 19 ∷ at 21 30 560 ∷ [])
entry_of Crand = entry (codes "crand") layout.CrBit (opcode 19 ∷ at 21 30 257 ∷ [])
entry_of Cror = entry (codes "cror") layout.CrBit (opcode 19 ∷ at 21 30 449 ∷ [])
entry_of Crxor = entry (codes "crxor") layout.CrBit (opcode 19 ∷ at 21 30 193 ∷ [])
entry_of Crnand = entry (codes "crnand") layout.CrBit (opcode 19 ∷ at 21 30 225 ∷ [])
entry_of Crnor = entry (codes "crnor") layout.CrBit (opcode 19 ∷ at 21 30 33 ∷ [])
entry_of Creqv = entry (codes "creqv") layout.CrBit (opcode 19 ∷ at 21 30 289 ∷ [])
entry_of Crandc = entry (codes "crandc") layout.CrBit (opcode 19 ∷ at 21 30 129 ∷ [])
entry_of Crorc = entry (codes "crorc") layout.CrBit (opcode 19 ∷ at 21 30 417 ∷ [])
entry_of Mcrf = entry (codes "mcrf") layout.CrMove (opcode 19 ∷ at 21 30 0 ∷ [])
entry_of Mcrxrx = entry (codes "mcrxrx") layout.MoveXer (opcode 31 ∷ at 21 30 576 ∷ [])
entry_of Mfcr = entry (codes "mfcr") layout.MfCr (opcode 31 ∷ at 11 11 0 ∷ at 21 30 19 ∷ [])
entry_of Mfocrf = entry (codes "mfocrf") layout.MfOneCr (opcode 31 ∷ at 11 11 1 ∷ at 21 30 19 ∷ [])
entry_of Mtcrf = entry (codes "mtcrf") layout.MtCr (opcode 31 ∷ at 11 11 0 ∷ at 21 30 144 ∷ [])
entry_of Mtocrf = entry (codes "mtocrf") layout.MtOneCr (opcode 31 ∷ at 11 11 1 ∷ at 21 30 144 ∷ [])
entry_of Lwz = entry (codes "lwz") layout.Access (opcode 32 ∷ [])
entry_of Lwzu = entry (codes "lwzu") layout.Access (opcode 33 ∷ [])
entry_of Lbz = entry (codes "lbz") layout.Access (opcode 34 ∷ [])
entry_of Lbzu = entry (codes "lbzu") layout.Access (opcode 35 ∷ [])
entry_of Stw = entry (codes "stw") layout.Access (opcode 36 ∷ [])
entry_of Stwu = entry (codes "stwu") layout.Access (opcode 37 ∷ [])
entry_of Stb = entry (codes "stb") layout.Access (opcode 38 ∷ [])
entry_of Stbu = entry (codes "stbu") layout.Access (opcode 39 ∷ [])
entry_of Lhz = entry (codes "lhz") layout.Access (opcode 40 ∷ [])
entry_of Lhzu = entry (codes "lhzu") layout.Access (opcode 41 ∷ [])
entry_of Lha = entry (codes "lha") layout.Access (opcode 42 ∷ [])
entry_of Lhau = entry (codes "lhau") layout.Access (opcode 43 ∷ [])
entry_of Sth = entry (codes "sth") layout.Access (opcode 44 ∷ [])
entry_of Sthu = entry (codes "sthu") layout.Access (opcode 45 ∷ [])
entry_of Ld = entry (codes "ld") layout.Access (opcode 58 ∷ at 30 31 0 ∷ [])
entry_of Ldu = entry (codes "ldu") layout.Access (opcode 58 ∷ at 30 31 1 ∷ [])
entry_of Lwa = entry (codes "lwa") layout.Access (opcode 58 ∷ at 30 31 2 ∷ [])
entry_of Std = entry (codes "std") layout.Access (opcode 62 ∷ at 30 31 0 ∷ [])
entry_of Stdu = entry (codes "stdu") layout.Access (opcode 62 ∷ at 30 31 1 ∷ [])
entry_of Lwzx = entry (codes "lwzx") layout.AccessX (opcode 31 ∷ at 21 30 23 ∷ [])
entry_of Lwzux = entry (codes "lwzux") layout.AccessX (opcode 31 ∷ at 21 30 55 ∷ [])
entry_of Lbzx = entry (codes "lbzx") layout.AccessX (opcode 31 ∷ at 21 30 87 ∷ [])
entry_of Lbzux = entry (codes "lbzux") layout.AccessX (opcode 31 ∷ at 21 30 119 ∷ [])
entry_of Lhzx = entry (codes "lhzx") layout.AccessX (opcode 31 ∷ at 21 30 279 ∷ [])
entry_of Lhzux = entry (codes "lhzux") layout.AccessX (opcode 31 ∷ at 21 30 311 ∷ [])
entry_of Lhax = entry (codes "lhax") layout.AccessX (opcode 31 ∷ at 21 30 343 ∷ [])
entry_of Lhaux = entry (codes "lhaux") layout.AccessX (opcode 31 ∷ at 21 30 375 ∷ [])
entry_of Lwax = entry (codes "lwax") layout.AccessX (opcode 31 ∷ at 21 30 341 ∷ [])
entry_of Lwaux = entry (codes "lwaux") layout.AccessX (opcode 31 ∷ at 21 30 373 ∷ [])
entry_of Ldx = entry (codes "ldx") layout.AccessX (opcode 31 ∷ at 21 30 21 ∷ [])
entry_of Ldux = entry (codes "ldux") layout.AccessX (opcode 31 ∷ at 21 30 53 ∷ [])
entry_of Stwx = entry (codes "stwx") layout.AccessX (opcode 31 ∷ at 21 30 151 ∷ [])
entry_of Stwux = entry (codes "stwux") layout.AccessX (opcode 31 ∷ at 21 30 183 ∷ [])
entry_of Stbx = entry (codes "stbx") layout.AccessX (opcode 31 ∷ at 21 30 215 ∷ [])
entry_of Stbux = entry (codes "stbux") layout.AccessX (opcode 31 ∷ at 21 30 247 ∷ [])
entry_of Sthx = entry (codes "sthx") layout.AccessX (opcode 31 ∷ at 21 30 407 ∷ [])
entry_of Sthux = entry (codes "sthux") layout.AccessX (opcode 31 ∷ at 21 30 439 ∷ [])
entry_of Stdx = entry (codes "stdx") layout.AccessX (opcode 31 ∷ at 21 30 149 ∷ [])
entry_of Stdux = entry (codes "stdux") layout.AccessX (opcode 31 ∷ at 21 30 181 ∷ [])
entry_of Lwbrx = entry (codes "lwbrx") layout.AccessX (opcode 31 ∷ at 21 30 534 ∷ [])
entry_of Lhbrx = entry (codes "lhbrx") layout.AccessX (opcode 31 ∷ at 21 30 790 ∷ [])
entry_of Ldbrx = entry (codes "ldbrx") layout.AccessX (opcode 31 ∷ at 21 30 532 ∷ [])
entry_of Stwbrx = entry (codes "stwbrx") layout.AccessX (opcode 31 ∷ at 21 30 662 ∷ [])
entry_of Sthbrx = entry (codes "sthbrx") layout.AccessX (opcode 31 ∷ at 21 30 918 ∷ [])
entry_of Stdbrx = entry (codes "stdbrx") layout.AccessX (opcode 31 ∷ at 21 30 660 ∷ [])
entry_of Lbarx = entry (codes "lbarx") layout.AccessX (opcode 31 ∷ at 21 30 52 ∷ [])
entry_of Lharx = entry (codes "lharx") layout.AccessX (opcode 31 ∷ at 21 30 116 ∷ [])
entry_of Lwarx = entry (codes "lwarx") layout.AccessX (opcode 31 ∷ at 21 30 20 ∷ [])
entry_of Ldarx = entry (codes "ldarx") layout.AccessX (opcode 31 ∷ at 21 30 84 ∷ [])
entry_of StbcxDot = entry (codes "stbcx.") layout.AccessX (opcode 31 ∷ at 21 30 694 ∷ at 31 31 1 ∷ [])
entry_of SthcxDot = entry (codes "sthcx.") layout.AccessX (opcode 31 ∷ at 21 30 726 ∷ at 31 31 1 ∷ [])
entry_of StwcxDot = entry (codes "stwcx.") layout.AccessX (opcode 31 ∷ at 21 30 150 ∷ at 31 31 1 ∷ [])
entry_of StdcxDot = entry (codes "stdcx.") layout.AccessX (opcode 31 ∷ at 21 30 214 ∷ at 31 31 1 ∷ [])
entry_of Lwzcix = entry (codes "lwzcix") layout.AccessX (opcode 31 ∷ at 21 30 789 ∷ [])
entry_of Lhzcix = entry (codes "lhzcix") layout.AccessX (opcode 31 ∷ at 21 30 821 ∷ [])
entry_of Lbzcix = entry (codes "lbzcix") layout.AccessX (opcode 31 ∷ at 21 30 853 ∷ [])
entry_of Ldcix = entry (codes "ldcix") layout.AccessX (opcode 31 ∷ at 21 30 885 ∷ [])
entry_of Stwcix = entry (codes "stwcix") layout.AccessX (opcode 31 ∷ at 21 30 917 ∷ [])
entry_of Sthcix = entry (codes "sthcix") layout.AccessX (opcode 31 ∷ at 21 30 949 ∷ [])
entry_of Stbcix = entry (codes "stbcix") layout.AccessX (opcode 31 ∷ at 21 30 981 ∷ [])
entry_of Stdcix = entry (codes "stdcix") layout.AccessX (opcode 31 ∷ at 21 30 1013 ∷ [])
entry_of Dcbz = entry (codes "dcbz") layout.Block (opcode 31 ∷ at 21 30 1014 ∷ [])
entry_of Dcbf = entry (codes "dcbf") layout.Block (opcode 31 ∷ at 21 30 86 ∷ [])
entry_of Dcbst = entry (codes "dcbst") layout.Block (opcode 31 ∷ at 21 30 54 ∷ [])
entry_of Dcbt = entry (codes "dcbt") layout.Block (opcode 31 ∷ at 21 30 278 ∷ [])
entry_of Dcbtst = entry (codes "dcbtst") layout.Block (opcode 31 ∷ at 21 30 246 ∷ [])
entry_of Icbi = entry (codes "icbi") layout.Block (opcode 31 ∷ at 21 30 982 ∷ [])
entry_of Mfspr = entry (codes "mfspr") layout.MfSpr (opcode 31 ∷ at 21 30 339 ∷ [])
entry_of Mtspr = entry (codes "mtspr") layout.MtSpr (opcode 31 ∷ at 21 30 467 ∷ [])
entry_of Mftb = entry (codes "mftb") layout.MfTb (opcode 31 ∷ at 21 30 371 ∷ [])
entry_of Mfmsr = entry (codes "mfmsr") layout.MfMsr (opcode 31 ∷ at 21 30 83 ∷ [])
entry_of Mtmsr = entry (codes "mtmsr") layout.MtMsr (opcode 31 ∷ at 21 30 146 ∷ [])
entry_of Mtmsrd = entry (codes "mtmsrd") layout.MtMsr (opcode 31 ∷ at 21 30 178 ∷ [])
entry_of Sync = entry (codes "sync") layout.Sync (opcode 31 ∷ at 21 30 598 ∷ [])
entry_of Eieio = entry (codes "eieio") layout.Eieio (opcode 31 ∷ at 21 30 854 ∷ [])
entry_of Tlbsync = entry (codes "tlbsync") layout.TlbSync (opcode 31 ∷ at 21 30 566 ∷ [])
entry_of Tlbie = entry (codes "tlbie") layout.Inval (opcode 31 ∷ at 21 30 306 ∷ [])
entry_of Tlbiel = entry (codes "tlbiel") layout.Inval (opcode 31 ∷ at 21 30 274 ∷ [])
entry_of Msgsnd = entry (codes "msgsnd") layout.Message (opcode 31 ∷ at 21 30 206 ∷ [])
entry_of Msgclr = entry (codes "msgclr") layout.Message (opcode 31 ∷ at 21 30 238 ∷ [])
entry_of Isync = entry (codes "isync") layout.Isync (opcode 19 ∷ at 21 30 150 ∷ [])
entry_of Rfid = entry (codes "rfid") layout.Rfid (opcode 19 ∷ at 21 30 18 ∷ [])
entry_of Hrfid = entry (codes "hrfid") layout.Hrfid (opcode 19 ∷ at 21 30 274 ∷ [])
entry_of Sc = entry (codes "sc") layout.Sc (opcode 17 ∷ at 30 30 1 ∷ [])

-- all operations
abbrev pub operations : List Op
operations =
    Addi ∷
    Addis ∷
    Addic ∷
    AddicDot ∷
    Subfic ∷
    Mulli ∷
    Addpcis ∷
    Add ∷
    Subf ∷
    Addc ∷
    Subfc ∷
    Adde ∷
    Subfe ∷
    Addme ∷
    Subfme ∷
    Addze ∷
    Subfze ∷
    Neg ∷
    Mullw ∷
    Mulld ∷
    Divw ∷
    Divwu ∷
    Divd ∷
    Divdu ∷
    Divwe ∷
    Divweu ∷
    Divde ∷
    Divdeu ∷
    Mulhw ∷
    Mulhwu ∷
    Mulhd ∷
    Mulhdu ∷
    Modsw ∷
    Moduw ∷
    Modsd ∷
    Modud ∷
    Maddhd ∷
    Maddhdu ∷
    Maddld ∷
    Ori ∷
    Oris ∷
    Xori ∷
    Xoris ∷
    AndiDot ∷
    AndisDot ∷
    And ∷
    Or ∷
    Xor ∷
    Nand ∷
    Nor ∷
    Eqv ∷
    Andc ∷
    Orc ∷
    Slw ∷
    Srw ∷
    Sraw ∷
    Sld ∷
    Srd ∷
    Srad ∷
    Extsb ∷
    Extsh ∷
    Extsw ∷
    Cntlzw ∷
    Cntlzd ∷
    Cnttzw ∷
    Cnttzd ∷
    Popcntb ∷
    Popcntw ∷
    Popcntd ∷
    Prtyw ∷
    Prtyd ∷
    Cmpb ∷
    Bpermd ∷
    Srawi ∷
    Sradi ∷
    Extswsli ∷
    Rlwimi ∷
    Rlwinm ∷
    Rlwnm ∷
    Rldicl ∷
    Rldicr ∷
    Rldic ∷
    Rldimi ∷
    Rldcl ∷
    Rldcr ∷
    Isel ∷
    Cmpi ∷
    Cmpli ∷
    Cmp ∷
    Cmpl ∷
    Cmprb ∷
    Cmpeqb ∷
    Setb ∷
    Tdi ∷
    Twi ∷
    Tw ∷
    Td ∷
    B ∷
    Bc ∷
    Bclr ∷
    Bcctr ∷
    Bctar ∷
    Crand ∷
    Cror ∷
    Crxor ∷
    Crnand ∷
    Crnor ∷
    Creqv ∷
    Crandc ∷
    Crorc ∷
    Mcrf ∷
    Mcrxrx ∷
    Mfcr ∷
    Mfocrf ∷
    Mtcrf ∷
    Mtocrf ∷
    Lwz ∷
    Lwzu ∷
    Lbz ∷
    Lbzu ∷
    Stw ∷
    Stwu ∷
    Stb ∷
    Stbu ∷
    Lhz ∷
    Lhzu ∷
    Lha ∷
    Lhau ∷
    Sth ∷
    Sthu ∷
    Ld ∷
    Ldu ∷
    Lwa ∷
    Std ∷
    Stdu ∷
    Lwzx ∷
    Lwzux ∷
    Lbzx ∷
    Lbzux ∷
    Lhzx ∷
    Lhzux ∷
    Lhax ∷
    Lhaux ∷
    Lwax ∷
    Lwaux ∷
    Ldx ∷
    Ldux ∷
    Stwx ∷
    Stwux ∷
    Stbx ∷
    Stbux ∷
    Sthx ∷
    Sthux ∷
    Stdx ∷
    Stdux ∷
    Lwbrx ∷
    Lhbrx ∷
    Ldbrx ∷
    Stwbrx ∷
    Sthbrx ∷
    Stdbrx ∷
    Lbarx ∷
    Lharx ∷
    Lwarx ∷
    Ldarx ∷
    StbcxDot ∷
    SthcxDot ∷
    StwcxDot ∷
    StdcxDot ∷
    Lwzcix ∷
    Lhzcix ∷
    Lbzcix ∷
    Ldcix ∷
    Stwcix ∷
    Sthcix ∷
    Stbcix ∷
    Stdcix ∷
    Dcbz ∷
    Dcbf ∷
    Dcbst ∷
    Dcbt ∷
    Dcbtst ∷
    Icbi ∷
    Mfspr ∷
    Mtspr ∷
    Mftb ∷
    Mfmsr ∷
    Mtmsr ∷
    Mtmsrd ∷
    Sync ∷
    Eieio ∷
    Tlbsync ∷
    Tlbie ∷
    Tlbiel ∷
    Msgsnd ∷
    Msgclr ∷
    Isync ∷
    Rfid ∷
    Hrfid ∷
    Sc ∷
    []

-- the name of an operation
abbrev pub name_of : Op → List ℕ
name_of op = (entry_of op).name

-- the layout of its operands
abbrev pub layout_of : Op → Layout
layout_of op = (entry_of op).layout

-- the row of an operation
abbrev pub op_row : Op → Row
op_row op = row_of (entry_of op).fixed op

-- the rows of all operations
unfoldable pub rows : List Row
rows = map op_row operations
