-- Written by tools/make_tables.py from docs/INSTRUCTIONS.md.
-- Classes of operations.
use Rattle.std.specs.Prelude.{Bool, true, false}
use Rattle.ppc_ops.specs.declared.op.Op.{Op}
use Rattle.ppc_ops.specs.declared.op.Op.TheVariants.{Addme, Addze, Neg, Subfme, Subfze, Addi, Addis, Srawi, Rldcl, Rldcr, Cmpli, Cmpeqb, Ld, Ldu, Lwa, Std, Stdu, Lwzu, Lbzu, Lhzu, Lhau, Lwzux, Lbzux, Lhzux, Lhaux, Lwaux, Ldux, Stwu, Stbu, Sthu, Stwux, Stbux, Sthux, Stdux, Bcctr, Lwzcix, Lhzcix, Lbzcix, Ldcix, Stwcix, Sthcix, Stbcix, Stdcix}

-- operations of one register, whose bits 16:20 are ignored
abbrev pub has_one_source : Op → Bool
has_one_source Addme = true
has_one_source Addze = true
has_one_source Neg = true
has_one_source Subfme = true
has_one_source Subfze = true
has_one_source op = false

-- sums with an immediate that take 0 in place of register 0
abbrev pub takes_zero : Op → Bool
takes_zero Addi = true
takes_zero Addis = true
takes_zero op = false

-- shifts whose distance has five bits
abbrev pub shifts_words : Op → Bool
shifts_words Srawi = true
shifts_words op = false

-- rotations of doublewords by the number in a register
abbrev pub turns_by_register : Op → Bool
turns_by_register Rldcl = true
turns_by_register Rldcr = true
turns_by_register op = false

-- comparisons with an unsigned immediate
abbrev pub compares_unsigned : Op → Bool
compares_unsigned Cmpli = true
compares_unsigned op = false

-- comparisons of a byte with each byte of a doubleword
abbrev pub seeks_any_byte : Op → Bool
seeks_any_byte Cmpeqb = true
seeks_any_byte op = false

-- loads and stores whose displacement is a multiple of 4
abbrev pub scales_displacement : Op → Bool
scales_displacement Ld = true
scales_displacement Ldu = true
scales_displacement Lwa = true
scales_displacement Std = true
scales_displacement Stdu = true
scales_displacement op = false

-- loads that put the address into RA
abbrev pub loads_with_update : Op → Bool
loads_with_update Lwzu = true
loads_with_update Lbzu = true
loads_with_update Lhzu = true
loads_with_update Lhau = true
loads_with_update Ldu = true
loads_with_update Lwzux = true
loads_with_update Lbzux = true
loads_with_update Lhzux = true
loads_with_update Lhaux = true
loads_with_update Lwaux = true
loads_with_update Ldux = true
loads_with_update op = false

-- stores that put the address into RA
abbrev pub stores_with_update : Op → Bool
stores_with_update Stwu = true
stores_with_update Stbu = true
stores_with_update Sthu = true
stores_with_update Stdu = true
stores_with_update Stwux = true
stores_with_update Stbux = true
stores_with_update Sthux = true
stores_with_update Stdux = true
stores_with_update op = false

-- branches to the count register
abbrev pub branches_to_count : Op → Bool
branches_to_count Bcctr = true
branches_to_count op = false

-- loads and stores of the hypervisor that do not use caches
abbrev pub inhibits_caching : Op → Bool
inhibits_caching Lwzcix = true
inhibits_caching Lhzcix = true
inhibits_caching Lbzcix = true
inhibits_caching Ldcix = true
inhibits_caching Stwcix = true
inhibits_caching Sthcix = true
inhibits_caching Stbcix = true
inhibits_caching Stdcix = true
inhibits_caching op = false
