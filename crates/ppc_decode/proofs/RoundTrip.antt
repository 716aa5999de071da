-- Written by tools/make_tables.py from docs/INSTRUCTIONS.md.
-- The fields of each layout: what is read from a word stands there, and what stands there is read.
use Rattle.std.proofs.Common.{◌≡◌, ℕ, ◌/◌, ◌^◌, ◌∷◌, refl, sym, ap, ◌∙◌}
use Rattle.ppc_ops.specs.declared.op.Op.{Op}
use Rattle.ppc_ops.specs.declared.insn.Insn.{Insn}
use Rattle.ppc_ops.specs.declared.insn.Insn.TheVariants as insn
use Rattle.ppc_ops.specs.declared.insn.Layout.{Layout}
use Rattle.ppc_ops.specs.declared.insn.Layout.TheVariants as layout
use Rattle.ppc_ops.specs.Classes.{compares_unsigned, has_one_source, scales_displacement, seeks_any_byte, shifts_words, turns_by_register}
use Rattle.ppc_ops.specs.Fitting.{FitsFields}
use Rattle.ppc_ops.specs.Rows.{at}
use Rattle.ppc_ops.specs.Table.{layout_of}
use Rattle.word_decoder.specs.Operands.{bits, operands_of}
use Rattle.ppc_decode.specs.Encode.{insn_op, fields_of}
use Rattle.ppc_decode.proofs.Sums.{Fitted, Reads, mask, masks}
use Rattle.ppc_decode.proofs.Parts.{with, flag_fits, flag_back, flag_own, modulo_16_fits, branch_fits, jump_fits, high_fits, half_fits, low_fits, parts_back, high_own, low_own, immediate_back, immediate_own, compared_back, compared_own, branch_back, branch_own, jump_back, jump_own, source_fits, source_back, source_own, distance_fits, distance_back, distance_own, two_fits, two_back, two_own, displacement_fits, displacement_back, displacement_own, split_fits, split_back, split_own, source_places, distance_places, two_places, displacement_places}

-- a word has what is read from it, in fields that are the same for all words
pub own : (l : Layout) (op : Op) (word : ℕ) → (insn_op (operands_of l op word) ≡ insn_op (operands_of l op 0)) × (masks (fields_of (operands_of l op word)) ≡ masks (fields_of (operands_of l op 0))) × Reads word (fields_of (operands_of l op word))
own layout.AddImm op word = (refl, refl, (refl, (refl, (immediate_own word, tt))))
own layout.AddPc op word = (refl, refl, (refl, split_own word))
own layout.Arith op word = (refl, ap (λ ms. mask (at 6 10 0) ∷ mask (at 11 15 0) ∷ mask (at 21 21 0) ∷ mask (at 31 31 0) ∷ ms) (source_places (has_one_source op) _ _), (refl, (refl, (flag_own (word / 2 ^ 10), (flag_own (word / 2 ^ 0), source_own (has_one_source op) word)))))
own layout.MulHigh op word = (refl, refl, (refl, (refl, (refl, (flag_own (word / 2 ^ 0), tt)))))
own layout.Modulo op word = (refl, refl, (refl, (refl, (refl, tt))))
own layout.MulAdd op word = (refl, refl, (refl, (refl, (refl, (refl, tt)))))
own layout.LogicImm op word = (refl, refl, (refl, (refl, (refl, tt))))
own layout.Logic op word = (refl, refl, (refl, (refl, (refl, (flag_own (word / 2 ^ 0), tt)))))
own layout.Unary op word = (refl, refl, (refl, (refl, (flag_own (word / 2 ^ 0), tt))))
own layout.Count op word = (refl, refl, (refl, (refl, tt)))
own layout.Bytes op word = (refl, refl, (refl, (refl, (refl, tt))))
own layout.ShiftImm op word = (refl, ap (λ ms. mask (at 11 15 0) ∷ mask (at 6 10 0) ∷ mask (at 31 31 0) ∷ ms) (distance_places (shifts_words op) _ _), (refl, (refl, (flag_own (word / 2 ^ 0), distance_own (shifts_words op) word))))
own layout.RotWord op word = (refl, refl, (refl, (refl, (refl, (refl, (refl, (flag_own (word / 2 ^ 0), tt)))))))
own layout.RotDouble op word = (refl, ap (λ ms. mask (at 11 15 0) ∷ mask (at 6 10 0) ∷ mask (at 26 26 0) ∷ mask (at 21 25 0) ∷ mask (at 31 31 0) ∷ ms) (distance_places (turns_by_register op) _ _), (refl, (refl, (high_own (bits word 26 26) (word / 2 ^ 6), (low_own (bits word 26 26) (word / 2 ^ 6), (flag_own (word / 2 ^ 0), distance_own (turns_by_register op) word))))))
own layout.Select op word = (refl, refl, (refl, (refl, (refl, (refl, tt)))))
own layout.CmpImm op word = (refl, refl, (refl, (flag_own (word / 2 ^ 21), (refl, (compared_own (compares_unsigned op) word, tt)))))
own layout.Cmp op word = (refl, refl, (refl, (flag_own (word / 2 ^ 21), (refl, (refl, tt)))))
own layout.CmpByte op word = (refl, ap (λ ms. mask (at 6 8 0) ∷ mask (at 11 15 0) ∷ mask (at 16 20 0) ∷ ms) (two_places (seeks_any_byte op) _ _), (refl, (refl, (refl, two_own (seeks_any_byte op) word))))
own layout.SetB op word = (refl, refl, (refl, (refl, tt)))
own layout.TrapImm op word = (refl, refl, (refl, (refl, (immediate_own word, tt))))
own layout.Trap op word = (refl, refl, (refl, (refl, (refl, tt))))
own layout.Jump op word = (refl, refl, (jump_own word, (flag_own (word / 2 ^ 1), (flag_own (word / 2 ^ 0), tt))))
own layout.Branch op word = (refl, refl, (refl, (refl, (branch_own word, (flag_own (word / 2 ^ 1), (flag_own (word / 2 ^ 0), tt))))))
own layout.BranchReg op word = (refl, refl, (refl, (refl, (flag_own (word / 2 ^ 0), tt))))
own layout.CrBit op word = (refl, refl, (refl, (refl, (refl, tt))))
own layout.CrMove op word = (refl, refl, (refl, (refl, tt)))
own layout.MoveXer op word = (refl, refl, (refl, tt))
own layout.MfCr op word = (refl, refl, (refl, tt))
own layout.MfOneCr op word = (refl, refl, (refl, (refl, tt)))
own layout.MtCr op word = (refl, refl, (refl, (refl, tt)))
own layout.MtOneCr op word = (refl, refl, (refl, (refl, tt)))
own layout.Access op word = (refl, ap (λ ms. mask (at 6 10 0) ∷ mask (at 11 15 0) ∷ ms) (displacement_places (scales_displacement op) _ _), (refl, (refl, displacement_own (scales_displacement op) word)))
own layout.AccessX op word = (refl, refl, (refl, (refl, (refl, tt))))
own layout.Block op word = (refl, refl, (refl, (refl, tt)))
own layout.MfSpr op word = (refl, refl, (refl, (high_own (bits word 16 20) (word / 2 ^ 16), (low_own (bits word 16 20) (word / 2 ^ 16), tt))))
own layout.MtSpr op word = (refl, refl, (refl, (high_own (bits word 16 20) (word / 2 ^ 16), (low_own (bits word 16 20) (word / 2 ^ 16), tt))))
own layout.MfTb op word = (refl, refl, (refl, (high_own (bits word 16 20) (word / 2 ^ 16), (low_own (bits word 16 20) (word / 2 ^ 16), tt))))
own layout.MfMsr op word = (refl, refl, (refl, tt))
own layout.MtMsr op word = (refl, refl, (refl, (flag_own (word / 2 ^ 16), tt)))
own layout.Sync op word = (refl, refl, (refl, tt))
own layout.Eieio op word = (refl, refl, tt)
own layout.TlbSync op word = (refl, refl, tt)
own layout.Inval op word = (refl, refl, (refl, (refl, (refl, (flag_own (word / 2 ^ 17), (flag_own (word / 2 ^ 16), tt))))))
own layout.Message op word = (refl, refl, (refl, tt))
own layout.Isync op word = (refl, refl, tt)
own layout.Rfid op word = (refl, refl, tt)
own layout.Hrfid op word = (refl, refl, tt)
own layout.Sc op word = (refl, refl, (refl, tt))

-- the fields of a form are those of its operation
pub places : (i : Insn) → FitsFields i → masks (fields_of i) ≡ masks (fields_of (operands_of (layout_of (insn_op i)) (insn_op i) 0))
places (insn.AddImm op rt ra si) (same, f_rt, f_ra, f_si) = ap (λ l. masks (fields_of (operands_of l op 0))) (sym same)
places (insn.AddPc rt d) (f_rt, f_d) = refl
places (insn.Arith op rt ra rb oe rc) (same, f_rt, f_ra, f_rb) = ap (λ ms. mask (at 6 10 0) ∷ mask (at 11 15 0) ∷ mask (at 21 21 0) ∷ mask (at 31 31 0) ∷ ms) (source_places (has_one_source op) _ _) ∙ ap (λ l. masks (fields_of (operands_of l op 0))) (sym same)
places (insn.MulHigh op rt ra rb rc) (same, f_rt, f_ra, f_rb) = ap (λ l. masks (fields_of (operands_of l op 0))) (sym same)
places (insn.Modulo op rt ra rb) (same, f_rt, f_ra, f_rb) = ap (λ l. masks (fields_of (operands_of l op 0))) (sym same)
places (insn.MulAdd op rt ra rb third) (same, f_rt, f_ra, f_rb, f_third) = ap (λ l. masks (fields_of (operands_of l op 0))) (sym same)
places (insn.LogicImm op ra rs ui) (same, f_ra, f_rs, f_ui) = ap (λ l. masks (fields_of (operands_of l op 0))) (sym same)
places (insn.Logic op ra rs rb rc) (same, f_ra, f_rs, f_rb) = ap (λ l. masks (fields_of (operands_of l op 0))) (sym same)
places (insn.Unary op ra rs rc) (same, f_ra, f_rs) = ap (λ l. masks (fields_of (operands_of l op 0))) (sym same)
places (insn.Count op ra rs) (same, f_ra, f_rs) = ap (λ l. masks (fields_of (operands_of l op 0))) (sym same)
places (insn.Bytes op ra rs rb) (same, f_ra, f_rs, f_rb) = ap (λ l. masks (fields_of (operands_of l op 0))) (sym same)
places (insn.ShiftImm op ra rs sh rc) (same, f_ra, f_rs, f_sh) = ap (λ ms. mask (at 11 15 0) ∷ mask (at 6 10 0) ∷ mask (at 31 31 0) ∷ ms) (distance_places (shifts_words op) _ _) ∙ ap (λ l. masks (fields_of (operands_of l op 0))) (sym same)
places (insn.RotWord op ra rs by mb me rc) (same, f_ra, f_rs, f_by, f_mb, f_me) = ap (λ l. masks (fields_of (operands_of l op 0))) (sym same)
places (insn.RotDouble op ra rs by edge rc) (same, f_ra, f_rs, f_by, f_edge) = ap (λ ms. mask (at 11 15 0) ∷ mask (at 6 10 0) ∷ mask (at 26 26 0) ∷ mask (at 21 25 0) ∷ mask (at 31 31 0) ∷ ms) (distance_places (turns_by_register op) _ _) ∙ ap (λ l. masks (fields_of (operands_of l op 0))) (sym same)
places (insn.Select rt ra rb bit) (f_rt, f_ra, f_rb, f_bit) = refl
places (insn.CmpImm op bf wide ra value) (same, f_bf, f_ra, f_value) = ap (λ l. masks (fields_of (operands_of l op 0))) (sym same)
places (insn.Cmp op bf wide ra rb) (same, f_bf, f_ra, f_rb) = ap (λ l. masks (fields_of (operands_of l op 0))) (sym same)
places (insn.CmpByte op bf two ra rb) (same, f_bf, f_two, f_ra, f_rb) = ap (λ ms. mask (at 6 8 0) ∷ mask (at 11 15 0) ∷ mask (at 16 20 0) ∷ ms) (two_places (seeks_any_byte op) _ _) ∙ ap (λ l. masks (fields_of (operands_of l op 0))) (sym same)
places (insn.SetB rt bfa) (f_rt, f_bfa) = refl
places (insn.TrapImm op to ra si) (same, f_to, f_ra, f_si) = ap (λ l. masks (fields_of (operands_of l op 0))) (sym same)
places (insn.Trap op to ra rb) (same, f_to, f_ra, f_rb) = ap (λ l. masks (fields_of (operands_of l op 0))) (sym same)
places (insn.Jump li aa lk) f_li = refl
places (insn.Branch bo bi bd aa lk) (f_bo, f_bi, f_bd) = refl
places (insn.BranchReg op bo bi lk) (same, f_bo, f_bi) = ap (λ l. masks (fields_of (operands_of l op 0))) (sym same)
places (insn.CrBit op bt ba bb) (same, f_bt, f_ba, f_bb) = ap (λ l. masks (fields_of (operands_of l op 0))) (sym same)
places (insn.CrMove bf bfa) (f_bf, f_bfa) = refl
places (insn.MoveXer bf) f_bf = refl
places (insn.MfCr rt) f_rt = refl
places (insn.MfOneCr rt fxm) (f_rt, f_fxm) = refl
places (insn.MtCr rs fxm) (f_rs, f_fxm) = refl
places (insn.MtOneCr rs fxm) (f_rs, f_fxm) = refl
places (insn.Access op rt ra disp) (same, f_rt, f_ra, f_disp) = ap (λ ms. mask (at 6 10 0) ∷ mask (at 11 15 0) ∷ ms) (displacement_places (scales_displacement op) _ _) ∙ ap (λ l. masks (fields_of (operands_of l op 0))) (sym same)
places (insn.AccessX op rt ra rb) (same, f_rt, f_ra, f_rb) = ap (λ l. masks (fields_of (operands_of l op 0))) (sym same)
places (insn.Block op ra rb) (same, f_ra, f_rb) = ap (λ l. masks (fields_of (operands_of l op 0))) (sym same)
places (insn.MfSpr rt spr) (f_rt, f_spr) = refl
places (insn.MtSpr rs spr) (f_rs, f_spr) = refl
places (insn.MfTb rt spr) (f_rt, f_spr) = refl
places (insn.MfMsr rt) f_rt = refl
places (insn.MtMsr op rs l) (same, f_rs) = ap (λ l. masks (fields_of (operands_of l op 0))) (sym same)
places (insn.Sync l) f_l = refl
places insn.Eieio none = refl
places insn.TlbSync none = refl
places (insn.Inval op rb rs ric prs r) (same, f_rb, f_rs, f_ric) = ap (λ l. masks (fields_of (operands_of l op 0))) (sym same)
places (insn.Message op rb) (same, f_rb) = ap (λ l. masks (fields_of (operands_of l op 0))) (sym same)
places insn.Isync none = refl
places insn.Rfid none = refl
places insn.Hrfid none = refl
places (insn.Sc lev) f_lev = refl

-- what stands in the fields of a form fits them
pub fits : (i : Insn) → FitsFields i → Fitted (fields_of i)
fits (insn.AddImm op rt ra si) (same, f_rt, f_ra, f_si) = (f_rt, (f_ra, (modulo_16_fits si, tt)))
fits (insn.AddPc rt d) (f_rt, f_d) = (f_rt, split_fits d)
fits (insn.Arith op rt ra rb oe rc) (same, f_rt, f_ra, f_rb) = (f_rt, (f_ra, (flag_fits oe, (flag_fits rc, source_fits (has_one_source op) rb f_rb))))
fits (insn.MulHigh op rt ra rb rc) (same, f_rt, f_ra, f_rb) = (f_rt, (f_ra, (f_rb, (flag_fits rc, tt))))
fits (insn.Modulo op rt ra rb) (same, f_rt, f_ra, f_rb) = (f_rt, (f_ra, (f_rb, tt)))
fits (insn.MulAdd op rt ra rb third) (same, f_rt, f_ra, f_rb, f_third) = (f_rt, (f_ra, (f_rb, (f_third, tt))))
fits (insn.LogicImm op ra rs ui) (same, f_ra, f_rs, f_ui) = (f_ra, (f_rs, (f_ui, tt)))
fits (insn.Logic op ra rs rb rc) (same, f_ra, f_rs, f_rb) = (f_ra, (f_rs, (f_rb, (flag_fits rc, tt))))
fits (insn.Unary op ra rs rc) (same, f_ra, f_rs) = (f_ra, (f_rs, (flag_fits rc, tt)))
fits (insn.Count op ra rs) (same, f_ra, f_rs) = (f_ra, (f_rs, tt))
fits (insn.Bytes op ra rs rb) (same, f_ra, f_rs, f_rb) = (f_ra, (f_rs, (f_rb, tt)))
fits (insn.ShiftImm op ra rs sh rc) (same, f_ra, f_rs, f_sh) = (f_ra, (f_rs, (flag_fits rc, distance_fits (shifts_words op) sh f_sh)))
fits (insn.RotWord op ra rs by mb me rc) (same, f_ra, f_rs, f_by, f_mb, f_me) = (f_ra, (f_rs, (f_by, (f_mb, (f_me, (flag_fits rc, tt))))))
fits (insn.RotDouble op ra rs by edge rc) (same, f_ra, f_rs, f_by, f_edge) = (f_ra, (f_rs, (high_fits edge f_edge, (low_fits edge, (flag_fits rc, distance_fits (turns_by_register op) by f_by)))))
fits (insn.Select rt ra rb bit) (f_rt, f_ra, f_rb, f_bit) = (f_rt, (f_ra, (f_rb, (f_bit, tt))))
fits (insn.CmpImm op bf wide ra value) (same, f_bf, f_ra, f_value) = (f_bf, (flag_fits wide, (f_ra, (modulo_16_fits value, tt))))
fits (insn.Cmp op bf wide ra rb) (same, f_bf, f_ra, f_rb) = (f_bf, (flag_fits wide, (f_ra, (f_rb, tt))))
fits (insn.CmpByte op bf two ra rb) (same, f_bf, f_two, f_ra, f_rb) = (f_bf, (f_ra, (f_rb, two_fits (seeks_any_byte op) two f_two)))
fits (insn.SetB rt bfa) (f_rt, f_bfa) = (f_rt, (f_bfa, tt))
fits (insn.TrapImm op to ra si) (same, f_to, f_ra, f_si) = (f_to, (f_ra, (modulo_16_fits si, tt)))
fits (insn.Trap op to ra rb) (same, f_to, f_ra, f_rb) = (f_to, (f_ra, (f_rb, tt)))
fits (insn.Jump li aa lk) f_li = (jump_fits li, (flag_fits aa, (flag_fits lk, tt)))
fits (insn.Branch bo bi bd aa lk) (f_bo, f_bi, f_bd) = (f_bo, (f_bi, (branch_fits bd, (flag_fits aa, (flag_fits lk, tt)))))
fits (insn.BranchReg op bo bi lk) (same, f_bo, f_bi) = (f_bo, (f_bi, (flag_fits lk, tt)))
fits (insn.CrBit op bt ba bb) (same, f_bt, f_ba, f_bb) = (f_bt, (f_ba, (f_bb, tt)))
fits (insn.CrMove bf bfa) (f_bf, f_bfa) = (f_bf, (f_bfa, tt))
fits (insn.MoveXer bf) f_bf = (f_bf, tt)
fits (insn.MfCr rt) f_rt = (f_rt, tt)
fits (insn.MfOneCr rt fxm) (f_rt, f_fxm) = (f_rt, (f_fxm, tt))
fits (insn.MtCr rs fxm) (f_rs, f_fxm) = (f_rs, (f_fxm, tt))
fits (insn.MtOneCr rs fxm) (f_rs, f_fxm) = (f_rs, (f_fxm, tt))
fits (insn.Access op rt ra disp) (same, f_rt, f_ra, f_disp) = (f_rt, (f_ra, displacement_fits (scales_displacement op) disp f_disp))
fits (insn.AccessX op rt ra rb) (same, f_rt, f_ra, f_rb) = (f_rt, (f_ra, (f_rb, tt)))
fits (insn.Block op ra rb) (same, f_ra, f_rb) = (f_ra, (f_rb, tt))
fits (insn.MfSpr rt spr) (f_rt, f_spr) = (f_rt, (half_fits spr f_spr, (low_fits spr, tt)))
fits (insn.MtSpr rs spr) (f_rs, f_spr) = (f_rs, (half_fits spr f_spr, (low_fits spr, tt)))
fits (insn.MfTb rt spr) (f_rt, f_spr) = (f_rt, (half_fits spr f_spr, (low_fits spr, tt)))
fits (insn.MfMsr rt) f_rt = (f_rt, tt)
fits (insn.MtMsr op rs l) (same, f_rs) = (f_rs, (flag_fits l, tt))
fits (insn.Sync l) f_l = (f_l, tt)
fits insn.Eieio none = tt
fits insn.TlbSync none = tt
fits (insn.Inval op rb rs ric prs r) (same, f_rb, f_rs, f_ric) = (f_rb, (f_rs, (f_ric, (flag_fits prs, (flag_fits r, tt)))))
fits (insn.Message op rb) (same, f_rb) = (f_rb, tt)
fits insn.Isync none = tt
fits insn.Rfid none = tt
fits insn.Hrfid none = tt
fits (insn.Sc lev) f_lev = (f_lev, tt)

-- a form is read from a word that has its fields
pub back : (i : Insn) → FitsFields i → (word : ℕ) → Reads word (fields_of i) → operands_of (layout_of (insn_op i)) (insn_op i) word ≡ i
back (insn.AddImm op rt ra si) (same, f_rt, f_ra, f_si) word (r1, (r2, (r3, end))) = ap (λ l. operands_of l op word) same ∙ with (with (ap (λ rt ra si. insn.AddImm op rt ra si) r1) r2) (immediate_back si (bits word 16 31) f_si r3)
back (insn.AddPc rt d) (f_rt, f_d) word (r1, r2) = with (ap (λ rt d. insn.AddPc rt d) r1) (split_back d word f_d r2)
back (insn.Arith op rt ra rb oe rc) (same, f_rt, f_ra, f_rb) word (r1, (r2, (r4, (r5, r3)))) = ap (λ l. operands_of l op word) same ∙ with (with (with (with (ap (λ rt ra rb oe rc. insn.Arith op rt ra rb oe rc) r1) r2) (source_back (has_one_source op) rb word f_rb r3)) (flag_back oe (bits word 21 21) r4)) (flag_back rc (bits word 31 31) r5)
back (insn.MulHigh op rt ra rb rc) (same, f_rt, f_ra, f_rb) word (r1, (r2, (r3, (r4, end)))) = ap (λ l. operands_of l op word) same ∙ with (with (with (ap (λ rt ra rb rc. insn.MulHigh op rt ra rb rc) r1) r2) r3) (flag_back rc (bits word 31 31) r4)
back (insn.Modulo op rt ra rb) (same, f_rt, f_ra, f_rb) word (r1, (r2, (r3, end))) = ap (λ l. operands_of l op word) same ∙ with (with (ap (λ rt ra rb. insn.Modulo op rt ra rb) r1) r2) r3
back (insn.MulAdd op rt ra rb third) (same, f_rt, f_ra, f_rb, f_third) word (r1, (r2, (r3, (r4, end)))) = ap (λ l. operands_of l op word) same ∙ with (with (with (ap (λ rt ra rb third. insn.MulAdd op rt ra rb third) r1) r2) r3) r4
back (insn.LogicImm op ra rs ui) (same, f_ra, f_rs, f_ui) word (r1, (r2, (r3, end))) = ap (λ l. operands_of l op word) same ∙ with (with (ap (λ ra rs ui. insn.LogicImm op ra rs ui) r1) r2) r3
back (insn.Logic op ra rs rb rc) (same, f_ra, f_rs, f_rb) word (r1, (r2, (r3, (r4, end)))) = ap (λ l. operands_of l op word) same ∙ with (with (with (ap (λ ra rs rb rc. insn.Logic op ra rs rb rc) r1) r2) r3) (flag_back rc (bits word 31 31) r4)
back (insn.Unary op ra rs rc) (same, f_ra, f_rs) word (r1, (r2, (r3, end))) = ap (λ l. operands_of l op word) same ∙ with (with (ap (λ ra rs rc. insn.Unary op ra rs rc) r1) r2) (flag_back rc (bits word 31 31) r3)
back (insn.Count op ra rs) (same, f_ra, f_rs) word (r1, (r2, end)) = ap (λ l. operands_of l op word) same ∙ with (ap (λ ra rs. insn.Count op ra rs) r1) r2
back (insn.Bytes op ra rs rb) (same, f_ra, f_rs, f_rb) word (r1, (r2, (r3, end))) = ap (λ l. operands_of l op word) same ∙ with (with (ap (λ ra rs rb. insn.Bytes op ra rs rb) r1) r2) r3
back (insn.ShiftImm op ra rs sh rc) (same, f_ra, f_rs, f_sh) word (r1, (r2, (r5, r3))) = ap (λ l. operands_of l op word) same ∙ with (with (with (ap (λ ra rs sh rc. insn.ShiftImm op ra rs sh rc) r1) r2) (distance_back (shifts_words op) sh word f_sh r3)) (flag_back rc (bits word 31 31) r5)
back (insn.RotWord op ra rs by mb me rc) (same, f_ra, f_rs, f_by, f_mb, f_me) word (r1, (r2, (r3, (r4, (r5, (r6, end)))))) = ap (λ l. operands_of l op word) same ∙ with (with (with (with (with (ap (λ ra rs by mb me rc. insn.RotWord op ra rs by mb me rc) r1) r2) r3) r4) r5) (flag_back rc (bits word 31 31) r6)
back (insn.RotDouble op ra rs by edge rc) (same, f_ra, f_rs, f_by, f_edge) word (r1, (r2, (r5, (r6, (r7, r3))))) = ap (λ l. operands_of l op word) same ∙ with (with (with (with (ap (λ ra rs by edge rc. insn.RotDouble op ra rs by edge rc) r1) r2) (distance_back (turns_by_register op) by word f_by r3)) (parts_back edge (bits word 26 26) (bits word 21 25) r5 r6)) (flag_back rc (bits word 31 31) r7)
back (insn.Select rt ra rb bit) (f_rt, f_ra, f_rb, f_bit) word (r1, (r2, (r3, (r4, end)))) = with (with (with (ap (λ rt ra rb bit. insn.Select rt ra rb bit) r1) r2) r3) r4
back (insn.CmpImm op bf wide ra value) (same, f_bf, f_ra, f_value) word (r1, (r2, (r3, (r4, end)))) = ap (λ l. operands_of l op word) same ∙ with (with (with (ap (λ bf wide ra value. insn.CmpImm op bf wide ra value) r1) (flag_back wide (bits word 10 10) r2)) r3) (compared_back (compares_unsigned op) value (bits word 16 31) f_value r4)
back (insn.Cmp op bf wide ra rb) (same, f_bf, f_ra, f_rb) word (r1, (r2, (r3, (r4, end)))) = ap (λ l. operands_of l op word) same ∙ with (with (with (ap (λ bf wide ra rb. insn.Cmp op bf wide ra rb) r1) (flag_back wide (bits word 10 10) r2)) r3) r4
back (insn.CmpByte op bf two ra rb) (same, f_bf, f_two, f_ra, f_rb) word (r1, (r3, (r4, r2))) = ap (λ l. operands_of l op word) same ∙ with (with (with (ap (λ bf two ra rb. insn.CmpByte op bf two ra rb) r1) (two_back (seeks_any_byte op) two word f_two r2)) r3) r4
back (insn.SetB rt bfa) (f_rt, f_bfa) word (r1, (r2, end)) = with (ap (λ rt bfa. insn.SetB rt bfa) r1) r2
back (insn.TrapImm op to ra si) (same, f_to, f_ra, f_si) word (r1, (r2, (r3, end))) = ap (λ l. operands_of l op word) same ∙ with (with (ap (λ to ra si. insn.TrapImm op to ra si) r1) r2) (immediate_back si (bits word 16 31) f_si r3)
back (insn.Trap op to ra rb) (same, f_to, f_ra, f_rb) word (r1, (r2, (r3, end))) = ap (λ l. operands_of l op word) same ∙ with (with (ap (λ to ra rb. insn.Trap op to ra rb) r1) r2) r3
back (insn.Jump li aa lk) f_li word (r1, (r2, (r3, end))) = with (with (ap (λ li aa lk. insn.Jump li aa lk) (jump_back li (bits word 6 29) f_li r1)) (flag_back aa (bits word 30 30) r2)) (flag_back lk (bits word 31 31) r3)
back (insn.Branch bo bi bd aa lk) (f_bo, f_bi, f_bd) word (r1, (r2, (r3, (r4, (r5, end))))) = with (with (with (with (ap (λ bo bi bd aa lk. insn.Branch bo bi bd aa lk) r1) r2) (branch_back bd (bits word 16 29) f_bd r3)) (flag_back aa (bits word 30 30) r4)) (flag_back lk (bits word 31 31) r5)
back (insn.BranchReg op bo bi lk) (same, f_bo, f_bi) word (r1, (r2, (r3, end))) = ap (λ l. operands_of l op word) same ∙ with (with (ap (λ bo bi lk. insn.BranchReg op bo bi lk) r1) r2) (flag_back lk (bits word 31 31) r3)
back (insn.CrBit op bt ba bb) (same, f_bt, f_ba, f_bb) word (r1, (r2, (r3, end))) = ap (λ l. operands_of l op word) same ∙ with (with (ap (λ bt ba bb. insn.CrBit op bt ba bb) r1) r2) r3
back (insn.CrMove bf bfa) (f_bf, f_bfa) word (r1, (r2, end)) = with (ap (λ bf bfa. insn.CrMove bf bfa) r1) r2
back (insn.MoveXer bf) f_bf word (r1, end) = ap (λ bf. insn.MoveXer bf) r1
back (insn.MfCr rt) f_rt word (r1, end) = ap (λ rt. insn.MfCr rt) r1
back (insn.MfOneCr rt fxm) (f_rt, f_fxm) word (r1, (r2, end)) = with (ap (λ rt fxm. insn.MfOneCr rt fxm) r1) r2
back (insn.MtCr rs fxm) (f_rs, f_fxm) word (r1, (r2, end)) = with (ap (λ rs fxm. insn.MtCr rs fxm) r1) r2
back (insn.MtOneCr rs fxm) (f_rs, f_fxm) word (r1, (r2, end)) = with (ap (λ rs fxm. insn.MtOneCr rs fxm) r1) r2
back (insn.Access op rt ra disp) (same, f_rt, f_ra, f_disp) word (r1, (r2, r3)) = ap (λ l. operands_of l op word) same ∙ with (with (ap (λ rt ra disp. insn.Access op rt ra disp) r1) r2) (displacement_back (scales_displacement op) disp word f_disp r3)
back (insn.AccessX op rt ra rb) (same, f_rt, f_ra, f_rb) word (r1, (r2, (r3, end))) = ap (λ l. operands_of l op word) same ∙ with (with (ap (λ rt ra rb. insn.AccessX op rt ra rb) r1) r2) r3
back (insn.Block op ra rb) (same, f_ra, f_rb) word (r1, (r2, end)) = ap (λ l. operands_of l op word) same ∙ with (ap (λ ra rb. insn.Block op ra rb) r1) r2
back (insn.MfSpr rt spr) (f_rt, f_spr) word (r1, (r2, (r3, end))) = with (ap (λ rt spr. insn.MfSpr rt spr) r1) (parts_back spr (bits word 16 20) (bits word 11 15) r2 r3)
back (insn.MtSpr rs spr) (f_rs, f_spr) word (r1, (r2, (r3, end))) = with (ap (λ rs spr. insn.MtSpr rs spr) r1) (parts_back spr (bits word 16 20) (bits word 11 15) r2 r3)
back (insn.MfTb rt spr) (f_rt, f_spr) word (r1, (r2, (r3, end))) = with (ap (λ rt spr. insn.MfTb rt spr) r1) (parts_back spr (bits word 16 20) (bits word 11 15) r2 r3)
back (insn.MfMsr rt) f_rt word (r1, end) = ap (λ rt. insn.MfMsr rt) r1
back (insn.MtMsr op rs l) (same, f_rs) word (r1, (r2, end)) = ap (λ l. operands_of l op word) same ∙ with (ap (λ rs l. insn.MtMsr op rs l) r1) (flag_back l (bits word 15 15) r2)
back (insn.Sync l) f_l word (r1, end) = ap (λ l. insn.Sync l) r1
back insn.Eieio none word end = refl
back insn.TlbSync none word end = refl
back (insn.Inval op rb rs ric prs r) (same, f_rb, f_rs, f_ric) word (r1, (r2, (r3, (r4, (r5, end))))) = ap (λ l. operands_of l op word) same ∙ with (with (with (with (ap (λ rb rs ric prs r. insn.Inval op rb rs ric prs r) r1) r2) r3) (flag_back prs (bits word 14 14) r4)) (flag_back r (bits word 15 15) r5)
back (insn.Message op rb) (same, f_rb) word (r1, end) = ap (λ l. operands_of l op word) same ∙ ap (λ rb. insn.Message op rb) r1
back insn.Isync none word end = refl
back insn.Rfid none word end = refl
back insn.Hrfid none word end = refl
back (insn.Sc lev) f_lev word (r1, end) = ap (λ lev. insn.Sc lev) r1
