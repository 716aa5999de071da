-- Written by tools/make_tables.py from docs/INSTRUCTIONS.md.
-- The values of each form fit its operands in text.
use Rattle.std.proofs.Common.{◌∷◌, [], sym, subst, arith}
use Rattle.std.specs.Prelude.{pos, ◌||◌}
use Rattle.std.specs.Int.{from_bool}
use Rattle.ppc_ops.specs.declared.insn.Insn.{Insn}
use Rattle.ppc_ops.specs.declared.insn.Insn.TheVariants as insn
use Rattle.ppc_ops.specs.Classes.{compares_unsigned, has_one_source, loads_with_update, scales_displacement, shifts_words, stores_with_update, takes_zero, turns_by_register}
use Rattle.ppc_ops.specs.Fitting.{FitsFields}
use Rattle.operand_texts.specs.Operands.{operand_texts, layout_texts, is_rlwnm}
use Rattle.ppc_disasm.specs.Forms.{mnemonic_of, values_of}
use Rattle.ppc_disasm.proofs.Fitting.{FitKinds, chosen, number_below, flag_below, distance_below, compared_below, signed_within, displacement_within, branch_within, jump_within}

pub values_fit : (i : Insn) → FitsFields i → FitKinds (operand_texts (mnemonic_of i).op) (values_of i)
values_fit (insn.AddImm op rt ra si) (same, f_rt, f_ra, f_si) = subst (λ which. FitKinds (layout_texts which op) (pos rt ∷ pos ra ∷ si ∷ [])) (sym same) (chosen _ _ (takes_zero op) (pos rt ∷ pos ra ∷ si ∷ []) (λ e. (f_rt, (f_ra, (signed_within si f_si, tt)))) (λ e. (f_rt, (f_ra, (signed_within si f_si, tt)))))
values_fit (insn.AddPc rt d) (f_rt, f_d) = (f_rt, (signed_within d f_d, tt))
values_fit (insn.Arith op rt ra rb oe rc) (same, f_rt, f_ra, f_rb) = subst (λ which. FitKinds (layout_texts which op) (pos rt ∷ pos ra ∷ pos rb ∷ [])) (sym same) (chosen _ _ (has_one_source op) (pos rt ∷ pos ra ∷ pos rb ∷ []) (λ e. (f_rt, (f_ra, tt))) (λ e. (f_rt, (f_ra, ((rw e at f_rb), tt)))))
values_fit (insn.MulHigh op rt ra rb rc) (same, f_rt, f_ra, f_rb) = subst (λ which. FitKinds (layout_texts which op) (pos rt ∷ pos ra ∷ pos rb ∷ [])) (sym same) (f_rt, (f_ra, (f_rb, tt)))
values_fit (insn.Modulo op rt ra rb) (same, f_rt, f_ra, f_rb) = subst (λ which. FitKinds (layout_texts which op) (pos rt ∷ pos ra ∷ pos rb ∷ [])) (sym same) (f_rt, (f_ra, (f_rb, tt)))
values_fit (insn.MulAdd op rt ra rb third) (same, f_rt, f_ra, f_rb, f_third) = subst (λ which. FitKinds (layout_texts which op) (pos rt ∷ pos ra ∷ pos rb ∷ pos third ∷ [])) (sym same) (f_rt, (f_ra, (f_rb, (f_third, tt))))
values_fit (insn.LogicImm op ra rs ui) (same, f_ra, f_rs, f_ui) = subst (λ which. FitKinds (layout_texts which op) (pos ra ∷ pos rs ∷ pos ui ∷ [])) (sym same) (f_ra, (f_rs, (number_below ui _ f_ui (omega arith), tt)))
values_fit (insn.Logic op ra rs rb rc) (same, f_ra, f_rs, f_rb) = subst (λ which. FitKinds (layout_texts which op) (pos ra ∷ pos rs ∷ pos rb ∷ [])) (sym same) (f_ra, (f_rs, (f_rb, tt)))
values_fit (insn.Unary op ra rs rc) (same, f_ra, f_rs) = subst (λ which. FitKinds (layout_texts which op) (pos ra ∷ pos rs ∷ [])) (sym same) (f_ra, (f_rs, tt))
values_fit (insn.Count op ra rs) (same, f_ra, f_rs) = subst (λ which. FitKinds (layout_texts which op) (pos ra ∷ pos rs ∷ [])) (sym same) (f_ra, (f_rs, tt))
values_fit (insn.Bytes op ra rs rb) (same, f_ra, f_rs, f_rb) = subst (λ which. FitKinds (layout_texts which op) (pos ra ∷ pos rs ∷ pos rb ∷ [])) (sym same) (f_ra, (f_rs, (f_rb, tt)))
values_fit (insn.ShiftImm op ra rs sh rc) (same, f_ra, f_rs, f_sh) = subst (λ which. FitKinds (layout_texts which op) (pos ra ∷ pos rs ∷ pos sh ∷ [])) (sym same) (f_ra, (f_rs, (distance_below (shifts_words op) sh f_sh, tt)))
values_fit (insn.RotWord op ra rs by mb me rc) (same, f_ra, f_rs, f_by, f_mb, f_me) = subst (λ which. FitKinds (layout_texts which op) (pos ra ∷ pos rs ∷ pos by ∷ pos mb ∷ pos me ∷ [])) (sym same) (chosen _ _ (is_rlwnm op) (pos ra ∷ pos rs ∷ pos by ∷ pos mb ∷ pos me ∷ []) (λ e. (f_ra, (f_rs, (f_by, (number_below mb _ f_mb (omega arith), (number_below me _ f_me (omega arith), tt)))))) (λ e. (f_ra, (f_rs, (number_below by _ f_by (omega arith), (number_below mb _ f_mb (omega arith), (number_below me _ f_me (omega arith), tt)))))))
values_fit (insn.RotDouble op ra rs by edge rc) (same, f_ra, f_rs, f_by, f_edge) = subst (λ which. FitKinds (layout_texts which op) (pos ra ∷ pos rs ∷ pos by ∷ pos edge ∷ [])) (sym same) (chosen _ _ (turns_by_register op) (pos ra ∷ pos rs ∷ pos by ∷ pos edge ∷ []) (λ e. (f_ra, (f_rs, ((rw e at f_by), (number_below edge _ f_edge (omega arith), tt))))) (λ e. (f_ra, (f_rs, (number_below by _ (rw e at f_by) (omega arith), (number_below edge _ f_edge (omega arith), tt))))))
values_fit (insn.Select rt ra rb bit) (f_rt, f_ra, f_rb, f_bit) = (f_rt, (f_ra, (f_rb, (number_below bit _ f_bit (omega arith), tt))))
values_fit (insn.CmpImm op bf wide ra value) (same, f_bf, f_ra, f_value) = subst (λ which. FitKinds (layout_texts which op) (pos bf ∷ pos (from_bool wide) ∷ pos ra ∷ value ∷ [])) (sym same) (chosen _ _ (compares_unsigned op) (pos bf ∷ pos (from_bool wide) ∷ pos ra ∷ value ∷ []) (λ e. (number_below bf _ f_bf (omega arith), (flag_below wide, (f_ra, (compared_below value (rw e at f_value), tt))))) (λ e. (number_below bf _ f_bf (omega arith), (flag_below wide, (f_ra, (signed_within value (rw e at f_value), tt))))))
values_fit (insn.Cmp op bf wide ra rb) (same, f_bf, f_ra, f_rb) = subst (λ which. FitKinds (layout_texts which op) (pos bf ∷ pos (from_bool wide) ∷ pos ra ∷ pos rb ∷ [])) (sym same) (number_below bf _ f_bf (omega arith), (flag_below wide, (f_ra, (f_rb, tt))))
values_fit (insn.CmpByte op bf two ra rb) (same, f_bf, f_two, f_ra, f_rb) = subst (λ which. FitKinds (layout_texts which op) (pos bf ∷ pos (from_bool two) ∷ pos ra ∷ pos rb ∷ [])) (sym same) (number_below bf _ f_bf (omega arith), (flag_below two, (f_ra, (f_rb, tt))))
values_fit (insn.SetB rt bfa) (f_rt, f_bfa) = (f_rt, (number_below bfa _ f_bfa (omega arith), tt))
values_fit (insn.TrapImm op to ra si) (same, f_to, f_ra, f_si) = subst (λ which. FitKinds (layout_texts which op) (pos to ∷ pos ra ∷ si ∷ [])) (sym same) (number_below to _ f_to (omega arith), (f_ra, (signed_within si f_si, tt)))
values_fit (insn.Trap op to ra rb) (same, f_to, f_ra, f_rb) = subst (λ which. FitKinds (layout_texts which op) (pos to ∷ pos ra ∷ pos rb ∷ [])) (sym same) (number_below to _ f_to (omega arith), (f_ra, (f_rb, tt)))
values_fit (insn.Jump li aa lk) f_li = (jump_within li f_li, tt)
values_fit (insn.Branch bo bi bd aa lk) (f_bo, f_bi, f_bd) = (number_below bo _ f_bo (omega arith), (number_below bi _ f_bi (omega arith), (branch_within bd f_bd, tt)))
values_fit (insn.BranchReg op bo bi lk) (same, f_bo, f_bi) = subst (λ which. FitKinds (layout_texts which op) (pos bo ∷ pos bi ∷ [])) (sym same) (number_below bo _ f_bo (omega arith), (number_below bi _ f_bi (omega arith), tt))
values_fit (insn.CrBit op bt ba bb) (same, f_bt, f_ba, f_bb) = subst (λ which. FitKinds (layout_texts which op) (pos bt ∷ pos ba ∷ pos bb ∷ [])) (sym same) (number_below bt _ f_bt (omega arith), (number_below ba _ f_ba (omega arith), (number_below bb _ f_bb (omega arith), tt)))
values_fit (insn.CrMove bf bfa) (f_bf, f_bfa) = (number_below bf _ f_bf (omega arith), (number_below bfa _ f_bfa (omega arith), tt))
values_fit (insn.MoveXer bf) f_bf = (number_below bf _ f_bf (omega arith), tt)
values_fit (insn.MfCr rt) f_rt = (f_rt, tt)
values_fit (insn.MfOneCr rt fxm) (f_rt, f_fxm) = (f_rt, (number_below fxm _ f_fxm (omega arith), tt))
values_fit (insn.MtCr rs fxm) (f_rs, f_fxm) = (f_rs, (number_below fxm _ f_fxm (omega arith), tt))
values_fit (insn.MtOneCr rs fxm) (f_rs, f_fxm) = (f_rs, (number_below fxm _ f_fxm (omega arith), tt))
values_fit (insn.Access op rt ra disp) (same, f_rt, f_ra, f_disp) = subst (λ which. FitKinds (layout_texts which op) (pos rt ∷ disp ∷ pos ra ∷ [])) (sym same) (chosen _ _ (loads_with_update op || stores_with_update op) (pos rt ∷ disp ∷ pos ra ∷ []) (λ e. (f_rt, ((displacement_within (scales_displacement op) disp f_disp, f_ra), tt))) (λ e. (f_rt, ((displacement_within (scales_displacement op) disp f_disp, f_ra), tt))))
values_fit (insn.AccessX op rt ra rb) (same, f_rt, f_ra, f_rb) = subst (λ which. FitKinds (layout_texts which op) (pos rt ∷ pos ra ∷ pos rb ∷ [])) (sym same) (chosen _ _ (loads_with_update op || stores_with_update op) (pos rt ∷ pos ra ∷ pos rb ∷ []) (λ e. (f_rt, (f_ra, (f_rb, tt)))) (λ e. (f_rt, (f_ra, (f_rb, tt)))))
values_fit (insn.Block op ra rb) (same, f_ra, f_rb) = subst (λ which. FitKinds (layout_texts which op) (pos ra ∷ pos rb ∷ [])) (sym same) (f_ra, (f_rb, tt))
values_fit (insn.MfSpr rt spr) (f_rt, f_spr) = (f_rt, (number_below spr _ f_spr (omega arith), tt))
values_fit (insn.MtSpr rs spr) (f_rs, f_spr) = (number_below spr _ f_spr (omega arith), (f_rs, tt))
values_fit (insn.MfTb rt spr) (f_rt, f_spr) = (f_rt, (number_below spr _ f_spr (omega arith), tt))
values_fit (insn.MfMsr rt) f_rt = (f_rt, tt)
values_fit (insn.MtMsr op rs l) (same, f_rs) = subst (λ which. FitKinds (layout_texts which op) (pos rs ∷ pos (from_bool l) ∷ [])) (sym same) (f_rs, (flag_below l, tt))
values_fit (insn.Sync l) f_l = (number_below l _ f_l (omega arith), tt)
values_fit insn.Eieio none = tt
values_fit insn.TlbSync none = tt
values_fit (insn.Inval op rb rs ric prs r) (same, f_rb, f_rs, f_ric) = subst (λ which. FitKinds (layout_texts which op) (pos rb ∷ pos rs ∷ pos ric ∷ pos (from_bool prs) ∷ pos (from_bool r) ∷ [])) (sym same) (f_rb, (f_rs, (number_below ric _ f_ric (omega arith), (flag_below prs, (flag_below r, tt)))))
values_fit (insn.Message op rb) (same, f_rb) = subst (λ which. FitKinds (layout_texts which op) (pos rb ∷ [])) (sym same) (f_rb, tt)
values_fit insn.Isync none = tt
values_fit insn.Rfid none = tt
values_fit insn.Hrfid none = tt
values_fit (insn.Sc lev) f_lev = (number_below lev _ f_lev (omega arith), tt)
