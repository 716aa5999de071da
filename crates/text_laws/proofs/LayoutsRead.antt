-- Written by tools/make_tables.py from docs/INSTRUCTIONS.md.
-- The values of each form make the form, and its name takes its marks.
use Rattle.std.proofs.Common.{◌≡◌, ◌∷◌, [], true, false, cond, Some, refl, sym, subst}
use Rattle.std.specs.Prelude.{pos, not, ◌&&◌, ◌||◌}
use Rattle.std.specs.Int.{from_bool}
use Rattle.ppc_ops.specs.declared.insn.Insn.{Insn}
use Rattle.ppc_ops.specs.declared.insn.Insn.TheVariants as insn
use Rattle.ppc_ops.specs.Classes.{compares_unsigned, has_one_source, loads_with_update, scales_displacement, seeks_any_byte, shifts_words, stores_with_update, takes_zero, turns_by_register}
use Rattle.ppc_ops.specs.Fitting.{FitsFields}
use Rattle.operand_texts.specs.Marks.{has_overflow, has_record, has_link, has_absolute}
use Rattle.operand_texts.specs.Mnemonics.{marked, unmarked, takes_marks}
use Rattle.operand_texts.specs.Operands.{operand_texts, layout_texts, is_rlwnm}
use Rattle.asm_forms.specs.Layouts.{form_by}
use Rattle.asm_forms.specs.Values.{value_at}
use Rattle.asm_forms.specs.Words.{form_of}
use Rattle.ppc_disasm.specs.Forms.{mnemonic_of, values_of}
use Rattle.text_laws.proofs.Shapes.{shown_values}
use Rattle.text_laws.proofs.FieldsRead.{either, or_true, number_read, zero_read, flag_read, flag_unless_read, signed_read, displacement_read, compared_read, branch_read, jump_read}

pub values_read : (i : Insn) → FitsFields i → form_of (mnemonic_of i) (shown_values (operand_texts (mnemonic_of i).op) (values_of i)) ≡ Some i
unfolding value_at
values_read (insn.AddImm op rt ra si) (same, f_rt, f_ra, f_si) = subst (λ which. form_by which (unmarked op) (shown_values (layout_texts which op) (pos rt ∷ pos ra ∷ si ∷ [])) ≡ Some (insn.AddImm op rt ra si)) (sym same) (either (takes_zero op) (λ e. rw (e, number_read 5 rt f_rt, number_read 5 ra f_ra, signed_read si f_si) refl) (λ e. rw (e, number_read 5 rt f_rt, number_read 5 ra f_ra, signed_read si f_si) refl))
values_read (insn.AddPc rt d) (f_rt, f_d) = rw (number_read 5 rt f_rt, signed_read d f_d) refl
values_read (insn.Arith op rt ra rb oe rc) (same, f_rt, f_ra, f_rb) = subst (λ which. form_by which (marked op oe rc false false) (shown_values (layout_texts which op) (pos rt ∷ pos ra ∷ pos rb ∷ [])) ≡ Some (insn.Arith op rt ra rb oe rc)) (sym same) (either (has_one_source op) (λ e. rw (e, number_read 5 rt f_rt, number_read 5 ra f_ra, zero_read rb (rw e at f_rb)) refl) (λ e. rw (e, number_read 5 rt f_rt, number_read 5 ra f_ra, number_read 5 rb (rw e at f_rb)) refl))
values_read (insn.MulHigh op rt ra rb rc) (same, f_rt, f_ra, f_rb) = subst (λ which. form_by which (marked op false rc false false) (shown_values (layout_texts which op) (pos rt ∷ pos ra ∷ pos rb ∷ [])) ≡ Some (insn.MulHigh op rt ra rb rc)) (sym same) (rw (number_read 5 rt f_rt, number_read 5 ra f_ra, number_read 5 rb f_rb) refl)
values_read (insn.Modulo op rt ra rb) (same, f_rt, f_ra, f_rb) = subst (λ which. form_by which (unmarked op) (shown_values (layout_texts which op) (pos rt ∷ pos ra ∷ pos rb ∷ [])) ≡ Some (insn.Modulo op rt ra rb)) (sym same) (rw (number_read 5 rt f_rt, number_read 5 ra f_ra, number_read 5 rb f_rb) refl)
values_read (insn.MulAdd op rt ra rb third) (same, f_rt, f_ra, f_rb, f_third) = subst (λ which. form_by which (unmarked op) (shown_values (layout_texts which op) (pos rt ∷ pos ra ∷ pos rb ∷ pos third ∷ [])) ≡ Some (insn.MulAdd op rt ra rb third)) (sym same) (rw (number_read 5 rt f_rt, number_read 5 ra f_ra, number_read 5 rb f_rb, number_read 5 third f_third) refl)
values_read (insn.LogicImm op ra rs ui) (same, f_ra, f_rs, f_ui) = subst (λ which. form_by which (unmarked op) (shown_values (layout_texts which op) (pos ra ∷ pos rs ∷ pos ui ∷ [])) ≡ Some (insn.LogicImm op ra rs ui)) (sym same) (rw (number_read 5 ra f_ra, number_read 5 rs f_rs, number_read 16 ui f_ui) refl)
values_read (insn.Logic op ra rs rb rc) (same, f_ra, f_rs, f_rb) = subst (λ which. form_by which (marked op false rc false false) (shown_values (layout_texts which op) (pos ra ∷ pos rs ∷ pos rb ∷ [])) ≡ Some (insn.Logic op ra rs rb rc)) (sym same) (rw (number_read 5 ra f_ra, number_read 5 rs f_rs, number_read 5 rb f_rb) refl)
values_read (insn.Unary op ra rs rc) (same, f_ra, f_rs) = subst (λ which. form_by which (marked op false rc false false) (shown_values (layout_texts which op) (pos ra ∷ pos rs ∷ [])) ≡ Some (insn.Unary op ra rs rc)) (sym same) (rw (number_read 5 ra f_ra, number_read 5 rs f_rs) refl)
values_read (insn.Count op ra rs) (same, f_ra, f_rs) = subst (λ which. form_by which (unmarked op) (shown_values (layout_texts which op) (pos ra ∷ pos rs ∷ [])) ≡ Some (insn.Count op ra rs)) (sym same) (rw (number_read 5 ra f_ra, number_read 5 rs f_rs) refl)
values_read (insn.Bytes op ra rs rb) (same, f_ra, f_rs, f_rb) = subst (λ which. form_by which (unmarked op) (shown_values (layout_texts which op) (pos ra ∷ pos rs ∷ pos rb ∷ [])) ≡ Some (insn.Bytes op ra rs rb)) (sym same) (rw (number_read 5 ra f_ra, number_read 5 rs f_rs, number_read 5 rb f_rb) refl)
values_read (insn.ShiftImm op ra rs sh rc) (same, f_ra, f_rs, f_sh) = subst (λ which. form_by which (marked op false rc false false) (shown_values (layout_texts which op) (pos ra ∷ pos rs ∷ pos sh ∷ [])) ≡ Some (insn.ShiftImm op ra rs sh rc)) (sym same) (rw (number_read 5 ra f_ra, number_read 5 rs f_rs, number_read (cond (shifts_words op) 5 6) sh f_sh) refl)
values_read (insn.RotWord op ra rs by mb me rc) (same, f_ra, f_rs, f_by, f_mb, f_me) = subst (λ which. form_by which (marked op false rc false false) (shown_values (layout_texts which op) (pos ra ∷ pos rs ∷ pos by ∷ pos mb ∷ pos me ∷ [])) ≡ Some (insn.RotWord op ra rs by mb me rc)) (sym same) (either (is_rlwnm op) (λ e. rw (e, number_read 5 ra f_ra, number_read 5 rs f_rs, number_read 5 by f_by, number_read 5 mb f_mb, number_read 5 me f_me) refl) (λ e. rw (e, number_read 5 ra f_ra, number_read 5 rs f_rs, number_read 5 by f_by, number_read 5 mb f_mb, number_read 5 me f_me) refl))
values_read (insn.RotDouble op ra rs by edge rc) (same, f_ra, f_rs, f_by, f_edge) = subst (λ which. form_by which (marked op false rc false false) (shown_values (layout_texts which op) (pos ra ∷ pos rs ∷ pos by ∷ pos edge ∷ [])) ≡ Some (insn.RotDouble op ra rs by edge rc)) (sym same) (either (turns_by_register op) (λ e. rw (e, number_read 5 ra f_ra, number_read 5 rs f_rs, number_read 5 by (rw e at f_by), number_read 6 edge f_edge) refl) (λ e. rw (e, number_read 5 ra f_ra, number_read 5 rs f_rs, number_read 6 by (rw e at f_by), number_read 6 edge f_edge) refl))
values_read (insn.Select rt ra rb bit) (f_rt, f_ra, f_rb, f_bit) = rw (number_read 5 rt f_rt, number_read 5 ra f_ra, number_read 5 rb f_rb, number_read 5 bit f_bit) refl
values_read (insn.CmpImm op bf wide ra value) (same, f_bf, f_ra, f_value) = subst (λ which. form_by which (unmarked op) (shown_values (layout_texts which op) (pos bf ∷ pos (from_bool wide) ∷ pos ra ∷ value ∷ [])) ≡ Some (insn.CmpImm op bf wide ra value)) (sym same) (either (compares_unsigned op) (λ e. rw (e, number_read 3 bf f_bf, flag_read wide, number_read 5 ra f_ra, compared_read true value (rw e at f_value)) refl) (λ e. rw (e, number_read 3 bf f_bf, flag_read wide, number_read 5 ra f_ra, compared_read false value (rw e at f_value)) refl))
values_read (insn.Cmp op bf wide ra rb) (same, f_bf, f_ra, f_rb) = subst (λ which. form_by which (unmarked op) (shown_values (layout_texts which op) (pos bf ∷ pos (from_bool wide) ∷ pos ra ∷ pos rb ∷ [])) ≡ Some (insn.Cmp op bf wide ra rb)) (sym same) (rw (number_read 3 bf f_bf, flag_read wide, number_read 5 ra f_ra, number_read 5 rb f_rb) refl)
values_read (insn.CmpByte op bf two ra rb) (same, f_bf, f_two, f_ra, f_rb) = subst (λ which. form_by which (unmarked op) (shown_values (layout_texts which op) (pos bf ∷ pos (from_bool two) ∷ pos ra ∷ pos rb ∷ [])) ≡ Some (insn.CmpByte op bf two ra rb)) (sym same) (rw (number_read 3 bf f_bf, flag_unless_read (seeks_any_byte op) two f_two, number_read 5 ra f_ra, number_read 5 rb f_rb) refl)
values_read (insn.SetB rt bfa) (f_rt, f_bfa) = rw (number_read 5 rt f_rt, number_read 3 bfa f_bfa) refl
values_read (insn.TrapImm op to ra si) (same, f_to, f_ra, f_si) = subst (λ which. form_by which (unmarked op) (shown_values (layout_texts which op) (pos to ∷ pos ra ∷ si ∷ [])) ≡ Some (insn.TrapImm op to ra si)) (sym same) (rw (number_read 5 to f_to, number_read 5 ra f_ra, signed_read si f_si) refl)
values_read (insn.Trap op to ra rb) (same, f_to, f_ra, f_rb) = subst (λ which. form_by which (unmarked op) (shown_values (layout_texts which op) (pos to ∷ pos ra ∷ pos rb ∷ [])) ≡ Some (insn.Trap op to ra rb)) (sym same) (rw (number_read 5 to f_to, number_read 5 ra f_ra, number_read 5 rb f_rb) refl)
values_read (insn.Jump li aa lk) f_li = rw (jump_read li f_li) refl
values_read (insn.Branch bo bi bd aa lk) (f_bo, f_bi, f_bd) = rw (number_read 5 bo f_bo, number_read 5 bi f_bi, branch_read bd f_bd) refl
values_read (insn.BranchReg op bo bi lk) (same, f_bo, f_bi) = subst (λ which. form_by which (marked op false false lk false) (shown_values (layout_texts which op) (pos bo ∷ pos bi ∷ [])) ≡ Some (insn.BranchReg op bo bi lk)) (sym same) (rw (number_read 5 bo f_bo, number_read 5 bi f_bi) refl)
values_read (insn.CrBit op bt ba bb) (same, f_bt, f_ba, f_bb) = subst (λ which. form_by which (unmarked op) (shown_values (layout_texts which op) (pos bt ∷ pos ba ∷ pos bb ∷ [])) ≡ Some (insn.CrBit op bt ba bb)) (sym same) (rw (number_read 5 bt f_bt, number_read 5 ba f_ba, number_read 5 bb f_bb) refl)
values_read (insn.CrMove bf bfa) (f_bf, f_bfa) = rw (number_read 3 bf f_bf, number_read 3 bfa f_bfa) refl
values_read (insn.MoveXer bf) f_bf = rw (number_read 3 bf f_bf) refl
values_read (insn.MfCr rt) f_rt = rw (number_read 5 rt f_rt) refl
values_read (insn.MfOneCr rt fxm) (f_rt, f_fxm) = rw (number_read 5 rt f_rt, number_read 8 fxm f_fxm) refl
values_read (insn.MtCr rs fxm) (f_rs, f_fxm) = rw (number_read 5 rs f_rs, number_read 8 fxm f_fxm) refl
values_read (insn.MtOneCr rs fxm) (f_rs, f_fxm) = rw (number_read 5 rs f_rs, number_read 8 fxm f_fxm) refl
values_read (insn.Access op rt ra disp) (same, f_rt, f_ra, f_disp) = subst (λ which. form_by which (unmarked op) (shown_values (layout_texts which op) (pos rt ∷ disp ∷ pos ra ∷ [])) ≡ Some (insn.Access op rt ra disp)) (sym same) (either (loads_with_update op || stores_with_update op) (λ e. rw (e, number_read 5 rt f_rt, number_read 5 ra f_ra, displacement_read (scales_displacement op) disp f_disp) refl) (λ e. rw (e, number_read 5 rt f_rt, number_read 5 ra f_ra, displacement_read (scales_displacement op) disp f_disp) refl))
values_read (insn.AccessX op rt ra rb) (same, f_rt, f_ra, f_rb) = subst (λ which. form_by which (unmarked op) (shown_values (layout_texts which op) (pos rt ∷ pos ra ∷ pos rb ∷ [])) ≡ Some (insn.AccessX op rt ra rb)) (sym same) (either (loads_with_update op || stores_with_update op) (λ e. rw (e, number_read 5 rt f_rt, number_read 5 ra f_ra, number_read 5 rb f_rb) refl) (λ e. rw (e, number_read 5 rt f_rt, number_read 5 ra f_ra, number_read 5 rb f_rb) refl))
values_read (insn.Block op ra rb) (same, f_ra, f_rb) = subst (λ which. form_by which (unmarked op) (shown_values (layout_texts which op) (pos ra ∷ pos rb ∷ [])) ≡ Some (insn.Block op ra rb)) (sym same) (rw (number_read 5 ra f_ra, number_read 5 rb f_rb) refl)
values_read (insn.MfSpr rt spr) (f_rt, f_spr) = rw (number_read 5 rt f_rt, number_read 10 spr f_spr) refl
values_read (insn.MtSpr rs spr) (f_rs, f_spr) = rw (number_read 5 rs f_rs, number_read 10 spr f_spr) refl
values_read (insn.MfTb rt spr) (f_rt, f_spr) = rw (number_read 5 rt f_rt, number_read 10 spr f_spr) refl
values_read (insn.MfMsr rt) f_rt = rw (number_read 5 rt f_rt) refl
values_read (insn.MtMsr op rs l) (same, f_rs) = subst (λ which. form_by which (unmarked op) (shown_values (layout_texts which op) (pos rs ∷ pos (from_bool l) ∷ [])) ≡ Some (insn.MtMsr op rs l)) (sym same) (rw (number_read 5 rs f_rs, flag_read l) refl)
values_read (insn.Sync l) f_l = rw (number_read 2 l f_l) refl
values_read insn.Eieio none = refl
values_read insn.TlbSync none = refl
values_read (insn.Inval op rb rs ric prs r) (same, f_rb, f_rs, f_ric) = subst (λ which. form_by which (unmarked op) (shown_values (layout_texts which op) (pos rb ∷ pos rs ∷ pos ric ∷ pos (from_bool prs) ∷ pos (from_bool r) ∷ [])) ≡ Some (insn.Inval op rb rs ric prs r)) (sym same) (rw (number_read 5 rb f_rb, number_read 5 rs f_rs, number_read 2 ric f_ric, flag_read prs, flag_read r) refl)
values_read (insn.Message op rb) (same, f_rb) = subst (λ which. form_by which (unmarked op) (shown_values (layout_texts which op) (pos rb ∷ [])) ≡ Some (insn.Message op rb)) (sym same) (rw (number_read 5 rb f_rb) refl)
values_read insn.Isync none = refl
values_read insn.Rfid none = refl
values_read insn.Hrfid none = refl
values_read (insn.Sc lev) f_lev = rw (number_read 1 lev f_lev) refl

pub marks_taken : (i : Insn) → FitsFields i → takes_marks (mnemonic_of i) ≡ true
marks_taken (insn.AddImm op rt ra si) (same, f_rt, f_ra, f_si) = refl
marks_taken (insn.AddPc rt d) (f_rt, f_d) = refl
marks_taken (insn.Arith op rt ra rb oe rc) (same, f_rt, f_ra, f_rb) = subst (λ which. ((not oe || has_overflow which) && (not rc || has_record which) && (not false || has_link which) && (not false || has_absolute which)) ≡ true) (sym same) (rw (or_true (not oe), or_true (not rc)) refl)
marks_taken (insn.MulHigh op rt ra rb rc) (same, f_rt, f_ra, f_rb) = subst (λ which. ((not false || has_overflow which) && (not rc || has_record which) && (not false || has_link which) && (not false || has_absolute which)) ≡ true) (sym same) (rw (or_true (not rc)) refl)
marks_taken (insn.Modulo op rt ra rb) (same, f_rt, f_ra, f_rb) = refl
marks_taken (insn.MulAdd op rt ra rb third) (same, f_rt, f_ra, f_rb, f_third) = refl
marks_taken (insn.LogicImm op ra rs ui) (same, f_ra, f_rs, f_ui) = refl
marks_taken (insn.Logic op ra rs rb rc) (same, f_ra, f_rs, f_rb) = subst (λ which. ((not false || has_overflow which) && (not rc || has_record which) && (not false || has_link which) && (not false || has_absolute which)) ≡ true) (sym same) (rw (or_true (not rc)) refl)
marks_taken (insn.Unary op ra rs rc) (same, f_ra, f_rs) = subst (λ which. ((not false || has_overflow which) && (not rc || has_record which) && (not false || has_link which) && (not false || has_absolute which)) ≡ true) (sym same) (rw (or_true (not rc)) refl)
marks_taken (insn.Count op ra rs) (same, f_ra, f_rs) = refl
marks_taken (insn.Bytes op ra rs rb) (same, f_ra, f_rs, f_rb) = refl
marks_taken (insn.ShiftImm op ra rs sh rc) (same, f_ra, f_rs, f_sh) = subst (λ which. ((not false || has_overflow which) && (not rc || has_record which) && (not false || has_link which) && (not false || has_absolute which)) ≡ true) (sym same) (rw (or_true (not rc)) refl)
marks_taken (insn.RotWord op ra rs by mb me rc) (same, f_ra, f_rs, f_by, f_mb, f_me) = subst (λ which. ((not false || has_overflow which) && (not rc || has_record which) && (not false || has_link which) && (not false || has_absolute which)) ≡ true) (sym same) (rw (or_true (not rc)) refl)
marks_taken (insn.RotDouble op ra rs by edge rc) (same, f_ra, f_rs, f_by, f_edge) = subst (λ which. ((not false || has_overflow which) && (not rc || has_record which) && (not false || has_link which) && (not false || has_absolute which)) ≡ true) (sym same) (rw (or_true (not rc)) refl)
marks_taken (insn.Select rt ra rb bit) (f_rt, f_ra, f_rb, f_bit) = refl
marks_taken (insn.CmpImm op bf wide ra value) (same, f_bf, f_ra, f_value) = refl
marks_taken (insn.Cmp op bf wide ra rb) (same, f_bf, f_ra, f_rb) = refl
marks_taken (insn.CmpByte op bf two ra rb) (same, f_bf, f_two, f_ra, f_rb) = refl
marks_taken (insn.SetB rt bfa) (f_rt, f_bfa) = refl
marks_taken (insn.TrapImm op to ra si) (same, f_to, f_ra, f_si) = refl
marks_taken (insn.Trap op to ra rb) (same, f_to, f_ra, f_rb) = refl
marks_taken (insn.Jump li aa lk) f_li = rw (or_true (not lk), or_true (not aa)) refl
marks_taken (insn.Branch bo bi bd aa lk) (f_bo, f_bi, f_bd) = rw (or_true (not lk), or_true (not aa)) refl
marks_taken (insn.BranchReg op bo bi lk) (same, f_bo, f_bi) = subst (λ which. ((not false || has_overflow which) && (not false || has_record which) && (not lk || has_link which) && (not false || has_absolute which)) ≡ true) (sym same) (rw (or_true (not lk)) refl)
marks_taken (insn.CrBit op bt ba bb) (same, f_bt, f_ba, f_bb) = refl
marks_taken (insn.CrMove bf bfa) (f_bf, f_bfa) = refl
marks_taken (insn.MoveXer bf) f_bf = refl
marks_taken (insn.MfCr rt) f_rt = refl
marks_taken (insn.MfOneCr rt fxm) (f_rt, f_fxm) = refl
marks_taken (insn.MtCr rs fxm) (f_rs, f_fxm) = refl
marks_taken (insn.MtOneCr rs fxm) (f_rs, f_fxm) = refl
marks_taken (insn.Access op rt ra disp) (same, f_rt, f_ra, f_disp) = refl
marks_taken (insn.AccessX op rt ra rb) (same, f_rt, f_ra, f_rb) = refl
marks_taken (insn.Block op ra rb) (same, f_ra, f_rb) = refl
marks_taken (insn.MfSpr rt spr) (f_rt, f_spr) = refl
marks_taken (insn.MtSpr rs spr) (f_rs, f_spr) = refl
marks_taken (insn.MfTb rt spr) (f_rt, f_spr) = refl
marks_taken (insn.MfMsr rt) f_rt = refl
marks_taken (insn.MtMsr op rs l) (same, f_rs) = refl
marks_taken (insn.Sync l) f_l = refl
marks_taken insn.Eieio none = refl
marks_taken insn.TlbSync none = refl
marks_taken (insn.Inval op rb rs ric prs r) (same, f_rb, f_rs, f_ric) = refl
marks_taken (insn.Message op rb) (same, f_rb) = refl
marks_taken insn.Isync none = refl
marks_taken insn.Rfid none = refl
marks_taken insn.Hrfid none = refl
marks_taken (insn.Sc lev) f_lev = refl
