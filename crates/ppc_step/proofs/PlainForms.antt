-- Forms that work on registers alone, among all.
use Rattle.std.proofs.Common.{◌≡◌, ℕ, ℤ, [], Some, None, true, false, if◌then◌else◌, ap, sym, ◌∙◌, refl, subst}
use Rattle.journal_core.specs.declared.causes.Cause.{Cause}
use Rattle.form_outcomes.specs.Outcomes.{Outcome, Takes, unless, unsupported}
use Rattle.storage_ops.specs.AccessTable.{access_form}
use Rattle.storage_ops.specs.Deeds.{deed_of, reserves_by}
use Rattle.storage_ops.specs.Reaching.{asks_of}
use Rattle.ppc_ops.specs.declared.op.Op.{Op}
use Rattle.ppc_ops.specs.declared.insn.Insn.{Insn}
use Rattle.ppc_ops.specs.declared.insn.Insn.TheVariants.{AddImm, AddPc, Arith, MulHigh, Modulo, MulAdd, LogicImm, Logic, Unary, Count, Bytes, ShiftImm, RotWord, RotDouble, Select, CmpImm, Cmp, CmpByte, SetB, TrapImm, Trap, Jump, Branch, BranchReg, CrBit, CrMove, MoveXer, MfCr, MfOneCr, MtCr, MtOneCr, Access, AccessX, Block, MfSpr, MtSpr, MfTb, MfMsr, MtMsr, Sync, Eieio, TlbSync, Inval, Message, Isync, Rfid, Hrfid, Sc}
use Rattle.thread_regs.specs.declared.registers.Thread.{Thread}
use Rattle.storage_ops.specs.Effects.{After, Around}
use Rattle.ppc_step.specs.Effects.{thread_outcome}
use Rattle.ppc_step.specs.Words.{alone, access_outcome, refusal_of, asks_unless, form_outcome, form_asks}

-- what a form that is no load, store or cache block comes to, and that it asks for nothing
pub record IsPlain (i : Insn) (word : ℕ) (t : Thread) : Type 0 where
  pub outcome : (x : Around) → form_outcome i word t x ≡ alone (thread_outcome i word t)
  pub asks : form_asks i word t ≡ []

pub plain_form : (i : Insn) (word : ℕ) (t : Thread) → ((op : Op) (rt ra : ℕ) (disp : ℤ) → i ≡ Access op rt ra disp → ⊥) → ((op : Op) (rt ra rb : ℕ) → i ≡ AccessX op rt ra rb → ⊥) → ((op : Op) (ra rb : ℕ) → i ≡ Block op ra rb → ⊥) → IsPlain i word t
unfolding form_outcome form_asks
plain_form (Access op rt ra disp) word t not_access not_indexed not_block = absurd (not_access op rt ra disp refl)
plain_form (AccessX op rt ra rb) word t not_access not_indexed not_block = absurd (not_indexed op rt ra rb refl)
plain_form (Block op ra rb) word t not_access not_indexed not_block = absurd (not_block op ra rb refl)
plain_form (AddImm op rt ra si) word t not_access not_indexed not_block = record { outcome = λ x. refl; asks = refl }
plain_form (AddPc rt d) word t not_access not_indexed not_block = record { outcome = λ x. refl; asks = refl }
plain_form (Arith op rt ra rb oe rc) word t not_access not_indexed not_block = record { outcome = λ x. refl; asks = refl }
plain_form (MulHigh op rt ra rb rc) word t not_access not_indexed not_block = record { outcome = λ x. refl; asks = refl }
plain_form (Modulo op rt ra rb) word t not_access not_indexed not_block = record { outcome = λ x. refl; asks = refl }
plain_form (MulAdd op rt ra rb third) word t not_access not_indexed not_block = record { outcome = λ x. refl; asks = refl }
plain_form (LogicImm op ra rs ui) word t not_access not_indexed not_block = record { outcome = λ x. refl; asks = refl }
plain_form (Logic op ra rs rb rc) word t not_access not_indexed not_block = record { outcome = λ x. refl; asks = refl }
plain_form (Unary op ra rs rc) word t not_access not_indexed not_block = record { outcome = λ x. refl; asks = refl }
plain_form (Count op ra rs) word t not_access not_indexed not_block = record { outcome = λ x. refl; asks = refl }
plain_form (Bytes op ra rs rb) word t not_access not_indexed not_block = record { outcome = λ x. refl; asks = refl }
plain_form (ShiftImm op ra rs sh rc) word t not_access not_indexed not_block = record { outcome = λ x. refl; asks = refl }
plain_form (RotWord op ra rs by' mb me rc) word t not_access not_indexed not_block = record { outcome = λ x. refl; asks = refl }
plain_form (RotDouble op ra rs by' edge rc) word t not_access not_indexed not_block = record { outcome = λ x. refl; asks = refl }
plain_form (Select rt ra rb bit) word t not_access not_indexed not_block = record { outcome = λ x. refl; asks = refl }
plain_form (SetB rt bfa) word t not_access not_indexed not_block = record { outcome = λ x. refl; asks = refl }
plain_form (MfCr rt) word t not_access not_indexed not_block = record { outcome = λ x. refl; asks = refl }
plain_form (MfOneCr rt fxm) word t not_access not_indexed not_block = record { outcome = λ x. refl; asks = refl }
plain_form (CmpImm op bf wide ra value) word t not_access not_indexed not_block = record { outcome = λ x. refl; asks = refl }
plain_form (Cmp op bf wide ra rb) word t not_access not_indexed not_block = record { outcome = λ x. refl; asks = refl }
plain_form (CmpByte op bf two ra rb) word t not_access not_indexed not_block = record { outcome = λ x. refl; asks = refl }
plain_form (CrBit op bt ba bb) word t not_access not_indexed not_block = record { outcome = λ x. refl; asks = refl }
plain_form (CrMove bf bfa) word t not_access not_indexed not_block = record { outcome = λ x. refl; asks = refl }
plain_form (MoveXer bf) word t not_access not_indexed not_block = record { outcome = λ x. refl; asks = refl }
plain_form (MtCr rs fxm) word t not_access not_indexed not_block = record { outcome = λ x. refl; asks = refl }
plain_form (MtOneCr rs fxm) word t not_access not_indexed not_block = record { outcome = λ x. refl; asks = refl }
plain_form (Jump li aa lk) word t not_access not_indexed not_block = record { outcome = λ x. refl; asks = refl }
plain_form (Branch bo bi bd aa lk) word t not_access not_indexed not_block = record { outcome = λ x. refl; asks = refl }
plain_form (BranchReg op bo bi lk) word t not_access not_indexed not_block = record { outcome = λ x. refl; asks = refl }
plain_form (TrapImm op to' ra si) word t not_access not_indexed not_block = record { outcome = λ x. refl; asks = refl }
plain_form (Trap op to' ra rb) word t not_access not_indexed not_block = record { outcome = λ x. refl; asks = refl }
plain_form (MfSpr rt spr) word t not_access not_indexed not_block = record { outcome = λ x. refl; asks = refl }
plain_form (MtSpr rs spr) word t not_access not_indexed not_block = record { outcome = λ x. refl; asks = refl }
plain_form (MfTb rt spr) word t not_access not_indexed not_block = record { outcome = λ x. refl; asks = refl }
plain_form (MfMsr rt) word t not_access not_indexed not_block = record { outcome = λ x. refl; asks = refl }
plain_form (MtMsr op rs l) word t not_access not_indexed not_block = record { outcome = λ x. refl; asks = refl }
plain_form (Sync l) word t not_access not_indexed not_block = record { outcome = λ x. refl; asks = refl }
plain_form Eieio word t not_access not_indexed not_block = record { outcome = λ x. refl; asks = refl }
plain_form TlbSync word t not_access not_indexed not_block = record { outcome = λ x. refl; asks = refl }
plain_form (Inval op rb rs ric prs r) word t not_access not_indexed not_block = record { outcome = λ x. refl; asks = refl }
plain_form (Message op rb) word t not_access not_indexed not_block = record { outcome = λ x. refl; asks = refl }
plain_form Isync word t not_access not_indexed not_block = record { outcome = λ x. refl; asks = refl }
plain_form Rfid word t not_access not_indexed not_block = record { outcome = λ x. refl; asks = refl }
plain_form Hrfid word t not_access not_indexed not_block = record { outcome = λ x. refl; asks = refl }
plain_form (Sc lev) word t not_access not_indexed not_block = record { outcome = λ x. refl; asks = refl }

-- a form that is an access and nothing else
pub record IsOpen (i : Insn) (word : ℕ) (t : Thread) : Type 0 where
  pub outcome : (x : Around) → access_outcome i t x ≡ form_outcome i word t x
  pub asks : asks_of (deed_of i t) t ≡ form_asks i word t

pub access_is_open : (i : Insn) (word : ℕ) (t : Thread) (op : Op) (rt ra : ℕ) (disp : ℤ) → i ≡ Access op rt ra disp → IsOpen i word t
unfolding form_outcome form_asks
access_is_open i word t op rt ra disp is = subst (λ i. IsOpen i word t) (sym is) (record { outcome = λ x. refl; asks = refl })

pub block_is_open : (i : Insn) (word : ℕ) (t : Thread) (op : Op) (ra rb : ℕ) → i ≡ Block op ra rb → IsOpen i word t
unfolding form_outcome form_asks
block_is_open i word t op ra rb is = subst (λ i. IsOpen i word t) (sym is) (record { outcome = λ x. refl; asks = refl })

pub indexed_is_open : (i : Insn) (word : ℕ) (t : Thread) (op : Op) (rt ra rb : ℕ) → i ≡ AccessX op rt ra rb → reserves_by (access_form op) ≡ false → refusal_of op word t ≡ None → IsOpen i word t
unfolding form_outcome form_asks
indexed_is_open i word t op rt ra rb is free open_is = subst (λ i. IsOpen i word t) (sym is) (record {
  outcome = λ x. sym (ap (λ b. if b then unsupported word else unless (refusal_of op word t) (access_outcome (AccessX op rt ra rb) t x)) free ∙ ap (λ r. unless r (access_outcome (AccessX op rt ra rb) t x)) open_is);
  asks = sym (ap (λ b. if b then [] else asks_unless (refusal_of op word t) (asks_of (deed_of (AccessX op rt ra rb) t) t)) free ∙ ap (λ r. asks_unless r (asks_of (deed_of (AccessX op rt ra rb) t) t)) open_is);
})

-- a form that is refused, and asks for nothing
pub record IsRefused (i : Insn) (word : ℕ) (t : Thread) (o : Outcome After) : Type 0 where
  pub outcome : (x : Around) → o ≡ form_outcome i word t x
  pub asks : form_asks i word t ≡ []

pub reserving_is_refused : (i : Insn) (word : ℕ) (t : Thread) (op : Op) (rt ra rb : ℕ) → i ≡ AccessX op rt ra rb → reserves_by (access_form op) ≡ true → IsRefused i word t (unsupported word)
unfolding form_outcome form_asks
reserving_is_refused i word t op rt ra rb is reserving = subst (λ i. IsRefused i word t (unsupported word)) (sym is) (record {
  outcome = λ x. sym (ap (λ b. if b then unsupported word else unless (refusal_of op word t) (access_outcome (AccessX op rt ra rb) t x)) reserving);
  asks = ap (λ b. if b then [] else asks_unless (refusal_of op word t) (asks_of (deed_of (AccessX op rt ra rb) t) t)) reserving;
})

pub indexed_is_refused : (i : Insn) (word : ℕ) (t : Thread) (op : Op) (rt ra rb : ℕ) (cause : Cause) → i ≡ AccessX op rt ra rb → reserves_by (access_form op) ≡ false → refusal_of op word t ≡ Some cause → IsRefused i word t (Takes cause)
unfolding form_outcome form_asks
indexed_is_refused i word t op rt ra rb cause is free refused = subst (λ i. IsRefused i word t (Takes cause)) (sym is) (record {
  outcome = λ x. sym (ap (λ b. if b then unsupported word else unless (refusal_of op word t) (access_outcome (AccessX op rt ra rb) t x)) free ∙ ap (λ r. unless r (access_outcome (AccessX op rt ra rb) t x)) refused);
  asks = ap (λ b. if b then [] else asks_unless (refusal_of op word t) (asks_of (deed_of (AccessX op rt ra rb) t) t)) free ∙ ap (λ r. asks_unless r (asks_of (deed_of (AccessX op rt ra rb) t) t)) refused;
})
