-- What each word leaves of a thread that is sound, and what an interrupt and a tick do.
use Rattle.std.proofs.Common.{◌≡◌, ℕ, ◌%◌, Bool, true, false, if◌then◌else◌, List, [], ◌∷◌, length, slice_index, slice_set, Option, Some, None, refl, ap, arith}
use Rattle.ppc_ops.specs.declared.op.Op.{Op}
use Rattle.ppc_ops.specs.declared.insn.Insn.{Insn}
use Rattle.ppc_ops.specs.declared.insn.Insn.TheVariants.{AddImm, AddPc, Arith, MulHigh, Modulo, MulAdd, LogicImm, Logic, Unary, Count, Bytes, ShiftImm, RotWord, RotDouble, Select, CmpImm, Cmp, CmpByte, SetB, TrapImm, Trap, Jump, Branch, BranchReg, CrBit, CrMove, MoveXer, MfCr, MfOneCr, MtCr, MtOneCr, Access, AccessX, Block, MfSpr, MtSpr, MfTb, MfMsr, MtMsr, Sync, Eieio, TlbSync, Inval, Message, Isync, Rfid, Hrfid, Sc}
use Rattle.ppc_ops.specs.declared.results.ArithOut.{ArithOut}
use Rattle.ppc_ops.specs.declared.results.Xer.{Xer}
use Rattle.ppc_bits.specs.Addresses.{next_address, aligned}
use Rattle.ppc_spr.specs.Msrs.{after_interrupt}
use Rattle.ppc_spr.proofs.LawLemmas.{interrupt_profiled}
use Rattle.word_decoder.specs.declared.decoded.Decoded.{Decoded}
use Rattle.word_decoder.specs.declared.decoded.Decoded.TheVariants.{Form, Zero, InvalidForm, Unsupported}
use Rattle.word_decoder.specs.Decode.{decoded_of}
use Rattle.branch_unit.specs.declared.branching.BranchOut.{BranchOut}
use Rattle.branch_unit.specs.Branch.{branch_of, place}
use Rattle.branch_unit.specs.Trap.{trap_of}
use Rattle.journal_core.specs.declared.causes.Cause.{Cause}
use Rattle.journal_core.specs.declared.causes.Cause.TheVariants.{Alignment}
use Rattle.journal_core.specs.declared.rows.StopName.{StopName}
use Rattle.journal_core.specs.Steps.{StepRows}
use Rattle.form_outcomes.specs.Outcomes.{Outcome, Goes, Takes, Stops, after_of, unless, unsupported}
use Rattle.thread_regs.specs.declared.registers.Thread.{Thread}
use Rattle.thread_regs.specs.Registers.{gpr, with_gpr, advanced}
use Rattle.thread_regs.specs.Soundness.{IsSoundThread}
use Rattle.thread_regs.proofs.SoundLemmas.{IsProfiled-same}
use Rattle.interrupts.specs.Table.{interrupt_of}
use Rattle.interrupts.specs.Delivery.{delivered}
use Rattle.interrupts.specs.Clock.{ticked}
use Rattle.interrupts.proofs.DeliveryLemmas.{leaves_the_rest, state_after, next_after, handler_is_aligned}
use Rattle.system_ops.specs.System.{system_after}
use Rattle.system_ops.proofs.Keeping.{profile_is_kept, addresses_stay}
use Rattle.system_ops.proofs.Untouched.{read_only_stay}
use Rattle.ppc_step.specs.Branching.{left_by}
use Rattle.ppc_step.specs.FixedPoint.{with_cr0, left_in}
use Rattle.storage_ops.specs.declared.forms.AccessForm.{AccessForm}
use Rattle.storage_ops.specs.declared.deeds.Deed.{Deed}
use Rattle.storage_ops.specs.declared.deeds.Deed.TheVariants.{Moves, Clears, Touches, Nothing}
use Rattle.storage_ops.specs.declared.parts.Part.{Part}
use Rattle.storage_ops.specs.AccessTable.{access_form}
use Rattle.storage_ops.specs.Parts.{is_whole}
use Rattle.storage_ops.specs.Deeds.{deed_of, is_misaligned, address_in, parts_in, reserves_by}
use Rattle.storage_ops.specs.Reaching.{and_then, laid}
use Rattle.storage_ops.specs.Checks.{first_refusal, unless_refused, device_of}
use Rattle.storage_ops.specs.Effects.{After, Around, around, load_after, store_after, move_after, clear_after, placed_outcome, deed_outcome, storage_outcome, behind, answer_in}
use Rattle.ppc_step.specs.Effects.{trapped, thread_outcome}
use Rattle.ppc_step.specs.Words.{alone, onward, access_outcome, refusal_of, indexed_outcome, form_outcome, decoded_outcome, word_outcome}
use Rattle.ppc_step.specs.States.{State}
use Rattle.ppc_step.specs.Rule.{data_uses, all_shown, registers_behind}

-- sound registers with the time base of others
pub record Keeps (t u : Thread) : Type 0 where
  pub sound : IsSoundThread u
  pub tb : u.tb ≡ t.tb

stays : (t : Thread) → IsSoundThread t → Keeps t t
stays t is = record { sound = is; tb = refl }

next_is : (a : ℕ) → a % 4 ≡ 0 → next_address a % 4 ≡ 0
next_is a h = omega arith

-- what goes on to the next instruction, and changes no register that has a profile
goes_on : (t u : Thread) → u.msr.0 ≡ t.msr.0 → u.lpcr ≡ t.lpcr → u.amr ≡ t.amr → u.iamr ≡ t.iamr → u.lpidr ≡ t.lpidr → u.pidr ≡ t.pidr → u.nia ≡ next_address t.nia → u.tb ≡ t.tb → IsSoundThread t → Keeps t u
goes_on t u msr lpcr amr iamr lpidr pidr nia tb is = record {
  sound = record { profile = IsProfiled-same t u msr lpcr amr iamr lpidr pidr is.profile; next = rw nia (next_is t.nia is.next) };
  tb = tb;
}

-- ---- units

left_by_field : (t : Thread) → IsSoundThread t → (n value : ℕ) (x : Xer) (field : Option ℕ) → Keeps t (advanced (with_cr0 field (record (with_gpr t n value) { xer = x })))
left_by_field t is n value x None = goes_on t _ refl refl refl refl refl refl refl refl is
left_by_field t is n value x (Some field) = goes_on t _ refl refl refl refl refl refl refl refl is

left_keeps : (t : Thread) → IsSoundThread t → (n : ℕ) (out : ArithOut) → Keeps t (left_in n out t)
left_keeps t is n out = left_by_field t is n out.value out.xer out.cr0

branched_next : (taken : Bool) (target cia : ℕ) → cia % 4 ≡ 0 → (if taken then aligned target else next_address cia) % 4 ≡ 0
branched_next true target cia h = omega arith
branched_next false target cia h = next_is cia h

branch_keeps : (t : Thread) (out : BranchOut) → IsSoundThread t → out.next % 4 ≡ 0 → Keeps t (left_by out t)
branch_keeps t out is next = record {
  sound = record { profile = IsProfiled-same t _ refl refl refl refl refl refl is.profile; next = next };
  tb = refl;
}

trap_keeps : (b : Bool) (t : Thread) → IsSoundThread t → Keeps t (after_of (trapped b t) t)
trap_keeps true t is = stays t is
trap_keeps false t is = goes_on t _ refl refl refl refl refl refl refl refl is

system_keeps : (i : Insn) (word : ℕ) (t : Thread) → IsSoundThread t → Keeps t (system_after i word t)
system_keeps i word t is = record {
  sound = record { profile = profile_is_kept i word t is.profile; next = addresses_stay i word t is.next };
  tb = ap (λ (xs : List ℕ). slice_index xs 0) (read_only_stay i word t);
}

-- ---- loads, stores and cache blocks

-- all registers but the general purpose registers are as they were
abbrev KeepsAllButGprs : Thread → Thread → Type 0
KeepsAllButGprs t u = u ≡ record t { gpr = u.gpr }

updated_is : (update : Bool) (base at : ℕ) (t u : Thread) → KeepsAllButGprs t u → KeepsAllButGprs t (if update then with_gpr u base at else u)
updated_is true base at t u is = ap (λ (x : Thread). record x { gpr = slice_set u.gpr base at }) is
updated_is false base at t u is = is

load_is : (form : AccessForm) (register base at : ℕ) (t : Thread) (ram : List ℕ) (answer : ℕ) (parts : List Part) (device : Option (ℕ × ℕ)) → KeepsAllButGprs t (load_after form register base at t ram answer parts device).thread
load_is form register base at t ram answer parts None = updated_is form.update base at t _ refl
load_is form register base at t ram answer parts (Some place) = updated_is form.update base at t _ refl

store_is : (form : AccessForm) (register base at : ℕ) (t : Thread) (parts : List Part) (device : Option (ℕ × ℕ)) → KeepsAllButGprs t (store_after form register base at t parts device).thread
store_is form register base at t parts None = updated_is form.update base at t t refl
store_is form register base at t parts (Some place) = updated_is form.update base at t t refl

moved_is : (store : Bool) (t : Thread) (stored loaded : After) → KeepsAllButGprs t stored.thread → KeepsAllButGprs t loaded.thread → KeepsAllButGprs t (if store then stored else loaded).thread
moved_is true t stored loaded stores loads = stores
moved_is false t stored loaded stores loads = loads

clear_is : (t : Thread) (parts : List Part) → KeepsAllButGprs t (clear_after t parts).thread
clear_is t [] = refl
clear_is t (p ∷ ps) = refl

unless_refused_is : (refusal : Option (StopName × ℕ)) (t : Thread) (a : After) → KeepsAllButGprs t a.thread → KeepsAllButGprs t (behind (unless_refused refusal (Goes a)) t).thread
unless_refused_is (Some stop) t a is = refl
unless_refused_is None t a is = is

placed_is : (deed : Deed) (t : Thread) (x : Around) (parts : List Part) → KeepsAllButGprs t (behind (placed_outcome deed t x parts) t).thread
placed_is (Moves form register base at) t x parts =
    unless_refused_is (first_refusal x.windows (is_whole parts) (length x.ram) parts) t (move_after form register base at t x.windows x.ram x.answer parts)
    (moved_is form.store t (store_after form register base at t parts (device_of x.windows parts)) (load_after form register base at t x.ram x.answer parts (device_of x.windows parts))
    (store_is form register base at t parts (device_of x.windows parts)) (load_is form register base at t x.ram x.answer parts (device_of x.windows parts)))
placed_is (Clears at) t x parts = unless_refused_is (first_refusal x.windows false (length x.ram) parts) t (clear_after t parts) (clear_is t parts)
placed_is (Touches at) t x parts = refl
placed_is Nothing t x parts = refl

laid_is : (laid_out : Outcome (List Part)) (next : List Part → Outcome After) (t : Thread) → ((parts : List Part) → KeepsAllButGprs t (behind (next parts) t).thread) → KeepsAllButGprs t (behind (and_then laid_out next) t).thread
laid_is (Goes parts) next t each = each parts
laid_is (Takes cause) next t each = refl
laid_is (Stops name value) next t each = refl

aligned_is : (wrong : Bool) (cause : Cause) (outcome : Outcome After) (t : Thread) → KeepsAllButGprs t (behind outcome t).thread → KeepsAllButGprs t (behind (if wrong then Takes cause else outcome) t).thread
aligned_is true cause outcome t is = refl
aligned_is false cause outcome t is = is

deed_is : (deed : Deed) (t : Thread) (x : Around) → KeepsAllButGprs t (behind (deed_outcome deed t x) t).thread
deed_is deed t x =
    aligned_is (is_misaligned deed) (Alignment (address_in deed)) (and_then (laid (parts_in deed) x.founds) (placed_outcome deed t x)) t
    (laid_is (laid (parts_in deed) x.founds) (placed_outcome deed t x) t (λ parts. placed_is deed t x parts))

onward_keeps : (outcome : Outcome After) (t : Thread) → IsSoundThread t → KeepsAllButGprs t (behind outcome t).thread → Keeps t (behind (and_then outcome onward) t).thread
onward_keeps (Goes a) t is like =
    goes_on t (advanced a.thread) (ap (λ (x : Thread). x.msr.0) like) (ap (λ (x : Thread). x.lpcr) like) (ap (λ (x : Thread). x.amr) like) (ap (λ (x : Thread). x.iamr) like)
    (ap (λ (x : Thread). x.lpidr) like) (ap (λ (x : Thread). x.pidr) like) (ap (λ (x : Thread). next_address x.nia) like) (ap (λ (x : Thread). x.tb) like) is
onward_keeps (Takes cause) t is like = stays t is
onward_keeps (Stops name value) t is like = stays t is

access_keeps : (i : Insn) (t : Thread) (x : Around) → IsSoundThread t → Keeps t (behind (access_outcome i t x) t).thread
unfolding storage_outcome
access_keeps i t x is = onward_keeps (storage_outcome i t x) t is (deed_is (deed_of i t) t x)

unless_keeps : (refusal : Option Cause) (outcome : Outcome After) (t : Thread) → IsSoundThread t → Keeps t (behind outcome t).thread → Keeps t (behind (unless refusal outcome) t).thread
unless_keeps (Some cause) outcome t is keeps = stays t is
unless_keeps None outcome t is keeps = keeps

supported_keeps : (reserves : Bool) (word : ℕ) (outcome : Outcome After) (t : Thread) → IsSoundThread t → Keeps t (behind outcome t).thread → Keeps t (behind (if reserves then unsupported word else outcome) t).thread
supported_keeps true word outcome t is keeps = stays t is
supported_keeps false word outcome t is keeps = keeps

indexed_keeps : (i : Insn) (op : Op) (word : ℕ) (t : Thread) (x : Around) → IsSoundThread t → Keeps t (behind (indexed_outcome i op word t x) t).thread
indexed_keeps i op word t x is =
    supported_keeps (reserves_by (access_form op)) word (unless (refusal_of op word t) (access_outcome i t x)) t is
    (unless_keeps (refusal_of op word t) (access_outcome i t x) t is (access_keeps i t x is))

-- ---- all forms

registers_keep : (i : Insn) (word : ℕ) (t : Thread) → IsSoundThread t → Keeps t (after_of (thread_outcome i word t) t)
unfolding thread_outcome branch_of
registers_keep (AddImm op rt ra si) word t is = left_keeps t is rt _
registers_keep (AddPc rt d) word t is = left_keeps t is rt _
registers_keep (Arith op rt ra rb oe rc) word t is = left_keeps t is rt _
registers_keep (MulHigh op rt ra rb rc) word t is = left_keeps t is rt _
registers_keep (Modulo op rt ra rb) word t is = left_keeps t is rt _
registers_keep (MulAdd op rt ra rb third) word t is = left_keeps t is rt _
registers_keep (LogicImm op ra rs ui) word t is = left_keeps t is ra _
registers_keep (Logic op ra rs rb rc) word t is = left_keeps t is ra _
registers_keep (Unary op ra rs rc) word t is = left_keeps t is ra _
registers_keep (Count op ra rs) word t is = left_keeps t is ra _
registers_keep (Bytes op ra rs rb) word t is = left_keeps t is ra _
registers_keep (ShiftImm op ra rs sh rc) word t is = left_keeps t is ra _
registers_keep (RotWord op ra rs by mb me rc) word t is = left_keeps t is ra _
registers_keep (RotDouble op ra rs by edge rc) word t is = left_keeps t is ra _
registers_keep (Select rt ra rb bit) word t is = goes_on t _ refl refl refl refl refl refl refl refl is
registers_keep (SetB rt bfa) word t is = goes_on t _ refl refl refl refl refl refl refl refl is
registers_keep (MfCr rt) word t is = goes_on t _ refl refl refl refl refl refl refl refl is
registers_keep (MfOneCr rt fxm) word t is = goes_on t _ refl refl refl refl refl refl refl refl is
registers_keep (CmpImm op bf wide ra value) word t is = goes_on t _ refl refl refl refl refl refl refl refl is
registers_keep (Cmp op bf wide ra rb) word t is = goes_on t _ refl refl refl refl refl refl refl refl is
registers_keep (CmpByte op bf two ra rb) word t is = goes_on t _ refl refl refl refl refl refl refl refl is
registers_keep (CrBit op bt ba bb) word t is = goes_on t _ refl refl refl refl refl refl refl refl is
registers_keep (CrMove bf bfa) word t is = goes_on t _ refl refl refl refl refl refl refl refl is
registers_keep (MoveXer bf) word t is = goes_on t _ refl refl refl refl refl refl refl refl is
registers_keep (MtCr rs fxm) word t is = goes_on t _ refl refl refl refl refl refl refl refl is
registers_keep (MtOneCr rs fxm) word t is = goes_on t _ refl refl refl refl refl refl refl refl is
registers_keep (Jump li aa lk) word t is = branch_keeps t _ is (branched_next true (place aa li t.nia) t.nia is.next)
registers_keep (Branch bo bi bd aa lk) word t is = branch_keeps t _ is (branched_next _ _ t.nia is.next)
registers_keep (BranchReg op bo bi lk) word t is = branch_keeps t _ is (branched_next _ _ t.nia is.next)
registers_keep (TrapImm op to ra si) word t is = trap_keeps (trap_of (TrapImm op to ra si) (gpr t ra) 0) t is
registers_keep (Trap op to ra rb) word t is = trap_keeps (trap_of (Trap op to ra rb) (gpr t ra) (gpr t rb)) t is
registers_keep (Access op rt ra disp) word t is = stays t is
registers_keep (AccessX op rt ra rb) word t is = stays t is
registers_keep (Block op ra rb) word t is = stays t is
registers_keep (MfSpr rt spr) word t is = system_keeps (MfSpr rt spr) word t is
registers_keep (MtSpr rs spr) word t is = system_keeps (MtSpr rs spr) word t is
registers_keep (MfTb rt spr) word t is = system_keeps (MfTb rt spr) word t is
registers_keep (MfMsr rt) word t is = system_keeps (MfMsr rt) word t is
registers_keep (MtMsr op rs l) word t is = system_keeps (MtMsr op rs l) word t is
registers_keep (Sync l) word t is = system_keeps (Sync l) word t is
registers_keep Eieio word t is = system_keeps Eieio word t is
registers_keep TlbSync word t is = system_keeps TlbSync word t is
registers_keep (Inval op rb rs ric prs r) word t is = system_keeps (Inval op rb rs ric prs r) word t is
registers_keep (Message op rb) word t is = system_keeps (Message op rb) word t is
registers_keep Isync word t is = system_keeps Isync word t is
registers_keep Rfid word t is = system_keeps Rfid word t is
registers_keep Hrfid word t is = system_keeps Hrfid word t is
registers_keep (Sc lev) word t is = system_keeps (Sc lev) word t is

alone_keeps : (outcome : Outcome Thread) (t : Thread) → IsSoundThread t → Keeps t (after_of outcome t) → Keeps t (behind (alone outcome) t).thread
alone_keeps (Goes u) t is keeps = keeps
alone_keeps (Takes cause) t is keeps = keeps
alone_keeps (Stops name value) t is keeps = keeps

form_alone : (i : Insn) (word : ℕ) (t : Thread) → IsSoundThread t → Keeps t (behind (alone (thread_outcome i word t)) t).thread
form_alone i word t is = alone_keeps (thread_outcome i word t) t is (registers_keep i word t is)

form_keeps : (i : Insn) (word : ℕ) (t : Thread) (x : Around) → IsSoundThread t → Keeps t (behind (form_outcome i word t x) t).thread
unfolding form_outcome
form_keeps (AddImm op rt ra si) word t x is = form_alone (AddImm op rt ra si) word t is
form_keeps (AddPc rt d) word t x is = form_alone (AddPc rt d) word t is
form_keeps (Arith op rt ra rb oe rc) word t x is = form_alone (Arith op rt ra rb oe rc) word t is
form_keeps (MulHigh op rt ra rb rc) word t x is = form_alone (MulHigh op rt ra rb rc) word t is
form_keeps (Modulo op rt ra rb) word t x is = form_alone (Modulo op rt ra rb) word t is
form_keeps (MulAdd op rt ra rb third) word t x is = form_alone (MulAdd op rt ra rb third) word t is
form_keeps (LogicImm op ra rs ui) word t x is = form_alone (LogicImm op ra rs ui) word t is
form_keeps (Logic op ra rs rb rc) word t x is = form_alone (Logic op ra rs rb rc) word t is
form_keeps (Unary op ra rs rc) word t x is = form_alone (Unary op ra rs rc) word t is
form_keeps (Count op ra rs) word t x is = form_alone (Count op ra rs) word t is
form_keeps (Bytes op ra rs rb) word t x is = form_alone (Bytes op ra rs rb) word t is
form_keeps (ShiftImm op ra rs sh rc) word t x is = form_alone (ShiftImm op ra rs sh rc) word t is
form_keeps (RotWord op ra rs by mb me rc) word t x is = form_alone (RotWord op ra rs by mb me rc) word t is
form_keeps (RotDouble op ra rs by edge rc) word t x is = form_alone (RotDouble op ra rs by edge rc) word t is
form_keeps (Select rt ra rb bit) word t x is = form_alone (Select rt ra rb bit) word t is
form_keeps (SetB rt bfa) word t x is = form_alone (SetB rt bfa) word t is
form_keeps (MfCr rt) word t x is = form_alone (MfCr rt) word t is
form_keeps (MfOneCr rt fxm) word t x is = form_alone (MfOneCr rt fxm) word t is
form_keeps (CmpImm op bf wide ra value) word t x is = form_alone (CmpImm op bf wide ra value) word t is
form_keeps (Cmp op bf wide ra rb) word t x is = form_alone (Cmp op bf wide ra rb) word t is
form_keeps (CmpByte op bf two ra rb) word t x is = form_alone (CmpByte op bf two ra rb) word t is
form_keeps (CrBit op bt ba bb) word t x is = form_alone (CrBit op bt ba bb) word t is
form_keeps (CrMove bf bfa) word t x is = form_alone (CrMove bf bfa) word t is
form_keeps (MoveXer bf) word t x is = form_alone (MoveXer bf) word t is
form_keeps (MtCr rs fxm) word t x is = form_alone (MtCr rs fxm) word t is
form_keeps (MtOneCr rs fxm) word t x is = form_alone (MtOneCr rs fxm) word t is
form_keeps (Jump li aa lk) word t x is = form_alone (Jump li aa lk) word t is
form_keeps (Branch bo bi bd aa lk) word t x is = form_alone (Branch bo bi bd aa lk) word t is
form_keeps (BranchReg op bo bi lk) word t x is = form_alone (BranchReg op bo bi lk) word t is
form_keeps (TrapImm op to ra si) word t x is = form_alone (TrapImm op to ra si) word t is
form_keeps (Trap op to ra rb) word t x is = form_alone (Trap op to ra rb) word t is
form_keeps (Access op rt ra disp) word t x is = access_keeps (Access op rt ra disp) t x is
form_keeps (AccessX op rt ra rb) word t x is = indexed_keeps (AccessX op rt ra rb) op word t x is
form_keeps (Block op ra rb) word t x is = access_keeps (Block op ra rb) t x is
form_keeps (MfSpr rt spr) word t x is = form_alone (MfSpr rt spr) word t is
form_keeps (MtSpr rs spr) word t x is = form_alone (MtSpr rs spr) word t is
form_keeps (MfTb rt spr) word t x is = form_alone (MfTb rt spr) word t is
form_keeps (MfMsr rt) word t x is = form_alone (MfMsr rt) word t is
form_keeps (MtMsr op rs l) word t x is = form_alone (MtMsr op rs l) word t is
form_keeps (Sync l) word t x is = form_alone (Sync l) word t is
form_keeps Eieio word t x is = form_alone Eieio word t is
form_keeps TlbSync word t x is = form_alone TlbSync word t is
form_keeps (Inval op rb rs ric prs r) word t x is = form_alone (Inval op rb rs ric prs r) word t is
form_keeps (Message op rb) word t x is = form_alone (Message op rb) word t is
form_keeps Isync word t x is = form_alone Isync word t is
form_keeps Rfid word t x is = form_alone Rfid word t is
form_keeps Hrfid word t x is = form_alone Hrfid word t is
form_keeps (Sc lev) word t x is = form_alone (Sc lev) word t is

-- ---- words

decoded_keeps : (d : Decoded) (word : ℕ) (t : Thread) (x : Around) → IsSoundThread t → Keeps t (behind (decoded_outcome d word t x) t).thread
unfolding decoded_outcome
decoded_keeps (Form insn) word t x is = form_keeps insn word t x is
decoded_keeps Zero word t x is = stays t is
decoded_keeps (InvalidForm op) word t x is = stays t is
decoded_keeps Unsupported word t x is = stays t is

word_keeps : (word : ℕ) (t : Thread) (x : Around) → IsSoundThread t → Keeps t (behind (word_outcome word t x) t).thread
unfolding word_outcome
word_keeps word t x is = decoded_keeps (decoded_of word) word t x is

-- the registers behind the form of a step
pub behind_keeps : (s : State) (own : StepRows) (word : Option ℕ) (t : Thread) → IsSoundThread t → Keeps t (registers_behind s own word t)
behind_keeps s own (Some word) t is = word_keeps word t (around s.windows s.ram (all_shown (data_uses own.row.uses)) (answer_in own.devices)) is
behind_keeps s own None t is = stays t is

-- ---- interrupts and the clock

pub delivered_keeps : (cause : Cause) (t : Thread) → IsSoundThread t → Keeps t (delivered cause t)
unfolding after_interrupt
delivered_keeps cause t is =
    let rest = leaves_the_rest cause t in
    record {
      sound = record {
        profile = record {
          machine_state = rw (state_after cause t) (interrupt_profiled t.msr.0 (interrupt_of cause).hyper is.profile.machine_state);
          partitioning = rw (ap (λ (x : Thread). x.lpcr) rest) is.profile.partitioning;
          data_mask = rw (ap (λ (x : Thread). x.amr) rest) is.profile.data_mask;
          fetch_mask = rw (ap (λ (x : Thread). x.iamr) rest) is.profile.fetch_mask;
          widths = record {
            partition = rw (ap (λ (x : Thread). x.lpidr) rest) is.profile.widths.partition;
            process = rw (ap (λ (x : Thread). x.pidr) rest) is.profile.widths.process;
          };
        };
        next = rw (next_after cause t) (handler_is_aligned cause);
      };
      tb = ap (λ (x : Thread). x.tb) rest;
    }

pub ticked_is_sound : (t : Thread) → IsSoundThread t → IsSoundThread (ticked t)
ticked_is_sound t is = record { profile = IsProfiled-same t _ refl refl refl refl refl refl is.profile; next = is.next }
