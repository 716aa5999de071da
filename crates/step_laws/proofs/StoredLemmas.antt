-- How many pieces a step stores.
use Rattle.std.proofs.Common.{◌≡◌, ℕ, ◌+◌, ◌≤◌, ◌/◌, ◌^◌, nat_le, Bool, true, false, if◌then◌else◌, List, [], ◌∷◌, length, Option, Some, None, refl, arith}
use Rattle.journal_core.specs.declared.causes.Cause.{Cause}
use Rattle.journal_core.specs.declared.rows.StopName.{StopName}
use Rattle.journal_core.specs.declared.rows.DeviceRow.{DeviceRow}
use Rattle.journal_core.specs.declared.asks.Found.{Found}
use Rattle.journal_core.specs.declared.asks.Found.TheVariants as founds_of
use Rattle.journal_core.specs.Past.{write_row, written}
use Rattle.form_outcomes.specs.Outcomes.{Outcome, Goes, Takes, Stops, unless, unsupported}
use Rattle.ppc_ops.specs.declared.op.Op.{Op}
use Rattle.ppc_ops.specs.declared.insn.Insn.{Insn}
use Rattle.ppc_ops.specs.declared.insn.Insn.TheVariants.{AddImm, AddPc, Arith, MulHigh, Modulo, MulAdd, LogicImm, Logic, Unary, Count, Bytes, ShiftImm, RotWord, RotDouble, Select, CmpImm, Cmp, CmpByte, SetB, TrapImm, Trap, Jump, Branch, BranchReg, CrBit, CrMove, MoveXer, MfCr, MfOneCr, MtCr, MtOneCr, Access, AccessX, Block, MfSpr, MtSpr, MfTb, MfMsr, MtMsr, Sync, Eieio, TlbSync, Inval, Message, Isync, Rfid, Hrfid, Sc}
use Rattle.word_decoder.specs.declared.decoded.Decoded.{Decoded}
use Rattle.word_decoder.specs.declared.decoded.Decoded.TheVariants.{Form, Zero, InvalidForm, Unsupported}
use Rattle.word_decoder.specs.Decode.{decoded_of}
use Rattle.thread_regs.specs.declared.registers.Thread.{Thread}
use Rattle.thread_regs.specs.Registers.{gpr}
use Rattle.interrupts.specs.PendingCauses.{pending_cause}
use Rattle.ppc_bus.specs.Windows.{Window}
use Rattle.storage_ops.specs.declared.forms.AccessForm.{AccessForm}
use Rattle.storage_ops.specs.declared.deeds.Deed.{Deed}
use Rattle.storage_ops.specs.declared.deeds.Deed.TheVariants.{Moves, Clears, Touches, Nothing}
use Rattle.storage_ops.specs.declared.parts.Part.{Part}
use Rattle.storage_ops.specs.AccessTable.{access_form}
use Rattle.storage_ops.specs.Forms.{sent}
use Rattle.storage_ops.specs.Parts.{part, left_in_page, is_whole}
use Rattle.storage_ops.specs.Deeds.{deed_of, reserves_by, is_misaligned, parts_in}
use Rattle.storage_ops.specs.Reaching.{and_then, laid}
use Rattle.storage_ops.specs.Checks.{first_refusal, unless_refused, device_of}
use Rattle.storage_ops.specs.Effects.{Stored, DeviceAsk, After, Around, around, split, load_after, store_after, move_after, clear_after, placed_outcome, deed_outcome, storage_outcome, behind, writes_of, AreAskedBy, AreAsked}
use Rattle.ppc_step.specs.Effects.{thread_outcome}
use Rattle.ppc_step.specs.States.{word_at}
use Rattle.ppc_step.specs.Steps.{is_guest_zero, fetched_outcome, found_outcome, outcome_unless, step_outcome}
use Rattle.ppc_step.specs.Words.{alone, onward, access_outcome, refusal_of, form_outcome, decoded_outcome, word_outcome}

-- where it goes on, at most sixteen pieces are stored
abbrev pub StoresFew : Outcome After → Type 0
StoresFew (Goes after) = length after.stored ≤ 16
StoresFew (Takes cause) = Unit {0}
StoresFew (Stops name value) = Unit {0}

few_alone : (outcome : Outcome Thread) → StoresFew (alone outcome)
few_alone (Goes t) = omega arith
few_alone (Takes cause) = tt
few_alone (Stops name value) = tt

few_onward : (outcome : Outcome After) → StoresFew outcome → StoresFew (and_then outcome onward)
few_onward (Goes after) few = few
few_onward (Takes cause) few = tt
few_onward (Stops name value) few = tt

few_unless : (refusal : Option Cause) (outcome : Outcome After) → StoresFew outcome → StoresFew (unless refusal outcome)
few_unless (Some cause) outcome few = tt
few_unless None outcome few = few

few_unless_refused : (refusal : Option (StopName × ℕ)) (outcome : Outcome After) → StoresFew outcome → StoresFew (unless_refused refusal outcome)
few_unless_refused (Some stop) outcome few = tt
few_unless_refused None outcome few = few

-- ---- parts

-- so many parts at most
abbrev pub AreFewParts : Outcome (List Part) → ℕ → Type 0
AreFewParts (Goes parts) n = length parts ≤ n
AreFewParts (Takes cause) n = Unit {0}
AreFewParts (Stops name value) n = Unit {0}

few_within : (outcome : Outcome (List Part)) (n m : ℕ) → n ≤ m → AreFewParts outcome n → AreFewParts outcome m
few_within (Goes parts) n m more few = omega (arith, more, few)
few_within (Takes cause) n m more few = tt
few_within (Stops name value) n m more few = tt

few_more : (at size n : ℕ) (outcome : Outcome (List Part)) → AreFewParts outcome n → AreFewParts (and_then outcome (λ more. Goes (part at size ∷ more))) (n + 1)
few_more at size n (Goes parts) few = omega (arith, few)
few_more at size n (Takes cause) few = tt
few_more at size n (Stops name value) few = tt

few_laid : (parts : List Part) (founds : List Found) → AreFewParts (laid parts founds) (length parts)
few_laid [] founds = omega arith
few_laid (p ∷ ps) [] = omega arith
few_laid (p ∷ ps) (founds_of.Real at used ∷ founds) =
    few_within (and_then (laid ps founds) (λ more. Goes (part at p.size ∷ more))) (length ps + 1) (length (p ∷ ps)) (omega arith) (few_more at p.size (length ps) (laid ps founds) (few_laid ps founds))
few_laid (p ∷ ps) (founds_of.Fault cause used ∷ founds) = tt
few_laid (p ∷ ps) (founds_of.Stop name value ∷ founds) = tt

few_cut : (b : Bool) (p q r : Part) → length (if b then p ∷ [] else q ∷ r ∷ []) ≤ 2
few_cut true p q r = omega arith
few_cut false p q r = omega arith

few_parts : (deed : Deed) → length (parts_in deed) ≤ 2
few_parts (Moves form register base at) = few_cut (nat_le form.size (left_in_page at)) _ _ _
few_parts (Clears at) = omega arith
few_parts (Touches at) = omega arith
few_parts Nothing = omega arith

split_long : (value : ℕ) (parts : List Part) → length (split value parts) ≡ length parts
split_long value [] = refl
split_long value (p ∷ ps) = (let more = split_long (value / 256 ^ p.size) ps in omega (arith, more))

-- ---- deeds

few_load : (form : AccessForm) (register base at : ℕ) (t : Thread) (ram : List ℕ) (answer : ℕ) (parts : List Part) (place : Option (ℕ × ℕ)) → length (load_after form register base at t ram answer parts place).stored ≤ 16
few_load form register base at t ram answer parts None = omega arith
few_load form register base at t ram answer parts (Some place) = omega arith

few_store : (form : AccessForm) (register base at : ℕ) (t : Thread) (parts : List Part) (place : Option (ℕ × ℕ)) → length parts ≤ 2 → length (store_after form register base at t parts place).stored ≤ 16
few_store form register base at t parts None few = (let long = split_long (sent form (gpr t register)) parts in omega (arith, long, few))
few_store form register base at t parts (Some place) few = omega arith

few_by : (b : Bool) (x y : After) → length x.stored ≤ 16 → length y.stored ≤ 16 → length (if b then x else y).stored ≤ 16
few_by true x y first second = first
few_by false x y first second = second

few_clear : (t : Thread) (parts : List Part) → length (clear_after t parts).stored ≤ 16
few_clear t [] = omega arith
few_clear t (p ∷ ps) = omega arith

few_placed : (deed : Deed) (t : Thread) (x : Around) (parts : List Part) → length parts ≤ 2 → StoresFew (placed_outcome deed t x parts)
few_placed (Moves form register base at) t x parts few =
    few_unless_refused (first_refusal x.windows (is_whole parts) (length x.ram) parts) (Goes (move_after form register base at t x.windows x.ram x.answer parts))
    (few_by form.store (store_after form register base at t parts (device_of x.windows parts)) (load_after form register base at t x.ram x.answer parts (device_of x.windows parts))
    (few_store form register base at t parts (device_of x.windows parts) few) (few_load form register base at t x.ram x.answer parts (device_of x.windows parts)))
few_placed (Clears at) t x parts few = few_unless_refused (first_refusal x.windows false (length x.ram) parts) (Goes (clear_after t parts)) (few_clear t parts)
few_placed (Touches at) t x parts few = omega arith
few_placed Nothing t x parts few = omega arith

few_then : (deed : Deed) (t : Thread) (x : Around) (outcome : Outcome (List Part)) → AreFewParts outcome 2 → StoresFew (and_then outcome (placed_outcome deed t x))
few_then deed t x (Goes parts) few = few_placed deed t x parts few
few_then deed t x (Takes cause) few = tt
few_then deed t x (Stops name value) few = tt

few_unless_wrong : (b : Bool) (cause : Cause) (outcome : Outcome After) → StoresFew outcome → StoresFew (if b then Takes cause else outcome)
few_unless_wrong true cause outcome few = tt
few_unless_wrong false cause outcome few = few

few_deed : (deed : Deed) (t : Thread) (x : Around) → StoresFew (deed_outcome deed t x)
few_deed deed t x =
    few_unless_wrong (is_misaligned deed) _ (and_then (laid (parts_in deed) x.founds) (placed_outcome deed t x))
    (few_then deed t x (laid (parts_in deed) x.founds) (few_within (laid (parts_in deed) x.founds) (length (parts_in deed)) 2 (few_parts deed) (few_laid (parts_in deed) x.founds)))

-- ---- forms and words

few_access : (i : Insn) (t : Thread) (x : Around) → StoresFew (access_outcome i t x)
unfolding storage_outcome
few_access i t x = few_onward (deed_outcome (deed_of i t) t x) (few_deed (deed_of i t) t x)

few_indexed : (b : Bool) (i : Insn) (op : Op) (word : ℕ) (t : Thread) (x : Around) → StoresFew (if b then unsupported word else unless (refusal_of op word t) (access_outcome i t x))
few_indexed true i op word t x = tt
few_indexed false i op word t x = few_unless (refusal_of op word t) (access_outcome i t x) (few_access i t x)

few_form : (i : Insn) (word : ℕ) (t : Thread) (x : Around) → StoresFew (form_outcome i word t x)
unfolding form_outcome
few_form (Access op rt ra disp) word t x = few_access (Access op rt ra disp) t x
few_form (AccessX op rt ra rb) word t x = few_indexed (reserves_by (access_form op)) (AccessX op rt ra rb) op word t x
few_form (Block op ra rb) word t x = few_access (Block op ra rb) t x
few_form (AddImm op rt ra si) word t x = few_alone (thread_outcome (AddImm op rt ra si) word t)
few_form (AddPc rt d) word t x = few_alone (thread_outcome (AddPc rt d) word t)
few_form (Arith op rt ra rb oe rc) word t x = few_alone (thread_outcome (Arith op rt ra rb oe rc) word t)
few_form (MulHigh op rt ra rb rc) word t x = few_alone (thread_outcome (MulHigh op rt ra rb rc) word t)
few_form (Modulo op rt ra rb) word t x = few_alone (thread_outcome (Modulo op rt ra rb) word t)
few_form (MulAdd op rt ra rb third) word t x = few_alone (thread_outcome (MulAdd op rt ra rb third) word t)
few_form (LogicImm op ra rs ui) word t x = few_alone (thread_outcome (LogicImm op ra rs ui) word t)
few_form (Logic op ra rs rb rc) word t x = few_alone (thread_outcome (Logic op ra rs rb rc) word t)
few_form (Unary op ra rs rc) word t x = few_alone (thread_outcome (Unary op ra rs rc) word t)
few_form (Count op ra rs) word t x = few_alone (thread_outcome (Count op ra rs) word t)
few_form (Bytes op ra rs rb) word t x = few_alone (thread_outcome (Bytes op ra rs rb) word t)
few_form (ShiftImm op ra rs sh rc) word t x = few_alone (thread_outcome (ShiftImm op ra rs sh rc) word t)
few_form (RotWord op ra rs by' mb me rc) word t x = few_alone (thread_outcome (RotWord op ra rs by' mb me rc) word t)
few_form (RotDouble op ra rs by' edge rc) word t x = few_alone (thread_outcome (RotDouble op ra rs by' edge rc) word t)
few_form (Select rt ra rb bit) word t x = few_alone (thread_outcome (Select rt ra rb bit) word t)
few_form (SetB rt bfa) word t x = few_alone (thread_outcome (SetB rt bfa) word t)
few_form (MfCr rt) word t x = few_alone (thread_outcome (MfCr rt) word t)
few_form (MfOneCr rt fxm) word t x = few_alone (thread_outcome (MfOneCr rt fxm) word t)
few_form (CmpImm op bf wide ra value) word t x = few_alone (thread_outcome (CmpImm op bf wide ra value) word t)
few_form (Cmp op bf wide ra rb) word t x = few_alone (thread_outcome (Cmp op bf wide ra rb) word t)
few_form (CmpByte op bf two ra rb) word t x = few_alone (thread_outcome (CmpByte op bf two ra rb) word t)
few_form (CrBit op bt ba bb) word t x = few_alone (thread_outcome (CrBit op bt ba bb) word t)
few_form (CrMove bf bfa) word t x = few_alone (thread_outcome (CrMove bf bfa) word t)
few_form (MoveXer bf) word t x = few_alone (thread_outcome (MoveXer bf) word t)
few_form (MtCr rs fxm) word t x = few_alone (thread_outcome (MtCr rs fxm) word t)
few_form (MtOneCr rs fxm) word t x = few_alone (thread_outcome (MtOneCr rs fxm) word t)
few_form (Jump li aa lk) word t x = few_alone (thread_outcome (Jump li aa lk) word t)
few_form (Branch bo bi bd aa lk) word t x = few_alone (thread_outcome (Branch bo bi bd aa lk) word t)
few_form (BranchReg op bo bi lk) word t x = few_alone (thread_outcome (BranchReg op bo bi lk) word t)
few_form (TrapImm op to' ra si) word t x = few_alone (thread_outcome (TrapImm op to' ra si) word t)
few_form (Trap op to' ra rb) word t x = few_alone (thread_outcome (Trap op to' ra rb) word t)
few_form (MfSpr rt spr) word t x = few_alone (thread_outcome (MfSpr rt spr) word t)
few_form (MtSpr rs spr) word t x = few_alone (thread_outcome (MtSpr rs spr) word t)
few_form (MfTb rt spr) word t x = few_alone (thread_outcome (MfTb rt spr) word t)
few_form (MfMsr rt) word t x = few_alone (thread_outcome (MfMsr rt) word t)
few_form (MtMsr op rs l) word t x = few_alone (thread_outcome (MtMsr op rs l) word t)
few_form (Sync l) word t x = few_alone (thread_outcome (Sync l) word t)
few_form Eieio word t x = few_alone (thread_outcome Eieio word t)
few_form TlbSync word t x = few_alone (thread_outcome TlbSync word t)
few_form (Inval op rb rs ric prs r) word t x = few_alone (thread_outcome (Inval op rb rs ric prs r) word t)
few_form (Message op rb) word t x = few_alone (thread_outcome (Message op rb) word t)
few_form Isync word t x = few_alone (thread_outcome Isync word t)
few_form Rfid word t x = few_alone (thread_outcome Rfid word t)
few_form Hrfid word t x = few_alone (thread_outcome Hrfid word t)
few_form (Sc lev) word t x = few_alone (thread_outcome (Sc lev) word t)

few_decoded : (d : Decoded) (word : ℕ) (t : Thread) (x : Around) → StoresFew (decoded_outcome d word t x)
unfolding decoded_outcome
few_decoded (Form insn) word t x = few_form insn word t x
few_decoded Zero word t x = tt
few_decoded (InvalidForm op) word t x = tt
few_decoded Unsupported word t x = tt

few_word : (word : ℕ) (t : Thread) (x : Around) → StoresFew (word_outcome word t x)
unfolding word_outcome
few_word word t x = few_decoded (decoded_of word) word t x

few_fetched : (t : Thread) (at : ℕ) (word : Option ℕ) (x : Around) → StoresFew (fetched_outcome t at word x)
few_fetched t at (Some word) x = few_word word t x
few_fetched t at None x = tt

few_found : (t : Thread) (windows : List (Option Window)) (ram : List ℕ) (founds : List Found) (answer : ℕ) → StoresFew (found_outcome t windows ram founds answer)
few_found t windows ram [] answer = omega arith
few_found t windows ram (founds_of.Real at used ∷ founds) answer = few_fetched t at (word_at ram at) (around windows ram founds answer)
few_found t windows ram (founds_of.Fault cause used ∷ founds) answer = tt
few_found t windows ram (founds_of.Stop name value ∷ founds) answer = tt

few_unless_ended : (pending : Option Cause) (zero : Bool) (outcome : Outcome After) → StoresFew outcome → StoresFew (outcome_unless pending zero outcome)
few_unless_ended (Some cause) zero outcome few = tt
few_unless_ended None true outcome few = tt
few_unless_ended None false outcome few = few

few_step : (t : Thread) (windows : List (Option Window)) (ram : List ℕ) (founds : List Found) (answer : ℕ) → StoresFew (step_outcome t windows ram founds answer)
few_step t windows ram founds answer = few_unless_ended (pending_cause t) (is_guest_zero t) (found_outcome t windows ram founds answer) (few_found t windows ram founds answer)

few_behind : (outcome : Outcome After) (t : Thread) → StoresFew outcome → length (behind outcome t).stored ≤ 16
few_behind (Goes after) t few = few
few_behind (Takes cause) t few = omega arith
few_behind (Stops name value) t few = omega arith

-- a step stores at most sixteen pieces
pub few_stored : (t : Thread) (windows : List (Option Window)) (ram : List ℕ) (founds : List Found) (answer : ℕ) → length (behind (step_outcome t windows ram founds answer) t).stored ≤ 16
few_stored t windows ram founds answer = few_behind (step_outcome t windows ram founds answer) t (few_step t windows ram founds answer)

-- each has one write row
pub writes_long : (step thread : ℕ) (ram : List ℕ) (ss : List Stored) → length (writes_of step thread ram ss) ≡ length ss
writes_long step thread ram [] = refl
writes_long step thread ram (s ∷ ss) = (let more = writes_long step thread (written ram (write_row step thread ram s.at s.size s.value)) ss in omega (arith, more))

one_row : (row : DeviceRow) (rows : List DeviceRow) → rows ≡ row ∷ [] → length rows ≤ 1
one_row row rows is = rw is (omega arith)

-- and at most one device is asked
pub few_asked : (step : ℕ) (asked : Option DeviceAsk) (rows : List DeviceRow) → AreAsked step asked rows → length rows ≤ 1
few_asked step None rows are = rw are (omega arith)
few_asked step (Some ask) rows are = by ask.store are
  where
    by : (store : Bool) → AreAskedBy store step ask rows → length rows ≤ 1
    by true are = one_row _ rows are.1
    by false are = one_row _ rows are.2
