-- An access from its parts.
use Rattle.std.proofs.Common.{◌≡◌, ℕ, arith, List, [], ◌++◌, length, Option, Bool, true, false, if◌then◌else◌, ap, sym, ◌∙◌, refl, subst, append-nil}
use Rattle.journal_core.specs.declared.causes.Cause.TheVariants.{Alignment}
use Rattle.journal_core.specs.declared.asks.AccessKind.{AccessKind}
use Rattle.journal_core.specs.declared.asks.Ask.{Ask}
use Rattle.journal_core.specs.declared.asks.Found.{Found}
use Rattle.journal_core.specs.declared.rows.DeviceRow.{DeviceRow}
use Rattle.journal_core.specs.declared.rows.StepEnd.{StepEnd}
use Rattle.journal_core.specs.declared.rows.StepEnd.TheVariants.{Ran, Took}
use Rattle.journal_core.specs.declared.rows.Use.TheVariants.{Unused}
use Rattle.journal_core.specs.declared.rows.ReadRow.{ReadRow}
use Rattle.journal_core.specs.declared.rows.FillRow.{FillRow}
use Rattle.journal_core.specs.Rows.{JournalView}
use Rattle.journal_core.specs.Turns.{Mark, Query}
use Rattle.journal_core.specs.Translating.{SameKept}
use Rattle.form_outcomes.specs.Outcomes.{Outcome, Goes, Takes, Stops}
use Rattle.ppc_ops.specs.declared.insn.Insn.{Insn}
use Rattle.ppc_bus.specs.Windows.{Window}
use Rattle.thread_regs.specs.declared.registers.Thread.{Thread}
use Rattle.storage_ops.specs.declared.accesses.StorageOut.{StorageOut}
use Rattle.storage_ops.specs.declared.deeds.Deed.{Deed}
use Rattle.storage_ops.specs.declared.deeds.Deed.TheVariants.{Nothing}
use Rattle.storage_ops.specs.declared.parts.Part.{Part}
use Rattle.storage_ops.specs.Deeds.{deed_of, is_misaligned, address_in, parts_in, kind_in}
use Rattle.storage_ops.specs.Reaching.{asks_for, asks_of, reached, and_then, laid, first_use, second_use, EndsAs}
use Rattle.storage_ops.specs.Answering.{IsAnswered}
use Rattle.storage_ops.specs.Effects.{After, around, registers, storage_outcome, deed_outcome, placed_outcome}
use Rattle.storage_ops.specs.Accesses.{Scene, scene_of, IsCarried, Carries, IsAccess, outcome_in}
use Rattle.storage_ops.proofs.MovesLemmas.{carries_nothing, carries_plain}

-- no ask was made
same_rows : (j : JournalView) → j ≡ record j { rows = record j.rows { reads = j.rows.reads ++ []; fills = j.rows.fills ++ [] } }
same_rows j = ap (λ (xs : List ReadRow). record j { rows = record j.rows { reads = xs; fills = j.rows.fills } }) (sym (append-nil j.rows.reads)) ∙ ap (λ (xs : List FillRow). record j { rows = record j.rows { reads = j.rows.reads ++ []; fills = xs } }) (sym (append-nil j.rows.fills))

pub answered_never : (chooses : Query → Found → Mark → Type 0) (number : ℕ) (ram : List ℕ) (j : JournalView) → IsAnswered chooses 2 number ram [] j j []
answered_never chooses number ram j = record {
  adds = record { reads = []; fills = []; few_reads = omega arith; few_fills = omega arith; read_moments = tt; fill_moments = tt; rows = same_rows j };
  answers = λ past stands stood. refl;
  truth = λ past stands stood. stood;
  chosen = λ word stands. refl;
}

-- the deed is this one, and its address is as it is to be
carries_deed : {P : Type 0} (related : P → DeviceRow → P → Type 0) (windows : P → List (Option Window)) (number : ℕ) (i : Insn) (deed : Deed) (founds : List Found) (old mid new : Scene P) (end : StepEnd) →
    deed ≡ deed_of i old.thread → Carries related windows number (λ answer. deed_outcome deed old.thread (around (windows old.port) old.ram founds answer)) mid new end → Carries related windows number (outcome_in windows i old founds) mid new end
unfolding storage_outcome
carries_deed related windows number i deed founds old mid new end is carries =
    subst (λ d. Carries related windows number (λ answer. deed_outcome d old.thread (around (windows old.port) old.ram founds answer)) mid new end) is carries

carries_aligned : {P : Type 0} (related : P → DeviceRow → P → Type 0) (windows : P → List (Option Window)) (number : ℕ) (b : Bool) (wrong : Outcome After) (right : ℕ → Outcome After) (old new : Scene P) (end : StepEnd) →
    b ≡ false → Carries related windows number right old new end → Carries related windows number (λ answer. if b then wrong else right answer) old new end
carries_aligned related windows number b wrong right old new end is carries = subst (λ x. Carries related windows number (λ answer. if x then wrong else right answer) old new end) (sym is) carries

-- an interrupt for a misaligned address
pub access_misaligned : {P : Type 0} (chooses : Query → Found → Mark → Type 0) (related : P → DeviceRow → P → Type 0) (windows : P → List (Option Window)) (number : ℕ) (i : Insn) (deed : Deed) (t : Thread) (ram : List ℕ) (port : P) (j : JournalView) (out : StorageOut) (dar : ℕ) →
    deed ≡ deed_of i t → is_misaligned deed ≡ true → dar ≡ address_in deed → out ≡ record { end = Took (Alignment dar); first = Unused; second = Unused } →
    IsAccess chooses related windows number i (scene_of t ram port j) (scene_of t ram port j) out
access_misaligned chooses related windows number i deed t ram port j out dar deed_is wrong dar_is out_is =
    let none : asks_of (deed_of i t) t ≡ [] = subst (λ d. asks_of d t ≡ []) deed_is (ap (λ b. if b then [] else asks_for t (kind_in deed) (parts_in deed)) wrong) in
    record {
      founds = [];
      between = j;
      answered = subst (λ (xs : List Ask). IsAnswered chooses 2 number ram (reached xs []) j j []) (sym none) (answered_never chooses number ram j);
      carries = carries_deed related windows number i deed [] (scene_of t ram port j) (scene_of t ram port j) (scene_of t ram port j) out.end deed_is
          (subst (λ b. Carries related windows number (λ answer. if b then Takes (Alignment (address_in deed)) else and_then (laid (parts_in deed) []) (placed_outcome deed t (around (windows port) ram [] answer))) (scene_of t ram port j) (scene_of t ram port j) out.end) (sym wrong)
          (carries_nothing related windows number (λ answer. Takes (Alignment (address_in deed))) t ram port j out.end (ap (λ (o : StorageOut). o.end) out_is ∙ ap (λ a. Took (Alignment a)) dar_is) refl));
      first = ap (λ (o : StorageOut). o.first) out_is;
      second = ap (λ (o : StorageOut). o.second) out_is;
    }

-- a form that asks for nothing
pub access_idle : {P : Type 0} (chooses : Query → Found → Mark → Type 0) (related : P → DeviceRow → P → Type 0) (windows : P → List (Option Window)) (number : ℕ) (i : Insn) (deed : Deed) (t : Thread) (ram : List ℕ) (port : P) (j : JournalView) (out : StorageOut) →
    deed ≡ deed_of i t → deed ≡ Nothing → out ≡ record { end = Ran; first = Unused; second = Unused } →
    IsAccess chooses related windows number i (scene_of t ram port j) (scene_of t ram port j) out
access_idle chooses related windows number i deed t ram port j out deed_is idle out_is =
    let none : asks_of (deed_of i t) t ≡ [] = ap (λ d. asks_of d t) (sym deed_is ∙ idle) in
    record {
      founds = [];
      between = j;
      answered = subst (λ (xs : List Ask). IsAnswered chooses 2 number ram (reached xs []) j j []) (sym none) (answered_never chooses number ram j);
      carries = carries_deed related windows number i Nothing [] (scene_of t ram port j) (scene_of t ram port j) (scene_of t ram port j) out.end (sym idle ∙ deed_is)
          (subst (λ e. Carries related windows number (λ answer. Goes (registers t)) (scene_of t ram port j) (scene_of t ram port j) e) (sym (ap (λ (o : StorageOut). o.end) out_is))
          (carries_plain related windows number (λ answer. registers t) t t ram port j refl refl refl));
      first = ap (λ (o : StorageOut). o.first) out_is;
      second = ap (λ (o : StorageOut). o.second) out_is;
    }

-- an answer that is no real address ends the access
carries_ended : {P : Type 0} (related : P → DeviceRow → P → Type 0) (windows : P → List (Option Window)) (number : ℕ) (o : Outcome (List Part)) (next : ℕ → List Part → Outcome After) (t : Thread) (ram : List ℕ) (port : P) (j : JournalView) (end : StepEnd) →
    EndsAs o end → Carries related windows number (λ answer. and_then o (next answer)) (scene_of t ram port j) (scene_of t ram port j) end
carries_ended related windows number (Goes parts) next t ram port j end ends = absurd ends
carries_ended related windows number (Takes cause) next t ram port j end ends = carries_nothing related windows number (λ answer. Takes cause) t ram port j end ends refl
carries_ended related windows number (Stops name value) next t ram port j end ends = carries_nothing related windows number (λ answer. Stops name value) t ram port j end ends refl

-- an access whose asks were answered
access_answered : {P : Type 0} (chooses : Query → Found → Mark → Type 0) (related : P → DeviceRow → P → Type 0) (windows : P → List (Option Window)) (number : ℕ) (i : Insn) (deed : Deed) (kind : AccessKind) (parts : List Part) (founds : List Found) (old : Scene P) (between : JournalView) (new : Scene P) (out : StorageOut) →
    deed ≡ deed_of i old.thread → is_misaligned deed ≡ false → parts ≡ parts_in deed → kind ≡ kind_in deed →
    IsAnswered chooses 2 number old.ram (reached (asks_for old.thread kind parts) founds) old.journal between founds →
    Carries related windows number (λ answer. and_then (laid parts founds) (placed_outcome deed old.thread (around (windows old.port) old.ram founds answer))) (record old { journal = between }) new out.end →
    out.first ≡ first_use founds → out.second ≡ second_use founds → IsAccess chooses related windows number i old new out
access_answered chooses related windows number i deed kind parts founds old between new out deed_is right parts_are kind_is answered carries first second =
    let asks : asks_of (deed_of i old.thread) old.thread ≡ asks_for old.thread kind parts =
    ap (λ d. asks_of d old.thread) (sym deed_is) ∙ (ap (λ b. if b then [] else asks_for old.thread (kind_in deed) (parts_in deed)) right ∙ (ap (λ k. asks_for old.thread k (parts_in deed)) (sym kind_is) ∙ ap (λ ps. asks_for old.thread kind ps) (sym parts_are))) in
    record {
      founds = founds;
      between = between;
      answered = subst (λ (xs : List Ask). IsAnswered chooses 2 number old.ram (reached xs founds) old.journal between founds) (sym asks) answered;
      carries = carries_deed related windows number i deed founds old (record old { journal = between }) new out.end deed_is
          (carries_aligned related windows number (is_misaligned deed) (Takes (Alignment (address_in deed))) (λ answer. and_then (laid (parts_in deed) founds) (placed_outcome deed old.thread (around (windows old.port) old.ram founds answer))) (record old { journal = between }) new out.end right
          (subst (λ ps. Carries related windows number (λ answer. and_then (laid ps founds) (placed_outcome deed old.thread (around (windows old.port) old.ram founds answer))) (record old { journal = between }) new out.end) parts_are carries));
      first = first;
      second = second;
    }

pub access_ended : {P : Type 0} (chooses : Query → Found → Mark → Type 0) (related : P → DeviceRow → P → Type 0) (windows : P → List (Option Window)) (number : ℕ) (i : Insn) (deed : Deed) (kind : AccessKind) (parts : List Part) (founds : List Found) (t : Thread) (ram : List ℕ) (port : P) (j between : JournalView) (out : StorageOut) →
    deed ≡ deed_of i t → is_misaligned deed ≡ false → parts ≡ parts_in deed → kind ≡ kind_in deed →
    IsAnswered chooses 2 number ram (reached (asks_for t kind parts) founds) j between founds → EndsAs (laid parts founds) out.end →
    out.first ≡ first_use founds → out.second ≡ second_use founds → IsAccess chooses related windows number i (scene_of t ram port j) (scene_of t ram port between) out
access_ended chooses related windows number i deed kind parts founds t ram port j between out deed_is right parts_are kind_is answered ends first second =
    access_answered chooses related windows number i deed kind parts founds (scene_of t ram port j) between (scene_of t ram port between) out deed_is right parts_are kind_is answered
    (carries_ended related windows number (laid parts founds) (λ answer. placed_outcome deed t (around (windows port) ram founds answer)) t ram port between out.end ends) first second

pub access_carried : {P : Type 0} (chooses : Query → Found → Mark → Type 0) (related : P → DeviceRow → P → Type 0) (windows : P → List (Option Window)) (number : ℕ) (i : Insn) (deed : Deed) (kind : AccessKind) (parts real : List Part) (founds : List Found) (t : Thread) (ram : List ℕ) (port : P) (j between : JournalView) (new : Scene P) (out : StorageOut) →
    deed ≡ deed_of i t → is_misaligned deed ≡ false → parts ≡ parts_in deed → kind ≡ kind_in deed →
    IsAnswered chooses 2 number ram (reached (asks_for t kind parts) founds) j between founds → laid parts founds ≡ Goes real →
    Carries related windows number (λ answer. placed_outcome deed t (around (windows port) ram founds answer) real) (scene_of t ram port between) new out.end →
    out.first ≡ first_use founds → out.second ≡ second_use founds → IsAccess chooses related windows number i (scene_of t ram port j) new out
access_carried chooses related windows number i deed kind parts real founds t ram port j between new out deed_is right parts_are kind_is answered laid_are carries first second =
    access_answered chooses related windows number i deed kind parts founds (scene_of t ram port j) between new out deed_is right parts_are kind_is answered
    (subst (λ o. Carries related windows number (λ answer. and_then o (placed_outcome deed t (around (windows port) ram founds answer))) (scene_of t ram port between) new out.end) (sym laid_are) carries) first second

-- what is carried out leaves what translators keep
pub same_kept : {P : Type 0} (related : P → DeviceRow → P → Type 0) (windows : P → List (Option Window)) (number : ℕ) (after : ℕ → After) (old new : Scene P) → IsCarried related windows number after old new → SameKept old.journal new.journal
same_kept related windows number after old new carried = record {
  reads = ap (λ (j : JournalView). j.rows.reads) carried.journal;
  fills = ap (λ (j : JournalView). j.rows.fills) carried.journal;
  dones = ap (λ (j : JournalView). j.rows.dones) carried.journal;
  floor = ap (λ (j : JournalView). j.floor) carried.journal;
  steps = (let e : length new.journal.rows.steps ≡ length old.journal.rows.steps = ap (λ (j : JournalView). length j.rows.steps) carried.journal in omega (arith, e));
}
