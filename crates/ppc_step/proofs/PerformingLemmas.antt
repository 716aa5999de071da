-- A step from its fetch and what comes behind it.
use Rattle.std.proofs.Common.{◌≡◌, ℕ, ◌+◌, ◌≤◌, true, false, List, [], ◌∷◌, ◌++◌, length, Option, Some, None, arith, ap, sym, ◌∙◌, refl, subst, length-append, append_assoc, append-nil}
use Rattle.std.specs.List.{AllByRecursion}
use Rattle.journal_core.specs.declared.asks.Ask.{Ask}
use Rattle.journal_core.specs.declared.asks.Found.{Found}
use Rattle.journal_core.specs.declared.asks.Found.TheVariants.{Real}
use Rattle.journal_core.specs.declared.rows.DeviceRow.{DeviceRow}
use Rattle.journal_core.specs.declared.rows.ReadRow.{ReadRow}
use Rattle.journal_core.specs.declared.rows.FillRow.{FillRow}
use Rattle.journal_core.specs.declared.rows.Use.{Use}
use Rattle.journal_core.specs.declared.rows.Use.TheVariants.{Unused}
use Rattle.journal_core.specs.declared.rows.StopName.TheVariants.{GuestZero}
use Rattle.journal_core.specs.declared.rows.StepEnd.{StepEnd}
use Rattle.journal_core.specs.declared.rows.StepEnd.TheVariants.{Stopped}
use Rattle.journal_core.specs.Past.{word_in}
use Rattle.journal_core.specs.Rows.{JournalView}
use Rattle.journal_core.specs.Standing.{AreNamed}
use Rattle.journal_core.specs.Turns.{Mark, NoFewer, Query, query_of, turn_in, mark_of}
use Rattle.journal_core.specs.Answers.{IsAnswer, AreAnswered, use_of, uses_of}
use Rattle.journal_core.specs.Translating.{AreTrue, OnlyAdds, GoesOn, IsWithin, Stays}
use Rattle.walk_laws.proofs.AnswersStay.{answer_goes_on}
use Rattle.walk_laws.proofs.TrueAgain.{true_again}
use Rattle.form_outcomes.specs.Outcomes.{Outcome, Stops, end_of}
use Rattle.interrupts.specs.PendingCauses.{pending_cause}
use Rattle.ppc_bus.specs.Windows.{Window}
use Rattle.thread_regs.specs.declared.registers.Thread.{Thread}
use Rattle.storage_ops.specs.declared.accesses.StorageOut.{StorageOut}
use Rattle.storage_ops.specs.Reaching.{reached, first_use, second_use}
use Rattle.storage_ops.specs.Answering.{AddsWalks, IsAnswered}
use Rattle.storage_ops.specs.Effects.{After, around, registers, behind}
use Rattle.storage_ops.specs.Accesses.{Scene, scene_of, Performs}
use Rattle.storage_ops.proofs.AnsweringLemmas.{IsOneAnswer, IsOneChoice, answered_once}
use Rattle.storage_ops.proofs.MovesLemmas.{carries_nothing}
use Rattle.ppc_step.specs.declared.stepping.Ending.{Ending}
use Rattle.ppc_step.specs.States.{fetch_ask, word_at}
use Rattle.ppc_step.specs.Words.{word_outcome, word_asks}
use Rattle.ppc_step.specs.Steps.{is_guest_zero, word_by, word_unless, data_asks, asks_unless_ended, step_asks, found_outcome, outcome_unless, step_outcome, fetched_outcome}
use Rattle.ppc_step.specs.Performing.{PerformsStep}
use Rattle.ppc_step.proofs.ExecutedLemmas.{carries_same}

-- ---- answers

pub one_of_three : (chooses : Query → Found → Mark → Type 0) (number : ℕ) (ram : List ℕ) (asks : List Ask) (old new : JournalView) (founds : List Found) → IsAnswered chooses 2 number ram asks old new founds → IsAnswered chooses 3 number ram asks old new founds
one_of_three chooses number ram asks old new founds h = record {
  adds = record {
    reads = h.adds.reads;
    fills = h.adds.fills;
    few_reads = omega (arith, h.adds.few_reads);
    few_fills = omega (arith, h.adds.few_fills);
    read_moments = h.adds.read_moments;
    fill_moments = h.adds.fill_moments;
    rows = h.adds.rows;
  };
  answers = h.answers;
  truth = h.truth;
  chosen = h.chosen;
}

all_joined : {X : Type 0} (P : X → Type 0) (xs ys : List X) → AllByRecursion P xs → AllByRecursion P ys → AllByRecursion P (xs ++ ys)
all_joined P [] ys a b = b
all_joined P (x ∷ xs) ys a b = (a.0, all_joined P xs ys a.1 b)

longer : {X : Type 0} (xs ys zs : List X) → zs ≡ xs ++ ys → length xs ≤ length zs
longer xs ys zs is = (let l : length (xs ++ ys) ≡ length xs + length ys = length-append xs ys in rw is (omega (arith, l)))

no_fewer : (old new : JournalView) → OnlyAdds old new → NoFewer (mark_of old.rows) (mark_of new.rows)
no_fewer old new adds = record {
  fills = longer old.rows.fills adds.fills new.rows.fills (ap (λ (j : JournalView). j.rows.fills) adds.rows);
  reads = longer old.rows.reads adds.reads new.rows.reads (ap (λ (j : JournalView). j.rows.reads) adds.rows);
}

whole : (new : JournalView) → IsWithin (mark_of new.rows) new.rows
whole new = record { fills = omega arith; reads = omega arith }

goes_on : (old new : JournalView) (n walks : ℕ) → AddsWalks walks old new → GoesOn n old.rows new.rows
goes_on old new n walks h = record {
  more_reads = h.reads;
  more_fills = h.fills;
  more_dones = [];
  reads = ap (λ (j : JournalView). j.rows.reads) h.rows;
  fills = ap (λ (j : JournalView). j.rows.fills) h.rows;
  dones = ap (λ (j : JournalView). j.rows.dones) h.rows ∙ sym (append-nil old.rows.dones);
  later = tt;
}

pub adds_then : (old mid new : JournalView) → OnlyAdds old mid → AddsWalks 2 mid new → AddsWalks 3 old new
adds_then old mid new one two =
    let steps : length mid.rows.steps ≡ length old.rows.steps = ap (λ (j : JournalView). length j.rows.steps) one.rows in
    let reads_count : length (one.reads ++ two.reads) ≡ length one.reads + length two.reads = length-append one.reads two.reads in
    let fills_count : length (one.fills ++ two.fills) ≡ length one.fills + length two.fills = length-append one.fills two.fills in
    let from_mid : (j : JournalView) → j ≡ record old { rows = record old.rows { reads = old.rows.reads ++ one.reads; fills = old.rows.fills ++ one.fills } } → record j { rows = record j.rows { reads = j.rows.reads ++ two.reads; fills = j.rows.fills ++ two.fills } } ≡ record old { rows = record old.rows { reads = (old.rows.reads ++ one.reads) ++ two.reads; fills = (old.rows.fills ++ one.fills) ++ two.fills } } =
    λ j e. ap (λ (j : JournalView). record j { rows = record j.rows { reads = j.rows.reads ++ two.reads; fills = j.rows.fills ++ two.fills } }) e in
    let joined : record old { rows = record old.rows { reads = (old.rows.reads ++ one.reads) ++ two.reads; fills = (old.rows.fills ++ one.fills) ++ two.fills } } ≡ record old { rows = record old.rows { reads = old.rows.reads ++ (one.reads ++ two.reads); fills = old.rows.fills ++ (one.fills ++ two.fills) } } =
    rw (append_assoc old.rows.reads one.reads two.reads, append_assoc old.rows.fills one.fills two.fills) refl in
    record {
      reads = one.reads ++ two.reads;
      fills = one.fills ++ two.fills;
      few_reads = omega (arith, one.few_reads, two.few_reads, reads_count);
      few_fills = omega (arith, one.few_fills, two.few_fills, fills_count);
      read_moments = all_joined (λ (r : ReadRow). r.moment ≡ length old.rows.steps) one.reads two.reads one.read_moments (subst (λ n. AllByRecursion (λ (r : ReadRow). r.moment ≡ n) two.reads) steps two.read_moments);
      fill_moments = all_joined (λ (f : FillRow). f.moment ≡ length old.rows.steps) one.fills two.fills one.fill_moments (subst (λ n. AllByRecursion (λ (f : FillRow). f.moment ≡ n) two.fills) steps two.fill_moments);
      rows = two.rows ∙ (from_mid mid one.rows ∙ joined);
    }

-- one answer, and then those of some more asks
pub answered_then : (chooses : Query → Found → Mark → Type 0) (number moment : ℕ) (ram : List ℕ) (ask : Ask) (asks : List Ask) (old mid new : JournalView) (found : Found) (founds : List Found) → moment ≡ length old.rows.steps → Stays chooses → AreNamed mid.rows.reads mid.rows.fills →
    OnlyAdds old mid → IsOneAnswer number moment ram old mid ask found → IsOneChoice chooses number moment ram old mid ask found →
    IsAnswered chooses 2 number ram asks mid new founds → IsAnswered chooses 3 number ram (ask ∷ asks) old new (found ∷ founds)
answered_then chooses number moment ram ask asks old mid new found founds is stays named one answer choice rest =
    let n : ℕ = length old.rows.steps in
    let a1 : IsOneAnswer number n ram old mid ask found = subst (λ m. IsOneAnswer number m ram old mid ask found) is answer in
    let c1 : IsOneChoice chooses number n ram old mid ask found = subst (λ m. IsOneChoice chooses number m ram old mid ask found) is choice in
    let steps : length mid.rows.steps ≡ n = ap (λ (j : JournalView). length j.rows.steps) one.rows in
    let floor : new.floor ≡ mid.floor = ap (λ (j : JournalView). j.floor) rest.adds.rows in
    let on : GoesOn n mid.rows new.rows = goes_on mid new n 2 rest.adds in
    let mid_true : (past : ℕ → ℕ → Option ℕ) → ((at : ℕ) → past n at ≡ word_in ram at) → AreTrue past old.rows → AreTrue past mid.rows =
    λ past stands stood. true_again past (past n) old mid number ask found (λ at. refl) one stood (a1 past stands stood) in
    let later : (past : ℕ → ℕ → Option ℕ) → ((at : ℕ) → past n at ≡ word_in ram at) → (at : ℕ) → past (length mid.rows.steps) at ≡ word_in ram at =
    λ past stands at. ap (λ m. past m at) steps ∙ stands at in
    record {
      adds = adds_then old mid new one rest.adds;
      answers = λ past stands stood. (
        mark_of mid.rows,
        no_fewer old mid one,
        subst (λ f. IsAnswer past (query_of (record { rows = new.rows; floor = f; thread = number; step = n }) (past n) (mark_of old.rows) ask) found (mark_of mid.rows)) (sym floor)
            (answer_goes_on past (query_of (turn_in mid number n) (past n) (mark_of old.rows) ask) new.rows found (mark_of mid.rows) on (whole mid) (a1 past stands stood)),
        subst (λ m. AreAnswered (λ before ask found after. IsAnswer past (query_of (turn_in new number m) (past m) before ask) found after) (mark_of mid.rows) asks founds (mark_of new.rows)) steps
            (rest.answers past (later past stands) (mid_true past stands stood)),
      );
      truth = λ past stands stood. rest.truth past (later past stands) (mid_true past stands stood);
      chosen = λ word stands. (
        mark_of mid.rows,
        no_fewer old mid one,
        subst (λ f. chooses (query_of (record { rows = new.rows; floor = f; thread = number; step = n }) word (mark_of old.rows) ask) found (mark_of mid.rows)) (sym floor)
            (stays (query_of (turn_in mid number n) word (mark_of old.rows) ask) new.rows found (mark_of mid.rows) on (whole mid) named (c1 word stands)),
        subst (λ m. AreAnswered (λ before ask found after. chooses (query_of (turn_in new number m) word before ask) found after) (mark_of mid.rows) asks founds (mark_of new.rows)) steps (rest.chosen word stands),
      );
    }

-- ---- steps

-- a step whose fetch gave no word
pub performs_no_word : {P : Type 0} (chooses : Query → Found → Mark → Type 0) (related : P → DeviceRow → P → Type 0) (windows : P → List (Option Window)) (number moment : ℕ) (t : Thread) (ram : List ℕ) (port : P) (ask : Ask) (old mid : JournalView) (found : Found) (o : Outcome After) (e : Ending) (end : StepEnd) (used : Use) →
    moment ≡ length old.rows.steps → pending_cause t ≡ None → is_guest_zero t ≡ false → ask ≡ fetch_ask t → OnlyAdds old mid → IsOneAnswer number moment ram old mid ask found → IsOneChoice chooses number moment ram old mid ask found →
    word_by ram (found ∷ []) ≡ None → ((answer : ℕ) → o ≡ found_outcome t (windows port) ram (found ∷ []) answer) → end ≡ end_of o → behind o t ≡ registers t → used ≡ use_of found →
    e ≡ record { word = None; end = end; uses = used ∷ Unused ∷ Unused ∷ [] } →
    PerformsStep chooses related windows number (scene_of t ram port old) (scene_of t ram port mid) e
performs_no_word chooses related windows number moment t ram port ask old mid found o e end used is none above ask_is adds answer choice no_word outcome ended nothing used_is e_is =
    let asks : step_asks t ram (found ∷ []) ≡ ask ∷ [] =
    (ap (λ p. asks_unless_ended p (is_guest_zero t) t ram (found ∷ [])) none ∙ ap (λ z. asks_unless_ended None z t ram (found ∷ [])) above) ∙ (ap (λ w. fetch_ask t ∷ data_asks t w []) no_word ∙ ap (λ (a : Ask). a ∷ []) (sym ask_is)) in
    record {
      founds = found ∷ [];
      between = mid;
      answered = subst (λ xs. IsAnswered chooses 3 number ram xs old mid (found ∷ [])) (sym asks) (one_of_three chooses number ram (ask ∷ []) old mid (found ∷ []) (answered_once chooses number moment ram ask old mid found is adds answer choice));
      carries = carries_same related windows number (λ answer. o) (step_outcome t (windows port) ram (found ∷ [])) (scene_of t ram port mid) (scene_of t ram port mid) e.end
          (λ answer. outcome answer ∙ sym (ap (λ p. outcome_unless p (is_guest_zero t) (found_outcome t (windows port) ram (found ∷ []) answer)) none ∙ ap (λ z. outcome_unless None z (found_outcome t (windows port) ram (found ∷ []) answer)) above))
          (carries_nothing related windows number (λ answer. o) t ram port mid e.end (ap (λ (x : Ending). x.end) e_is ∙ ended) nothing);
      word = ap (λ (x : Ending). x.word) e_is ∙ sym ((ap (λ p. word_unless p (is_guest_zero t) ram (found ∷ [])) none ∙ ap (λ z. word_unless None z ram (found ∷ [])) above) ∙ no_word);
      uses = ap (λ (x : Ending). x.uses) e_is ∙ ap (λ (u : Use). u ∷ Unused ∷ Unused ∷ []) used_is;
    }

uses_are : (found : Found) (rest : List Found) → use_of found ∷ first_use rest ∷ second_use rest ∷ [] ≡ uses_of (found ∷ rest)
uses_are found [] = refl
uses_are found (a ∷ []) = refl
uses_are found (a ∷ (b ∷ more)) = refl

-- a step whose word was executed
pub performs_word : {P : Type 0} (chooses : Query → Found → Mark → Type 0) (related : P → DeviceRow → P → Type 0) (windows : P → List (Option Window)) (number moment word at : ℕ) (t : Thread) (ram : List ℕ) (port : P) (ask : Ask) (old mid : JournalView) (new : Scene P) (used : Use) (out : StorageOut) (e : Ending) →
    moment ≡ length old.rows.steps → Stays chooses → AreNamed mid.rows.reads mid.rows.fills → pending_cause t ≡ None → is_guest_zero t ≡ false → ask ≡ fetch_ask t → OnlyAdds old mid → IsOneAnswer number moment ram old mid ask (Real at used) → IsOneChoice chooses number moment ram old mid ask (Real at used) →
    word_at ram at ≡ Some word →
    Performs chooses related windows number (reached (word_asks word t)) (λ founds answer. word_outcome word t (around (windows port) ram founds answer)) (scene_of t ram port mid) new out →
    e ≡ record { word = Some word; end = out.end; uses = used ∷ out.first ∷ out.second ∷ [] } →
    PerformsStep chooses related windows number (scene_of t ram port old) new e
performs_word chooses related windows number moment word at t ram port ask old mid new used out e is stays named none above ask_is adds answer choice word_is h e_is =
    let asks : step_asks t ram (Real at used ∷ h.founds) ≡ ask ∷ reached (word_asks word t) h.founds =
    (ap (λ p. asks_unless_ended p (is_guest_zero t) t ram (Real at used ∷ h.founds)) none ∙ ap (λ z. asks_unless_ended None z t ram (Real at used ∷ h.founds)) above) ∙ (ap (λ w. fetch_ask t ∷ data_asks t w h.founds) word_is ∙ ap (λ (a : Ask). a ∷ reached (word_asks word t) h.founds) (sym ask_is)) in
    record {
      founds = Real at used ∷ h.founds;
      between = h.between;
      answered = subst (λ xs. IsAnswered chooses 3 number ram xs old h.between (Real at used ∷ h.founds)) (sym asks)
          (answered_then chooses number moment ram ask (reached (word_asks word t) h.founds) old mid h.between (Real at used) h.founds is stays named adds answer choice h.answered);
      carries = rw (ap (λ (x : Ending). x.end) e_is)
          (carries_same related windows number (λ answer. word_outcome word t (around (windows port) ram h.founds answer)) (step_outcome t (windows port) ram (Real at used ∷ h.founds)) (scene_of t ram port h.between) new out.end
          (λ answer. sym ((ap (λ p. outcome_unless p (is_guest_zero t) (found_outcome t (windows port) ram (Real at used ∷ h.founds) answer)) none ∙ ap (λ z. outcome_unless None z (found_outcome t (windows port) ram (Real at used ∷ h.founds) answer)) above) ∙ ap (λ w. fetched_outcome t at w (around (windows port) ram h.founds answer)) word_is)) h.carries);
      word = ap (λ (x : Ending). x.word) e_is ∙ sym ((ap (λ p. word_unless p (is_guest_zero t) ram (Real at used ∷ h.founds)) none ∙ ap (λ z. word_unless None z ram (Real at used ∷ h.founds)) above) ∙ word_is);
      uses = ap (λ (x : Ending). x.uses) e_is ∙ (ap (λ (u : Use). used ∷ u ∷ out.second ∷ []) h.first ∙ (ap (λ (u : Use). used ∷ first_use h.founds ∷ u ∷ []) h.second ∙ uses_are (Real at used) h.founds));
    }

-- ---- guests with partition number 0

no_rows_added : (j : JournalView) → j ≡ record j { rows = record j.rows { reads = j.rows.reads ++ []; fills = j.rows.fills ++ [] } }
no_rows_added j =
    ap (λ xs. record j { rows = record j.rows { reads = xs; fills = j.rows.fills } }) (sym (append-nil j.rows.reads)) ∙ ap (λ xs. record j { rows = record j.rows { reads = j.rows.reads ++ []; fills = xs } }) (sym (append-nil j.rows.fills))

-- a step that stops before its fetch, since its guest has partition number 0
pub performs_guest_zero : {P : Type 0} (chooses : Query → Found → Mark → Type 0) (related : P → DeviceRow → P → Type 0) (windows : P → List (Option Window)) (number : ℕ) (t : Thread) (ram : List ℕ) (port : P) (j : JournalView) (e : Ending) →
    pending_cause t ≡ None → is_guest_zero t ≡ true → e ≡ record { word = None; end = Stopped GuestZero 0; uses = Unused ∷ Unused ∷ Unused ∷ [] } → PerformsStep chooses related windows number (scene_of t ram port j) (scene_of t ram port j) e
performs_guest_zero chooses related windows number t ram port j e none zero e_is =
    let asks : step_asks t ram [] ≡ [] = ap (λ p. asks_unless_ended p (is_guest_zero t) t ram []) none ∙ ap (λ z. asks_unless_ended None z t ram []) zero in
    record {
      founds = [];
      between = j;
      answered = subst (λ xs. IsAnswered chooses 3 number ram xs j j []) (sym asks) (record {
        adds = record { reads = []; fills = []; few_reads = omega arith; few_fills = omega arith; read_moments = tt; fill_moments = tt; rows = no_rows_added j };
        answers = λ past stands stood. refl;
        truth = λ past stands stood. stood;
        chosen = λ word stands. refl;
      });
      carries = carries_same related windows number (λ answer. Stops GuestZero 0) (step_outcome t (windows port) ram []) (scene_of t ram port j) (scene_of t ram port j) e.end
          (λ answer. sym (ap (λ p. outcome_unless p (is_guest_zero t) (found_outcome t (windows port) ram [] answer)) none ∙ ap (λ z. outcome_unless None z (found_outcome t (windows port) ram [] answer)) zero))
          (carries_nothing related windows number (λ answer. Stops GuestZero 0) t ram port j e.end (ap (λ (x : Ending). x.end) e_is) refl);
      word = ap (λ (x : Ending). x.word) e_is ∙ sym (ap (λ p. word_unless p (is_guest_zero t) ram []) none ∙ ap (λ z. word_unless None z ram []) zero);
      uses = ap (λ (x : Ending). x.uses) e_is;
    }
