-- Output that was cut short at its end, and a call without memory for its devices.
use Rattle.std.proofs.Common.{◌⊎◌, inl, inr, ℕ, List, [], None, refl}
use Rattle.outer_io.specs.Outside.{AddsFront, CountRose}
use Rattle.journal_core.specs.declared.rows.Ended.{Ended}
use Rattle.journal_core.specs.declared.rows.Ended.TheVariants as ends
use Rattle.radix_top.specs.declared.status.Refusal.{Refusal}
use Rattle.radix_top.specs.declared.status.Refusal.TheVariants as refusals
use Rattle.radix_top.specs.declared.status.Status.{Status}
use Rattle.radix_top.specs.declared.status.Status.TheVariants as statuses
use Rattle.radix_top.specs.Words.{Text}
use Rattle.radix_top.specs.Inputs.{FilesSeen, met}
use Rattle.radix_top.specs.Devices.{DevicesSeen}
use Rattle.radix_top.specs.Calls.{BenchSeen, Says, WasDone, WasRefused, CutLine, CutText}
use Rattle.radix.specs.Answering.{Answers, WereHanded}
use Rattle.radix.specs.Views.{seen}

-- where no bytes are known, no byte of a text is a front of it
no_front : (text : List ℕ) → AddsFront None None text
no_front text = record { front = []; rest = text; parts = refl; after = refl }

-- a text whose last bytes were not written
cut_text : {D : Type 0} (m : FilesSeen) (words : List Text) (d : DevicesSeen D) (left : BenchSeen D) (end : Ended) → WasDone m words d left None None end
    → CutLine m words d left None None ⊎ CutText m words d left None None
cut_text m words d left end done = inr (record { end = end; text = done.text; made = done.made; front = no_front done.text })

-- a line whose last bytes were not written
cut_line : {D : Type 0} (m : FilesSeen) (words : List Text) (d : DevicesSeen D) (left : BenchSeen D) (r : Refusal) → WasRefused m words d left None None r
    → CutLine m words d left None None ⊎ CutText m words d left None None
cut_line m words d left r was = inl (record { refusal = r; not_run = was.not_run; front = no_front _ })

-- whatever was printed, its end was not written
cut_short : {D : Type 0} (m : FilesSeen) (words : List Text) (d : DevicesSeen D) (left : BenchSeen D) (f f' g g' : ℕ) (s : Status) → Says m words d left f f' None None s
    → CountRose g g' → Says m words d left g g' None None statuses.WriteFault
cut_short m words d left f f' g g' (statuses.Done ends.AllRun) says rose = (rose, cut_text m words d left _ says)
cut_short m words d left f f' g g' (statuses.Done ends.ScheduleEnd) says rose = (rose, cut_text m words d left _ says)
cut_short m words d left f f' g g' (statuses.Done (ends.Stopped name value)) says rose = absurd says
cut_short m words d left f f' g g' (statuses.Done (ends.JournalFull kind count)) says rose = absurd says
cut_short m words d left f f' g g' (statuses.Stopped name value) says rose = (rose, cut_text m words d left _ says)
cut_short m words d left f f' g g' (statuses.JournalFull kind count) says rose = (rose, cut_text m words d left _ says)
cut_short m words d left f f' g g' statuses.WriteFault says rose = (rose, says.1)
cut_short m words d left f f' g g' (statuses.Usage place) says rose = (rose, cut_line m words d left (refusals.Usage place) says)
cut_short m words d left f f' g g' (statuses.ReadFault place) says rose = (rose, cut_line m words d left (refusals.ReadFault place) says)
cut_short m words d left f f' g g' (statuses.TooLong place) says rose = (rose, cut_line m words d left (refusals.TooLong place) says)
cut_short m words d left f f' g g' (statuses.BadImage fault) says rose = (rose, cut_line m words d left (refusals.BadImage fault) says)
cut_short m words d left f f' g g' (statuses.BadSchedule place) says rose = (rose, cut_line m words d left (refusals.BadSchedule place) says)
cut_short m words d left f f' g g' (statuses.BadAsm line kind) says rose = (rose, cut_line m words d left (refusals.BadAsm line kind) says)
cut_short m words d left f f' g g' (statuses.BadPlace range other) says rose = (rose, cut_line m words d left (refusals.BadPlace range other) says)
cut_short m words d left f f' g g' (statuses.BadDevice number reason) says rose = (rose, cut_line m words d left (refusals.BadDevice number reason) says)
cut_short m words d left f f' g g' statuses.Memory says rose = (rose, cut_line m words d left refusals.Memory says)

still_handed : {D : Type 0} (d : DevicesSeen D) (s : Status) → WereHanded d s → WereHanded d statuses.WriteFault
still_handed d s (inl standard) = inl standard
still_handed d s (inr (none, is)) = inr (none, inr refl)

-- an answer, where the end of what it printed was not written
pub answers_cut : (words : List Text) (s : Status) (g g' : ℕ) → Answers words s → CountRose g g' → Answers words statuses.WriteFault
answers_cut words s g g' a rose = record {
  devices = a.devices;
  were_handed = still_handed (seen a.devices) s a.were_handed;
  file_faults = a.file_faults;
  last = a.last;
  left = a.left;
  faults_before = g;
  faults_after = g';
  says = cut_short (met (λ _. None) 0 a.file_faults a.last) words (seen a.devices) a.left a.faults_before a.faults_after g g' s a.says rose;
}

-- a call without memory for its devices, whose line was put
pub answers_memory : (words : List Text) → Answers words statuses.Memory
answers_memory words = record {
  devices = [];
  were_handed = inr (refl, inl refl);
  file_faults = 0;
  last = None;
  left = record { machine = None; devices = [] };
  faults_before = 0;
  faults_after = 0;
  says = record { not_run = record { none = refl; back = refl; cause = tt }; printed = refl };
}
