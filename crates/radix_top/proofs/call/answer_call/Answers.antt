use Rattle.std.proofs.Common.{refl, sym, ap, subst, ◌∙◌, arith, length, List, Some}
use Rattle.thread_regs.proofs.ResetLemmas.{length-reset_from}
use Rattle.ppc_machine.specs.MachineView.{MachineView}
use Rattle.radix_top.specs.Inputs.{met}
use Rattle.radix_top.specs.Calls.{leaves}
use Rattle.radix_top.specs.Prepared.{IsPrepared}
use Rattle.radix_top.proofs.Refusals.{says_refused, opening_cause}
use Rattle.radix_top.proofs.RunsOf.{says_ran, asks_for}
use Rattle.radix_top.proofs.call.answer_call.Goals as goal

pub returns-in-Err-clause-answer : goal.returns-in-Err-clause-answer
returns-in-Err-clause-answer g c =
    says_refused _ c.args.words.now _ (leaves c.args.bench.now.machine c.args.bench.now.devices.items) _ _ _ _ c.in-Err.refusal c.refuse.result
    (record { none = c.requires; back = refl; cause = c.in-Err.ensures.err _ }) c.refuse.ensures.prints

pub returns-in-Err-open_machine-clause-answer : goal.returns-in-Err-open_machine-clause-answer
returns-in-Err-open_machine-clause-answer g c =
    let m = met (g.F.Files.told c.args.files.now) (g.F.Files.faults c.args.files.now) (g.F.Files.faults c.prepare.new.files) (g.F.Files.last c.prepare.new.files) in
    let ready = subst (IsPrepared m c.args.words.now) c.in-Ok-Run.field-0-is c.in-Ok-Run.ensures.ok in
    says_refused m c.args.words.now _ (leaves c.args.bench.now.machine c.open_machine.new.devices.items) _ _ _ _ c.in-Err-open_machine.refusal c.refuse-in-Err-open_machine.result
    (record { none = c.requires; back = c.in-Err-open_machine.ensures.back; cause = opening_cause m c.args.words.now _ (asks_for m c.args.words.now c.in-Ok-Run.ready ready) _ c.in-Err-open_machine.ensures.err })
    c.refuse-in-Err-open_machine.ensures.prints

pub run_ready-status-requires : goal.run_ready-status-requires
run_ready-status-requires g c =
    let m = met (g.F.Files.told c.args.files.now) (g.F.Files.faults c.args.files.now) (g.F.Files.faults c.prepare.new.files) (g.F.Files.last c.prepare.new.files) in
    let ready = subst (IsPrepared m c.args.words.now) c.in-Ok-Run.field-0-is c.in-Ok-Run.ensures.ok in
    (omega arith, ready.one ∙ sym (ap (λ (machine : MachineView _). length machine.threads) c.in-Ok.ensures.ok ∙ length-reset_from 0 1 c.in-Ok-Run.ready.image.entry))

pub returns-in-Ok-Run-clause-answer : goal.returns-in-Ok-Run-clause-answer
returns-in-Ok-Run-clause-answer g c =
    let m = met (g.F.Files.told c.args.files.now) (g.F.Files.faults c.args.files.now) (g.F.Files.faults c.prepare.new.files) (g.F.Files.last c.prepare.new.files) in
    let ready = subst (IsPrepared m c.args.words.now) c.in-Ok-Run.field-0-is c.in-Ok-Run.ensures.ok in
    let runs = rw c.in-Ok.ensures.ok at c.run_ready-status.ensures.runs in
    says_ran m c.args.words.now _ c.in-Ok-Run.ready _ _ _ _ _ _ c.run_ready-status.result ready
    (ap (λ (devices : List _). leaves (Some c.run_ready-status.new.machine) devices) c.in-Ok.ensures.moved) runs
