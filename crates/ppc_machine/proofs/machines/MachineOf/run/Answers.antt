use Rattle.std.proofs.Common.{◌≡◌, ◌<◌, length, Some, None, refl, sym, ap, ◌∙◌, arith, [], subst}
use Rattle.std.specs.Prelude.{IfSome}
use Rattle.journal_core.specs.Rows.{JournalView}
use Rattle.journal_core.specs.Steps.{IsDated}
use Rattle.journal_core.specs.Runs.{state_after}
use Rattle.journal_core.specs.Ends.{ended_of}
use Rattle.sched_text.specs.Plan.{turn}
use Rattle.ppc_bus.specs.Answers.{DeviceAnswers}
use Rattle.ppc_machine.specs.Inside.{held_of}
use Rattle.ppc_machine.specs.MachineView.{MachineView}
use Rattle.ppc_machine.specs.Machines.{StepsOn}
use Rattle.ppc_machine.proofs.ViewLemmas.{IsKept-step, start_of-step}
use Rattle.ppc_machine.proofs.RunLemmas.{GoesOn, GoesOn-none, Goes-none, Goes-step, Grows-step, length-rows, Asks-none, Asks-step}
use Rattle.ppc_machine.proofs.machines.MachineOf.run.Goals as goal

pub loop-thread-init : goal.loop-thread-init
unfolding state_after
loop-thread-init g c = record {
  kept = c.self.invariant;
  goes = rw (← c.self.view_is) (Goes-none c.args.n c.self.inside.parts.journal.reserved (length c.self.inside.parts.journal.rows.steps) c.args.schedule.now c.self.inside.parts.journal.rows (omega arith));
  grows = rw (← c.self.view_is) (record { more = []; rows = refl });
  count = rw (← c.self.view_is) refl;
  entry = rw (← c.self.view_is) refl;
  plugged = rw (← c.self.view_is) refl;
  begin = rw (← c.self.view_is) refl;
  asks = rw (← c.self.view_is) (Asks-none {D = g.row.D.Denot} (DeviceAnswers g.D.Device.list g.D.Device.answers) (held_of c.self.inside));
}

pub invariant_of-self : goal.invariant_of-self
invariant_of-self g c = c.loop-thread.invariant.kept

pub returns-in-Err : goal.returns-in-Err
returns-in-Err g c = record {
  ended = rw (← c.counts.ensures.steps) (rw (← c.turn-next.ensures.turn) c.in-Err.ensures.ends);
  exact = c.loop-thread.invariant.goes.exact;
  turns = c.loop-thread.invariant.goes.turns;
  grows = c.loop-thread.invariant.grows;
  entry = c.loop-thread.invariant.entry;
  plugged = c.loop-thread.invariant.plugged;
  start = c.loop-thread.invariant.begin;
  lawful = c.loop-thread.invariant.kept.lawful;
  chosen = c.loop-thread.invariant.kept.chosen;
  devices = c.loop-thread.invariant.asks;
}

pub step-requires-clause-thread : goal.step-requires-clause-thread
step-requires-clause-thread g c =
    let below : c.in-Ok.thread < c.args.schedule.now.threads = subst (λ o. IfSome o (λ t. t < c.args.schedule.now.threads)) c.in-Ok.ensures.goes.1 c.turn-next.ensures.below in
    omega (arith, below, c.requires.threads, c.loop-thread.invariant.count)

pub step-requires-clause-most : goal.step-requires-clause-most
step-requires-clause-most g c = c.loop-thread.invariant.kept.most

pub step-requires-clause-room : goal.step-requires-clause-room
step-requires-clause-room g c = (GoesOn-none c.args.n c.turn-next.result c.loop-thread.self-inside.parts.journal.reserved c.loop-thread.self-inside.parts.journal.rows c.in-Ok.ensures.goes.0).room

pub step-requires-clause-dated : goal.step-requires-clause-dated
step-requires-clause-dated g c = c.loop-thread.invariant.kept.lawful.run.dated

pub loop-thread-smaller : goal.loop-thread-smaller
loop-thread-smaller g c =
    let on : GoesOn c.args.n c.loop-thread.self-inside.parts.journal.reserved c.loop-thread.self-inside.parts.journal.rows = GoesOn-none c.args.n c.turn-next.result c.loop-thread.self-inside.parts.journal.reserved c.loop-thread.self-inside.parts.journal.rows c.in-Ok.ensures.goes.0 in
    let long = length-rows {D = g.row.D.Denot} (DeviceAnswers g.D.Device.list g.D.Device.answers) (held_of c.loop-thread.self-inside) (held_of (record { entry = c.loop-thread.self-inside.entry; measured = c.loop-thread.self-inside.measured; parts = c.step.new.parts })) c.in-Ok.thread c.step.result (record { entry = refl; plugged = refl; count = c.step.ensures.count; steps = c.step.ensures.step }) in
    omega (arith, on.fewer, long)

pub loop-thread-preserved : goal.loop-thread-preserved
loop-thread-preserved g c =
    let first = c.args.self.now in
    let old : MachineView g.row.D.Denot = held_of c.loop-thread.self-inside in
    let new : MachineView g.row.D.Denot = held_of (record { entry = c.loop-thread.self-inside.entry; measured = c.loop-thread.self-inside.measured; parts = c.step.new.parts }) in
    let t = c.in-Ok.thread in
    let related = DeviceAnswers g.D.Device.list g.D.Device.answers in
    let on : GoesOn c.args.n c.loop-thread.self-inside.parts.journal.reserved c.loop-thread.self-inside.parts.journal.rows = GoesOn-none c.args.n c.turn-next.result c.loop-thread.self-inside.parts.journal.reserved c.loop-thread.self-inside.parts.journal.rows c.in-Ok.ensures.goes.0 in
    let steps : StepsOn (DeviceAnswers g.D.Device.list g.D.Device.answers) (held_of c.loop-thread.self-inside) (held_of (record { entry = c.loop-thread.self-inside.entry; measured = c.loop-thread.self-inside.measured; parts = c.step.new.parts })) c.in-Ok.thread c.step.result = record { entry = refl; plugged = refl; count = c.step.ensures.count; steps = c.step.ensures.step } in
    let dated : IsDated c.loop-thread.self-inside.parts.journal.rows = c.loop-thread.invariant.kept.lawful.run.dated in
    let here : turn c.args.schedule.now (length c.loop-thread.self-inside.parts.journal.rows.steps) ≡ Some c.in-Ok.thread =
    rw (← c.counts.ensures.steps) (sym c.turn-next.ensures.turn ∙ c.in-Ok.ensures.goes.1) in
    let none : ended_of c.args.n (turn c.args.schedule.now (length c.loop-thread.self-inside.parts.journal.rows.steps)) c.loop-thread.self-inside.parts.journal.reserved c.loop-thread.self-inside.parts.journal.rows ≡ None =
    rw here (rw (← c.in-Ok.ensures.goes.1) c.in-Ok.ensures.goes.0) in
    let same : c.loop-thread.self-inside.parts.journal.reserved ≡ c.args.self.now.journal.reserved = ap (λ (j : JournalView). j.reserved) c.loop-thread.invariant.grows.rows in
    let none' : ended_of c.args.n (turn c.args.schedule.now (length c.loop-thread.self-inside.parts.journal.rows.steps)) c.args.self.now.journal.reserved c.loop-thread.self-inside.parts.journal.rows ≡ None = rw (← same) none in
    record {
      kept = IsKept-step related old new t c.step.result c.loop-thread.invariant.kept on.running steps;
      goes = Goes-step related c.args.n c.args.self.now.journal.reserved (length c.args.self.now.journal.rows.steps) c.args.schedule.now old new t c.step.result c.loop-thread.invariant.goes dated steps none' here;
      grows = Grows-step related c.args.self.now.journal old new t c.step.result c.loop-thread.invariant.grows steps;
      count = c.step.ensures.count ∙ c.loop-thread.invariant.count;
      entry = c.loop-thread.invariant.entry;
      plugged = c.loop-thread.invariant.plugged;
      begin = start_of-step related old new t c.step.result c.loop-thread.invariant.kept on.running steps ∙ c.loop-thread.invariant.begin;
      asks = Asks-step related c.args.self.now old new t c.step.result c.loop-thread.invariant.asks steps;
    }

-- the translator fits with any values
pub step-requires-clause-any_values : goal.step-requires-clause-any_values
step-requires-clause-any_values g c = λ s j values new same fits. tt
