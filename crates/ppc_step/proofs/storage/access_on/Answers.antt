use Rattle.std.proofs.Common.{◌≡◌, nat_lt, true, false, ap, sym, ◌∙◌}
use Rattle.storage_ops.specs.Accesses.{scene_of, asks_in, outcome_in}
use Rattle.ppc_step.specs.Steps.{is_done}
use Rattle.ppc_step.specs.Performing.{is_done_by}
use Rattle.ppc_step.proofs.ExecutedLemmas.{performs_onward, performs_still, done_in}
use Rattle.ppc_step.proofs.storage.access_on.Goals as goal

pub returns-then-is_done-clause-access : goal.returns-then-is_done-clause-access
returns-then-is_done-clause-access g c =
    let done : is_done c.access-out.result.end c.access-out.ensures.access.carries.carried.devices ≡ true =
    sym (done_in g.T.Translate.chooses g.B.Port.related g.B.Port.windows c.args.number (asks_in c.args.insn.now c.args.thread.now) (outcome_in g.B.Port.windows c.args.insn.now (scene_of c.args.thread.now c.args.store.now.ram c.args.bus.now c.args.journal.now)) (scene_of c.args.thread.now c.args.store.now.ram c.args.bus.now c.args.journal.now) (scene_of c.access-out.new.thread c.access-out.new.store.ram c.access-out.new.bus c.access-out.new.journal) c.access-out.result c.access-out.ensures.access c.counts-asked.result.devices c.counts-asked.ensures.devices)
    ∙ (ap (λ n. is_done_by c.access-out.result.end (nat_lt c.counts-asked.result.devices n)) (sym c.counts.ensures.devices) ∙ (sym c.is_done.ensures ∙ c.if-is_done.true)) in
    rw c.advance.ensures
    (performs_onward g.T.Translate.chooses g.B.Port.related g.B.Port.windows c.args.number (asks_in c.args.insn.now c.args.thread.now) (outcome_in g.B.Port.windows c.args.insn.now (scene_of c.args.thread.now c.args.store.now.ram c.args.bus.now c.args.journal.now)) (scene_of c.args.thread.now c.args.store.now.ram c.args.bus.now c.args.journal.now) c.access-out.new.thread c.access-out.new.store.ram c.access-out.new.bus c.access-out.new.journal c.access-out.result c.access-out.ensures.access done)

pub returns-else-is_done-clause-access : goal.returns-else-is_done-clause-access
returns-else-is_done-clause-access g c =
    let done : is_done c.access-out.result.end c.access-out.ensures.access.carries.carried.devices ≡ false =
    sym (done_in g.T.Translate.chooses g.B.Port.related g.B.Port.windows c.args.number (asks_in c.args.insn.now c.args.thread.now) (outcome_in g.B.Port.windows c.args.insn.now (scene_of c.args.thread.now c.args.store.now.ram c.args.bus.now c.args.journal.now)) (scene_of c.args.thread.now c.args.store.now.ram c.args.bus.now c.args.journal.now) (scene_of c.access-out.new.thread c.access-out.new.store.ram c.access-out.new.bus c.access-out.new.journal) c.access-out.result c.access-out.ensures.access c.counts-asked.result.devices c.counts-asked.ensures.devices)
    ∙ (ap (λ n. is_done_by c.access-out.result.end (nat_lt c.counts-asked.result.devices n)) (sym c.counts.ensures.devices) ∙ (sym c.is_done.ensures ∙ c.if-is_done.false)) in
    performs_still g.T.Translate.chooses g.B.Port.related g.B.Port.windows c.args.number (asks_in c.args.insn.now c.args.thread.now) (outcome_in g.B.Port.windows c.args.insn.now (scene_of c.args.thread.now c.args.store.now.ram c.args.bus.now c.args.journal.now)) (scene_of c.args.thread.now c.args.store.now.ram c.args.bus.now c.args.journal.now) c.access-out.new.thread c.access-out.new.store.ram c.access-out.new.bus c.access-out.new.journal c.access-out.result c.access-out.ensures.access done
