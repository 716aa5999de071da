use Rattle.std.proofs.Common.{sym, ◌∙◌, subst}
use Rattle.storage_ops.specs.Parts.{listed}
use Rattle.storage_ops.specs.Reaching as reaching
use Rattle.storage_ops.specs.Accesses.{scene_of}
use Rattle.storage_ops.proofs.AccessesLemmas.{access_misaligned, access_idle, access_ended, access_carried, same_kept}
use Rattle.storage_ops.proofs.accesses.access.Goals as goal

pub returns-then-is_misaligned-clause-access : goal.returns-then-is_misaligned-clause-access
returns-then-is_misaligned-clause-access g c =
    access_misaligned g.T.Translate.chooses g.B.Port.related g.B.Port.windows c.args.number c.args.insn.now c.deed_of-deed.result c.args.thread.now c.args.store.now.ram c.args.bus.now c.args.journal.now c.without_uses.result c.address_of-dar.result
    c.deed_of-deed.ensures.deed (sym c.is_misaligned.ensures ∙ c.if-is_misaligned.true) c.address_of-dar.ensures c.without_uses.ensures

pub returns-in-None-clause-access : goal.returns-in-None-clause-access
returns-in-None-clause-access g c =
    access_idle g.T.Translate.chooses g.B.Port.related g.B.Port.windows c.args.number c.args.insn.now c.deed_of-deed.result c.args.thread.now c.args.store.now.ram c.args.bus.now c.args.journal.now c.without_uses-in-None.result
    c.deed_of-deed.ensures.deed c.in-None.ensures.nothing c.without_uses-in-None.ensures

pub returns-in-Err-clause-access : goal.returns-in-Err-clause-access
returns-in-Err-clause-access g c =
    access_ended g.T.Translate.chooses g.B.Port.related g.B.Port.windows c.args.number c.args.insn.now c.deed_of-deed.result c.kind_of-kind.result (listed c.in-Some.parts) (reaching.founds_in c.translate_parts-answers.result) c.args.thread.now c.args.store.now.ram c.args.bus.now c.args.journal.now c.translate_parts-answers.new.journal c.with_uses.result
    c.deed_of-deed.ensures.deed (sym c.is_misaligned.ensures ∙ c.if-is_misaligned.false) c.in-Some.ensures.parts c.kind_of-kind.ensures c.translate_parts-answers.ensures.answered
    (subst (λ e. reaching.EndsAs (reaching.laid (listed c.in-Some.parts) (reaching.founds_in c.translate_parts-answers.result)) e) (sym c.with_uses.ensures.end) c.in-Err.ensures.err) c.with_uses.ensures.first c.with_uses.ensures.second

pub returns-in-Ok-clause-access : goal.returns-in-Ok-clause-access
returns-in-Ok-clause-access g c =
    access_carried g.T.Translate.chooses g.B.Port.related g.B.Port.windows c.args.number c.args.insn.now c.deed_of-deed.result c.kind_of-kind.result (listed c.in-Some.parts) (listed c.in-Ok.real) (reaching.founds_in c.translate_parts-answers.result) c.args.thread.now c.args.store.now.ram c.args.bus.now c.args.journal.now c.translate_parts-answers.new.journal
    (scene_of c.carry_out-end.new.thread c.carry_out-end.new.store.ram c.carry_out-end.new.bus c.carry_out-end.new.journal) c.with_uses-in-Ok.result
    c.deed_of-deed.ensures.deed (sym c.is_misaligned.ensures ∙ c.if-is_misaligned.false) c.in-Some.ensures.parts c.kind_of-kind.ensures c.translate_parts-answers.ensures.answered c.in-Ok.ensures.ok
    (rw c.with_uses-in-Ok.ensures.end (c.carry_out-end.ensures (reaching.founds_in c.translate_parts-answers.result))) c.with_uses-in-Ok.ensures.first c.with_uses-in-Ok.ensures.second

pub returns-in-Ok-clause-fits : goal.returns-in-Ok-clause-fits
returns-in-Ok-clause-fits g c = λ values is fits.
    g.met.T.Translate.stays c.translate_parts-answers.new.tr c.translate_parts-answers.new.journal c.carry_out-end.new.journal values
    (same_kept g.B.Port.related g.B.Port.windows c.args.number _ (scene_of c.args.thread.now c.args.store.now.ram c.args.bus.now c.translate_parts-answers.new.journal) (scene_of c.carry_out-end.new.thread c.carry_out-end.new.store.ram c.carry_out-end.new.bus c.carry_out-end.new.journal) (c.carry_out-end.ensures (reaching.founds_in c.translate_parts-answers.result)).carried)
    (c.translate_parts-answers.ensures.fits values is fits)
