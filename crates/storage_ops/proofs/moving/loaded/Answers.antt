use Rattle.std.proofs.Common.{◌∙◌}
use Rattle.storage_ops.proofs.MovingLemmas.{loaded-signed}
use Rattle.storage_ops.proofs.moving.loaded.Goals as goal

pub returns-then-form : goal.returns-then-form
returns-then-form c =
    c.sign_extend.ensures ∙ loaded-signed c.args.form.now c.args.value c.ordered-number.result c.if-form.true c.ordered-number.ensures.value c.ordered-number.ensures.below
