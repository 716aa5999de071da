use Rattle.std.proofs.Common.{[], ap, sym, ◌∙◌, arith}
use Rattle.std.specs.Prelude.{filter, slice_get}
use Rattle.std.proofs.lemmas.List.{get_or_default}
use Rattle.journal_core.specs.declared.rows.KeyKind.TheVariants.{Translation}
use Rattle.translator.specs.PlaceLists.{of_set, shown}
use Rattle.translator.proofs.LastPlaces.{set_is_last}
use Rattle.translator.proofs.lists.Lists.fills.Goals as goal

pub returns : goal.returns
returns c = λ j values fits.
    c.at.ensures
    ∙ (ap (λ ps. shown (slice_get (filter (of_set c.args.set) ps) c.args.place)) (sym (get_or_default c.args.self.now.translations c.args.thread [] c.index-self-thread.result (omega arith)) ∙ fits.same c.args.thread c.requires.thread Translation tt)
    ∙ ap (λ ps. shown (slice_get ps c.args.place)) (set_is_last j c.args.thread Translation c.args.set))
