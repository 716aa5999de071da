use Rattle.std.proofs.Common.{[], arith, subst}
use Rattle.std.proofs.lemmas.List.{get_or_default}
use Rattle.journal_core.specs.declared.rows.KeyKind.TheVariants.{Translation, GuestPage}
use Rattle.journal_core.specs.Translating.{without_done}
use Rattle.translator.specs.PlaceLists.{HasFours}
use Rattle.translator.proofs.DoneLemmas.{thread_fours}
use Rattle.translator.proofs.lists.Lists.drop_ended.Goals as goal

pub complete_list-requires : goal.complete_list-requires
complete_list-requires c = subst HasFours (get_or_default c.args.self.now.translations c.args.thread [] c.index-self-thread.result (omega arith)) (thread_fours c.args.self.now (without_done c.args.journal.now) c.args.thread c.requires.fits.0 c.requires.fits.1 Translation tt)

pub complete_list-requires-2 : goal.complete_list-requires-2
complete_list-requires-2 c = subst HasFours (get_or_default c.args.self.now.pages c.args.thread [] c.index-self-thread-2.result (omega arith)) (thread_fours c.args.self.now (without_done c.args.journal.now) c.args.thread c.requires.fits.0 c.requires.fits.1 GuestPage tt)
