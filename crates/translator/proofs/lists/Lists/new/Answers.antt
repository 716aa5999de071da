use Rattle.translator.proofs.FitsLemmas.{fits_none}
use Rattle.translator.proofs.lists.Lists.new.Goals as goal

pub returns-clause-fits : goal.returns-clause-fits
returns-clause-fits c = fits_none (record { threads = c.args.threads; translations = c.no_lists.result; pages = c.no_lists-2.result }) c.no_lists.ensures c.no_lists-2.ensures
