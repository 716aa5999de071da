use Rattle.real_store.proofs.FitsLemmas.{fits_no_rows}
use Rattle.real_store.proofs.laws.a_store_fits_no_rows.Goals as goal

pub returns : goal.returns
returns c = fits_no_rows c.args.store.now.ram c.holds_bytes.ensures
