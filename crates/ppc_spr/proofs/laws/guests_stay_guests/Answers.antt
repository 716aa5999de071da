use Rattle.ppc_spr.proofs.LawLemmas.{mtmsrd_gains_none, mtmsr_gains_none, rfid_gains_none}
use Rattle.ppc_spr.proofs.laws.guests_stay_guests.Goals as goal

pub returns-clause-mtmsrd : goal.returns-clause-mtmsrd
returns-clause-mtmsrd c = mtmsrd_gains_none c.args.msr c.args.value c.args.l

pub returns-clause-mtmsr : goal.returns-clause-mtmsr
returns-clause-mtmsr c = mtmsr_gains_none c.args.msr c.args.value c.args.l

pub returns-clause-rfid : goal.returns-clause-rfid
returns-clause-rfid c = rfid_gains_none c.args.msr c.args.value
