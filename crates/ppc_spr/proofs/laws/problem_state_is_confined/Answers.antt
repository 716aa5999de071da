use Rattle.ppc_spr.specs.Msrs.{after_hrfid, after_mtmsr, after_mtmsrd, after_rfid}
use Rattle.ppc_spr.proofs.LawLemmas.{mtmsrd_confines, mtmsr_confines, rfid_confines, hrfid_confines}
use Rattle.ppc_spr.proofs.laws.problem_state_is_confined.Goals as goal

pub returns-clause-mtmsrd : goal.returns-clause-mtmsrd
unfolding after_mtmsrd
returns-clause-mtmsrd c = mtmsrd_confines c.args.msr.0 c.args.value

pub returns-clause-mtmsr : goal.returns-clause-mtmsr
unfolding after_mtmsr
returns-clause-mtmsr c = mtmsr_confines c.args.msr.0 c.args.value

pub returns-clause-rfid : goal.returns-clause-rfid
unfolding after_rfid
returns-clause-rfid c = rfid_confines c.args.msr.0 c.args.value

pub returns-clause-hrfid : goal.returns-clause-hrfid
unfolding after_hrfid
returns-clause-hrfid c = hrfid_confines c.args.value
