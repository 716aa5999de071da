use Rattle.ppc_bits.specs.Bits.{word_of}
use Rattle.ppc_spr.specs.Msrs.{rfid_bit, hrfid_bit, after_rfid, after_hrfid}
use Rattle.ppc_spr.proofs.LawLemmas.{is_profiled, mtmsrd_is_profiled, mtmsr_is_profiled}
use Rattle.ppc_spr.proofs.laws.new_values_are_in_the_profile.Goals as goal

pub returns-clause-mtmsrd : goal.returns-clause-mtmsrd
returns-clause-mtmsrd c = mtmsrd_is_profiled c.args.msr c.args.value c.args.l

pub returns-clause-mtmsr : goal.returns-clause-mtmsr
returns-clause-mtmsr c = mtmsr_is_profiled c.args.msr c.args.value c.args.l

pub returns-clause-rfid : goal.returns-clause-rfid
unfolding after_rfid
returns-clause-rfid c = is_profiled (word_of 64 (λ i. rfid_bit c.args.msr.0 c.args.value i))

pub returns-clause-hrfid : goal.returns-clause-hrfid
unfolding after_hrfid
returns-clause-hrfid c = is_profiled (word_of 64 (λ i. hrfid_bit c.args.value i))
