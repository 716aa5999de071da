use Rattle.radix_top.specs.declared.status.Status.TheVariants.{Memory}
use Rattle.radix.specs.Answering.{Answers}
use Rattle.radix.proofs.Cut.{answers_cut, answers_memory}
use Rattle.radix.proofs.Written.{rose}
use Rattle.radix.proofs.call.call.Goals as goal
use Rattle.radix.proofs.call.call.Goals.{in-Ok, in-Err+in-Ok-put, in-Err+in-Err-put}

pub returns-in-Ok-finish-clause-answer : goal.returns-in-Ok-finish-clause-answer
returns-in-Ok-finish-clause-answer g c =
    elim c.match-call_with_devices.branch [
      | in-Ok w ↦ rw w.status-is w.in-Ok.ensures
      | in-Err+in-Ok-put w ↦ rw w.status-is (answers_memory c.args.words.now)
      | in-Err+in-Err-put w ↦ rw w.status-is (answers_cut c.args.words.now Memory _ _ (answers_memory c.args.words.now) (rose _ _ w.in-Err-put.ensures.faults.0))
    ]

pub returns-in-Err-finish-clause-answer : goal.returns-in-Err-finish-clause-answer
returns-in-Err-finish-clause-answer g c =
    let answered : Answers c.args.words.now c.match-call_with_devices.status =
    elim c.match-call_with_devices.branch [
      | in-Ok w ↦ rw w.status-is w.in-Ok.ensures
      | in-Err+in-Ok-put w ↦ rw w.status-is (answers_memory c.args.words.now)
      | in-Err+in-Err-put w ↦ rw w.status-is (answers_cut c.args.words.now Memory _ _ (answers_memory c.args.words.now) (rose _ _ w.in-Err-put.ensures.faults.0))
    ] in
    answers_cut c.args.words.now c.match-call_with_devices.status _ _ answered (rose _ _ c.in-Err-finish.ensures.faults.0)
