use Rattle.std.proofs.Common.{rules, ap}
use Rattle.radix.proofs.Written.{err_behind, cut_untold, puts_untold, puts_err}
use Rattle.radix.proofs.real_sink.RealSinkSink.put.Goals as goal

pub returns-in-Some-clause-puts : goal.returns-in-Some-clause-puts
returns-in-Some-clause-puts g c = cut_untold _ _ _ (ap (λ s. s.faults) c.break_off.ensures.after) c.break_off.ensures.counts

pub returns-in_err-write_waiting-clause-puts : goal.returns-in_err-write_waiting-clause-puts
returns-in_err-write_waiting-clause-puts g c =
    puts_err c.from_residual.result _ _ _ _ c.from_residual.ensures.0 (ap (λ s. s.faults) c.if-try_gather.ensures) c.in_err-write_waiting.ensures.faults

pub returns-clause-err : goal.returns-clause-err
returns-clause-err g c =
    err_behind c.write_piece.result _ _ _ _ _ _ _ _ (ap (λ s. s.written) c.if-try_gather.ensures) (ap (λ s. s.waiting) c.if-try_gather.ensures)
    (ap (λ s. s.written) c.if-try_gather-2.ensures) c.in_ok-write_waiting.ensures.ok c.write_piece.ensures.err

pub returns-clause-puts : goal.returns-clause-puts
returns-clause-puts g c = puts_untold c.write_piece.result _ _ _ (search rules)
