use Rattle.radix_top.proofs.call.run_ready.Goals as goal

pub print_report-requires : goal.print_report-requires
print_report-requires g c = rw c.threads.ensures.threads (λ i below. (c.threads.ensures.sound.threads i below).profile.widths)
