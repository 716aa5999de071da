use Rattle.storage_ops.proofs.storing.+clear_doublewords.Given as goal

abbrev pub decreases-clear_doublewords : goal.decreases-clear_doublewords
decreases-clear_doublewords l = l.count
