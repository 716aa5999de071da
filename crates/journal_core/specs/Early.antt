-- What stands for a time: the choice of a machine that keeps translations and guest pages alone.
use Rattle.journal_core.specs.declared.asks.Found.{Found}
use Rattle.journal_core.specs.Turns.{Mark, Query}
use Rattle.journal_core.specs.Choice.{ByKind, NonePermits, ChoseHit, AddsOwn, IsFault, IsStop}

-- the choice of a machine that keeps translations and guest pages alone: a standing one that permits, else the fresh walk's
-- answer
abbrev pub PagesChoice : Query → Found → Mark → Type 0
PagesChoice q found after =
    ByKind q (ChoseHit q)
    (λ i real to. NonePermits q.turn q.before.fills q.ask × AddsOwn q i real to)
    (λ cause first count to. NonePermits q.turn q.before.fills q.ask × IsFault q cause first count to)
    (λ name value to. NonePermits q.turn q.before.fills q.ask × IsStop q name value to) found after
