use Rattle.translator.proofs.cached.Cached.fills.Goals as goal

pub returns : goal.returns
returns c = rw (← c.self.view_is) c.fills.ensures
