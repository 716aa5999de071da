use Rattle.ppc_step.proofs.tests.bench.step_over.Goals as goal

-- the translator fits with any values
pub step-end-requires-clause-any_values : goal.step-end-requires-clause-any_values
step-end-requires-clause-any_values c = λ s j values new same fits. search
