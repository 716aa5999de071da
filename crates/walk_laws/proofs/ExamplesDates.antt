-- Which rows a journal may have, by the steps that made them, by computation; each line says which definitions it exercises.
use Rattle.std.proofs.Common.{ℕ, ◌<◌, ◌≤◌, List, [], ◌∷◌, None, arith}
use Rattle.std.specs.Prelude.{replicate}
use Rattle.journal_core.specs.Rows.{Rows, no_rows}
use Rattle.journal_core.specs.Steps.{InOrder, IsDated, IsDatedSoFar}
use Rattle.journal_core.specs.declared.rows.ReadRow.{ReadRow}
use Rattle.journal_core.specs.declared.rows.Role.TheVariants.{Pate}
use Rattle.journal_core.specs.declared.rows.StepRow.{StepRow}
use Rattle.journal_core.specs.declared.rows.StepEnd.TheVariants.{Ran}
use Rattle.journal_core.specs.declared.rows.Use.TheVariants.{Unused}

-- a reading made in step n
abbrev reading : ℕ → ReadRow
reading n = record { role = Pate; lpid = 1; pid = 0; sought = 0; level = 0; left = 31; at = 0; value = 0; moment = n }

abbrev step : StepRow
step = record { thread = 0; cia = 0; word = None; end = Ran; uses = Unused ∷ Unused ∷ Unused ∷ [] }

-- a journal of three steps with these readings
abbrev with_reads : List ReadRow → Rows
with_reads reads = record no_rows { reads = reads; steps = replicate 3 step }

-- the steps of the rows never fall, and two rows may be of one step (InOrder, IsDated)
in_order : IsDated (with_reads (reading 0 ∷ reading 2 ∷ reading 2 ∷ []))
unfolding InOrder
in_order = record { reads = ((omega arith, omega arith, (omega arith, omega arith, (omega arith, omega arith, tt)))); fills = tt; writes = tt; dones = tt; devices = tt }

-- a row of an earlier step comes after no row of a later one (InOrder)
out_of_order : IsDated (with_reads (reading 2 ∷ reading 1 ∷ [])) → ⊥
unfolding InOrder
out_of_order h = (let later : 2 ≤ 1 = h.reads.2.0 in omega (arith, later))

-- while the fourth step is made, its rows are there (IsDatedSoFar)
so_far : IsDatedSoFar (with_reads (reading 2 ∷ reading 3 ∷ []))
unfolding InOrder
so_far = record { reads = (omega arith, omega arith, (omega arith, omega arith, tt)); fills = tt; writes = tt; dones = tt; devices = tt }

-- but before it ends the journal is not dated: step 3 has no row (IsDated)
no_step_row : IsDated (with_reads (reading 2 ∷ reading 3 ∷ [])) → ⊥
unfolding InOrder
no_step_row h = (let below : 3 < 3 = h.reads.2.1 in omega (arith, below))

-- and no row is of a step after it (IsDatedSoFar)
step_after : IsDatedSoFar (with_reads (reading 4 ∷ [])) → ⊥
unfolding InOrder
step_after h = (let below : 4 < 4 = h.reads.1 in omega (arith, below))
