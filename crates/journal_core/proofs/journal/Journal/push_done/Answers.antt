use Rattle.std.proofs.Common.{◌≡◌, ◌++◌, ◌∷◌, [], arith, length}
use Rattle.std.proofs.lemmas.Grind.{common_steps}
use Rattle.journal_core.specs.declared.rows.DoneRow.{DoneRow}
use Rattle.journal_core.proofs.DatesLemmas.{in_order_push}
use Rattle.journal_core.proofs.journal.Journal.push_done.Goals as goal

pub invariant_of-self : goal.invariant_of-self
invariant_of-self c =
    let kept = c.self.invariant in
    let here : c.args.row.step ≡ length c.self.inside.steps.items = grind (arith, common_steps, c.requires.step) in
    let items : c.push.new.self.items ≡ c.self.inside.dones.items ++ c.args.row ∷ [] = grind (arith, common_steps) in
    record {
      most = kept.most;
      steps = kept.steps;
      steps_within = kept.steps_within;
      reads = kept.reads;
      reads_within = kept.reads_within;
      fills = kept.fills;
      fills_within = kept.fills_within;
      writes = kept.writes;
      writes_within = kept.writes_within;
      dones = grind (arith, common_steps);
      dones_within = grind (arith, common_steps);
      devices = kept.devices;
      devices_within = kept.devices_within;
      dated = record {
        reads = kept.dated.reads;
        fills = kept.dated.fills;
        writes = kept.dated.writes;
        dones = rw items (in_order_push (λ (r : DoneRow). r.step) 0 (length c.self.inside.steps.items) c.self.inside.dones.items c.args.row here (omega arith) kept.dated.dones);
        devices = kept.dated.devices;
      };
      short = kept.short;
      within = kept.within;
      named = kept.named;
    }
