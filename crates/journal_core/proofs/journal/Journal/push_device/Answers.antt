use Rattle.std.proofs.Common.{◌≡◌, ◌++◌, ◌∷◌, [], arith, length}
use Rattle.std.proofs.lemmas.Grind.{common_steps}
use Rattle.journal_core.specs.declared.rows.DeviceRow.{DeviceRow}
use Rattle.journal_core.proofs.DatesLemmas.{in_order_push}
use Rattle.journal_core.proofs.journal.Journal.push_device.Goals as goal

pub invariant_of-self : goal.invariant_of-self
invariant_of-self c =
    let kept = c.self.invariant in
    let here : c.args.row.step ≡ length c.self.inside.steps.items = grind (arith, common_steps, c.requires.step) in
    let items : c.push.new.self.items ≡ c.self.inside.devices.items ++ c.args.row ∷ [] = grind (arith, common_steps) in
    record {
      most = kept.most;
      steps = kept.steps;
      steps_within = kept.steps_within;
      reads = kept.reads;
      reads_within = kept.reads_within;
      fills = kept.fills;
      fills_within = kept.fills_within;
      writes = kept.writes;
      writes_within = kept.writes_within;
      dones = kept.dones;
      dones_within = kept.dones_within;
      devices = grind (arith, common_steps);
      devices_within = grind (arith, common_steps);
      dated = record {
        reads = kept.dated.reads;
        fills = kept.dated.fills;
        writes = kept.dated.writes;
        dones = kept.dated.dones;
        devices = rw items (in_order_push (λ (r : DeviceRow). r.step) 0 (length c.self.inside.steps.items) c.self.inside.devices.items c.args.row here (omega arith) kept.dated.devices);
      };
      short = kept.short;
      within = kept.within;
      named = kept.named;
    }
