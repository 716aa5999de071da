use Rattle.std.proofs.Common.{◌≡◌, ◌+◌, arith, length}
use Rattle.std.proofs.lemmas.Grind.{common_steps}
use Rattle.journal_core.specs.declared.rows.ReadRow.{ReadRow}
use Rattle.journal_core.specs.declared.rows.FillRow.{FillRow}
use Rattle.journal_core.specs.declared.rows.WriteRow.{WriteRow}
use Rattle.journal_core.specs.declared.rows.DoneRow.{DoneRow}
use Rattle.journal_core.specs.declared.rows.DeviceRow.{DeviceRow}
use Rattle.journal_core.proofs.DatesLemmas.{in_order_higher}
use Rattle.journal_core.proofs.journal.Journal.push_step.Goals as goal

pub invariant_of-self : goal.invariant_of-self
invariant_of-self c =
    let kept = c.self.invariant in
    let more : length c.push.new.self.items ≡ length c.self.inside.steps.items + 1 = grind (arith, common_steps) in
    record {
      most = kept.most;
      steps = grind (arith, common_steps);
      steps_within = grind (arith, common_steps);
      reads = kept.reads;
      reads_within = kept.reads_within;
      fills = kept.fills;
      fills_within = kept.fills_within;
      writes = kept.writes;
      writes_within = kept.writes_within;
      dones = kept.dones;
      dones_within = kept.dones_within;
      devices = kept.devices;
      devices_within = kept.devices_within;
      dated = record {
        reads = in_order_higher (λ (r : ReadRow). r.moment) 0 (length c.self.inside.steps.items + 1) (length c.push.new.self.items + 1) c.self.inside.reads.items (omega arith) kept.dated.reads;
        fills = in_order_higher (λ (r : FillRow). r.moment) 0 (length c.self.inside.steps.items + 1) (length c.push.new.self.items + 1) c.self.inside.fills.items (omega arith) kept.dated.fills;
        writes = in_order_higher (λ (r : WriteRow). r.step) 0 (length c.self.inside.steps.items + 1) (length c.push.new.self.items + 1) c.self.inside.writes.items (omega arith) kept.dated.writes;
        dones = in_order_higher (λ (r : DoneRow). r.step) 0 (length c.self.inside.steps.items + 1) (length c.push.new.self.items + 1) c.self.inside.dones.items (omega arith) kept.dated.dones;
        devices = in_order_higher (λ (r : DeviceRow). r.step) 0 (length c.self.inside.steps.items + 1) (length c.push.new.self.items + 1) c.self.inside.devices.items (omega arith) kept.dated.devices;
      };
      short = kept.short;
      within = kept.within;
      named = kept.named;
    }
