use Rattle.std.proofs.Common.{◌≡◌, ◌≤◌, ◌+◌, ℕ, length, refl, arith, vec_len}
use Rattle.std.proofs.lemmas.Grind.{common_steps}
use Rattle.journal_core.specs.declared.rows.ReadRow.{ReadRow}
use Rattle.journal_core.specs.declared.rows.FillRow.{FillRow}
use Rattle.journal_core.specs.declared.rows.WriteRow.{WriteRow}
use Rattle.journal_core.specs.declared.rows.DoneRow.{DoneRow}
use Rattle.journal_core.specs.declared.rows.DeviceRow.{DeviceRow}
use Rattle.journal_core.specs.Steps.{first_steps}
use Rattle.journal_core.proofs.CutLemmas.{order_cut_so_far, length_take}
use Rattle.journal_core.proofs.CutNamed.{named_cut, short_cut}
use Rattle.journal_core.proofs.journal.Journal.cut_to.Goals as goal

pub invariant_of-self : goal.invariant_of-self
unfolding first_steps
invariant_of-self c =
    let kept = c.self.invariant in
    let high : ℕ = length c.self.inside.steps.items + 1 in
    let few : c.args.steps ≤ length c.self.inside.steps.items = grind (arith, common_steps, c.requires) in
    let left : length c.truncate.new.self.items ≡ c.args.steps = rw c.truncate.ensures.items (length_take c.args.steps c.self.inside.steps.items few) in
    let reads = c.cut.ensures.items high kept.dated.reads in
    let fills = c.cut-2.ensures.items high kept.dated.fills in
    let writes = c.cut-3.ensures.items high kept.dated.writes in
    let dones = c.cut-4.ensures.items high kept.dated.dones in
    let devices = c.cut-5.ensures.items high kept.dated.devices in
    record {
      most = kept.most;
      steps = rw c.truncate.ensures.capacity kept.steps;
      steps_within = omega (arith, kept.steps_within, c.truncate.ensures.len);
      reads = rw c.cut.ensures.capacity kept.reads;
      reads_within = omega (arith, kept.reads_within, c.cut.ensures.fewer);
      fills = rw c.cut-2.ensures.capacity kept.fills;
      fills_within = omega (arith, kept.fills_within, c.cut-2.ensures.fewer);
      writes = rw c.cut-3.ensures.capacity kept.writes;
      writes_within = omega (arith, kept.writes_within, c.cut-3.ensures.fewer);
      dones = rw c.cut-4.ensures.capacity kept.dones;
      dones_within = omega (arith, kept.dones_within, c.cut-4.ensures.fewer);
      devices = rw c.cut-5.ensures.capacity kept.devices;
      devices_within = omega (arith, kept.devices_within, c.cut-5.ensures.fewer);
      dated = record {
        reads = rw (left, reads) (order_cut_so_far (λ (r : ReadRow). r.moment) high c.args.steps c.self.inside.reads.items kept.dated.reads);
        fills = rw (left, fills) (order_cut_so_far (λ (r : FillRow). r.moment) high c.args.steps c.self.inside.fills.items kept.dated.fills);
        writes = rw (left, writes) (order_cut_so_far (λ (r : WriteRow). r.step) high c.args.steps c.self.inside.writes.items kept.dated.writes);
        dones = rw (left, dones) (order_cut_so_far (λ (r : DoneRow). r.step) high c.args.steps c.self.inside.dones.items kept.dated.dones);
        devices = rw (left, devices) (order_cut_so_far (λ (r : DeviceRow). r.step) high c.args.steps c.self.inside.devices.items kept.dated.devices);
      };
      within = grind (arith, common_steps);
      short = rw fills (short_cut c.args.steps c.self.inside.fills.items kept.short);
      named = rw (reads, fills) (named_cut high c.args.steps c.self.inside.reads.items c.self.inside.fills.items kept.dated.reads kept.named);
    }

pub returns : goal.returns
unfolding first_steps
returns c =
    let kept = c.self.invariant in
    let high : ℕ = length c.self.inside.steps.items + 1 in
    let same : vec_len c.cut-2.new.rows ≡ length c.cut-2.new.rows.items = grind (arith, common_steps) in
    rw (← c.self.view_is)
    (rw (
      c.len.ensures,
      same,
      c.cut.ensures.items high kept.dated.reads,
      c.cut-2.ensures.items high kept.dated.fills,
      c.cut-3.ensures.items high kept.dated.writes,
      c.cut-4.ensures.items high kept.dated.dones,
      c.cut-5.ensures.items high kept.dated.devices,
      c.truncate.ensures.items,
    ) refl)
