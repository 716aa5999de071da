use Rattle.std.proofs.Common.{◌≡◌, ◌++◌, ◌∷◌, [], arith, length}
use Rattle.std.proofs.lemmas.Grind.{common_steps}
use Rattle.journal_core.specs.declared.rows.ReadRow.{ReadRow}
use Rattle.journal_core.proofs.DatesLemmas.{in_order_push}
use Rattle.journal_core.proofs.NamedLemmas.{named_by_more}
use Rattle.journal_core.proofs.journal.Journal.push_read.Goals as goal

pub invariant_of-self : goal.invariant_of-self
invariant_of-self c =
    let kept = c.self.invariant in
    let here : c.args.row.moment ≡ length c.self.inside.steps.items = grind (arith, common_steps, c.requires.moment) in
    let items : c.push.new.self.items ≡ c.self.inside.reads.items ++ c.args.row ∷ [] = grind (arith, common_steps) in
    record {
      most = kept.most;
      steps = kept.steps;
      steps_within = kept.steps_within;
      reads = grind (arith, common_steps);
      reads_within = grind (arith, common_steps);
      fills = kept.fills;
      fills_within = kept.fills_within;
      writes = kept.writes;
      writes_within = kept.writes_within;
      dones = kept.dones;
      dones_within = kept.dones_within;
      devices = kept.devices;
      devices_within = kept.devices_within;
      dated = record {
        reads = rw items (in_order_push (λ (r : ReadRow). r.moment) 0 (length c.self.inside.steps.items) c.self.inside.reads.items c.args.row here (omega arith) kept.dated.reads);
        fills = kept.dated.fills;
        writes = kept.dated.writes;
        dones = kept.dated.dones;
        devices = kept.dated.devices;
      };
      short = kept.short;
      within = kept.within;
      named = rw items (named_by_more c.self.inside.reads.items (c.args.row ∷ []) c.self.inside.fills.items kept.named);
    }
