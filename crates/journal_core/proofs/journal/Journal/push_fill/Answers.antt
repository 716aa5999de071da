use Rattle.std.proofs.Common.{◌≡◌, ℕ, ◌<◌, ◌++◌, ◌∷◌, [], length, length-append, ap, arith, subst}
use Rattle.std.proofs.lemmas.Grind.{common_steps}
use Rattle.std.specs.Prelude.{slice_index}
use Rattle.journal_core.specs.declared.rows.FillRow.{FillRow}
use Rattle.journal_core.proofs.DatesLemmas.{in_order_push}
use Rattle.journal_core.proofs.NamedLemmas.{short_with, named_with}
use Rattle.journal_core.proofs.journal.Journal.push_fill.Goals as goal

pub invariant_of-self : goal.invariant_of-self
invariant_of-self c =
    let kept = c.self.invariant in
    let here : c.args.row.moment ≡ length c.self.inside.steps.items = grind (arith, common_steps, c.requires.moment) in
    let items : c.push.new.self.items ≡ c.self.inside.fills.items ++ c.args.row ∷ [] = grind (arith, common_steps) in
    let reads : c.args.self.now.rows.reads ≡ c.self.inside.reads.items = grind (arith, common_steps) in
    record {
      most = kept.most;
      steps = kept.steps;
      steps_within = kept.steps_within;
      reads = kept.reads;
      reads_within = kept.reads_within;
      fills = grind (arith, common_steps);
      fills_within = grind (arith, common_steps);
      writes = kept.writes;
      writes_within = kept.writes_within;
      dones = kept.dones;
      dones_within = kept.dones_within;
      devices = kept.devices;
      devices_within = kept.devices_within;
      dated = record {
        reads = kept.dated.reads;
        fills = rw items (in_order_push (λ (r : FillRow). r.moment) 0 (length c.self.inside.steps.items) c.self.inside.fills.items c.args.row here (omega arith) kept.dated.fills);
        writes = kept.dated.writes;
        dones = kept.dated.dones;
        devices = kept.dated.devices;
      };
      within = omega (arith, kept.within, ap length items, length-append c.self.inside.fills.items (c.args.row ∷ []));
      short = rw items (short_with c.self.inside.fills.items c.args.row kept.short c.requires.count);
      named = rw items (named_with c.self.inside.reads.items c.self.inside.fills.items c.args.row (length c.self.inside.steps.items) here kept.dated.reads kept.named (subst (λ xs. (k : ℕ) → k < c.args.row.count → slice_index c.args.row.reads k < length xs) reads c.requires.reads));
    }
