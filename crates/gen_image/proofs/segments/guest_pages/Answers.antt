use Rattle.std.proofs.Common.{◌≡◌, ℕ, List, ◌+◌, ap, ◌∙◌}
use Rattle.gen_image.specs.Tables.{base}
use Rattle.gen_image.specs.Generated.{segment, guest_pages}
use Rattle.gen_image.proofs.PageLemmas.{has-room, are-pages}
use Rattle.gen_image.proofs.segments.guest_pages.Goals as goal

pub pad-requires : goal.pad-requires
pad-requires c =
    has-room c.args.draws.now c.new-bytes.result.items c.push_process_tables.new.out.items c.push_guest_code.new.out.items c.new-bytes.ensures.items c.in_ok-push_process_tables.ensures c.in_ok-push_guest_code.ensures
    c.requires

pub returns : goal.returns
returns c =
    let pages : c.pad.new.out.items ≡ guest_pages c.args.draws.now =
    are-pages c.args.draws.now c.new-bytes.result.items c.push_process_tables.new.out.items c.push_guest_code.new.out.items c.pad.new.out.items c.new-bytes.ensures.items c.in_ok-push_process_tables.ensures
    c.in_ok-push_guest_code.ensures c.in_ok-pad.ensures in
    c.segment.ensures ∙ ap (λ (at : ℕ). segment (at + 0x10000) c.pad.new.out.items) c.base.ensures ∙ ap (λ (bytes : List ℕ). segment (base c.args.guest + 0x10000) bytes) pages
