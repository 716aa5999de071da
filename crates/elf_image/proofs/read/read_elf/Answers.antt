use Rattle.std.proofs.Common.{sym, ap, ◌∙◌, take}
use Rattle.std.proofs.lemmas.Result.{err_from_is_err_and}
use Rattle.elf_image.specs.Grammar.{loads_from}
use Rattle.elf_image.proofs.ImageLemmas.{header-fails, loads-fail, loads-good, no_fault}
use Rattle.elf_image.proofs.read.read_elf.Goals as goal

pub returns-in_err-header : goal.returns-in_err-header
returns-in_err-header c =
    let p = err_from_is_err_and c.from_residual.result c.from_residual.ensures.1 in
    rw (p.1, p.2) (header-fails c.args.bytes.now _ c.in_err-header.ensures.header)

pub load_segments-requires : goal.load_segments-requires
load_segments-requires c = (no_fault _ _ (sym c.in-None.ensures)).0

pub returns-in-Some : goal.returns-in-Some
returns-in-Some c =
    loads-fail c.args.bytes.now c.in_ok-header.header (take c.from-count.result c.read_loads-all.result) c.in-Some.fault c.in_ok-header.ensures.header
    (c.read_loads-all.ensures ∙ ap (loads_from c.args.bytes.now c.in_ok-header.header.table) c.from-count.ensures) c.in-Some.ensures

pub returns-in_ok-load_segments-in-None : goal.returns-in_ok-load_segments-in-None
returns-in_ok-load_segments-in-None c =
    loads-good c.args.bytes.now c.in_ok-header.header (take c.from-count.result c.read_loads-all.result) c.in_ok-load_segments-in-None.field-0 c.in_ok-header.ensures.header
    (c.read_loads-all.ensures ∙ ap (loads_from c.args.bytes.now c.in_ok-header.header.table) c.from-count.ensures) c.in-None.ensures c.in_ok-load_segments-in-None.ensures
