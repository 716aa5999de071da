use Rattle.std.proofs.Common.{◌∙◌, [], Ok, sym, ap}
use Rattle.std.proofs.lemmas.Result.{err_from_is_err_and}
use Rattle.radix_top.specs.declared.command.Command.TheVariants.{Asm, Dis}
use Rattle.radix_top.specs.Inputs.{met, image_word, source_word}
use Rattle.radix_top.proofs.Refusals.{fails_cause, first_fails}
use Rattle.radix_top.proofs.inputs.prepare.Goals as goal

pub returns-in_err-bytes-in-Ok-Asm-clause-err : goal.returns-in_err-bytes-in-Ok-Asm-clause-err
returns-in_err-bytes-in-Ok-Asm-clause-err g c =
    let p = err_from_is_err_and c.from_residual-in_err-bytes-in-Ok-Asm.result c.from_residual-in_err-bytes-in-Ok-Asm.ensures.1 in
    let words = c.args.words.now in
    let m = met (g.F.Files.told c.args.files.now) (g.F.Files.faults c.args.files.now) (g.F.Files.faults c.assemble_file.new.files) (g.F.Files.last c.assemble_file.new.files) in
    rw (p.1, p.2) (λ windows. fails_cause m words windows Asm _ (sym c.read_command.ensures.command ∙ c.in-Ok-Asm.is ∙ ap Ok c.in-Ok-Asm.field-0-is) (first_fails m (source_word words) [] _ c.in_err-bytes-in-Ok-Asm.ensures.err))

pub returns-in_err-image-in-Ok-Dis-clause-err : goal.returns-in_err-image-in-Ok-Dis-clause-err
returns-in_err-image-in-Ok-Dis-clause-err g c =
    let p = err_from_is_err_and c.from_residual-in_err-image-in-Ok-Dis.result c.from_residual-in_err-image-in-Ok-Dis.ensures.1 in
    let words = c.args.words.now in
    let m = met (g.F.Files.told c.args.files.now) (g.F.Files.faults c.args.files.now) (g.F.Files.faults c.read_image.new.files) (g.F.Files.last c.read_image.new.files) in
    rw (p.1, p.2) (λ windows. fails_cause m words windows Dis _ (sym c.read_command.ensures.command ∙ c.in-Ok-Dis.is ∙ ap Ok c.in-Ok-Dis.field-0-is) (first_fails m (image_word words) [] _ c.in_err-image-in-Ok-Dis.ensures.err))
