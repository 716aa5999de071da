use Rattle.std.proofs.Common.{refl}
use Rattle.radix_top.proofs.Files.{read_whole}
use Rattle.radix_top.proofs.guests.read_named.Goals as goal

pub returns-in-Ok-clause-ok : goal.returns-in-Ok-clause-ok
returns-in-Ok-clause-ok g c = (c.in-Ok.ensures.reads.0, read_whole (g.F.Files.told c.args.files.now) _ _ _ c.read_file.new.into.items refl c.new-bytes.ensures.items c.in-Ok.ensures.reads.1)

pub returns-in-Err-Failed-clause-err : goal.returns-in-Err-Failed-clause-err
returns-in-Err-Failed-clause-err g c =
    let reads = rw c.in-Err-Failed.field-0-is at c.in-Err-Failed.ensures.reads in
    (refl, (reads.1, reads.0))

pub returns-in-Err-TooLong-clause-err : goal.returns-in-Err-TooLong-clause-err
returns-in-Err-TooLong-clause-err g c =
    let reads = rw c.in-Err-TooLong.field-0-is at c.in-Err-TooLong.ensures.reads in
    (refl, (reads.0, reads.1))
