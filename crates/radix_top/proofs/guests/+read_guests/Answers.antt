use Rattle.radix_top.specs.Words.{guest}
use Rattle.radix_top.proofs.Refusals.{guests_ok, guests_err}
use Rattle.radix_top.proofs.guests.+read_guests.Goals as goal

pub returns-in-Ok-clause-ok : goal.returns-in-Ok-clause-ok
returns-in-Ok-clause-ok g t c =
    guests_ok c.read_guests.result (g.F.Files.told c.args.files.now) (g.F.Files.told c.read_guest_file.new.files) (g.F.Files.faults c.args.files.now) (g.F.Files.faults c.read_guest_file.new.files) (g.F.Files.faults c.read_guests.new.files)
    (g.F.Files.last c.read_guests.new.files) (g.F.Files.last c.read_guest_file.new.files) c.args.words.now c.args.guest_words.now (guest 0 0 0) c.in_ok-guest-in-len1-up.guest c.args.guests.now c.push.new.self c.read_guests.new.guests
    c.in-len1-up.len_at_least c.in_ok-guest-in-len1-up.ensures.same c.in_ok-guest-in-len1-up.ensures.ok c.in-Ok.ensures.ok c.read_guests.ensures.ok

pub returns-in-Ok-clause-err : goal.returns-in-Ok-clause-err
returns-in-Ok-clause-err g t c =
    guests_err c.read_guests.result (g.F.Files.told c.args.files.now) (g.F.Files.told c.read_guest_file.new.files) (g.F.Files.faults c.args.files.now) (g.F.Files.faults c.read_guest_file.new.files) (g.F.Files.faults c.read_guests.new.files)
    (g.F.Files.last c.read_guests.new.files) (g.F.Files.last c.read_guest_file.new.files) c.args.words.now c.args.guest_words.now (guest 0 0 0) c.in_ok-guest-in-len1-up.guest
    c.in-len1-up.len_at_least c.in_ok-guest-in-len1-up.ensures.same c.in_ok-guest-in-len1-up.ensures.counts c.in_ok-guest-in-len1-up.ensures.ok c.read_guests.ensures.err
