use Rattle.std.proofs.Common.{length}
use Rattle.radix_top.proofs.guests.+read_guests.Given as goal

abbrev pub decreases-read_guests : goal.decreases-read_guests
decreases-read_guests g l = length l.guest_words.now
