use Rattle.std.proofs.Common.{Bool, true, false, not, ◌≡◌, refl, sym}
use Rattle.elf_image.specs.Grammar.{is_bad}
use Rattle.elf_image.proofs.TableLemmas.{position-none}
use Rattle.elf_image.proofs.read.load_segments.Goals as goal

not-false : (b : Bool) → not b ≡ false → b ≡ true
not-false true is = refl
not-false false is = sym is

pub load_segment-requires : goal.load_segment-requires
load_segment-requires c = not-false _ (position-none (is_bad _) c.args.loads.now 0 c.loop-load.load-index _ c.requires c.loop-load-test.true)
