use Rattle.std.proofs.Common.{arith}
use Rattle.gen_image.proofs.TableLemmas.{no_leaves-pushed, leaf-pushed, end-pushed}
use Rattle.gen_image.proofs.tables.push_leaves.Goals as goal

pub loop-page-init : goal.loop-page-init
loop-page-init c = no_leaves-pushed c.args.from c.args.out.now.items

pub loop-page-preserved : goal.loop-page-preserved
loop-page-preserved c =
    leaf-pushed c.args.from c.loop-page.page c.args.out.now.items c.loop-page.out.items c.push_doubleword.new.out.items c.loop-page.invariant c.in_ok-push_doubleword.ensures

pub returns : goal.returns
returns c =
    end-pushed c.args.from c.loop-page.page c.args.out.now.items c.loop-page.out.items c.push_empty.new.out.items (omega arith) c.loop-page.invariant c.in_ok-push_empty.ensures
