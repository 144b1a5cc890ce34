use Prim.Native.Nat.{◌≤◌, ◌<◌}
use lib.ListN.{length, length-set}
use borrow.Author.Tests.{le-leb, lt-leb}
use Rattle.model.proofs.Lists.{put-cons, put-nil}
use Rattle.hostiledisk.specs.Calls.{shown}
use Rattle.hostiledisk.proofs.status.show.Goals as goal

pub returns-then-out-ge10 : goal.returns-then-out-ge10
unfolding shown
returns-then-out-ge10 c = let h : 10 ≤ length c.args.out.now = simp length-set at c.if-out-ge10.true in rw (le-leb 10 _ h) (simp (put-cons, put-nil))

pub returns-else-out-ge10 : goal.returns-else-out-ge10
unfolding shown
returns-else-out-ge10 c = let h : length c.args.out.now < 10 = simp length-set at c.if-out-ge10.false in rw (lt-leb 10 _ h) (simp (put-cons, put-nil))
