use mathlib.Core.Path.{◌≡◌}
use lib.ListN.{length}
use native.Mathlib.Omega.{arith}
use Rattle.model.proofs.Lists.{part-all}
use Rattle.regions.proofs.keep.Goals as goal

pub returns : goal.returns
returns c = let e : c.loop-j.j ≡ length c.args.words.now = omega arith in rw (part-all) at (rw e at c.loop-j.invariant)
