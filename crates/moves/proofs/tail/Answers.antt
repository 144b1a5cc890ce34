use native.Mathlib.Omega.{arith}
use native.Mathlib.Numerals.{add-one}
use Rattle.model.proofs.Lists.{put-nil, put_copy, part-zero}
use Rattle.moves.proofs.tail.Goals as goal

pub loop-i-init : goal.loop-i-init
loop-i-init c = simp (part-zero, put-nil)

pub loop-i-preserved : goal.loop-i-preserved
loop-i-preserved c = let a = c.args in rw (c.loop-i.invariant, add-one) (put_copy a.dst.now a.to a.src.now a.from c.loop-i.i (omega arith))
