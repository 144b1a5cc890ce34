use native.Mathlib.Omega.{arith}
use Rattle.model.proofs.Lists.{put-nil, part-zero}
use Rattle.moves.proofs.Laws.{put-eight}
use Rattle.moves.proofs.eights.Goals as goal

pub loop-k-init : goal.loop-k-init
loop-k-init c = simp (part-zero, put-nil)

pub loop-k-preserved : goal.loop-k-preserved
loop-k-preserved c = let a = c.args in
    rw (c.put.ensures, c.get-v.ensures.value, c.loop-k.invariant)
    (put-eight a.dst.now a.to a.src.now a.from c.loop-k.k (λ j. (c.type_inv.src j).fits) (omega arith))
