use mathlib.Core.Path.{refl, sym, ◌∙◌}
use native.Mathlib.Omega.{arith}
use Rattle.driver.proofs.Laws.{choose-start, choose-turn}
use native.Mathlib.Numerals.{add-one}
use Rattle.driver.proofs.plan.choose.Goals as goal

-- src/plan.rt:40:5
pub loop-i-init : goal.loop-i-init
loop-i-init c = let t = choose-start c.args.own.now c.args.nums.now c.args.n in (omega arith, t.0, refl, t.1)

-- src/plan.rt:40:5
pub loop-i-preserved : goal.loop-i-preserved
loop-i-preserved c = let t = choose-turn c.args.own.now c.args.nums.now c.loop-i.i c.args.n c.loop-i.k (omega arith) c.loop-i.invariant.1 in (omega arith, rw add-one (c.note-k.ensures.value ∙ sym t.0), omega (arith, c.note-k.auto.nums, c.loop-i.invariant.2), rw add-one (rw (c.note-k.ensures.nums_after, c.loop-i.invariant.3) (sym t.1)))
