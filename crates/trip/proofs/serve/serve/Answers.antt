use Rattle.trip.proofs.Turns.{stops}
use Rattle.trip.proofs.serve.serve.Goals as goal

pub returns-then-code-ne1 : goal.returns-then-code-ne1
returns-then-code-ne1 c = rw c.loop.invariant (stops _ _ _ _ _ _ _ _ _ _ _ _ _ c.loop-test.true c.hd_step-code.ensures c.if-code-ne1.true)
