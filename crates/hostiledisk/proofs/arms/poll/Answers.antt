use native.Mathlib.Omega.{arith}
use mathlib.Core.Path.{refl}
use Rattle.model.specs.Sane.{sane, ready}
use Rattle.device.proofs.Laws.{met-poll}
use Rattle.hostiledisk.proofs.Phases.{held-poll, fit-held, acted}
use Rattle.hostiledisk.proofs.arms.poll.Goals as goal

pub poll-p-requires : goal.poll-p-requires
unfolding sane ready
poll-p-requires c = let f = fit-held _ _ _ _ c.args.chain.now _ (held-poll _ _ _ _ _ c.requires) refl refl in rw c.queue.ensures (omega (arith, f))

pub returns : goal.returns
unfolding sane ready
returns c = acted _ _ _ _ _ _ (held-poll _ _ _ _ _ c.requires) refl refl _ _ _ _ _ _ _ _ _ _ (met-poll _ _ _ _ _ _ _ _ _ (rw c.queue.ensures at c.poll-p.ensures)) c.finish.ensures.state_after _ c.finish.ensures.value
