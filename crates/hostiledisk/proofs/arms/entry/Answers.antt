use native.Mathlib.Omega.{arith}
use mathlib.Core.Path.{refl}
use Rattle.model.specs.Sane.{sane, ready}
use Rattle.model.specs.Step.{code_after}
use Rattle.device.proofs.Laws.{met-entry}
use Rattle.hostiledisk.proofs.Phases.{held-entry, fit-held, acted}
use Rattle.hostiledisk.proofs.arms.entry.Goals as goal

pub entry-p-requires : goal.entry-p-requires
unfolding sane ready
entry-p-requires c = let f = fit-held _ _ _ _ c.args.chain.now _ (held-entry _ _ _ _ _ c.requires) refl refl in rw c.queue.ensures (omega (arith, f))

pub save_chain-requires : goal.save_chain-requires
save_chain-requires c = c.requires.words_long

pub returns-in-Chain : goal.returns-in-Chain
unfolding sane ready code_after
returns-in-Chain c = let g = c.in-Chain.is in acted _ _ _ _ _ _ (held-entry _ _ _ _ _ c.requires) refl refl _ _ _ _ _ _ _ _ _ _ (met-entry _ _ _ _ _ _ _ _ _ (rw c.queue.ensures at c.entry-p.ensures)) (rw g c.save_chain.ensures) _ (rw g)

pub returns : goal.returns
unfolding sane ready
returns c = acted _ _ _ _ _ _ (held-entry _ _ _ _ _ c.requires) refl refl _ _ _ _ _ _ _ _ _ _ (met-entry _ _ _ _ _ _ _ _ _ (rw c.queue.ensures at c.entry-p.ensures)) c.finish.ensures.state_after _ c.finish.ensures.value
