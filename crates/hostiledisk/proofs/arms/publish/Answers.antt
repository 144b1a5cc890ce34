use native.Mathlib.Omega.{arith}
use mathlib.Core.Path.{refl, sym, ◌∙◌}
use Rattle.words.proofs.Laws.{framed-queue}
use Rattle.model.specs.Sane.{ready}
use Rattle.device.proofs.Laws.{met-publish}
use Rattle.hostiledisk.proofs.Phases.{held-publish, sane-publish, fit-held, insane, acted}
use Rattle.hostiledisk.proofs.arms.publish.Goals as goal

pub publish-requires : goal.publish-requires
unfolding ready
publish-requires c = let f = fit-held _ _ _ _ c.args.chain.now _ (held-publish _ _ _ _ _ c.requires _ c.walk-k.ensures) (sane-publish _ _ _ _ (sym c.publish_sane.ensures ∙ c.if-not-publish_sane.false)) refl in rw c.queue.ensures (omega (arith, f))

pub one_more-requires : goal.one_more-requires
one_more-requires c = (framed-queue _ c.requires.frame).taken-low

pub one_more-requires-2 : goal.one_more-requires-2
one_more-requires-2 c = (framed-queue _ c.requires.frame).answered-low

pub returns : goal.returns
unfolding ready
returns c = acted _ _ _ _ _ _ (held-publish _ _ _ _ _ c.requires _ c.walk-k.ensures) (sane-publish _ _ _ _ (sym c.publish_sane.ensures ∙ c.if-not-publish_sane.false)) refl _ _ _ _ _ _ _ _ _ _ (met-publish _ _ _ _ _ _ _ _ _ _ _ _ _ c.one_more.ensures c.one_more-2.ensures (rw c.queue.ensures at c.publish.ensures)) c.save.ensures _ refl

pub returns-then-not-publish_sane : goal.returns-then-not-publish_sane
returns-then-not-publish_sane c = insane _ _ _ _ _ _ (held-publish _ _ _ _ _ c.requires _ c.walk-k.ensures) (sane-publish _ _ _ _ (sym c.publish_sane.ensures ∙ c.if-not-publish_sane.true))
