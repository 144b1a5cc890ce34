use native.Mathlib.Omega.{arith}
use mathlib.Core.Path.{sym, ◌∙◌}
use Rattle.model.specs.Step.{code_after}
use Rattle.model.proofs.Sane.{payload-ok}
use Rattle.device.proofs.Laws.{met-paid, payload-fit}
use Rattle.hostiledisk.proofs.Phases.{held-payload, ready-payload, chain-long, fit-held, insane, unready, acted}
use Rattle.hostiledisk.proofs.arms.payload.Goals as goal

pub payload_ready-requires : goal.payload_ready-requires
payload_ready-requires c = let h = payload-ok _ _ _ _ _ _ (sym c.payload_sane.ensures ∙ c.if-not-payload_sane.false) in omega (arith, h, (chain-long _ _ _ _ _ _ (held-payload _ _ _ _ _ c.requires _ _ c.walk-k.ensures c.place-at.ensures)).1)

pub payload-p-requires : goal.payload-p-requires
payload-p-requires c = rw c.disk.ensures (payload-fit _ _ _ _ _ _ _ _ _ _ _ _ (fit-held _ _ _ _ _ _ (held-payload _ _ _ _ _ c.requires _ _ c.walk-k.ensures c.place-at.ensures) (sym c.payload_sane.ensures ∙ c.if-not-payload_sane.false) (ready-payload _ _ _ _ _ _ (sym c.payload_ready.ensures ∙ c.if-not-payload_ready.false))))

pub save_payload-requires : goal.save_payload-requires
save_payload-requires c = c.requires.words_long

pub returns-in-Payload : goal.returns-in-Payload
unfolding code_after
returns-in-Payload c = let g = c.in-Payload.is in acted _ _ _ _ _ _ (held-payload _ _ _ _ _ c.requires _ _ c.walk-k.ensures c.place-at.ensures) (sym c.payload_sane.ensures ∙ c.if-not-payload_sane.false) (ready-payload _ _ _ _ _ _ (sym c.payload_ready.ensures ∙ c.if-not-payload_ready.false)) _ _ _ _ _ _ _ _ _ _ (met-paid _ _ _ _ _ _ _ _ _ _ _ _ _ _ _ c.payload-p.ensures.value c.payload-p.ensures.stage_after (rw c.disk.ensures at c.payload-p.ensures.backing_after)) (rw g c.save_payload.ensures) _ (rw g)

pub finish-requires : goal.finish-requires
finish-requires c = c.requires.words_long

pub returns : goal.returns
returns c = acted _ _ _ _ _ _ (held-payload _ _ _ _ _ c.requires _ _ c.walk-k.ensures c.place-at.ensures) (sym c.payload_sane.ensures ∙ c.if-not-payload_sane.false) (ready-payload _ _ _ _ _ _ (sym c.payload_ready.ensures ∙ c.if-not-payload_ready.false)) _ _ _ _ _ _ _ _ _ _ (met-paid _ _ _ _ _ _ _ _ _ _ _ _ _ _ _ c.payload-p.ensures.value c.payload-p.ensures.stage_after (rw c.disk.ensures at c.payload-p.ensures.backing_after)) c.finish.ensures.state_after _ c.finish.ensures.value

pub returns-then-not-payload_ready : goal.returns-then-not-payload_ready
returns-then-not-payload_ready c = unready _ _ _ _ _ _ (held-payload _ _ _ _ _ c.requires _ _ c.walk-k.ensures c.place-at.ensures) (sym c.payload_sane.ensures ∙ c.if-not-payload_sane.false) (ready-payload _ _ _ _ _ _ (sym c.payload_ready.ensures ∙ c.if-not-payload_ready.true))

pub returns-then-not-payload_sane : goal.returns-then-not-payload_sane
returns-then-not-payload_sane c = insane _ _ _ _ _ _ (held-payload _ _ _ _ _ c.requires _ _ c.walk-k.ensures c.place-at.ensures) (sym c.payload_sane.ensures ∙ c.if-not-payload_sane.true)
