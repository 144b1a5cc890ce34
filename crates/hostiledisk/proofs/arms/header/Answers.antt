use native.Mathlib.Omega.{arith}
use mathlib.Core.Path.{sym, ◌∙◌}
use Rattle.model.proofs.Sane.{header_ok}
use Rattle.device.proofs.Laws.{met-header, header-fit}
use Rattle.hostiledisk.proofs.Phases.{held-header, sane-header, ready-header, chain-long, fit-held, insane, unready, acted}
use Rattle.hostiledisk.proofs.arms.header.Goals as goal

pub place_ok-requires : goal.place_ok-requires
place_ok-requires c = let h = header_ok _ _ _ _ _ (sym c.header_sane.ensures ∙ c.if-not-header_sane.false) in omega (arith, h, (chain-long _ _ _ _ _ _ (held-header _ _ _ _ _ c.requires _ _ c.walk-k.ensures c.place-at.ensures)).1)

pub header-p-requires : goal.header-p-requires
header-p-requires c = header-fit _ _ _ _ _ _ _ _ _ _ _ (fit-held _ _ _ _ _ _ (held-header _ _ _ _ _ c.requires _ _ c.walk-k.ensures c.place-at.ensures) (sane-header _ _ _ _ _ (sym c.header_sane.ensures ∙ c.if-not-header_sane.false)) (ready-header _ _ _ _ _ (sym c.place_ok.ensures ∙ c.if-not-place_ok.false)))

pub finish-requires : goal.finish-requires
finish-requires c = c.requires.words_long

pub returns : goal.returns
returns c = acted _ _ _ _ _ _ (held-header _ _ _ _ _ c.requires _ _ c.walk-k.ensures c.place-at.ensures) (sane-header _ _ _ _ _ (sym c.header_sane.ensures ∙ c.if-not-header_sane.false)) (ready-header _ _ _ _ _ (sym c.place_ok.ensures ∙ c.if-not-place_ok.false)) _ _ _ _ _ _ _ _ _ _ (met-header _ _ _ _ _ _ _ _ _ _ _ _ _ c.header-p.ensures.stage_after (rw c.disk.ensures at c.header-p.ensures.value)) c.finish.ensures.state_after _ c.finish.ensures.value

pub returns-then-not-place_ok : goal.returns-then-not-place_ok
returns-then-not-place_ok c = unready _ _ _ _ _ _ (held-header _ _ _ _ _ c.requires _ _ c.walk-k.ensures c.place-at.ensures) (sane-header _ _ _ _ _ (sym c.header_sane.ensures ∙ c.if-not-header_sane.false)) (ready-header _ _ _ _ _ (sym c.place_ok.ensures ∙ c.if-not-place_ok.true))

pub returns-then-not-header_sane : goal.returns-then-not-header_sane
returns-then-not-header_sane c = insane _ _ _ _ _ _ (held-header _ _ _ _ _ c.requires _ _ c.walk-k.ensures c.place-at.ensures) (sane-header _ _ _ _ _ (sym c.header_sane.ensures ∙ c.if-not-header_sane.true))
