use mathlib.Core.Path.{sym}
use Rattle.trip.proofs.Laid.{laid-publishes}
use Rattle.trip.proofs.exchange.send.Goals as goal

pub returns-in_err-publish : goal.returns-in_err-publish
returns-in_err-publish c = let p = c.in_ok-laid.ensures in let t = laid-publishes _ _ _ _ _ _ _ _ _ _ _ _ (sym p.answer-is) in let e = c.in_err-publish.ensures.value in absurd (cc (t, e, c.lay.auto.mem))
