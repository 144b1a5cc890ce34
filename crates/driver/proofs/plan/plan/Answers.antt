use mathlib.Core.Path.{refl, sym, ◌∙◌}
use native.Mathlib.Omega.{arith}
use Rattle.driver.specs.Lay.{plan, spots_of}
use Rattle.driver.proofs.Laws.{ready-ok, counts-ok}
use Rattle.driver.proofs.plan.plan.Goals as goal

pub returns-then-not-ready : goal.returns-then-not-ready
unfolding plan
returns-then-not-ready c = rw (← c.ready.ensures, c.if-not-ready.true) (record { answer-is = refl; spots-are = refl; nums-are = refl })

pub counts_ok-requires : goal.counts_ok-requires
counts_ok-requires c = (ready-ok _ _ _ _ (sym c.ready.ensures ∙ c.if-not-ready.false)).small

pub returns-then-not-counts_ok : goal.returns-then-not-counts_ok
unfolding plan
returns-then-not-counts_ok c = rw (← c.ready.ensures, c.if-not-ready.false, ← c.counts_ok.ensures, c.if-not-counts_ok.true) (record { answer-is = refl; spots-are = refl; nums-are = refl })

pub invariant_of-map : goal.invariant_of-map
invariant_of-map c = record { sound = (ready-ok _ _ _ _ (sym c.ready.ensures ∙ c.if-not-ready.false)).map-sound }

pub settle-requires : goal.settle-requires
settle-requires c = let r = ready-ok _ _ _ _ (sym c.ready.ensures ∙ c.if-not-ready.false) in let k = counts-ok _ _ _ _ _ (sym c.counts_ok.ensures ∙ c.if-not-counts_ok.false) in record { e_in_bounds = omega (arith, k.even); e_in_bounds_2 = omega (arith, k.spots-long) }

pub returns-then-not-settle : goal.returns-then-not-settle
unfolding plan
returns-then-not-settle c = rw (← c.ready.ensures, c.if-not-ready.false, ← c.counts_ok.ensures, c.if-not-counts_ok.false, ← c.settle.ensures.value, c.if-not-settle.true) (record { answer-is = refl; spots-are = c.settle.ensures.spots_after; nums-are = refl })

pub note_areas-requires : goal.note_areas-requires
note_areas-requires c = let r = ready-ok _ _ _ _ (sym c.ready.ensures ∙ c.if-not-ready.false) in let k = counts-ok _ _ _ _ _ (sym c.counts_ok.ensures ∙ c.if-not-counts_ok.false) in record { size_le_size_max = r.small; e_le_size_max = omega (arith, r.small, k.few); e_in_bounds = omega (arith, k.spots-long, c.settle.auto.spots) }

pub plan_on-requires : goal.plan_on-requires
plan_on-requires c = let r = ready-ok _ _ _ _ (sym c.ready.ensures ∙ c.if-not-ready.false) in let k = counts-ok _ _ _ _ _ (sym c.counts_ok.ensures ∙ c.if-not-counts_ok.false) in record { q_in_bounds = r.own-long; reads_le_e = k.reads_in; e_in_bounds = omega (arith, k.spots-long, c.settle.auto.spots, c.note_areas.auto.spots); e_in_bounds_2 = k.nums-long }

pub returns : goal.returns
unfolding plan spots_of
returns c = rw (← c.ready.ensures, c.if-not-ready.false, ← c.counts_ok.ensures, c.if-not-counts_ok.false, ← c.settle.ensures.value, c.if-not-settle.false, ← c.settle.ensures.spots_after, ← c.note_areas.ensures) c.plan_on.ensures
