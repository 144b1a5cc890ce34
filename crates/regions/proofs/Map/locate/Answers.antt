use mathlib.Core.Path.{sym, ◌∙◌}
use native.Mathlib.Omega.{arith}
use Rattle.model.specs.Memory.{region}
use Rattle.model.proofs.Memory.{locate-hit, locate-miss, locate-none, locate-empty, sound-turn, region-sound, contains-within}
use Rattle.regions.proofs.Map.locate.Goals as goal

pub returns-then-n-lt1 : goal.returns-then-n-lt1
returns-then-n-lt1 c = sym (locate-empty _ _ _ c.if-n-lt1.true)

pub overflow_sub-result : goal.overflow_sub-result
overflow_sub-result c = (contains-within (region _ _ 0) _ _ (sym c.holds.ensures ∙ c.if-holds.true)).from

pub overflow_add-result-then-holds : goal.overflow_add-result-then-holds
overflow_add-result-then-holds c = let s = region-sound _ _ (sound-turn _ _ _ c.loop-i-test.true c.loop-i.invariant.1).0 in let w = contains-within (region _ _ 0) _ _ (sym c.holds.ensures ∙ c.if-holds.true) in omega (arith, s.inside, w.to, w.some)

pub returns-then-holds : goal.returns-then-holds
returns-then-holds c = sym (c.loop-i.invariant.0 ∙ locate-hit _ _ _ _ c.loop-i-test.true (sym c.holds.ensures ∙ c.if-holds.true))

pub loop-i-preserved : goal.loop-i-preserved
loop-i-preserved c = (c.loop-i.invariant.0 ∙ locate-miss _ _ _ _ c.loop-i-test.true (sym c.holds.ensures ∙ c.if-holds.false), (sound-turn _ _ _ c.loop-i-test.true c.loop-i.invariant.1).1)

pub returns : goal.returns
returns c = sym (c.loop-i.invariant.0 ∙ locate-none _ _ _ _ c.loop-i-test.false)
