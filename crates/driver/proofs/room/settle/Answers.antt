use Rattle.driver.specs.Lay.{is_at, place_of}
use mathlib.Core.Path.{◌≡◌, refl, sym, ◌∙◌}
use native.Mathlib.Omega.{arith}
use Prim.Native.Nat.{◌-◌}
use Rattle.model.specs.Chain.{held}
use Rattle.driver.proofs.Laws.{in-turn, in_end, settled-turn, settled-end}
use Rattle.driver.proofs.room.settle.Goals as goal

-- src/room.rt:70:5
pub loop-i-init : goal.loop-i-init
loop-i-init c = let z : c.args.e - 0 ≡ c.args.e = omega arith in (refl, rw z refl, rw z refl)

-- src/room.rt:74:13
pub returns-in_default : goal.returns-in_default
unfolding is_at
returns-in_default c = let f = sym c.spot_of-found.ensures ∙ c.in_default.is in let t = c.loop-i-test.true in record { value = sym (c.loop-i.invariant.1 ∙ rw (in-turn _ _ _ _ t, f)); spots_after = sym (c.loop-i.invariant.2 ∙ rw (settled-turn _ _ _ _ _ t, f)) }

-- src/room.rt:70:5
pub loop-i-preserved : goal.loop-i-preserved
unfolding is_at place_of held
loop-i-preserved c = let f = sym c.spot_of-found.ensures ∙ c.in-Some.is in let t = c.loop-i-test.true in (omega (arith, c.hold.auto.chain, c.loop-i.invariant.0), c.loop-i.invariant.1 ∙ rw (in-turn _ _ _ _ t, f), c.loop-i.invariant.2 ∙ rw (settled-turn _ _ _ _ _ t, f, c.hold.ensures))

-- src/room.rt:62:1
pub returns-clause-value : goal.returns-clause-value
returns-clause-value c = sym (c.loop-i.invariant.1 ∙ in_end _ _ _ _ c.loop-i-test.false)

pub returns-clause-spots_after : goal.returns-clause-spots_after
returns-clause-spots_after c = sym (c.loop-i.invariant.2 ∙ settled-end _ _ _ _ _ c.loop-i-test.false)
