use Rattle.driver.specs.Lay.{separate}
use mathlib.Core.Path.{◌≡◌}
use Prim.Native.Nat.{◌-◌}
use Rattle.model.specs.Step.{spans}
use Rattle.driver.proofs.form.separate.Given as goal

abbrev pub invariant-loop-i : goal.invariant-loop-i
invariant-loop-i l = separate (spans l.end 0 l.spots) ≡ separate (spans (l.end - l.i) l.i l.spots)
