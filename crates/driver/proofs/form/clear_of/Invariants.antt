use Rattle.driver.specs.Lay.{span, clear_of}
use mathlib.Core.Path.{◌≡◌}
use Prim.Native.Nat.{◌-◌}
use Rattle.model.specs.Step.{spans}
use Rattle.driver.proofs.form.clear_of.Given as goal

abbrev pub invariant-loop-i : goal.invariant-loop-i
invariant-loop-i l = clear_of (span l.at l.len) (spans (l.end - l.first) l.first l.spots) ≡ clear_of (span l.at l.len) (spans (l.end - l.i) l.i l.spots)
