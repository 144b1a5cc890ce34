use mathlib.Core.Path.{◌≡◌}
use Prim.Native.Nat.{◌≤◌, ◌+◌, ◌-◌}
use Rattle.model.specs.Step.{spans}
use Rattle.requests.specs.Serve.{total}
use Rattle.driver.proofs.form.measure.Given as goal

abbrev pub invariant-loop-i : goal.invariant-loop-i
invariant-loop-i l = (l.left ≤ 2097152) × (total (spans (l.end - l.first) l.first l.spots) + l.left ≡ 2097152 + total (spans (l.end - l.i) l.i l.spots))
