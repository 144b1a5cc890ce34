use Prim.Native.Nat.{◌-◌}
use mathlib.Core.Path.{◌≡◌}
use Rattle.hostiledisk.specs.Calls.{untouched}
use Rattle.trip.specs.Until.{until}
use Rattle.trip.proofs.serve.serve.Given as goal

abbrev pub invariant-loop : goal.invariant-loop
invariant-loop l = until l.n (untouched 1 l.initial.state l.initial.mem l.initial.backing l.initial.chain l.initial.stage) ≡ until (l.n - l.counter) (untouched 1 l.state l.mem l.backing l.chain l.stage)
