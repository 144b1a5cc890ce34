use mathlib.Core.Path.{◌≡◌}
use Rattle.driver.specs.Lay.{marked}
use Prim.Native.Nat.{◌-◌}
use lib.ListN.{length}
use Rattle.model.specs.Bytes.{part}
use Rattle.driver.proofs.writes.mark.Given as goal

abbrev pub invariant-loop-i : goal.invariant-loop-i
invariant-loop-i l = (length l.own ≡ length l.initial.own) × (marked (part 0 l.e l.nums) l.v l.initial.own ≡ marked (part l.i (l.e - l.i) l.nums) l.v l.own)
