use mathlib.Core.Path.{◌≡◌}
use Rattle.driver.specs.Take.{released}
use Prim.Native.Nat.{◌≤◌}
use lib.ListN.{length}
use Rattle.driver.proofs.reading.release.Given as goal

abbrev pub invariant-loop-i : goal.invariant-loop-i
invariant-loop-i l = (l.i ≤ l.q) × (length l.own ≡ length l.initial.own) × (l.own ≡ released l.i l.v l.initial.own)
