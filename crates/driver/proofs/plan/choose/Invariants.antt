use mathlib.Core.Path.{◌≡◌}
use Rattle.driver.specs.Lay.{free}
use Prim.Native.Nat.{◌≤◌, min}
use lib.ListN.{length, take}
use Rattle.model.specs.Bytes.{put}
use Rattle.driver.proofs.plan.choose.Given as goal

abbrev pub invariant-loop-i : goal.invariant-loop-i
invariant-loop-i l = (l.i ≤ l.q) × (l.k ≡ min l.n (length (free l.i l.own))) × (length l.nums ≡ length l.initial.nums) × (l.nums ≡ put l.initial.nums 0 (take l.n (free l.i l.own)))
