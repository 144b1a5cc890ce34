use mathlib.Core.Path.{◌≡◌}
use Prim.Native.Nat.{◌≤◌, ◌-◌}
use lib.ListN.{length, take}
use Rattle.model.specs.Bytes.{put}
use Rattle.model.specs.Step.{spans}
use Rattle.model.specs.Sane.{all_inside}
use mathlib.Core.Bool.{true}
use Rattle.requests.specs.Serve.{gather}
use Rattle.driver.proofs.reading.collect.Given as goal

abbrev pub invariant-loop-i : goal.invariant-loop-i
invariant-loop-i l = (l.pos ≤ length l.initial.out) × (length l.out ≡ length l.initial.out) × (all_inside (length l.mem) (spans (l.end - l.i) l.i l.spots) ≡ true) × (put l.initial.out 0 (take (length l.initial.out) (gather l.mem (spans (l.end - l.first) l.first l.spots))) ≡ put l.out l.pos (take (length l.initial.out - l.pos) (gather l.mem (spans (l.end - l.i) l.i l.spots))))
