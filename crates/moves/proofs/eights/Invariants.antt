use Prim.Native.Nat.{◌*◌}
use mathlib.Core.Path.{◌≡◌}
use Rattle.model.specs.Bytes.{put, part}
use Rattle.moves.proofs.eights.Given as goal

-- After k turns the first k eights of the source's part stand in the destination's.
abbrev pub invariant-loop-k : goal.invariant-loop-k
invariant-loop-k l = l.dst ≡ put l.initial.dst l.to (part l.from (8 * l.k) l.src)
