use mathlib.Core.Path.{◌≡◌}
use Rattle.model.specs.Bytes.{put, part}
use Rattle.moves.proofs.tail.Given as goal

-- After i turns the first i bytes of the source's part stand in the destination's.
abbrev pub invariant-loop-i : goal.invariant-loop-i
invariant-loop-i l = l.dst ≡ put l.initial.dst l.to (part l.from l.i l.src)
