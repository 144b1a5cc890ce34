use mathlib.Core.Path.{◌≡◌}
use Rattle.model.specs.Bytes.{put, part}
use Rattle.regions.proofs.keep.Given as goal

-- After j turns the first j words stand in place.
abbrev pub invariant-loop-j : goal.invariant-loop-j
invariant-loop-j l = l.held ≡ put l.initial.held l.at (part 0 l.j l.words)
