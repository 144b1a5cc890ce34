use Prim.Native.Nat.{◌*◌}
use mathlib.Core.Path.{◌≡◌}
use lib.ListN.{drop}
use Rattle.model.specs.Memory.{regions, clash}
use Rattle.regions.proofs.clashes.Given as goal

-- The rest of the words has the whole list's answer: a region that overlaps ends the loop, the others are passed over.
abbrev pub invariant-loop-i : goal.invariant-loop-i
invariant-loop-i l = clash (regions l.seen) l.g l.l ≡ clash (regions (drop (3 * l.i) l.seen)) l.g l.l
