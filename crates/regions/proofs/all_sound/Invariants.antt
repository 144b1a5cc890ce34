use Prim.Native.Nat.{◌*◌}
use mathlib.Core.Path.{◌≡◌}
use lib.ListN.{drop}
use Rattle.model.specs.Memory.{regions, sound}
use Rattle.regions.proofs.all_sound.Given as goal

abbrev pub invariant-loop-i : goal.invariant-loop-i
invariant-loop-i l = sound l.m (regions l.map) ≡ sound l.m (regions (drop (3 * l.i) l.map))
