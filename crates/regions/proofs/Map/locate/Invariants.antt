use Prim.Native.Nat.{◌*◌}
use mathlib.Core.Path.{◌≡◌}
use mathlib.Core.Bool.{true}
use lib.ListN.{drop}
use Rattle.model.specs.Memory.{regions, sound, locate}
use Rattle.regions.proofs.Map.locate.Given as goal

abbrev pub invariant-loop-i : goal.invariant-loop-i
invariant-loop-i l =
    (locate (regions l.self.words.now) l.a l.n ≡ locate (regions (drop (3 * l.i) l.self.words.now)) l.a l.n) × (sound l.self.len (regions (drop (3 * l.i) l.self.words.now)) ≡ true)
