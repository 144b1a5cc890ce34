use Rattle.driver.specs.Lay.{in_memory, settled}
use mathlib.Core.Path.{◌≡◌}
use Prim.Native.Nat.{◌-◌}
use Rattle.model.specs.Memory.{regions}
use lib.ListN.{length}
use Rattle.driver.proofs.room.settle.Given as goal

abbrev pub invariant-loop-i : goal.invariant-loop-i
invariant-loop-i l = (length l.spots ≡ length l.initial.spots) × (in_memory (regions l.map.words.now) l.bufs l.e 0 ≡ in_memory (regions l.map.words.now) l.bufs (l.e - l.i) l.i) × (settled (regions l.map.words.now) l.bufs l.e 0 l.initial.spots ≡ settled (regions l.map.words.now) l.bufs (l.e - l.i) l.i l.spots)
