use mathlib.Core.Path.{◌≡◌}
use Prim.Native.Nat.{◌-◌}
use lib.ListN.{length}
use Rattle.model.specs.Step.{apply}
use Rattle.driver.specs.Lay.{links}
use Rattle.driver.proofs.writes.chain_up.Given as goal

abbrev pub invariant-loop-i : goal.invariant-loop-i
invariant-loop-i l = (length l.mem ≡ length l.initial.mem) × (apply (links l.bufs l.nums l.desc l.reads l.e l.e 0) l.initial.mem ≡ apply (links l.bufs l.nums l.desc l.reads l.e (l.e - l.i) l.i) l.mem)
