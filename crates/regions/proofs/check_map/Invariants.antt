use Prim.Native.Nat.{◌*◌}
use mathlib.Core.Path.{◌≡◌}
use Rattle.model.specs.Memory.{memory_code}
use Rattle.model.proofs.Memory.{code_from}
use Rattle.regions.proofs.check_map.Given as goal

-- The regions before i are seen and the others to come: `code_from` at their words is the answer, and a refusal of the region at i is it.
abbrev pub invariant-loop-i : goal.invariant-loop-i
invariant-loop-i l = memory_code l.m l.map ≡ code_from l.m l.map (3 * l.i)
