use native.Mathlib.Omega.{arith}
use native.Mathlib.Nat.{mod-lt}
use Rattle.ring.proofs.avail_entry.Goals as goal

pub overflow_mul-taken : goal.overflow_mul-taken
overflow_mul-taken c = omega (arith, mod-lt c.args.taken c.requires.le_q)

pub overflow_add-taken : goal.overflow_add-taken
overflow_add-taken c = omega (arith, mod-lt c.args.taken c.requires.le_q)

pub overflow_add-avail : goal.overflow_add-avail
overflow_add-avail c = omega (arith, mod-lt c.args.taken c.requires.le_q)

pub get-requires-clause-in_bounds : goal.get-requires-clause-in_bounds
get-requires-clause-in_bounds c = omega (arith, mod-lt c.args.taken c.requires.le_q)
