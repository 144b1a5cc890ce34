use native.Mathlib.Omega.{arith}
use native.Mathlib.Nat.{mod-lt}
use Rattle.model.specs.Bytes.{bytes}
use Rattle.model.proofs.Lists.{put-put}
use Rattle.ring.proofs.used_entry.Goals as goal

pub overflow_mul-at : goal.overflow_mul-at
overflow_mul-at c = omega (arith, mod-lt c.args.answered c.requires.le_size)

pub overflow_add-at : goal.overflow_add-at
overflow_add-at c = omega (arith, mod-lt c.args.answered c.requires.le_size)

pub overflow_add-at-2 : goal.overflow_add-at-2
overflow_add-at-2 c = omega (arith, mod-lt c.args.answered c.requires.le_size)

pub put-requires-clause-in_bounds : goal.put-requires-clause-in_bounds
put-requires-clause-in_bounds c = omega (arith, mod-lt c.args.answered c.requires.le_size)

pub overflow_add-at-3 : goal.overflow_add-at-3
overflow_add-at-3 c = omega (arith, mod-lt c.args.answered c.requires.le_size)

pub put-requires-2-clause-in_bounds : goal.put-requires-2-clause-in_bounds
put-requires-2-clause-in_bounds c = rw c.put.auto.m (omega (arith, mod-lt c.args.answered c.requires.le_size, c.requires.size_in_bounds))

pub returns : goal.returns
unfolding bytes
returns c = rw (c.put-2.ensures, c.put.ensures) (put-put _ _ (bytes 4 _) _)
