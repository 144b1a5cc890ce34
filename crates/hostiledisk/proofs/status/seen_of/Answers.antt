use native.Mathlib.Omega.{arith}
use Rattle.model.proofs.Sane.{payload-ok}
use Rattle.hostiledisk.proofs.status.seen_of.Goals as goal

pub overflow_add-got : goal.overflow_add-got
overflow_add-got c = let h = payload-ok _ _ _ _ _ _ (rw c.in-Payload.is at c.requires) in omega (arith, h.got_in, h.fit.short)
