use mathlib.Core.Path.{refl}
use Rattle.std.proofs.lemmas.Result.{err_from_is_err_and}
use Rattle.driver.specs.Lay.{lay, lay_with}
use native.Mathlib.Omega.{arith}
use Rattle.driver.proofs.Fits.{laid-fits, fit-notes, fit-writes, one-more-mod}
use Rattle.driver.proofs.laying.lay.Goals as goal

pub returns-in_err-plan : goal.returns-in_err-plan
unfolding lay lay_with
returns-in_err-plan c = let p = c.in_err-plan.ensures in let r = err_from_is_err_and c.from_residual.result c.from_residual.ensures.1 in rw (r.1, r.2, ← p.answer-is) (record { answer-is = refl; mem_is = refl; own_is = refl; message-is = refl; spots-are = p.spots-are; nums-are = p.nums-are })

pub note-requires : goal.note-requires
note-requires c =
    let f = fit-notes _ _ _ _ _ _ _ _ _ _ _ (laid-fits _ _ _ _ _ _ _ _ _ _ _ _ c.in_ok-plan.ensures) in
    record { in_bounds = f.0; le_e = f.1.0; e_in_bounds = f.1.1.0; numbers = f.1.1.1 }

pub write-requires : goal.write-requires
write-requires c = fit-writes _ _ _ _ _ _ _ _ _ _ _ (laid-fits _ _ _ _ _ _ _ _ _ _ _ _ c.in_ok-plan.ensures)

pub bounds-nums-0 : goal.bounds-nums-0
bounds-nums-0 c = let f = fit-notes _ _ _ _ _ _ _ _ _ _ _ (laid-fits _ _ _ _ _ _ _ _ _ _ _ _ c.in_ok-plan.ensures) in omega (arith, f.1.0, f.1.1.0)

pub returns : goal.returns
unfolding lay lay_with
returns c = let p = c.in_ok-plan.ensures in rw (← p.answer-is, ← p.spots-are, ← p.nums-are) (record { answer-is = rw (c.one_more.ensures, one-more-mod) refl; mem_is = rw (← c.note.ensures.message_after) c.write.ensures; own_is = c.note.ensures.own_after; message-is = c.note.ensures.message_after; spots-are = refl; nums-are = refl })
