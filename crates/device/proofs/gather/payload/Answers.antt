use Rattle.std.proofs.Common.{◌≡◌, ◌+◌, ℕ, refl}
use borrow.Author.Tests.{ne_eqb, eq-eqb}
use Rattle.model.specs.Step.{paid, ends, onward}
use Rattle.model.specs.declared.Place.{Place}
use Rattle.device.proofs.gather.payload.Goals as goal

-- All that is left of a buffer, and so on to the next.
onward-all : (p : Place) (l : ℕ) → onward p l l ≡ record { buf = p.buf + 1; skip = 0 }
unfolding onward
onward-all p l = rw (eq-eqb l l refl)

pub returns-then-got-b : goal.returns-then-got-b
unfolding paid ends
returns-then-got-b c =
    let t = rw c.left-b.ensures at (eq-eqb _ _ c.if-got-b.true) in
    record { value = rw t; stage_after = rw t; backing_after = rw t (rw c.left-b.ensures at c.store.ensures) }

pub returns : goal.returns
unfolding paid ends
returns c =
    let t = rw c.left-b.ensures at (ne_eqb _ _ c.if-got-b.false) in
    record { value = rw (t, c.onward.ensures, onward-all, c.left-b.ensures); stage_after = rw t (rw c.left-b.ensures at c.copy.ensures); backing_after = rw t }
