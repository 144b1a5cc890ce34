use mathlib.Core.Path.{sym}
use Rattle.std.proofs.lemmas.Result.{err_from_is_err_and}
use native.Mathlib.Omega.{arith}
use borrow.Author.Tests.{ne_eqb, le-leb, lt-leb}
use Rattle.driver.specs.Lay.{attached, attached_with}
use Rattle.model.proofs.Memory.{mapped}
use Rattle.model.proofs.SetUp.{number-some}
use Rattle.driver.proofs.laying.attach.Goals as goal

pub returns-in_err-check_map : goal.returns-in_err-check_map
unfolding attached
returns-in_err-check_map c = let r = err_from_is_err_and c.from_residual.result c.from_residual.ensures.1 in rw (r.1, r.2, ← c.in_err-check_map.ensures, ne_eqb _ 0 (number-some c.in_err-check_map.field-0.0))

pub invariant_of-map : goal.invariant_of-map
invariant_of-map c = record { sound = (mapped _ _ (sym c.in_ok-check_map.ensures)).each-sound }

pub returns-in_err-queue : goal.returns-in_err-queue
unfolding attached attached_with
returns-in_err-queue c = let r = err_from_is_err_and c.from_residual-in_err-queue.result c.from_residual-in_err-queue.ensures.1 in rw (r.1, r.2, ← c.in_ok-check_map.ensures, ← c.in_err-queue.ensures)

pub returns-then-start-ge65536 : goal.returns-then-start-ge65536
unfolding attached attached_with
returns-then-start-ge65536 c = rw (← c.in_ok-check_map.ensures, ← c.in_ok-queue.ensures, le-leb 65536 c.args.start (omega arith))

pub returns : goal.returns
unfolding attached attached_with
returns c = rw (← c.in_ok-check_map.ensures, ← c.in_ok-queue.ensures, lt-leb 65536 c.args.start (omega arith))
