use Rattle.std.proofs.Common.{◌≡◌, ◌+◌, ◌-◌, ◌*◌, arith}
use Rattle.model.specs.Bytes.{part}
use Rattle.model.specs.Step.{handed}
use Rattle.model.proofs.Step.{scatter-nil}
use Rattle.model.proofs.Sane.{Fits, read_fits}
use Rattle.model.proofs.Lists.{part-part}
use Rattle.answer.proofs.hand.Goals as goal
use Rattle.answer.proofs.hand.Goals.{In-Read}

-- The sectors of a read lie in the disk's part of the backing slice.
read_in : (c : In-Read) → Fits (c.args.k.w - 1) c.in-Read.s c.args.disk.sectors
read_in c = read_fits _ _ _ (rw c.in-Read.is at c.requires.job_value)

pub overflow_mul-at : goal.overflow_mul-at
overflow_mul-at c = omega (arith, (read_in (goal.at.overflow_mul-at c).In-Read).to, c.requires.sectors_in_bounds)

pub overflow_add-at : goal.overflow_add-at
overflow_add-at c = omega (arith, (read_in (goal.at.overflow_add-at c).In-Read).to, c.requires.sectors_in_bounds)

pub overflow_add-at-in-Read : goal.overflow_add-at-in-Read
overflow_add-at-in-Read c = omega (arith, (read_in (goal.at.overflow_add-at-in-Read c).In-Read).to, c.requires.sectors_in_bounds)

pub slice_bounds-spread-end : goal.slice_bounds-spread-end
slice_bounds-spread-end c = omega (arith, (read_in (goal.at.slice_bounds-spread-end c).In-Read).to, c.requires.sectors_in_bounds)

pub returns-in-Read : goal.returns-in-Read
unfolding handed part
returns-in-Read c =
    let a = c.args in
    let s = c.in-Read.s in
    let at = a.disk.start + 512 * s in
    let e : at + (a.k.w - 1) - at ≡ a.k.w - 1 = omega arith in
    rw (c.in-Read.is, part-part a.disk.start (512 * s) (512 * a.disk.sectors) (a.k.w - 1) a.backing.now (omega (arith, (read_in (goal.at.returns-in-Read c).In-Read).to))) (rw e at c.spread.ensures)

pub returns-in-Identity : goal.returns-in-Identity
unfolding handed
returns-in-Identity c = rw (c.in-Identity.is, ← c.bytes_of.ensures) c.spread_own.ensures

pub returns-in-Failed : goal.returns-in-Failed
unfolding handed
returns-in-Failed c = grind (arith, scatter-nil)
