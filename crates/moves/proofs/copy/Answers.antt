use native.Mathlib.Omega.{arith}
use Prim.Native.Nat.{◌+◌, ◌*◌, ◌/◌, ◌%◌}
use mathlib.Core.Path.{◌≡◌}
use Rattle.model.proofs.Lists.{put-more}
use Rattle.moves.proofs.copy.Goals as goal

pub returns : goal.returns
returns c = let a = c.args in
    let e : 8 * (a.n / 8) + a.n % 8 ≡ a.n = omega arith in
    rw (c.tail.ensures, c.eights.ensures)
    (rw e at (put-more a.dst.now a.to a.src.now a.from (8 * (a.n / 8)) (a.n % 8) (omega arith)))
