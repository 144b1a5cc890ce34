use Prim.Native.Nat.{◌+◌, ◌*◌, ◌<◌}
use mathlib.Core.Path.{◌≡◌, sym, ◌∙◌}
use lib.ListN.{length}
use native.Mathlib.Omega.{arith}
use Rattle.model.proofs.Memory.{clash-turn, clash-none}
use Rattle.regions.proofs.clashes.Goals as goal

pub returns-then-overlaps : goal.returns-then-overlaps
returns-then-overlaps c =
    let t : 3 * c.loop-i.i + 2 < length c.args.seen.now = omega (arith, c.loop-i-test.true) in
    sym (c.loop-i.invariant ∙ rw (clash-turn _ _ _ _ t, ← c.if-overlaps.ensures))

pub loop-i-preserved : goal.loop-i-preserved
loop-i-preserved c =
    let i = c.loop-i.i in
    let e : 3 * (i + 1) ≡ 3 * i + 3 = omega arith in
    let t : 3 * i + 2 < length c.args.seen.now = omega (arith, c.loop-i-test.true) in
    rw e (c.loop-i.invariant ∙ rw (clash-turn _ _ _ _ t, ← c.if-overlaps.ensures))

pub returns : goal.returns
returns c = sym (c.loop-i.invariant ∙ clash-none c.args.seen.now (3 * c.loop-i.i) _ _ (omega (arith, c.loop-i-test.false)))
