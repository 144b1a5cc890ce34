use Rattle.std.proofs.Common.{sym, ◌∙◌}
use Rattle.model.proofs.Sane.{inside-turn, inside-end}
use Rattle.sane.proofs.all_inside.Goals as goal

pub loop-i-preserved : goal.loop-i-preserved
loop-i-preserved c =
    let h = rw c.buffer-b.ensures at c.inside.ensures in
    c.loop-i.invariant ∙ rw (inside-turn _ _ _ _ c.loop-i-test.true, ← h, c.if-not-inside.false)

pub returns-then-not-inside : goal.returns-then-not-inside
returns-then-not-inside c =
    let h = rw c.buffer-b.ensures at c.inside.ensures in
    sym (c.loop-i.invariant ∙ rw (inside-turn _ _ _ _ c.loop-i-test.true, ← h, c.if-not-inside.true))

pub returns : goal.returns
returns c = sym (c.loop-i.invariant ∙ inside-end _ _ _ _ c.loop-i-test.false)
