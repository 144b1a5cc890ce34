use borrow.Author.Tests.{lt-ltb, le-ltb}
use Rattle.model.specs.Step.{gathered}
use Rattle.device.proofs.gather.gathered.Goals as goal

pub returns-then-got-n-lt16 : goal.returns-then-got-n-lt16
unfolding gathered
returns-then-got-n-lt16 c = rw (lt-ltb _ 16 c.if-got-n-lt16.true, c.onward-next.ensures)

pub returns : goal.returns
unfolding gathered
returns c = rw (le-ltb _ 16 c.if-got-n-lt16.false, ← c.onward-next.ensures, ← c.verdict-job.ensures) c.decided.ensures
