use Rattle.std.proofs.Common.{arith}
use Rattle.model.proofs.Tests.{tests}
use Rattle.model.specs.Request.{verdict}
use Rattle.request.specs.declared.Kind.TheVariants.{In, Out, Flush, GetId}
use Rattle.request.proofs.verdict.Goals as goal

pub returns-in-Err : goal.returns-in-Err
unfolding verdict
returns-in-Err c = let n = c.in-Err.ensures in grind (arith, tests, n In, n Out, n Flush, n GetId)
