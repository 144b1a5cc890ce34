use Rattle.model.proofs.Tests.{tests}
use Rattle.driver.specs.Lay.{spot_of}
use Rattle.driver.proofs.room.spot_of.Goals as goal

pub returns-then-len-gt4294967295 : goal.returns-then-len-gt4294967295
unfolding spot_of
returns-then-len-gt4294967295 c = search tests

pub returns : goal.returns
unfolding spot_of
returns c = search (tests, c.locate.ensures)
