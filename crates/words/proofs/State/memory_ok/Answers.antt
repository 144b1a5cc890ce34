use borrow.Author.Tests.{le-leb}
use native.Mathlib.Omega.{arith}
use Rattle.model.specs.Memory.{regions_max}
use Rattle.words.proofs.Laws.{map-long}
use Rattle.words.specs.Layout.{memory_ok, regions_word}
use lib.ListN.{get_or}
use Rattle.model.specs.Bytes.{part}
use Rattle.words.proofs.State.memory_ok.Goals as goal

pub returns : goal.returns
unfolding memory_ok part
returns c = let n = get_or c.args.self.words.now regions_word 0 in let e = map-long n in rw (le-leb 1 n (omega arith), le-leb n regions_max (omega arith)) (rw e at c.all_sound.ensures)
