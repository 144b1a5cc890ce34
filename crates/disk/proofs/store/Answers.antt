use native.Mathlib.Omega.{arith}
use Rattle.model.specs.Bytes.{part}
use Rattle.model.proofs.Lists.{put-put, length_part}
use lib.ListN.{length}
use mathlib.Core.Path.{◌≡◌}
use Rattle.disk.proofs.store.Goals as goal

pub returns : goal.returns
returns c = let a = c.args in let x = part 0 a.got a.stage.now in let e : length x ≡ a.got = length_part 0 a.got a.stage.now (omega (arith, c.requires)) in rw (c.copy-2.ensures, c.copy.ensures) (rw e at (put-put a.backing.now a.at x (part a.from a.n a.mem.now)))
