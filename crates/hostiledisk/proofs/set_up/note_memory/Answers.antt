use lib.ListN.{length-set}
use mathlib.Core.Path.{◌∙◌}
use Rattle.model.proofs.Lists.{put-cons, put-nil}
use native.Mathlib.Omega.{arith}
use Rattle.hostiledisk.specs.Calls.{memory_set}
use Rattle.hostiledisk.proofs.set_up.note_memory.Goals as goal

pub keep-requires : goal.keep-requires
keep-requires c = simp length-set (omega arith)

pub shape_of-state : goal.shape_of-state
shape_of-state c = c.keep.auto.held ∙ simp length-set

pub returns : goal.returns
unfolding memory_set
returns c = rw c.keep.ensures (simp (put-cons, put-nil))
