use lib.ListN.{length-set}
use mathlib.Core.Path.{◌∙◌}
use Rattle.model.proofs.Lists.{put-cons}
use Rattle.hostiledisk.specs.Calls.{queue_set}
use Rattle.words.specs.Layout.{saved}
use native.Mathlib.Omega.{arith}
use Rattle.hostiledisk.proofs.set_up.note_queue.Goals as goal

pub save-requires : goal.save-requires
save-requires c = simp length-set (omega arith)

pub shape_of-state : goal.shape_of-state
shape_of-state c = c.save.auto.s ∙ simp length-set

pub returns : goal.returns
unfolding saved queue_set
returns c = rw c.save.ensures (simp put-cons)
