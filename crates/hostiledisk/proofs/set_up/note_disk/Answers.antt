use mathlib.Core.Bool.{Bool, true, false, not}
use mathlib.Core.Path.{◌≡◌, refl}
use lib.Dec.{eqb}
use mir.Val.{bool_byte}
use Rattle.model.specs.Pick.{pick}
use Rattle.model.proofs.Lists.{put-cons, put-nil}
use Rattle.hostiledisk.specs.Calls.{disk_set}
use Rattle.hostiledisk.proofs.set_up.note_disk.Goals as goal

flagged : (b : Bool) → bool_byte (not b) ≡ pick b 0 1
flagged true = refl
flagged false = refl

pub returns : goal.returns
unfolding disk_set
returns c = rw (c.from.ensures, flagged (eqb c.args.ro 0), c.get.ensures.value, c.get-2.ensures.value, c.get-3.ensures.value) (simp (put-cons, put-nil))
