use mathlib.Core.Path.{◌≡◌}
use native.Mathlib.Omega.{arith}
use Rattle.hostiledisk.proofs.Phases.{wild, tag-none}
use Rattle.hostiledisk.proofs.stepping.go.Goals as goal

pub returns-in_default : goal.returns-in_default
returns-in_default c = let f = c.requires.framed in let z : c.args.tag ≡ 0 = omega arith in wild _ _ _ _ _ f.words_long f.frame (rw (f.tag_is, z) (tag-none _))
