use Rattle.model.proofs.Lists.{put-cons, put-nil}
use native.Mathlib.Numerals.{add-one}
use Rattle.model.specs.Chain.{held}
use Rattle.chain.proofs.hold.Goals as goal

pub returns : goal.returns
unfolding held
returns c = rw (put-cons, put-cons, put-nil, add-one)
