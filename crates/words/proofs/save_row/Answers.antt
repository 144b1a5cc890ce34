use Rattle.words.specs.Layout.{row_words}
use Rattle.model.proofs.Lists.{put-cons, put-nil}
use Rattle.words.proofs.save_row.Goals as goal

pub returns : goal.returns
unfolding row_words
returns c = simp (put-cons, put-nil)
