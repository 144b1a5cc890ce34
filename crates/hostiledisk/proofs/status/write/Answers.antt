use mathlib.Core.Path.{sym, ◌∙◌}
use Rattle.hostiledisk.proofs.Laws.{level-three}
use Rattle.hostiledisk.proofs.status.write.Goals as goal

pub seen_of-x-requires : goal.seen_of-x-requires
seen_of-x-requires c = rw (c.from-p.ensures, c.row.ensures) (level-three _ (sym c.level.ensures ∙ c.if-level-eq3.true)).phase
