use mathlib.Core.Path.{sym, ◌∙◌}
use Rattle.hostiledisk.proofs.Laws.{level-two}
use Rattle.hostiledisk.proofs.hd_enable_at.Goals as goal

pub areas-found-requires : goal.areas-found-requires
areas-found-requires c = level-two _ (sym c.level.ensures ∙ c.if-level-ne2.false)
