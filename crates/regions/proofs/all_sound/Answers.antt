use mathlib.Core.Path.{sym, ◌∙◌}
use Rattle.model.proofs.Memory.{sound-from, sound_none}
use Rattle.regions.proofs.all_sound.Goals as goal

pub returns-then-not-sound_one : goal.returns-then-not-sound_one
returns-then-not-sound_one c = sym (c.loop-i.invariant ∙ sound-from _ _ _ c.loop-i-test.true ∙ rw (← c.if-not-sound_one.ensures))

pub loop-i-preserved : goal.loop-i-preserved
loop-i-preserved c = c.loop-i.invariant ∙ sound-from _ _ _ c.loop-i-test.true ∙ rw (← c.if-not-sound_one.ensures)

pub returns : goal.returns
returns c = sym (c.loop-i.invariant ∙ sound_none _ _ _ c.loop-i-test.false)
