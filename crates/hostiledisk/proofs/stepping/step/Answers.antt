use mathlib.Core.Path.{refl, sym, ◌∙◌}
use borrow.Author.Tests.{lt-ltb}
use Rattle.hostiledisk.specs.Calls.{hd_step}
use Rattle.hostiledisk.proofs.Laws.{untouched-is}
use Rattle.hostiledisk.proofs.Phases.{unframed, broken-is, short}
use Rattle.words.specs.Layout.{state_words}
use Rattle.hostiledisk.proofs.stepping.step.Goals as goal

-- At each return the tests that led there choose the case of `hd_step`; a step is that of its phase (Phases).
pub returns-then-state-lt-STATE_WORDS : goal.returns-then-state-lt-STATE_WORDS
unfolding hd_step
returns-then-state-lt-STATE_WORDS c = rw (lt-ltb _ state_words c.if-state-lt-STATE_WORDS.true) (untouched-is _ _ _ _ _ _)

pub returns-then-tag-ge8 : goal.returns-then-tag-ge8
returns-then-tag-ge8 c = rw c.broken.ensures (broken-is _ _ _ _ _ c.if-state-lt-STATE_WORDS.false (sym c.framed.ensures ∙ c.if-not-framed.false) c.if-tag-ge8.true)

pub go-requires-clause-framed : goal.go-requires-clause-framed
go-requires-clause-framed c = record { words_long = c.if-state-lt-STATE_WORDS.false; frame = sym c.framed.ensures ∙ c.if-not-framed.false; tag_is = refl; slices-long = sym c.long_enough.ensures ∙ c.if-not-long_enough.false }

pub go-requires-clause-tag_bound : goal.go-requires-clause-tag_bound
go-requires-clause-tag_bound c = c.if-tag-ge8.false

pub returns-then-not-long_enough : goal.returns-then-not-long_enough
returns-then-not-long_enough c = short _ _ _ _ _ c.if-state-lt-STATE_WORDS.false (sym c.framed.ensures ∙ c.if-not-framed.false) c.if-tag-ge8.false (sym c.long_enough.ensures ∙ c.if-not-long_enough.true)

pub returns-then-not-framed : goal.returns-then-not-framed
returns-then-not-framed c = unframed _ _ _ _ _ c.if-state-lt-STATE_WORDS.false (sym c.framed.ensures ∙ c.if-not-framed.true)
