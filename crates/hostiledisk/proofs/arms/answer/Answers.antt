use native.Mathlib.Omega.{arith}
use mathlib.Core.Path.{refl, sym, ◌∙◌}
use Rattle.model.proofs.Sane.{answer_ok}
use Rattle.words.specs.Layout.{config_at}
use Rattle.device.proofs.Laws.{met-answer, answer-fit}
use Rattle.hostiledisk.proofs.Phases.{held-answer, ready-answer, chain-long, fit-held, wild-job, insane, unready, acted}
use Rattle.hostiledisk.proofs.arms.answer.Goals as goal

pub returns-then-view-gt5 : goal.returns-then-view-gt5
returns-then-view-gt5 c = wild-job _ _ _ _ _ c.requires c.if-view-gt5.true

pub answer_ready-requires : goal.answer_ready-requires
answer_ready-requires c = let h = answer_ok _ _ _ _ _ (sym c.answer_sane.ensures ∙ c.if-not-answer_sane.false) in omega (arith, h, (chain-long _ _ _ _ _ _ (held-answer _ _ _ _ _ c.requires c.if-view-gt5.false _ _ c.walk-k.ensures c.job_of-job.ensures)).1)

pub reply-requires : goal.reply-requires
reply-requires c = rw (c.queue.ensures, c.disk.ensures) (answer-fit _ _ _ _ _ _ _ _ _ _ _ (fit-held _ _ _ _ _ _ (held-answer _ _ _ _ _ c.requires c.if-view-gt5.false _ _ c.walk-k.ensures c.job_of-job.ensures) (sym c.answer_sane.ensures ∙ c.if-not-answer_sane.false) (ready-answer _ _ _ _ _ (sym c.answer_ready.ensures ∙ c.if-not-answer_ready.false))))

pub save_phase-requires : goal.save_phase-requires
save_phase-requires c = c.requires.words_long

pub returns : goal.returns
unfolding config_at
returns c = acted _ _ _ _ _ _ (held-answer _ _ _ _ _ c.requires c.if-view-gt5.false _ _ c.walk-k.ensures c.job_of-job.ensures) (sym c.answer_sane.ensures ∙ c.if-not-answer_sane.false) (ready-answer _ _ _ _ _ (sym c.answer_ready.ensures ∙ c.if-not-answer_ready.false)) _ _ _ _ _ _ _ _ _ _ (met-answer _ _ _ _ _ _ _ _ _ _ _ _ (rw (c.queue.ensures, c.disk.ensures, c.identity.ensures) at c.reply.ensures)) c.save_phase.ensures _ refl

pub returns-then-not-answer_ready : goal.returns-then-not-answer_ready
returns-then-not-answer_ready c = unready _ _ _ _ _ _ (held-answer _ _ _ _ _ c.requires c.if-view-gt5.false _ _ c.walk-k.ensures c.job_of-job.ensures) (sym c.answer_sane.ensures ∙ c.if-not-answer_sane.false) (ready-answer _ _ _ _ _ (sym c.answer_ready.ensures ∙ c.if-not-answer_ready.true))

pub returns-then-not-answer_sane : goal.returns-then-not-answer_sane
returns-then-not-answer_sane c = insane _ _ _ _ _ _ (held-answer _ _ _ _ _ c.requires c.if-view-gt5.false _ _ c.walk-k.ensures c.job_of-job.ensures) (sym c.answer_sane.ensures ∙ c.if-not-answer_sane.true)
