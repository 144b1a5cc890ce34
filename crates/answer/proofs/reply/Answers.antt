use native.Mathlib.Omega.{arith}
use lib.ListN.{length-set}
use mathlib.Core.Path.{◌∙◌}
use Rattle.model.specs.Step.{answer_stores, apply}
use Rattle.model.proofs.Step.{apply-append}
use Rattle.model.proofs.Lists.{put_one}
use Rattle.answer.proofs.Laws.{last-in}
use Rattle.answer.proofs.reply.Goals as goal

pub hand-requires-clause-sectors_in_bounds : goal.hand-requires-clause-sectors_in_bounds
hand-requires-clause-sectors_in_bounds c = c.requires.disk-in

pub hand-requires-clause-le_w : goal.hand-requires-clause-le_w
hand-requires-clause-le_w c = c.requires.w-some

pub hand-requires-clause-job_value : goal.hand-requires-clause-job_value
hand-requires-clause-job_value c = c.requires.job-in

pub hand-requires-clause-count_in_bounds : goal.hand-requires-clause-count_in_bounds
hand-requires-clause-count_in_bounds c = c.requires.chain-long

pub hand-requires-clause-k_value : goal.hand-requires-clause-k_value
hand-requires-clause-k_value c = c.requires.buffers-in

pub overflow_add-at : goal.overflow_add-at
overflow_add-at c = rw c.buffer-last.ensures (omega (arith, last-in _ _ _ _ _ _ _ c.requires, c.requires.last_some, c))

pub bounds-mem-at : goal.bounds-mem-at
bounds-mem-at c = rw c.buffer-last.ensures (omega (arith, last-in _ _ _ _ _ _ _ c.requires, c.requires.last_some, c.hand.auto.mem))

pub used_entry-requires-clause-le_size : goal.used_entry-requires-clause-le_size
used_entry-requires-clause-le_size c = c.requires.size-some

pub used_entry-requires-clause-size_in_bounds : goal.used_entry-requires-clause-size_in_bounds
used_entry-requires-clause-size_in_bounds c = simp length-set (omega (arith, c.requires.used-in, c.hand.auto.mem))

pub shape_of-mem : goal.shape_of-mem
shape_of-mem c = c.used_entry.auto.mem ∙ simp length-set c.hand.auto.mem

pub returns : goal.returns
unfolding answer_stores apply
returns c = rw (c.used_entry.ensures, c.reported.ensures, c.status-status.ensures, c.buffer-last.ensures, apply-append, ← c.hand.ensures, put_one)
