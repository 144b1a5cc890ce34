use native.Mathlib.Omega.{arith}
use Rattle.device.proofs.descriptor.Goals as goal

pub described-requires-clause-q_le_size_max : goal.described-requires-clause-q_le_size_max
described-requires-clause-q_le_size_max c = omega (arith, c.requires, c.fetch-d.ensures.len-fits)

pub described-requires-clause-q_in_bounds : goal.described-requires-clause-q_in_bounds
described-requires-clause-q_in_bounds c = omega (arith, c.requires, c.fetch-d.ensures.len-fits)

pub described-requires-clause-count_le_q : goal.described-requires-clause-count_le_q
described-requires-clause-count_le_q c = omega (arith, c.requires, c.fetch-d.ensures.len-fits)

pub described-requires-clause-reads_le_q : goal.described-requires-clause-reads_le_q
described-requires-clause-reads_le_q c = omega (arith, c.requires, c.fetch-d.ensures.len-fits)

pub described-requires-clause-r_bound : goal.described-requires-clause-r_bound
described-requires-clause-r_bound c = omega (arith, c.requires, c.fetch-d.ensures.len-fits)

pub described-requires-clause-w_bound : goal.described-requires-clause-w_bound
described-requires-clause-w_bound c = omega (arith, c.requires, c.fetch-d.ensures.len-fits)

pub described-requires-clause-len_bound : goal.described-requires-clause-len_bound
described-requires-clause-len_bound c = omega (arith, c.requires, c.fetch-d.ensures.len-fits)

pub returns : goal.returns
returns c = let is = c.fetch-d.ensures.is in record { phase_value = rw (← is) c.described.ensures.phase_value; descs_value = rw (← is) c.described.ensures.descs_value; chain_after = rw (← is) c.described.ensures.chain_after }
