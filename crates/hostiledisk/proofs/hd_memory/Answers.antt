use native.Mathlib.Omega.{arith}
use Rattle.model.proofs.Memory.{mapped}
use mathlib.Core.Path.{sym}
use Rattle.hostiledisk.proofs.hd_memory.Goals as goal

pub note_memory-requires-clause-map_len_bound : goal.note_memory-requires-clause-map_len_bound
note_memory-requires-clause-map_len_bound c = let few = mapped _ _ (sym c.in-Ok.ensures) in omega (arith, few.threes, few.few)
