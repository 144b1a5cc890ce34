use mathlib.Core.Path.{sym, ◌∙◌}
use borrow.Author.Tests.{leb-false}
use Rattle.model.specs.Chain.{tested, described, descs_after, keeps}
use native.Mathlib.Omega.{arith}
use Rattle.model.proofs.Chain.{next-room, last-room}
use Rattle.chain.proofs.described.Goals as goal

pub hold-requires : goal.hold-requires
hold-requires c = omega (arith, c.requires, leb-false c.args.q c.args.k.count (next-room _ _ _ _ _ _ _ _ (sym c.judge-t.ensures ∙ c.in-Next.is)))

pub hold-requires-in-Last : goal.hold-requires-in-Last
hold-requires-in-Last c = omega (arith, c.requires, leb-false c.args.q c.args.k.count (last-room _ _ _ _ _ _ _ _ (sym c.judge-t.ensures ∙ c.in-Last.is)))

pub overflow_add-result-in-Last : goal.overflow_add-result-in-Last
overflow_add-result-in-Last c = omega (arith, c.requires)

pub returns-in-Bad : goal.returns-in-Bad
unfolding tested described descs_after keeps
returns-in-Bad c = let l = c.locate-found.ensures in let j = c.judge-t.ensures in let g = c.in-Bad.is in record { phase_value = rw (← l, ← j, g); descs_value = rw (← l, ← j, g); chain_after = rw (← l, ← j, g) }

pub returns-in-Next : goal.returns-in-Next
unfolding tested described descs_after keeps
returns-in-Next c = let l = c.locate-found.ensures in let j = c.judge-t.ensures in let g = c.in-Next.is in record { phase_value = rw (← l, ← j, g, c.tally.ensures); descs_value = rw (← l, ← j, g); chain_after = rw (← l, ← j, g) c.hold.ensures }

pub returns-in-Last : goal.returns-in-Last
unfolding tested described descs_after keeps
returns-in-Last c = let l = c.locate-found.ensures in let j = c.judge-t.ensures in let g = c.in-Last.is in record { phase_value = rw (← l, ← j, g, c.complete.ensures, c.tally-in-Last.ensures); descs_value = rw (← l, ← j, g); chain_after = rw (← l, ← j, g) c.hold-in-Last.ensures }
