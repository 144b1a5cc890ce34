use Rattle.std.proofs.Common.{◌≡◌, ◌-◌}
use Rattle.model.specs.Sane.{all_inside}
use Rattle.model.specs.Step.{spans}
use Rattle.sane.proofs.all_inside.Given as goal

-- The rest of the buffers has the whole's answer.
abbrev pub invariant-loop-i : goal.invariant-loop-i
invariant-loop-i l = all_inside l.m (spans (l.end - l.first) l.first l.chain) ≡ all_inside l.m (spans (l.end - l.i) l.i l.chain)
