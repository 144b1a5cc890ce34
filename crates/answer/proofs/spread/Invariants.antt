use Rattle.std.proofs.Common.{◌≡◌, ◌≤◌, ◌-◌, true, length}
use Rattle.model.specs.Bytes.{part}
use Rattle.model.specs.Step.{spans, scatter, apply}
use Rattle.model.specs.Sane.{all_inside}
use Rattle.answer.proofs.spread.Given as goal

-- What is left to hand out, into the buffers that are left, over the memory as it is now, comes to the whole's result.
abbrev pub invariant-loop-i : goal.invariant-loop-i
invariant-loop-i l = record {
  pos_in : l.pos ≤ length l.src;
  mem_long : length l.mem ≡ length l.initial.mem;
  rest_inside : all_inside (length l.initial.mem) (spans (l.end - l.i) l.i l.chain) ≡ true;
  rest_comes : apply (scatter (spans (l.end - l.first) l.first l.chain) l.src) l.initial.mem ≡ apply (scatter (spans (l.end - l.i) l.i l.chain) (part l.pos (length l.src - l.pos) l.src)) l.mem;
}
