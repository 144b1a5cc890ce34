-- Every sequence of calls that met their contracts is a history: so each theorem about histories is one about the calls.
use mathlib.Core.List.{List, [], ◌∷◌}
use mathlib.Core.Path.{◌≡◌, refl, ap, ◌∙◌}
use Rattle.hostiledisk.specs.Calls.{Called, Set, hd_step, StepIs}
use Rattle.guarantees.specs.History.{Call, memory, disk, enable, reset, step, World, set_up, ran, left, run}
use Rattle.guarantees.specs.Contracted.{SetIs, Did, Calls, none, one}

set-ran : (w : World) (x : Set) (o : Called) → SetIs w x o → o ≡ set_up w x
set-ran w x o i = rw (← i.code_is, ← i.state-is, ← i.backing-is, ← i.chain-is, ← i.stage_is) (mem-nil o i.mem_is)
  where
    mem-nil : (o : Called) → o.mem ≡ [] → o ≡ record { code = o.code; state = o.state; mem = []; backing = o.backing; chain = o.chain; stage = o.stage }
    mem-nil o e = rw (← e)

step-ran : (x o : Called) → StepIs x o.code o.state o.mem o.backing o.chain o.stage → o ≡ x
step-ran x o i = rw (i.code_is, i.state-is, i.mem_is, i.backing-is, i.chain-is, i.stage_is)

pub did-ran : (w : World) (c : Call) (o : Called) → Did w c o → o ≡ ran w c
unfolding Did ran
did-ran w (memory words m) o d = set-ran w _ o d
did-ran w (disk start sectors ro id backing) o d = set-ran w _ o d
did-ran w (enable size desc avail used chain stage start) o d = set-ran w _ o d
did-ran w reset o d = set-ran w _ o d
did-ran w (step mem) o d = step-ran (hd_step w.state mem w.backing w.chain w.stage) o d

pub calls-run : (w : World) (cs : List Call) (v : World) → Calls w cs v → v ≡ run w cs
unfolding run
calls-run w [] v none = refl
calls-run w (c ∷ cs) v (one o d r) = calls-run (left o) cs v r ∙ ap (λ (x : Called). run (left x) cs) (did-ran w c o d)
