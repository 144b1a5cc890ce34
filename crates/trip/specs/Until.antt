-- hd_step, called again and again.
use Rattle.std.specs.Prelude.{ℕ, zero, suc, ◌<◌, List, ◌≡◌, eqb, length, get_or}
use Rattle.model.specs.Pick.{pick}
use Rattle.model.specs.Step.{Cfg}
use Rattle.requests.specs.Serve.{Outcome, memory_after, backing_after}
use Rattle.requests.specs.Guest.{state_after, code_for}
use Rattle.hostiledisk.specs.Calls.{Called, hd_step}
use Rattle.guarantees.specs.History.{left}
use Rattle.guarantees.specs.Follow.{Matches}

-- the next call, on what a call has left
abbrev pub called : Called → Called
called o = hd_step o.state o.mem o.backing o.chain o.stage

-- as long as it answers 1, at most n times: what the last call answered, and what is left
unfoldable pub until : ℕ → Called → Called
until zero o = o
until (suc n) o = pick (eqb (called o).code 1) (until n (called o)) (called o)

-- a request's calls of hd_step have come to an outcome: the answer, guest memory, the backing slice, and a device that can go on
pub record Served (c : Cfg) (n t a descs : ℕ) (mem backing : List ℕ) (x : Outcome) (o : Called) : Type 0 where
  pub code_is : o.code ≡ code_for x
  pub mem_is : o.mem ≡ memory_after x mem
  pub backing-is : o.backing ≡ backing_after x backing
  pub goes_on : Matches c n (left o) (state_after x t a descs) o.backing o.chain o.stage
  pub mem_long : length o.mem ≡ n
  pub mem_bytes : (i : ℕ) → get_or o.mem i 0 < 256
  pub backing-bytes : (i : ℕ) → get_or o.backing i 0 < 256
  pub stage-bytes : (i : ℕ) → get_or o.stage i 0 < 256
