-- What an answer stands on: the tests of the state, and what set-up has fixed.
use Rattle.std.specs.Prelude.{ℕ, ◌+◌, ◌-◌, ◌*◌, ◌≤◌, ◌<◌, true, List, ◌≡◌, length, get_or}
use Rattle.model.specs.Step.{writables}
use Rattle.model.specs.Sane.{all_inside, job_ok}
use Rattle.model.specs.declared.Queue.{Queue}
use Rattle.model.specs.declared.Disk.{Disk}
use Rattle.model.specs.declared.Walk.{Walk}
use Rattle.model.specs.declared.Job.{Job}

pub record AnswerFit (q : Queue) (d : Disk) (k : Walk) (job : Job) (chain : List ℕ) (backing mem : ℕ) : Type 0 where
  pub size-some : 1 ≤ q.size
  pub used-in : q.used + (6 + 8 * q.size) ≤ mem
  pub disk-in : d.start + 512 * d.sectors ≤ backing
  pub writable : k.reads < k.count
  pub w-some : 1 ≤ k.w
  pub job-in : job_ok d.sectors k job ≡ true
  pub chain-long : 2 * k.count ≤ length chain
  pub buffers-in : all_inside mem (writables chain k) ≡ true
  pub last_some : 1 ≤ get_or chain (2 * (k.count - 1) + 1) 0
