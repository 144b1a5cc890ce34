-- What the driver's calls answer once the device has answered a request.
use Rattle.std.specs.Prelude.{ℕ, ◌-◌, ◌≤◌, List, ◌≡◌, length, take, Some, Ok}
use Rattle.model.specs.Ring.{plus_one}
use Rattle.model.specs.Request.{status, reported}
use Rattle.model.specs.Step.{spans}
use Rattle.model.specs.declared.Job.{Job}
use Rattle.requests.specs.Serve.{total}
use Rattle.driver.specs.Take.{used_idx, taken, status_of, data_of}
use Rattle.driver.specs.declared.Driver.{Driver}

-- The driver reads the answer to its request with this head: `given` are the bytes from the disk, or its identity.
pub record Reads (d : Driver) (own : List ℕ) (head : ℕ) (spots : List ℕ) (reads e : ℕ) (job : Job) (given mem : List ℕ) : Type 0 where
  -- there is one answer more than it has read, and it is this request's, with the length of 03 §4
  pub idx-read : used_idx d mem ≡ plus_one d.seen
  pub answer-taken : taken d own mem (plus_one d.seen)
      ≡ Ok (Some (record { driver = record { queue = d.queue; next = d.next; seen = plus_one d.seen }; head = head; len = reported (status job) (total (spans (e - reads) reads spots)) }))
  -- its status, and as many of its data as the driver asks for
  pub status-read : status_of mem spots reads e ≡ Some (status job)
  pub data-read : length given ≡ total (spans (e - reads) reads spots) - 1 → (out : List ℕ) → length out ≤ total (spans (e - reads) reads spots) - 1
      → data_of mem spots reads e out ≡ take (length out) given
