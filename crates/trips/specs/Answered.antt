-- What a driver finds in memory once the device has answered a request.
use Rattle.std.specs.Prelude.{ℕ, ◌+◌, ◌-◌, List, [], ◌∷◌, ◌≡◌, get_or, length, take}
use Rattle.model.specs.Bytes.{put, word}
use Rattle.model.specs.Ring.{plus_one}
use Rattle.model.specs.Request.{status, reported}
use Rattle.model.specs.Step.{used_at}
use Rattle.model.specs.declared.Span.{Span}
use Rattle.model.specs.declared.Queue.{Queue}
use Rattle.model.specs.declared.Job.{Job}
use Rattle.requests.specs.Serve.{gather, total, last_byte_at}

-- The a-th answer, of the request with this head and these writable buffers: before it the memory was m₂, and m₃ is after it. `given` are the bytes
-- from the disk, or its identity: fewer than the writable bytes, and none if the request failed.
pub record Answered (q : Queue) (a head : ℕ) (ws : List Span) (job : Job) (given m₂ m₃ : List ℕ) : Type 0 where
  -- used idx says that there is one answer more, and the used entry is the request's head and the length of 03 §4
  pub idx-is : word 2 (q.used + 2) m₃ ≡ plus_one a
  pub head-is : word 4 (used_at q a) m₃ ≡ head
  pub len_is : word 4 (used_at q a + 4) m₃ ≡ reported (status job) (total ws)
  -- the last writable byte is the status, and those before it are what was given
  pub status-is : get_or m₃ (last_byte_at ws) 0 ≡ status job
  pub given_is : length given ≡ total ws - 1 → take (total ws - 1) (gather m₃ ws) ≡ given
  -- as one string: what was given lies at its front, the status in its last byte, and the bytes between are as they were
  pub string-is : gather m₃ ws ≡ put (put (gather m₂ ws) 0 given) (total ws - 1) (status job ∷ [])
  pub long : length m₃ ≡ length m₂
