-- What a request that the driver has laid is to a device: a chain of descriptors, and the message in its readable buffers.
use Rattle.std.specs.Prelude.{ℕ, ◌+◌, ◌*◌, ◌≤◌, ◌<◌, List, ◌≡◌, ltb, eqb, get_or}
use Rattle.model.specs.Bytes.{put, word, bytes}
use Rattle.model.specs.Ring.{pending, plus_one}
use Rattle.model.specs.Chain.{desc_at}
use Rattle.model.specs.Step.{apply, spans}
use Rattle.model.specs.declared.Queue.{Queue}
use Rattle.model.specs.declared.Desc.{Desc}
use Rattle.requests.specs.Serve.{gather}
use Rattle.driver.specs.Lay.{flags_of, next_of, avail_at, lay_stores}

-- the descriptor of buffer i of e, the first `reads` of them readable: its guest address and length, WRITE unless it is readable, NEXT unless it
-- is the last, and the number of the next one
unfoldable pub desc_of : List ℕ → List ℕ → ℕ → ℕ → ℕ → Desc
desc_of bufs nums reads e i =
    record {
      addr = get_or bufs (2 * i) 0;
      len = get_or bufs (2 * i + 1) 0;
      flags = flags_of (ltb i reads) (eqb (i + 1) e);
      next = next_of (eqb (i + 1) e) (get_or nums (i + 1) 0);
    }

-- The request stands in a memory: each of its descriptors is in the queue's table, and its readable buffers, one behind the other, hold the message.
pub record Stands (q : Queue) (bufs spots nums : List ℕ) (reads e : ℕ) (message mem : List ℕ) : Type 0 where
  pub descs : (i : ℕ) → i < e → desc_at (q.desc + 16 * get_or nums i 0) mem ≡ desc_of bufs nums reads e i
  pub holds : gather mem (spans reads 0 spots) ≡ message

-- two memories have the same n bytes from place a on
unfoldable pub Same : ℕ → ℕ → List ℕ → List ℕ → Type 0
Same a n m₁ m₂ = (i : ℕ) → a ≤ i → i < a + n → get_or m₁ i 0 ≡ get_or m₂ i 0

-- The request is next for a device that has taken t entries: the t-th entry of the available ring is its head, and idx says that it waits.
pub record Waits (q : Queue) (nums : List ℕ) (t : ℕ) (mem : List ℕ) : Type 0 where
  pub entry-is : word 2 (avail_at q t) mem ≡ get_or nums 0 0
  pub waits : 1 ≤ pending (word 2 (q.avail + 2) mem) t
  pub few : pending (word 2 (q.avail + 2) mem) t ≤ q.size

-- a memory after a request was laid as entry t, and idx was published
abbrev pub published : Queue → ℕ → List ℕ → ℕ → ℕ → List ℕ → List ℕ → List ℕ → List ℕ → List ℕ
published q t message reads e bufs spots nums mem = put (apply (lay_stores q t message reads e bufs spots nums) mem) (q.avail + 2) (bytes 2 (plus_one t))

-- The driver's own words of q descriptors, between two calls: a word that is not 0 is 1 + a head, and that head's word is the same.
unfoldable pub Named : ℕ → List ℕ → Type 0
Named q own = (i v : ℕ) → i < q → get_or own i 0 ≡ 1 + v → (v < q) × (get_or own v 0 ≡ 1 + v)
