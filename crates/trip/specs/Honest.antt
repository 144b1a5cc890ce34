-- What a round trip stands on.
use Rattle.std.specs.Prelude.{ℕ, ◌+◌, ◌-◌, ◌/◌, ◌≤◌, List, ◌≡◌, false, length, get_or, Ok}
use Rattle.model.specs.Memory.{regions}
use Rattle.model.specs.Step.{Cfg, spans}
use Rattle.model.specs.declared.Phase.TheVariants.{Poll}
use Rattle.device.specs.Turn.{cfg_of}
use Rattle.words.specs.Layout.{config_at, map_words, descs_word}
use Rattle.requests.specs.Serve.{total}
use Rattle.requests.specs.Table.{Fit}
use Rattle.guarantees.specs.Follow.{Matches}
use Rattle.driver.specs.Lay.{plan}
use Rattle.driver.specs.declared.Driver.{Driver}
use Rattle.trips.specs.Stands.{Named}

-- the device that these words are: its map, its queue, its disk
abbrev pub device_of : List ℕ → Cfg
device_of state = cfg_of (config_at state) (map_words state)

-- A write of the message's data (all but its first 16 bytes) over `bufs`, the first `reads` of them readable, and a read of the same sectors over
-- `bufs₂`; n calls of hd_step for each. Nothing is said of what guest memory, the disk, the rings or the buffers hold.
pub record Honest (state mem backing chain stage : List ℕ) (n : ℕ) (d : Driver) (own map : List ℕ) (sector : ℕ) (message bufs : List ℕ) (reads : ℕ) (header bufs₂ : List ℕ) (reads₂ : ℕ) (out spots nums : List ℕ) : Type 0 where
  -- the words are those of an enabled queue at rest, which has taken and answered as many requests as the driver has laid and read
  pub at_rest : Matches (device_of state) (length mem) (record { state = state; backing = backing; chain = chain; stage = stage })
      (record { taken = d.next; answered = d.seen; descs = get_or state descs_word 0; phase = Poll }) backing chain stage
  -- driver and device mean the same queue and the same memory
  pub same_queue : (device_of state).queue ≡ d.queue
  pub same_map : (device_of state).map ≡ regions map
  -- the driver's own words are in order (all 0, or as laying and reading answers leave them)
  pub own-named : Named d.queue.size own
  -- the disk can be written, and the data are whole sectors of it
  pub writable : (device_of state).disk.ro ≡ 0
  pub sectors-fit : Fit (length message - 16) sector (device_of state).disk.sectors
  -- the driver has room for each of the two requests
  pub write-accepted : (plan d.queue (regions map) (length mem) own 1 (length message) bufs reads spots nums).answer ≡ Ok tt
  pub read-accepted : (plan d.queue (regions map) (length mem) own 0 (length header) bufs₂ reads₂ spots nums).answer ≡ Ok tt
  -- as much is read as was written: `out` is as long as the data, and the read's writable buffers are a byte longer, for the status
  pub out-long : length out ≡ length message - 16
  pub read-long : total (spans (length bufs₂ / 2 - reads₂) reads₂ bufs₂) ≡ length out + 1
  -- the calls are enough: two for each buffer, and five
  pub enough : length bufs + 5 ≤ n
  pub enough₂ : length bufs₂ + 5 ≤ n
