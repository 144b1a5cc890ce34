-- What laying stands on once its tests are passed.
use Rattle.std.specs.Prelude.{ℕ, ◌+◌, ◌-◌, ◌*◌, ◌≤◌, ◌<◌, true, List, ◌≡◌, get_or, length, Some}
use Rattle.model.specs.Memory.{Region, sound, locate}
use Rattle.model.specs.Ring.{queue_size_ok}
use Rattle.model.specs.Step.{spans}
use Rattle.model.specs.Sane.{all_inside}
use Rattle.model.specs.declared.Queue.{Queue}
use Rattle.requests.specs.Serve.{total}
use Rattle.driver.specs.Lay.{separate, formed}

-- a buffer of the request: in memory, at its spot
pub record Spot (rs : List Region) (bufs spots : List ℕ) (i : ℕ) : Type 0 where
  pub located : locate rs (get_or bufs (2 * i) 0) (get_or bufs (2 * i + 1) 0) ≡ Some (get_or spots (2 * i) 0)
  pub len_is : get_or spots (2 * i + 1) 0 ≡ get_or bufs (2 * i + 1) 0
  pub short : get_or bufs (2 * i + 1) 0 ≤ 4294967295

-- the areas' spots, behind those of e buffers
pub record Areas (q : Queue) (spots : List ℕ) (e : ℕ) : Type 0 where
  pub desc-at : get_or spots (2 * e) 0 ≡ q.desc
  pub desc-len : get_or spots (2 * e + 1) 0 ≡ 16 * q.size
  pub avail-at : get_or spots (2 * (e + 1)) 0 ≡ q.avail
  pub avail-len : get_or spots (2 * (e + 1) + 1) 0 ≡ 6 + 2 * q.size
  pub used-at : get_or spots (2 * (e + 2)) 0 ≡ q.used
  pub used-len : get_or spots (2 * (e + 2) + 1) 0 ≡ 6 + 8 * q.size

-- a request of e buffers over a memory of m bytes, r of them of message; q's areas; numbers of free descriptors, lowest first
pub record LayFit (q : Queue) (rs : List Region) (m : ℕ) (own : List ℕ) (kind r : ℕ) (bufs : List ℕ) (reads e : ℕ) (spots nums : List ℕ) : Type 0 where
  pub map-sound : sound m rs ≡ true
  pub size_ok : queue_size_ok q.size ≡ true
  pub desc-in : q.desc + 16 * q.size ≤ m
  pub avail-in : q.avail + (6 + 2 * q.size) ≤ m
  pub used-in : q.used + (6 + 8 * q.size) ≤ m
  pub own-long : q.size ≤ length own
  pub bufs-long : 2 * e ≤ length bufs
  pub few : e ≤ q.size
  pub reads_in : reads ≤ e
  pub spots-long : 2 * e + 6 ≤ length spots
  pub nums-long : e ≤ length nums
  pub each : (i : ℕ) → i < e → Spot rs bufs spots i
  pub areas : Areas q spots e
  pub readable : total (spans reads 0 spots) ≡ r
  pub form : formed kind r (total (spans (e - reads) reads spots)) ≡ true
  pub apart : separate (spans (e + 3) 0 spots) ≡ true
  pub numbers : (i : ℕ) → i < e → get_or nums i 0 < q.size
  pub rising : (i j : ℕ) → i < j → j < e → get_or nums i 0 < get_or nums j 0
  pub unused : (i : ℕ) → i < e → get_or own (get_or nums i 0) 0 ≡ 0

-- numbers of descriptors: n of them, each below q
unfoldable pub Numbers : ℕ → ℕ → List ℕ → Type 0
Numbers q n nums = (i : ℕ) → i < n → get_or nums i 0 < q

-- what the writes stand on: areas and readable buffers inside a memory of m bytes, a descriptor for each of the e buffers
pub record WriteFit (q : Queue) (m e reads : ℕ) (spots nums : List ℕ) : Type 0 where
  pub some_size : 1 ≤ q.size
  pub desc-in : q.desc + 16 * q.size ≤ m
  pub avail-in : q.avail + (6 + 2 * q.size) ≤ m
  pub some : 1 ≤ e
  pub reads_in : reads ≤ e
  pub spots-long : 2 * e ≤ length spots
  pub nums-long : e ≤ length nums
  pub buffers-in : all_inside m (spans reads 0 spots) ≡ true
  pub numbers : Numbers q.size e nums
