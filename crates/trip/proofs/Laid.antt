-- Bytes stay bytes: what the driver leaves of guest memory when it has laid a request and published it.
use Prim.Native.Nat.{ℕ, zero, suc, ◌+◌, ◌<◌}
use mathlib.Core.List.{List, [], ◌∷◌, ◌++◌}
use lib.ListN.{get_or}
use Rattle.model.specs.Bytes.{put, bytes}
use Rattle.model.specs.Ring.{plus_one}
use Rattle.model.specs.Step.{apply, scatter, spans}
use Rattle.model.specs.declared.Queue.{Queue}
use Rattle.driver.specs.Lay.{header, descriptor, link, links, avail_at, lay_stores}
use Rattle.trips.specs.Stands.{published}
use Rattle.std.specs.Prelude.{◌≡◌, Result, Ok, Err, length}
use Rattle.std.proofs.Common.{refl}
use Rattle.model.specs.Memory.{Region}
use Rattle.driver.specs.Lay.{plan, lay, lay_with, publish_answer}
use Rattle.driver.specs.declared.Driver.{Driver}
use Rattle.driver.specs.declared.Laid.{Laid}
use Rattle.driver.specs.declared.NotLaid.{NotLaid}
use Rattle.driver.proofs.Fits.{plan-fits}
use Rattle.trips.proofs.Calls.{queue-in}
use Rattle.trip.proofs.Octets.{Octets, octets-at, octets-of, octets-put, octets-append, octets-bytes, Written, written-append, octets-apply, written-scatter}

octets-descriptor : (addr len flags nx : ℕ) → Octets (descriptor addr len flags nx)
unfolding descriptor
octets-descriptor addr len flags nx =
    octets-append (bytes 8 addr) (bytes 4 len ++ (bytes 2 flags ++ bytes 2 nx)) (octets-bytes 8 addr)
    (octets-append (bytes 4 len) (bytes 2 flags ++ bytes 2 nx) (octets-bytes 4 len) (octets-append (bytes 2 flags) (bytes 2 nx) (octets-bytes 2 flags) (octets-bytes 2 nx)))

octets-links : (bufs nums : List ℕ) (desc reads e n i : ℕ) → Written (links bufs nums desc reads e n i)
unfolding Written links link
octets-links bufs nums desc reads e zero i = tt
octets-links bufs nums desc reads e (suc n) i = (octets-descriptor _ _ _ _, octets-links bufs nums desc reads e n (suc i))

octets-header : (kind sector : ℕ) → Octets (header kind sector)
unfolding header
octets-header kind sector =
    octets-append (bytes 4 kind) (bytes 4 0 ++ bytes 8 sector) (octets-bytes 4 kind) (octets-append (bytes 4 0) (bytes 8 sector) (octets-bytes 4 0) (octets-bytes 8 sector))

octets-stores : (q : Queue) (t : ℕ) (message : List ℕ) (reads e : ℕ) (bufs spots nums : List ℕ) → Octets message → Written (lay_stores q t message reads e bufs spots nums)
unfolding lay_stores Written
octets-stores q t message reads e bufs spots nums f =
    written-append (scatter (spans reads 0 spots) message) (links bufs nums q.desc reads e e 0 ++ (record { to = avail_at q t; bytes = bytes 2 (get_or nums 0 0) } ∷ []))
    (written-scatter (spans reads 0 spots) message f)
    (written-append (links bufs nums q.desc reads e e 0) (record { to = avail_at q t; bytes = bytes 2 (get_or nums 0 0) } ∷ []) (octets-links bufs nums q.desc reads e e 0)
    (octets-bytes 2 (get_or nums 0 0), tt))

abbrev pub AllBytes : List ℕ → Type 0
AllBytes m = (i : ℕ) → get_or m i 0 < 256

pub laid-bytes : (q : Queue) (t kind sector : ℕ) (message : List ℕ) (reads e : ℕ) (bufs spots nums mem : List ℕ) → AllBytes message → AllBytes mem
    → AllBytes (published q t (put message 0 (header kind sector)) reads e bufs spots nums mem)
laid-bytes q t kind sector message reads e bufs spots nums mem f g =
    let string : List ℕ = put message 0 (header kind sector) in
    let m₁ : List ℕ = apply (lay_stores q t string reads e bufs spots nums) mem in
    let s : Octets string = octets-put message 0 (header kind sector) (octets-of message f) (octets-header kind sector) in
    let a : Octets m₁ = octets-apply (lay_stores q t string reads e bufs spots nums) mem (octets-stores q t string reads e bufs spots nums s) (octets-of mem g) in
    octets-at (put m₁ (q.avail + 2) (bytes 2 (plus_one t))) (octets-put m₁ (q.avail + 2) (bytes 2 (plus_one t)) a (octets-bytes 2 (plus_one t)))

-- a request that was laid can be published
pub laid-publishes : (d : Driver) (own : List ℕ) (rs : List Region) (mem : List ℕ) (kind sector : ℕ) (message bufs : List ℕ) (reads : ℕ) (spots nums : List ℕ) (l : Laid)
    → (lay d own rs mem kind sector message bufs reads spots nums).answer ≡ Ok l → publish_answer l.driver (length mem) ≡ Ok tt
unfolding lay lay_with publish_answer
laid-publishes d own rs mem kind sector message bufs reads spots nums l = go (plan d.queue rs (length mem) own kind (length message) bufs reads spots nums).answer refl
  where
    go : (r : Result Unit NotLaid) → (plan d.queue rs (length mem) own kind (length message) bufs reads spots nums).answer ≡ r
        → (lay_with d own mem kind sector message bufs reads (plan d.queue rs (length mem) own kind (length message) bufs reads spots nums) r).answer ≡ Ok l
        → publish_answer l.driver (length mem) ≡ Ok tt
    go (Ok u) p e =
        let g : record { driver = record { queue = d.queue; next = plus_one d.next; seen = d.seen }; head = get_or (plan d.queue rs (length mem) own kind (length message) bufs reads spots nums).nums 0 0 } ≡ l = cc in
        rw (← g, queue-in (plan-fits d.queue rs (length mem) own kind (length message) bufs reads spots nums p))
    go (Err x) p e = absurd (cc)
