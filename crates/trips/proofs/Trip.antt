-- The whole way: the driver lays a request, the device takes it as exactly that request and answers it, and the driver reads exactly that answer.
use Prim.Native.Nat.{ℕ, ◌+◌, ◌-◌, ◌^◌, ◌≤◌, ◌<◌}
use native.Mathlib.Omega.{arith}
use mathlib.Core.Bool.{true}
use mathlib.Core.Path.{◌≡◌, refl, ◌∙◌}
use mathlib.Core.List.{List}
use lib.ListN.{length, get_or, drop}
use Rattle.model.specs.Bytes.{put, part, word}
use Rattle.model.specs.Memory.{Region}
use Rattle.model.specs.Request.{verdict}
use Rattle.model.specs.Step.{Cfg, spans, handed, disk_of}
use Rattle.model.specs.declared.Span.{Span}
use Rattle.model.specs.declared.Job.{Job}
use Rattle.model.proofs.Lists.{length-put}
use Rattle.requests.specs.Serve.{still, total, walk, answer, stored, job_of, serve, memory_after, backing_after}
use Rattle.driver.specs.Lay.{header, marked}
use Rattle.driver.specs.Take.{outstanding}
use Rattle.driver.specs.Fit.{LayFit}
use Rattle.driver.specs.declared.Driver.{Driver}
use Rattle.trips.specs.Stands.{Stands, Waits, published}
use Rattle.trips.specs.Trip.{Reads}
use Rattle.trips.proofs.Fits.{size_in, form-ok, writes-some}
use Rattle.trips.proofs.Taken.{stands-taken, published-stands, published-long, published-waits}
use Rattle.trips.proofs.Header.{header-kind, header-sector, header-data}
use Rattle.trips.proofs.Read.{answer-read}
use Rattle.trips.proofs.Free.{length_marked, laid-outstanding}
use Rattle.trips.proofs.Calls.{answered-reads}

-- the job of a message with its header put is the table's, for the request's own type and sector
job_is : (c : Cfg) (kind sector : ℕ) (message : List ℕ) (r w : ℕ) → kind < 2 ^ 32 → sector < 2 ^ 64 → 16 ≤ length message
    → job_of c.disk (put message 0 (header kind sector)) r w ≡ verdict c.disk kind sector r w
unfolding job_of
job_is c kind sector message r w hk hs l = rw (header-kind kind sector message hk l, header-sector kind sector message hs l)

-- what the backing slice is after an answer
backing-is : (c : Cfg) (a : ℕ) (backing : List ℕ) (head : ℕ) (rs ws : List Span) (string : List ℕ) (job : Job)
    → backing_after (answer c a backing head rs ws string job) backing ≡ stored c.disk job (drop 16 string) backing
unfolding backing_after answer
backing-is c a backing head rs ws string job = refl

module _ (d : Driver) (c : Cfg) {rs : List Region} {m : ℕ} {own : List ℕ} {kind r : ℕ} {bufs : List ℕ} {reads e : ℕ} {spots nums : List ℕ} (fit : LayFit d.queue rs m own kind r bufs reads e spots nums) (same_map : c.map ≡ rs) (same_queue : c.queue ≡ d.queue) (sector : ℕ) (sector-in : sector < 2 ^ 64) (message : List ℕ) (all : length message ≡ r) (backing : List ℕ) where
  -- what the table of 03 §3 makes of the request on this disk, and the bytes that it hands out
  abbrev pub job_here : Job
  job_here = verdict c.disk kind sector r (total (spans (e - reads) reads spots))

  abbrev pub given_here : List ℕ
  given_here = handed c.id (disk_of c.disk backing) (walk (get_or nums 0 0) (spans reads 0 spots) (spans (e - reads) reads spots)) job_here

  -- The device takes a request that stands as exactly this request: its type, its sector, its data, its buffers.
  pub takes : (m₂ : List ℕ) → Stands d.queue bufs spots nums reads e (put message 0 (header kind sector)) m₂ → (t a : ℕ) → Waits d.queue nums t m₂
      → serve c (still d.queue t m₂) t a backing
      ≡ answer c a backing (get_or nums 0 0) (spans reads 0 spots) (spans (e - reads) reads spots) (put message 0 (header kind sector)) job_here
  takes m₂ st t a w =
      let f = form-ok fit in
      stands-taken c fit same_map same_queue (put message 0 (header kind sector)) m₂ st t a (word 2 (d.queue.avail + 2) m₂) backing w.entry-is refl w.waits w.few
      ∙ rw (job_is c kind sector message r (total (spans (e - reads) reads spots)) (omega (arith, f.known)) sector-in (omega (arith, f.header-in)))

  -- A request that stands, is next for the device and is outstanding for the driver: the driver reads what the disk has for it, and the disk has its data.
  pub trip : (m₂ : List ℕ) → length m₂ ≡ m → Stands d.queue bufs spots nums reads e (put message 0 (header kind sector)) m₂ → (t : ℕ) → Waits d.queue nums t m₂
      → d.seen < 65536 → (own₂ : List ℕ) → d.queue.size ≤ length own₂ → outstanding d.queue.size own₂ (get_or nums 0 0) ≡ true
      → Reads d own₂ (get_or nums 0 0) spots reads e job_here given_here (memory_after (serve c (still d.queue t m₂) t d.seen backing) m₂)
      × (backing_after (serve c (still d.queue t m₂) t d.seen backing) backing ≡ stored c.disk job_here (drop 16 message) backing)
  trip m₂ long st t w seen own₂ long₂ out =
      let s = size_in fit in
      let n = fit.numbers 0 (omega (arith, writes-some fit)) in
      let string : List ℕ = put message 0 (header kind sector) in
      let x = takes m₂ st t d.seen w in (
        rw x
            (answered-reads d fit seen own₂ long₂ (get_or nums 0 0) out job_here given_here m₂
            (memory_after (answer c d.seen backing (get_or nums 0 0) (spans reads 0 spots) (spans (e - reads) reads spots) string job_here) m₂) long
            (answer-read fit c same_queue d.seen (get_or nums 0 0) backing (spans reads 0 spots) string job_here m₂ long (omega arith))),
        rw x
            (backing-is c d.seen backing (get_or nums 0 0) (spans reads 0 spots) (spans (e - reads) reads spots) string job_here
            ∙ rw (header-data kind sector message)),
      )

  -- the memory that the driver leaves when it has laid and published the request
  abbrev pub laid_mem : List ℕ → List ℕ
  laid_mem mem = published d.queue d.next (put message 0 (header kind sector)) reads e bufs spots nums mem

  -- .. as for a request that was just laid and published, and is the device's next one
  pub lay-trip : (mem : List ℕ) → length mem ≡ m → d.next < 65536 → d.seen < 65536
      → Reads d (marked (part 0 e nums) (1 + get_or nums 0 0) own) (get_or nums 0 0) spots reads e job_here given_here
      (memory_after (serve c (still d.queue d.next (laid_mem mem)) d.next d.seen backing) (laid_mem mem))
      × (backing_after (serve c (still d.queue d.next (laid_mem mem)) d.next d.seen backing) backing ≡ stored c.disk job_here (drop 16 message) backing)
  lay-trip mem long next seen =
      let string : List ℕ = put message 0 (header kind sector) in
      let whole : length string ≡ r = length-put message 0 (header kind sector) ∙ all in
      trip (laid_mem mem) (published-long fit mem string long whole d.next) (published-stands fit mem string long whole d.next) d.next
      (published-waits fit mem string long whole d.next next) seen (marked (part 0 e nums) (1 + get_or nums 0 0) own)
      (omega (arith, length_marked (part 0 e nums) (1 + get_or nums 0 0) own, fit.own-long)) (laid-outstanding fit)
