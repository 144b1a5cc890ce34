-- What an accepted request of each type does with its data: read off the one row of the table that gives it status 0.
use Prim.Native.Nat.{ℕ, ◌+◌, ◌-◌, ◌*◌, ◌≤◌, min}
use native.Mathlib.Omega.{arith}
use mathlib.Core.Path.{◌≡◌, refl, ap, ◌∙◌}
use mathlib.Core.List.{List}
use lib.ListN.{length}
use Rattle.model.specs.Bytes.{put, part}
use Rattle.model.specs.Request.{verdict, status}
use Rattle.model.specs.Step.{Cfg, spans, handed, disk_of}
use Rattle.model.specs.declared.Span.{Span}
use Rattle.model.specs.declared.Disk.{Disk}
use Rattle.model.specs.declared.Walk.{Walk}
use Rattle.model.specs.declared.Job.{Job}
use Rattle.model.specs.declared.Job.TheVariants.{Failed, Unsupported, Done, Read, Write, Identity}
use Rattle.model.proofs.Lists.{length-put, length_part, part-put, part-put-in, take_part}
use Rattle.requests.specs.Serve.{stored, total, walk}
use Rattle.requests.specs.Table.{Fit, Accepted, reads as accepts, writes, flushes, tells}
use Rattle.requests.proofs.Table.{served-accepted}
use Rattle.driver.specs.Take.{data_of}
use Rattle.driver.specs.declared.Driver.{Driver}
use Rattle.trips.specs.Trip.{Reads}

-- the row of each type that has status 0
record Row (d : Disk) (type sector r w : ℕ) (job : Job) : Type 0 where
  of-in : type ≡ 0 → (job ≡ Read sector) × Fit (w - 1) sector d.sectors
  of-out : type ≡ 1 → (job ≡ Write sector) × Fit (r - 16) sector d.sectors
  of-id : type ≡ 8 → (job ≡ Identity) × (w ≡ 21)

row_of : (d : Disk) (type sector r w : ℕ) (job : Job) → Accepted d type sector r w job → Row d type sector r w job
row_of d type sector r w job (accepts t l f) = record { of-in = λ e. (refl, f); of-out = λ e. absurd (omega arith); of-id = λ e. absurd (omega arith) }
row_of d type sector r w job (writes t l o f n) = record { of-in = λ e. absurd (omega arith); of-out = λ e. (refl, f); of-id = λ e. absurd (omega arith) }
row_of d type sector r w job (flushes t l o) = record { of-in = λ e. absurd (omega arith); of-out = λ e. absurd (omega arith); of-id = λ e. absurd (omega arith) }
row_of d type sector r w job (tells t l o) = record { of-in = λ e. absurd (omega arith); of-out = λ e. absurd (omega arith); of-id = λ e. (refl, o) }

row : (d : Disk) (type sector r w : ℕ) → status (verdict d type sector r w) ≡ 0 → Row d type sector r w (verdict d type sector r w)
row d type sector r w h = row_of d type sector r w (verdict d type sector r w) (served-accepted d type sector r w h)

-- a range of sectors that fits is inside the disk
fit-in : (n sector c : ℕ) → Fit n sector c → 512 * sector + n ≤ 512 * c
fit-in n sector c f = omega (arith, f.whole, f.from, f.upto)

module _ (c : Cfg) (backing : List ℕ) (room : c.disk.start + 512 * c.disk.sectors ≤ length backing) (sector r : ℕ) where
  disk-long : length (disk_of c.disk backing) ≡ 512 * c.disk.sectors
  disk-long = length_part c.disk.start (512 * c.disk.sectors) backing room

  -- IN with status 0 hands out the disk's bytes from its sector on, one less than the writable bytes.
  pub in-hands : (k : Walk) → status (verdict c.disk 0 sector r k.w) ≡ 0
      → (handed c.id (disk_of c.disk backing) k (verdict c.disk 0 sector r k.w) ≡ part (512 * sector) (k.w - 1) (disk_of c.disk backing))
      × (length (handed c.id (disk_of c.disk backing) k (verdict c.disk 0 sector r k.w)) ≡ k.w - 1)
  unfolding handed
  in-hands k h =
      let p = (row c.disk 0 sector r k.w h).of-in refl in
      let i = fit-in (k.w - 1) sector c.disk.sectors p.1 in
      (rw p.0, rw p.0 (length_part (512 * sector) (k.w - 1) (disk_of c.disk backing) (omega (arith, disk-long))))

  -- GET_ID with status 0 hands out the disk's identity.
  pub id-hands : (k : Walk) → length c.id ≡ 20 → status (verdict c.disk 8 sector r k.w) ≡ 0
      → (handed c.id (disk_of c.disk backing) k (verdict c.disk 8 sector r k.w) ≡ c.id)
      × (length (handed c.id (disk_of c.disk backing) k (verdict c.disk 8 sector r k.w)) ≡ k.w - 1)
  unfolding handed
  id-hands k n h =
      let p = (row c.disk 8 sector r k.w h).of-id refl in
      (rw p.0, rw p.0 (omega (arith, p.1)))

  -- OUT with status 0 changes the disk's bytes from its sector on, and no others, to what was sent ..
  pub out-stores : (w : ℕ) (sent : List ℕ) → status (verdict c.disk 1 sector r w) ≡ 0
      → disk_of c.disk (stored c.disk (verdict c.disk 1 sector r w) sent backing) ≡ put (disk_of c.disk backing) (512 * sector) sent
  unfolding stored
  out-stores w sent h =
      let p = (row c.disk 1 sector r w h).of-out refl in
      rw p.0 (part-put-in backing c.disk.start (512 * c.disk.sectors) (512 * sector) sent)

  -- .. so what was written is what is there to be read.
  pub out-then-in : (w : ℕ) (sent : List ℕ) → length sent ≡ r - 16 → status (verdict c.disk 1 sector r w) ≡ 0
      → part (512 * sector) (r - 16) (disk_of c.disk (stored c.disk (verdict c.disk 1 sector r w) sent backing)) ≡ sent
  out-then-in w sent n h =
      let p = (row c.disk 1 sector r w h).of-out refl in
      let i = fit-in (r - 16) sector c.disk.sectors p.1 in
      rw (out-stores w sent h) (part-put (disk_of c.disk backing) (512 * sector) (r - 16) sent n (omega (arith, disk-long)))

  -- The driver that reads the answer of an IN with status 0 has the disk's bytes, as many as it asks for.
  pub in-read : (d : Driver) (own : List ℕ) (head : ℕ) (spots : List ℕ) (reads e : ℕ) (rs : List Span) (mem : List ℕ)
      → Reads d own head spots reads e (verdict c.disk 0 sector r (total (spans (e - reads) reads spots)))
      (handed c.id (disk_of c.disk backing) (walk head rs (spans (e - reads) reads spots)) (verdict c.disk 0 sector r (total (spans (e - reads) reads spots)))) mem
      → status (verdict c.disk 0 sector r (total (spans (e - reads) reads spots))) ≡ 0 → (out : List ℕ) → length out ≤ total (spans (e - reads) reads spots) - 1
      → data_of mem spots reads e out ≡ part (512 * sector) (length out) (disk_of c.disk backing)
  unfolding walk
  in-read d own head spots reads e rs mem a h out l =
      let k : Walk = walk head rs (spans (e - reads) reads spots) in
      let p = in-hands k h in
      let z : min (length out) (total (spans (e - reads) reads spots) - 1) ≡ length out = omega arith in
      a.data-read p.1 out l
      ∙ rw p.0 (rw z at (take_part (512 * sector) (total (spans (e - reads) reads spots) - 1) (length out) (disk_of c.disk backing)))

-- the backing slice keeps its length
length-stored : (d : Disk) (job : Job) (sent backing : List ℕ) → length (stored d job sent backing) ≡ length backing
unfolding stored
length-stored d Failed sent backing = refl
length-stored d Unsupported sent backing = refl
length-stored d Done sent backing = refl
length-stored d (Read s) sent backing = refl
length-stored d (Write s) sent backing = length-put backing (d.start + 512 * s) sent
length-stored d Identity sent backing = refl

-- What a driver wrote is what it reads: an OUT with status 0 has left the backing slice, and now the answer of an IN of the same sectors is read.
pub write_read : (c : Cfg) (backing : List ℕ) → c.disk.start + 512 * c.disk.sectors ≤ length backing → (sector r w : ℕ) (sent : List ℕ)
    → length sent ≡ r - 16 → status (verdict c.disk 1 sector r w) ≡ 0 → (later : List ℕ) → later ≡ stored c.disk (verdict c.disk 1 sector r w) sent backing
    → (d : Driver) (own : List ℕ) (head : ℕ) (spots : List ℕ) (reads e : ℕ) (rs : List Span) (mem : List ℕ) (r₂ : ℕ)
    → Reads d own head spots reads e (verdict c.disk 0 sector r₂ (total (spans (e - reads) reads spots)))
    (handed c.id (disk_of c.disk later) (walk head rs (spans (e - reads) reads spots)) (verdict c.disk 0 sector r₂ (total (spans (e - reads) reads spots)))) mem
    → status (verdict c.disk 0 sector r₂ (total (spans (e - reads) reads spots))) ≡ 0
    → (out : List ℕ) → length out ≡ length sent → length out ≤ total (spans (e - reads) reads spots) - 1 → data_of mem spots reads e out ≡ sent
write_read c backing room sector r w sent n h later el d own head spots reads e rs mem r₂ a g out i l =
    let x : length later ≡ length backing = ap length el ∙ length-stored c.disk (verdict c.disk 1 sector r w) sent backing in
    let y : length out ≡ r - 16 = i ∙ n in
    in-read c later (omega arith) sector r₂ d own head spots reads e rs mem a g out l ∙ rw (y, el) (out-then-in c backing room sector r w sent n h)
