-- The whole way, over the definitions of the calls: a request is laid, served and read; and a write is read back.
use Prim.Native.Nat.{ℕ, zero, suc, ◌+◌, ◌-◌, ◌*◌, ◌/◌, ◌^◌, ◌≤◌, ◌<◌}
use native.Mathlib.Omega.{arith}
use mathlib.Core.Bool.{true, false}
use mathlib.Core.List.{List}
use mathlib.Core.Path.{◌≡◌, refl, sym, ap, ◌∙◌}
use lib.Dec.{eqb, leb}
use lib.ListN.{length, get_or, drop, length-drop}
use Rattle.std.specs.Prelude.{Option, Some, Result, Ok}
use borrow.Author.Tests.{eq-eqb, eqb-true}
use Rattle.words.specs.Layout.{descs_word}
use Rattle.model.specs.Bytes.{put, part}
use Rattle.model.specs.Memory.{Region, regions}
use Rattle.model.specs.Ring.{plus_one}
use Rattle.model.specs.Request.{verdict, status, reported}
use Rattle.model.specs.Step.{Cfg, spans, handed, disk_of}
use Rattle.model.specs.declared.Span.{Span}
use Rattle.model.specs.declared.Queue.{Queue}
use Rattle.model.specs.declared.Job.{Job}
use Rattle.model.specs.declared.Job.TheVariants.{Read, Write}
use Rattle.model.specs.declared.Disk.{Disk}
use Rattle.model.specs.declared.Phase.TheVariants.{Poll}
use Rattle.model.proofs.Lists.{length-put}
use Rattle.model.proofs.Step.{length-apply}
use Rattle.model.proofs.Tests.{both-split}
use Rattle.requests.specs.Serve.{still, total, walk, answer, stored, serve, memory_after, backing_after, Outcome}
use Rattle.requests.specs.Table.{Accepted, reads as accepts, writes as stores, flushes, tells}
use Rattle.requests.proofs.Table.{accepted-served, served-accepted}
use Rattle.requests.specs.Guest.{state_after}
use Rattle.hostiledisk.specs.Calls.{Called, untouched}
use Rattle.guarantees.specs.History.{left}
use Rattle.guarantees.specs.Follow.{Matches}
use Rattle.driver.specs.Lay.{Plan, plan, formed, header, marked, lay, lay_with, lay_stores, Lay, published as publishedBy}
use Rattle.driver.specs.Take.{used_idx, taken, own_after, released, data_of}
use Rattle.driver.specs.Fit.{LayFit}
use Rattle.driver.specs.declared.Driver.{Driver}
use Rattle.driver.specs.declared.Ask.{Ask}
use Rattle.driver.specs.declared.Answer.{Answer}
use Rattle.driver.specs.declared.Strange.{Strange}
use Rattle.driver.proofs.Fits.{plan-fits}
use Rattle.driver.proofs.Again.{plan-again, plan-long}
use Rattle.trips.specs.Stands.{Named, Stands, Waits, published}
use Rattle.trips.specs.Trip.{Reads}
use Rattle.trips.proofs.Taken.{published-stands, published-long, published-waits, more-below}
use Rattle.trips.proofs.Calls.{queue-in}
use Rattle.trips.proofs.Free.{length_marked, laid-outstanding, named_again}
use Rattle.trips.proofs.Trip.{takes, trip}
use Rattle.trips.proofs.Data.{write_read}
use Rattle.trips.proofs.Few.{stands-few}
use Rattle.trip.specs.declared.NotDone.{NotDone}
use Rattle.trip.specs.Until.{until, Served}
use Rattle.trip.proofs.Laid.{AllBytes, laid-bytes}
use Rattle.trip.proofs.Until.{until-serves, Stands as DeviceStands, stands as Stands-of}
use Rattle.trip.specs.declared.Trip.{Trip}
use Rattle.trip.specs.Round.{asked, round, written, round_of}
use Rattle.trip.specs.Honest.{Honest, device_of}
use Rattle.trip.specs.Exchange.{sent, shown_in, received, with_status, Exchange, reading, lent, after, exchange}

-- what one exchange stands on
pub record Ready (c : Cfg) (fuel : ℕ) (d : Driver) (own : List ℕ) (rs : List Region) (ask : Ask) (message bufs spots nums : List ℕ) (o : Called) : Type 0 where
  pub descs : ℕ
  pub at_rest : Matches c (length o.mem) (left o) (record { taken = d.next; answered = d.seen; descs = descs; phase = Poll }) o.backing o.chain o.stage
  pub same_queue : c.queue ≡ d.queue
  pub same_map : c.map ≡ rs
  pub next-in : d.next < 65536
  pub seen-in : d.seen < 65536
  pub sector-in : ask.sector < 2 ^ 64
  pub mem_bytes : AllBytes o.mem
  pub backing-bytes : AllBytes o.backing
  pub stage-bytes : AllBytes o.stage
  pub message-bytes : AllBytes message
  pub accepted : (plan d.queue rs (length o.mem) own ask.kind (length message) bufs ask.reads spots nums).answer ≡ Ok tt
  pub named : Named d.queue.size own
  pub enough : length bufs + 5 ≤ fuel

-- what an answer that names the request's head is taken for
received-own : (head : ℕ) (d : Driver) (len s : ℕ) (x : Result (Option Answer) Strange) (b : Option ℕ)
    → x ≡ Ok (Some (record { driver = d; head = head; len = len })) → b ≡ Some s → received head x b ≡ Ok (record { driver = d; status = s; len = len })
unfolding received with_status
received-own head d len s x b e f = rw (e, f, eq-eqb head head refl)

freed-own : (q : ℕ) (own : List ℕ) (d : Driver) (head len : ℕ) (x : Result (Option Answer) Strange) (own₂ : List ℕ)
    → x ≡ Ok (Some (record { driver = d; head = head; len = len })) → released q (1 + head) own ≡ own₂ → own_after q own x ≡ own₂
unfolding own_after
freed-own q own d head len x own₂ e f = rw e f

state-answered : (c : Cfg) (a : ℕ) (backing : List ℕ) (head : ℕ) (rs ws : List Span) (string : List ℕ) (job : Job) (t descs : ℕ)
    → state_after (answer c a backing head rs ws string job) t a descs ≡ record { taken = plus_one t; answered = plus_one a; descs = length rs + length ws; phase = Poll }
unfolding state_after answer
state-answered c a backing head rs ws string job t descs = refl

module _ (c : Cfg) (fuel : ℕ) (d : Driver) (own : List ℕ) (rs : List Region) (ask : Ask) (message bufs spots nums : List ℕ) (o : Called) (k : Ready c fuel d own rs ask message bufs spots nums o) where
  abbrev plan_here : Plan
  plan_here = plan d.queue rs (length o.mem) own ask.kind (length message) bufs ask.reads spots nums

  abbrev e : ℕ
  e = length bufs / 2

  abbrev head : ℕ
  head = get_or plan_here.nums 0 0

  fit : LayFit d.queue rs (length o.mem) own ask.kind (length message) bufs ask.reads e plan_here.spots plan_here.nums
  fit = plan-fits d.queue rs (length o.mem) own ask.kind (length message) bufs ask.reads spots nums k.accepted

  -- the driver, its own words, the message and guest memory once the request is laid and published
  abbrev laid_driver : Driver
  laid_driver = record { queue = d.queue; next = plus_one d.next; seen = d.seen }

  abbrev laid_own : List ℕ
  laid_own = marked (part 0 e plan_here.nums) (1 + head) own

  abbrev string : List ℕ
  string = put message 0 (header ask.kind ask.sector)

  abbrev laid_mem : List ℕ
  laid_mem = published d.queue d.next string ask.reads e bufs plan_here.spots plan_here.nums o.mem

  abbrev laid_all : Lay
  laid_all = record { answer = Ok (record { driver = laid_driver; head = head }); mem = laid_mem; own = laid_own; message = string; spots = plan_here.spots; nums = plan_here.nums }

  sent_is : sent d own rs o.mem ask message bufs spots nums ≡ laid_all
  unfolding sent lay lay_with shown_in publishedBy
  sent_is =
      rw (
        k.accepted,
        length-apply (lay_stores d.queue d.next string ask.reads e bufs plan_here.spots plan_here.nums) o.mem,
        queue-in fit,
      )

  abbrev left_over : Called
  left_over = until fuel (lent o laid_mem)

  exchange-is : exchange fuel d own rs ask message bufs spots nums o ≡ reading laid_driver head ask.reads e laid_all left_over
  unfolding exchange after
  exchange-is = rw sent_is

  abbrev reads : List Span
  reads = spans ask.reads 0 plan_here.spots

  abbrev writes : List Span
  writes = spans (e - ask.reads) ask.reads plan_here.spots

  abbrev job : Job
  job = verdict c.disk ask.kind ask.sector (length message) (total writes)

  abbrev given : List ℕ
  given = handed c.id (disk_of c.disk o.backing) (walk head reads writes) job

  whole : length string ≡ length message
  whole = length-put message 0 (header ask.kind ask.sector)

  stands : Stands d.queue bufs plan_here.spots plan_here.nums ask.reads e string laid_mem
  stands = published-stands fit o.mem string refl whole d.next

  waits : Waits d.queue plan_here.nums d.next laid_mem
  waits = published-waits fit o.mem string refl whole d.next k.next-in

  long : length laid_mem ≡ length o.mem
  long = published-long fit o.mem string refl whole d.next

  abbrev outcome : Outcome
  outcome = serve c (still d.queue d.next laid_mem) d.next d.seen o.backing

  outcome-is : outcome ≡ answer c d.seen o.backing head reads writes string job
  outcome-is =
      takes laid_driver c fit k.same_map k.same_queue ask.sector k.sector-in message refl o.backing laid_mem stands d.next d.seen waits

  -- (not by `c.queue` itself: a record is rewritten with its field)
  same_view : still c.queue d.next laid_mem ≡ still d.queue d.next laid_mem
  same_view = ap (λ (q : Queue). still q d.next laid_mem) k.same_queue

  served : Served c (length o.mem) d.next d.seen k.descs laid_mem o.backing outcome left_over
  served =
      rw same_view at
      (until-serves c (length o.mem) (left o) d.next d.seen k.descs fuel laid_mem k.at_rest long
      (laid-bytes d.queue d.next ask.kind ask.sector message ask.reads e bufs plan_here.spots plan_here.nums o.mem k.message-bytes k.mem_bytes)
      k.backing-bytes k.stage-bytes
      (rw same_view (omega (arith, stands-few c fit k.same_map k.same_queue string laid_mem stands d.next waits, k.enough, fit.reads_in))))

  both_ways : Reads laid_driver laid_own head plan_here.spots ask.reads e job given (memory_after outcome laid_mem)
      × (backing_after outcome o.backing ≡ stored c.disk job (drop 16 message) o.backing)
  both_ways =
      trip laid_driver c fit k.same_map k.same_queue ask.sector k.sector-in message refl o.backing laid_mem long stands d.next waits k.seen-in laid_own
      (omega (arith, length_marked (part 0 e plan_here.nums) (1 + head) own, fit.own-long)) (laid-outstanding fit)

  -- What an exchange comes to: the request's answer, and a driver and a device that can go on.
  pub record Went (x : Exchange) : Type 0 where
    pub answer-is : x.answer ≡ Ok (record { driver = record { queue = d.queue; next = plus_one d.next; seen = plus_one d.seen }; status = status job; len = reported (status job) (total writes) })
    pub own_is : x.own ≡ own
    pub spots-are : x.spots ≡ plan_here.spots
    pub nums-are : x.nums ≡ plan_here.nums
    pub reads-are : Reads laid_driver laid_own head plan_here.spots ask.reads e job given x.device.mem
    pub backing-is : x.device.backing ≡ stored c.disk job (drop 16 message) o.backing
    pub goes_on : Matches c (length o.mem) (left x.device) (record { taken = plus_one d.next; answered = plus_one d.seen; descs = length reads + length writes; phase = Poll }) x.device.backing x.device.chain x.device.stage
    pub mem_long : length x.device.mem ≡ length o.mem
    pub mem_bytes : AllBytes x.device.mem
    pub backing-bytes : AllBytes x.device.backing
    pub stage-bytes : AllBytes x.device.stage

  went-reading : Went (reading laid_driver head ask.reads e laid_all left_over)
  unfolding reading
  went-reading =
      let v = served in
      let b = both_ways in
      let r : Reads laid_driver laid_own head plan_here.spots ask.reads e job given left_over.mem = rw v.mem_is b.0 in
      let t : taken laid_driver laid_own left_over.mem (used_idx laid_driver left_over.mem)
      ≡ Ok (Some (record { driver = record { queue = d.queue; next = plus_one d.next; seen = plus_one d.seen }; head = head; len = reported (status job) (total writes) })) =
      rw r.idx-read r.answer-taken in
      record {
        answer-is = received-own head _ _ (status job) _ _ t r.status-read;
        own_is = freed-own d.queue.size laid_own _ head _ _ own t (named_again fit k.named);
        spots-are = refl;
        nums-are = refl;
        reads-are = r;
        backing-is = v.backing-is ∙ b.1;
        goes_on = rw (← (state-answered c d.seen o.backing head reads writes string job d.next k.descs), ← outcome-is) v.goes_on;
        mem_long = v.mem_long;
        mem_bytes = v.mem_bytes;
        backing-bytes = v.backing-bytes;
        stage-bytes = v.stage-bytes;
      }

  pub went : Went (exchange fuel d own rs ask message bufs spots nums o)
  went = rw exchange-is went-reading

-- the forms of a write and of a read
write-form : (d : Disk) (type sector r w : ℕ) (job : Job) → Accepted d type sector r w job → type ≡ 1 → (16 ≤ r) × (w ≡ 1)
write-form d type sector r w job (accepts t l f) e = absurd (omega arith)
write-form d type sector r w job (stores t l o f n) e = (l, o)
write-form d type sector r w job (flushes t l o) e = absurd (omega arith)
write-form d type sector r w job (tells t l o) e = absurd (omega arith)

read-form : (d : Disk) (type sector r w : ℕ) (job : Job) → Accepted d type sector r w job → type ≡ 0 → r ≡ 16
read-form d type sector r w job (accepts t l f) e = l
read-form d type sector r w job (stores t l o f n) e = absurd (omega arith)
read-form d type sector r w job (flushes t l o) e = absurd (omega arith)
read-form d type sector r w job (tells t l o) e = absurd (omega arith)

abbrev largest : Disk
largest = record { start = 0; sectors = 2 ^ 32; ro = 0 }

form-accepted : (kind r w : ℕ) → formed kind r w ≡ true → Accepted largest kind 0 r w (verdict largest kind 0 r w)
unfolding formed
form-accepted kind r w h =
    let p = both-split (leb 1 w) (eqb (status (verdict largest kind 0 r w)) 0) h in
    served-accepted largest kind 0 r w (eqb-true (status (verdict largest kind 0 r w)) 0 p.1)

-- buffers are as long where they lie as where they were asked for
total-same : (bufs spots : List ℕ) (n i : ℕ) → ((j : ℕ) → i ≤ j → j < i + n → get_or spots (2 * j + 1) 0 ≡ get_or bufs (2 * j + 1) 0) → total (spans n i spots) ≡ total (spans n i bufs)
unfolding total spans
total-same bufs spots zero i f = refl
total-same bufs spots (suc n) i f =
    let a = f i (omega arith) (omega arith) in
    let b = total-same bufs spots n (suc i) (λ j x y. f j (omega arith) (omega arith)) in
    omega arith

-- A write, read back: both have status 0, and the bytes that come back are those that were written. Bytes are below 256, and a sector is a u64.
module _ (n : ℕ) (d : Driver) (own map : List ℕ) (sector : ℕ) (message bufs : List ℕ) (reads₁ : ℕ) (header₂ bufs₂ : List ℕ) (reads₂ : ℕ) (out spots nums : List ℕ) (o : Called) (h : Honest o.state o.mem o.backing o.chain o.stage n d own map sector message bufs reads₁ header₂ bufs₂ reads₂ out spots nums) (sector-in : sector < 2 ^ 64) (mem_bytes : AllBytes o.mem) (backing-bytes : AllBytes o.backing) (stage-bytes : AllBytes o.stage) (message-bytes : AllBytes message) (header-all : AllBytes header₂) where
  abbrev dev : Cfg
  dev = device_of o.state

  dev-stands : DeviceStands dev (length o.mem) (left o)
  dev-stands = Stands-of dev (length o.mem) (left o) (record { taken = d.next; answered = d.seen; descs = get_or o.state descs_word 0; phase = Poll }) o.backing o.chain o.stage h.at_rest

  ready₁ : Ready dev n d own (regions map) (asked 1 sector reads₁) message bufs spots nums o
  ready₁ =
      record {
        descs = get_or o.state descs_word 0;
        at_rest = h.at_rest;
        same_queue = h.same_queue;
        same_map = h.same_map;
        next-in = omega (arith, dev-stands.taken-low, h.at_rest.taken_is);
        seen-in = omega (arith, dev-stands.answered-low, h.at_rest.answered-is);
        sector-in = sector-in;
        mem_bytes = mem_bytes;
        backing-bytes = backing-bytes;
        stage-bytes = stage-bytes;
        message-bytes = message-bytes;
        accepted = h.write-accepted;
        named = h.own-named;
        enough = h.enough;
      }

  abbrev first : Exchange
  first = exchange n d own (regions map) (asked 1 sector reads₁) message bufs spots nums o

  went₁ : Went dev n d own (regions map) (asked 1 sector reads₁) message bufs spots nums o ready₁ first
  went₁ = went dev n d own (regions map) (asked 1 sector reads₁) message bufs spots nums o ready₁

  abbrev plan₁ : Plan
  plan₁ = plan d.queue (regions map) (length o.mem) own 1 (length message) bufs reads₁ spots nums

  fit₁ : LayFit d.queue (regions map) (length o.mem) own 1 (length message) bufs reads₁ (length bufs / 2) plan₁.spots plan₁.nums
  fit₁ = plan-fits d.queue (regions map) (length o.mem) own 1 (length message) bufs reads₁ spots nums h.write-accepted

  abbrev writes₁ : ℕ
  writes₁ = total (spans (length bufs / 2 - reads₁) reads₁ plan₁.spots)

  accepted₁ : Accepted dev.disk 1 sector (length message) writes₁ (Write sector)
  accepted₁ =
      let f = write-form largest 1 0 (length message) writes₁ _ (form-accepted 1 (length message) writes₁ fit₁.form) refl in
      stores refl f.0 f.1 h.sectors-fit h.writable

  status₁ : status (verdict dev.disk 1 sector (length message) writes₁) ≡ 0
  status₁ = let s = accepted-served dev.disk 1 sector (length message) writes₁ (Write sector) accepted₁ in rw s.0 s.1

  -- the second request, on what the first has left
  abbrev o₂ : Called
  o₂ = lent first.device first.device.mem

  abbrev d₂ : Driver
  d₂ = record { queue = d.queue; next = plus_one d.next; seen = plus_one d.seen }

  ready₂ : Ready dev n d₂ first.own (regions map) (asked 0 sector reads₂) header₂ bufs₂ first.spots first.nums o₂
  ready₂ =
      let w = went₁ in
      let l = plan-long d.queue (regions map) (length o.mem) own 1 (length message) bufs reads₁ spots nums in
      record {
        descs = length (spans reads₁ 0 plan₁.spots) + length (spans (length bufs / 2 - reads₁) reads₁ plan₁.spots);
        at_rest = rw w.mem_long w.goes_on;
        same_queue = h.same_queue;
        same_map = h.same_map;
        next-in = more-below d.next;
        seen-in = more-below d.seen;
        sector-in = sector-in;
        mem_bytes = w.mem_bytes;
        backing-bytes = w.backing-bytes;
        stage-bytes = w.stage-bytes;
        message-bytes = header-all;
        accepted = rw (w.mem_long, w.own_is, w.spots-are, w.nums-are)
            (sym
            (plan-again d.queue (regions map) (length o.mem) own 0 (length header₂) bufs₂ reads₂ spots nums plan₁.spots plan₁.nums (sym l.0) (sym l.1))
            ∙ h.read-accepted);
        named = rw w.own_is h.own-named;
        enough = h.enough₂;
      }

  abbrev second : Exchange
  second = exchange n d₂ first.own (regions map) (asked 0 sector reads₂) header₂ bufs₂ first.spots first.nums o₂

  went₂ : Went dev n d₂ first.own (regions map) (asked 0 sector reads₂) header₂ bufs₂ first.spots first.nums o₂ ready₂ second
  went₂ = went dev n d₂ first.own (regions map) (asked 0 sector reads₂) header₂ bufs₂ first.spots first.nums o₂ ready₂

  abbrev plan₂ : Plan
  plan₂ = plan d.queue (regions map) (length first.device.mem) first.own 0 (length header₂) bufs₂ reads₂ first.spots first.nums

  fit₂ : LayFit d.queue (regions map) (length first.device.mem) first.own 0 (length header₂) bufs₂ reads₂ (length bufs₂ / 2) plan₂.spots plan₂.nums
  fit₂ = plan-fits d.queue (regions map) (length first.device.mem) first.own 0 (length header₂) bufs₂ reads₂ first.spots first.nums ready₂.accepted

  abbrev writes₂ : ℕ
  writes₂ = total (spans (length bufs₂ / 2 - reads₂) reads₂ plan₂.spots)

  long₂ : writes₂ ≡ length out + 1
  long₂ =
      total-same bufs₂ plan₂.spots (length bufs₂ / 2 - reads₂) reads₂ (λ j x y. (fit₂.each j (omega arith)).len_is)
      ∙ h.read-long

  accepted₂ : Accepted dev.disk 0 sector (length header₂) writes₂ (Read sector)
  accepted₂ =
      let f = read-form largest 0 0 (length header₂) writes₂ _ (form-accepted 0 (length header₂) writes₂ fit₂.form) refl in
      let e : writes₂ - 1 ≡ length message - 16 = omega (arith, long₂, h.out-long) in
      accepts refl f (rw e h.sectors-fit)

  status₂ : status (verdict dev.disk 0 sector (length header₂) writes₂) ≡ 0
  status₂ = let s = accepted-served dev.disk 0 sector (length header₂) writes₂ (Read sector) accepted₂ in rw s.0 s.1

  sent-long : length (drop 16 message) ≡ length message - 16
  sent-long = length-drop 16 message

  read_back : data_of second.device.mem second.spots reads₂ (length bufs₂ / 2) out ≡ drop 16 message
  read_back =
      let w = went₂ in
      rw w.spots-are
      (write_read dev o.backing dev-stands.disk-in sector (length message) writes₁ (drop 16 message) sent-long status₁ first.device.backing went₁.backing-is _ _ _
      plan₂.spots reads₂ (length bufs₂ / 2) _ second.device.mem (length header₂) w.reads-are status₂ out (h.out-long ∙ sym sent-long) (omega (arith, long₂)))

  pub round_trip : ((round n d own (regions map) sector message bufs reads₁ header₂ bufs₂ reads₂ out spots nums o).answer ≡ Ok (record { write = 0; read = 0 }))
      × ((round n d own (regions map) sector message bufs reads₁ header₂ bufs₂ reads₂ out spots nums o).out ≡ drop 16 message)
  unfolding round written round_of
  round_trip = rw (went₁.answer-is, went₂.answer-is, status₁, status₂) (refl, read_back)

-- .. as the contract of `round_trip` has it
pub and-honest : (state mem backing chain stage : List ℕ) (n : ℕ) (d : Driver) (own map : List ℕ) (sector : ℕ) (message bufs : List ℕ) (reads₁ : ℕ) (header₂ bufs₂ : List ℕ) (reads₂ : ℕ) (out spots nums : List ℕ) (r : Result Trip NotDone) (after₂ : List ℕ)
    → (r ≡ (round n d own (regions map) sector message bufs reads₁ header₂ bufs₂ reads₂ out spots nums (untouched 1 state mem backing chain stage)).answer)
    × (after₂ ≡ (round n d own (regions map) sector message bufs reads₁ header₂ bufs₂ reads₂ out spots nums (untouched 1 state mem backing chain stage)).out)
    → sector < 2 ^ 64 → AllBytes mem → AllBytes backing → AllBytes stage → AllBytes message → AllBytes header₂
    → (r ≡ (round n d own (regions map) sector message bufs reads₁ header₂ bufs₂ reads₂ out spots nums (untouched 1 state mem backing chain stage)).answer)
    × ((after₂ ≡ (round n d own (regions map) sector message bufs reads₁ header₂ bufs₂ reads₂ out spots nums (untouched 1 state mem backing chain stage)).out)
    × (Honest state mem backing chain stage n d own map sector message bufs reads₁ header₂ bufs₂ reads₂ out spots nums → (r ≡ Ok (record { write = 0; read = 0 })) × (after₂ ≡ drop 16 message)))
and-honest state mem backing chain stage n d own map sector message bufs reads₁ header₂ bufs₂ reads₂ out spots nums r after₂ a sector-in mb bb sb gb hb = (
  a.0,
  (
    a.1,
    λ h. let t = round_trip n d own map sector message bufs reads₁ header₂ bufs₂ reads₂ out spots nums (untouched 1 state mem backing chain stage) h sector-in mb bb sb gb hb in
        (a.0 ∙ t.0, a.1 ∙ t.1),
  ),
)
