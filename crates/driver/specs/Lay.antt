-- Laying a request (03 §7): what the driver refuses, and what it writes. A request is a type, a sector, the message (16 bytes for the header, then
-- the data for the disk) and its buffers, two words each, guest address and length: the first `reads` of them readable, the others writable.
use Rattle.std.specs.Prelude.{ℕ, zero, suc, ◌+◌, ◌-◌, ◌*◌, ◌/◌, ◌%◌, ◌^◌, min, Bool, true, false, List, [], ◌∷◌, ◌++◌, ◌≡◌, leb, ltb, eqb, get_or, length, take, set, Option, Some, None, Result, Ok, Err}
use Rattle.model.specs.Pick.{pick, both}
use Rattle.model.specs.Bytes.{put, part, bytes}
use Rattle.model.specs.Memory.{Region, regions, memory_code, overlap, sound, locate}
use Rattle.model.specs.Ring.{queue_size_ok, areas, plus_one}
use Rattle.model.specs.Request.{verdict, status}
use Rattle.model.specs.SetUp.{number as refusal_number}
use Rattle.model.specs.Step.{Store, apply, scatter, spans}
use Rattle.model.specs.declared.Span.{Span}
use Rattle.model.specs.declared.Queue.{Queue}
use Rattle.model.specs.declared.Refusal.{Refusal}
use Rattle.requests.specs.Serve.{total}
use Rattle.driver.specs.declared.Driver.{Driver}
use Rattle.driver.specs.declared.Laid.{Laid}
use Rattle.driver.specs.declared.NotLaid.{NotLaid}
use Rattle.driver.specs.declared.NotLaid.TheVariants.{Memory, Counts, Outside, Form, Overlap, TooFew}

-- "60 this memory is not the queue's · 61 the numbers of buffers · 62 a buffer isn't in memory · 63 no request that a disk could accept · 64 buffers
-- overlap each other or an area of the queue · 65 too few free descriptors"
abbrev pub number : NotLaid → ℕ
number Memory = 60
number Counts = 61
number Outside = 62
number Form = 63
number Overlap = 64
number TooFew = 65

-- "The first 16 readable bytes are the header: type u32, reserved u32 (ignored), sector u64."
unfoldable pub header : ℕ → ℕ → List ℕ
header kind sector = bytes 4 kind ++ (bytes 4 0 ++ bytes 8 sector)

-- 01 §2: "A descriptor: addr u64, len u32, flags u16, next u16."
unfoldable pub descriptor : ℕ → ℕ → ℕ → ℕ → List ℕ
descriptor addr len flags nx = bytes 8 addr ++ (bytes 4 len ++ (bytes 2 flags ++ bytes 2 nx))

-- "Flag 1 (NEXT): next names the following descriptor of the chain. Flag 2 (WRITE): the device may write the buffer"
unfoldable pub flags_of : Bool → Bool → ℕ
flags_of readable last = pick readable (pick last 0 1) (pick last 2 3)

-- the last one's next is 0
unfoldable pub next_of : Bool → ℕ → ℕ
next_of last n = pick last 0 n

-- buffer i of e, with descriptor number i of those chosen
unfoldable pub link : List ℕ → List ℕ → ℕ → ℕ → ℕ → ℕ → Store
link bufs nums desc reads e i =
    record {
      to = desc + 16 * get_or nums i 0;
      bytes = descriptor (get_or bufs (2 * i) 0) (get_or bufs (2 * i + 1) 0) (flags_of (ltb i reads) (eqb (i + 1) e)) (next_of (eqb (i + 1) e) (get_or nums (i + 1) 0));
    }

-- n of them, from buffer i on
unfoldable pub links : List ℕ → List ℕ → ℕ → ℕ → ℕ → ℕ → ℕ → List Store
links bufs nums desc reads e zero i = []
links bufs nums desc reads e (suc n) i = link bufs nums desc reads e i ∷ links bufs nums desc reads e n (suc i)

-- The driver's own words, one for each descriptor: 0, or 1 + the head of the request that has it. The free ones' numbers, lowest first.
unfoldable pub free_from : ℕ → List ℕ → List ℕ
free_from n [] = []
free_from n (o ∷ os) = pick (eqb o 0) (n ∷ free_from (suc n) os) (free_from (suc n) os)

abbrev pub free : ℕ → List ℕ → List ℕ
free q own = free_from 0 (take q own)

-- descriptor i, whose word is o, where k of n are noted already
unfoldable pub noted : ℕ → ℕ → ℕ → ℕ → List ℕ
noted o i n k = pick (both (eqb o 0) (ltb k n)) (i ∷ []) []

-- these descriptors belong to a request now
unfoldable pub marked : List ℕ → ℕ → List ℕ → List ℕ
marked [] v own = own
marked (n ∷ ns) v own = marked ns v (set own n v)

-- a buffer in memory; its length is a descriptor's u32
unfoldable pub spot_of : List Region → ℕ → ℕ → Option ℕ
spot_of rs addr len = pick (leb len 4294967295) (locate rs addr len) None

unfoldable pub is_at : Option ℕ → Bool
is_at (Some x) = true
is_at None = false

unfoldable pub place_of : Option ℕ → ℕ
place_of (Some x) = x
place_of None = 0

abbrev pub spot_at : List Region → List ℕ → ℕ → Option ℕ
spot_at rs bufs i = spot_of rs (get_or bufs (2 * i) 0) (get_or bufs (2 * i + 1) 0)

-- n buffers from buffer i on are in memory ..
unfoldable pub in_memory : List Region → List ℕ → ℕ → ℕ → Bool
in_memory rs bufs zero i = true
in_memory rs bufs (suc n) i = pick (is_at (spot_at rs bufs i)) (in_memory rs bufs n (suc i)) false

-- .. and their spots, two words each, slice offset and length, as far as they are in memory
unfoldable pub settled : List Region → List ℕ → ℕ → ℕ → List ℕ → List ℕ
settled rs bufs zero i spots = spots
settled rs bufs (suc n) i spots =
    pick (is_at (spot_at rs bufs i)) (settled rs bufs n (suc i) (put spots (2 * i) (place_of (spot_at rs bufs i) ∷ get_or bufs (2 * i + 1) 0 ∷ []))) spots

-- the three areas, as spots behind the buffers' own
unfoldable pub area_words : Queue → List ℕ
area_words q = q.desc ∷ (16 * q.size) ∷ q.avail ∷ (6 + 2 * q.size) ∷ q.used ∷ (6 + 8 * q.size) ∷ []

abbrev pub span : ℕ → ℕ → Span
span at len = record { at = at; len = len }

-- no two have a byte of the slice in common
unfoldable pub clear_of : Span → List Span → Bool
clear_of s [] = true
clear_of s (t ∷ ss) = pick (overlap s.at s.len t.at t.len) false (clear_of s ss)

unfoldable pub separate : List Span → Bool
separate [] = true
separate (s ∷ ss) = pick (clear_of s ss) (separate ss) false

-- 03 §3: there is a writable byte for the status, and some disk accepts a request of this type with r readable and w writable bytes: the largest
-- one, at sector 0
unfoldable pub formed : ℕ → ℕ → ℕ → Bool
formed kind r w = both (leb 1 w) (eqb (status (verdict (record { start = 0; sectors = 2 ^ 32; ro = 0 }) kind 0 r w)) 0)

-- bytes of some buffers; 2,097,153 stands for all that is more than any request may have
abbrev pub most : ℕ
most = 2097152

unfoldable pub measured : List Span → ℕ
measured ss = min (total ss) (most + 1)

unfoldable pub form_ok : ℕ → ℕ → List ℕ → ℕ → ℕ → Bool
form_ok kind r spots reads e =
    both (eqb (measured (spans reads 0 spots)) r) (formed kind (measured (spans reads 0 spots)) (measured (spans (e - reads) reads spots)))

-- the queue is one that lies in a memory of m bytes with this map, and the driver's own words are enough
unfoldable pub queue_in : Queue → ℕ → Bool
queue_in q m =
    both (queue_size_ok q.size)
    (both (leb (q.desc + 16 * q.size) m) (both (leb (q.avail + (6 + 2 * q.size)) m) (leb (q.used + (6 + 8 * q.size)) m)))

unfoldable pub ready : Queue → List Region → ℕ → ℕ → Bool
ready q rs m own = both (sound m rs) (both (queue_in q m) (leb q.size own))

-- whole buffers, at most as many as the queue has descriptors, and private memory for them
unfoldable pub counts_ok : ℕ → ℕ → ℕ → ℕ → ℕ → Bool
counts_ok q words reads spots nums =
    both (eqb (words % 2) 0)
    (both (leb (words / 2) q) (both (leb reads (words / 2)) (both (leb (2 * (words / 2) + 6) spots) (leb (words / 2) nums))))

-- What laying answers before it writes, and what it has made of the private memory by then.
pub record Plan : Type 0 where
  pub answer : Result Unit NotLaid
  pub spots : List ℕ
  pub nums : List ℕ

abbrev pub planned : Result Unit NotLaid → List ℕ → List ℕ → Plan
planned answer spots nums = record { answer = answer; spots = spots; nums = nums }

unfoldable pub plan_on : ℕ → List ℕ → ℕ → ℕ → ℕ → ℕ → List ℕ → List ℕ → Plan
plan_on q own kind r reads e spots nums =
    pick (form_ok kind r spots reads e)
    (pick (separate (spans (e + 3) 0 spots))
    (planned (pick (leb e (length (free q own))) (Ok tt) (Err TooFew)) spots (put nums 0 (take e (free q own))))
    (planned (Err Overlap) spots nums))
    (planned (Err Form) spots nums)

-- the spots of a request's e buffers, the areas' behind them
unfoldable pub spots_of : Queue → List Region → List ℕ → ℕ → List ℕ → List ℕ
spots_of q rs bufs e spots = put (settled rs bufs e 0 spots) (2 * e) (area_words q)

-- m bytes of memory, r of message
unfoldable pub plan : Queue → List Region → ℕ → List ℕ → ℕ → ℕ → List ℕ → ℕ → List ℕ → List ℕ → Plan
plan q rs m own kind r bufs reads spots nums =
    pick (ready q rs m (length own))
    (pick (counts_ok q.size (length bufs) reads (length spots) (length nums))
    (pick (in_memory rs bufs (length bufs / 2) 0)
    (plan_on q.size own kind r reads (length bufs / 2) (spots_of q rs bufs (length bufs / 2) spots) nums)
    (planned (Err Outside) (settled rs bufs (length bufs / 2) 0 spots) nums))
    (planned (Err Counts) spots nums))
    (planned (Err Memory) spots nums)

-- the contract of `plan`: the answer and the private memory afterwards
pub record PlanIs (p : Plan) (r : Result Unit NotLaid) (spots nums : List ℕ) : Type 0 where
  pub answer-is : r ≡ p.answer
  pub spots-are : spots ≡ p.spots
  pub nums-are : nums ≡ p.nums

-- the place of available entry number n
abbrev pub avail_at : Queue → ℕ → ℕ
avail_at q n = q.avail + (4 + 2 * (n % q.size))

-- What laying writes to memory, in this order: the message over the readable buffers, the descriptors, the head into the available ring.
-- idx is another call's: a device on another processor must see the entry first.
unfoldable pub lay_stores : Queue → ℕ → List ℕ → ℕ → ℕ → List ℕ → List ℕ → List ℕ → List Store
lay_stores q nx message reads e bufs spots nums =
    scatter (spans reads 0 spots) message
    ++ (links bufs nums q.desc reads e e 0 ++ (record { to = avail_at q nx; bytes = bytes 2 (get_or nums 0 0) } ∷ []))

-- what laying leaves in every lent slice, and the driver afterwards
pub record Lay : Type 0 where
  pub answer : Result Laid NotLaid
  pub mem : List ℕ
  pub own : List ℕ
  pub message : List ℕ
  pub spots : List ℕ
  pub nums : List ℕ

unfoldable pub lay_with : Driver → List ℕ → List ℕ → ℕ → ℕ → List ℕ → List ℕ → ℕ → Plan → Result Unit NotLaid → Lay
lay_with d own mem kind sector message bufs reads p (Ok _) =
    record {
      answer = Ok (record { driver = record { queue = d.queue; next = plus_one d.next; seen = d.seen }; head = get_or p.nums 0 0 });
      mem = apply (lay_stores d.queue d.next (put message 0 (header kind sector)) reads (length bufs / 2) bufs p.spots p.nums) mem;
      own = marked (part 0 (length bufs / 2) p.nums) (1 + get_or p.nums 0 0) own;
      message = put message 0 (header kind sector);
      spots = p.spots;
      nums = p.nums;
    }
lay_with d own mem kind sector message bufs reads p (Err e) =
    record { answer = Err e; mem = mem; own = own; message = message; spots = p.spots; nums = p.nums }

abbrev pub lay_on : Driver → List ℕ → List ℕ → ℕ → ℕ → List ℕ → List ℕ → ℕ → Plan → Lay
lay_on d own mem kind sector message bufs reads p = lay_with d own mem kind sector message bufs reads p p.answer

unfoldable pub lay : Driver → List ℕ → List Region → List ℕ → ℕ → ℕ → List ℕ → List ℕ → ℕ → List ℕ → List ℕ → Lay
lay d own rs mem kind sector message bufs reads spots nums =
    lay_on d own mem kind sector message bufs reads (plan d.queue rs (length mem) own kind (length message) bufs reads spots nums)

-- the contract of `lay`: the answer, and every lent slice afterwards
pub record LayIs (x : Lay) (r : Result Laid NotLaid) (mem own message spots nums : List ℕ) : Type 0 where
  pub answer-is : r ≡ x.answer
  pub mem_is : mem ≡ x.mem
  pub own_is : own ≡ x.own
  pub message-is : message ≡ x.message
  pub spots-are : spots ≡ x.spots
  pub nums-are : nums ≡ x.nums

-- idx of the available ring becomes the driver's next, where this memory is the queue's
unfoldable pub publish_answer : Driver → ℕ → Result Unit NotLaid
publish_answer d m = pick (queue_in d.queue m) (Ok tt) (Err Memory)

unfoldable pub published : Driver → List ℕ → List ℕ
published d mem = pick (queue_in d.queue (length mem)) (put mem (d.queue.avail + 2) (bytes 2 d.next)) mem

-- set-up: the refusals of hd_memory and hd_enable_at, in their order, or a driver with both counts at start
unfoldable pub attached_with : ℕ → Result Queue Refusal → Result Driver ℕ
attached_with start (Err e) = Err (refusal_number e)
attached_with start (Ok q) = pick (leb 65536 start) (Err 46) (Ok (record { queue = q; next = start; seen = start }))

unfoldable pub attached : List ℕ → ℕ → ℕ → ℕ → ℕ → ℕ → ℕ → Result Driver ℕ
attached words m size desc avail used start =
    pick (eqb (memory_code m words) 0) (attached_with start (areas (regions words) size desc avail used)) (Err (memory_code m words))

-- .. with the number of what it refuses (each refusal has its own)
abbrev pub told : Result Driver Refusal → Result Driver ℕ
told (Ok d) = Ok d
told (Err e) = Err (refusal_number e)
