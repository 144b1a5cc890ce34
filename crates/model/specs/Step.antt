-- The step (01 §3 to §5): what one call fetches, becomes, keeps, writes and answers. The step schedule S1 to S7 cites the same rows.
use Rattle.std.specs.Prelude.{ℕ, zero, suc, ◌+◌, ◌-◌, ◌*◌, ◌%◌, min, Bool, List, [], ◌∷◌, ◌++◌, ltb, eqb, get_or, take, drop}
use Rattle.model.specs.Pick.{pick}
use Rattle.model.specs.Bytes.{put, part, word, bytes}
use Rattle.model.specs.Memory.{Region}
use Rattle.model.specs.Ring.{polled, headed, plus_one}
use Rattle.model.specs.Chain.{desc_at, tested, described, descs_after, keeps}
use Rattle.model.specs.Request.{verdict, status, reported, decided}
use Rattle.model.specs.declared.Queue.{Queue}
use Rattle.model.specs.declared.Disk.{Disk}
use Rattle.model.specs.declared.Walk.{Walk}
use Rattle.model.specs.declared.Place.{Place}
use Rattle.model.specs.declared.Span.{Span}
use Rattle.model.specs.declared.Job.{Job}
use Rattle.model.specs.declared.Job.TheVariants.{Failed, Unsupported, Done, Read, Write, Identity}
use Rattle.model.specs.declared.Phase.{Phase}
use Rattle.model.specs.declared.Phase.TheVariants.{Poll, Entry, Chain, Header, Payload, Answer, Publish, Broken}

-- what set-up has fixed: the memory map, the disk with its 20 identity bytes, the queue
pub record Cfg : Type 0 where
  pub map : List Region
  pub disk : Disk
  pub id : List ℕ
  pub queue : Queue

-- what steps change; descs is the number of descriptors of the last chain that was complete, 0 before the first (DEV-12)
pub record State : Type 0 where
  pub taken : ℕ
  pub answered : ℕ
  pub descs : ℕ
  pub phase : Phase

-- buffer i of the private chain
abbrev pub buffer : List ℕ → ℕ → Span
buffer chain i = record { at = get_or chain (2 * i) 0; len = get_or chain (2 * i + 1) 0 }

-- what is left of the buffer at a place, and the place after n bytes more
abbrev pub left : List ℕ → Place → Span
left chain p = record { at = get_or chain (2 * p.buf) 0 + p.skip; len = get_or chain (2 * p.buf + 1) 0 - p.skip }

unfoldable pub onward : Place → ℕ → ℕ → Place
onward p l n = pick (eqb n l) (record { buf = p.buf + 1; skip = 0 }) (record { buf = p.buf; skip = p.skip + n })

-- S4: "as many as the 16-byte header still lacks, at most what the buffer has"
abbrev pub lacks : ℕ → ℕ → ℕ
lacks got l = min (16 - got) l

-- S5: the l bytes that are left of the buffer are the payload's last ones
unfoldable pub ends : Walk → ℕ → ℕ → Bool
ends k got l = eqb (got + l) (k.r - 16)

abbrev pub nowhere : Span
nowhere = record { at = 0; len = 0 }

-- The schedule's column "fetches": at most one contiguous range, known from the state before the step.
unfoldable pub want : Cfg → ℕ → List ℕ → Phase → Span
want c taken chain Poll = record { at = c.queue.avail + 2; len = 2 }
want c taken chain Entry = record { at = c.queue.avail + (4 + 2 * (taken % c.queue.size)); len = 2 }
want c taken chain (Chain k cur) = record { at = c.queue.desc + 16 * cur; len = 16 }
want c taken chain (Header k p got) = record { at = (left chain p).at; len = lacks got (left chain p).len }
want c taken chain (Payload k p sector got) = left chain p
want c taken chain (Answer k job got) = nowhere
want c taken chain (Publish k got) = nowhere
want c taken chain (Broken reason head count at) = nowhere

-- The header is gathered in the first 16 bytes of staging memory.
-- S4: "header not complete: S4 at the next buffer · complete: decide", n bytes of l having been fetched; type and sector are the header's
unfoldable pub gathered : Disk → Walk → Place → ℕ → ℕ → ℕ → ℕ → ℕ → Phase
gathered d k p got l n type sector =
    pick (ltb (got + n) 16) (Header k (onward p l n) (got + n)) (decided k (onward p l n) (verdict d type sector k.r k.w))

-- S5: "n bytes not yet complete: S5 at the next buffer · complete: S6"
unfoldable pub paid : Walk → Place → ℕ → ℕ → ℕ → Phase
paid k p sector got l = pick (ends k got l) (Answer k Done k.r) (Payload k (record { buf = p.buf + 1; skip = 0 }) sector (got + l))

-- The column "goes on to": the decisions. They see the bytes fetched in this step and private memory: no guest memory, no disk.
unfoldable pub next : Cfg → ℕ → List ℕ → List ℕ → Phase → List ℕ → Phase
next c taken chain stage Poll f = polled c.queue.size taken (word 2 0 f)
next c taken chain stage Entry f = headed c.queue.size (word 2 0 f)
next c taken chain stage (Chain k cur) f = described k cur (desc_at 0 f) (tested c.map c.queue.size k (desc_at 0 f))
next c taken chain stage (Header k p got) f =
    gathered c.disk k p got (left chain p).len (lacks got (left chain p).len) (word 4 0 (put stage got f)) (word 8 8 (put stage got f))
next c taken chain stage (Payload k p sector got) f = paid k p sector got (left chain p).len
next c taken chain stage (Answer k job got) f = Publish k got
next c taken chain stage (Publish k got) f = Poll
next c taken chain stage (Broken reason head count at) f = Broken reason head count at

-- What a step keeps in private memory: the chain (S3), and the staging memory (S4; S5 unless the buffer is the payload's last).
unfoldable pub chained : Cfg → List ℕ → Phase → List ℕ → List ℕ
chained c chain Poll f = chain
chained c chain Entry f = chain
chained c chain (Chain k cur) f = keeps chain k (desc_at 0 f) (tested c.map c.queue.size k (desc_at 0 f))
chained c chain (Header k p got) f = chain
chained c chain (Payload k p sector got) f = chain
chained c chain (Answer k job got) f = chain
chained c chain (Publish k got) f = chain
chained c chain (Broken reason head count at) f = chain

-- How many descriptors the last complete chain has: S3 alone completes one.
unfoldable pub measured : Cfg → ℕ → Phase → List ℕ → ℕ
measured c n Poll f = n
measured c n Entry f = n
measured c n (Chain k cur) f = descs_after n k (tested c.map c.queue.size k (desc_at 0 f))
measured c n (Header k p got) f = n
measured c n (Payload k p sector got) f = n
measured c n (Answer k job got) f = n
measured c n (Publish k got) f = n
measured c n (Broken reason head count at) f = n

unfoldable pub staged : List ℕ → List ℕ → Phase → List ℕ → List ℕ
staged chain stage Poll f = stage
staged chain stage Entry f = stage
staged chain stage (Chain k cur) f = stage
staged chain stage (Header k p got) f = put stage got f
staged chain stage (Payload k p sector got) f = pick (ends k got (left chain p).len) stage (put stage got f)
staged chain stage (Answer k job got) f = stage
staged chain stage (Publish k got) f = stage
staged chain stage (Broken reason head count at) f = stage

-- What a step does to the world. "The disk changes in one step of an accepted OUT, the S5 that fetches its last payload buffer."
pub data Effect : Type 0 where
  nothing : Effect
  stores : ℕ → List ℕ → Effect
  answers : Walk → Job → Effect
  publishes : Effect

unfoldable pub effect : List ℕ → List ℕ → Phase → List ℕ → Effect
effect chain stage Poll f = nothing
effect chain stage Entry f = nothing
effect chain stage (Chain k cur) f = nothing
effect chain stage (Header k p got) f = nothing
effect chain stage (Payload k p sector got) f = pick (ends k got (left chain p).len) (stores (512 * sector) (part 0 got stage ++ f)) nothing
effect chain stage (Answer k job got) f = answers k job
effect chain stage (Publish k got) f = publishes
effect chain stage (Broken reason head count at) f = nothing

-- Writes as data: later ones win (01 §5).
pub record Store : Type 0 where
  pub to : ℕ
  pub bytes : List ℕ

unfoldable pub apply : List Store → List ℕ → List ℕ
apply [] m = m
apply (x ∷ xs) m = apply xs (put m x.to x.bytes)

-- bytes into buffers, in chain order, as far as they go
unfoldable pub scatter : List Span → List ℕ → List Store
scatter [] bs = []
scatter (s ∷ ss) bs = record { to = s.at; bytes = take s.len bs } ∷ scatter ss (drop s.len bs)

-- n buffers of the chain, from buffer i on; the writable ones
unfoldable pub spans : ℕ → ℕ → List ℕ → List Span
spans zero i chain = []
spans (suc n) i chain = buffer chain i ∷ spans n (suc i) chain

abbrev pub writables : List ℕ → Walk → List Span
writables chain k = spans (k.count - k.reads) k.reads chain

-- 03 §3, the column "effect": what goes to the writable bytes before the last one
unfoldable pub handed : List ℕ → List ℕ → Walk → Job → List ℕ
handed id disk k Failed = []
handed id disk k Unsupported = []
handed id disk k Done = []
handed id disk k (Read sector) = part (512 * sector) (k.w - 1) disk
handed id disk k (Write sector) = []
handed id disk k Identity = id

-- "The status byte is always written, to the last writable byte."
abbrev pub status_at : List ℕ → Walk → ℕ
status_at chain k = get_or chain (2 * (k.count - 1)) 0 + (get_or chain (2 * (k.count - 1) + 1) 0 - 1)

-- "used entry (answered modulo q) becomes {id = head, len = L}"
abbrev pub used_at : Queue → ℕ → ℕ
used_at q answered = q.used + (4 + 8 * (answered % q.size))

-- 01 §5: "payload in chain order, then status, then the used entry"
unfoldable pub answer_stores : List ℕ → Queue → ℕ → List ℕ → List ℕ → Walk → Job → List Store
answer_stores id q answered chain disk k job =
    scatter (writables chain k) (handed id disk k job)
    ++ (record { to = status_at chain k; bytes = status job ∷ [] }
    ∷ record { to = used_at q answered; bytes = bytes 4 k.head ++ bytes 4 (reported (status job) k.w) } ∷ [])

-- ".. then idx", in a step of its own
unfoldable pub mem_stores : Cfg → ℕ → List ℕ → List ℕ → Effect → List Store
mem_stores c answered chain disk nothing = []
mem_stores c answered chain disk (stores at bs) = []
mem_stores c answered chain disk (answers k job) = answer_stores c.id c.queue answered chain disk k job
mem_stores c answered chain disk publishes = record { to = c.queue.used + 2; bytes = bytes 2 (plus_one answered) } ∷ []

unfoldable pub disk_stores : Effect → List Store
disk_stores nothing = []
disk_stores (stores at bs) = record { to = at; bytes = bs } ∷ []
disk_stores (answers k job) = []
disk_stores publishes = []

-- this disk's bytes of the backing slice, and the backing slice with other ones
abbrev pub disk_of : Disk → List ℕ → List ℕ
disk_of d backing = part d.start (512 * d.sectors) backing

unfoldable pub shifted : ℕ → List Store → List ℕ → List ℕ
shifted d [] b = b
shifted d (x ∷ xs) b = shifted d xs (put b (d + x.to) x.bytes)

unfoldable pub counted : Effect → ℕ → ℕ
counted nothing n = n
counted (stores at bs) n = n
counted (answers k job) n = n
counted publishes n = plus_one n

-- "0 nothing to do · 1 went on, call again · 2 a request was answered just now · 3 broken in this step", from the effect and the phase after
unfoldable pub code_after : Phase → ℕ
code_after Poll = 0
code_after Entry = 1
code_after (Chain k cur) = 1
code_after (Header k p got) = 1
code_after (Payload k p sector got) = 1
code_after (Answer k job got) = 1
code_after (Publish k got) = 1
code_after (Broken reason head count at) = 3

unfoldable pub code_of : Effect → Phase → ℕ
code_of nothing p = code_after p
code_of (stores at bs) p = code_after p
code_of (answers k job) p = code_after p
code_of publishes p = 2

pub record Out : Type 0 where
  pub state : State
  pub mem : List ℕ
  pub backing : List ℕ
  pub chain : List ℕ
  pub stage : List ℕ
  pub code : ℕ

-- the bytes that the step fetches, once
abbrev pub fetched : Cfg → State → List ℕ → List ℕ → List ℕ
fetched c s chain mem = part (want c s.taken chain s.phase).at (want c s.taken chain s.phase).len mem

-- .. are all that the rest of it sees of guest memory
unfoldable pub step_with : Cfg → State → List ℕ → List ℕ → List ℕ → List ℕ → List ℕ → Effect → Phase → Out
step_with c s mem backing chain stage f e p =
    record {
      state = record { taken = counted e s.taken; answered = counted e s.answered; descs = measured c s.descs s.phase f; phase = p };
      mem = apply (mem_stores c s.answered chain (disk_of c.disk backing) e) mem;
      backing = shifted c.disk.start (disk_stores e) backing;
      chain = chained c chain s.phase f;
      stage = staged chain stage s.phase f;
      code = code_of e p;
    }

unfoldable pub step : Cfg → State → List ℕ → List ℕ → List ℕ → List ℕ → Out
step c s mem backing chain stage =
    step_with c s mem backing chain stage (fetched c s chain mem) (effect chain stage s.phase (fetched c s chain mem))
    (next c s.taken chain stage s.phase (fetched c s chain mem))
