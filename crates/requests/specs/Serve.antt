-- One request, from the available ring to the used ring, as documents 01 §3 and 03 say it: no steps, no private memory.
use Rattle.std.specs.Prelude.{ℕ, zero, suc, ◌+◌, ◌-◌, ◌*◌, ◌%◌, List, [], ◌∷◌, ◌++◌, leb, ltb, eqb, length, drop}
use Rattle.model.specs.Pick.{pick}
use Rattle.model.specs.Bytes.{put, part, word, bytes}
use Rattle.model.specs.Ring.{pending, plus_one, elsewhere}
use Rattle.model.specs.Chain.{desc_at, tested}
use Rattle.model.specs.Request.{verdict, status, reported}
use Rattle.model.specs.Step.{Cfg, Store, apply, scatter, handed, used_at, disk_of}
use Rattle.model.specs.declared.Span.{Span}
use Rattle.model.specs.declared.Queue.{Queue}
use Rattle.model.specs.declared.Disk.{Disk}
use Rattle.model.specs.declared.Desc.{Desc}
use Rattle.model.specs.declared.Tested.{Tested}
use Rattle.model.specs.declared.Tested.TheVariants.{Bad, Next, Last}
use Rattle.model.specs.declared.Walk.{Walk}
use Rattle.model.specs.declared.Job.{Job}
use Rattle.model.specs.declared.Job.TheVariants.{Failed, Unsupported, Done, Read, Write, Identity}

-- What is fetched of guest memory for a request: idx and the entry of the available ring; the j-th descriptor of the chain (from 0 on), which is
-- number n of the table; and, of a chain of readable buffers rs and writable buffers ws, the readable bytes as one string.
pub record Seen : Type 0 where
  pub idx : ℕ
  pub entry : ℕ
  pub desc : ℕ → ℕ → Desc
  pub string : List Span → List Span → List ℕ

-- "Readable bytes and writable bytes of the chain are each taken as one string, in chain order, whatever buffers they are cut into"
unfoldable pub gather : List ℕ → List Span → List ℕ
gather m [] = []
gather m (s ∷ ss) = part s.at s.len m ++ gather m ss

-- .. in a memory that is held still. 01 §3: "Read idx of the available ring"; "Read entry (taken modulo q)"
unfoldable pub still : Queue → ℕ → List ℕ → Seen
still q taken m =
    record {
      idx = word 2 (q.avail + 2) m;
      entry = word 2 (q.avail + (4 + 2 * (taken % q.size))) m;
      desc = λ j n. desc_at (q.desc + 16 * n) m;
      string = λ rs ws. gather m rs;
    }

-- "Let r and w be the numbers of readable and writable bytes."
unfoldable pub total : List Span → ℕ
total [] = 0
total (s ∷ ss) = s.len + total ss

-- a chain's numbers, from its readable and its writable buffers
unfoldable pub walk : ℕ → List Span → List Span → Walk
walk head rs ws = record { head = head; count = length rs + length ws; reads = length rs; r = total rs; w = total ws }

-- What following a chain comes to. Refused: the reason, the descriptors fetched, and the number of the one at which it stopped (DEV-12).
-- Complete: the buffers, readable and writable, as many as it has descriptors, and the number of the last one.
pub data Followed : Type 0 where
  broke : (reason fetched at : ℕ) → Followed
  whole : (reads writes : List Span) (last : ℕ) → Followed

-- descriptor n of the table, tested: flag 2 says which buffers its own joins; NEXT goes on with `more`
unfoldable pub linked : (ℕ → List Span → List Span → Followed) → ℕ → Desc → List Span → List Span → Tested → Followed
linked more n d rs ws (Bad reason) = broke reason (length rs + length ws + 1) n
linked more n d rs ws (Next x) =
    pick (ltb d.flags 2) (more d.next (rs ++ (record { at = x; len = d.len } ∷ [])) ws) (more d.next rs (ws ++ (record { at = x; len = d.len } ∷ [])))
linked more n d rs ws (Last x) =
    pick (ltb d.flags 2) (whole (rs ++ (record { at = x; len = d.len } ∷ [])) ws n) (whole rs (ws ++ (record { at = x; len = d.len } ∷ [])) n)

-- "Follow the chain from the head. Each descriptor is fetched once, all 16 bytes of it, and tested": at most f more of them, the next being
-- number n of the table. Number q + 1 of a chain fails its first test, so f = q + 1 is enough.
unfoldable pub follow : Cfg → Seen → ℕ → ℕ → ℕ → List Span → List Span → Followed
follow c v head zero n rs ws = broke 3 (length rs + length ws) n
follow c v head (suc f) n rs ws =
    linked (λ i xs ys. follow c v head f i xs ys) n (v.desc (length rs + length ws) n) rs ws
    (tested c.map c.queue.size (walk head rs ws) (v.desc (length rs + length ws) n))

-- "The status byte is always written, to the last writable byte."
unfoldable pub last_byte_at : List Span → ℕ
last_byte_at [] = 0
last_byte_at (s ∷ []) = s.at + (s.len - 1)
last_byte_at (s ∷ t ∷ ss) = last_byte_at (t ∷ ss)

-- "The first 16 readable bytes are the header: type u32, reserved u32 (ignored), sector u64."
unfoldable pub job_of : Disk → List ℕ → ℕ → ℕ → Job
job_of d string r w = verdict d (word 4 0 string) (word 8 8 string) r w

-- "The remaining readable bytes are data to the disk." OUT: "the n bytes go to the disk from the sector"
unfoldable pub stored : Disk → Job → List ℕ → List ℕ → List ℕ
stored d Failed sent backing = backing
stored d Unsupported sent backing = backing
stored d Done sent backing = backing
stored d (Read s) sent backing = backing
stored d (Write s) sent backing = put backing (d.start + 512 * s) sent
stored d Identity sent backing = backing

-- What becomes of the next available entry. Broken: the reason, the head, the descriptors fetched, and where the chain was refused. Served: the
-- bytes written to guest memory, in this order (01 §5), used idx last; the backing slice; head and length of the used entry; and how many descriptors the
-- chain has.
pub data Outcome : Type 0 where
  idle : Outcome
  breaks : (reason head fetched at : ℕ) → Outcome
  serves : (writes : List Store) (idx : Store) (backing : List ℕ) (head len descs : ℕ) → Outcome

-- "Bytes are written in a fixed order: payload in chain order, then status, then the used entry, then idx"; the used entry is "{id = head, len = L}"
unfoldable pub answer : Cfg → ℕ → List ℕ → ℕ → List Span → List Span → List ℕ → Job → Outcome
answer c answered backing head rs ws string job =
    serves
    (scatter ws (handed c.id (disk_of c.disk backing) (walk head rs ws) job)
    ++ (record { to = last_byte_at ws; bytes = status job ∷ [] }
    ∷ record { to = used_at c.queue answered; bytes = bytes 4 head ++ bytes 4 (reported (status job) (total ws)) } ∷ []))
    (record { to = c.queue.used + 2; bytes = bytes 2 (plus_one answered) })
    (stored c.disk job (drop 16 string) backing) head (reported (status job) (total ws)) (length rs + length ws)

-- "No writable buffer in the chain: reason 8 .. The request is carried out (document 03)."
unfoldable pub carried : Cfg → Seen → ℕ → List ℕ → ℕ → Followed → Outcome
carried c v answered backing head (broke reason fetched at) = breaks reason head fetched at
carried c v answered backing head (whole rs ws last) =
    pick (eqb (length ws) 0) (breaks 8 head (length rs) last)
    (answer c answered backing head rs ws (v.string rs ws) (job_of c.disk (v.string rs ws) (total rs) (total ws)))

-- "pending = (idx - taken) modulo 2^16. 0: nothing to do. Over q: broken, reason 1." The head: "q or more: reason 2."
unfoldable pub serve : Cfg → Seen → ℕ → ℕ → List ℕ → Outcome
serve c v taken answered backing =
    pick (eqb (pending v.idx taken) 0) idle
    (pick (ltb c.queue.size (pending v.idx taken)) (breaks 1 0 0 elsewhere)
    (pick (leb c.queue.size v.entry) (breaks 2 0 0 elsewhere)
    (carried c v answered backing v.entry (follow c v v.entry (c.queue.size + 1) v.entry [] []))))

-- the guest memory and the backing slice that it leaves, nobody else touching them
unfoldable pub memory_after : Outcome → List ℕ → List ℕ
memory_after idle m = m
memory_after (breaks reason head fetched at) m = m
memory_after (serves writes idx after head len descs) m = apply (writes ++ (idx ∷ [])) m

unfoldable pub backing_after : Outcome → List ℕ → List ℕ
backing_after idle b = b
backing_after (breaks reason head fetched at) b = b
backing_after (serves writes idx after head len descs) b = after
