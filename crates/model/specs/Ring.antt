-- The ring (01 §2, §3): the three areas, what enabling refuses, the two counters, and S1, S2.
use Rattle.std.specs.Prelude.{ℕ, ◌+◌, ◌-◌, ◌*◌, ◌%◌, Bool, true, false, List, [], ◌∷◌, leb, ltb, eqb, Option, Some, None, Result, Ok, Err}
use Rattle.model.specs.Pick.{pick, both, either}
use Rattle.model.specs.Memory.{Region, locate, overlap}
use Rattle.model.specs.declared.Queue.{Queue}
use Rattle.model.specs.declared.Refusal.{Refusal}
use Rattle.model.specs.declared.Refusal.TheVariants.{QueueSize, Misaligned, NotInMemory, Entangled}
use Rattle.model.specs.declared.Walk.{Walk}
use Rattle.model.specs.declared.Phase.{Phase}
use Rattle.model.specs.declared.Phase.TheVariants.{Poll, Entry, Chain, Broken}

-- "a queue of size q, a power of two from 1 to" 1,024 (DEV-13): the sizes, and the largest of them
abbrev pub sizes : List ℕ
sizes = 1 ∷ 2 ∷ 4 ∷ 8 ∷ 16 ∷ 32 ∷ 64 ∷ 128 ∷ 256 ∷ 512 ∷ 1024 ∷ []

abbrev pub size_max : ℕ
size_max = 1024

unfoldable pub among : ℕ → List ℕ → Bool
among q [] = false
among q (n ∷ ns) = either (eqb q n) (among q ns)

unfoldable pub queue_size_ok : ℕ → Bool
queue_size_ok q = among q sizes

-- the table of the areas: their bytes ..
abbrev pub desc_bytes : ℕ → ℕ
desc_bytes q = 16 * q

abbrev pub avail_bytes : ℕ → ℕ
avail_bytes q = 6 + 2 * q

abbrev pub used_bytes : ℕ → ℕ
used_bytes q = 6 + 8 * q

-- .. and "address a multiple of"
unfoldable pub aligned : ℕ → ℕ → ℕ → Bool
aligned desc avail used = both (eqb (desc % 16) 0) (both (eqb (avail % 2) 0) (eqb (used % 4) 0))

-- "used and available areas or used and descriptor areas whose guest addresses overlap"
unfoldable pub entangled : ℕ → ℕ → ℕ → ℕ → Bool
entangled q desc avail used =
    either (overlap used (used_bytes q) avail (avail_bytes q)) (overlap used (used_bytes q) desc (desc_bytes q))

-- "an area that isn't in memory (27)", then the overlap (28)
unfoldable pub placed : ℕ → Option ℕ → Option ℕ → Option ℕ → Bool → Result Queue Refusal
placed q None a u o = Err NotInMemory
placed q (Some x) None u o = Err NotInMemory
placed q (Some x) (Some y) None o = Err NotInMemory
placed q (Some x) (Some y) (Some z) true = Err Entangled
placed q (Some x) (Some y) (Some z) false = Ok (record { size = q; desc = x; avail = y; used = z })

-- "Enabling a queue refuses, in this order, a bad size (25), a misaligned area (26)", then as above
unfoldable pub areas : List Region → ℕ → ℕ → ℕ → ℕ → Result Queue Refusal
areas rs q desc avail used =
    pick (queue_size_ok q)
    (pick (aligned desc avail used)
    (placed q (locate rs desc (desc_bytes q)) (locate rs avail (avail_bytes q)) (locate rs used (used_bytes q)) (entangled q desc avail used))
    (Err Misaligned))
    (Err QueueSize)

-- "Entry numbers and indices count modulo 2^16": pending = (idx - taken) modulo 2^16
unfoldable pub pending : ℕ → ℕ → ℕ
pending idx taken = (idx + 65536 - taken) % 65536

unfoldable pub plus_one : ℕ → ℕ
plus_one n = (n + 1) % 65536

-- DEV-12: "65,536 where the queue is in order or broke elsewhere": no descriptor was refused
abbrev pub elsewhere : ℕ
elsewhere = 65536

-- S1: "pending 0: stays (nothing to do) · pending over q: broken 1 · else S2"
unfoldable pub polled : ℕ → ℕ → ℕ → Phase
polled q taken idx = pick (eqb (pending idx taken) 0) Poll (pick (ltb q (pending idx taken)) (Broken 1 0 0 elsewhere) Entry)

-- a chain of which no descriptor is fetched yet
abbrev pub fresh : ℕ → Walk
fresh head = record { head = head; count = 0; reads = 0; r = 0; w = 0 }

-- S2: "q or more: broken 2 · else S3 at the head"
unfoldable pub headed : ℕ → ℕ → Phase
headed q head = pick (leb q head) (Broken 2 0 0 elsewhere) (Chain (fresh head) head)
