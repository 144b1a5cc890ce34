-- Reading answers: used idx, the next used entry, the status byte and the data. A device may be hostile too: an answer that names no outstanding
-- request is refused.
use Rattle.std.specs.Prelude.{ℕ, zero, suc, ◌+◌, ◌-◌, ◌*◌, ◌/◌, Bool, List, [], ◌∷◌, leb, ltb, eqb, get_or, length, take, set, Option, Some, None, Result, Ok, Err}
use Rattle.model.specs.Pick.{pick, both}
use Rattle.model.specs.Bytes.{put, word}
use Rattle.model.specs.Ring.{pending, plus_one}
use Rattle.model.specs.Step.{spans, used_at}
use Rattle.model.specs.Sane.{all_inside}
use Rattle.requests.specs.Serve.{gather}
use Rattle.driver.specs.Lay.{queue_in}
use Rattle.driver.specs.declared.Driver.{Driver}
use Rattle.driver.specs.declared.Answer.{Answer}
use Rattle.driver.specs.declared.Strange.{Strange}
use Rattle.driver.specs.declared.Strange.TheVariants.{Memory, Ahead, Unknown}

-- 60 as in laying · 66 more than the queue can hold · 67 it names no outstanding request
abbrev pub strange_number : Strange → ℕ
strange_number Memory = 60
strange_number Ahead = 66
strange_number Unknown = 67

-- idx of the used ring; the driver's own count where this memory is not the queue's
unfoldable pub used_idx : Driver → List ℕ → ℕ
used_idx d mem = pick (queue_in d.queue (length mem)) (word 2 (d.queue.used + 2) mem) d.seen

-- a request with this head is outstanding
unfoldable pub outstanding : ℕ → List ℕ → ℕ → Bool
outstanding q own id = both (ltb id q) (eqb (get_or own id 0) (suc id))

-- descriptor i is free again if it belongs to v
unfoldable pub freed : ℕ → ℕ → List ℕ → List ℕ
freed i v own = pick (eqb (get_or own i 0) v) (set own i 0) own

-- the descriptors that belong to v are free again
unfoldable pub released : ℕ → ℕ → List ℕ → List ℕ
released zero v own = own
released (suc q) v [] = []
released (suc q) v (o ∷ own) = pick (eqb o v) 0 o ∷ released q v own

-- this memory is the queue's, there is a word for each descriptor, and the two indices are indices
unfoldable pub countable : Driver → ℕ → ℕ → ℕ → Bool
countable d m own idx = both (queue_in d.queue m) (both (leb d.queue.size own) (both (ltb idx 65536) (ltb d.seen 65536)))

-- What a used entry {id, len} is taken for; none may be waiting.
unfoldable pub judged : Driver → ℕ → List ℕ → ℕ → ℕ → ℕ → Result (Option Answer) Strange
judged d m own idx id len =
    pick (countable d m (length own) idx)
    (pick (eqb (pending idx d.seen) 0) (Ok None)
    (pick (ltb d.queue.size (pending idx d.seen)) (Err Ahead)
    (pick (outstanding d.queue.size own id)
    (Ok (Some (record { driver = record { queue = d.queue; next = d.next; seen = plus_one d.seen }; head = id; len = len })))
    (Err Unknown))))
    (Err Memory)

-- half of the next used entry, its id (0) or its length (4), as fetched; 0 where this memory is not the queue's
unfoldable pub used_word : Driver → List ℕ → ℕ → ℕ
used_word d mem half = pick (queue_in d.queue (length mem)) (word 4 (used_at d.queue d.seen + half) mem) 0

unfoldable pub taken : Driver → List ℕ → List ℕ → ℕ → Result (Option Answer) Strange
taken d own mem idx = judged d (length mem) own idx (used_word d mem 0) (used_word d mem 4)

-- an answer gives its descriptors back
unfoldable pub own_after : ℕ → List ℕ → Result (Option Answer) Strange → List ℕ
own_after q own (Ok None) = own
own_after q own (Ok (Some a)) = released q (1 + a.head) own
own_after q own (Err e) = own

-- a request's e buffers, the first `reads` readable: spots for them all, inside a memory of m bytes, and a writable one at the end
unfoldable pub spots_in : ℕ → List ℕ → ℕ → ℕ → Bool
spots_in m spots reads e =
    both (leb 1 e) (both (ltb reads e) (both (leb e (length spots / 2)) (both (all_inside m (spans (e - reads) reads spots)) (leb 1 (get_or spots (2 * (e - 1) + 1) 0)))))

-- "The last writable byte is for the status."
unfoldable pub status_of : List ℕ → List ℕ → ℕ → ℕ → Option ℕ
status_of mem spots reads e =
    pick (spots_in (length mem) spots reads e) (Some (get_or mem (get_or spots (2 * (e - 1)) 0 + (get_or spots (2 * (e - 1) + 1) 0 - 1)) 0)) None

-- "The writable bytes before it are for data from the disk.": as many of them as `out` holds
unfoldable pub data_of : List ℕ → List ℕ → ℕ → ℕ → List ℕ → List ℕ
data_of mem spots reads e out =
    pick (spots_in (length mem) spots reads e) (put out 0 (take (length out) (gather mem (spans (e - reads) reads spots)))) out
