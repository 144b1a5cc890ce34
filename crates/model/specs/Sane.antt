-- A state that set-up and steps make. The lent words may have been spoilt, so each call tests what it stands on before it acts:
-- the numbers of a phase (`sane`), and the private chain's words that the step uses (`ready`). Steps keep both true.
use Rattle.std.specs.Prelude.{ℕ, ◌+◌, ◌-◌, ◌*◌, Bool, true, false, List, [], ◌∷◌, leb, ltb, eqb, get_or}
use Rattle.model.specs.Pick.{pick, both}
use Rattle.model.specs.Ring.{elsewhere}
use Rattle.model.specs.Request.{fits}
use Rattle.model.specs.Step.{left, writables}
use Rattle.model.specs.declared.Span.{Span}
use Rattle.model.specs.declared.Walk.{Walk}
use Rattle.model.specs.declared.Place.{Place}
use Rattle.model.specs.declared.Job.{Job}
use Rattle.model.specs.declared.Job.TheVariants.{Failed, Unsupported, Done, Read, Write, Identity}
use Rattle.model.specs.declared.Phase.{Phase}
use Rattle.model.specs.declared.Phase.TheVariants.{Poll, Entry, Chain, Header, Payload, Answer, Publish, Broken}

-- a chain of at most q descriptors, each of at most 2^32 - 1 bytes
unfoldable pub walk_ok : ℕ → Walk → Bool
walk_ok q k =
    both (ltb k.head q)
    (both (leb k.count q)
    (both (leb k.reads k.count) (both (leb k.r (4294967295 * k.reads)) (leb k.w (4294967295 * (k.count - k.reads))))))

-- .. complete, with a place for the status
unfoldable pub full_ok : ℕ → Walk → Bool
full_ok q k = both (walk_ok q k) (both (ltb k.reads k.count) (leb 1 k.w))

unfoldable pub job_ok : ℕ → Walk → Job → Bool
job_ok sectors k Failed = true
job_ok sectors k Unsupported = true
job_ok sectors k Done = true
job_ok sectors k (Read s) = fits (k.w - 1) s sectors
job_ok sectors k (Write s) = false
job_ok sectors k Identity = eqb k.w 21

-- DEV-12: a descriptor of the table, if one was fetched
unfoldable pub refused_at : ℕ → ℕ → ℕ → Bool
refused_at q count at = pick (eqb count 0) (eqb at elsewhere) (ltb at q)

unfoldable pub sane : ℕ → ℕ → Phase → Bool
sane q sectors Poll = true
sane q sectors Entry = true
sane q sectors (Chain k cur) = both (walk_ok q k) (ltb cur q)
sane q sectors (Header k p got) = both (full_ok q k) (both (ltb p.buf k.reads) (both (ltb got 16) (leb 16 k.r)))
sane q sectors (Payload k p s got) = both (full_ok q k) (both (ltb p.buf k.reads) (both (ltb 16 k.r) (both (ltb got (k.r - 16)) (fits (k.r - 16) s sectors))))
sane q sectors (Answer k job got) = both (full_ok q k) (both (leb got k.r) (job_ok sectors k job))
sane q sectors (Publish k got) = both (full_ok q k) (leb got k.r)
sane q sectors (Broken reason head count at) = both (leb 1 reason) (both (leb reason 8) (both (ltb head q) (both (leb count (q + 1)) (refused_at q count at))))

-- a buffer in a slice of m bytes
unfoldable pub inside : ℕ → ℕ → ℕ → Bool
inside m at len = leb (at + len) m

unfoldable pub all_inside : ℕ → List Span → Bool
all_inside m [] = true
all_inside m (s ∷ ss) = pick (inside m s.at s.len) (all_inside m ss) false

-- something is left of the buffer at a place
unfoldable pub place_is_ok : ℕ → List ℕ → Place → Bool
place_is_ok m chain p = both (ltb p.skip (get_or chain (2 * p.buf + 1) 0)) (inside m (get_or chain (2 * p.buf) 0) (get_or chain (2 * p.buf + 1) 0))

unfoldable pub ready : ℕ → List ℕ → Phase → Bool
ready m chain Poll = true
ready m chain Entry = true
ready m chain (Chain k cur) = true
ready m chain (Header k p got) = place_is_ok m chain p
ready m chain (Payload k p s got) = both (place_is_ok m chain p) (leb (got + (left chain p).len) (k.r - 16))
ready m chain (Answer k job got) = both (all_inside m (writables chain k)) (leb 1 (get_or chain (2 * (k.count - 1) + 1) 0))
ready m chain (Publish k got) = true
ready m chain (Broken reason head count at) = true
