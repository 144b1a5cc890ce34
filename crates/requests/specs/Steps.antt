-- How many steps a request takes.
use Rattle.std.specs.Prelude.{ℕ, ◌+◌, ◌-◌, List, [], ◌∷◌, leb, ltb, eqb, length}
use Rattle.model.specs.Pick.{pick}
use Rattle.model.specs.Ring.{pending}
use Rattle.model.specs.Step.{Cfg}
use Rattle.model.specs.declared.Span.{Span}
use Rattle.model.specs.declared.Job.{Job}
use Rattle.model.specs.declared.Job.TheVariants.{Failed, Unsupported, Done, Read, Write, Identity}
use Rattle.requests.specs.Serve.{Seen, total, Followed, broke, whole, follow, job_of}

-- the first n bytes of some buffers, as buffers, and the bytes after them
unfoldable pub up_to : ℕ → List Span → List Span
up_to n [] = []
up_to n (s ∷ ss) = pick (leb n s.len) (record { at = s.at; len = n } ∷ []) (s ∷ up_to (n - s.len) ss)

unfoldable pub past : ℕ → List Span → List Span
past n [] = []
past n (s ∷ ss) = pick (leb n s.len) (pick (eqb n s.len) ss (record { at = s.at + n; len = s.len - n } ∷ ss)) (past (n - s.len) ss)

-- the header's fetches, one for each buffer that has bytes of it, and an accepted OUT's, one for each that has data
unfoldable pub data_fetches : List Span → Job → ℕ
data_fetches rs Failed = 0
data_fetches rs Unsupported = 0
data_fetches rs Done = 0
data_fetches rs (Read s) = 0
data_fetches rs (Write s) = length (past 16 rs)
data_fetches rs Identity = 0

unfoldable pub fetches : List Span → Job → ℕ
fetches rs job = pick (ltb (total rs) 16) 0 (length (up_to 16 rs) + data_fetches rs job)

-- S1, S2, one S3 for each descriptor, the fetches of S4 and S5, S6 and S7
unfoldable pub chain_calls : Cfg → Seen → Followed → ℕ
chain_calls c v (broke reason fetched at) = 2 + fetched
chain_calls c v (whole rs ws last) =
    pick (eqb (length ws) 0) (2 + length rs)
    (2 + (length rs + length ws) + fetches rs (job_of c.disk (v.string rs ws) (total rs) (total ws)) + 2)

unfoldable pub calls : Cfg → Seen → ℕ → ℕ
calls c v taken =
    pick (eqb (pending v.idx taken) 0) 1
    (pick (ltb c.queue.size (pending v.idx taken)) 1
    (pick (leb c.queue.size v.entry) 2 (chain_calls c v (follow c v v.entry (c.queue.size + 1) v.entry [] []))))
