-- How many steps a request that was laid takes, at most: one for each buffer, one more for each readable one, and five.
use Prim.Native.Nat.{ℕ, ◌+◌, ◌-◌, ◌≤◌, ◌<◌}
use native.Mathlib.Omega.{arith}
use mathlib.Core.Bool.{Bool, true, false}
use mathlib.Core.Path.{◌≡◌}
use mathlib.Core.List.{List, [], ◌∷◌}
use lib.Dec.{leb, ltb, eqb}
use lib.ListN.{length, get_or}
use borrow.Author.Tests.{lt-leb, le-ltb, ne_eqb}
use Rattle.model.specs.Pick.{pick}
use Rattle.model.specs.Bytes.{word}
use Rattle.model.specs.Memory.{Region}
use Rattle.model.specs.Ring.{pending}
use Rattle.model.specs.Step.{Cfg, spans}
use Rattle.model.specs.declared.Span.{Span}
use Rattle.model.specs.declared.Queue.{Queue}
use Rattle.model.specs.declared.Job.{Job}
use Rattle.model.specs.declared.Job.TheVariants.{Failed, Unsupported, Done, Read, Write, Identity}
use Rattle.model.proofs.Tests.{on}
use Rattle.requests.specs.Serve.{Seen, still, total, whole, follow, job_of}
use Rattle.requests.specs.Steps.{up_to, past, data_fetches, fetches, chain_calls, calls}
use Rattle.driver.specs.Lay.{avail_at}
use Rattle.driver.specs.Fit.{LayFit}
use Rattle.trips.specs.Stands.{Stands, Waits}
use Rattle.trips.proofs.Fits.{writes-some}
use Rattle.trips.proofs.Taken.{length-spans, follow-whole}

-- cutting some buffers in two cuts at most one of them
cut-few : (n : ℕ) (ss : List Span) → length (up_to n ss) + length (past n ss) ≤ length ss + 1
unfolding up_to past
cut-few n [] = omega arith
cut-few n (s ∷ ss) = go (leb n s.len) (eqb n s.len) (cut-few (n - s.len) ss)
  where
    go : (b f : Bool) → length (up_to (n - s.len) ss) + length (past (n - s.len) ss) ≤ length ss + 1
        → length (pick b (record { at = s.at; len = n } ∷ []) (s ∷ up_to (n - s.len) ss))
        + length (pick b (pick f ss (record { at = s.at + n; len = s.len - n } ∷ ss)) (past (n - s.len) ss)) ≤ length (s ∷ ss) + 1
    go true true h = omega arith
    go true false h = omega arith
    go false f h = omega arith

data-few : (rs : List Span) (job : Job) → data_fetches rs job ≤ length (past 16 rs)
unfolding data_fetches
data-few rs Failed = omega arith
data-few rs Unsupported = omega arith
data-few rs Done = omega arith
data-few rs (Read s) = omega arith
data-few rs (Write s) = omega arith
data-few rs Identity = omega arith

fetches-few : (rs : List Span) (job : Job) → fetches rs job ≤ length rs + 1
unfolding fetches
fetches-few rs job =
    on (λ (n : ℕ). n ≤ length rs + 1) (ltb (total rs) 16) (λ t. omega arith) (λ t. omega (arith, cut-few 16 rs, data-few rs job))

-- what the steps come to once a chain with a writable buffer was followed to its end
calls-few : (c : Cfg) (v : Seen) (t : ℕ) (rs ws : List Span) (last : ℕ) → 1 ≤ pending v.idx t → pending v.idx t ≤ c.queue.size → v.entry < c.queue.size → 1 ≤ length ws
    → follow c v v.entry (c.queue.size + 1) v.entry [] [] ≡ whole rs ws last → calls c v t ≤ 5 + (length rs + length ws) + length rs
unfolding calls chain_calls
calls-few c v t rs ws last hp hq n l f =
    rw (
      ne_eqb (pending v.idx t) 0 (λ x. omega arith),
      le-ltb c.queue.size (pending v.idx t) hq,
      lt-leb c.queue.size v.entry n,
      f,
      ne_eqb (length ws) 0 (λ x. omega arith),
    )
    (omega (arith, fetches-few rs (job_of c.disk (v.string rs ws) (total rs) (total ws))))

few-here : (c : Cfg) {m : ℕ} {own : List ℕ} {kind r : ℕ} {bufs : List ℕ} {reads e : ℕ} {spots nums : List ℕ}
    → LayFit c.queue c.map m own kind r bufs reads e spots nums → (message m₂ : List ℕ) → Stands c.queue bufs spots nums reads e message m₂
    → (t : ℕ) → Waits c.queue nums t m₂ → calls c (still c.queue t m₂) t ≤ 5 + e + reads
unfolding still
few-here c {reads = reads} {e = e} {spots = spots} {nums = nums} fit message m₂ st t w =
    let n = fit.numbers 0 (omega (arith, writes-some fit)) in
    let lr = length-spans reads 0 spots in
    let lw = length-spans (e - reads) reads spots in
    let h = word 2 (avail_at c.queue t) m₂ in
    let k = calls-few c (still c.queue t m₂) t (spans reads 0 spots) (spans (e - reads) reads spots) (get_or nums (e - 1) 0) w.waits w.few (rw w.entry-is n)
    (omega (arith, writes-some fit)) (follow-whole c fit message m₂ st t h h c.queue.size w.entry-is (omega (arith, fit.few))) in
    omega (arith, fit.reads_in)

-- A request that stands and is next is answered after so many steps.
pub stands-few : (c : Cfg) {q : Queue} {rs : List Region} {m : ℕ} {own : List ℕ} {kind r : ℕ} {bufs : List ℕ} {reads e : ℕ} {spots nums : List ℕ}
    → LayFit q rs m own kind r bufs reads e spots nums → c.map ≡ rs → c.queue ≡ q → (message m₂ : List ℕ) → Stands q bufs spots nums reads e message m₂
    → (t : ℕ) → Waits q nums t m₂ → calls c (still q t m₂) t ≤ 5 + e + reads
stands-few c fit em eq message m₂ st t w = rw (← eq) (few-here c (rw (← eq, ← em) at fit) message m₂ (rw (← eq) at st) t (rw (← eq) at w))
