-- The driver's calls over a memory that holds an answer: their own tests are passed, and what they read is the answer.
use Prim.Native.Nat.{ℕ, ◌+◌, ◌-◌, ◌*◌, ◌/◌, ◌≤◌, ◌<◌}
use native.Mathlib.Omega.{arith}
use native.Mathlib.Nat.{add-zero}
use mathlib.Core.Bool.{true}
use mathlib.Core.Path.{◌≡◌, refl, sym, ◌∙◌}
use mathlib.Core.List.{List, [], ◌∷◌}
use lib.ListN.{length, get_or, take, length-take}
use lib.Seq.{take-take}
use borrow.Author.Tests.{lt-ltb, le-ltb, le-leb, ne_eqb}
use Rattle.model.specs.Memory.{Region}
use Rattle.model.specs.Ring.{pending, plus_one}
use Rattle.model.specs.Step.{spans}
use Rattle.model.specs.declared.Span.{Span}
use Rattle.model.specs.Sane.{inside, all_inside}
use Rattle.model.specs.declared.Queue.{Queue}
use Rattle.model.specs.declared.Job.{Job}
use Rattle.requests.specs.Serve.{gather, total}
use Rattle.requests.proofs.Spans.{Inside}
use Rattle.driver.specs.Lay.{queue_in}
use Rattle.driver.specs.Take.{used_idx, used_word, countable, outstanding, judged, taken, spots_in, status_of, data_of}
use Rattle.driver.specs.Fit.{LayFit}
use Rattle.driver.specs.declared.Driver.{Driver}
use Rattle.trips.specs.Answered.{Answered}
use Rattle.trips.specs.Trip.{Reads}
use Rattle.trips.proofs.Lists.{put-over}
use Rattle.trips.proofs.Fits.{buf-ok, size_in, writes-some, writes-inside}
use Rattle.trips.proofs.Taken.{more-below, pending-one}
use Rattle.trips.proofs.Read.{last-at}

all-inside : (m : ℕ) (ss : List Span) → Inside m ss → all_inside m ss ≡ true
unfolding Inside all_inside inside
all-inside m [] k = refl
all-inside m (s ∷ ss) k = rw (le-leb (s.at + s.len) m k.1) (all-inside m ss k.2)

-- the first bytes of some that are known
take_less : (n k : ℕ) (g bs : List ℕ) → take k g ≡ bs → n ≤ k → take n g ≡ take n bs
take_less n k g bs e h = rw (← e) (sym (take-take n k g h))

module _ {q : Queue} {rs : List Region} {m : ℕ} {own : List ℕ} {kind r : ℕ} {bufs : List ℕ} {reads e : ℕ} {spots nums : List ℕ} (fit : LayFit q rs m own kind r bufs reads e spots nums) where
  pub queue-in : queue_in q m ≡ true
  unfolding queue_in
  queue-in =
      rw (fit.size_ok, le-leb (q.desc + 16 * q.size) m fit.desc-in, le-leb (q.avail + (6 + 2 * q.size)) m fit.avail-in, le-leb (q.used + (6 + 8 * q.size)) m fit.used-in)

  pub spots-in : spots_in m spots reads e ≡ true
  unfolding spots_in
  spots-in =
      let w = writes-some fit in
      let b = buf-ok fit (e - 1) (omega arith) in
      rw (
        le-leb 1 e (omega arith),
        lt-ltb reads e w,
        le-leb e (length spots / 2) (omega (arith, fit.spots-long)),
        all-inside m (spans (e - reads) reads spots) (writes-inside fit),
        le-leb 1 (get_or spots (2 * (e - 1) + 1) 0) b.some,
      )

-- The driver reads an answer in memory: its request is outstanding, and all the answers before this one are read.
pub answered-reads : (d : Driver) {rs : List Region} {m : ℕ} {own : List ℕ} {kind r : ℕ} {bufs : List ℕ} {reads e : ℕ} {spots nums : List ℕ}
    → LayFit d.queue rs m own kind r bufs reads e spots nums → d.seen < 65536 → (own₂ : List ℕ) → d.queue.size ≤ length own₂
    → (head : ℕ) → outstanding d.queue.size own₂ head ≡ true → (job : Job) (given m₂ m₃ : List ℕ) → length m₂ ≡ m
    → Answered d.queue d.seen head (spans (e - reads) reads spots) job given m₂ m₃ → Reads d own₂ head spots reads e job given m₃
unfolding used_idx used_word countable taken judged status_of data_of
answered-reads d {reads = reads} {e = e} {spots = spots} fit seen own₂ long₂ head out job given m₂ m₃ long ans =
    let l : length m₃ ≡ _ = ans.long ∙ long in
    let q = queue-in fit in
    let s = spots-in fit in
    let p = pending-one d.seen seen in
    let z = size_in fit in
    let ws : List Span = spans (e - reads) reads spots in
    record {
      idx-read = rw (l, q) ans.idx-is;
      answer-taken = rw (
        l,
        q,
        add-zero,
        ans.head-is,
        ans.len_is,
        le-leb d.queue.size (length own₂) long₂,
        lt-ltb (plus_one d.seen) 65536 (more-below d.seen),
        lt-ltb d.seen 65536 seen,
        ne_eqb (pending (plus_one d.seen) d.seen) 0 (λ x. omega arith),
        le-ltb d.queue.size (pending (plus_one d.seen) d.seen) (omega arith),
        out,
      );
      status-read = rw (l, s, ← (last-at fit), ans.status-is);
      data-read = λ h xs u. rw (l, s, take_less (length xs) (total (spans (e - reads) reads spots) - 1) (gather m₃ (spans (e - reads) reads spots)) given (ans.given_is h) u)
          (put-over xs (take (length xs) given) (simp length-take (omega arith)));
    }
