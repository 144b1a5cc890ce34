-- The device writes an answer to the writable buffers and to the used ring, which have no byte in common: so each of its parts is read as it was written.
use Prim.Native.Nat.{ℕ, suc, ◌+◌, ◌-◌, ◌*◌, ◌%◌, ◌^◌, ◌≤◌, ◌<◌}
use native.Mathlib.Omega.{arith}
use native.Mathlib.Nat.{mod-lt, add-zero}
use mathlib.Core.Path.{◌≡◌, refl, sym, ap, ◌∙◌}
use mathlib.Core.List.{List, [], ◌∷◌, ◌++◌}
use lib.Dec.{eqb}
use lib.ListN.{length, get_or, take, length-append}
use Rattle.model.specs.Bytes.{put, part, word, bytes}
use Rattle.model.specs.Memory.{Region}
use Rattle.model.specs.Ring.{plus_one}
use Rattle.model.specs.Request.{status, reported}
use Rattle.model.specs.Step.{Cfg, Store, buffer, apply, scatter, spans, handed, used_at, disk_of}
use Rattle.model.specs.declared.Span.{Span}
use Rattle.model.specs.declared.Queue.{Queue}
use Rattle.model.specs.declared.Job.{Job}
use Rattle.model.proofs.Tests.{on}
use Rattle.model.proofs.Step.{apply-append, length-apply, spans-turn}
use Rattle.model.proofs.Words.{length-bytes, word-put, word-apart}
use Rattle.model.proofs.Lists.{Apart, below, above, Disjoint, first, after, length-put, put-apart, put_in, part-put, part-put-other}
use Rattle.requests.specs.Serve.{gather, total, walk, last_byte_at, answer, memory_after}
use Rattle.requests.proofs.Spans.{Inside, last-is}
use Rattle.driver.specs.Fit.{LayFit}
use Rattle.trips.specs.Answered.{Answered}
use Rattle.trips.proofs.Lists.{disjoint-sym, put-after, word-front}
use Rattle.trips.proofs.Ranges.{Off, Each, off-in, gather-put, gather-scatter, gather-last, last_off, last-in, length-gather, off-spans}
use Rattle.trips.proofs.Fits.{size_in, buf-used, writes-each, writes-inside, writes-some, form-ok}
use Rattle.trips.proofs.Taken.{more-below, length-spans}

-- the memory after an answer, store by store
pub answer-mem : (c : Cfg) (a : ℕ) (backing : List ℕ) (head : ℕ) (rs ws : List Span) (string : List ℕ) (job : Job) (mem : List ℕ)
    → memory_after (answer c a backing head rs ws string job) mem
    ≡ put (put (put (apply (scatter ws (handed c.id (disk_of c.disk backing) (walk head rs ws) job)) mem) (last_byte_at ws) (status job ∷ [])) (used_at c.queue a) (bytes 4 head ++ bytes 4 (reported (status job) (total ws)))) (c.queue.used + 2) (bytes 2 (plus_one a))
unfolding memory_after answer apply
answer-mem c a backing head rs ws string job mem =
    let given : List ℕ = handed c.id (disk_of c.disk backing) (walk head rs ws) job in
    let two : List Store = record { to = last_byte_at ws; bytes = status job ∷ [] } ∷ record { to = used_at c.queue a; bytes = bytes 4 head ++ bytes 4 (reported (status job) (total ws)) } ∷ [] in
    let one : List Store = record { to = c.queue.used + 2; bytes = bytes 2 (plus_one a) } ∷ [] in
    apply-append (scatter ws given ++ two) one mem ∙ ap (λ (x : List ℕ). apply one x) (apply-append (scatter ws given) two mem)

-- the number behind a number
word-behind : (n k v w : ℕ) (m : List ℕ) → w < 256 ^ n → k + (n + n) ≤ length m → word n (k + n) (put m k (bytes n v ++ bytes n w)) ≡ w
word-behind n k v w m h l =
    rw (put-after m k n v (bytes n w)) (word-put n (k + n) w (put m k (bytes n v)) h (omega (arith, length-put m k (bytes n v))))

-- what was put at the front, with something behind it
front : (g bs : List ℕ) (n : ℕ) (cs : List ℕ) → length bs ≡ n → n ≤ length g → take n (put (put g 0 bs) n cs) ≡ bs
unfolding part
front g bs n cs e h = part-put-other (put g 0 bs) 0 n n cs (first (omega arith)) ∙ part-put g 0 n bs e (omega arith)

module _ (q : Queue) (a head : ℕ) (s : Span) (ss : List Span) (job : Job) (given m₂ : List ℕ) (each : Each (s ∷ ss)) (inside : Inside (length m₂) (s ∷ ss)) (off : Off q.used (6 + 8 * q.size) (s ∷ ss)) (room : q.used + (6 + 8 * q.size) ≤ length m₂) (some : 1 ≤ q.size) where
  -- after the data; after the status; after the used entry
  abbrev filled : List ℕ
  filled = apply (scatter (s ∷ ss) given) m₂

  abbrev signed : List ℕ
  signed = put filled (last_byte_at (s ∷ ss)) (status job ∷ [])

  abbrev entered : ℕ → List ℕ
  entered len = put signed (used_at q a) (bytes 4 head ++ bytes 4 len)

  abbrev told_of : ℕ → List ℕ
  told_of len = put (entered len) (q.used + 2) (bytes 2 (plus_one a))

  filled-long : length filled ≡ length m₂
  filled-long = length-apply (scatter (s ∷ ss) given) m₂

  signed-long : length signed ≡ length m₂
  signed-long = length-put filled (last_byte_at (s ∷ ss)) (status job ∷ []) ∙ filled-long

  entry-long : (len : ℕ) → length (bytes 4 head ++ bytes 4 len) ≡ 8
  entry-long len = simp (length-append, length-bytes)

  entered-long : (len : ℕ) → length (entered len) ≡ length m₂
  entered-long len = length-put signed (used_at q a) (bytes 4 head ++ bytes 4 len) ∙ signed-long

  told-long : (len : ℕ) → length (told_of len) ≡ length m₂
  told-long len = length-put (entered len) (q.used + 2) (bytes 2 (plus_one a)) ∙ entered-long len

  -- a used entry lies in the used area
  entry_in : a % q.size < q.size
  entry_in = mod-lt a some

  -- the two stores to the used ring leave the buffers
  told-string : (len : ℕ) → gather (told_of len) (s ∷ ss) ≡ gather signed (s ∷ ss)
  told-string len =
      let k = entry_in in
      gather-put (s ∷ ss) (entered len) (q.used + 2) (bytes 2 (plus_one a))
      (off-in q.used (6 + 8 * q.size) (q.used + 2) (length (bytes 2 (plus_one a))) (s ∷ ss) (omega arith) (omega (arith, length-bytes 2 (plus_one a))) off)
      ∙ gather-put (s ∷ ss) signed (used_at q a) (bytes 4 head ++ bytes 4 len)
      (off-in q.used (6 + 8 * q.size) (used_at q a) (length (bytes 4 head ++ bytes 4 len)) (s ∷ ss) (omega arith) (omega (arith, entry-long len)) off)

  string-told : (len : ℕ) → gather (told_of len) (s ∷ ss) ≡ put (put (gather m₂ (s ∷ ss)) 0 given) (total (s ∷ ss) - 1) (status job ∷ [])
  string-told len =
      told-string len ∙ gather-last s ss (status job) filled each (rw filled-long inside)
      ∙ ap (λ (x : List ℕ). put x (total (s ∷ ss) - 1) (status job ∷ [])) (gather-scatter (s ∷ ss) given m₂ each inside)

  -- a byte outside the used area is as it was before the used entry
  byte_left : (len i : ℕ) → Disjoint q.used (6 + 8 * q.size) i 1 → get_or (told_of len) i 0 ≡ get_or signed i 0
  byte_left len i d =
      let k = entry_in in
      put-apart (entered len) (q.used + 2) (bytes 2 (plus_one a)) i (one_apart d (q.used + 2) (length (bytes 2 (plus_one a))) (omega arith) (omega (arith, length-bytes 2 (plus_one a))))
      ∙ put-apart signed (used_at q a) (bytes 4 head ++ bytes 4 len) i (one_apart d (used_at q a) (length (bytes 4 head ++ bytes 4 len)) (omega arith) (omega (arith, entry-long len)))
    where
      one_apart : Disjoint q.used (6 + 8 * q.size) i 1 → (b n : ℕ) → q.used ≤ b → b + n ≤ q.used + (6 + 8 * q.size) → Apart i b n
      one_apart (first h) b n x y = above (omega arith)
      one_apart (after h) b n x y = below (omega arith)

  status-told : (len : ℕ) → get_or (told_of len) (last_byte_at (s ∷ ss)) 0 ≡ status job
  status-told len =
      byte_left len (last_byte_at (s ∷ ss)) (last_off q.used (6 + 8 * q.size) s ss (length m₂) off inside)
      ∙ rw (add-zero (last_byte_at (s ∷ ss))) at (put_in filled (last_byte_at (s ∷ ss)) (status job ∷ []) 0 (omega arith) (omega (arith, filled-long, last-in (length m₂) s ss inside)))

  answered : (len : ℕ) → len ≡ reported (status job) (total (s ∷ ss)) → head < 2 ^ 32 → len < 2 ^ 32 → Answered q a head (s ∷ ss) job given m₂ (told_of len)
  answered len el hh hl =
      let k = entry_in in
      let n = length-bytes 2 (plus_one a) in
      let l = length-gather (s ∷ ss) m₂ inside in
      record {
        idx-is = word-put 2 (q.used + 2) (plus_one a) (entered len) (more-below a) (omega (arith, entered-long len));
        head-is = word-apart 4 (used_at q a) (entered len) (q.used + 2) (bytes 2 (plus_one a)) (after (omega arith))
            ∙ word-front 4 (used_at q a) head signed (bytes 4 len) (omega arith) (omega (arith, signed-long));
        len_is = word-apart 4 (used_at q a + 4) (entered len) (q.used + 2) (bytes 2 (plus_one a)) (after (omega arith))
            ∙ word-behind 4 (used_at q a) head len signed (omega arith) (omega (arith, signed-long)) ∙ el;
        status-is = status-told len;
        given_is = λ e. rw (string-told len) (front (gather m₂ (s ∷ ss)) given (total (s ∷ ss) - 1) (status job ∷ []) e (omega arith));
        string-is = string-told len;
        long = told-long len;
      }

reported-below : (st w : ℕ) → w ≤ 1048577 → reported st w < 2 ^ 32
unfolding reported
reported-below st w h =
    on (λ (x : ℕ). x < 2 ^ 32) (eqb st 0) (λ t. omega arith) (λ t. on (λ (x : ℕ). x < 2 ^ 32) (eqb w 1) (λ u. omega arith) (λ u. omega arith))

module _ {q : Queue} {rs : List Region} {m : ℕ} {own : List ℕ} {kind r : ℕ} {bufs : List ℕ} {reads e : ℕ} {spots nums : List ℕ} (fit : LayFit q rs m own kind r bufs reads e spots nums) where
  -- the writable buffers are off every range that is off each of them
  pub writes-off : (b n : ℕ) → ((j : ℕ) → reads ≤ j → j < e → Disjoint b n (get_or spots (2 * j) 0) (get_or spots (2 * j + 1) 0)) → Off b n (spans (e - reads) reads spots)
  writes-off b n f = off-spans b n (e - reads) reads spots (λ j x y. f j x (omega (arith, fit.reads_in)))

  -- the first of them, and the others
  pub turn : spans (e - reads) reads spots ≡ buffer spots reads ∷ spans (e - (reads + 1)) (reads + 1) spots
  turn = spans-turn reads e spots (writes-some fit)

  -- the last writable byte is that of the last buffer
  pub last-at : last_byte_at (spans (e - reads) reads spots) ≡ get_or spots (2 * (e - 1)) 0 + (get_or spots (2 * (e - 1) + 1) 0 - 1)
  last-at =
      let w = writes-some fit in
      let l : length (spans (e - (reads + 1)) (reads + 1) spots) ≡ e - (reads + 1) = length-spans (e - (reads + 1)) (reads + 1) spots in
      let n : suc (e - (reads + 1)) ≡ e - reads = omega arith in
      let k : reads + (e - (reads + 1)) ≡ e - 1 = omega arith in
      rw turn (sym (rw k at (rw l at (last-is (buffer spots reads) (spans (e - (reads + 1)) (reads + 1) spots) reads spots (rw (l, n) turn)))))

  module _ (c : Cfg) (same : c.queue ≡ q) (a head : ℕ) (backing : List ℕ) (rs₂ : List Span) (string : List ℕ) (job : Job) (m₂ : List ℕ) (long : length m₂ ≡ m) where
    -- An answer is read as it was given: the driver finds one answer more, the request's head, the length, the status and the data.
    pub answer-read : head < 2 ^ 32
        → Answered q a head (spans (e - reads) reads spots) job (handed c.id (disk_of c.disk backing) (walk head rs₂ (spans (e - reads) reads spots)) job) m₂
        (memory_after (answer c a backing head rs₂ (spans (e - reads) reads spots) string job) m₂)
    answer-read h =
        let ss : List Span = spans (e - (reads + 1)) (reads + 1) spots in
        let f = form-ok fit in
        rw (answer-mem c a backing head rs₂ (spans (e - reads) reads spots) string job m₂, same, turn)
        (answered q a head (buffer spots reads) ss job (handed c.id (disk_of c.disk backing) (walk head rs₂ (buffer spots reads ∷ ss)) job) m₂ (rw turn at (writes-each fit)) (rw long (rw turn at (writes-inside fit)))
        (rw turn at (writes-off q.used (6 + 8 * q.size) (λ j x y. disjoint-sym (buf-used fit j y)))) (rw long fit.used-in) (size_in fit).0
        (reported (status job) (total (buffer spots reads ∷ ss))) refl h (reported-below (status job) (total (buffer spots reads ∷ ss)) (rw turn at f.short)))
