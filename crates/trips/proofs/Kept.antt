-- An answer leaves every byte outside the request's writable buffers and the used ring; so it leaves the other requests.
use Prim.Native.Nat.{ℕ, ◌+◌, ◌-◌, ◌*◌, ◌≤◌, ◌<◌}
use native.Mathlib.Omega.{arith}
use native.Mathlib.Nat.{mod-lt}
use mathlib.Core.Path.{◌≡◌, ◌∙◌}
use mathlib.Core.List.{List, [], ◌∷◌, ◌++◌}
use lib.ListN.{length, get_or, length-append}
use Rattle.model.specs.Bytes.{put, bytes}
use Rattle.model.specs.Memory.{Region}
use Rattle.model.specs.Ring.{plus_one}
use Rattle.model.specs.Request.{status, reported}
use Rattle.model.specs.Step.{Cfg, buffer, apply, scatter, spans, handed, used_at, disk_of}
use Rattle.model.specs.declared.Span.{Span}
use Rattle.model.specs.declared.Queue.{Queue}
use Rattle.model.specs.declared.Job.{Job}
use Rattle.model.proofs.Step.{length-apply}
use Rattle.model.proofs.Words.{length-bytes}
use Rattle.model.proofs.Lists.{Apart, Disjoint}
use Rattle.requests.specs.Serve.{total, walk, last_byte_at, answer, memory_after}
use Rattle.driver.specs.Lay.{avail_at}
use Rattle.driver.specs.Fit.{LayFit}
use Rattle.trips.specs.Stands.{Stands, Same, Waits}
use Rattle.trips.proofs.Lists.{disjoint-sym, disjoint-in, apart-one}
use Rattle.trips.proofs.Ranges.{Off, clear-scatter, apply-same, put_same, word_same, last_off}
use Rattle.trips.proofs.Fits.{size_in, entry_in, buf-desc, buf-avail, buf-used, desc-used, avail-used, writes-inside}
use Rattle.trips.proofs.Stands.{stands-kept}
use Rattle.trips.proofs.Read.{answer-mem, writes-off, turn}

-- bytes that are the same in one memory and the next, and in the next and the one after it
same_then : (b n : ℕ) (m₁ m₂ m₃ : List ℕ) → Same b n m₁ m₂ → Same b n m₂ m₃ → Same b n m₁ m₃
unfolding Same
same_then b n m₁ m₂ m₃ f g i l u = f i l u ∙ g i l u

same_at : (i : ℕ) (m₁ m₂ : List ℕ) → Same i 1 m₁ m₂ → get_or m₁ i 0 ≡ get_or m₂ i 0
unfolding Same
same_at i m₁ m₂ f = f i (omega arith) (omega arith)

module _ {q : Queue} {rs : List Region} {m : ℕ} {own : List ℕ} {kind r : ℕ} {bufs : List ℕ} {reads e : ℕ} {spots nums : List ℕ} (fit : LayFit q rs m own kind r bufs reads e spots nums) (c : Cfg) (same : c.queue ≡ q) (a head : ℕ) (backing : List ℕ) (rs₂ : List Span) (string : List ℕ) (job : Job) (m₂ : List ℕ) where
  -- the memory after the answer
  abbrev pub answered_mem : List ℕ
  answered_mem = memory_after (answer c a backing head rs₂ (spans (e - reads) reads spots) string job) m₂

  pub answer-long : length answered_mem ≡ length m₂
  unfolding memory_after answer
  answer-long = length-apply _ m₂

  -- a range that is off the writable buffers and off the used area keeps its bytes ..
  pub answer-same : (b n : ℕ) → ((j : ℕ) → reads ≤ j → j < e → Disjoint b n (get_or spots (2 * j) 0) (get_or spots (2 * j + 1) 0))
      → Disjoint b n q.used (6 + 8 * q.size) → Same b n answered_mem m₂
  answer-same b n f d =
      let k = mod-lt a (size_in fit).0 in
      let o : Off b n (spans (e - reads) reads spots) = writes-off fit b n f in
      let given : List ℕ = handed c.id (disk_of c.disk backing) (walk head rs₂ (spans (e - reads) reads spots)) job in
      let len : ℕ = reported (status job) (total (spans (e - reads) reads spots)) in
      let m₃ : List ℕ = apply (scatter (spans (e - reads) reads spots) given) m₂ in
      let m₄ : List ℕ = put m₃ (last_byte_at (spans (e - reads) reads spots)) (status job ∷ []) in
      let m₅ : List ℕ = put m₄ (used_at q a) (bytes 4 head ++ bytes 4 len) in
      let l : length (bytes 4 head ++ bytes 4 len) ≡ 8 = simp (length-append, length-bytes) in
      let last : Disjoint b n (last_byte_at (spans (e - reads) reads spots)) 1 =
      rw (turn fit) (last_off b n (buffer spots reads) (spans (e - (reads + 1)) (reads + 1) spots) m (rw (turn fit) at o) (rw (turn fit) at (writes-inside fit))) in
      rw (answer-mem c a backing head rs₂ (spans (e - reads) reads spots) string job m₂, same)
      (same_then b n (put m₅ (q.used + 2) (bytes 2 (plus_one a))) m₅ m₂
      (put_same m₅ (q.used + 2) (bytes 2 (plus_one a)) b n
      (disjoint-in b n q.used (6 + 8 * q.size) b n (q.used + 2) (length (bytes 2 (plus_one a))) d (omega arith) (omega arith) (omega arith) (omega (arith, length-bytes 2 (plus_one a)))))
      (same_then b n m₅ m₄ m₂
      (put_same m₄ (used_at q a) (bytes 4 head ++ bytes 4 len) b n
      (disjoint-in b n q.used (6 + 8 * q.size) b n (used_at q a) (length (bytes 4 head ++ bytes 4 len)) d (omega arith) (omega arith) (omega arith) (omega arith)))
      (same_then b n m₄ m₃ m₂ (put_same m₃ (last_byte_at (spans (e - reads) reads spots)) (status job ∷ []) b n last)
      (apply-same (scatter (spans (e - reads) reads spots) given) m₂ b n (clear-scatter b n (spans (e - reads) reads spots) given o)))))

  -- .. so every single byte outside them does
  pub answer-apart : (i : ℕ) → ((j : ℕ) → reads ≤ j → j < e → Apart i (get_or spots (2 * j) 0) (get_or spots (2 * j + 1) 0)) → Apart i q.used (6 + 8 * q.size)
      → get_or answered_mem i 0 ≡ get_or m₂ i 0
  answer-apart i f d = same_at i answered_mem m₂ (answer-same i 1 (λ j x y. apart-one (f j x y)) (apart-one d))

  -- the available ring is as the driver left it
  pub answer-avail : Same q.avail (6 + 2 * q.size) answered_mem m₂
  answer-avail = answer-same q.avail (6 + 2 * q.size) (λ j x y. disjoint-sym (buf-avail fit j y)) (avail-used fit)

  -- so another request that waits still does
  pub answer-waits : (nums₃ : List ℕ) (t : ℕ) → Waits q nums₃ t m₂ → Waits q nums₃ t answered_mem
  answer-waits nums₃ t w =
      let n = entry_in fit t in
      let a = word_same q.avail (6 + 2 * q.size) 2 (avail_at q t) answered_mem m₂ answer-avail (omega arith) (omega arith) in
      let i = word_same q.avail (6 + 2 * q.size) 2 (q.avail + 2) answered_mem m₂ answer-avail (omega arith) (omega arith) in
      record { entry-is = a ∙ w.entry-is; waits = rw i w.waits; few = rw i w.few }

  -- Another request that stands, with readable buffers off this one's writable ones, still stands after the answer.
  pub answer-stands : {rs₃ : List Region} {own₃ : List ℕ} {kind₃ r₃ : ℕ} {bufs₃ : List ℕ} {reads₃ e₃ : ℕ} {spots₃ nums₃ : List ℕ}
      → LayFit q rs₃ m own₃ kind₃ r₃ bufs₃ reads₃ e₃ spots₃ nums₃
      → ((i j : ℕ) → i < reads₃ → reads ≤ j → j < e → Disjoint (get_or spots₃ (2 * i) 0) (get_or spots₃ (2 * i + 1) 0) (get_or spots (2 * j) 0) (get_or spots (2 * j + 1) 0))
      → (message : List ℕ) → Stands q bufs₃ spots₃ nums₃ reads₃ e₃ message m₂ → Stands q bufs₃ spots₃ nums₃ reads₃ e₃ message answered_mem
  answer-stands {spots₃ = spots₃} {nums₃ = nums₃} fit₃ f message st =
      stands-kept fit₃ message m₂ answered_mem st answer-long
      (λ i h. let n = fit₃.numbers i h in
      answer-same (q.desc + 16 * get_or nums₃ i 0) 16
      (λ j x y. disjoint-in q.desc (16 * q.size) (get_or spots (2 * j) 0) (get_or spots (2 * j + 1) 0) (q.desc + 16 * get_or nums₃ i 0) 16 (get_or spots (2 * j) 0) (get_or spots (2 * j + 1) 0)
      (disjoint-sym (buf-desc fit j y)) (omega arith) (omega arith) (omega arith) (omega arith))
      (disjoint-in q.desc (16 * q.size) q.used (6 + 8 * q.size) (q.desc + 16 * get_or nums₃ i 0) 16 q.used (6 + 8 * q.size) (desc-used fit) (omega arith) (omega arith) (omega arith) (omega arith)))
      (λ i h. answer-same (get_or spots₃ (2 * i) 0) (get_or spots₃ (2 * i + 1) 0) (λ j x y. f i j h x y) (buf-used fit₃ i (omega (arith, fit₃.reads_in))))
