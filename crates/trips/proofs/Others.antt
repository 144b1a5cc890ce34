-- Laying a request writes its own descriptors, its readable buffers and one entry of the available ring: so it leaves the requests laid before.
use Prim.Native.Nat.{ℕ, suc, ◌+◌, ◌-◌, ◌*◌, ◌/◌, ◌%◌, ◌≤◌, ◌<◌}
use native.Mathlib.Omega.{arith}
use native.Mathlib.Nat.{mul-suc, mul-add, mul-le-mul_left, div-add-mod}
use mathlib.Core.Bool.{Bool, true, false}
use mathlib.Core.Path.{◌≡◌, refl, ◌∙◌}
use mathlib.Core.List.{List, [], ◌∷◌, ◌++◌}
use lib.Dec.{ltb, eqb}
use lib.ListN.{length, get_or}
use borrow.Author.Tests.{ltb-true, ltb-false, eqb-true}
use Rattle.model.specs.Ring.{queue_size_ok, pending, plus_one}
use Rattle.model.specs.Bytes.{word, bytes}
use Rattle.model.specs.Memory.{Region}
use Rattle.model.specs.Step.{apply, scatter, spans}
use Rattle.model.specs.declared.Queue.{Queue}
use Rattle.model.proofs.Ring.{every, size-passes}
use Rattle.model.proofs.Step.{length-apply}
use Rattle.model.proofs.Words.{length-bytes, word-put}
use Rattle.model.proofs.Lists.{Disjoint, first, after}
use Rattle.driver.specs.Lay.{links, avail_at, lay_stores}
use Rattle.driver.specs.Fit.{LayFit}
use Rattle.trips.specs.Stands.{Stands, Same, Waits, published}
use Rattle.trips.proofs.Lists.{disjoint-sym, disjoint-in}
use Rattle.trips.proofs.Ranges.{Clear, clear-append, clear-scatter, off-spans, apply-same, word_same}
use Rattle.trips.proofs.Fits.{buf-avail, buf-desc, desc-avail, entry_in, size_in}
use Rattle.trips.proofs.Stands.{clear-links, stands-kept, publish-entry}
use Rattle.trips.proofs.Taken.{more-below}

-- multiples of a width, of two different numbers, are a width apart
step-on : (b w i j : ℕ) → i < j → b + w * i + w ≤ b + w * j
step-on b w i j h = let p : suc i ≤ j = omega arith in omega (arith, mul-le-mul_left w p, mul-suc w i)

steps_apart : (b w i j : ℕ) → (i ≡ j → ⊥) → Disjoint (b + w * i) w (b + w * j) w
steps_apart b w i j ne = go (ltb i j) refl
  where
    go : (t : Bool) → ltb i j ≡ t → Disjoint (b + w * i) w (b + w * j) w
    go true t = first (step-on b w i j (ltb-true i j t))
    go false t = after (step-on b w j i (omega (arith, ltb-false i j t)))

-- two multiples of n are not less than n apart
rest-apart : (n x y d : ℕ) → n * x + d ≡ n * y → 1 ≤ d → d < n → ⊥
rest-apart n x y d e l h = go (ltb x y) refl
  where
    go : (t : Bool) → ltb x y ≡ t → ⊥
    go true t = let p : suc x ≤ y = ltb-true x y t in omega (arith, mul-le-mul_left n p, mul-suc n x)
    go false t = omega (arith, mul-le-mul_left n (ltb-false x y t))

-- two entries of which one is less than a whole queue behind the other are different: all sizes divide 2^16
elsewhere : (n t nx : ℕ) → queue_size_ok n ≡ true → t < 65536 → nx < 65536 → 1 ≤ pending nx t → pending nx t < n → t % n ≡ nx % n → ⊥
unfolding pending every
elsewhere n t nx ok ht hn l u e =
    let d = eqb-true (n * (65536 / n)) 65536 (size-passes (λ (m : ℕ). eqb (m * (65536 / m)) 65536) n refl ok) in
    go (ltb nx t) refl d (div-add-mod t n) (div-add-mod nx n)
  where
    go : (b : Bool) → ltb nx t ≡ b → n * (65536 / n) ≡ 65536 → n * (t / n) + t % n ≡ t → n * (nx / n) + nx % n ≡ nx → ⊥
    go true b d p q = rest-apart n (t / n) (nx / n + 65536 / n) ((nx + 65536 - t) % 65536) (omega (arith, mul-add n (nx / n) (65536 / n), ltb-true nx t b)) l u
    go false b d p q = rest-apart n (t / n) (nx / n) ((nx + 65536 - t) % 65536) (omega (arith, ltb-false nx t b)) l u

pending-more : (t nx : ℕ) → t < 65536 → nx < 65536 → pending nx t < 65535 → pending (plus_one nx) t ≡ pending nx t + 1
unfolding pending plus_one
pending-more t nx ht hn l = omega arith

module _ {q : Queue} {rs : List Region} {m : ℕ} {own : List ℕ} {kind r : ℕ} {bufs : List ℕ} {reads e : ℕ} {spots nums : List ℕ} (fit : LayFit q rs m own kind r bufs reads e spots nums) (mem message : List ℕ) (nx : ℕ) where
  -- a range off the request's readable buffers, its descriptors and its entry keeps its bytes
  pub lay-same : (b n : ℕ) → ((j : ℕ) → j < reads → Disjoint b n (get_or spots (2 * j) 0) (get_or spots (2 * j + 1) 0))
      → ((j : ℕ) → j < e → Disjoint b n (q.desc + 16 * get_or nums j 0) 16) → Disjoint b n (avail_at q nx) 2
      → Same b n (apply (lay_stores q nx message reads e bufs spots nums) mem) mem
  unfolding lay_stores Clear
  lay-same b n f g d =
      apply-same (lay_stores q nx message reads e bufs spots nums) mem b n
      (clear-append b n (scatter (spans reads 0 spots) message) (links bufs nums q.desc reads e e 0 ++ (record { to = avail_at q nx; bytes = bytes 2 (get_or nums 0 0) } ∷ []))
      (clear-scatter b n (spans reads 0 spots) message (off-spans b n reads 0 spots (λ j x y. f j (omega arith))))
      (clear-append b n (links bufs nums q.desc reads e e 0) (record { to = avail_at q nx; bytes = bytes 2 (get_or nums 0 0) } ∷ [])
      (clear-links bufs nums q.desc reads e b n e 0 (λ j x y. g j (omega arith))) (rw (length-bytes 2 (get_or nums 0 0)) d, tt)))

  -- another entry of the available ring, and its idx, are as they were
  avail-same : (k : ℕ) → q.avail ≤ k → k + 2 ≤ q.avail + (6 + 2 * q.size) → Disjoint k 2 (avail_at q nx) 2
      → word 2 k (apply (lay_stores q nx message reads e bufs spots nums) mem) ≡ word 2 k mem
  avail-same k l u d =
      word_same k 2 2 k (apply (lay_stores q nx message reads e bufs spots nums) mem) mem
      (lay-same k 2
      (λ j x. disjoint-in q.avail (6 + 2 * q.size) (get_or spots (2 * j) 0) (get_or spots (2 * j + 1) 0) k 2 (get_or spots (2 * j) 0) (get_or spots (2 * j + 1) 0)
      (disjoint-sym (buf-avail fit j (omega (arith, fit.reads_in)))) l u (omega arith) (omega arith))
      (λ j x. let n = fit.numbers j x in
      disjoint-in q.avail (6 + 2 * q.size) q.desc (16 * q.size) k 2 (q.desc + 16 * get_or nums j 0) 16 (disjoint-sym (desc-avail fit)) l u (omega arith) (omega arith)) d)
      (omega arith) (omega arith)

  pub lay-entries : (n : ℕ) → (n % q.size ≡ nx % q.size → ⊥) → word 2 (avail_at q n) (apply (lay_stores q nx message reads e bufs spots nums) mem) ≡ word 2 (avail_at q n) mem
  lay-entries n ne =
      let p = entry_in fit n in
      let z : q.avail + 4 + 2 * (n % q.size) ≡ avail_at q n = omega arith in
      let y : q.avail + 4 + 2 * (nx % q.size) ≡ avail_at q nx = omega arith in
      avail-same (avail_at q n) (omega arith) (omega arith) (rw (z, y) at (steps_apart (q.avail + 4) 2 (n % q.size) (nx % q.size) ne))

  pub lay-idx : word 2 (q.avail + 2) (apply (lay_stores q nx message reads e bufs spots nums) mem) ≡ word 2 (q.avail + 2) mem
  lay-idx = avail-same (q.avail + 2) (omega arith) (omega arith) (first (omega arith))

  -- A request laid before, whose descriptors are still its own and whose readable buffers are off this one's, stands as it stood.
  pub lay-others : {rs₃ : List Region} {own₃ : List ℕ} {kind₃ r₃ : ℕ} {bufs₃ : List ℕ} {reads₃ e₃ : ℕ} {spots₃ nums₃ : List ℕ}
      → LayFit q rs₃ m own₃ kind₃ r₃ bufs₃ reads₃ e₃ spots₃ nums₃ → ((i : ℕ) → i < e₃ → get_or own (get_or nums₃ i 0) 0 ≡ 0 → ⊥)
      → ((i j : ℕ) → i < reads₃ → j < reads → Disjoint (get_or spots₃ (2 * i) 0) (get_or spots₃ (2 * i + 1) 0) (get_or spots (2 * j) 0) (get_or spots (2 * j + 1) 0))
      → (message₃ : List ℕ) → Stands q bufs₃ spots₃ nums₃ reads₃ e₃ message₃ mem
      → Stands q bufs₃ spots₃ nums₃ reads₃ e₃ message₃ (apply (lay_stores q nx message reads e bufs spots nums) mem)
  lay-others {spots₃ = spots₃} {nums₃ = nums₃} fit₃ mine f message₃ st =
      let a = entry_in fit nx in
      stands-kept fit₃ message₃ mem (apply (lay_stores q nx message reads e bufs spots nums) mem) st (length-apply (lay_stores q nx message reads e bufs spots nums) mem)
      (λ i h. let n = fit₃.numbers i h in
      lay-same (q.desc + 16 * get_or nums₃ i 0) 16
      (λ j x. disjoint-in q.desc (16 * q.size) (get_or spots (2 * j) 0) (get_or spots (2 * j + 1) 0) (q.desc + 16 * get_or nums₃ i 0) 16 (get_or spots (2 * j) 0) (get_or spots (2 * j + 1) 0)
      (disjoint-sym (buf-desc fit j (omega (arith, fit.reads_in)))) (omega arith) (omega arith) (omega arith) (omega arith))
      (λ j x. steps_apart q.desc 16 (get_or nums₃ i 0) (get_or nums j 0) (λ z. mine i h (rw z (fit.unused j x))))
      (disjoint-in q.desc (16 * q.size) q.avail (6 + 2 * q.size) (q.desc + 16 * get_or nums₃ i 0) 16 (avail_at q nx) 2 (desc-avail fit) (omega arith) (omega arith) (omega arith) (omega arith)))
      (λ i h. let u = fit₃.reads_in in
      lay-same (get_or spots₃ (2 * i) 0) (get_or spots₃ (2 * i + 1) 0) (λ j x. f i j h x)
      (λ j x. let n = fit.numbers j x in
      disjoint-in (get_or spots₃ (2 * i) 0) (get_or spots₃ (2 * i + 1) 0) q.desc (16 * q.size) (get_or spots₃ (2 * i) 0) (get_or spots₃ (2 * i + 1) 0) (q.desc + 16 * get_or nums j 0) 16
      (buf-desc fit₃ i (omega arith)) (omega arith) (omega arith) (omega arith) (omega arith))
      (disjoint-in (get_or spots₃ (2 * i) 0) (get_or spots₃ (2 * i + 1) 0) q.avail (6 + 2 * q.size) (get_or spots₃ (2 * i) 0) (get_or spots₃ (2 * i + 1) 0) (avail_at q nx) 2
      (buf-avail fit₃ i (omega arith)) (omega arith) (omega arith) (omega arith) (omega arith)))

  -- .. and waits as it waited, if idx was the driver's own and the queue is not full of waiting ones.
  pub lay-waits : (nums₃ : List ℕ) (t : ℕ) → Waits q nums₃ t mem → length mem ≡ m → word 2 (q.avail + 2) mem ≡ nx → t < 65536 → nx < 65536 → pending nx t < q.size
      → Waits q nums₃ t (published q nx message reads e bufs spots nums mem)
  lay-waits nums₃ t w long here ht hn l =
      let m₁ : List ℕ = apply (lay_stores q nx message reads e bufs spots nums) mem in
      let s = size_in fit in
      let p : 1 ≤ pending nx t = rw here at w.waits in
      let k = pending-more t nx ht hn (omega arith) in
      let i = word-put 2 (q.avail + 2) (plus_one nx) m₁ (more-below nx) (omega (arith, length-apply (lay_stores q nx message reads e bufs spots nums) mem, fit.avail-in)) in
      record {
        entry-is = publish-entry q t (plus_one nx) m₁ ∙ lay-entries t (elsewhere q.size t nx fit.size_ok ht hn p l) ∙ w.entry-is;
        waits = rw (i, k) (omega arith);
        few = rw (i, k) (omega arith);
      }
