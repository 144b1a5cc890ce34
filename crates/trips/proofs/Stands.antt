-- Laying makes a request stand: the message goes to buffers, the descriptors and the entry to areas, and no two of these have a byte in common.
use Prim.Native.Nat.{ℕ, zero, suc, ◌+◌, ◌*◌, ◌^◌, ◌≤◌, ◌<◌}
use native.Mathlib.Omega.{arith}
use mathlib.Core.Bool.{Bool, true, false}
use mathlib.Core.Path.{◌≡◌, refl, ◌∙◌}
use mathlib.Core.List.{List, [], ◌∷◌, ◌++◌}
use lib.Dec.{ltb, eqb}
use lib.ListN.{length, get_or, length-append}
use borrow.Author.Tests.{eqb-true}
use Rattle.model.specs.Bytes.{put, word, bytes}
use Rattle.model.specs.Memory.{Region}
use Rattle.model.specs.Chain.{desc_at}
use Rattle.model.specs.Step.{apply, scatter, spans}
use Rattle.model.specs.declared.Queue.{Queue}
use Rattle.model.proofs.Tests.{told, on}
use Rattle.model.proofs.Step.{apply-append, length-apply}
use Rattle.model.proofs.Words.{length-bytes, word-put, word-apart}
use Rattle.model.proofs.Lists.{Disjoint, after, length-put}
use Rattle.requests.specs.Serve.{gather, total}
use Rattle.requests.proofs.Spans.{Inside}
use Rattle.driver.specs.Lay.{descriptor, flags_of, next_of, link, links, avail_at, lay_stores}
use Rattle.driver.specs.Fit.{LayFit}
use Rattle.trips.specs.Stands.{Stands, desc_of, Same}
use Rattle.trips.proofs.Lists.{put-over, put-after, word-front, disjoint-in}
use Rattle.trips.proofs.Ranges.{Clear, apply-same, put_same, word_same, gather-same, gather-scatter, length-gather, same-spans}
use Rattle.trips.proofs.Fits.{buf-ok, size_in, buf-avail, desc-avail, buf-num, nums-apart, entry_in, reads-each, reads-inside, writes-some}

pub length-descriptor : (addr len flags nx : ℕ) → length (descriptor addr len flags nx) ≡ 16
unfolding descriptor
length-descriptor addr len flags nx = simp (length-append, length-bytes)

-- a descriptor that was put is read as that descriptor
desc-put : (m : List ℕ) (k addr len flags nx : ℕ) → addr < 2 ^ 64 → len < 2 ^ 32 → flags < 65536 → nx < 65536 → k + 16 ≤ length m
    → desc_at k (put m k (descriptor addr len flags nx)) ≡ record { addr = addr; len = len; flags = flags; next = nx }
unfolding desc_at descriptor
desc-put m k addr len flags nx ha hl hf hn r =
    let m₁ : List ℕ = put m k (bytes 8 addr) in
    let m₂ : List ℕ = put m₁ (k + 8) (bytes 4 len) in
    let n₁ : length m₁ ≡ length m = length-put m k (bytes 8 addr) in
    let n₂ : length m₂ ≡ length m = length-put m₁ (k + 8) (bytes 4 len) ∙ n₁ in
    let m₃ : List ℕ = put m₂ (k + 12) (bytes 2 flags) in
    let n₃ : length m₃ ≡ length m = length-put m₂ (k + 12) (bytes 2 flags) ∙ n₂ in
    let p₁ = put-after m k 8 addr (bytes 4 len ++ (bytes 2 flags ++ bytes 2 nx)) in
    let x : k + 8 + 4 ≡ k + 12 = omega arith in
    let y : k + 12 + 2 ≡ k + 14 = omega arith in
    let p₂ : put m₁ (k + 8) (bytes 4 len ++ (bytes 2 flags ++ bytes 2 nx)) ≡ put m₂ (k + 12) (bytes 2 flags ++ bytes 2 nx) =
    rw x at (put-after m₁ (k + 8) 4 len (bytes 2 flags ++ bytes 2 nx)) in
    let p₃ : put m₂ (k + 12) (bytes 2 flags ++ bytes 2 nx) ≡ put m₃ (k + 14) (bytes 2 nx) = rw y at (put-after m₂ (k + 12) 2 flags (bytes 2 nx)) in
    let a : word 8 k (put m k (bytes 8 addr ++ (bytes 4 len ++ (bytes 2 flags ++ bytes 2 nx)))) ≡ addr =
    word-front 8 k addr m (bytes 4 len ++ (bytes 2 flags ++ bytes 2 nx)) (omega arith) (omega arith) in
    let b : word 4 (k + 8) (put m₁ (k + 8) (bytes 4 len ++ (bytes 2 flags ++ bytes 2 nx))) ≡ len =
    word-front 4 (k + 8) len m₁ (bytes 2 flags ++ bytes 2 nx) (omega arith) (omega arith) in
    let c : word 2 (k + 12) (put m₂ (k + 12) (bytes 2 flags ++ bytes 2 nx)) ≡ flags =
    word-front 2 (k + 12) flags m₂ (bytes 2 nx) (omega arith) (omega arith) in
    let d : word 2 (k + 14) (put m₃ (k + 14) (bytes 2 nx)) ≡ nx = word-put 2 (k + 14) nx m₃ (omega arith) (omega arith) in
    rw (a, p₁, b, p₂, c, p₃, d)

-- memories with the same 16 bytes have the same descriptor
pub desc-same : (k : ℕ) (m₁ m₂ : List ℕ) → Same k 16 m₁ m₂ → desc_at k m₁ ≡ desc_at k m₂
unfolding desc_at
desc-same k m₁ m₂ f =
    rw (
      word_same k 16 8 k m₁ m₂ f (omega arith) (omega arith),
      word_same k 16 4 (k + 8) m₁ m₂ f (omega arith) (omega arith),
      word_same k 16 2 (k + 12) m₁ m₂ f (omega arith) (omega arith),
      word_same k 16 2 (k + 14) m₁ m₂ f (omega arith) (omega arith),
    )

flags-small : (a b : Bool) → flags_of a b < 65536
unfolding flags_of
flags-small true true = omega arith
flags-small true false = omega arith
flags-small false true = omega arith
flags-small false false = omega arith

-- descriptors of other numbers than a range's leave it
pub clear-links : (bufs nums : List ℕ) (desc reads e a l n k : ℕ) → ((j : ℕ) → k ≤ j → j < k + n → Disjoint a l (desc + 16 * get_or nums j 0) 16)
    → Clear a l (links bufs nums desc reads e n k)
unfolding Clear links link
clear-links bufs nums desc reads e a l zero k f = tt
clear-links bufs nums desc reads e a l (suc n) k f =
    let z = length-descriptor (get_or bufs (2 * k) 0) (get_or bufs (2 * k + 1) 0) (flags_of (ltb k reads) (eqb (k + 1) e)) (next_of (eqb (k + 1) e) (get_or nums (k + 1) 0)) in
    (rw z (f k (omega arith) (omega arith)), clear-links bufs nums desc reads e a l n (suc k) (λ j x y. f j (omega arith) (omega arith)))

-- idx of the available ring is no entry of it
pub publish-entry : (q : Queue) (nx idx : ℕ) (mem : List ℕ) → word 2 (avail_at q nx) (put mem (q.avail + 2) (bytes 2 idx)) ≡ word 2 (avail_at q nx) mem
publish-entry q nx idx mem = word-apart 2 (avail_at q nx) mem (q.avail + 2) (bytes 2 idx) (after (omega (arith, length-bytes 2 idx)))

module _ {q : Queue} {rs : List Region} {m : ℕ} {own : List ℕ} {kind r : ℕ} {bufs : List ℕ} {reads e : ℕ} {spots nums : List ℕ} (fit : LayFit q rs m own kind r bufs reads e spots nums) where
  -- the number that follows in the chain is a descriptor's, or 0
  next_small : (i : ℕ) → i < e → next_of (eqb (i + 1) e) (get_or nums (i + 1) 0) < 65536
  unfolding next_of
  next_small i h =
      on (λ (x : ℕ). x < 65536) (eqb (i + 1) e) (λ t. omega arith)
      (λ t. let s = size_in fit in let n = fit.numbers (i + 1) (omega told) in omega arith)

  -- n descriptors written, from that of buffer k on: the one of buffer i stands
  links-stand : (n k : ℕ) (mem : List ℕ) → length mem ≡ m → k + n ≡ e → (i : ℕ) → k ≤ i → i < e
      → desc_at (q.desc + 16 * get_or nums i 0) (apply (links bufs nums q.desc reads e n k) mem) ≡ desc_of bufs nums reads e i
  unfolding links link apply desc_of
  links-stand zero k mem l h i x y = absurd (omega arith)
  links-stand (suc n) k mem l h i x y = go (eqb i k) refl (λ u. links-stand n (suc k) m₂ l₂ (omega arith) i u y)
    where
      ds : List ℕ
      ds = descriptor (get_or bufs (2 * k) 0) (get_or bufs (2 * k + 1) 0) (flags_of (ltb k reads) (eqb (k + 1) e)) (next_of (eqb (k + 1) e) (get_or nums (k + 1) 0))

      m₂ : List ℕ
      m₂ = put mem (q.desc + 16 * get_or nums k 0) ds

      l₂ : length m₂ ≡ m
      l₂ = length-put mem (q.desc + 16 * get_or nums k 0) ds ∙ l

      one : k < e → desc_at (q.desc + 16 * get_or nums k 0) (apply (links bufs nums q.desc reads e n (suc k)) m₂) ≡ desc_of bufs nums reads e k
      one u =
          let b = buf-ok fit k u in
          let v = fit.numbers k u in
          let d = fit.desc-in in
          desc-same (q.desc + 16 * get_or nums k 0) (apply (links bufs nums q.desc reads e n (suc k)) m₂) m₂
          (apply-same (links bufs nums q.desc reads e n (suc k)) m₂ (q.desc + 16 * get_or nums k 0) 16
          (clear-links bufs nums q.desc reads e (q.desc + 16 * get_or nums k 0) 16 n (suc k) (λ j s t. nums-apart fit k j (omega arith) (omega arith))))
          ∙ desc-put mem (q.desc + 16 * get_or nums k 0) (get_or bufs (2 * k) 0) (get_or bufs (2 * k + 1) 0) (flags_of (ltb k reads) (eqb (k + 1) e))
          (next_of (eqb (k + 1) e) (get_or nums (k + 1) 0)) b.below (omega (arith, b.short)) (flags-small (ltb k reads) (eqb (k + 1) e)) (next_small k u) (omega arith)

      go : (b : Bool) → eqb i k ≡ b → (suc k ≤ i → desc_at (q.desc + 16 * get_or nums i 0) (apply (links bufs nums q.desc reads e n (suc k)) m₂) ≡ desc_of bufs nums reads e i)
          → desc_at (q.desc + 16 * get_or nums i 0) (apply (links bufs nums q.desc reads e n (suc k)) m₂) ≡ desc_of bufs nums reads e i
      go true b f = rw (eqb-true i k b) (one (omega told))
      go false b f = f (omega told)

  -- A request stays as it stands while its descriptors and its readable buffers do.
  pub stands-kept : (message m₁ m₂ : List ℕ) → Stands q bufs spots nums reads e message m₁ → length m₂ ≡ length m₁
      → ((i : ℕ) → i < e → Same (q.desc + 16 * get_or nums i 0) 16 m₂ m₁)
      → ((i : ℕ) → i < reads → Same (get_or spots (2 * i) 0) (get_or spots (2 * i + 1) 0) m₂ m₁) → Stands q bufs spots nums reads e message m₂
  stands-kept message m₁ m₂ s l f g =
      record {
        descs = λ i h. desc-same (q.desc + 16 * get_or nums i 0) m₂ m₁ (f i h) ∙ s.descs i h;
        holds = gather-same (spans reads 0 spots) m₂ m₁ l (same-spans reads 0 spots m₂ m₁ (λ j x y. g j (omega arith))) ∙ s.holds;
      }

  -- .. so bytes put elsewhere leave it standing
  pub stands-put : (message mem : List ℕ) (k : ℕ) (bs : List ℕ) → Stands q bufs spots nums reads e message mem
      → ((i : ℕ) → i < e → Disjoint (q.desc + 16 * get_or nums i 0) 16 k (length bs))
      → ((i : ℕ) → i < reads → Disjoint (get_or spots (2 * i) 0) (get_or spots (2 * i + 1) 0) k (length bs)) → Stands q bufs spots nums reads e message (put mem k bs)
  stands-put message mem k bs s f g =
      stands-kept message mem (put mem k bs) s (length-put mem k bs) (λ i h. put_same mem k bs (q.desc + 16 * get_or nums i 0) 16 (f i h))
      (λ i h. put_same mem k bs (get_or spots (2 * i) 0) (get_or spots (2 * i + 1) 0) (g i h))

  -- .. and any bytes of the available ring do
  pub stands-avail : (message mem : List ℕ) (k : ℕ) (bs : List ℕ) → Stands q bufs spots nums reads e message mem → q.avail ≤ k
      → k + length bs ≤ q.avail + (6 + 2 * q.size) → Stands q bufs spots nums reads e message (put mem k bs)
  stands-avail message mem k bs s h u =
      stands-put message mem k bs s
      (λ i x. let n = fit.numbers i x in
      disjoint-in q.desc (16 * q.size) q.avail (6 + 2 * q.size) (q.desc + 16 * get_or nums i 0) 16 k (length bs) (desc-avail fit) (omega arith) (omega arith) h u)
      (λ i x. disjoint-in (get_or spots (2 * i) 0) (get_or spots (2 * i + 1) 0) q.avail (6 + 2 * q.size) (get_or spots (2 * i) 0) (get_or spots (2 * i + 1) 0) k (length bs)
      (buf-avail fit i (omega (arith, fit.reads_in))) (omega arith) (omega arith) h u)

  -- publishing any idx leaves it standing
  pub publish-stands : (message mem : List ℕ) (idx : ℕ) → Stands q bufs spots nums reads e message mem
      → Stands q bufs spots nums reads e message (put mem (q.avail + 2) (bytes 2 idx))
  publish-stands message mem idx s =
      let n = length-bytes 2 idx in stands-avail message mem (q.avail + 2) (bytes 2 idx) s (omega arith) (omega arith)

  module _ (mem message : List ℕ) (nx : ℕ) (long : length mem ≡ m) (whole : length message ≡ r) where
    -- the memory after the message and the descriptors are written
    abbrev laid : List ℕ
    laid = apply (links bufs nums q.desc reads e e 0) (apply (scatter (spans reads 0 spots) message) mem)

    lay-mem : apply (lay_stores q nx message reads e bufs spots nums) mem ≡ put laid (avail_at q nx) (bytes 2 (get_or nums 0 0))
    unfolding lay_stores apply
    lay-mem =
        apply-append (scatter (spans reads 0 spots) message) (links bufs nums q.desc reads e e 0 ++ (record { to = avail_at q nx; bytes = bytes 2 (get_or nums 0 0) } ∷ [])) mem
        ∙ apply-append (links bufs nums q.desc reads e e 0) (record { to = avail_at q nx; bytes = bytes 2 (get_or nums 0 0) } ∷ [])
        (apply (scatter (spans reads 0 spots) message) mem)

    laid-long : length laid ≡ m
    laid-long = length-apply (links bufs nums q.desc reads e e 0) (apply (scatter (spans reads 0 spots) message) mem) ∙ length-apply (scatter (spans reads 0 spots) message) mem ∙ long

    laid-stands : Stands q bufs spots nums reads e message laid
    laid-stands =
        let m₁ : List ℕ = apply (scatter (spans reads 0 spots) message) mem in
        let l₁ : length m₁ ≡ m = length-apply (scatter (spans reads 0 spots) message) mem ∙ long in
        let k : Inside (length mem) (spans reads 0 spots) = rw long (reads-inside fit) in
        let g : gather m₁ (spans reads 0 spots) ≡ put (gather mem (spans reads 0 spots)) 0 message = gather-scatter (spans reads 0 spots) message mem (reads-each fit) k in
        let n : length (gather mem (spans reads 0 spots)) ≡ total (spans reads 0 spots) = length-gather (spans reads 0 spots) mem k in
        let o : put (gather mem (spans reads 0 spots)) 0 message ≡ message = put-over (gather mem (spans reads 0 spots)) message (omega (arith, fit.readable)) in
        record {
          descs = λ i h. links-stand e 0 m₁ l₁ (omega arith) i (omega arith) h;
          holds = gather-same (spans reads 0 spots) laid m₁ (length-apply (links bufs nums q.desc reads e e 0) m₁)
              (same-spans reads 0 spots laid m₁
              (λ i x y. apply-same (links bufs nums q.desc reads e e 0) m₁ (get_or spots (2 * i) 0) (get_or spots (2 * i + 1) 0)
              (clear-links bufs nums q.desc reads e (get_or spots (2 * i) 0) (get_or spots (2 * i + 1) 0) e 0
              (λ j s t. buf-num fit i j (omega (arith, fit.reads_in)) (omega arith)))))
              ∙ g ∙ o;
        }

    -- A request that was laid stands ..
    pub lay-stands : Stands q bufs spots nums reads e message (apply (lay_stores q nx message reads e bufs spots nums) mem)
    lay-stands =
        let n = entry_in fit nx in
        let b = length-bytes 2 (get_or nums 0 0) in
        rw lay-mem (stands-avail message laid (avail_at q nx) (bytes 2 (get_or nums 0 0)) laid-stands (omega arith) (omega arith))

    -- .. and its head is in the available ring.
    pub lay-entry : word 2 (avail_at q nx) (apply (lay_stores q nx message reads e bufs spots nums) mem) ≡ get_or nums 0 0
    lay-entry =
        let n = entry_in fit nx in
        let s = size_in fit in
        let z = fit.numbers 0 (omega (arith, writes-some fit)) in
        let a = fit.avail-in in
        rw lay-mem (word-put 2 (avail_at q nx) (get_or nums 0 0) laid (omega arith) (omega (arith, laid-long)))

    pub lay-long : length (apply (lay_stores q nx message reads e bufs spots nums) mem) ≡ m
    lay-long = length-apply (lay_stores q nx message reads e bufs spots nums) mem ∙ long
