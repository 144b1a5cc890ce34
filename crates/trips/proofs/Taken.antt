-- The device follows the chain of a request that stands, buffer by buffer, and so takes exactly that request.
use Prim.Native.Nat.{ℕ, zero, suc, ◌+◌, ◌-◌, ◌*◌, ◌^◌, ◌≤◌, ◌<◌, min}
use native.Mathlib.Omega.{arith}
use native.Mathlib.Nat.{add-zero, zero-add}
use native.Mathlib.Numerals.{add-one}
use mathlib.Core.Bool.{Bool, true, false}
use mathlib.Core.Path.{◌≡◌, refl, sym, ap, ◌∙◌}
use mathlib.Core.List.{List, [], ◌∷◌, ◌++◌}
use lib.Dec.{ltb, eqb}
use lib.ListN.{length, get_or}
use borrow.Author.Tests.{lt-leb, le-ltb, ne_eqb, eq-eqb}
use Rattle.model.specs.Pick.{pick}
use Rattle.model.specs.Bytes.{word, bytes}
use Rattle.model.specs.Memory.{Region, locate}
use Rattle.model.specs.Ring.{pending, plus_one}
use Rattle.model.specs.Chain.{desc_at, tested, tested_by}
use Rattle.model.specs.Step.{Cfg, buffer, spans, apply}
use Rattle.std.specs.Prelude.{Some}
use Rattle.model.specs.declared.Span.{Span}
use Rattle.model.specs.declared.Queue.{Queue}
use Rattle.model.specs.declared.Tested.TheVariants.{Next, Last}
use Rattle.model.specs.declared.Walk.{Walk}
use Rattle.model.proofs.Tests.{told}
use Rattle.model.proofs.Words.{word-put}
use Rattle.model.proofs.Lists.{length-put}
use Rattle.requests.specs.Serve.{Seen, still, total, walk, Followed, whole, linked, follow, carried, answer, job_of, serve}
use Rattle.driver.specs.Lay.{flags_of, next_of, avail_at, lay_stores}
use Rattle.driver.specs.Fit.{LayFit}
use Rattle.trips.specs.Stands.{Stands, desc_of, Waits, published}
use Rattle.trips.proofs.Fits.{buf-ok, size_in, writes-some}
use Rattle.trips.proofs.Stands.{lay-stands, lay-entry, lay-long, publish-stands, publish-entry}

pub length-spans : (n k : ℕ) (chain : List ℕ) → length (spans n k chain) ≡ n
unfolding spans
length-spans zero k chain = refl
length-spans (suc n) k chain = ap suc (length-spans n (suc k) chain)

-- one buffer more, at the end
spans-more : (n k : ℕ) (chain : List ℕ) → spans (suc n) k chain ≡ spans n k chain ++ (buffer chain (k + n) ∷ [])
unfolding spans
spans-more zero k chain = rw (add-zero k)
spans-more (suc n) k chain =
    let z : k + suc n ≡ suc k + n = omega arith in rw z (ap (λ (l : List Span). buffer chain k ∷ l) (spans-more n (suc k) chain))

-- a descriptor that the driver wrote passes the tests
tested-as : (rs : List Region) (q : ℕ) (k : Walk) (addr len nx x : ℕ) (rd last : Bool) → k.count < q → 1 ≤ len → locate rs addr len ≡ Some x
    → (rd ≡ true → k.reads ≡ k.count) → (last ≡ false → nx < q)
    → tested rs q k (record { addr = addr; len = len; flags = flags_of rd last; next = next_of last nx }) ≡ pick last (Last x) (Next x)
unfolding tested tested_by flags_of next_of
tested-as rs q k addr len nx x true true h l p s n =
    rw (lt-leb q k.count h, ne_eqb len 0 (λ z. omega arith), p, le-ltb k.reads k.count (omega (arith, s refl)))
tested-as rs q k addr len nx x true false h l p s n =
    rw (lt-leb q k.count h, ne_eqb len 0 (λ z. omega arith), p, le-ltb k.reads k.count (omega (arith, s refl)), lt-leb q nx (n refl))
tested-as rs q k addr len nx x false true h l p s n = rw (lt-leb q k.count h, ne_eqb len 0 (λ z. omega arith), p)
tested-as rs q k addr len nx x false false h l p s n = rw (lt-leb q k.count h, ne_eqb len 0 (λ z. omega arith), p, lt-leb q nx (n refl))

-- .. and its buffer joins the readable or the writable ones
linked-as : (more : ℕ → List Span → List Span → Followed) (n addr len nx x : ℕ) (rs ws : List Span) (rd last : Bool)
    → linked more n (record { addr = addr; len = len; flags = flags_of rd last; next = next_of last nx }) rs ws (pick last (Last x) (Next x))
    ≡ pick last (whole (pick rd (rs ++ (record { at = x; len = len } ∷ [])) rs) (pick rd ws (ws ++ (record { at = x; len = len } ∷ []))) n)
    (more nx (pick rd (rs ++ (record { at = x; len = len } ∷ [])) rs) (pick rd ws (ws ++ (record { at = x; len = len } ∷ []))))
unfolding linked flags_of next_of
linked-as more n addr len nx x rs ws true true = refl
linked-as more n addr len nx x rs ws true false = refl
linked-as more n addr len nx x rs ws false true = refl
linked-as more n addr len nx x rs ws false false = refl

-- the readable and the writable ones among the first i buffers
abbrev reads_to : ℕ → ℕ → List ℕ → List Span
reads_to reads i spots = spans (min i reads) 0 spots

abbrev writes_to : ℕ → ℕ → List ℕ → List Span
writes_to reads i spots = spans (i - reads) reads spots

reads_more : (reads i : ℕ) (spots : List ℕ) (rd : Bool) → ltb i reads ≡ rd
    → pick rd (reads_to reads i spots ++ (buffer spots i ∷ [])) (reads_to reads i spots) ≡ reads_to reads (i + 1) spots
reads_more reads i spots true t =
    let a : min i reads ≡ i = omega told in
    let b : min (i + 1) reads ≡ suc i = omega told in
    rw (a, b) (rw (zero-add i) at (sym (spans-more i 0 spots)))
reads_more reads i spots false t =
    let a : min i reads ≡ min (i + 1) reads = omega told in rw a

writes_more : (reads i : ℕ) (spots : List ℕ) (rd : Bool) → ltb i reads ≡ rd
    → pick rd (writes_to reads i spots) (writes_to reads i spots ++ (buffer spots i ∷ [])) ≡ writes_to reads (i + 1) spots
writes_more reads i spots true t =
    let a : i - reads ≡ i + 1 - reads = omega told in rw a
writes_more reads i spots false t =
    let a : i + 1 - reads ≡ suc (i - reads) = omega told in
    let b : reads + (i - reads) ≡ i = omega told in
    rw a (rw b at (sym (spans-more (i - reads) reads spots)))

-- what serving comes to once a chain with a writable buffer was followed to its end
serve-as : (c : Cfg) (v : Seen) (t a : ℕ) (backing : List ℕ) (rs ws : List Span) (last : ℕ) → 1 ≤ pending v.idx t → pending v.idx t ≤ c.queue.size
    → v.entry < c.queue.size → 1 ≤ length ws → follow c v v.entry (c.queue.size + 1) v.entry [] [] ≡ whole rs ws last
    → serve c v t a backing ≡ answer c a backing v.entry rs ws (v.string rs ws) (job_of c.disk (v.string rs ws) (total rs) (total ws))
unfolding serve carried
serve-as c v t a backing rs ws last hp hq n l f =
    rw (
      ne_eqb (pending v.idx t) 0 (λ x. omega arith),
      le-ltb c.queue.size (pending v.idx t) hq,
      lt-leb c.queue.size v.entry n,
      f,
      ne_eqb (length ws) 0 (λ x. omega arith),
    )

module _ (c : Cfg) {m : ℕ} {own : List ℕ} {kind r : ℕ} {bufs : List ℕ} {reads e : ℕ} {spots nums : List ℕ} (fit : LayFit c.queue c.map m own kind r bufs reads e spots nums) where
  module _ (message m₂ : List ℕ) (st : Stands c.queue bufs spots nums reads e message m₂) (t head : ℕ) where
    -- following one descriptor: it was the last, or the next one comes
    follow_one : (f i : ℕ) → i < e
        → follow c (still c.queue t m₂) head (suc f) (get_or nums i 0) (reads_to reads i spots) (writes_to reads i spots)
        ≡ pick (eqb (i + 1) e) (whole (reads_to reads (i + 1) spots) (writes_to reads (i + 1) spots) (get_or nums i 0))
        (follow c (still c.queue t m₂) head f (get_or nums (i + 1) 0) (reads_to reads (i + 1) spots) (writes_to reads (i + 1) spots))
    unfolding follow still desc_of walk
    follow_one f i h =
        let s = fit.each i h in
        let b = buf-ok fit i h in
        let lr = length-spans (min i reads) 0 spots in
        let lw = length-spans (i - reads) reads spots in
        let d : desc_at (c.queue.desc + 16 * get_or nums i 0) m₂ ≡ desc_of bufs nums reads e i = st.descs i h in
        let a =
        tested-as c.map c.queue.size (walk head (reads_to reads i spots) (writes_to reads i spots)) (get_or bufs (2 * i) 0) (get_or bufs (2 * i + 1) 0)
        (get_or nums (i + 1) 0) (get_or spots (2 * i) 0) (ltb i reads) (eqb (i + 1) e) (omega (arith, fit.few)) (omega (arith, b.some, b.len_is)) s.located
        (λ x. omega (told, x)) (λ x. fit.numbers (i + 1) (omega (told, x))) in
        let l =
        linked-as (λ n xs ys. follow c (still c.queue t m₂) head f n xs ys) (get_or nums i 0) (get_or bufs (2 * i) 0) (get_or bufs (2 * i + 1) 0) (get_or nums (i + 1) 0)
        (get_or spots (2 * i) 0) (reads_to reads i spots) (writes_to reads i spots) (ltb i reads) (eqb (i + 1) e) in
        rw (d, a, l, ← b.len_is, reads_more reads i spots (ltb i reads) refl, writes_more reads i spots (ltb i reads) refl)

    -- .. so n + 1 of them, from that of buffer i on, come to all of the chain
    follow-all : (n f i : ℕ) → i + suc n ≡ e → n ≤ f
        → follow c (still c.queue t m₂) head (suc f) (get_or nums i 0) (reads_to reads i spots) (writes_to reads i spots)
        ≡ whole (spans reads 0 spots) (spans (e - reads) reads spots) (get_or nums (e - 1) 0)
    follow-all zero f i h l =
        let x : i + 1 ≡ e = omega arith in
        let y : min e reads ≡ reads = omega (arith, fit.reads_in) in
        let z : e - 1 ≡ i = omega arith in
        follow_one f i (omega arith) ∙ rw (z, eq-eqb (i + 1) e x, x, y)
    follow-all (suc n) zero i h l = absurd (omega arith)
    follow-all (suc n) (suc f) i h l =
        follow_one (suc f) i (omega arith) ∙ rw (ne_eqb (i + 1) e (λ z. omega arith)) (follow-all n f (i + 1) (omega arith) (omega arith))

    pub follow-whole : (x f : ℕ) → x ≡ get_or nums 0 0 → e ≤ f + 1
        → follow c (still c.queue t m₂) head (f + 1) x [] [] ≡ whole (spans reads 0 spots) (spans (e - reads) reads spots) (get_or nums (e - 1) 0)
    unfolding spans
    follow-whole x f k h =
        let a : min 0 reads ≡ 0 = omega arith in
        let b : 0 - reads ≡ 0 = omega arith in
        rw (k, add-one f) (rw (a, b) at (follow-all (e - 1) f 0 (omega (arith, writes-some fit)) (omega arith)))

  -- the device as it is, its own queue and map being the request's
  taken_here : (message m₂ : List ℕ) → Stands c.queue bufs spots nums reads e message m₂ → (t a : ℕ) (backing : List ℕ)
      → word 2 (avail_at c.queue t) m₂ ≡ get_or nums 0 0 → 1 ≤ pending (word 2 (c.queue.avail + 2) m₂) t → pending (word 2 (c.queue.avail + 2) m₂) t ≤ c.queue.size
      → serve c (still c.queue t m₂) t a backing
      ≡ answer c a backing (get_or nums 0 0) (spans reads 0 spots) (spans (e - reads) reads spots) message (job_of c.disk message r (total (spans (e - reads) reads spots)))
  unfolding still
  taken_here message m₂ st t a backing k hp hq =
      let n = fit.numbers 0 (omega (arith, writes-some fit)) in
      let l = length-spans (e - reads) reads spots in
      serve-as c (still c.queue t m₂) t a backing (spans reads 0 spots) (spans (e - reads) reads spots) (get_or nums (e - 1) 0) hp hq (rw k n) (omega (arith, writes-some fit))
      (follow-whole message m₂ st t (word 2 (avail_at c.queue t) m₂) (word 2 (avail_at c.queue t) m₂) c.queue.size k (omega (arith, fit.few)))
      ∙ rw (k, st.holds, fit.readable)

-- A device that has the request's queue and map, and finds it as the next entry of the available ring, takes exactly that request: these readable
-- buffers, these writable ones, this message, and the job that the table of 03 §3 has for it.
pub stands-taken : (c : Cfg) {q : Queue} {rs : List Region} {m : ℕ} {own : List ℕ} {kind r : ℕ} {bufs : List ℕ} {reads e : ℕ} {spots nums : List ℕ}
    → LayFit q rs m own kind r bufs reads e spots nums → c.map ≡ rs → c.queue ≡ q → (message m₂ : List ℕ) → Stands q bufs spots nums reads e message m₂
    → (t a idx : ℕ) (backing : List ℕ) → word 2 (avail_at q t) m₂ ≡ get_or nums 0 0 → word 2 (q.avail + 2) m₂ ≡ idx → 1 ≤ pending idx t → pending idx t ≤ q.size
    → serve c (still q t m₂) t a backing
    ≡ answer c a backing (get_or nums 0 0) (spans reads 0 spots) (spans (e - reads) reads spots) message (job_of c.disk message r (total (spans (e - reads) reads spots)))
stands-taken c fit em eq message m₂ st t a idx backing k i hp hq =
    rw (← eq)
    (taken_here c (rw (← eq, ← em) at fit) message m₂ (rw (← eq) at st) t a backing (rw (← eq) at k) (rw (← i, ← eq) at hp) (rw (← i, ← eq) at hq))

-- one entry was published: one is pending
pub pending-one : (t : ℕ) → t < 65536 → pending (plus_one t) t ≡ 1
unfolding pending plus_one
pending-one t h = omega arith

pub more-below : (n : ℕ) → plus_one n < 256 ^ 2
unfolding plus_one
more-below n = omega arith

module _ {q : Queue} {rs : List Region} {m : ℕ} {own : List ℕ} {kind r : ℕ} {bufs : List ℕ} {reads e : ℕ} {spots nums : List ℕ} (fit : LayFit q rs m own kind r bufs reads e spots nums) (mem message : List ℕ) (long : length mem ≡ m) (all : length message ≡ r) (t : ℕ) where
  -- A request that was just laid and published stands, and is the next for a device that has taken all those before.
  pub published-stands : Stands q bufs spots nums reads e message (published q t message reads e bufs spots nums mem)
  published-stands =
      publish-stands fit message (apply (lay_stores q t message reads e bufs spots nums) mem) (plus_one t) (lay-stands fit mem message t long all)

  pub published-long : length (published q t message reads e bufs spots nums mem) ≡ m
  published-long =
      length-put (apply (lay_stores q t message reads e bufs spots nums) mem) (q.avail + 2) (bytes 2 (plus_one t)) ∙ lay-long fit mem message t long all

  pub published-waits : t < 65536 → Waits q nums t (published q t message reads e bufs spots nums mem)
  published-waits h =
      let m₁ : List ℕ = apply (lay_stores q t message reads e bufs spots nums) mem in
      let p = pending-one t h in
      let s = size_in fit in
      let i = word-put 2 (q.avail + 2) (plus_one t) m₁ (more-below t) (omega (arith, lay-long fit mem message t long all, fit.avail-in)) in
      record { entry-is = publish-entry q t (plus_one t) m₁ ∙ lay-entry fit mem message t long all; waits = rw i (omega arith); few = rw i (omega arith) }

  -- So the device takes exactly that request.
  pub lay-taken : (c : Cfg) → c.map ≡ rs → c.queue ≡ q → (a : ℕ) (backing : List ℕ) → t < 65536
      → serve c (still q t (published q t message reads e bufs spots nums mem)) t a backing
      ≡ answer c a backing (get_or nums 0 0) (spans reads 0 spots) (spans (e - reads) reads spots) message (job_of c.disk message r (total (spans (e - reads) reads spots)))
  lay-taken c em eq a backing h =
      let w = published-waits h in
      let m₂ : List ℕ = published q t message reads e bufs spots nums mem in
      stands-taken c fit em eq message m₂ published-stands t a (word 2 (q.avail + 2) m₂) backing w.entry-is refl w.waits w.few
