-- What a request that fits tells of its buffers and of the queue's areas: all inside the memory, and no two with a byte in common.
use Prim.Native.Nat.{ℕ, zero, suc, ◌+◌, ◌-◌, ◌*◌, ◌%◌, ◌^◌, ◌≤◌, ◌<◌}
use native.Mathlib.Omega.{arith}
use native.Mathlib.Nat.{mod-lt}
use mathlib.Core.Bool.{true}
use mathlib.Core.Path.{◌≡◌}
use mathlib.Core.List.{List, [], ◌∷◌}
use lib.Dec.{eqb}
use lib.ListN.{get_or}
use Rattle.model.specs.Ring.{size_max}
use Rattle.model.specs.Memory.{Region, sound, region_code}
use Rattle.model.specs.Step.{spans}
use Rattle.model.specs.declared.Queue.{Queue}
use Rattle.model.proofs.Tests.{told, picked}
use Rattle.model.proofs.Memory.{InOne, here, later, locate-in, locate-slice, region-sound}
use Rattle.model.proofs.Ring.{size-range}
use Rattle.model.proofs.Lists.{Disjoint, first}
use Rattle.requests.specs.Serve.{total}
use Rattle.requests.proofs.Spans.{Inside}
use Rattle.driver.proofs.Formed.{FormOk, formed-ok}
use Rattle.driver.specs.Fit.{LayFit}
use Rattle.trips.proofs.Lists.{disjoint-in}
use Rattle.trips.proofs.Ranges.{Each, apart-at, each-spans, inside-spans}

-- a range in memory has a byte at least, and its addresses are below 2^64
in_some : (rs : List Region) (a n x : ℕ) → InOne rs a n x → 1 ≤ n
in_some [] a n x w = elim w [ ]
in_some (r ∷ rest) a n x (here w) = w.some
in_some (r ∷ rest) a n x (later w) = in_some rest a n x w

in-below : (m : ℕ) (rs : List Region) (a n x : ℕ) → sound m rs ≡ true → InOne rs a n x → a + n ≤ 2 ^ 64 - 1
unfolding sound
in-below m [] a n x s w = elim w [ ]
in-below m (r ∷ rest) a n x s (here w) =
    let p = picked (eqb (region_code m r) 0) (sound m rest) s in let k = region-sound m r (omega (told, p.0)) in omega arith
in-below m (r ∷ rest) a n x s (later w) = in-below m rest a n x (picked (eqb (region_code m r) 0) (sound m rest) s).1 w

some-span : (n k : ℕ) (spots : List ℕ) → 1 ≤ total (spans n k spots) → 1 ≤ n
unfolding total spans
some-span zero k spots h = absurd (omega arith)
some-span (suc n) k spots h = omega arith

-- buffer i of a request that fits
pub record BufOk (m : ℕ) (bufs spots : List ℕ) (i : ℕ) : Type 0 where
  pub some : 1 ≤ get_or spots (2 * i + 1) 0
  pub len_is : get_or spots (2 * i + 1) 0 ≡ get_or bufs (2 * i + 1) 0
  pub short : get_or bufs (2 * i + 1) 0 ≤ 4294967295
  pub inside : get_or spots (2 * i) 0 + get_or spots (2 * i + 1) 0 ≤ m
  pub below : get_or bufs (2 * i) 0 < 2 ^ 64

module _ {q : Queue} {rs : List Region} {m : ℕ} {own : List ℕ} {kind r : ℕ} {bufs : List ℕ} {reads e : ℕ} {spots nums : List ℕ} (fit : LayFit q rs m own kind r bufs reads e spots nums) where
  pub buf-ok : (i : ℕ) → i < e → BufOk m bufs spots i
  buf-ok i h =
      let s = fit.each i h in
      let w = locate-in rs (get_or bufs (2 * i) 0) (get_or bufs (2 * i + 1) 0) (get_or spots (2 * i) 0) s.located in
      let p = in_some rs (get_or bufs (2 * i) 0) (get_or bufs (2 * i + 1) 0) (get_or spots (2 * i) 0) w in
      let b = in-below m rs (get_or bufs (2 * i) 0) (get_or bufs (2 * i + 1) 0) (get_or spots (2 * i) 0) fit.map-sound w in
      let l = locate-slice m rs (get_or bufs (2 * i) 0) (get_or bufs (2 * i + 1) 0) (get_or spots (2 * i) 0) fit.map-sound s.located in
      record { some = omega (arith, s.len_is); len_is = s.len_is; short = s.short; inside = omega (arith, s.len_is); below = omega arith }

  pub size_in : (1 ≤ q.size) × (q.size ≤ size_max)
  size_in = size-range q.size fit.size_ok

  -- two different buffers
  pub bufs-apart : (i j : ℕ) → i < j → j < e → Disjoint (get_or spots (2 * i) 0) (get_or spots (2 * i + 1) 0) (get_or spots (2 * j) 0) (get_or spots (2 * j + 1) 0)
  bufs-apart i j h u = apart-at (e + 3) spots fit.apart i j h (omega arith)

  -- a buffer and each area of the queue
  pub buf-desc : (i : ℕ) → i < e → Disjoint (get_or spots (2 * i) 0) (get_or spots (2 * i + 1) 0) q.desc (16 * q.size)
  buf-desc i h = rw (← fit.areas.desc-at, ← fit.areas.desc-len) (apart-at (e + 3) spots fit.apart i e h (omega arith))

  pub buf-avail : (i : ℕ) → i < e → Disjoint (get_or spots (2 * i) 0) (get_or spots (2 * i + 1) 0) q.avail (6 + 2 * q.size)
  buf-avail i h = rw (← fit.areas.avail-at, ← fit.areas.avail-len) (apart-at (e + 3) spots fit.apart i (e + 1) (omega arith) (omega arith))

  pub buf-used : (i : ℕ) → i < e → Disjoint (get_or spots (2 * i) 0) (get_or spots (2 * i + 1) 0) q.used (6 + 8 * q.size)
  buf-used i h = rw (← fit.areas.used-at, ← fit.areas.used-len) (apart-at (e + 3) spots fit.apart i (e + 2) (omega arith) (omega arith))

  -- two areas
  pub desc-avail : Disjoint q.desc (16 * q.size) q.avail (6 + 2 * q.size)
  desc-avail =
      rw (← fit.areas.desc-at, ← fit.areas.desc-len, ← fit.areas.avail-at, ← fit.areas.avail-len)
      (apart-at (e + 3) spots fit.apart e (e + 1) (omega arith) (omega arith))

  pub desc-used : Disjoint q.desc (16 * q.size) q.used (6 + 8 * q.size)
  desc-used =
      rw (← fit.areas.desc-at, ← fit.areas.desc-len, ← fit.areas.used-at, ← fit.areas.used-len)
      (apart-at (e + 3) spots fit.apart e (e + 2) (omega arith) (omega arith))

  pub avail-used : Disjoint q.avail (6 + 2 * q.size) q.used (6 + 8 * q.size)
  avail-used =
      rw (← fit.areas.avail-at, ← fit.areas.avail-len, ← fit.areas.used-at, ← fit.areas.used-len)
      (apart-at (e + 3) spots fit.apart (e + 1) (e + 2) (omega arith) (omega arith))

  -- a buffer and a descriptor; two descriptors
  pub buf-num : (i j : ℕ) → i < e → j < e → Disjoint (get_or spots (2 * i) 0) (get_or spots (2 * i + 1) 0) (q.desc + 16 * get_or nums j 0) 16
  buf-num i j h u =
      let n = fit.numbers j u in
      disjoint-in (get_or spots (2 * i) 0) (get_or spots (2 * i + 1) 0) q.desc (16 * q.size) (get_or spots (2 * i) 0) (get_or spots (2 * i + 1) 0)
      (q.desc + 16 * get_or nums j 0) 16 (buf-desc i h) (omega arith) (omega arith) (omega arith) (omega arith)

  pub nums-apart : (i j : ℕ) → i < j → j < e → Disjoint (q.desc + 16 * get_or nums i 0) 16 (q.desc + 16 * get_or nums j 0) 16
  nums-apart i j h u = let n = fit.rising i j h u in first (omega arith)

  -- an entry of the available ring lies in it
  pub entry_in : (n : ℕ) → n % q.size < q.size
  entry_in n = mod-lt n size_in.0

  -- the readable buffers, and the writable ones, as lists
  pub reads-each : Each (spans reads 0 spots)
  reads-each = each-spans reads 0 spots (λ i j x y z. bufs-apart i j y (omega (arith, fit.reads_in)))

  pub reads-inside : Inside m (spans reads 0 spots)
  reads-inside = inside-spans m reads 0 spots (λ j x y. let b = buf-ok j (omega (arith, fit.reads_in)) in (b.some, b.inside))

  pub writes-each : Each (spans (e - reads) reads spots)
  writes-each = each-spans (e - reads) reads spots (λ i j x y z. bufs-apart i j y (omega (arith, fit.reads_in)))

  pub writes-inside : Inside m (spans (e - reads) reads spots)
  writes-inside = inside-spans m (e - reads) reads spots (λ j x y. let b = buf-ok j (omega (arith, fit.reads_in)) in (b.some, b.inside))

  -- a form that some disk accepts has a header, a byte for the status, at most 1,048,576 bytes of data, and one of the four types ..
  pub form-ok : FormOk kind r (total (spans (e - reads) reads spots))
  form-ok = formed-ok kind r (total (spans (e - reads) reads spots)) fit.form

  -- .. so there is a writable buffer
  pub writes-some : reads < e
  writes-some = let n = some-span (e - reads) reads spots form-ok.status-in in omega arith
