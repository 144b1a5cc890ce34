-- Turns of the driver's loops: the rest, from buffer i on, has the whole's answer.
use Prim.Native.Nat.{ℕ, suc, ◌+◌, ◌-◌, ◌*◌, ◌/◌, ◌%◌, ◌≤◌, ◌<◌, min}
use mathlib.Core.Bool.{Bool, true, false}
use mathlib.Core.List.{List, [], ◌∷◌, ◌++◌, append_assoc, append-nil}
use mathlib.Core.Path.{◌≡◌, refl, sym, ◌∙◌, ap}
use native.Mathlib.Omega.{arith}
use native.Mathlib.Numerals.{add-one}
use native.Mathlib.Nat.{add-zero, zero-add, add-suc, suc-add}
use borrow.Author.Tests.{ltb-true, ltb-false, leb-true, leb-false, le-leb, lt-leb, eqb-true}
use Rattle.model.proofs.Tests.{told, both-split}
use Rattle.model.proofs.Ring.{size-range}
use lib.Seq.{take_all, take-append-le, take-suc, take-nil}
use lib.Dec.{leb, ltb, eqb}
use lib.ListN.{get_or, length, take, length-append, length-take, length-set}
use Rattle.model.specs.Pick.{pick, both}
use Rattle.model.specs.Bytes.{put, part, bytes}
use Rattle.model.specs.Memory.{Region, overlap, sound}
use Rattle.model.specs.Ring.{queue_size_ok, size_max}
use Rattle.model.specs.declared.Queue.{Queue}
use Rattle.model.specs.Step.{spans, apply, scatter}
use Rattle.model.specs.declared.Span.{Span}
use Rattle.model.proofs.Lists.{put-put, put-nil, put_one, part-zero, part-first}
use Rattle.model.proofs.Words.{length-bytes}
use Rattle.model.proofs.Step.{spans-turn, spans-end, apply-append}
use Rattle.requests.specs.Serve.{total}
use Rattle.driver.specs.Lay.{span, spot_at, is_at, place_of, in_memory, settled, clear_of, separate, free_from, free, noted, descriptor, header, link, links, queue_in, ready, counts_ok, avail_at, lay_stores}

-- bytes of buffers
pub total-turn : (i e : ℕ) (spots : List ℕ) → i < e → total (spans (e - i) i spots) ≡ get_or spots (2 * i + 1) 0 + total (spans (e - (i + 1)) (i + 1) spots)
unfolding total
total-turn i e spots h = rw (spans-turn i e spots h)

pub total-end : (i e : ℕ) (spots : List ℕ) → e ≤ i → total (spans (e - i) i spots) ≡ 0
unfolding total
total-end i e spots h = rw (spans-end i e spots h)

-- a range beside buffers, and buffers beside each other
pub clear-turn : (s : Span) (i e : ℕ) (spots : List ℕ) → i < e
    → clear_of s (spans (e - i) i spots) ≡ pick (overlap s.at s.len (get_or spots (2 * i) 0) (get_or spots (2 * i + 1) 0)) false (clear_of s (spans (e - (i + 1)) (i + 1) spots))
unfolding clear_of
clear-turn s i e spots h = rw (spans-turn i e spots h)

pub clear-end : (s : Span) (i e : ℕ) (spots : List ℕ) → e ≤ i → clear_of s (spans (e - i) i spots) ≡ true
unfolding clear_of
clear-end s i e spots h = rw (spans-end i e spots h)

pub separate-turn : (i e : ℕ) (spots : List ℕ) → i < e
    → separate (spans (e - i) i spots)
    ≡ pick (clear_of (span (get_or spots (2 * i) 0) (get_or spots (2 * i + 1) 0)) (spans (e - (i + 1)) (i + 1) spots)) (separate (spans (e - (i + 1)) (i + 1) spots)) false
unfolding separate
separate-turn i e spots h = rw (spans-turn i e spots h)

pub separate-end : (i e : ℕ) (spots : List ℕ) → e ≤ i → separate (spans (e - i) i spots) ≡ true
unfolding separate
separate-end i e spots h = rw (spans-end i e spots h)

-- buffers in memory, and their spots
pub in-turn : (rs : List Region) (bufs : List ℕ) (i e : ℕ) → i < e → in_memory rs bufs (e - i) i ≡ pick (is_at (spot_at rs bufs i)) (in_memory rs bufs (e - (i + 1)) (i + 1)) false
unfolding in_memory
in-turn rs bufs i e h = let p : e - i ≡ suc (e - (i + 1)) = omega arith in rw (p, add-one i)

pub in_end : (rs : List Region) (bufs : List ℕ) (i e : ℕ) → e ≤ i → in_memory rs bufs (e - i) i ≡ true
unfolding in_memory
in_end rs bufs i e h = let p : e - i ≡ 0 = omega arith in rw p

pub settled-turn : (rs : List Region) (bufs : List ℕ) (i e : ℕ) (spots : List ℕ) → i < e
    → settled rs bufs (e - i) i spots
    ≡ pick (is_at (spot_at rs bufs i)) (settled rs bufs (e - (i + 1)) (i + 1) (put spots (2 * i) (place_of (spot_at rs bufs i) ∷ get_or bufs (2 * i + 1) 0 ∷ []))) spots
unfolding settled
settled-turn rs bufs i e spots h = let p : e - i ≡ suc (e - (i + 1)) = omega arith in rw (p, add-one i)

pub settled-end : (rs : List Region) (bufs : List ℕ) (i e : ℕ) (spots : List ℕ) → e ≤ i → settled rs bufs (e - i) i spots ≡ spots
unfolding settled
settled-end rs bufs i e spots h = let p : e - i ≡ 0 = omega arith in rw p

-- three spots of two words, one behind the other, are one put
pub areas-put : (spots : List ℕ) (e a b c d x y : ℕ)
    → put (put (put spots (2 * e) (a ∷ b ∷ [])) (2 * (e + 1)) (c ∷ d ∷ [])) (2 * (e + 2)) (x ∷ y ∷ []) ≡ put spots (2 * e) (a ∷ b ∷ c ∷ d ∷ x ∷ y ∷ [])
areas-put spots e a b c d x y =
    let p : 2 * (e + 1) ≡ 2 * e + 2 = omega arith in
    let q : 2 * (e + 2) ≡ 2 * e + 4 = omega arith in
    rw (p, q, put-put spots (2 * e) (a ∷ b ∷ []) (c ∷ d ∷ []), put-put spots (2 * e) (a ∷ b ∷ c ∷ d ∷ []) (x ∷ y ∷ []))

-- the free descriptors of one word more
free-append : (n : ℕ) (xs ys : List ℕ) → free_from n (xs ++ ys) ≡ free_from n xs ++ free_from (n + length xs) ys
unfolding free_from
free-append n [] ys = rw add-zero
free-append n (x ∷ xs) ys = go (eqb x 0) (free-append (suc n) xs ys)
  where
    go : (b : Bool) → free_from (suc n) (xs ++ ys) ≡ free_from (suc n) xs ++ free_from (suc n + length xs) ys
        → pick b (n ∷ free_from (suc n) (xs ++ ys)) (free_from (suc n) (xs ++ ys)) ≡ pick b (n ∷ free_from (suc n) xs) (free_from (suc n) xs) ++ free_from (n + suc (length xs)) ys
    go true e = rw (e, add-suc, suc-add)
    go false e = rw (e, add-suc, suc-add)

pub free_more : (own : List ℕ) (i : ℕ) → i < length own → free (suc i) own ≡ free i own ++ pick (eqb (get_or own i 0) 0) (i ∷ []) []
unfolding free_from
free_more own i h =
    let l : length (take i own) ≡ i = simp length-take (omega arith) in
    rw (take-suc own i 0 h, free-append 0 (take i own) (get_or own i 0 ∷ []), l, zero-add)

-- a turn of the choice: descriptor i is noted behind the k that are noted already
noted_more : (nums xs : List ℕ) (i n k : ℕ) (a b : Bool) → k ≡ min n (length xs) → ltb k n ≡ b
    → (min n (length (xs ++ pick a (i ∷ []) [])) ≡ k + length (pick (both a b) (i ∷ []) []))
    × (put nums 0 (take n (xs ++ pick a (i ∷ []) [])) ≡ put (put nums 0 (take n xs)) k (pick (both a b) (i ∷ []) []))
noted_more nums xs i n k false b e t = rw append-nil (omega arith, sym (put-nil (put nums 0 (take n xs)) k))
noted_more nums xs i n k true false e t =
    let u : n ≤ length xs = omega (arith, ltb-false k n t) in
    (rw length-append (omega arith), rw (take-append-le n xs (i ∷ []) u) (sym (put-nil (put nums 0 (take n xs)) k)))
noted_more nums xs i n k true true e t =
    let u : length xs < n = omega (arith, ltb-true k n t) in
    let v : k ≡ length xs = omega (arith, ltb-true k n t) in
    let w : length (xs ++ (i ∷ [])) ≤ n = rw length-append (omega arith) in
    let z : 0 + length xs ≡ k = omega arith in
    (rw length-append (omega arith), rw (take_all n xs (omega arith), take_all n (xs ++ (i ∷ [])) w, ← z) (sym (put-put nums 0 xs (i ∷ []))))

pub choose-turn : (own nums : List ℕ) (i n k : ℕ) → i < length own → k ≡ min n (length (free i own))
    → (min n (length (free (suc i) own)) ≡ k + length (noted (get_or own i 0) i n k))
    × (put nums 0 (take n (free (suc i) own)) ≡ put (put nums 0 (take n (free i own))) k (noted (get_or own i 0) i n k))
unfolding noted
choose-turn own nums i n k h e = rw (free_more own i h) (noted_more nums (free i own) i n k (eqb (get_or own i 0) 0) (ltb k n) e refl)

-- four fields, one behind the other, are one put: a descriptor's, and a header's three
behind : (m : List ℕ) (k x y z : ℕ) (ws bs cs ds : List ℕ) → length ws ≡ x → length bs ≡ y → length cs ≡ z
    → put (put (put (put m k ws) (k + x) bs) (k + (x + y)) cs) (k + (x + y + z)) ds ≡ put m k (ws ++ (bs ++ (cs ++ ds)))
behind m k x y z ws bs cs ds p q r =
    let e : length (ws ++ bs) ≡ x + y = rw length-append (omega arith) in
    let g : length (ws ++ bs ++ cs) ≡ x + y + z = rw (length-append, length-append) (omega arith) in
    rw (← p, put-put m k ws bs) (rw (p, ← e, put-put m k (ws ++ bs) cs) (rw (e, ← g, put-put m k (ws ++ bs ++ cs) ds) (rw (append_assoc, append_assoc))))

pub descriptor-put : (m : List ℕ) (k a l f n : ℕ)
    → put (put (put (put m k (bytes 8 a)) (k + 8) (bytes 4 l)) (k + 12) (bytes 2 f)) (k + 14) (bytes 2 n) ≡ put m k (descriptor a l f n)
unfolding descriptor
descriptor-put m k a l f n = behind m k 8 4 2 (bytes 8 a) (bytes 4 l) (bytes 2 f) (bytes 2 n) (length-bytes 8 a) (length-bytes 4 l) (length-bytes 2 f)

pub header-put : (m : List ℕ) (kind sector : ℕ) → put (put (put m 0 (bytes 4 kind)) 4 (bytes 4 0)) 8 (bytes 8 sector) ≡ put m 0 (header kind sector)
unfolding header
header-put m kind sector =
    sym (put-nil (put (put (put m 0 (bytes 4 kind)) 4 (bytes 4 0)) 8 (bytes 8 sector)) 16)
    ∙ (behind m 0 4 4 8 (bytes 4 kind) (bytes 4 0) (bytes 8 sector) [] (length-bytes 4 kind) (length-bytes 4 0) (length-bytes 8 sector)
    ∙ ap (λ (xs : List ℕ). put m 0 (bytes 4 kind ++ (bytes 4 0 ++ xs))) (append-nil (bytes 8 sector)))

-- links of a chain
pub links-turn : (bufs nums : List ℕ) (desc reads i e : ℕ) → i < e
    → links bufs nums desc reads e (e - i) i ≡ link bufs nums desc reads e i ∷ links bufs nums desc reads e (e - (i + 1)) (i + 1)
unfolding links
links-turn bufs nums desc reads i e h = let p : e - i ≡ suc (e - (i + 1)) = omega arith in rw (p, add-one i)

pub links_end : (bufs nums : List ℕ) (desc reads i e : ℕ) → e ≤ i → links bufs nums desc reads e (e - i) i ≡ []
unfolding links
links_end bufs nums desc reads i e h = let p : e - i ≡ 0 = omega arith in rw p

-- numbers of descriptors, one after the other
pub part-turn : (nums : List ℕ) (i e : ℕ) → i < e → e ≤ length nums → part i (e - i) nums ≡ get_or nums i 0 ∷ part (i + 1) (e - (i + 1)) nums
part-turn nums i e h l = let p : e - i ≡ suc (e - (i + 1)) = omega arith in rw (p, add-one i) (sym (part-first i (e - suc i) nums (omega arith)))

pub part_end : (nums : List ℕ) (i e : ℕ) → e ≤ i → part i (e - i) nums ≡ []
part_end nums i e h = let p : e - i ≡ 0 = omega arith in rw p (part-zero i nums)

pub min-leb : (n l : ℕ) → leb n (min n l) ≡ leb n l
min-leb n l = go (leb n l) refl
  where
    go : (b : Bool) → leb n l ≡ b → leb n (min n l) ≡ b
    go true t = le-leb n (min n l) (omega (arith, leb-true n l t))
    go false t = lt-leb n (min n l) (omega (arith, leb-false n l t))

pub choose-start : (own nums : List ℕ) (n : ℕ) → (0 ≡ min n (length (free 0 own))) × (nums ≡ put nums 0 (take n (free 0 own)))
unfolding free_from
choose-start own nums n = (omega arith, rw (take-nil n) (sym (put-nil nums 0)))

-- what the first two tests of laying say
pub record ReadyOk (q : Queue) (rs : List Region) (m own : ℕ) : Type 0 where
  pub map-sound : sound m rs ≡ true
  pub size_ok : queue_size_ok q.size ≡ true
  pub some_size : 1 ≤ q.size
  pub small : q.size ≤ size_max
  pub desc-in : q.desc + 16 * q.size ≤ m
  pub avail-in : q.avail + (6 + 2 * q.size) ≤ m
  pub used-in : q.used + (6 + 8 * q.size) ≤ m
  pub own-long : q.size ≤ own

pub record QueueOk (q : Queue) (m : ℕ) : Type 0 where
  pub size_ok : queue_size_ok q.size ≡ true
  pub some_size : 1 ≤ q.size
  pub small : q.size ≤ size_max
  pub desc-in : q.desc + 16 * q.size ≤ m
  pub avail-in : q.avail + (6 + 2 * q.size) ≤ m
  pub used-in : q.used + (6 + 8 * q.size) ≤ m

pub queue-ok : (q : Queue) (m : ℕ) → queue_in q m ≡ true → QueueOk q m
unfolding queue_in
queue-ok q m e =
    let a = both-split (queue_size_ok q.size) _ e in
    let b = both-split (leb (q.desc + 16 * q.size) m) _ a.1 in
    let d = both-split (leb (q.avail + (6 + 2 * q.size)) m) _ b.1 in
    let n = size-range q.size a.0 in
    record { size_ok = a.0; some_size = n.0; small = n.1; desc-in = omega told; avail-in = omega told; used-in = omega told }

pub ready-ok : (q : Queue) (rs : List Region) (m own : ℕ) → ready q rs m own ≡ true → ReadyOk q rs m own
unfolding ready
ready-ok q rs m own e =
    let a = both-split (sound m rs) _ e in
    let b = both-split (queue_in q m) _ a.1 in
    let k = queue-ok q m b.0 in
    record {
      map-sound = a.0;
      size_ok = k.size_ok;
      some_size = k.some_size;
      small = k.small;
      desc-in = k.desc-in;
      avail-in = k.avail-in;
      used-in = k.used-in;
      own-long = omega told;
    }

pub record CountsOk (q words reads spots nums : ℕ) : Type 0 where
  pub even : 2 * (words / 2) ≡ words
  pub few : words / 2 ≤ q
  pub reads_in : reads ≤ words / 2
  pub spots-long : 2 * (words / 2) + 6 ≤ spots
  pub nums-long : words / 2 ≤ nums

pub counts-ok : (q words reads spots nums : ℕ) → counts_ok q words reads spots nums ≡ true → CountsOk q words reads spots nums
unfolding counts_ok
counts-ok q words reads spots nums e =
    let a = both-split (eqb (words % 2) 0) _ e in
    let b = both-split (leb (words / 2) q) _ a.1 in
    let d = both-split (leb reads (words / 2)) _ b.1 in
    let f = both-split (leb (2 * (words / 2) + 6) spots) _ d.1 in
    let z : words % 2 ≡ 0 = eqb-true (words % 2) 0 a.0 in
    record { even = omega arith; few = omega told; reads_in = omega told; spots-long = omega told; nums-long = omega told }

-- the writes, one after the other
pub write-stores : (q : Queue) (nx : ℕ) (message : List ℕ) (reads e : ℕ) (bufs spots nums mem : List ℕ)
    → put (apply (links bufs nums q.desc reads e e 0) (apply (scatter (spans (reads - 0) 0 spots) message) mem)) (avail_at q nx) (bytes 2 (get_or nums 0 0))
    ≡ apply (lay_stores q nx message reads e bufs spots nums) mem
unfolding lay_stores apply
write-stores q nx message reads e bufs spots nums mem =
    let z : reads - 0 ≡ reads = omega arith in
    rw (
      z,
      apply-append (scatter (spans reads 0 spots) message) (links bufs nums q.desc reads e e 0 ++ (record { to = avail_at q nx; bytes = bytes 2 (get_or nums 0 0) } ∷ [])) mem,
      apply-append (links bufs nums q.desc reads e e 0) (record { to = avail_at q nx; bytes = bytes 2 (get_or nums 0 0) } ∷ []) (apply (scatter (spans reads 0 spots) message) mem),
    )

-- for `search`: what the tests of a queue say
pub ruleset queues = (queue-ok)

pub ruleset sizes = (size-range)

-- .. the turns and the ends of the loops
pub ruleset totals = (total-turn, total-end)

pub ruleset clears = (clear-turn, clear-end)

pub ruleset apart = (separate-turn, separate-end)

pub ruleset parts = (part-turn, part_end, length-set)

pub ruleset chained = (links-turn, links_end)

pub ruleset chosen = (min-leb)

-- .. and writes, one behind the other or of nothing
pub ruleset puts = (areas-put, descriptor-put, header-put)

pub ruleset noting = (put_one, put-nil)

pub ruleset stored = (write-stores)
