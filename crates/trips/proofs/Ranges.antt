-- Buffers that have no byte in common: what is written to one leaves the others. By recursion over the list of buffers, or of stores.
use Prim.Native.Nat.{ℕ, zero, suc, ◌+◌, ◌-◌, ◌*◌, ◌≤◌, ◌<◌}
use native.Mathlib.Omega.{arith}
use native.Mathlib.Nat.{add-zero}
use mathlib.Core.Bool.{Bool, true, false}
use mathlib.Core.Path.{◌≡◌, refl, sym, ap, ◌∙◌}
use mathlib.Core.List.{List, [], ◌∷◌, ◌++◌, append-nil}
use lib.Dec.{eqb}
use lib.ListN.{length, get_or, take, drop, length-take, length-append}
use borrow.Author.Tests.{eqb-true}
use Rattle.model.specs.Pick.{pick}
use Rattle.model.specs.Bytes.{put, part, word}
use Rattle.model.specs.Memory.{overlap}
use Rattle.model.specs.Step.{Store, apply, scatter, spans}
use Rattle.model.specs.declared.Span.{Span}
use Rattle.model.proofs.Tests.{told, picked}
use Rattle.model.proofs.Memory.{overlap-false}
use Rattle.model.proofs.Step.{length-apply}
use Rattle.model.proofs.Words.{word-cong}
use Rattle.model.proofs.Lists.{Disjoint, length-put, put-apart, part-cong, part-put-in, part-put-other, length_part}
use Rattle.requests.specs.Serve.{gather, total, last_byte_at}
use Rattle.requests.proofs.Spans.{Inside}
use Rattle.driver.specs.Lay.{clear_of, separate}
use Rattle.trips.specs.Stands.{Same}
use Rattle.trips.proofs.Lists.{put_front, put-behind, disjoint-sym, disjoint-in, disjoint-apart}

-- the n places from a on have none in common with any of these buffers
unfoldable pub Off : ℕ → ℕ → List Span → Type 0
Off a n [] = Unit {0}
Off a n (s ∷ ss) = Disjoint a n s.at s.len × Off a n ss

-- .. with the bytes that any of these stores writes
unfoldable pub Clear : ℕ → ℕ → List Store → Type 0
Clear a n [] = Unit {0}
Clear a n (x ∷ xs) = Disjoint a n x.to (length x.bytes) × Clear a n xs

-- no two of these buffers have a byte in common
unfoldable pub Each : List Span → Type 0
Each [] = Unit {0}
Each (s ∷ ss) = Off s.at s.len ss × Each ss

-- a test of `separate` that was passed: the first is off the others
not-true : (b c : Bool) → pick b false c ≡ true → (b ≡ false) × (c ≡ true)
not-true true c e = (sym e, let z : ◌≡◌ {A = Bool} true false = cc in cc)
not-true false c e = (refl, e)

off_at : (s : Span) (n k : ℕ) (spots : List ℕ) → clear_of s (spans n k spots) ≡ true → (j : ℕ) → k ≤ j → j < k + n
    → Disjoint s.at s.len (get_or spots (2 * j) 0) (get_or spots (2 * j + 1) 0)
unfolding clear_of spans
off_at s zero k spots e j l u = absurd (omega arith)
off_at s (suc n) k spots e j l u = go (eqb j k) refl (λ x y. off_at s n (suc k) spots p.1 j x y)
  where
    p : (overlap s.at s.len (get_or spots (2 * k) 0) (get_or spots (2 * k + 1) 0) ≡ false) × (clear_of s (spans n (suc k) spots) ≡ true)
    p = not-true (overlap s.at s.len (get_or spots (2 * k) 0) (get_or spots (2 * k + 1) 0)) _ e

    go : (b : Bool) → eqb j k ≡ b → (suc k ≤ j → j < suc k + n → Disjoint s.at s.len (get_or spots (2 * j) 0) (get_or spots (2 * j + 1) 0))
        → Disjoint s.at s.len (get_or spots (2 * j) 0) (get_or spots (2 * j + 1) 0)
    go true b f = rw (eqb-true j k b) (overlap-false s.at s.len (get_or spots (2 * k) 0) (get_or spots (2 * k + 1) 0) p.0)
    go false b f = f (omega told) (omega arith)

-- any two different ones of n buffers, from buffer k on, that passed the test
apart_from : (n k : ℕ) (spots : List ℕ) → separate (spans n k spots) ≡ true → (i j : ℕ) → k ≤ i → i < j → j < k + n
    → Disjoint (get_or spots (2 * i) 0) (get_or spots (2 * i + 1) 0) (get_or spots (2 * j) 0) (get_or spots (2 * j + 1) 0)
unfolding separate spans
apart_from zero k spots e i j l h u = absurd (omega arith)
apart_from (suc n) k spots e i j l h u = go (eqb i k) refl (λ x. apart_from n (suc k) spots p.1 i j x h (omega arith))
  where
    p : (clear_of (record { at = get_or spots (2 * k) 0; len = get_or spots (2 * k + 1) 0 }) (spans n (suc k) spots) ≡ true) × (separate (spans n (suc k) spots) ≡ true)
    p = picked (clear_of (record { at = get_or spots (2 * k) 0; len = get_or spots (2 * k + 1) 0 }) (spans n (suc k) spots)) _ e

    go : (b : Bool) → eqb i k ≡ b → (suc k ≤ i → Disjoint (get_or spots (2 * i) 0) (get_or spots (2 * i + 1) 0) (get_or spots (2 * j) 0) (get_or spots (2 * j + 1) 0))
        → Disjoint (get_or spots (2 * i) 0) (get_or spots (2 * i + 1) 0) (get_or spots (2 * j) 0) (get_or spots (2 * j + 1) 0)
    go true b f =
        rw (eqb-true i k b) (off_at (record { at = get_or spots (2 * k) 0; len = get_or spots (2 * k + 1) 0 }) n (suc k) spots p.0 j (omega told) (omega arith))
    go false b f = f (omega told)

pub apart-at : (n : ℕ) (spots : List ℕ) → separate (spans n 0 spots) ≡ true → (i j : ℕ) → i < j → j < n
    → Disjoint (get_or spots (2 * i) 0) (get_or spots (2 * i + 1) 0) (get_or spots (2 * j) 0) (get_or spots (2 * j + 1) 0)
apart-at n spots e i j h u = apart_from n 0 spots e i j (omega arith) h (omega arith)

-- a range inside it is off them too
pub off-in : (a n b k : ℕ) (ss : List Span) → a ≤ b → b + k ≤ a + n → Off a n ss → Off b k ss
unfolding Off
off-in a n b k [] h u o = tt
off-in a n b k (s ∷ ss) h u o =
    (disjoint-in a n s.at s.len b k s.at s.len o.0 h u (omega arith) (omega arith), off-in a n b k ss h u o.1)

-- from each buffer by its number to all of them as a list
pub off-spans : (a l n k : ℕ) (spots : List ℕ) → ((j : ℕ) → k ≤ j → j < k + n → Disjoint a l (get_or spots (2 * j) 0) (get_or spots (2 * j + 1) 0))
    → Off a l (spans n k spots)
unfolding Off spans
off-spans a l zero k spots f = tt
off-spans a l (suc n) k spots f = (f k (omega arith) (omega arith), off-spans a l n (suc k) spots (λ j x y. f j (omega arith) (omega arith)))

pub each-spans : (n k : ℕ) (spots : List ℕ)
    → ((i j : ℕ) → k ≤ i → i < j → j < k + n → Disjoint (get_or spots (2 * i) 0) (get_or spots (2 * i + 1) 0) (get_or spots (2 * j) 0) (get_or spots (2 * j + 1) 0))
    → Each (spans n k spots)
unfolding Each spans
each-spans zero k spots f = tt
each-spans (suc n) k spots f = (
  off-spans (get_or spots (2 * k) 0) (get_or spots (2 * k + 1) 0) n (suc k) spots (λ j x y. f k j (omega arith) (omega arith) (omega arith)),
  each-spans n (suc k) spots (λ i j x y z. f i j (omega arith) y (omega arith)),
)

pub inside-spans : (m n k : ℕ) (spots : List ℕ)
    → ((j : ℕ) → k ≤ j → j < k + n → (1 ≤ get_or spots (2 * j + 1) 0) × (get_or spots (2 * j) 0 + get_or spots (2 * j + 1) 0 ≤ m)) → Inside m (spans n k spots)
unfolding Inside spans
inside-spans m zero k spots f = tt
inside-spans m (suc n) k spots f =
    let p = f k (omega arith) (omega arith) in (p.0, p.1, inside-spans m n (suc k) spots (λ j x y. f j (omega arith) (omega arith)))

-- Stores that miss a range leave its bytes, its part, and a number in it.
pub apply-same : (xs : List Store) (m : List ℕ) (a n : ℕ) → Clear a n xs → Same a n (apply xs m) m
unfolding apply Clear Same
apply-same [] m a n c i l u = refl
apply-same (x ∷ xs) m a n c i l u =
    apply-same xs (put m x.to x.bytes) a n c.1 i l u
    ∙ put-apart m x.to x.bytes i (disjoint-apart a n x.to (length x.bytes) i c.0 l u)

pub put_same : (m : List ℕ) (k : ℕ) (bs : List ℕ) (a n : ℕ) → Disjoint a n k (length bs) → Same a n (put m k bs) m
unfolding Same
put_same m k bs a n d i l u = put-apart m k bs i (disjoint-apart a n k (length bs) i d l u)

pub part_same : (a n : ℕ) (m₁ m₂ : List ℕ) → length m₁ ≡ length m₂ → Same a n m₁ m₂ → part a n m₁ ≡ part a n m₂
unfolding Same
part_same a n m₁ m₂ e f = part-cong a n m₁ m₂ e f

pub word_same : (a l n k : ℕ) (m₁ m₂ : List ℕ) → Same a l m₁ m₂ → a ≤ k → k + n ≤ a + l → word n k m₁ ≡ word n k m₂
unfolding Same
word_same a l n k m₁ m₂ f h u = word-cong n k k m₁ m₂ (λ i x. f (k + i) (omega arith) (omega arith))

pub clear-append : (a n : ℕ) (xs ys : List Store) → Clear a n xs → Clear a n ys → Clear a n (xs ++ ys)
unfolding Clear
clear-append a n [] ys c d = d
clear-append a n (x ∷ xs) ys c d = (c.0, clear-append a n xs ys c.1 d)

-- bytes handed out to buffers stay in them
pub clear-scatter : (a n : ℕ) (ss : List Span) (bs : List ℕ) → Off a n ss → Clear a n (scatter ss bs)
unfolding Clear scatter Off
clear-scatter a n [] bs o = tt
clear-scatter a n (s ∷ ss) bs o =
    let l : length (take s.len bs) ≤ s.len = simp length-take (omega arith) in (
      disjoint-in a n s.at s.len a n s.at (length (take s.len bs)) o.0 (omega arith) (omega arith) (omega arith) (omega arith),
      clear-scatter a n ss (drop s.len bs) o.1,
    )

-- the bytes of these buffers are the same in two memories
unfoldable pub SameAll : List Span → List ℕ → List ℕ → Type 0
SameAll [] m₁ m₂ = Unit {0}
SameAll (s ∷ ss) m₁ m₂ = Same s.at s.len m₁ m₂ × SameAll ss m₁ m₂

-- .. so they are the same string
pub gather-same : (ss : List Span) (m₁ m₂ : List ℕ) → length m₁ ≡ length m₂ → SameAll ss m₁ m₂ → gather m₁ ss ≡ gather m₂ ss
unfolding gather SameAll
gather-same [] m₁ m₂ e f = refl
gather-same (s ∷ ss) m₁ m₂ e f = rw (part_same s.at s.len m₁ m₂ e f.0, gather-same ss m₁ m₂ e f.1)

pub same-put : (ss : List Span) (m : List ℕ) (k : ℕ) (bs : List ℕ) → Off k (length bs) ss → SameAll ss (put m k bs) m
unfolding SameAll Off
same-put [] m k bs o = tt
same-put (s ∷ ss) m k bs o = (put_same m k bs s.at s.len (disjoint-sym o.0), same-put ss m k bs o.1)

pub gather-put : (ss : List Span) (m : List ℕ) (k : ℕ) (bs : List ℕ) → Off k (length bs) ss → gather (put m k bs) ss ≡ gather m ss
gather-put ss m k bs o = gather-same ss (put m k bs) m (length-put m k bs) (same-put ss m k bs o)

pub length-gather : (ss : List Span) (m : List ℕ) → Inside (length m) ss → length (gather m ss) ≡ total ss
unfolding gather total Inside
length-gather [] m k = refl
length-gather (s ∷ ss) m k =
    omega (arith, length-append (part s.at s.len m) (gather m ss), length_part s.at s.len m k.1, length-gather ss m k.2)

-- Bytes handed out to buffers are, in their string, the same bytes put at its front.
pub gather-scatter : (ss : List Span) (bs m : List ℕ) → Each ss → Inside (length m) ss → gather (apply (scatter ss bs) m) ss ≡ put (gather m ss) 0 bs
unfolding gather apply scatter Each Inside put
gather-scatter [] bs m e k = refl
gather-scatter (s ∷ ss) bs m e k =
    let m₂ : List ℕ = put m s.at (take s.len bs) in
    let c : Clear s.at s.len (scatter ss (drop s.len bs)) = clear-scatter s.at s.len ss (drop s.len bs) e.0 in
    let a : part s.at s.len (apply (scatter ss (drop s.len bs)) m₂) ≡ part s.at s.len m₂ =
    part_same s.at s.len (apply (scatter ss (drop s.len bs)) m₂) m₂ (length-apply (scatter ss (drop s.len bs)) m₂)
    (apply-same (scatter ss (drop s.len bs)) m₂ s.at s.len c) in
    let b : part s.at s.len m₂ ≡ put (part s.at s.len m) 0 (take s.len bs) =
    rw (add-zero s.at) at (part-put-in m s.at s.len 0 (take s.len bs)) in
    let l : length m₂ ≡ length m = length-put m s.at (take s.len bs) in
    let g : gather (apply (scatter ss (drop s.len bs)) m₂) ss ≡ put (gather m₂ ss) 0 (drop s.len bs) =
    gather-scatter ss (drop s.len bs) m₂ e.1 (rw l k.2) in
    let t : length (take s.len bs) ≤ s.len = simp length-take (omega arith) in
    let h : gather m₂ ss ≡ gather m ss = gather-put ss m s.at (take s.len bs) (off-in s.at s.len s.at (length (take s.len bs)) ss (omega arith) (omega arith) e.0) in
    let n : length (part s.at s.len m) ≡ s.len = length_part s.at s.len m k.1 in
    let f : put (part s.at s.len m ++ gather m ss) 0 bs ≡ put (part s.at s.len m) 0 (take s.len bs) ++ put (gather m ss) 0 (drop s.len bs) =
    rw n at (put_front (part s.at s.len m) (gather m ss) bs) in
    rw (a, b, g, h, f)

-- The last byte of some buffers lies in one of them ..
pub last_off : (a n : ℕ) (s : Span) (ss : List Span) (m : ℕ) → Off a n (s ∷ ss) → Inside m (s ∷ ss) → Disjoint a n (last_byte_at (s ∷ ss)) 1
unfolding Off Inside last_byte_at
last_off a n s [] m o k = disjoint-in a n s.at s.len a n (s.at + (s.len - 1)) 1 o.0 (omega arith) (omega arith) (omega arith) (omega arith)
last_off a n s (t ∷ ss) m o k = last_off a n t ss m o.1 k.2

pub last-in : (m : ℕ) (s : Span) (ss : List Span) → Inside m (s ∷ ss) → last_byte_at (s ∷ ss) < m
unfolding Inside last_byte_at
last-in m s [] k = omega arith
last-in m s (t ∷ ss) k = last-in m t ss k.2

-- .. and is the last of their string.
pub gather-last : (s : Span) (ss : List Span) (b : ℕ) (m : List ℕ) → Each (s ∷ ss) → Inside (length m) (s ∷ ss)
    → gather (put m (last_byte_at (s ∷ ss)) (b ∷ [])) (s ∷ ss) ≡ put (gather m (s ∷ ss)) (total (s ∷ ss) - 1) (b ∷ [])
unfolding gather Each Inside last_byte_at total
gather-last s [] b m e k =
    let n : s.len + 0 - 1 ≡ s.len - 1 = omega arith in
    rw (append-nil (part s.at s.len (put m (s.at + (s.len - 1)) (b ∷ []))), append-nil (part s.at s.len m), n)
    (part-put-in m s.at s.len (s.len - 1) (b ∷ []))
gather-last s (t ∷ ss) b m e k =
    let g : gather (put m (last_byte_at (t ∷ ss)) (b ∷ [])) (t ∷ ss) ≡ put (gather m (t ∷ ss)) (total (t ∷ ss) - 1) (b ∷ []) = gather-last t ss b m e.1 k.2 in
    let a : part s.at s.len (put m (last_byte_at (t ∷ ss)) (b ∷ [])) ≡ part s.at s.len m =
    part-put-other m s.at s.len (last_byte_at (t ∷ ss)) (b ∷ []) (last_off s.at s.len t ss (length m) e.0 k.2) in
    let l : length (part s.at s.len m) ≡ s.len = length_part s.at s.len m k.1 in
    let n : s.len + total (t ∷ ss) - 1 ≡ length (part s.at s.len m) + (total (t ∷ ss) - 1) = omega (arith, k.2.0) in
    rw (n, a, put-behind (part s.at s.len m) (gather m (t ∷ ss)) (total (t ∷ ss) - 1) (b ∷ []))
    (ap (λ (l : List ℕ). part s.at s.len m ++ l) g)

-- from each buffer by its number, once more
pub same-spans : (n k : ℕ) (spots m₁ m₂ : List ℕ) → ((j : ℕ) → k ≤ j → j < k + n → Same (get_or spots (2 * j) 0) (get_or spots (2 * j + 1) 0) m₁ m₂)
    → SameAll (spans n k spots) m₁ m₂
unfolding SameAll spans
same-spans zero k spots m₁ m₂ f = tt
same-spans (suc n) k spots m₁ m₂ f = (f k (omega arith) (omega arith), same-spans n (suc k) spots m₁ m₂ (λ j x y. f j (omega arith) (omega arith)))
