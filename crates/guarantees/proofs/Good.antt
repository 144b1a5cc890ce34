-- A good state passes every test, and a step leaves a good state: the tests never fail on states that set-up and steps make.
use Prim.Native.Nat.{ℕ, zero, suc, ◌+◌, ◌-◌, ◌*◌, ◌≤◌, ◌<◌}
use mathlib.Core.Bool.{Bool, true, false}
use mathlib.Core.List.{List, [], ◌∷◌}
use mathlib.Core.Path.{◌≡◌, refl}
use native.Mathlib.Omega.{arith}
use native.Mathlib.Nat.{add-zero}
use lib.Dec.{leb, ltb}
use lib.ListN.{get_or}
use borrow.Author.Tests.{lt-ltb, le-leb}
use Rattle.model.specs.Pick.{both}
use Rattle.model.specs.Memory.{Region, sound}
use Rattle.model.specs.Step.{left, spans, writables}
use Rattle.model.specs.Sane.{walk_ok, full_ok, sane, inside, all_inside, place_is_ok, ready}
use Rattle.model.proofs.Memory.{InOne, here, later, in-slice}
use Rattle.model.proofs.Sane.{inside-turn, inside-end}
use Rattle.guarantees.specs.Good.{before, Spot, WalkGood, Next, Good}
use Rattle.model.specs.declared.Walk.{Walk}
use Rattle.model.specs.declared.Place.{Place}
use Rattle.model.specs.declared.Phase.{Phase}
use Rattle.model.specs.declared.Phase.TheVariants.{Poll, Entry, Chain, Header, Payload, Answer, Publish, Broken}

-- both, from both
pub both_true : (a b : Bool) → a ≡ true → b ≡ true → both a b ≡ true
both_true true true p q = refl
both_true true false p q = q
both_true false b p q = p

in_some : (rs : List Region) (a n x : ℕ) → InOne rs a n x → 1 ≤ n
in_some [] a n x i = elim i [ ]
in_some (r ∷ rs) a n x (here w) = w.some
in_some (r ∷ rs) a n x (later w) = in_some rs a n x w

pub spot-some : (rs : List Region) (at len : ℕ) → Spot rs at len → 1 ≤ len
spot-some rs at len s = in_some rs s.address len at s.in_one

spot_in : (m : ℕ) (rs : List Region) (at len : ℕ) → sound m rs ≡ true → Spot rs at len → at + len ≤ m
spot_in m rs at len h s = in-slice m rs s.address len at h s.in_one

-- sums of lengths grow, and are bounded
before_more : (chain : List ℕ) (i d : ℕ) → before chain i ≤ before chain (i + d)
unfolding before
before_more chain i zero = rw (add-zero i) (omega arith)
before_more chain i (suc d) = let e : i + suc d ≡ suc (i + d) = omega arith in rw e (omega (arith, before_more chain i d))

pub before-le : (chain : List ℕ) (i j : ℕ) → i ≤ j → before chain i ≤ before chain j
before-le chain i j h = let e : i + (j - i) ≡ j = omega arith in rw e at (before_more chain i (j - i))

pub before-next : (chain : List ℕ) (i : ℕ) → before chain (i + 1) ≡ before chain i + get_or chain (2 * i + 1) 0
unfolding before
before-next chain i = let e : i + 1 ≡ suc i = omega arith in rw e

before-short : (rs : List Region) (chain : List ℕ) (n : ℕ) → ((i : ℕ) → i < n → Spot rs (get_or chain (2 * i) 0) (get_or chain (2 * i + 1) 0))
    → before chain n ≤ 4294967295 * n
unfolding before
before-short rs chain zero f = omega arith
before-short rs chain (suc n) f = omega (arith, before-short rs chain n (λ i h. f i (omega arith)), (f n (omega arith)).short)

-- between two counts: bounded by the number of buffers between
before-between : (rs : List Region) (chain : List ℕ) (i d : ℕ) → ((j : ℕ) → j < i + d → Spot rs (get_or chain (2 * j) 0) (get_or chain (2 * j + 1) 0))
    → before chain (i + d) ≤ before chain i + 4294967295 * d
unfolding before
before-between rs chain i zero f = rw (add-zero i) (omega arith)
before-between rs chain i (suc d) f =
    let e : i + suc d ≡ suc (i + d) = omega arith in
    rw e (omega (arith, before-between rs chain i d (λ j h. f j (omega arith)), (f (i + d) (omega arith)).short))

module _ (rs : List Region) (q : ℕ) (chain : List ℕ) (k : Walk) where
  good-walk : WalkGood rs q chain k → walk_ok q k ≡ true
  unfolding walk_ok
  good-walk g =
      let a = before-short rs chain k.reads (λ i h. g.buffers i (omega (arith, g.reads_in))) in
      let e : k.reads + (k.count - k.reads) ≡ k.count = omega (arith, g.reads_in) in
      let b : before chain k.count ≤ before chain k.reads + 4294967295 * (k.count - k.reads) =
      rw e at (before-between rs chain k.reads (k.count - k.reads) (λ j h. g.buffers j (omega (arith, g.reads_in)))) in
      both_true (ltb k.head q) _ (lt-ltb k.head q g.head_in)
      (both_true (leb k.count q) _ (le-leb k.count q g.count-in)
      (both_true (leb k.reads k.count) _ (le-leb k.reads k.count g.reads_in)
      (both_true (leb k.r (4294967295 * k.reads)) _ (le-leb k.r (4294967295 * k.reads) (omega (arith, a, g.r-is)))
      (le-leb k.w (4294967295 * (k.count - k.reads)) (omega (arith, b, g.r-is, g.w-is))))))

  -- a writable buffer has a byte
  good-some : WalkGood rs q chain k → k.reads < k.count → 1 ≤ k.w
  good-some g h =
      let n = before-next chain k.reads in
      let l = before-le chain (k.reads + 1) k.count (omega arith) in
      omega (arith, n, l, spot-some rs (get_or chain (2 * k.reads) 0) (get_or chain (2 * k.reads + 1) 0) (g.buffers k.reads h), g.r-is, g.w-is)

  good-full : WalkGood rs q chain k → k.reads < k.count → full_ok q k ≡ true
  unfolding full_ok
  good-full g h =
      both_true (walk_ok q k) _ (good-walk g)
      (both_true (ltb k.reads k.count) _ (lt-ltb k.reads k.count h) (le-leb 1 k.w (good-some g h)))

pub good-sane : (rs : List Region) (q sectors : ℕ) (chain : List ℕ) (p : Phase) → Good rs q sectors chain p → sane q sectors p ≡ true
unfolding Good sane
good-sane rs q sectors chain Poll g = refl
good-sane rs q sectors chain Entry g = refl
good-sane rs q sectors chain (Chain k cur) g = both_true (walk_ok q k) _ (good-walk rs q chain k g.0) (lt-ltb cur q g.1)
good-sane rs q sectors chain (Header k p got) g =
    both_true (full_ok q k) _ (good-full rs q chain k g.0 g.1)
    (both_true (ltb p.buf k.reads) _ (lt-ltb p.buf k.reads g.4.buf-in)
    (both_true (ltb got 16) _ (lt-ltb got 16 g.2) (le-leb 16 k.r g.3)))
good-sane rs q sectors chain (Payload k p s got) g =
    both_true (full_ok q k) _ (good-full rs q chain k g.0 g.1)
    (both_true (ltb p.buf k.reads) _ (lt-ltb p.buf k.reads g.5.buf-in)
    (both_true (ltb 16 k.r) _ (lt-ltb 16 k.r g.2) (both_true (ltb got (k.r - 16)) _ (lt-ltb got (k.r - 16) g.3) g.4)))
good-sane rs q sectors chain (Answer k job got) g =
    both_true (full_ok q k) _ (good-full rs q chain k g.0 g.1) (both_true (leb got k.r) _ (le-leb got k.r g.2) g.3)
good-sane rs q sectors chain (Publish k got) g = both_true (full_ok q k) _ (good-full rs q chain k g.0 g.1) (le-leb got k.r g.2)
good-sane rs q sectors chain (Broken reason head count at) g =
    both_true (leb 1 reason) _ (le-leb 1 reason g.0)
    (both_true (leb reason 8) _ (le-leb reason 8 g.1) (both_true (ltb head q) _ (lt-ltb head q g.2) (both_true (leb count (q + 1)) _ (le-leb count (q + 1) g.3) g.4)))

-- buffers that each lie in a region lie in the slice
all-inside : (m : ℕ) (rs : List Region) (chain : List ℕ) → sound m rs ≡ true → (d i e : ℕ) → i + d ≡ e
    → ((j : ℕ) → j < e → Spot rs (get_or chain (2 * j) 0) (get_or chain (2 * j + 1) 0)) → all_inside m (spans (e - i) i chain) ≡ true
unfolding inside
all-inside m rs chain h zero i e x f = inside-end m i e chain (omega arith)
all-inside m rs chain h (suc d) i e x f =
    rw (
      inside-turn m i e chain (omega arith),
      le-leb (get_or chain (2 * i) 0 + get_or chain (2 * i + 1) 0) m (spot_in m rs (get_or chain (2 * i) 0) (get_or chain (2 * i + 1) 0) h (f i (omega arith))),
    )
    (all-inside m rs chain h d (i + 1) e (omega arith) f)

good-place : (m : ℕ) (rs : List Region) (q : ℕ) (chain : List ℕ) (k : Walk) (p : Place) (n : ℕ) → sound m rs ≡ true → WalkGood rs q chain k → Next chain k p n
    → place_is_ok m chain p ≡ true
unfolding place_is_ok inside
good-place m rs q chain k p n h g x =
    both_true (ltb p.skip (get_or chain (2 * p.buf + 1) 0)) _ (lt-ltb p.skip (get_or chain (2 * p.buf + 1) 0) x.skip-in)
    (le-leb (get_or chain (2 * p.buf) 0 + get_or chain (2 * p.buf + 1) 0) m
    (spot_in m rs (get_or chain (2 * p.buf) 0) (get_or chain (2 * p.buf + 1) 0) h (g.buffers p.buf (omega (arith, x.buf-in, g.reads_in)))))

-- what is left of the buffer is at most what is left of the readable string
pub next-left : (rs : List Region) (q : ℕ) (chain : List ℕ) (k : Walk) (p : Place) (n : ℕ) → WalkGood rs q chain k → Next chain k p n
    → n + (left chain p).len ≤ k.r
next-left rs q chain k p n g x =
    omega (arith, before-next chain p.buf, before-le chain (p.buf + 1) k.reads (omega (arith, x.buf-in)), x.n-is, x.skip-in, g.r-is)

pub good-ready : (m : ℕ) (rs : List Region) (q sectors : ℕ) (chain : List ℕ) (p : Phase) → sound m rs ≡ true → Good rs q sectors chain p → ready m chain p ≡ true
unfolding Good ready
good-ready m rs q sectors chain Poll h g = refl
good-ready m rs q sectors chain Entry h g = refl
good-ready m rs q sectors chain (Chain k cur) h g = refl
good-ready m rs q sectors chain (Header k p got) h g = good-place m rs q chain k p got h g.0 g.4
good-ready m rs q sectors chain (Payload k p s got) h g =
    both_true (place_is_ok m chain p) _ (good-place m rs q chain k p (16 + got) h g.0 g.5)
    (le-leb (got + (left chain p).len) (k.r - 16) (omega (arith, next-left rs q chain k p (16 + got) g.0 g.5)))
good-ready m rs q sectors chain (Answer k job got) h g =
    both_true (all_inside m (writables chain k)) _ (all-inside m rs chain h (k.count - k.reads) k.reads k.count (omega (arith, g.1)) g.0.buffers)
    (le-leb 1 (get_or chain (2 * (k.count - 1) + 1) 0)
    (spot-some rs (get_or chain (2 * (k.count - 1)) 0) (get_or chain (2 * (k.count - 1) + 1) 0) (g.0.buffers (k.count - 1) (omega (arith, g.1)))))
good-ready m rs q sectors chain (Publish k got) h g = refl
good-ready m rs q sectors chain (Broken reason head count at) h g = refl
