-- What a size that enabling accepts is, and a queue that was placed.
use Prim.Native.Nat.{ℕ, ◌≤◌}
use mathlib.Core.Bool.{Bool, true, false}
use mathlib.Core.List.{List, [], ◌∷◌}
use mathlib.Core.Path.{◌≡◌, refl}
use native.Mathlib.Omega.{arith}
use lib.Dec.{leb, eqb}
use borrow.Author.Tests.{eqb-true}
use Rattle.model.specs.Pick.{pick, both, either}
use Rattle.model.specs.Memory.{Region, locate}
use Rattle.model.specs.Ring.{sizes, size_max, among, queue_size_ok, desc_bytes, avail_bytes, used_bytes, aligned, entangled, placed, areas}
use Rattle.std.specs.Prelude.{Option, Some, None, Ok, Err}
use Rattle.model.specs.declared.Queue.{Queue}
use Rattle.model.specs.declared.Refusal.TheVariants.{QueueSize, Misaligned}
use Rattle.model.proofs.Tests.{told, both-split}

-- a test that each number of a list passes
unfoldable pub every : (ℕ → Bool) → List ℕ → Bool
every f [] = true
every f (n ∷ ns) = both (f n) (every f ns)

among-every : (f : ℕ → Bool) (q : ℕ) (ns : List ℕ) → every f ns ≡ true → among q ns ≡ true → f q ≡ true
unfolding among every
among-every f q [] t e = let z : ◌≡◌ {A = ℕ} 0 1 = cc in absurd (omega arith)
among-every f q (n ∷ ns) t e =
    let a = both-split (f n) (every f ns) t in
    split (eqb q n) refl a.0 (λ z. among-every f q ns a.1 z) e
  where
    split : (b : Bool) → eqb q n ≡ b → f n ≡ true → (among q ns ≡ true → f q ≡ true) → either b (among q ns) ≡ true → f q ≡ true
    split true b p g e = rw (eqb-true q n b) p
    split false b p g e = g e

-- .. is passed by a size that enabling accepts: where it computes for each size, nothing else has to know which they are
pub size-passes : (f : ℕ → Bool) (q : ℕ) → every f sizes ≡ true → queue_size_ok q ≡ true → f q ≡ true
unfolding queue_size_ok
size-passes f q t e = among-every f q sizes t e

pub size-range : (q : ℕ) → queue_size_ok q ≡ true → (1 ≤ q) × (q ≤ size_max)
unfolding every
size-range q e =
    let a = both-split (leb 1 q) (leb q size_max) (size-passes (λ (n : ℕ). both (leb 1 n) (leb n size_max)) q refl e) in
    (omega told, omega told)

-- a queue that was placed has the size that was asked for
pub areas-size : (rs : List Region) (size desc avail used : ℕ) (q : Queue) → areas rs size desc avail used ≡ Ok q → q.size ≡ size
unfolding areas placed
areas-size rs size desc avail used q h =
    go (queue_size_ok size) (aligned desc avail used) (locate rs desc (desc_bytes size)) (locate rs avail (avail_bytes size)) (locate rs used (used_bytes size)) (entangled size desc avail used) h
  where
    go : (a b : Bool) (x y z : Option ℕ) (t : Bool) → pick a (pick b (placed size x y z t) (Err Misaligned)) (Err QueueSize) ≡ Ok q → q.size ≡ size
    go false b x y z t h = let n : ◌≡◌ {A = ℕ} 0 1 = cc in absurd (omega arith)
    go true false x y z t h = let n : ◌≡◌ {A = ℕ} 0 1 = cc in absurd (omega arith)
    go true true None y z t h = let n : ◌≡◌ {A = ℕ} 0 1 = cc in absurd (omega arith)
    go true true (Some x) None z t h = let n : ◌≡◌ {A = ℕ} 0 1 = cc in absurd (omega arith)
    go true true (Some x) (Some y) None t h = let n : ◌≡◌ {A = ℕ} 0 1 = cc in absurd (omega arith)
    go true true (Some x) (Some y) (Some z) true h = let n : ◌≡◌ {A = ℕ} 0 1 = cc in absurd (omega arith)
    go true true (Some x) (Some y) (Some z) false h =
        let e : record { size = size; desc = x; avail = y; used = z } ≡ q = cc in
        rw (← e) refl
