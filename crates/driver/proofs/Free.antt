-- The free descriptors' numbers: below the queue's size, rising, and free.
use Prim.Native.Nat.{ℕ, zero, suc, ◌+◌, ◌-◌, ◌≤◌, ◌<◌}
use mathlib.Core.Bool.{Bool, true, false}
use mathlib.Core.List.{List, [], ◌∷◌}
use mathlib.Core.Path.{◌≡◌, refl, sym, ◌∙◌}
use native.Mathlib.Omega.{arith}
use lib.Dec.{eqb}
use lib.ListN.{get_or, length, take, length-take}
use lib.Seq.{get_or-take}
use borrow.Author.Tests.{eqb-true}
use Rattle.model.specs.Pick.{pick}
use Rattle.driver.specs.Lay.{free_from, free}

-- number i of the free ones among these words, which belong to descriptors n, n + 1, ..
pub record Freed (n : ℕ) (ws : List ℕ) (x : ℕ) : Type 0 where
  pub from : n ≤ x
  pub below : x < n + length ws
  pub is_free : get_or ws (x - n) 0 ≡ 0

later : (n o : ℕ) (ws : List ℕ) (x : ℕ) → Freed (suc n) ws x → Freed n (o ∷ ws) x
later n o ws x f =
    let a = f.from in
    let b = f.below in
    let e : x - n ≡ suc (x - suc n) = omega arith in
    record { from = omega arith; below = omega arith; is_free = rw e f.is_free }

pub freed-at : (n : ℕ) (ws : List ℕ) (i : ℕ) → i < length (free_from n ws) → Freed n ws (get_or (free_from n ws) i 0)
unfolding free_from
freed-at n [] i h = absurd (omega arith)
freed-at n (o ∷ ws) i h = go (eqb o 0) refl i h (λ j l. freed-at (suc n) ws j l)
  where
    here : eqb o 0 ≡ true → Freed n (o ∷ ws) n
    here t = let z : n - n ≡ 0 = omega arith in record { from = omega arith; below = omega arith; is_free = rw z (eqb-true o 0 t) }

    go : (b : Bool) → eqb o 0 ≡ b → (i : ℕ) → i < length (pick b (n ∷ free_from (suc n) ws) (free_from (suc n) ws))
        → ((j : ℕ) → j < length (free_from (suc n) ws) → Freed (suc n) ws (get_or (free_from (suc n) ws) j 0)) → Freed n (o ∷ ws) (get_or (pick b (n ∷ free_from (suc n) ws) (free_from (suc n) ws)) i 0)
    go true t zero h more = here t
    go true t (suc i) h more = later n o ws (get_or (free_from (suc n) ws) i 0) (more i (omega arith))
    go false t i h more = later n o ws (get_or (free_from (suc n) ws) i 0) (more i h)

pub rising-at : (n : ℕ) (ws : List ℕ) (i j : ℕ) → i < j → j < length (free_from n ws) → get_or (free_from n ws) i 0 < get_or (free_from n ws) j 0
unfolding free_from
rising-at n [] i j h l = absurd (omega arith)
rising-at n (o ∷ ws) i j h l = go (eqb o 0) i j h l (λ x y u v. rising-at (suc n) ws x y u v)
  where
    go : (b : Bool) (i j : ℕ) → i < j → j < length (pick b (n ∷ free_from (suc n) ws) (free_from (suc n) ws))
        → ((x y : ℕ) → x < y → y < length (free_from (suc n) ws) → get_or (free_from (suc n) ws) x 0 < get_or (free_from (suc n) ws) y 0)
        → get_or (pick b (n ∷ free_from (suc n) ws) (free_from (suc n) ws)) i 0 < get_or (pick b (n ∷ free_from (suc n) ws) (free_from (suc n) ws)) j 0
    go true i zero h l more = absurd (omega arith)
    go true zero (suc j) h l more = let f = freed-at (suc n) ws j (omega arith) in let a = f.from in omega arith
    go true (suc i) (suc j) h l more = more i j (omega arith) (omega arith)
    go false i j h l more = more i j h l

-- of the first q of the driver's words
pub free-below : (q : ℕ) (own : List ℕ) (i : ℕ) → i < length (free q own) → q ≤ length own → (get_or (free q own) i 0 < q) × (get_or own (get_or (free q own) i 0) 0 ≡ 0)
free-below q own i h l =
    let f = freed-at 0 (take q own) i h in
    let x = get_or (free q own) i 0 in
    let k : length (take q own) ≡ q = rw length-take (omega arith) in
    let b : x < 0 + length (take q own) = f.below in
    let u : x < q = omega arith in
    let z : x - 0 ≡ x = omega arith in
    (u, sym (get_or-take q own x 0 u) ∙ rw z at f.is_free)
