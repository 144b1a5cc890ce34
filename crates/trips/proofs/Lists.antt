-- Laws of `put` beside those of crates/model/proofs/Lists.antt: into two lists put together, and two things put together. By the clauses of `put`.
use Prim.Native.Nat.{ℕ, zero, suc, ◌+◌, ◌^◌, ◌≤◌, ◌<◌}
use native.Mathlib.Omega.{arith}
use native.Mathlib.Nat.{zero-add, suc-add}
use mathlib.Core.Path.{◌≡◌, refl, sym, ap, ◌∙◌}
use mathlib.Core.List.{List, [], ◌∷◌, ◌++◌}
use lib.ListN.{length, take, drop}
use lib.Seq.{take-nil, drop-nil}
use Rattle.model.specs.Bytes.{put, part, word, bytes}
use Rattle.model.proofs.Words.{length-bytes, word-put, word-apart}
use Rattle.model.proofs.Lists.{Apart, below, above, Disjoint, first, after, length-put, put-nil, put-put, part-put, part-all}

-- what is put at the front of two lists goes to the first, and what is left of it to the second
pub put_front : (xs ys bs : List ℕ) → put (xs ++ ys) 0 bs ≡ put xs 0 (take (length xs) bs) ++ put ys 0 (drop (length xs) bs)
unfolding put
put_front [] ys bs = refl
put_front (x ∷ xs) ys [] =
    rw (drop-nil {A = ℕ} (suc (length xs)), take-nil {A = ℕ} (suc (length xs)), put-nil ys 0)
put_front (x ∷ xs) ys (b ∷ bs) = ap (λ (l : List ℕ). b ∷ l) (put_front xs ys bs)

-- what is put behind the first goes to the second
pub put-behind : (xs ys : List ℕ) (k : ℕ) (bs : List ℕ) → put (xs ++ ys) (length xs + k) bs ≡ xs ++ put ys k bs
unfolding put
put-behind [] ys k bs = rw (zero-add k)
put-behind (x ∷ xs) ys k bs = rw (suc-add (length xs) k) (ap (λ (l : List ℕ). x ∷ l) (put-behind xs ys k bs))

-- a list put over one of its length is all there is
pub put-over : (m bs : List ℕ) → length bs ≡ length m → put m 0 bs ≡ bs
put-over m bs e =
    let p : part 0 (length m) (put m 0 bs) ≡ bs = part-put m 0 (length m) bs e (omega arith) in
    let n : length (put m 0 bs) ≡ length m = length-put m 0 bs in
    sym (rw n at (part-all (put m 0 bs))) ∙ p

pub disjoint-sym : {a n b k : ℕ} → Disjoint a n b k → Disjoint b k a n
disjoint-sym (first h) = after h
disjoint-sym (after h) = first h

-- ranges inside two disjoint ones are disjoint
pub disjoint-in : (a n b k a₂ n₂ b₂ k₂ : ℕ) → Disjoint a n b k → a ≤ a₂ → a₂ + n₂ ≤ a + n → b ≤ b₂ → b₂ + k₂ ≤ b + k → Disjoint a₂ n₂ b₂ k₂
disjoint-in a n b k a₂ n₂ b₂ k₂ (first h) p q r s = first (omega arith)
disjoint-in a n b k a₂ n₂ b₂ k₂ (after h) p q r s = after (omega arith)

-- a place in one of two disjoint ranges is outside the other
pub disjoint-apart : (a n b k i : ℕ) → Disjoint a n b k → a ≤ i → i < a + n → Apart i b k
disjoint-apart a n b k i (first h) p q = below (omega arith)
disjoint-apart a n b k i (after h) p q = above (omega arith)

-- a place outside a range, as a range of one
pub apart-one : {i a n : ℕ} → Apart i a n → Disjoint i 1 a n
apart-one (below h) = first (omega arith)
apart-one (above h) = after h

-- a number put with bytes behind it: the one, then the others
pub put-after : (m : List ℕ) (k n v : ℕ) (bs : List ℕ) → put m k (bytes n v ++ bs) ≡ put (put m k (bytes n v)) (k + n) bs
put-after m k n v bs = sym (rw (length-bytes n v) at (put-put m k (bytes n v) bs))

pub word-front : (n k v : ℕ) (m bs : List ℕ) → v < 256 ^ n → k + n ≤ length m → word n k (put m k (bytes n v ++ bs)) ≡ v
word-front n k v m bs h r =
    rw (put-after m k n v bs) (word-apart n k (put m k (bytes n v)) (k + n) bs (first (omega arith)) ∙ word-put n k v m h r)

-- what is put at the front leaves what lies behind it
pub drop_past : (m : List ℕ) (n : ℕ) (bs : List ℕ) → length bs ≤ n → drop n (put m 0 bs) ≡ drop n m
unfolding put
drop_past [] n bs h = refl
drop_past (x ∷ m) n [] h = refl
drop_past (x ∷ m) zero (b ∷ bs) h = absurd (omega arith)
drop_past (x ∷ m) (suc n) (b ∷ bs) h = drop_past m n bs (omega arith)
