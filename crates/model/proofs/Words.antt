-- The laws of `word` and `bytes`, each once over the width.
use Prim.Native.Nat.{ℕ, zero, suc, ◌+◌, ◌*◌, ◌/◌, ◌%◌, ◌^◌, ◌≤◌, ◌<◌}
use native.Mathlib.Omega.{arith}
use native.Mathlib.Nat.{pow-succ', add-suc, suc-add, zero-add, add-zero, mul_assoc}
use mathlib.Core.Path.{◌≡◌, refl, sym, ap, ◌∙◌}
use mathlib.Core.List.{List, ◌∷◌}
use lib.ListN.{length, get_or}
use Rattle.model.specs.Bytes.{put, part, word, bytes}
use Rattle.model.proofs.Lists.{Disjoint, first, after, put-below, put-above, put_in, get_d_part, part-zero, part-first}

pub length-bytes : (n v : ℕ) → length (bytes n v) ≡ n
unfolding bytes
length-bytes zero v = refl
length-bytes (suc n) v = ap suc (length-bytes n (v / 256))

-- two memories that agree on the n bytes from k on have the same number there
pub word-cong : (n k₁ k₂ : ℕ) (m₁ m₂ : List ℕ) → ((i : ℕ) → i < n → get_or m₁ (k₁ + i) 0 ≡ get_or m₂ (k₂ + i) 0) → word n k₁ m₁ ≡ word n k₂ m₂
unfolding word
word-cong zero k₁ k₂ m₁ m₂ f = refl
word-cong (suc n) k₁ k₂ m₁ m₂ f =
    let a : get_or m₁ k₁ 0 ≡ get_or m₂ k₂ 0 = rw (add-zero, add-zero) at (f 0 (omega arith)) in
    let b : word n (suc k₁) m₁ ≡ word n (suc k₂) m₂ =
    word-cong n (suc k₁) (suc k₂) m₁ m₂ (λ i h. rw (suc-add, suc-add) (rw (add-suc, add-suc) at (f (suc i) (omega arith)))) in
    rw (a, b)

-- a number read out of a part
pub word-part : (n i k l : ℕ) (m : List ℕ) → i + n ≤ l → word n i (part k l m) ≡ word n (k + i) m
word-part n i k l m h = word-cong n i (k + i) (part k l m) m (λ j u. get_d_part k l m (i + j) (omega arith) ∙ ap (λ (x : ℕ). get_or m x 0) (omega arith))

-- putting elsewhere changes no number
pub word-apart : (n k : ℕ) (m : List ℕ) (j : ℕ) (bs : List ℕ) → Disjoint k n j (length bs) → word n k (put m j bs) ≡ word n k m
word-apart n k m j bs (first h) = word-cong n k k (put m j bs) m (λ i u. put-below m j bs (k + i) (omega arith))
word-apart n k m j bs (after h) = word-cong n k k (put m j bs) m (λ i u. put-above m j bs (k + i) (omega arith))

-- the number that bytes make
pub word_bytes : (n v : ℕ) → v < 256 ^ n → word n 0 (bytes n v) ≡ v
unfolding word bytes
word_bytes zero v h = omega arith
word_bytes (suc n) v h =
    let q : v / 256 < 256 ^ n = omega (arith, pow-succ' 256 n) in
    let e : word n 1 (v % 256 ∷ bytes n (v / 256)) ≡ word n 0 (bytes n (v / 256)) =
    word-cong n 1 0 (v % 256 ∷ bytes n (v / 256)) (bytes n (v / 256)) (λ i u. rw (suc-add, zero-add)) in
    rw (e, word_bytes n (v / 256) q) (omega arith)

-- read what was put
pub word-put : (n k v : ℕ) (m : List ℕ) → v < 256 ^ n → k + n ≤ length m → word n k (put m k (bytes n v)) ≡ v
word-put n k v m h r =
    word-cong n k 0 (put m k (bytes n v)) (bytes n v)
    (λ i u. let l : i < length (bytes n v) = rw (length-bytes n v) u in
    put_in m k (bytes n v) i l (omega arith) ∙ ap (λ (x : ℕ). get_or (bytes n v) x 0) (omega arith))
    ∙ word_bytes n v h

-- a number of n bytes is below 256 ^ n
pub word_below : (n k : ℕ) (m : List ℕ) → ((i : ℕ) → get_or m i 0 < 256) → word n k m < 256 ^ n
unfolding word
word_below zero k m f = omega arith
word_below (suc n) k m f = omega (arith, pow-succ' 256 n, f k, word_below n (suc k) m f)

-- a number by its two halves
pub word-add : (a b k : ℕ) (m : List ℕ) → word (a + b) k m ≡ word a k m + 256 ^ a * word b (k + a) m
unfolding word
word-add zero b k m = rw (zero-add, add-zero) (omega arith)
word-add (suc a) b k m =
    let h : word (a + b) (suc k) m ≡ word a (suc k) m + 256 ^ a * word b (suc k + a) m = word-add a b (suc k) m in
    let e : suc k + a ≡ k + suc a = omega arith in
    rw (suc-add, pow-succ' 256 a, mul_assoc 256 (256 ^ a) (word b (k + suc a) m), h, e) (omega arith)

-- the bytes of a number that was read are those that it was read from
pub bytes_word : (n k : ℕ) (m : List ℕ) → ((i : ℕ) → get_or m i 0 < 256) → k + n ≤ length m → bytes n (word n k m) ≡ part k n m
unfolding bytes word
bytes_word zero k m f h = sym (part-zero k m)
bytes_word (suc n) k m f h =
    let w = word n (suc k) m in
    let a : (get_or m k 0 + 256 * w) % 256 ≡ get_or m k 0 = omega (arith, f k) in
    let b : (get_or m k 0 + 256 * w) / 256 ≡ w = omega (arith, f k) in
    rw (a, b, bytes_word n (suc k) m f (omega arith)) (part-first k n m (omega arith))
