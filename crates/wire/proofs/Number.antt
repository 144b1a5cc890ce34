-- The library's eight bytes of a number, and its number of eight bytes, in the words of `bytes` and `word`.
use Prim.Native.Nat.{ℕ, zero, suc, ◌+◌, ◌-◌, ◌/◌, ◌%◌, ◌≤◌, ◌<◌}
use native.Mathlib.Omega.{arith}
use native.Mathlib.Nat.{zero-add, suc-add, div-div-eq-div-mul}
use native.Mathlib.Numerals.{towards_numerals}
use mathlib.Core.Path.{◌≡◌, refl, ap, ◌∙◌}
use mathlib.Core.List.{List, ◌∷◌, ◌++◌}
use lib.ListN.{length, get_or, take, drop, replicate}
use lib.Seq.{get_or-drop}
use Rattle.std.specs.Int.{w64, from_le_bytes, to_le_bytes}
use Rattle.std.proofs.Common.{Fits, w8, ◌^◌}
use Rattle.std.proofs.lemmas.List.{get_or_append_left, get_or-append_right}
use Rattle.model.specs.Bytes.{part, word, bytes}
use Rattle.model.proofs.Words.{word-add, word-cong, word_below}
use Rattle.model.proofs.Lists.{length_part, get_d_part}

zeros : (n k : ℕ) (m : List ℕ) → ((i : ℕ) → k ≤ i → get_or m i 0 ≡ 0) → word n k m ≡ 0
unfolding word
zeros zero k m f = refl
zeros (suc n) k m f = omega (arith, f k, zeros n (suc k) m (λ i h. f i (omega arith)))

-- a number of n bytes has more of them, if those are 0
longer : (n j k : ℕ) (m xs : List ℕ) → ((i : ℕ) → i < n → get_or xs i 0 ≡ get_or m (k + i) 0) → ((i : ℕ) → n ≤ i → get_or xs i 0 ≡ 0)
    → word (n + j) 0 xs ≡ word n k m
longer n j k m xs f z =
    let a = word-add n j 0 xs in
    let b : word n 0 xs ≡ word n k m = word-cong n 0 k xs m (λ i h. rw zero-add (f i h)) in
    let o : word j (0 + n) xs ≡ 0 = zeros j (0 + n) xs (λ i h. z i (omega arith)) in
    rw (a, b, o) (omega arith)

all_zero : (j i : ℕ) → get_or {A = ℕ} (replicate j 0) i 0 ≡ 0
all_zero zero i = refl
all_zero (suc j) zero = refl
all_zero (suc j) (suc i) = all_zero j i

behind : (n i : ℕ) → get_or {A = ℕ} (drop n (replicate 8 0)) i 0 ≡ 0
behind n i = rw (get_or-drop {A = ℕ} n (replicate 8 0) i 0) (all_zero 8 (n + i))

from-word : (xs : List ℕ) → from_le_bytes w64 xs ≡ word 8 0 xs
unfolding word
from-word xs = simp towards_numerals (omega arith)

-- n bytes from place k on, with zeros behind them, make the number that stands there
pub number_from : (n k : ℕ) (m xs : List ℕ) → xs ≡ take (k + n - k) (drop k m) → k + n ≤ length m → n ≤ 8
    → from_le_bytes w64 (xs ++ drop n (replicate 8 0)) ≡ word n k m
unfolding part
number_from n k m xs e r h =
    let j = 8 - n in
    let w : 8 ≡ n + j = omega arith in
    let s : k + n - k ≡ n = omega arith in
    let p : xs ≡ part k n m = rw s at e in
    let l : length xs ≡ n = rw p (length_part k n m r) in
    rw (from-word (xs ++ drop n (replicate 8 0)), w)
    (longer n j k m (xs ++ drop n (replicate 8 0))
    (λ i u. get_or_append_left xs _ 0 i (omega arith) ∙ (rw p (get_d_part k n m i u)))
    (λ i u. rw (get_or-append_right xs (drop n (replicate 8 0)) n i 0 l u) (behind n (i - n))))

to-bytes : (v : ℕ) → to_le_bytes w64 v ≡ bytes 8 v
unfolding bytes
to-bytes v = simp div-div-eq-div-mul refl

first : (n j v : ℕ) → take n (bytes (n + j) v) ≡ bytes n v
unfolding bytes
first zero j v = refl
first (suc n) j v = rw suc-add (ap (λ (l : List ℕ). v % 256 ∷ l) (first n j (v / 256)))

-- the first n of a number's eight bytes
pub bytes_of : (n v : ℕ) (bs : List ℕ) → bs ≡ to_le_bytes w64 v → n ≤ 8 → take n bs ≡ bytes n v
bytes_of n v bs e h =
    let j = 8 - n in
    let w : 8 ≡ n + j = omega arith in
    let s : bs ≡ bytes (n + j) v = e ∙ to-bytes v ∙ ap (λ (i : ℕ). bytes i v) w in
    rw s (first n j v)

-- what `get` copies, as a number
pub got : (n k : ℕ) (m xs number : List ℕ) (v : ℕ) → v ≡ from_le_bytes w64 number → number ≡ xs ++ drop n (replicate 8 0) → xs ≡ take (k + n - k) (drop k m)
    → k + n ≤ length m → n ≤ 8 → v ≡ word n k m
got n k m xs number v d f e r h = d ∙ ap (from_le_bytes w64) f ∙ number_from n k m xs e r h

pub below : (n k : ℕ) (m xs number : List ℕ) (v : ℕ) → v ≡ from_le_bytes w64 number → number ≡ xs ++ drop n (replicate 8 0) → xs ≡ take (k + n - k) (drop k m)
    → k + n ≤ length m → n ≤ 8 → ((j : ℕ) → Fits w8 (get_or m j 0)) → v < 256 ^ n
below n k m xs number v d f e r h b = rw (got n k m xs number v d f e r h) (word_below n k m (λ j. (b j).fits))

pub ruleset gets = (arith, got, below)
