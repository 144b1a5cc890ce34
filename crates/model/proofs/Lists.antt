-- The laws of `put` and `part`. Each goes by the clauses of `put`, and needs no bound unless it says so.
use Prim.Native.Nat.{ℕ, zero, suc, ◌+◌, ◌-◌, ◌≤◌, ◌<◌, min}
use native.Mathlib.Omega.{arith}
use native.Mathlib.Nat.{zero-add, suc-add, add_assoc}
use mathlib.Core.Path.{◌≡◌, refl, sym, ap, ◌∙◌}
use mathlib.Core.List.{List, [], ◌∷◌, ◌++◌}
use mathlib.Core.Bool.{Bool, true, false}
use lib.Dec.{leb}
use borrow.Author.Tests.{leb-true, leb-false}
use lib.ListN.{length, get_or, take, drop, set, length-take, length-drop, drop_of_length-le}
use lib.Seq.{get_or-take, get_or-drop, take-suc, drop-drop, take-add, ext_get_or, take_all, drop-nil, take-nil}
use Rattle.model.specs.Bytes.{put, part}

-- place i lies outside the n places from a on
pub data Apart (i a n : ℕ) : Type 0 where
  below : i < a → Apart i a n
  above : a + n ≤ i → Apart i a n

-- two ranges with no place in common
pub data Disjoint (a n b k : ℕ) : Type 0 where
  first : a + n ≤ b → Disjoint a n b k
  after : b + k ≤ a → Disjoint a n b k

pub length-put : (m : List ℕ) (k : ℕ) (bs : List ℕ) → length (put m k bs) ≡ length m
unfolding put
length-put [] k bs = refl
length-put (x ∷ m) (suc k) bs = ap suc (length-put m k bs)
length-put (x ∷ m) zero [] = refl
length-put (x ∷ m) zero (b ∷ bs) = ap suc (length-put m zero bs)

pub put-nil : (m : List ℕ) (k : ℕ) → put m k [] ≡ m
unfolding put
put-nil [] k = refl
put-nil (x ∷ m) (suc k) = ap (λ (l : List ℕ). x ∷ l) (put-nil m k)
put-nil (x ∷ m) zero = refl

-- what is put where it lies already changes nothing
pub put_same : (m : List ℕ) (k : ℕ) (bs : List ℕ) → k < length m → put m k (get_or m k 0 ∷ bs) ≡ put m (suc k) bs
unfolding put
put_same [] k bs h = refl
put_same (x ∷ m) (suc k) bs h = ap (λ (l : List ℕ). x ∷ l) (put_same m k bs (omega arith))
put_same (x ∷ m) zero bs h = refl

-- .. nor does what is stored first where more is put
pub put-over : (m : List ℕ) (k : ℕ) (bs : List ℕ) (i v : ℕ) → k ≤ i → i < k + length bs → put (set m i v) k bs ≡ put m k bs
unfolding put
put-over [] k bs i v a b = refl
put-over (x ∷ m) (suc k) bs (suc i) v a b = ap (λ (l : List ℕ). x ∷ l) (put-over m k bs i v (omega arith) (omega arith))
put-over (x ∷ m) (suc k) bs zero v a b = absurd (omega arith)
put-over (x ∷ m) zero [] i v a b = absurd (omega arith)
put-over (x ∷ m) zero (c ∷ bs) zero v a b = refl
put-over (x ∷ m) zero (c ∷ bs) (suc i) v a b = ap (λ (l : List ℕ). c ∷ l) (put-over m zero bs i v (omega arith) (omega arith))

pub put-below : (m : List ℕ) (k : ℕ) (bs : List ℕ) (i : ℕ) → i < k → get_or (put m k bs) i 0 ≡ get_or m i 0
unfolding put
put-below [] k bs i h = refl
put-below (x ∷ m) (suc k) bs zero h = refl
put-below (x ∷ m) (suc k) bs (suc i) h = put-below m k bs i (omega arith)
put-below (x ∷ m) zero [] i h = refl
put-below (x ∷ m) zero (b ∷ bs) i h = absurd (omega arith)

pub put-above : (m : List ℕ) (k : ℕ) (bs : List ℕ) (i : ℕ) → k + length bs ≤ i → get_or (put m k bs) i 0 ≡ get_or m i 0
unfolding put
put-above [] k bs i h = refl
put-above (x ∷ m) (suc k) bs zero h = absurd (omega arith)
put-above (x ∷ m) (suc k) bs (suc i) h = put-above m k bs i (omega arith)
put-above (x ∷ m) zero [] i h = refl
put-above (x ∷ m) zero (b ∷ bs) zero h = absurd (omega arith)
put-above (x ∷ m) zero (b ∷ bs) (suc i) h = put-above m zero bs i (omega arith)

-- putting changes only those bytes
pub put-apart : (m : List ℕ) (k : ℕ) (bs : List ℕ) (i : ℕ) → Apart i k (length bs) → get_or (put m k bs) i 0 ≡ get_or m i 0
put-apart m k bs i (below h) = put-below m k bs i h
put-apart m k bs i (above h) = put-above m k bs i h

pub put_in : (m : List ℕ) (k : ℕ) (bs : List ℕ) (j : ℕ) → j < length bs → k + j < length m → get_or (put m k bs) (k + j) 0 ≡ get_or bs j 0
unfolding put
put_in [] k bs j h r = absurd (omega arith)
put_in (x ∷ m) (suc k) bs j h r = rw suc-add (put_in m k bs j h (omega arith))
put_in (x ∷ m) zero [] j h r = absurd (omega arith)
put_in (x ∷ m) zero (b ∷ bs) zero h r = refl
put_in (x ∷ m) zero (b ∷ bs) (suc j) h r = rw zero-add (rw zero-add at (put_in m zero bs j (omega arith) (omega arith)))

pub length_part : (k n : ℕ) (m : List ℕ) → k + n ≤ length m → length (part k n m) ≡ n
unfolding part
length_part k n m h = simp (length-take, length-drop) (omega arith)

pub get_d_part : (k n : ℕ) (m : List ℕ) (i : ℕ) → i < n → get_or (part k n m) i 0 ≡ get_or m (k + i) 0
unfolding part
get_d_part k n m i h = rw (get_or-take, get_or-drop)

pub part-zero : (k : ℕ) (m : List ℕ) → part k 0 m ≡ []
unfolding part
part-zero k m = refl

-- two memories that agree on a range have the same part there
pub part-cong : (k n : ℕ) (m₁ m₂ : List ℕ) → length m₁ ≡ length m₂
    → ((i : ℕ) → k ≤ i → i < k + n → get_or m₁ i 0 ≡ get_or m₂ i 0) → part k n m₁ ≡ part k n m₂
unfolding part
part-cong k n m₁ m₂ e f =
    ext_get_or 0 (take n (drop k m₁)) (take n (drop k m₂)) (simp (length-take, length-drop) (ap (λ (l : ℕ). min n (l - k)) e))
    (λ i h. let h₂ : i < n = omega (arith, simp (length-take, length-drop) at h) in
    rw (get_or-take n (drop k m₁) i 0 h₂, get_or-take n (drop k m₂) i 0 h₂, get_or-drop k m₁ i 0, get_or-drop k m₂ i 0) (f (k + i) (omega arith) (omega arith)))

-- read what was put
pub part-put : (m : List ℕ) (k n : ℕ) (bs : List ℕ) → length bs ≡ n → k + n ≤ length m → part k n (put m k bs) ≡ bs
part-put m k n bs e h =
    ext_get_or 0 (part k n (put m k bs)) bs (length_part k n (put m k bs) (rw length-put h) ∙ sym e)
    (λ i l. let l₂ : i < n = omega (arith, length_part k n (put m k bs) (rw length-put h)) in
    get_d_part k n (put m k bs) i l₂ ∙ put_in m k bs i (omega arith) (omega arith))

pub part-put-other : (m : List ℕ) (k n j : ℕ) (bs : List ℕ) → Disjoint k n j (length bs) → part k n (put m j bs) ≡ part k n m
part-put-other m k n j bs (first h) = part-cong k n (put m j bs) m (length-put m j bs) (λ i l u. put-below m j bs i (omega arith))
part-put-other m k n j bs (after h) = part-cong k n (put m j bs) m (length-put m j bs) (λ i l u. put-above m j bs i (omega arith))

drop-put : (m : List ℕ) (d k : ℕ) (bs : List ℕ) → drop d (put m (d + k) bs) ≡ put (drop d m) k bs
unfolding put
drop-put [] d k bs = rw (drop-nil d)
drop-put (x ∷ m) zero k bs = rw zero-add
drop-put (x ∷ m) (suc d) k bs = rw suc-add (drop-put m d k bs)

take_put : (m : List ℕ) (n k : ℕ) (bs : List ℕ) → take n (put m k bs) ≡ put (take n m) k bs
unfolding put
take_put [] n k bs = rw (take-nil n)
take_put (x ∷ m) zero k bs = refl
take_put (x ∷ m) (suc n) (suc k) bs = ap (λ (l : List ℕ). x ∷ l) (take_put m n k bs)
take_put (x ∷ m) (suc n) zero [] = refl
take_put (x ∷ m) (suc n) zero (b ∷ bs) = ap (λ (l : List ℕ). b ∷ l) (take_put m n zero bs)

-- a part evolves by itself
pub part-put-in : (m : List ℕ) (d n k : ℕ) (bs : List ℕ) → part d n (put m (d + k) bs) ≡ put (part d n m) k bs
unfolding part
part-put-in m d n k bs = ap (take n) (drop-put m d k bs) ∙ take_put (drop d m) n k bs

pub part-part : (o a n k : ℕ) (m : List ℕ) → a + k ≤ n → part a k (part o n m) ≡ part (o + a) k m
unfolding part
part-part o a n k m h =
    ext_get_or 0 (take k (drop a (take n (drop o m)))) (take k (drop (o + a) m)) (simp (length-take, length-drop) (omega arith))
    (λ i l. let l₂ : i < k = omega (arith, simp (length-take, length-drop) at l) in
    rw (
      get_or-take k (drop a (take n (drop o m))) i 0 l₂,
      get_or-take k (drop (o + a) m) i 0 l₂,
      get_or-drop a (take n (drop o m)) i 0,
      get_or-drop (o + a) m i 0,
      get_or-take n (drop o m) (a + i) 0 (omega arith),
      get_or-drop o m (a + i) 0,
      add_assoc o a i,
    ))

-- a part with one element more
pub part-more : (f i : ℕ) (s : List ℕ) → f + i < length s → part f i s ++ (get_or s (f + i) 0 ∷ []) ≡ part f (suc i) s
unfolding part
part-more f i s h =
    let l : i < length (drop f s) = simp length-drop (omega arith) in
    rw (← (get_or-drop f s i 0)) (sym (take-suc (drop f s) i 0 l))

-- a part by its first element
pub part-first : (k n : ℕ) (m : List ℕ) → k < length m → get_or m k 0 ∷ part (suc k) n m ≡ part k (suc n) m
unfolding part
part-first k n [] h = absurd (omega arith)
part-first zero n (x ∷ m) h = refl
part-first (suc k) n (x ∷ m) h = part-first k n m (omega arith)

pub part-add : (k a b : ℕ) (m : List ℕ) → part k a m ++ part (k + a) b m ≡ part k (a + b) m
unfolding part
part-add k a b m = rw (take-add a b (drop k m), drop-drop a k m)

pub put_one : (m : List ℕ) (k x : ℕ) → put m k (x ∷ []) ≡ set m k x
unfolding put
put_one [] k x = refl
put_one (y ∷ m) (suc k) x = ap (λ (l : List ℕ). y ∷ l) (put_one m k x)
put_one (y ∷ m) zero x = ap (λ (l : List ℕ). x ∷ l) (put-nil m zero)

-- one put after another, side by side, is one put
pub put-put : (m : List ℕ) (k : ℕ) (cs bs : List ℕ) → put (put m k cs) (k + length cs) bs ≡ put m k (cs ++ bs)
unfolding put
put-put [] k cs bs = refl
put-put (x ∷ m) (suc k) cs bs = rw suc-add (ap (λ (l : List ℕ). x ∷ l) (put-put m k cs bs))
put-put (x ∷ m) zero [] bs = refl
put-put (x ∷ m) zero (c ∷ cs) bs = rw zero-add (ap (λ (l : List ℕ). c ∷ l) (rw zero-add at (put-put m zero cs bs)))

pub put-set : (m : List ℕ) (k : ℕ) (bs : List ℕ) (x : ℕ) → set (put m k bs) (k + length bs) x ≡ put m k (bs ++ (x ∷ []))
put-set m k bs x = sym (put_one (put m k bs) (k + length bs) x) ∙ put-put m k bs (x ∷ [])

-- a copying loop's turn: one element more of the source's part
pub put_copy : (m : List ℕ) (k : ℕ) (s : List ℕ) (f i : ℕ) → f + i < length s
    → set (put m k (part f i s)) (k + i) (get_or s (f + i) 0) ≡ put m k (part f (suc i) s)
put_copy m k s f i h =
    let e : length (part f i s) ≡ i = length_part f i s (omega arith) in
    let q : part f i s ++ (get_or s (f + i) 0 ∷ []) ≡ part f (suc i) s = part-more f i s h in
    rw (← q) (rw e at (put-set m k (part f i s) (get_or s (f + i) 0)))

-- the same with b elements more
pub put-more : (m : List ℕ) (k : ℕ) (s : List ℕ) (f a b : ℕ) → f + a ≤ length s
    → put (put m k (part f a s)) (k + a) (part (f + a) b s) ≡ put m k (part f (a + b) s)
put-more m k s f a b h =
    let e : length (part f a s) ≡ a = length_part f a s h in
    rw (← (part-add f a b s)) (rw e at (put-put m k (part f a s) (part (f + a) b s)))

-- what is put last where it lies already changes nothing
pub put-same-last : (m : List ℕ) (k : ℕ) (bs : List ℕ) → k + length bs < length m → put m k (bs ++ (get_or m (k + length bs) 0 ∷ [])) ≡ put m k bs
put-same-last m k bs h =
    let n = k + length bs in
    let e : get_or (put m k bs) n 0 ≡ get_or m n 0 = put-above m k bs n (omega arith) in
    sym (put-put m k bs (get_or m n 0 ∷ [])) ∙ (rw e at (put_same (put m k bs) n [] (omega (arith, length-put m k bs)))) ∙ put-nil (put m k bs) (suc n)

-- one store, then the rest behind it
pub put-cons : (m : List ℕ) (k b : ℕ) (bs : List ℕ) → put m k (b ∷ bs) ≡ put (set m k b) (suc k) bs
unfolding put
put-cons [] k b bs = refl
put-cons (x ∷ m) (suc k) b bs = ap (λ (l : List ℕ). x ∷ l) (put-cons m k b bs)
put-cons (x ∷ m) zero b bs = refl

pub part-all : (m : List ℕ) → part 0 (length m) m ≡ m
unfolding part
part-all m = take_all (length m) m (omega arith)

-- the first l elements of a part, and the others
pub take_part : (k n l : ℕ) (m : List ℕ) → take l (part k n m) ≡ part k (min l n) m
unfolding part
take_part k n l m =
    ext_get_or 0 (take l (take n (drop k m))) (take (min l n) (drop k m)) (simp (length-take, length-drop) (omega arith))
    (λ i h. let u : i < min l n = omega (arith, simp (length-take, length-drop) at h) in
    rw (get_or-take l (take n (drop k m)) i 0 (omega arith), get_or-take n (drop k m) i 0 (omega arith), get_or-take (min l n) (drop k m) i 0 u))

drop-part-le : (k n l : ℕ) (m : List ℕ) → l ≤ n → drop l (part k n m) ≡ part (k + l) (n - l) m
unfolding part
drop-part-le k n l m h =
    ext_get_or 0 (drop l (take n (drop k m))) (take (n - l) (drop (k + l) m)) (simp (length-take, length-drop) (omega arith))
    (λ i u. let v : l + i < n = omega (arith, simp (length-take, length-drop) at u) in
    rw (
      get_or-drop l (take n (drop k m)) i 0,
      get_or-take n (drop k m) (l + i) 0 v,
      get_or-drop k m (l + i) 0,
      get_or-take (n - l) (drop (k + l) m) i 0 (omega arith),
      get_or-drop (k + l) m i 0,
      add_assoc k l i,
    ))

drop-part-gt : (k n l : ℕ) (m : List ℕ) → n ≤ l → drop l (part k n m) ≡ part (k + n) (n - n) m
unfolding part
drop-part-gt k n l m h =
    let e : n - n ≡ 0 = omega arith in
    rw e (drop_of_length-le (take n (drop k m)) {i = l} (simp (length-take, length-drop) (omega arith)))

pub drop-part : (k n l : ℕ) (m : List ℕ) → drop l (part k n m) ≡ part (k + min l n) (n - min l n) m
drop-part k n l m = split (leb l n) refl
  where
    split : (b : Bool) → leb l n ≡ b → drop l (part k n m) ≡ part (k + min l n) (n - min l n) m
    split true t = let e : min l n ≡ l = omega (arith, leb-true l n t) in rw e (drop-part-le k n l m (leb-true l n t))
    split false t = let e : min l n ≡ n = omega (arith, leb-false l n t) in rw e (drop-part-gt k n l m (omega (arith, leb-false l n t)))

splice-put : (m : List ℕ) (k : ℕ) (bs : List ℕ) → k + length bs ≤ length m → take k m ++ (bs ++ drop (length bs) (drop k m)) ≡ put m k bs
unfolding put
splice-put [] zero [] h = refl
splice-put [] zero (b ∷ bs) h = absurd (omega arith)
splice-put [] (suc k) bs h = absurd (omega arith)
splice-put (x ∷ m) (suc k) bs h = ap (λ (l : List ℕ). x ∷ l) (splice-put m k bs (omega arith))
splice-put (x ∷ m) zero [] h = refl
splice-put (x ∷ m) zero (b ∷ bs) h = ap (λ (l : List ℕ). b ∷ l) (splice-put m zero bs (omega arith))

-- a part of a slice, lent to the library and given back with bs in it
pub put_back : (m : List ℕ) (k n : ℕ) (bs : List ℕ) → length bs ≡ n → k + n ≤ length m → take k m ++ (bs ++ drop (k + n - k) (drop k m)) ≡ put m k bs
put_back m k n bs e h = let s : k + n - k ≡ length bs = omega arith in rw s (splice-put m k bs (omega arith))
