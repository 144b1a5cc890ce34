-- The driver's own words: laying marks a request's descriptors, and giving them back leaves the words as they were before. Word by word.
use Prim.Native.Nat.{ℕ, zero, suc, ◌+◌, ◌≤◌, ◌<◌}
use native.Mathlib.Omega.{arith}
use native.Mathlib.Nat.{zero-add}
use mathlib.Core.Bool.{Bool, true, false}
use mathlib.Core.Path.{◌≡◌, refl, sym, ap, ◌∙◌}
use mathlib.Core.List.{List, [], ◌∷◌}
use lib.Dec.{eqb}
use lib.ListN.{length, get_or, set, length-set}
use lib.Seq.{get_or-set_same, get_or-set_other, ext_get_or}
use borrow.Author.Tests.{eqb-true, eqb-false, eq-eqb, ne_eqb, lt-ltb}
use Rattle.model.specs.Pick.{pick}
use Rattle.model.specs.Bytes.{part}
use Rattle.model.specs.Memory.{Region}
use Rattle.model.specs.declared.Queue.{Queue}
use Rattle.model.proofs.Lists.{length_part, get_d_part}
use Rattle.model.proofs.Tests.{on}
use Rattle.trips.specs.Stands.{Named}
use Rattle.driver.specs.Lay.{marked}
use Rattle.driver.specs.Take.{released, outstanding}
use Rattle.driver.specs.Fit.{LayFit}
use Rattle.trips.proofs.Fits.{writes-some}

-- a word before (x) and after (y) marking with v: it was left, or it was free and is v
data Mark (v x y : ℕ) : Type 0 where
  kept : y ≡ x → Mark v x y
  took : y ≡ v → x ≡ 0 → Mark v x y

pub length_marked : (ns : List ℕ) (v : ℕ) (own : List ℕ) → length (marked ns v own) ≡ length own
unfolding marked
length_marked [] v own = refl
length_marked (n ∷ ns) v own = length_marked ns v (set own n v) ∙ length-set own n v

-- one more of them: word n, which was free
mark_set : (v : ℕ) (own₀ own : List ℕ) (n : ℕ) → n < length own → get_or own₀ n 0 ≡ 0 → ((i : ℕ) → Mark v (get_or own₀ i 0) (get_or own i 0))
    → (i : ℕ) → Mark v (get_or own₀ i 0) (get_or (set own n v) i 0)
mark_set v own₀ own n l z f i = go (eqb i n) refl
  where
    go : (b : Bool) → eqb i n ≡ b → Mark v (get_or own₀ i 0) (get_or (set own n v) i 0)
    go true t = rw (eqb-true i n t) (took (get_or-set_same own n v 0 l) z)
    go false t = rw (get_or-set_other own n i v 0 (eqb-false i n t)) (f i)

marks : (v : ℕ) (own₀ : List ℕ) (ns own : List ℕ) → length own ≡ length own₀
    → ((j : ℕ) → j < length ns → (get_or ns j 0 < length own₀) × (get_or own₀ (get_or ns j 0) 0 ≡ 0)) → ((i : ℕ) → Mark v (get_or own₀ i 0) (get_or own i 0))
    → (i : ℕ) → Mark v (get_or own₀ i 0) (get_or (marked ns v own) i 0)
unfolding marked
marks v own₀ [] own e f g i = g i
marks v own₀ (n ∷ ns) own e f g i =
    let p = f 0 (omega arith) in
    marks v own₀ ns (set own n v) (length-set own n v ∙ e) (λ j h. f (suc j) (omega arith)) (mark_set v own₀ own n (omega (arith, p.0)) p.1 g) i

-- words with other numbers are left
marks-other : (v i : ℕ) (ns own : List ℕ) → ((j : ℕ) → j < length ns → get_or ns j 0 ≡ i → ⊥) → get_or (marked ns v own) i 0 ≡ get_or own i 0
unfolding marked
marks-other v i [] own f = refl
marks-other v i (n ∷ ns) own f =
    marks-other v i ns (set own n v) (λ j h. f (suc j) (omega arith)) ∙ get_or-set_other own n i v 0 (λ z. f 0 (omega arith) (sym z))

-- a word that is marked stays so
set-in : (own : List ℕ) (n v : ℕ) → get_or own n 0 ≡ v → get_or (set own n v) n 0 ≡ v
set-in [] n v h = h
set-in (o ∷ own) zero v h = refl
set-in (o ∷ own) (suc n) v h = set-in own n v h

marks_stay : (v i : ℕ) (ns own : List ℕ) → get_or own i 0 ≡ v → get_or (marked ns v own) i 0 ≡ v
unfolding marked
marks_stay v i [] own h = h
marks_stay v i (n ∷ ns) own h = marks_stay v i ns (set own n v) (go (eqb i n) refl)
  where
    go : (b : Bool) → eqb i n ≡ b → get_or (set own n v) i 0 ≡ v
    go true t = rw (eqb-true i n t) (set-in own n v (rw (eqb-true i n t) at h))
    go false t = get_or-set_other own n i v 0 (eqb-false i n t) ∙ h

marks-in : (v : ℕ) (ns own : List ℕ) (j : ℕ) → j < length ns → get_or ns j 0 < length own → get_or (marked ns v own) (get_or ns j 0) 0 ≡ v
unfolding marked
marks-in v [] own j h l = absurd (omega arith)
marks-in v (n ∷ ns) own zero h l = marks_stay v n ns (set own n v) (get_or-set_same own n v 0 l)
marks-in v (n ∷ ns) own (suc j) h l = marks-in v ns (set own n v) j (omega arith) (omega (arith, length-set own n v))

-- Giving back every word that is v, among the first n: what was marked is free again.
gives_back : (n v : ℕ) (own₀ own : List ℕ) → length own ≡ length own₀ → ((i : ℕ) → Mark v (get_or own₀ i 0) (get_or own i 0)) → ((i : ℕ) → n ≤ i → get_or own i 0 ≡ get_or own₀ i 0)
    → ((i : ℕ) → i < n → get_or own₀ i 0 ≡ v → ⊥) → released n v own ≡ own₀
unfolding released
gives_back zero v own₀ own e f g h = ext_get_or 0 own own₀ e (λ i l. g i (omega arith))
gives_back (suc n) v [] [] e f g h = refl
gives_back (suc n) v [] (o ∷ own) e f g h = absurd (omega arith)
gives_back (suc n) v (o₀ ∷ own₀) [] e f g h = absurd (omega arith)
gives_back (suc n) v (o₀ ∷ own₀) (o ∷ own) e f g h =
    let r : released n v own ≡ own₀ =
    gives_back n v own₀ own (omega arith) (λ i. f (suc i)) (λ i l. g (suc i) (omega arith)) (λ i l. h (suc i) (omega arith)) in
    rw r (ap (λ (x : ℕ). x ∷ own₀) (one (f 0) (h 0 (omega arith))))
  where
    one : Mark v o₀ o → (o₀ ≡ v → ⊥) → pick (eqb o v) 0 o ≡ o₀
    one (kept k) ne = rw (k, ne_eqb o₀ v ne)
    one (took k z) ne = rw (k, eq-eqb v v refl) (sym z)

-- a word before (x) and after (y) giving back what is v
data Back (v x y : ℕ) : Type 0 where
  freed : y ≡ 0 → x ≡ v → Back v x y
  stays : y ≡ x → (x ≡ v → ⊥) → Back v x y

released-at : (n v : ℕ) (own : List ℕ) (i : ℕ) → i < n → i < length own → Back v (get_or own i 0) (get_or (released n v own) i 0)
unfolding released
released-at zero v own i h l = absurd (omega arith)
released-at (suc n) v [] i h l = absurd (omega arith)
released-at (suc n) v (o ∷ own) zero h l = on (λ (y : ℕ). Back v o y) (eqb o v) (λ t. freed refl (eqb-true o v t)) (λ t. stays refl (eqb-false o v t))
released-at (suc n) v (o ∷ own) (suc i) h l = released-at n v own i (omega arith) (omega arith)

-- Words that are all 0 are in order ..
pub named_none : (q : ℕ) (own : List ℕ) → ((i : ℕ) → i < q → get_or own i 0 ≡ 0) → Named q own
unfolding Named
named_none q own f i v h e = absurd (omega (arith, f i h))

-- .. and stay so when descriptors are given back
pub named_back : (q : ℕ) (own : List ℕ) (id : ℕ) → q ≤ length own → Named q own → Named q (released q (1 + id) own)
unfolding Named
named_back q own id l f i v h e = one (released-at q (1 + id) own i h (omega arith))
  where
    two : (v < q) × (get_or own v 0 ≡ 1 + v) → (1 + v ≡ 1 + id → ⊥) → Back (1 + id) (get_or own v 0) (get_or (released q (1 + id) own) v 0)
        → (v < q) × (get_or (released q (1 + id) own) v 0 ≡ 1 + v)
    two p ne (freed y x) = absurd (ne (sym p.1 ∙ x))
    two p ne (stays y x) = (p.0, y ∙ p.1)

    one : Back (1 + id) (get_or own i 0) (get_or (released q (1 + id) own) i 0) → (v < q) × (get_or (released q (1 + id) own) v 0 ≡ 1 + v)
    one (freed y x) = absurd (omega arith)
    one (stays y x) =
        let p = f i v h (sym y ∙ e) in two p (λ z. x (sym y ∙ e ∙ z)) (released-at q (1 + id) own v p.0 (omega (arith, p.0)))

module _ {q : Queue} {rs : List Region} {m : ℕ} {own : List ℕ} {kind r : ℕ} {bufs : List ℕ} {reads e : ℕ} {spots nums : List ℕ} (fit : LayFit q rs m own kind r bufs reads e spots nums) where
  num-at : (j : ℕ) → j < length (part 0 e nums) → (j < e) × (get_or (part 0 e nums) j 0 ≡ get_or nums j 0)
  num-at j h =
      let l = length_part 0 e nums (omega (arith, fit.nums-long)) in
      let u : j < e = omega arith in (u, rw (zero-add j) at (get_d_part 0 e nums j u))

  -- each word after laying
  all-marks : (i : ℕ) → Mark (1 + get_or nums 0 0) (get_or own i 0) (get_or (marked (part 0 e nums) (1 + get_or nums 0 0) own) i 0)
  all-marks =
      marks (1 + get_or nums 0 0) own (part 0 e nums) own refl
      (λ j l. let p = num-at j l in
      (rw p.1 (omega (arith, fit.numbers j p.0, fit.own-long)), rw p.1 (fit.unused j p.0)))
      (λ i. kept refl)

  head-marked : get_or (marked (part 0 e nums) (1 + get_or nums 0 0) own) (get_or nums 0 0) 0 ≡ 1 + get_or nums 0 0
  head-marked =
      let l = length_part 0 e nums (omega (arith, fit.nums-long)) in
      let p = num-at 0 (omega (arith, writes-some fit)) in
      rw p.1 at (marks-in (1 + get_or nums 0 0) (part 0 e nums) own 0 (omega (arith, writes-some fit)) (omega (arith, p.1, fit.numbers 0 p.0, fit.own-long)))

  -- Once its answer was read, a request's descriptors are free again, and the driver's words are as before it was laid: if no word named its head.
  pub free-again : ((i : ℕ) → i < q.size → get_or own i 0 ≡ 1 + get_or nums 0 0 → ⊥)
      → released q.size (1 + get_or nums 0 0) (marked (part 0 e nums) (1 + get_or nums 0 0) own) ≡ own
  free-again h =
      gives_back q.size (1 + get_or nums 0 0) own (marked (part 0 e nums) (1 + get_or nums 0 0) own) (length_marked (part 0 e nums) (1 + get_or nums 0 0) own) all-marks
      (λ i l. marks-other (1 + get_or nums 0 0) i (part 0 e nums) own (λ j u z. let p = num-at j u in omega (arith, p.1, fit.numbers j p.0))) h

  -- A request that was laid is outstanding: the driver takes an answer that names its head.
  pub laid-outstanding : outstanding q.size (marked (part 0 e nums) (1 + get_or nums 0 0) own) (get_or nums 0 0) ≡ true
  unfolding outstanding
  laid-outstanding =
      rw (lt-ltb (get_or nums 0 0) q.size (fit.numbers 0 (omega (arith, writes-some fit))), head-marked) (eq-eqb (1 + get_or nums 0 0) (suc (get_or nums 0 0)) (omega arith))

  -- Laying leaves the words in order too ..
  pub named-laid : Named q.size own → Named q.size (marked (part 0 e nums) (1 + get_or nums 0 0) own)
  unfolding Named
  named-laid f i v h x = one (all-marks i)
    where
      one : Mark (1 + get_or nums 0 0) (get_or own i 0) (get_or (marked (part 0 e nums) (1 + get_or nums 0 0) own) i 0)
          → (v < q.size) × (get_or (marked (part 0 e nums) (1 + get_or nums 0 0) own) v 0 ≡ 1 + v)
      one (kept k) = two (f i v h (sym k ∙ x)) (all-marks v)
        where
          two : (v < q.size) × (get_or own v 0 ≡ 1 + v) → Mark (1 + get_or nums 0 0) (get_or own v 0) (get_or (marked (part 0 e nums) (1 + get_or nums 0 0) own) v 0)
              → (v < q.size) × (get_or (marked (part 0 e nums) (1 + get_or nums 0 0) own) v 0 ≡ 1 + v)
          two p (kept y) = (p.0, y ∙ p.1)
          two p (took y z) = absurd (omega (arith, p.1))
      one (took k z) =
          let y : v ≡ get_or nums 0 0 = omega arith in rw y (fit.numbers 0 (omega (arith, writes-some fit)), head-marked)

  -- .. and then what free-again asks for holds.
  pub named_again : Named q.size own → released q.size (1 + get_or nums 0 0) (marked (part 0 e nums) (1 + get_or nums 0 0) own) ≡ own
  unfolding Named
  named_again f =
      free-again (λ i h x. let p = f i (get_or nums 0 0) h x in omega (arith, p.1, fit.unused 0 (omega (arith, writes-some fit))))
