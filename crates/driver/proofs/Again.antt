-- What laying answers hangs on how long its private memory is, not on what that holds.
use Prim.Native.Nat.{ℕ, zero, suc, ◌+◌, ◌-◌, ◌*◌, ◌/◌, ◌≤◌, ◌<◌}
use mathlib.Core.Bool.{Bool, true, false}
use mathlib.Core.List.{List, [], ◌∷◌}
use mathlib.Core.Path.{◌≡◌, refl, sym, ◌∙◌}
use native.Mathlib.Omega.{arith}
use lib.Dec.{leb, ltb}
use lib.ListN.{get_or, length, take}
use borrow.Author.Tests.{ltb-true, ltb-false}
use Rattle.model.specs.Pick.{pick}
use Rattle.model.specs.Bytes.{put}
use Rattle.model.specs.Memory.{Region}
use Rattle.model.specs.Step.{spans}
use Rattle.model.specs.declared.Queue.{Queue}
use Rattle.model.proofs.Tests.{picked, on}
use Rattle.model.proofs.Lists.{length-put, put_in, put-below}
use Rattle.std.specs.Prelude.{Result, Ok, Err}
use Rattle.driver.specs.declared.NotLaid.{NotLaid}
use Rattle.driver.specs.declared.NotLaid.TheVariants.{Memory, Counts, Outside, Form, Overlap, TooFew}
use Rattle.driver.specs.Lay.{spot_at, is_at, place_of, in_memory, settled, spots_of, area_words, form_ok, separate, free, ready, counts_ok, plan_on, plan, Plan, planned}
use Rattle.driver.proofs.Laws.{counts-ok}
use Rattle.driver.proofs.Fits.{settled-long, spots-long}

-- the same words written at the same place
put_same : (xs xs₂ : List ℕ) (at : ℕ) (ys : List ℕ) (k : ℕ) → length xs ≡ length xs₂ → at + length ys ≤ length xs → (k < at → get_or xs k 0 ≡ get_or xs₂ k 0) → k < at + length ys
    → get_or (put xs at ys) k 0 ≡ get_or (put xs₂ at ys) k 0
put_same xs xs₂ at ys k l h f u = go (ltb k at) refl
  where
    go : (b : Bool) → ltb k at ≡ b → get_or (put xs at ys) k 0 ≡ get_or (put xs₂ at ys) k 0
    go true t =
        let v = ltb-true k at t in put-below xs at ys k v ∙ (f v ∙ sym (put-below xs₂ at ys k v))
    go false t =
        let v = ltb-false k at t in
        let z : at + (k - at) ≡ k = omega arith in
        rw z at (put_in xs at ys (k - at) (omega arith) (omega arith) ∙ sym (put_in xs₂ at ys (k - at) (omega arith) (omega arith)))

settled_same : (rs : List Region) (bufs : List ℕ) (n i : ℕ) (spots spots₂ : List ℕ) → in_memory rs bufs n i ≡ true → length spots ≡ length spots₂ → 2 * (i + n) ≤ length spots
    → (k : ℕ) → (k < 2 * i → get_or spots k 0 ≡ get_or spots₂ k 0) → k < 2 * (i + n) → get_or (settled rs bufs n i spots) k 0 ≡ get_or (settled rs bufs n i spots₂) k 0
unfolding in_memory settled
settled_same rs bufs zero i spots spots₂ t l h k f u = f (omega arith)
settled_same rs bufs (suc n) i spots spots₂ t l h k f u =
    let p = picked (is_at (spot_at rs bufs i)) (in_memory rs bufs n (suc i)) t in
    let ys : List ℕ = place_of (spot_at rs bufs i) ∷ get_or bufs (2 * i + 1) 0 ∷ [] in
    let a : length (put spots (2 * i) ys) ≡ length spots = length-put spots (2 * i) ys in
    let b : length (put spots₂ (2 * i) ys) ≡ length spots₂ = length-put spots₂ (2 * i) ys in
    rw p.0
    (settled_same rs bufs n (suc i) (put spots (2 * i) ys) (put spots₂ (2 * i) ys) p.1 (omega arith) (omega arith) k
    (λ v. put_same spots spots₂ (2 * i) ys k l (omega arith) f (omega arith)) (omega arith))

spots-same : (q : Queue) (rs : List Region) (bufs : List ℕ) (e : ℕ) (spots spots₂ : List ℕ) → in_memory rs bufs e 0 ≡ true → length spots ≡ length spots₂ → 2 * e + 6 ≤ length spots
    → (k : ℕ) → k < 2 * e + 6 → get_or (spots_of q rs bufs e spots) k 0 ≡ get_or (spots_of q rs bufs e spots₂) k 0
unfolding spots_of area_words
spots-same q rs bufs e spots spots₂ t l h k u =
    let a = settled-long rs bufs e 0 spots in
    let b = settled-long rs bufs e 0 spots₂ in
    put_same (settled rs bufs e 0 spots) (settled rs bufs e 0 spots₂) (2 * e) (area_words q) k (omega arith) (omega arith)
    (λ v. settled_same rs bufs e 0 spots spots₂ t l (omega arith) k (λ w. absurd (omega arith)) (omega arith)) (omega arith)

spans-same : (n i : ℕ) (xs ys : List ℕ) → ((k : ℕ) → k < 2 * (i + n) → get_or xs k 0 ≡ get_or ys k 0) → spans n i xs ≡ spans n i ys
unfolding spans
spans-same zero i xs ys f = refl
spans-same (suc n) i xs ys f =
    rw (f (2 * i) (omega arith), f (2 * i + 1) (omega arith), spans-same n (suc i) xs ys (λ k u. f k (omega arith)))

-- two plans by the same tests
tests_same : (a b : Bool) (x x₂ y y₂ z z₂ : Plan) → x.answer ≡ x₂.answer → y.answer ≡ y₂.answer → z.answer ≡ z₂.answer
    → (pick a (pick b x y) z).answer ≡ (pick a (pick b x₂ y₂) z₂).answer
tests_same true true x x₂ y y₂ z z₂ e f g = e
tests_same true false x x₂ y y₂ z z₂ e f g = f
tests_same false b x x₂ y y₂ z z₂ e f g = g

form-same : (kind r reads e : ℕ) (spots spots₂ : List ℕ) → reads ≤ e → ((k : ℕ) → k < 2 * e + 6 → get_or spots k 0 ≡ get_or spots₂ k 0)
    → form_ok kind r spots reads e ≡ form_ok kind r spots₂ reads e
unfolding form_ok
form-same kind r reads e spots spots₂ h f =
    rw (spans-same reads 0 spots spots₂ (λ k u. f k (omega arith)), spans-same (e - reads) reads spots spots₂ (λ k u. f k (omega arith)))

on_same : (q : ℕ) (own : List ℕ) (kind r reads e : ℕ) (spots spots₂ nums nums₂ : List ℕ) → reads ≤ e → ((k : ℕ) → k < 2 * e + 6 → get_or spots k 0 ≡ get_or spots₂ k 0)
    → (plan_on q own kind r reads e spots nums).answer ≡ (plan_on q own kind r reads e spots₂ nums₂).answer
unfolding plan_on
on_same q own kind r reads e spots spots₂ nums nums₂ h f =
    let c : Result Unit NotLaid = pick (leb e (length (free q own))) (Ok tt) (Err TooFew) in
    let ns : List ℕ = take e (free q own) in
    rw (form-same kind r reads e spots spots₂ h f, spans-same (e + 3) 0 spots spots₂ (λ k u. f k (omega arith)))
    (tests_same (form_ok kind r spots₂ reads e) (separate (spans (e + 3) 0 spots₂)) (planned c spots (put nums 0 ns)) (planned c spots₂ (put nums₂ 0 ns)) (planned (Err Overlap) spots nums)
    (planned (Err Overlap) spots₂ nums₂) (planned (Err Form) spots nums) (planned (Err Form) spots₂ nums₂) refl refl refl)

-- Laying answers the same with other private memory of the same lengths.
pub plan-again : (q : Queue) (rs : List Region) (m : ℕ) (own : List ℕ) (kind r : ℕ) (bufs : List ℕ) (reads : ℕ) (spots nums spots₂ nums₂ : List ℕ)
    → length spots ≡ length spots₂ → length nums ≡ length nums₂
    → (plan q rs m own kind r bufs reads spots nums).answer ≡ (plan q rs m own kind r bufs reads spots₂ nums₂).answer
unfolding plan
plan-again q rs m own kind r bufs reads spots nums spots₂ nums₂ ls ln =
    rw (← ls, ← ln)
    (go (ready q rs m (length own)) (counts_ok q.size (length bufs) reads (length spots) (length nums)) refl (in_memory rs bufs (length bufs / 2) 0) refl)
  where
    go : (a b : Bool) → counts_ok q.size (length bufs) reads (length spots) (length nums) ≡ b → (t : Bool) → in_memory rs bufs (length bufs / 2) 0 ≡ t
        → (pick a
        (pick b
        (pick t (plan_on q.size own kind r reads (length bufs / 2) (spots_of q rs bufs (length bufs / 2) spots) nums) (planned (Err Outside) (settled rs bufs (length bufs / 2) 0 spots) nums))
        (planned (Err Counts) spots nums))
        (planned (Err Memory) spots nums)).answer
        ≡ (pick a
        (pick b
        (pick t (plan_on q.size own kind r reads (length bufs / 2) (spots_of q rs bufs (length bufs / 2) spots₂) nums₂) (planned (Err Outside) (settled rs bufs (length bufs / 2) 0 spots₂) nums₂))
        (planned (Err Counts) spots₂ nums₂))
        (planned (Err Memory) spots₂ nums₂)).answer
    go true true x true y =
        let k = counts-ok q.size (length bufs) reads (length spots) (length nums) x in
        on_same q.size own kind r reads (length bufs / 2) (spots_of q rs bufs (length bufs / 2) spots) (spots_of q rs bufs (length bufs / 2) spots₂) nums nums₂ k.reads_in
        (spots-same q rs bufs (length bufs / 2) spots spots₂ y ls k.spots-long)
    go true true x false y = refl
    go true false x t y = refl
    go false b x t y = refl

-- .. and leaves it as long as it was
pub plan-long : (q : Queue) (rs : List Region) (m : ℕ) (own : List ℕ) (kind r : ℕ) (bufs : List ℕ) (reads : ℕ) (spots nums : List ℕ)
    → (length (plan q rs m own kind r bufs reads spots nums).spots ≡ length spots) × (length (plan q rs m own kind r bufs reads spots nums).nums ≡ length nums)
unfolding plan plan_on
plan-long q rs m own kind r bufs reads spots nums =
    let e = length bufs / 2 in
    let P : Plan → Type 0 = λ p. (length p.spots ≡ length spots) × (length p.nums ≡ length nums) in
    let l = spots-long q rs bufs e spots in
    on P (ready q rs m (length own))
    (λ a. on P (counts_ok q.size (length bufs) reads (length spots) (length nums))
    (λ b. on P (in_memory rs bufs e 0)
    (λ t. on P (form_ok kind r (spots_of q rs bufs e spots) reads e)
    (λ f. on P (separate (spans (e + 3) 0 (spots_of q rs bufs e spots))) (λ s. (l, length-put nums 0 (take e (free q.size own)))) (λ s. (l, refl)))
    (λ f. (l, refl)))
    (λ t. (settled-long rs bufs e 0 spots, refl)))
    (λ b. (refl, refl)))
    (λ a. (refl, refl))
