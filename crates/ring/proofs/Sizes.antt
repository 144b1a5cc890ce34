-- The sizes are the powers of two up to the largest of them: seen for each number up to it.
use Rattle.std.proofs.Common.{◌≡◌, ℕ, ◌+◌, ◌≤◌, ◌<◌, Bool, true, false, refl, zero, suc, arith, subst, sym, ap, ◌∙◌, leb, List, [], ◌∷◌}
use Rattle.std.specs.Prelude.{◌==◌, count_ones}
use Rattle.model.specs.Pick.{both, either}
use Rattle.model.specs.Ring.{queue_size_ok, sizes, among}
use Rattle.model.proofs.Tests.{both_l, both_r, tests}
use borrow.Author.Tests.{leb-true, leb-false, ne_eqb}

same : Bool → Bool → Bool
same true b = b
same false true = false
same false false = true

same-is : (a b : Bool) → same a b ≡ true → a ≡ b
unfolding same
same-is true b e = cc
same-is false true e = cc
same-is false false e = refl

agree : ℕ → Bool
agree zero = same (count_ones 0 == 1) (queue_size_ok 0)
agree (suc n) = both (same (count_ones (suc n) == 1) (queue_size_ok (suc n))) (agree n)

agreed : agree 1024 ≡ true
unfolding agree same queue_size_ok among lib.Count.ones
agreed = refl

sizes-to : (n q : ℕ) → q ≤ n → agree n ≡ true → (count_ones q == 1) ≡ queue_size_ok q
unfolding agree
sizes-to zero q h e = let z : 0 ≡ q = omega arith in subst (λ m. (count_ones m == 1) ≡ queue_size_ok m) z (same-is _ _ e)
sizes-to (suc n) q h e = go (leb q n) refl (λ l. sizes-to n q l (both_r _ _ e))
  where
    go : (b : Bool) → leb q n ≡ b → (q ≤ n → (count_ones q == 1) ≡ queue_size_ok q) → (count_ones q == 1) ≡ queue_size_ok q
    go true t k = k (leb-true q n t)
    go false t k = let z : suc n ≡ q = omega (arith, leb-false q n t) in subst (λ m. (count_ones m == 1) ≡ queue_size_ok m) z (same-is _ _ (both_l _ _ e))

pub power_size : (q : ℕ) → q ≤ 1024 → (count_ones q == 1) ≡ queue_size_ok q
power_size q h = sizes-to 1024 q h agreed

-- none of the list is larger than m
up_to : ℕ → List ℕ → Bool
up_to m [] = true
up_to m (n ∷ ns) = both (leb n m) (up_to m ns)

none-among : (q m : ℕ) (ns : List ℕ) → m < q → up_to m ns ≡ true → among q ns ≡ false
unfolding up_to among
none-among q m [] h e = refl
none-among q m (n ∷ ns) h e =
    ap (λ b. either b (among q ns)) (ne_eqb q n (let l = leb-true n m (both_l _ _ e) in λ z. omega (arith, h, l, z))) ∙ none-among q m ns h (both_r _ _ e)

pub no_size : (q : ℕ) → 1024 < q → false ≡ queue_size_ok q
unfolding queue_size_ok up_to
no_size q h = sym (none-among q 1024 sizes h refl)

pub ruleset powers = (arith, tests, power_size, no_size)
