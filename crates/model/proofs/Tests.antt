-- Going through the tests of a table: which lemmas turn a test into a fact and back, and how a choice is split.
use mathlib.Core.Bool.{Bool, true, false}
use mathlib.Core.Path.{◌≡◌, refl}
use Prim.Native.Nat.{ℕ, ◌<◌}
use native.Mathlib.Omega.{arith}
use borrow.Author.Tests.{ltb-true, ltb-false, leb-true, leb-false, eqb-true, eqb-false, lt-ltb, le-ltb, le-leb, lt-leb, eq-eqb, ne_eqb}
use Rattle.model.specs.Pick.{pick, both}

-- for `search`: the value of each test from what the code's own tests say
pub ruleset tests = (le-leb, lt-leb, le-ltb, lt-ltb, eq-eqb, ne_eqb)

-- for `omega`: what each test in scope says
pub ruleset told = (arith, ltb-true, ltb-false, leb-true, leb-false, eqb-true, eqb-false)

-- what holds of both branches, each under its test, holds of the choice
pub on : {A : Type 0} (P : A → Type 0) (b : Bool) {x y : A} → (b ≡ true → P x) → (b ≡ false → P y) → P (pick b x y)
on P true f g = f refl
on P false f g = g refl

pub both_l : (a b : Bool) → both a b ≡ true → a ≡ true
both_l true b e = refl
both_l false b e = e

pub both_r : (a b : Bool) → both a b ≡ true → b ≡ true
both_r true b e = e
both_r false b e = let z : ◌≡◌ {A = Bool} true false = cc in cc

-- a refusal that was not answered: its test failed, and the rest answered 0
pub passed : (b : Bool) (x : ℕ) {y : ℕ} → pick b x y ≡ 0 → 0 < x → (b ≡ false) × (y ≡ 0)
passed true x e h = absurd (omega arith)
passed false x e h = (refl, e)

pub both-split : (a b : Bool) → both a b ≡ true → (a ≡ true) × (b ≡ true)
both-split a b e = (both_l a b e, both_r a b e)

pub picked : (a b : Bool) → pick a b false ≡ true → (a ≡ true) × (b ≡ true)
picked true b e = (refl, e)
picked false b e = (e, let z : ◌≡◌ {A = Bool} true false = cc in cc)
