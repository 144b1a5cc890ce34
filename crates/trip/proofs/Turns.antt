-- The turns of a loop that calls hd_step until it answers something else than 1.
use Prim.Native.Nat.{ℕ, suc, ◌+◌, ◌-◌, ◌<◌}
use native.Mathlib.Omega.{arith}
use mathlib.Core.List.{List}
use mathlib.Core.Path.{◌≡◌, refl}
use borrow.Author.Tests.{eq-eqb, ne_eqb}
use Rattle.hostiledisk.specs.Calls.{Called, hd_step, untouched, StepIs}
use Rattle.trip.specs.Until.{called, until}

is-step : (o : Called) (r : ℕ) (s mem backing chain stage : List ℕ) → StepIs o r s mem backing chain stage → untouched r s mem backing chain stage ≡ o
is-step o r s mem backing chain stage x = rw (x.code_is, x.state-is, x.mem_is, x.backing-is, x.chain-is, x.stage_is)

pub until-turn : (k : ℕ) (o : Called) → (called o).code ≡ 1 → until (suc k) o ≡ until k (called o)
unfolding until
until-turn k o e = rw (eq-eqb (called o).code 1 e)

pub until-last : (k : ℕ) (o : Called) → ((called o).code ≡ 1 → ⊥) → until (suc k) o ≡ called o
unfolding until
until-last k o e = rw (ne_eqb (called o).code 1 e)

-- the loop: a call that answers 1 leaves the rest to do ..
pub goes_on : (n i : ℕ) (s mem backing chain stage : List ℕ) (r : ℕ) (s₂ mem₂ backing₂ chain₂ stage₂ : List ℕ) → i < n
    → StepIs (hd_step s mem backing chain stage) r s₂ mem₂ backing₂ chain₂ stage₂ → r ≡ 1
    → until (n - i) (untouched 1 s mem backing chain stage) ≡ until (n - (i + 1)) (untouched 1 s₂ mem₂ backing₂ chain₂ stage₂)
goes_on n i s mem backing chain stage r s₂ mem₂ backing₂ chain₂ stage₂ h x e =
    let o : Called = untouched 1 s mem backing chain stage in
    let k : n - i ≡ suc (n - (i + 1)) = omega arith in
    let u : (called o).code ≡ 1 = cc x.code_is in
    rw (k, until-turn (n - (i + 1)) o u, ← is-step (called o) r s₂ mem₂ backing₂ chain₂ stage₂ x, e)

-- .. and any other is the last
pub stops : (n i : ℕ) (s mem backing chain stage : List ℕ) (r : ℕ) (s₂ mem₂ backing₂ chain₂ stage₂ : List ℕ) → i < n
    → StepIs (hd_step s mem backing chain stage) r s₂ mem₂ backing₂ chain₂ stage₂ → (r ≡ 1 → ⊥)
    → StepIs (until (n - i) (untouched 1 s mem backing chain stage)) r s₂ mem₂ backing₂ chain₂ stage₂
stops n i s mem backing chain stage r s₂ mem₂ backing₂ chain₂ stage₂ h x e =
    let o : Called = untouched 1 s mem backing chain stage in
    let k : n - i ≡ suc (n - (i + 1)) = omega arith in
    rw (k, until-last (n - (i + 1)) o (λ u. e (cc x.code_is))) x

-- no call is left
pub all_made : (n i : ℕ) (s mem backing chain stage : List ℕ) → n - i ≡ 0
    → StepIs (until (n - i) (untouched 1 s mem backing chain stage)) 1 s mem backing chain stage
unfolding until
all_made n i s mem backing chain stage h =
    rw h (record { code_is = refl; state-is = refl; mem_is = refl; backing-is = refl; chain-is = refl; stage_is = refl })
