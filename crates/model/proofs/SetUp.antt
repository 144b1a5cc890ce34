-- Each refusal has a number of its own, and none is 0: so an answer says which it is, or that nothing was refused.
use Prim.Native.Nat.{ℕ}
use mathlib.Core.Bool.{true}
use mathlib.Core.Path.{◌≡◌, refl, sym, ap, ◌∙◌}
use native.Mathlib.Omega.{arith}
use lib.Dec.{leb, eqb}
use borrow.Author.Tests.{leb-true, ne_eqb}
use Rattle.std.specs.Prelude.{not, Result, Ok, Err, is_err}
use Rattle.model.specs.Pick.{pick}
use Rattle.model.proofs.Tests.{tests}
use Rattle.model.specs.SetUp.{number, answer_of}
use Rattle.model.specs.declared.Refusal.{Refusal}
use Rattle.model.specs.declared.Refusal.TheVariants.{RegionCount, EmptyRegion, LeavesSlice, LeavesAddresses, RegionsOverlap, QueueSize, Misaligned, NotInMemory, Entangled, Capacity, LeavesBacking, ChainMemory, StagingMemory, StartCount}

-- the refusal that a number names
named : ℕ → Refusal
named n =
    pick (eqb n 20) RegionCount
    (pick (eqb n 21) EmptyRegion
    (pick (eqb n 22) LeavesSlice
    (pick (eqb n 23) LeavesAddresses
    (pick (eqb n 24) RegionsOverlap
    (pick (eqb n 25) QueueSize
    (pick (eqb n 26) Misaligned
    (pick (eqb n 27) NotInMemory
    (pick (eqb n 28) Entangled
    (pick (eqb n 29) Capacity
    (pick (eqb n 30) LeavesBacking
    (pick (eqb n 42) ChainMemory (pick (eqb n 43) StagingMemory StartCount))))))))))))

named-number : (e : Refusal) → named (number e) ≡ e
unfolding named
named-number RegionCount = refl
named-number EmptyRegion = refl
named-number LeavesSlice = refl
named-number LeavesAddresses = refl
named-number RegionsOverlap = refl
named-number QueueSize = refl
named-number Misaligned = refl
named-number NotInMemory = refl
named-number Entangled = refl
named-number Capacity = refl
named-number LeavesBacking = refl
named-number ChainMemory = refl
named-number StagingMemory = refl
named-number StartCount = refl

pub number-injective : (a b : Refusal) → number a ≡ number b → a ≡ b
number-injective a b e = sym (named-number a) ∙ ap named e ∙ named-number b

from-twenty : (e : Refusal) → leb 20 (number e) ≡ true
from-twenty RegionCount = refl
from-twenty EmptyRegion = refl
from-twenty LeavesSlice = refl
from-twenty LeavesAddresses = refl
from-twenty RegionsOverlap = refl
from-twenty QueueSize = refl
from-twenty Misaligned = refl
from-twenty NotInMemory = refl
from-twenty Entangled = refl
from-twenty Capacity = refl
from-twenty LeavesBacking = refl
from-twenty ChainMemory = refl
from-twenty StagingMemory = refl
from-twenty StartCount = refl

pub number-some : (e : Refusal) → number e ≡ 0 → ⊥
number-some e z = let h = leb-true 20 (number e) (from-twenty e) in omega arith

-- two answers that are one number are one refusal
pub answer-injective : {A : Type 0} (x : Result A Refusal) (e : Refusal) → answer_of x ≡ number e → x ≡ Err e
answer-injective (Ok a) e h = absurd (number-some e (sym h))
answer-injective (Err d) e h = ap (λ (r : Refusal). Err r) (number-injective d e h)

-- the answer's test for 0 is the test that nothing was refused
pub answer-err : {A : Type 0} (x : Result A Refusal) → eqb (answer_of x) 0 ≡ not (is_err x)
answer-err (Ok a) = refl
answer-err (Err e) = ne_eqb (number e) 0 (number-some e)

-- what a function's tests say, and what an answer in numbers says of what was refused
pub ruleset refusals = (tests, number-some, answer-err)
