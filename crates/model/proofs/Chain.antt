-- What a descriptor's tests tell, and what it adds to its chain.
use Prim.Native.Nat.{ℕ, ◌+◌, ◌≤◌}
use mathlib.Core.Bool.{Bool, true, false}
use mathlib.Core.Path.{◌≡◌, refl}
use native.Mathlib.Omega.{arith}
use lib.Dec.{leb, ltb}
use Rattle.model.specs.Pick.{pick}
use Rattle.model.specs.Chain.{tested_by, tally, complete, described, descs_after}
use Rattle.model.proofs.Tests.{on}
use Rattle.std.specs.Prelude.{Option, Some, None}
use Rattle.model.specs.declared.Desc.{Desc}
use Rattle.model.specs.declared.Walk.{Walk}
use Rattle.model.specs.declared.Job.TheVariants.{Failed}
use Rattle.model.specs.declared.Phase.TheVariants.{Chain, Header, Answer, Broken}
use Rattle.model.specs.declared.Tested.{Tested}
use Rattle.model.specs.declared.Tested.TheVariants.{Bad, Next, Last}

-- a descriptor that is held is not one too many
pub next-room : (a s e : Bool) (f : Option ℕ) (l n g : Bool) (x : ℕ) → tested_by a s e f l n g ≡ Next x → a ≡ false
unfolding tested_by
next-room true s e f l n g x h = let z : ◌≡◌ {A = ℕ} 0 1 = cc in absurd (omega arith)
next-room false s e f l n g x h = refl

pub last-room : (a s e : Bool) (f : Option ℕ) (l n g : Bool) (x : ℕ) → tested_by a s e f l n g ≡ Last x → a ≡ false
unfolding tested_by
last-room true s e f l n g x h = let z : ◌≡◌ {A = ℕ} 0 1 = cc in absurd (omega arith)
last-room false s e f l n g x h = refl

-- a refused one has a reason from 2 to 7; 8 is a whole chain's
pub bad-reason : (a s e : Bool) (f : Option ℕ) (l n g : Bool) (r : ℕ) → tested_by a s e f l n g ≡ Bad r → (1 ≤ r) × (r ≤ 7)
unfolding tested_by
bad-reason true s e f l n g r h = let z : ◌≡◌ {A = ℕ} r 3 = cc in omega arith
bad-reason false true e f l n g r h = let z : ◌≡◌ {A = ℕ} r 4 = cc in omega arith
bad-reason false false true f l n g r h = let z : ◌≡◌ {A = ℕ} r 5 = cc in omega arith
bad-reason false false false None l n g r h = let z : ◌≡◌ {A = ℕ} r 6 = cc in omega arith
bad-reason false false false (Some y) true n g r h = let z : ◌≡◌ {A = ℕ} r 7 = cc in omega arith
bad-reason false false false (Some y) false true g r h = let z : ◌≡◌ {A = ℕ} 0 1 = cc in absurd (omega arith)
bad-reason false false false (Some y) false false true r h = let z : ◌≡◌ {A = ℕ} r 2 = cc in omega arith
bad-reason false false false (Some y) false false false r h = let z : ◌≡◌ {A = ℕ} 0 1 = cc in absurd (omega arith)

-- a descriptor more, and the same head
pub tally-same : (k : Walk) (flags len : ℕ) → ((tally k flags len).head ≡ k.head) × ((tally k flags len).count ≡ k.count + 1)
unfolding tally
tally-same k flags len =
    on (λ (x : Walk). (x.head ≡ k.head) × (x.count ≡ k.count + 1)) (ltb flags 2) (λ e. (refl, refl)) (λ e. (refl, refl))

-- a chain that goes on is not complete
complete-ends : (k : Walk) (cur : ℕ) (j : Walk) (n : ℕ) → complete k cur ≡ Chain j n → ⊥
unfolding complete
complete-ends k cur j n = go (leb k.count k.reads) (ltb k.r 16)
  where
    go : (a b : Bool) → pick a (Broken 8 k.head k.count cur) (pick b (Answer k Failed 0) (Header k (record { buf = 0; skip = 0 }) 0)) ≡ Chain j n → ⊥
    go true b e = let z : ◌≡◌ {A = ℕ} 0 1 = cc in omega arith
    go false true e = let z : ◌≡◌ {A = ℕ} 0 1 = cc in omega arith
    go false false e = let z : ◌≡◌ {A = ℕ} 0 1 = cc in omega arith

pub chain-on : (n : ℕ) (k : Walk) (cur : ℕ) (d : Desc) (t : Tested) (j : Walk) (m : ℕ) → described k cur d t ≡ Chain j m → descs_after n k t ≡ n
unfolding described descs_after
chain-on n k cur d (Bad r) j m e = refl
chain-on n k cur d (Next x) j m e = refl
chain-on n k cur d (Last x) j m e = absurd (complete-ends (tally k d.flags d.len) cur j m e)
