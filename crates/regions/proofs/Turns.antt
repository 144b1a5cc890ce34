-- A copying loop's turns, as rules: whatever the loop's numbers are called, only what they are counts.
use Prim.Native.Nat.{ℕ, ◌+◌, ◌<◌}
use mathlib.Core.Path.{◌≡◌}
use mathlib.Core.List.{List}
use lib.ListN.{length, get_or, set}
use native.Mathlib.Omega.{arith}
use native.Mathlib.Nat.{zero-add}
use native.Mathlib.Numerals.{add-one}
use Rattle.model.specs.Bytes.{put, part}
use Rattle.model.proofs.Lists.{put-nil, put_copy, part-zero}

-- before the first turn
pub none : (m ws : List ℕ) (k : ℕ) → m ≡ put m k (part 0 0 ws)
none m ws k = simp (part-zero, put-nil)

-- a turn
pub more : (h m ws : List ℕ) (k j i v n : ℕ) → h ≡ put m k (part 0 j ws) → j < length ws → i ≡ k + j → v ≡ get_or ws j 0 → n ≡ j + 1 → set h i v ≡ put m k (part 0 n ws)
more h m ws k j i v n e l a b c = rw (a, b, c, e, add-one) (rw zero-add at (put_copy m k ws 0 j (omega arith)))

pub ruleset keeps = (arith, none, more)
