-- Where a chain was refused (DEV-12).
use Rattle.std.specs.Prelude.{ℕ, zero, suc, ◌+◌, ◌-◌, ◌≤◌, ◌≡◌, length}
use Rattle.model.specs.Ring.{elsewhere}
use Rattle.requests.specs.Serve.{Seen, Followed, broke, whole, Outcome, idle, breaks, serves}

-- the number, in its table, of the chain's j-th descriptor (from 0 on): the head, then the next of the one before
unfoldable pub number_at : Seen → ℕ → ℕ → ℕ
number_at v head zero = head
number_at v head (suc j) = (v.desc j (number_at v head j)).next

-- "the number of the descriptor at which it stopped and how many it had fetched": it stopped at the last one that it fetched
unfoldable pub Numbered : ℕ → Seen → ℕ → Followed → Type 0
Numbered q v head (broke reason fetched at) = (1 ≤ fetched) × (fetched ≤ suc q) × (at ≡ number_at v head (fetched - 1))
Numbered q v head (whole rs ws last) = (1 ≤ length rs + length ws) × (length rs + length ws ≤ q) × (last ≡ number_at v head (length rs + length ws - 1))

-- .. of the next available entry: "65,536 where the queue .. broke elsewhere"
pub data Where (v : Seen) (head fetched at : ℕ) : Type 0 where
  beyond : fetched ≡ 0 → at ≡ elsewhere → Where v head fetched at
  within : 1 ≤ fetched → at ≡ number_at v head (fetched - 1) → Where v head fetched at

unfoldable pub Told : ℕ → Seen → Outcome → Type 0
Told q v idle = Unit {0}
Told q v (breaks reason head fetched at) = Where v head fetched at
Told q v (serves writes idx after head len descs) = (1 ≤ descs) × (descs ≤ q)
