-- The table of 03 §3 in words of its own: which form of a request is accepted, and as what.
use Rattle.std.specs.Prelude.{ℕ, ◌-◌, ◌/◌, ◌%◌, ◌≤◌, ◌≡◌}
use Rattle.model.specs.declared.Disk.{Disk}
use Rattle.model.specs.declared.Job.{Job}
use Rattle.model.specs.declared.Job.TheVariants.{Done, Read, Write, Identity}

-- "n fits if n is a multiple of 512, at most 1,048,576, sector <= c and n / 512 <= c - sector."
pub record Fit (n sector c : ℕ) : Type 0 where
  pub whole : n % 512 ≡ 0
  pub short : n ≤ 1048576
  pub from : sector ≤ c
  pub upto : n / 512 ≤ c - sector

-- IN, OUT, FLUSH, GET_ID, of r readable and w writable bytes; "any request with r < 16 has status 1"
pub data Accepted (d : Disk) (type sector r w : ℕ) : Job → Type 0 where
  reads : type ≡ 0 → r ≡ 16 → Fit (w - 1) sector d.sectors → Accepted d type sector r w (Read sector)
  writes : type ≡ 1 → 16 ≤ r → w ≡ 1 → Fit (r - 16) sector d.sectors → d.ro ≡ 0 → Accepted d type sector r w (Write sector)
  flushes : type ≡ 4 → r ≡ 16 → w ≡ 1 → Accepted d type sector r w Done
  tells : type ≡ 8 → r ≡ 16 → w ≡ 21 → Accepted d type sector r w Identity

-- "other: 2 (unsupported)"
pub record Other (type r : ℕ) : Type 0 where
  pub headed : 16 ≤ r
  pub not_in : type ≡ 0 → ⊥
  pub not-out : type ≡ 1 → ⊥
  pub not-flush : type ≡ 4 → ⊥
  pub not-id : type ≡ 8 → ⊥
