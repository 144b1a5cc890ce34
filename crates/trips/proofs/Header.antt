-- The header that the driver puts before a request's data is the one that the device reads, and the data stay.
use Prim.Native.Nat.{ℕ, ◌^◌, ◌≤◌, ◌<◌}
use native.Mathlib.Omega.{arith}
use mathlib.Core.Path.{◌≡◌, ◌∙◌}
use mathlib.Core.List.{List, ◌++◌}
use lib.ListN.{length, drop, length-append}
use Rattle.model.specs.Bytes.{put, word, bytes}
use Rattle.model.proofs.Words.{length-bytes, word-put}
use Rattle.model.proofs.Lists.{length-put}
use Rattle.driver.specs.Lay.{header}
use Rattle.trips.proofs.Lists.{put-after, word-front, drop_past}

pub length-header : (kind sector : ℕ) → length (header kind sector) ≡ 16
unfolding header
length-header kind sector = simp (length-append, length-bytes)

-- the type of the request ..
pub header-kind : (kind sector : ℕ) (message : List ℕ) → kind < 2 ^ 32 → 16 ≤ length message → word 4 0 (put message 0 (header kind sector)) ≡ kind
unfolding header
header-kind kind sector message h l = word-front 4 0 kind message (bytes 4 0 ++ bytes 8 sector) (omega arith) (omega arith)

-- .. its sector ..
pub header-sector : (kind sector : ℕ) (message : List ℕ) → sector < 2 ^ 64 → 16 ≤ length message → word 8 8 (put message 0 (header kind sector)) ≡ sector
unfolding header
header-sector kind sector message h l =
    let m₁ : List ℕ = put message 0 (bytes 4 kind) in
    let m₂ : List ℕ = put m₁ 4 (bytes 4 0) in
    let n₁ : length m₁ ≡ length message = length-put message 0 (bytes 4 kind) in
    let n₂ : length m₂ ≡ length message = length-put m₁ 4 (bytes 4 0) ∙ n₁ in
    let p : put message 0 (bytes 4 kind ++ (bytes 4 0 ++ bytes 8 sector)) ≡ put m₁ 4 (bytes 4 0 ++ bytes 8 sector) = put-after message 0 4 kind (bytes 4 0 ++ bytes 8 sector) in
    let q : put m₁ 4 (bytes 4 0 ++ bytes 8 sector) ≡ put m₂ 8 (bytes 8 sector) = put-after m₁ 4 4 0 (bytes 8 sector) in
    rw (p, q) (word-put 8 8 sector m₂ (omega arith) (omega arith))

-- .. and its data
pub header-data : (kind sector : ℕ) (message : List ℕ) → drop 16 (put message 0 (header kind sector)) ≡ drop 16 message
header-data kind sector message = drop_past message 16 (header kind sector) (omega (arith, length-header kind sector))
