-- The edges of 01 §1 as theorems: each is the definitions, computed. The program `vectors` runs the same edges through the code.
use Prim.Native.Nat.{ℕ, zero, suc, ◌-◌, ◌^◌}
use mathlib.Core.Bool.{true, false}
use mathlib.Core.Path.{◌≡◌, refl}
use mathlib.Core.List.{List, [], ◌∷◌}
use Rattle.model.specs.Bytes.{put, word, bytes}
use Rattle.model.specs.Memory.{regions, region_code, overlap, clash, regions_code, memory_code, contains, locate}
use Rattle.model.specs.Ring.{among, queue_size_ok}
use Rattle.std.specs.Prelude.{Some, None}

-- the region of 01 §6: guest 0x80000000, 65,536 bytes, at the slice's start
abbrev one : List ℕ
one = 2147483648 ∷ 65536 ∷ 0 ∷ []

-- two regions that adjoin, in the slice too: addresses 4096 to 8191 at 0, and 8192 to 12287 at 4096
abbrev two : List ℕ
two = 4096 ∷ 4096 ∷ 0 ∷ 8192 ∷ 4096 ∷ 4096 ∷ []

-- n regions of one byte each, no two at one address, all at the slice's start
abbrev single : ℕ → List ℕ
single zero = []
single (suc n) = n ∷ 1 ∷ 0 ∷ single n

-- a + n is 2^64 + 512; a sum that wrapped would be 512
pub no-sum-wraps : locate (regions one) (2 ^ 64 - 1) 513 ≡ None
unfolding regions contains locate
no-sum-wraps = refl

-- 01 §6, buffers of 513 bytes: at 0x8000fdff one ends at the region's last byte; at 0x8000fe00 it ends one byte later
pub last_byte : (locate (regions one) 2147548671 513 ≡ Some 65023) × (locate (regions one) 2147548672 513 ≡ None)
unfolding regions contains locate
last_byte = (refl, refl)

-- the region's first byte, and one byte before it
pub first_byte : (locate (regions one) 2147483648 1 ≡ Some 0) × (locate (regions one) 2147483647 513 ≡ None)
unfolding regions contains locate
first_byte = (refl, refl)

-- all of the region, and a length that no region has
pub whole-region : (locate (regions one) 2147483648 65536 ≡ Some 0) × (locate (regions one) 2147483648 (2 ^ 32 - 1) ≡ None)
unfolding regions contains locate
whole-region = (refl, refl)

-- a range of no bytes is nowhere, even at an address in memory
pub no_bytes : locate (regions one) 2147483648 0 ≡ None
unfolding regions contains locate
no_bytes = refl

-- 400 bytes from 8000 on span two adjoining regions; each half by itself is in memory
pub spans-two : (locate (regions two) 8000 400 ≡ None) × (locate (regions two) 8000 192 ≡ Some 3904) × (locate (regions two) 8192 208 ≡ Some 4096)
unfolding regions contains locate
spans-two = (refl, refl, refl)

-- g + len = 2^64 - 1 is allowed, and 2^64 is not
pub top-of-addresses : (memory_code 16 ((2 ^ 64 - 17) ∷ 16 ∷ 0 ∷ []) ≡ 0) × (memory_code 16 ((2 ^ 64 - 16) ∷ 16 ∷ 0 ∷ []) ≡ 23)
unfolding regions region_code clash regions_code memory_code
top-of-addresses = (refl, refl)

-- a region that ends with the slice is allowed; in a slice of one byte less, or one place later, it leaves the slice
pub leaves-slice : (memory_code 65536 one ≡ 0) × (memory_code 65535 one ≡ 22) × (memory_code 65536 (2147483648 ∷ 65536 ∷ 1 ∷ []) ≡ 22)
unfolding regions region_code clash regions_code memory_code
leaves-slice = (refl, refl, refl)

-- an empty region, wherever it is
pub empty-region : memory_code 65536 (2147483648 ∷ 0 ∷ 70000 ∷ []) ≡ 21
unfolding regions region_code clash regions_code memory_code
empty-region = refl

-- a region that leaves the slice and the addresses both: 22 is tested first
pub slice-before-addresses : memory_code 65536 ((2 ^ 64 - 1) ∷ 65537 ∷ 0 ∷ []) ≡ 22
unfolding regions region_code clash regions_code memory_code
slice-before-addresses = refl

-- regions are taken in order: the first region's 23 comes before the second one's 21
pub regions-in-order : memory_code 16 ((2 ^ 64 - 1) ∷ 16 ∷ 0 ∷ 0 ∷ 0 ∷ 0 ∷ []) ≡ 23
unfolding regions region_code clash regions_code memory_code
regions-in-order = refl

-- two regions that touch are allowed; with one address in common the second is refused, whichever comes first
pub touch-or-overlap :
    (memory_code 8192 two ≡ 0) × (memory_code 8192 (4096 ∷ 4096 ∷ 0 ∷ 8191 ∷ 4096 ∷ 4096 ∷ []) ≡ 24)
    × (memory_code 8192 (8191 ∷ 4096 ∷ 0 ∷ 4096 ∷ 4096 ∷ 4096 ∷ []) ≡ 24)
unfolding regions region_code overlap clash regions_code memory_code
touch-or-overlap = (refl, refl, refl)

-- two regions share all their slice bytes
pub shared-slice-bytes : memory_code 4096 (4096 ∷ 4096 ∷ 0 ∷ 16384 ∷ 4096 ∷ 0 ∷ []) ≡ 0
unfolding regions region_code overlap clash regions_code memory_code
shared-slice-bytes = refl

-- 0 regions and 33 are refused, 32 are not; nor are four words any number of regions
pub one-to-most :
    (memory_code 1 (single 0) ≡ 20) × (memory_code 1 (single 32) ≡ 0) × (memory_code 1 (single 33) ≡ 20) × (memory_code 1 (0 ∷ 1 ∷ 0 ∷ 1 ∷ []) ≡ 20)
unfolding regions region_code overlap clash regions_code memory_code
one-to-most = (refl, refl, refl, refl)

-- queues of 1, 512 and 1,024 are allowed; none of 0, 3, 1,023 or 2,048
pub sizes-are :
    (queue_size_ok 1 ≡ true) × (queue_size_ok 512 ≡ true) × (queue_size_ok 1024 ≡ true) × (queue_size_ok 0 ≡ false) × (queue_size_ok 3 ≡ false) × (queue_size_ok 1023 ≡ false)
    × (queue_size_ok 2048 ≡ false)
unfolding among queue_size_ok
sizes-are = (refl, refl, refl, refl, refl, refl, refl)

-- lowest byte first, both ways: 0x01020304 and 04 03 02 01
pub lowest-first : (bytes 4 16909060 ≡ 4 ∷ 3 ∷ 2 ∷ 1 ∷ []) × (word 4 1 (9 ∷ 4 ∷ 3 ∷ 2 ∷ 1 ∷ 9 ∷ []) ≡ 16909060)
unfolding word bytes
lowest-first = (refl, refl)

-- the largest number of 64 bits, and the next one, of which 8 bytes keep nothing
pub largest-word : (word 8 0 (bytes 8 (2 ^ 64 - 1)) ≡ 2 ^ 64 - 1) × (word 8 0 (bytes 8 (2 ^ 64)) ≡ 0)
unfolding word bytes
largest-word = (refl, refl)

-- what would leave the memory is dropped: its length stays
pub put-at-the-end : put (1 ∷ 2 ∷ 3 ∷ []) 2 (8 ∷ 9 ∷ []) ≡ 1 ∷ 2 ∷ 8 ∷ []
unfolding put
put-at-the-end = refl
