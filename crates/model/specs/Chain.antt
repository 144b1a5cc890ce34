-- The chain (01 §3): a descriptor's tests in their order, what is held of a chain, and S3.
use Rattle.std.specs.Prelude.{ℕ, ◌+◌, ◌*◌, ◌%◌, Bool, true, false, List, [], ◌∷◌, leb, ltb, eqb, Option, Some, None}
use Rattle.model.specs.Pick.{pick, both}
use Rattle.model.specs.Bytes.{word, put}
use Rattle.model.specs.Memory.{Region, locate}
use Rattle.model.specs.declared.Desc.{Desc}
use Rattle.model.specs.declared.Tested.{Tested}
use Rattle.model.specs.declared.Tested.TheVariants.{Bad, Next, Last}
use Rattle.model.specs.declared.Walk.{Walk}
use Rattle.model.specs.declared.Job.TheVariants.{Failed}
use Rattle.model.specs.declared.Phase.{Phase}
use Rattle.model.specs.declared.Phase.TheVariants.{Chain, Header, Answer, Broken}

-- "A descriptor: addr u64, len u32, flags u16, next u16", from its 16 bytes at place k
unfoldable pub desc_at : ℕ → List ℕ → Desc
desc_at k m = record { addr = word 8 k m; len = word 4 (k + 8) m; flags = word 2 (k + 12) m; next = word 2 (k + 14) m }

-- "it would be number q + 1 of this chain: reason 3 · any flag but 1 and 2: reason 4 · len = 0: reason 5 · the buffer isn't in memory: reason 6
-- · it is readable and stands after a writable one: reason 7 · it has NEXT and next is q or more: reason 2. No NEXT: the chain is complete."
unfoldable pub tested_by : (many strange empty : Bool) → Option ℕ → (late last far : Bool) → Tested
tested_by true s e f l n g = Bad 3
tested_by false true e f l n g = Bad 4
tested_by false false true f l n g = Bad 5
tested_by false false false None l n g = Bad 6
tested_by false false false (Some x) true n g = Bad 7
tested_by false false false (Some x) false true g = Last x
tested_by false false false (Some x) false false true = Bad 2
tested_by false false false (Some x) false false false = Next x

-- flags is 0 to 3 once the second test is passed: below 2 is readable, odd has NEXT
unfoldable pub tested : List Region → ℕ → Walk → Desc → Tested
tested rs q k d =
    tested_by (leb q k.count) (ltb 3 d.flags) (eqb d.len 0) (locate rs d.addr d.len)
    (both (ltb d.flags 2) (ltb k.reads k.count)) (eqb (d.flags % 2) 0) (leb q d.next)

-- the chain with one descriptor more
unfoldable pub tally : Walk → ℕ → ℕ → Walk
tally k flags len =
    pick (ltb flags 2) (record { head = k.head; count = k.count + 1; reads = k.reads + 1; r = k.r + len; w = k.w })
    (record { head = k.head; count = k.count + 1; reads = k.reads; r = k.r; w = k.w + len })

-- the private chain: two words for each descriptor, its buffer's slice offset and length
unfoldable pub held : List ℕ → ℕ → ℕ → ℕ → List ℕ
held chain n place len = put chain (2 * n) (place ∷ len ∷ [])

-- "No writable buffer in the chain: reason 8"; S3: "chain complete: w = 0: broken 8 · r < 16: S6 (status 1) · else S4".
-- DEV-12: "for 8 it is the last descriptor of the chain", which is number cur of the table
unfoldable pub complete : Walk → ℕ → Phase
complete k cur =
    pick (leb k.count k.reads) (Broken 8 k.head k.count cur)
    (pick (ltb k.r 16) (Answer k Failed 0) (Header k (record { buf = 0; skip = 0 }) 0))

-- S3, at descriptor cur of the table: a refused descriptor counts as fetched.
-- DEV-12: "on refusal, the number of the descriptor at which it stopped and how many it had fetched"
unfoldable pub described : Walk → ℕ → Desc → Tested → Phase
described k cur d (Bad n) = Broken n k.head (k.count + 1) cur
described k cur d (Next x) = Chain (tally k d.flags d.len) d.next
described k cur d (Last x) = complete (tally k d.flags d.len) cur

-- DEV-12: "the number of descriptors of the last chain that was complete", n before this descriptor; "No NEXT: the chain is complete."
unfoldable pub descs_after : ℕ → Walk → Tested → ℕ
descs_after n k (Bad r) = n
descs_after n k (Next x) = n
descs_after n k (Last x) = k.count + 1

unfoldable pub keeps : List ℕ → Walk → Desc → Tested → List ℕ
keeps chain k d (Bad n) = chain
keeps chain k d (Next x) = held chain k.count x d.len
keeps chain k d (Last x) = held chain k.count x d.len
