-- The setting of 01 §6 and 03 §6, and a device that is stepped over a memory that nobody else touches.
use Rattle.std.specs.Prelude.{ℕ, zero, suc, ◌+◌, ◌-◌, ◌*◌, ◌/◌, ◌%◌, List, [], ◌∷◌, ◌++◌, replicate, get_or, Bool, true, false, eqb}
use Rattle.model.specs.Bytes.{put, word, bytes}
use Rattle.model.specs.Memory.{region}
use Rattle.model.specs.Step.{Cfg, Out, step}
use Rattle.model.specs.declared.Phase.{Phase}
use Rattle.model.specs.declared.Phase.TheVariants.{Poll, Entry, Chain, Header, Payload, Answer, Publish, Broken}
use Rattle.model.specs.Pick.{both}

-- 03 §6: "byte i of the disk holds (7 i + i / 512) modulo 256, the quotient rounded down"
unfoldable pub disk_from : ℕ → ℕ → List ℕ
disk_from i zero = []
disk_from i (suc n) = (7 * i + i / 512) % 256 ∷ disk_from (i + 1) n

-- 01 §6: "One region: guest 0x80000000, 65,536 bytes, at slice 0. q = 8"; 03 §6: "A disk of 64 sectors", here behind a neighbour's sector
unfoldable pub cfg : ℕ → Cfg
cfg ro =
    record {
      map = region 0x80000000 65536 0 ∷ [];
      disk = record { start = 512; sectors = 64; ro = ro };
      id = 0x53 ∷ 0x43 ∷ 0x52 ∷ 0x41 ∷ 0x54 ∷ 0x43 ∷ 0x48 ∷ 0x2d ∷ 0x30 ∷ 0x30 ∷ 0x30 ∷ 0x37 ∷ replicate 8 0;
      queue = record { size = 8; desc = 0x1000; avail = 0x2000; used = 0x3000 };
    }

unfoldable pub backing : List ℕ
backing = replicate 512 0xee ++ (disk_from 0 32768 ++ replicate 512 0xee)

-- a descriptor's 16 bytes: "addr u64, len u32, flags u16, next u16"
unfoldable pub desc : ℕ → ℕ → ℕ → ℕ → List ℕ
desc addr len flags nx = bytes 8 addr ++ (bytes 4 len ++ (bytes 2 flags ++ bytes 2 nx))

-- these bytes laid at these places of 65,536 bytes that hold 0xaa
unfoldable pub laid : List (ℕ × List ℕ) → List ℕ
laid [] = replicate 65536 0xaa
laid (x ∷ xs) = put (laid xs) x.0 x.1

-- both counters at t, nothing at hand, and private memory that holds 0
unfoldable pub fresh : ℕ → List ℕ → Out
fresh t mem =
    record { state = record { taken = t; answered = t; descs = 0; phase = Poll }; mem = mem; backing = backing; chain = replicate 16 0; stage = replicate 16 0; code = 0 }

-- one call after another
unfoldable pub again : ℕ → Out → Out
again ro o = step (cfg ro) o.state o.mem o.backing o.chain o.stage

unfoldable pub after : ℕ → ℕ → Out → Out
after ro zero o = o
after ro (suc n) o = after ro n (again ro o)

unfoldable pub codes : ℕ → ℕ → Out → List ℕ
codes ro zero o = []
codes ro (suc n) o = (again ro o).code ∷ codes ro n (again ro o)

-- 01 §6, "V1, read one sector"
unfoldable pub v1 : List ℕ
v1 =
    laid
    ((0x1000, desc 0x80004000 16 1 1)
    ∷ (0x1010, desc 0x80005000 512 3 2)
    ∷ (0x1020, desc 0x80006000 1 2 0)
    ∷ (0x4000, bytes 4 0 ++ (bytes 4 0 ++ bytes 8 3)) ∷ (0x2000, bytes 2 0 ++ (bytes 2 1 ++ bytes 2 0)) ∷ (0x3000, replicate 70 0) ∷ [])

-- "Changes to V1, .. with data and status in one writable buffer of 513 bytes (descriptor 1)": idx, entry, and descriptors 0 and 1
unfoldable pub changed : ℕ → ℕ → List ℕ → List ℕ → List ℕ
changed idx entry d0 d1 =
    laid
    ((0x1000, d0) ∷ (0x1010, d1) ∷ (0x4000, bytes 4 0 ++ (bytes 4 0 ++ bytes 8 3)) ∷ (0x2000, bytes 2 0 ++ (bytes 2 idx ++ bytes 2 entry)) ∷ (0x3000, replicate 70 0) ∷ [])

-- one request of type and sector, its header at 0x80004000, the buffers' descriptors as given
unfoldable pub asked : ℕ → ℕ → List ℕ → List ℕ
asked type sector ds =
    laid ((0x1000, ds) ∷ (0x4000, bytes 4 type ++ (bytes 4 0 ++ bytes 8 sector)) ∷ (0x2000, bytes 2 0 ++ (bytes 2 1 ++ bytes 2 0)) ∷ (0x3000, replicate 70 0) ∷ [])

-- 03 §6, "The chain of the split OUT, descriptors 3, 6 and 4"
unfoldable pub split : List ℕ
split =
    laid
    ((0x1030, desc 0x80004000 10 1 6)
    ∷ (0x1060, desc 0x80004100 518 1 4)
    ∷ (0x1040, desc 0x80006000 1 2 0)
    ∷ (0x4000, 1 ∷ 0 ∷ 0 ∷ 0 ∷ 0 ∷ 0 ∷ 0 ∷ 0 ∷ 5 ∷ 0 ∷ [])
    ∷ (0x4100, replicate 6 0 ++ replicate 512 0x5a) ∷ (0x2000, bytes 2 0 ++ (bytes 2 1 ++ bytes 2 3)) ∷ (0x3000, replicate 70 0) ∷ [])

-- the same bytes, by a test that computes
unfoldable pub same : List ℕ → List ℕ → Bool
same [] [] = true
same [] (y ∷ ys) = false
same (x ∷ xs) [] = false
same (x ∷ xs) (y ∷ ys) = both (eqb x y) (same xs ys)

unfoldable pub phase_is : Phase → ℕ → ℕ → ℕ → ℕ → Bool
phase_is Poll a b c d = false
phase_is Entry a b c d = false
phase_is (Chain k cur) a b c d = false
phase_is (Header k p got) a b c d = false
phase_is (Payload k p s got) a b c d = false
phase_is (Answer k job got) a b c d = false
phase_is (Publish k got) a b c d = false
phase_is (Broken reason head count at) a b c d = both (eqb reason a) (both (eqb head b) (both (eqb count c) (eqb at d)))

unfoldable pub answered_by : List ℕ → ℕ → ℕ → ℕ → Bool
answered_by mem w st len = both (eqb (get_or mem (0x5000 + w - 1) 9) st) (both (eqb (word 4 0x3008 mem) len) (eqb (word 2 0x3002 mem) 1))

-- the queue broke after n calls: the reason, the head, the descriptors fetched and the one refused; the descriptors of the last complete chain;
-- and memory and backing slice are as they were
unfoldable pub breaks : ℕ → List ℕ → ℕ → ℕ → ℕ → ℕ → ℕ → Bool
breaks n mem reason head count at descs =
    let o = after 0 n (fresh 0 mem) in
    both (phase_is o.state.phase reason head count at) (both (eqb o.state.descs descs) (both (same o.mem mem) (same o.backing backing)))

-- one request of a readable and a writable buffer was answered by n calls: with this status byte, this length, and used idx 1
unfoldable pub answers : ℕ → ℕ → ℕ → ℕ → ℕ → ℕ → ℕ → ℕ → Bool
answers ro n type sector r w st len = answered_by (after ro n (fresh 0 (asked type sector (desc 0x80004000 r 1 1 ++ desc 0x80005000 w 2 0)))).mem w st len
