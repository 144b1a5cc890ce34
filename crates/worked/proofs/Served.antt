-- What `serve` says of the worked examples of 01 §6 and 03 §6, by computing.
use Prim.Native.Nat.{ℕ, ◌+◌, ◌*◌, ◌≤◌}
use mathlib.Core.Bool.{true}
use native.Mathlib.Omega.{arith}
use mathlib.Core.List.{List, [], ◌∷◌}
use mathlib.Core.Path.{◌≡◌, refl}
use lib.ListN.{length, get_or, replicate}
use Rattle.model.specs.Bytes.{put, part, word, bytes}
use Rattle.model.specs.Memory.{region_code, sound, contains, locate}
use Rattle.model.specs.Ring.{pending, plus_one}
use Rattle.model.specs.Chain.{desc_at, tested_by, tested}
use Rattle.model.specs.Request.{fits, in_ok, out_ok, exactly, verdict, status, reported}
use Rattle.model.specs.Step.{apply, scatter, handed}
use Rattle.model.specs.declared.Phase.TheVariants.{Poll}
use Rattle.requests.specs.Guest.{after, out, state_after, Agrees}
use Rattle.requests.proofs.Serves.{serves-still}
use Rattle.worked.specs.Setting.{disk_from, cfg, backing, desc, laid, v1, changed, split}
use Rattle.requests.specs.Serve.{gather, still, total, walk, linked, follow, last_byte_at, job_of, stored, Outcome, breaks, answer, carried, serve, memory_after, backing_after}
use Rattle.requests.specs.Steps.{up_to, past, data_fetches, fetches, chain_calls, calls}

-- both counters 0
abbrev pub served : List ℕ → Outcome
served m = serve (cfg 0) (still (cfg 0).queue 0 m) 0 0 backing

-- V1: 512 bytes at 0x80005000, one 0 at 0x80006000, the used ring; eight steps
pub v1-served :
    (part 0x3000 12 (memory_after (served v1) v1) ≡ 0 ∷ 0 ∷ 1 ∷ 0 ∷ 0 ∷ 0 ∷ 0 ∷ 0 ∷ 1 ∷ 2 ∷ 0 ∷ 0 ∷ [])
    × (part 0x5000 8 (memory_after (served v1) v1) ≡ 0x03 ∷ 0x0a ∷ 0x11 ∷ 0x18 ∷ 0x1f ∷ 0x26 ∷ 0x2d ∷ 0x34 ∷ [])
    × (part 0x5fff 3 (memory_after (served v1) v1) ≡ 0xaa ∷ 0 ∷ 0xaa ∷ [])
    × (backing_after (served v1) backing ≡ backing) × (calls (cfg 0) (still (cfg 0).queue 0 v1) 0 ≡ 8)
unfolding put part word bytes contains locate pending plus_one desc_at tested_by tested fits in_ok out_ok exactly verdict status reported apply scatter handed disk_from cfg backing desc laid v1 gather still total walk linked follow last_byte_at job_of stored answer carried serve memory_after backing_after up_to past data_fetches fetches chain_calls calls
v1-served = (refl, refl, refl, refl, refl)

-- the rows that break the queue: reason, head, descriptors fetched, and the number of the one refused
pub broken-rows :
    (served (changed 9 0 (desc 0x80004000 16 1 1) (desc 0x80005000 513 2 0)) ≡ breaks 1 0 0 65536)
    × (served (changed 1 8 (desc 0x80004000 16 1 1) (desc 0x80005000 513 2 0)) ≡ breaks 2 0 0 65536)
    × (served (changed 1 0 (desc 0x80004000 16 1 8) (desc 0x80005000 513 2 0)) ≡ breaks 2 0 1 0)
    × (served (changed 1 0 (desc 0x80004000 16 1 0) (desc 0x80005000 513 2 0)) ≡ breaks 3 0 9 0)
    × (served (changed 1 0 (desc 0x80004000 16 5 1) (desc 0x80005000 513 2 0)) ≡ breaks 4 0 1 0)
    × (served (changed 1 0 (desc 0x80004000 16 1 1) (desc 0x80005000 0 2 0)) ≡ breaks 5 0 2 1)
    × (served (changed 1 0 (desc 0x80004000 16 1 1) (desc 0x8000fe00 513 2 0)) ≡ breaks 6 0 2 1)
    × (served (changed 1 0 (desc 0x80005000 513 3 1) (desc 0x80004000 16 0 0)) ≡ breaks 7 0 2 1)
    × (served (changed 1 0 (desc 0x80004000 16 0 1) (desc 0x80005000 513 2 0)) ≡ breaks 8 0 1 0)
    × (served (put split 0x1040 (desc 0x80006000 0 2 0)) ≡ breaks 5 3 3 4)
unfolding put part word bytes contains locate pending plus_one desc_at tested_by tested fits in_ok out_ok exactly verdict status reported apply scatter handed disk_from cfg backing desc laid changed split gather still total walk linked follow last_byte_at job_of stored answer carried serve
broken-rows = (refl, refl, refl, refl, refl, refl, refl, refl, refl, refl)

-- the split OUT: sector 5 holds the 512 bytes, and every other byte of the backing slice is as it was; id 3, len 1, status 0; ten steps, three descriptors
pub split-served :
    (backing_after (served split) backing ≡ put backing (512 + 2560) (replicate 512 0x5a))
    × (part 0x3000 12 (memory_after (served split) split) ≡ 0 ∷ 0 ∷ 1 ∷ 0 ∷ 3 ∷ 0 ∷ 0 ∷ 0 ∷ 1 ∷ 0 ∷ 0 ∷ 0 ∷ [])
    × (get_or (memory_after (served split) split) 0x6000 7 ≡ 0) × (calls (cfg 0) (still (cfg 0).queue 0 split) 0 ≡ 10)
    × (state_after (served split) 0 0 0 ≡ record { taken = 1; answered = 1; descs = 3; phase = Poll })
unfolding put part word bytes contains locate pending plus_one desc_at tested_by tested fits in_ok out_ok exactly verdict status reported apply scatter handed disk_from cfg backing desc laid split gather still total walk linked follow last_byte_at job_of stored answer carried serve memory_after backing_after state_after up_to past data_fetches fetches chain_calls calls
split-served = (refl, refl, refl, refl, refl)

-- the theorem about a memory that is held still has V1 among its cases: its conditions can be met
pub v1-conditions : (sound (length v1) (cfg 0).map ≡ true) × (2 * (cfg 0).queue.size ≤ length {A = ℕ} (replicate 16 0))
unfolding sound region_code put bytes cfg desc laid v1
v1-conditions = (refl, omega arith)

pub v1-steps : (stage : List ℕ) (code : ℕ) → 1048576 ≤ length stage
    → Agrees (served v1) 0 0 0 (memory_after (served v1) v1) backing
    (after (cfg 0) (λ i x. x) 0 (calls (cfg 0) (still (cfg 0).queue 0 v1) 0) (out 0 0 0 Poll v1 backing (replicate 16 0) stage code))
v1-steps stage code h = serves-still (cfg 0) 0 0 0 v1 backing (replicate 16 0) stage code v1-conditions.0 v1-conditions.1 h
