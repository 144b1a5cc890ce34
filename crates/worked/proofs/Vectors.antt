-- The worked examples, by computing.
use Prim.Native.Nat.{◌+◌}
use mathlib.Core.List.{[], ◌∷◌, ◌++◌}
use mathlib.Core.Bool.{true}
use mathlib.Core.Path.{◌≡◌, refl}
use lib.ListN.{get_or, replicate}
use Rattle.model.specs.Bytes.{put, part, word, bytes}
use Rattle.model.specs.Memory.{contains, locate}
use Rattle.model.specs.Ring.{pending, plus_one, polled, headed}
use Rattle.model.specs.Chain.{desc_at, tested_by, tested, tally, held, complete, described, descs_after, keeps}
use Rattle.model.specs.Request.{fits, in_ok, out_ok, exactly, verdict, status, reported, decided}
use Rattle.model.specs.Step.{onward, ends, want, gathered, paid, next, chained, measured, staged, effect, apply, scatter, spans, handed, answer_stores, mem_stores, disk_stores, shifted, counted, code_after, code_of, step_with, step}
use Rattle.worked.specs.Setting.{disk_from, cfg, backing, desc, laid, fresh, again, after, codes, v1, changed, asked, split, phase_is, same, breaks, answered_by, answers}
use Rattle.model.specs.declared.Phase.TheVariants.{Poll}

-- V1, step by step: S1, S2, S3 three times, S4, S6, S7; "The next step finds nothing to do". 512 bytes at 0x80005000, one 0 at 0x80006000, and the used ring
pub v1-read :
    (codes 0 9 (fresh 0 v1) ≡ 1 ∷ 1 ∷ 1 ∷ 1 ∷ 1 ∷ 1 ∷ 1 ∷ 2 ∷ 0 ∷ [])
    × (part 0x3000 12 (after 0 8 (fresh 0 v1)).mem ≡ 0 ∷ 0 ∷ 1 ∷ 0 ∷ 0 ∷ 0 ∷ 0 ∷ 0 ∷ 1 ∷ 2 ∷ 0 ∷ 0 ∷ [])
    × (part 0x5000 8 (after 0 8 (fresh 0 v1)).mem ≡ 0x03 ∷ 0x0a ∷ 0x11 ∷ 0x18 ∷ 0x1f ∷ 0x26 ∷ 0x2d ∷ 0x34 ∷ [])
    × (part 0x51ff 2 (after 0 8 (fresh 0 v1)).mem ≡ 0xfc ∷ 0xaa ∷ [])
    × (part 0x5fff 3 (after 0 8 (fresh 0 v1)).mem ≡ 0xaa ∷ 0 ∷ 0xaa ∷ [])
    × ((after 0 8 (fresh 0 v1)).backing ≡ backing)
    × ((after 0 8 (fresh 0 v1)).state ≡ record { taken = 1; answered = 1; descs = 3; phase = Poll })
unfolding put part word bytes contains locate pending plus_one polled headed desc_at tested_by tested tally held complete described descs_after keeps fits in_ok out_ok exactly verdict status reported decided onward ends want gathered paid next chained measured staged effect apply scatter spans handed answer_stores mem_stores disk_stores shifted counted code_after code_of step_with step disk_from cfg backing desc laid fresh again after codes v1 changed asked split
v1-read = (refl, refl, refl, refl, refl, refl, refl)

-- "taken = answered = 65,535, idx 0, a flush in the chain: the used entry goes to place 7 (0x8000303c), used idx becomes 0, both counters 0"
pub wrap :
    (part 0x303c 8 (after 0 7 (fresh 65535 (laid ((0x1000, desc 0x80004000 16 1 1) ∷ (0x1010, desc 0x80006000 1 2 0) ∷ (0x4000, bytes 4 4 ++ bytes 8 0) ∷ (0x2000, replicate 20 0) ∷ (0x3000, replicate 70 0) ∷ [])))).mem ≡ 0 ∷ 0 ∷ 0 ∷ 0 ∷ 1 ∷ 0 ∷ 0 ∷ 0 ∷ [])
    × (part 0x3000 4 (after 0 7 (fresh 65535 (laid ((0x1000, desc 0x80004000 16 1 1) ∷ (0x1010, desc 0x80006000 1 2 0) ∷ (0x4000, bytes 4 4 ++ bytes 8 0) ∷ (0x2000, replicate 20 0) ∷ (0x3000, replicate 70 0) ∷ [])))).mem ≡ 0 ∷ 0 ∷ 0 ∷ 0 ∷ [])
    × ((after 0 7 (fresh 65535 (laid ((0x1000, desc 0x80004000 16 1 1) ∷ (0x1010, desc 0x80006000 1 2 0) ∷ (0x4000, bytes 4 4 ++ bytes 8 0) ∷ (0x2000, replicate 20 0) ∷ (0x3000, replicate 70 0) ∷ [])))).state ≡ record { taken = 0; answered = 0; descs = 2; phase = Poll })
unfolding put part word bytes contains locate pending plus_one polled headed desc_at tested_by tested tally held complete described descs_after keeps fits in_ok out_ok exactly verdict status reported decided onward ends want gathered paid next chained measured staged effect apply scatter spans handed answer_stores mem_stores disk_stores shifted counted code_after code_of step_with step disk_from cfg backing desc laid fresh again after codes v1 changed asked split
wrap = (refl, refl, refl)

-- 01 §6, "In every broken row no byte of guest memory changes", nor of the backing slice: reason, head, descriptors fetched, the number of the one
-- refused, and the descriptors of the last complete chain
pub broken-rows :
    (breaks 1 (changed 9 0 (desc 0x80004000 16 1 1) (desc 0x80005000 513 2 0)) 1 0 0 65536 0 ≡ true)
    × (breaks 2 (changed 1 8 (desc 0x80004000 16 1 1) (desc 0x80005000 513 2 0)) 2 0 0 65536 0 ≡ true)
    × (breaks 3 (changed 1 0 (desc 0x80004000 16 1 8) (desc 0x80005000 513 2 0)) 2 0 1 0 0 ≡ true)
    × (breaks 11 (changed 1 0 (desc 0x80004000 16 1 0) (desc 0x80005000 513 2 0)) 3 0 9 0 0 ≡ true)
    × (breaks 3 (changed 1 0 (desc 0x80004000 16 5 1) (desc 0x80005000 513 2 0)) 4 0 1 0 0 ≡ true)
    × (breaks 4 (changed 1 0 (desc 0x80004000 16 1 1) (desc 0x80005000 0 2 0)) 5 0 2 1 0 ≡ true)
    × (breaks 4 (changed 1 0 (desc 0x80004000 16 1 1) (desc 0x8000fe00 513 2 0)) 6 0 2 1 0 ≡ true)
    × (breaks 4 (changed 1 0 (desc 0x80004000 16 1 1) (desc 0xffffffffffffffff 513 2 0)) 6 0 2 1 0 ≡ true)
    × (breaks 4 (changed 1 0 (desc 0x80005000 513 3 1) (desc 0x80004000 16 0 0)) 7 0 2 1 0 ≡ true)
    × (breaks 3 (changed 1 0 (desc 0x80004000 16 0 1) (desc 0x80005000 513 2 0)) 8 0 1 0 1 ≡ true)
unfolding put part word bytes contains locate pending plus_one polled headed desc_at tested_by tested tally held complete described descs_after keeps fits in_ok out_ok exactly verdict status reported decided onward ends want gathered paid next chained measured staged effect apply scatter spans handed answer_stores mem_stores disk_stores shifted counted code_after code_of step_with step disk_from cfg backing desc laid fresh again after codes v1 changed asked split phase_is same breaks answered_by answers
broken-rows = (refl, refl, refl, refl, refl, refl, refl, refl, refl, refl)

-- .. and the chain of the split OUT with an empty buffer at its end: its third descriptor is number 4 of the table
pub broken-split : breaks 5 (put split 0x1040 (desc 0x80006000 0 2 0)) 5 3 3 4 0 ≡ true
unfolding put part word bytes contains locate pending plus_one polled headed desc_at tested_by tested tally held complete described descs_after keeps fits in_ok out_ok exactly verdict status reported decided onward ends want gathered paid next chained measured staged effect apply scatter spans handed answer_stores mem_stores disk_stores shifted counted code_after code_of step_with step disk_from cfg backing desc laid fresh again after codes v1 changed asked split phase_is same breaks answered_by answers
broken-split = refl

-- 03 §6, rows of one readable and one writable buffer: the status byte, the reported length, and used idx 1
pub request-rows :
    (answers 0 7 0 63 16 513 0 513 ≡ true)
    × (answers 0 7 0 64 16 513 1 0 ≡ true)
    × (answers 0 7 0 64 16 1 0 1 ≡ true)
    × (answers 0 7 0 65 16 1 1 1 ≡ true)
    × (answers 0 7 0 0xffffffffffffffff 16 1025 1 0 ≡ true)
    × (answers 0 7 8 0 16 21 0 21 ≡ true)
    × (answers 0 7 8 0 16 20 1 0 ≡ true)
    × (answers 0 7 4 0 16 1 0 1 ≡ true)
    × (answers 0 7 4 0 16 2 1 0 ≡ true)
    × (answers 0 7 2 0 16 1 2 1 ≡ true)
    × (answers 0 6 0 0 15 1 1 1 ≡ true)
    × (answers 1 7 1 5 528 1 1 1 ≡ true)
unfolding put part word bytes contains locate pending plus_one polled headed desc_at tested_by tested tally held complete described descs_after keeps fits in_ok out_ok exactly verdict status reported decided onward ends want gathered paid next chained measured staged effect apply scatter spans handed answer_stores mem_stores disk_stores shifted counted code_after code_of step_with step disk_from cfg backing desc laid fresh again after codes v1 changed asked split phase_is same breaks answered_by answers
request-rows = (refl, refl, refl, refl, refl, refl, refl, refl, refl, refl, refl, refl)

-- 03 §6, the split OUT: S1, S2, S3 three times, S4 twice, S5, S6, S7. Sector 5 holds the 512 bytes, every other byte of the backing slice is as it was; id 3, len 1
pub split-out :
    (codes 0 10 (fresh 0 split) ≡ 1 ∷ 1 ∷ 1 ∷ 1 ∷ 1 ∷ 1 ∷ 1 ∷ 1 ∷ 1 ∷ 2 ∷ [])
    × ((after 0 7 (fresh 0 split)).backing ≡ backing)
    × ((after 0 8 (fresh 0 split)).backing ≡ put backing (512 + 2560) (replicate 512 0x5a))
    × (part 0x3000 12 (after 0 10 (fresh 0 split)).mem ≡ 0 ∷ 0 ∷ 1 ∷ 0 ∷ 3 ∷ 0 ∷ 0 ∷ 0 ∷ 1 ∷ 0 ∷ 0 ∷ 0 ∷ [])
    × (get_or (after 0 10 (fresh 0 split)).mem 0x6000 7 ≡ 0)
    × ((after 0 10 (fresh 0 split)).state ≡ record { taken = 1; answered = 1; descs = 3; phase = Poll })
unfolding put part word bytes contains locate pending plus_one polled headed desc_at tested_by tested tally held complete described descs_after keeps fits in_ok out_ok exactly verdict status reported decided onward ends want gathered paid next chained measured staged effect apply scatter spans handed answer_stores mem_stores disk_stores shifted counted code_after code_of step_with step disk_from cfg backing desc laid fresh again after codes v1 changed asked split
split-out = (refl, refl, refl, refl, refl, refl)
