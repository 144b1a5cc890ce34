-- What the level of the words tells, and so what a step on them stands on.
use Prim.Native.Nat.{ℕ, ◌+◌, ◌*◌, ◌≤◌}
use mathlib.Core.Bool.{Bool, true, false}
use mathlib.Core.List.{List}
use mathlib.Core.Path.{◌≡◌, refl}
use native.Mathlib.Omega.{arith}
use lib.Dec.{leb, eqb}
use lib.ListN.{get_or, length}
use borrow.Author.Tests.{eqb-true, leb-true}
use Rattle.model.specs.Pick.{pick, both}
use Rattle.model.specs.Memory.{regions, sound, regions_max}
use Rattle.model.specs.Request.{disk_code}
use Rattle.model.specs.Sane.{sane}
use Rattle.model.proofs.Tests.{told, both-split}
use Rattle.device.specs.Turn.{Fit}
use Rattle.words.specs.Layout.{map_words, phase_of, row_at, config_at, memory_ok, disk_ok, queue_ok, tags_ok, phase_ok, enabled_ok, level, level_word, mem_len_word, regions_word, start_word, sectors_word, backing_len_word, size_word, chain_len_word, taken_word, answered_word, tag_word, a_word}
use Rattle.words.proofs.Laws.{QueueOk, queue-ok}
use Rattle.hostiledisk.specs.Calls.{long_enough, Going, StepIs, untouched}
use Rattle.model.specs.declared.Phase.{Phase}

pub record MemoryOk (s : List ℕ) : Type 0 where
  pub some : 1 ≤ get_or s regions_word 0
  pub few : get_or s regions_word 0 ≤ regions_max
  pub sound-map : sound (get_or s mem_len_word 0) (regions (map_words s)) ≡ true

pub memory-ok : (s : List ℕ) → memory_ok s ≡ true → MemoryOk s
unfolding memory_ok
memory-ok s e =
    let a = both-split (leb 1 (get_or s regions_word 0)) _ e in
    let b = both-split (leb (get_or s regions_word 0) regions_max) _ a.1 in
    record { some = omega told; few = omega told; sound-map = b.1 }

-- a disk that set-up accepted lies in the backing slice
disk-in : (start sectors backing : ℕ) → disk_code start sectors backing ≡ 0 → start + 512 * sectors ≤ backing
unfolding disk_code
disk-in start sectors backing e = go (both (leb 1 sectors) (leb sectors 4294967296)) (leb (start + 512 * sectors) backing) refl e
  where
    go : (a b : Bool) → leb (start + 512 * sectors) backing ≡ b → ◌≡◌ {A = ℕ} (pick a (pick b 0 30) 29) 0 → start + 512 * sectors ≤ backing
    go true true t e = leb-true (start + 512 * sectors) backing t
    go true false t e = absurd (omega arith)
    go false b t e = absurd (omega arith)

-- the tower of `level`, by its tests
abbrev tower : (a b c d e f : Bool) → ℕ
tower a b c d e f = pick a (pick b 1 (pick c (pick d 2 (pick e (pick f 3 0) 0)) 0)) 0

tower-three : (a b c d e f : Bool) → tower a b c d e f ≡ 3 → (a ≡ true) × (c ≡ true) × (f ≡ true)
tower-three false b c d e f h = absurd (omega arith)
tower-three true true c d e f h = absurd (omega arith)
tower-three true false false d e f h = absurd (omega arith)
tower-three true false true true e f h = absurd (omega arith)
tower-three true false true false false f h = absurd (omega arith)
tower-three true false true false true false h = absurd (omega arith)
tower-three true false true false true true h = (refl, refl, refl)

tower-two : (a b c d e f : Bool) → tower a b c d e f ≡ 2 → a ≡ true
tower-two false b c d e f h = absurd (omega arith)
tower-two true b c d e f h = refl

pub level-two : (s : List ℕ) → level s ≡ 2 → memory_ok s ≡ true
unfolding level
level-two s h = tower-two (memory_ok s) (eqb (get_or s level_word 0) 1) (disk_ok s) (eqb (get_or s level_word 0) 2) (eqb (get_or s level_word 0) 3) (enabled_ok s) h

pub record Enabled (s : List ℕ) : Type 0 where
  pub memory : MemoryOk s
  pub disk-inside : get_or s start_word 0 + 512 * get_or s sectors_word 0 ≤ get_or s backing_len_word 0
  pub queue : QueueOk s
  pub phase : sane (get_or s size_word 0) (get_or s sectors_word 0) (phase_of (row_at s)) ≡ true

pub level-three : (s : List ℕ) → level s ≡ 3 → Enabled s
unfolding level disk_ok enabled_ok phase_ok
level-three s h =
    let t = tower-three (memory_ok s) (eqb (get_or s level_word 0) 1) (disk_ok s) (eqb (get_or s level_word 0) 2) (eqb (get_or s level_word 0) 3) (enabled_ok s) h in
    let d = both-split (eqb (disk_code (get_or s start_word 0) (get_or s sectors_word 0) (get_or s backing_len_word 0)) 0) _ t.1 in
    let e = both-split (queue_ok s) _ t.2 in
    let p = both-split (tags_ok (get_or s tag_word 0) (get_or s a_word 0)) _ e.1 in
    record {
      memory = memory-ok s t.0;
      disk-inside = disk-in (get_or s start_word 0) (get_or s sectors_word 0) (get_or s backing_len_word 0) (eqb-true (disk_code (get_or s start_word 0) (get_or s sectors_word 0) (get_or s backing_len_word 0)) 0 d.0);
      queue = queue-ok s e.0;
      phase = p.1;
    }

-- what a step stands on
pub fit_of : (s : List ℕ) (p : Phase) (mem backing : ℕ) (chain : List ℕ) (stage : ℕ) → Going s p mem backing chain stage
    → Fit (config_at s) (get_or s taken_word 0) (get_or s answered_word 0) p (map_words s) mem backing chain stage
unfolding config_at long_enough
fit_of s p mem backing chain stage g =
    let e = level-three s g.enabled in
    let a = both-split (leb (get_or s mem_len_word 0) mem) _ g.slices-long in
    let b = both-split (leb (get_or s backing_len_word 0) backing) _ a.1 in
    let c = both-split (leb (get_or s chain_len_word 0) (length chain)) _ b.1 in
    let q = e.queue in
    let i = e.disk-inside in
    record {
      sound-map = e.memory.sound-map;
      size-some = q.size-some;
      size-high = q.size-high;
      desc-in = q.desc-in;
      avail-in = q.avail-in;
      used-in = q.used-in;
      disk-in = omega told;
      mem_long = omega told;
      chain-long = omega told;
      stage-long = omega told;
      taken-low = q.taken-low;
      answered-low = q.answered-low;
      sane-phase = rw g.phase-is e.phase;
      ready-phase = g.chain-ready;
    }

-- a call that touches nothing
pub untouched-is : (n : ℕ) (s mem backing chain stage : List ℕ) → StepIs (untouched n s mem backing chain stage) n s mem backing chain stage
untouched-is n s mem backing chain stage =
    record { code_is = refl; state-is = refl; mem_is = refl; backing-is = refl; chain-is = refl; stage_is = refl }
