-- What the tests of the words tell; what is saved is found again.
use Prim.Native.Nat.{ℕ, ◌+◌, ◌-◌, ◌*◌, ◌≤◌, ◌<◌}
use mathlib.Core.Bool.{Bool, true, false}
use mathlib.Core.List.{List}
use mathlib.Core.Path.{◌≡◌, refl}
use native.Mathlib.Omega.{arith}
use lib.Dec.{leb, ltb, eqb}
use lib.ListN.{get_or}
use borrow.Author.Tests.{eqb-true}
use Rattle.model.specs.Pick.{pick, both}
use Rattle.model.specs.Ring.{queue_size_ok, size_max}
use Rattle.model.proofs.Tests.{told, both-split}
use Rattle.model.proofs.Ring.{size-range}
use Rattle.words.specs.Layout.{memory_ok, disk_ok, queue_ok, lent_ok, phase_ok, enabled_ok, framed, level, level_word, mem_len_word, size_word, desc_area_word, avail_area_word, used_area_word, chain_len_word, stage_len_word, taken_word, answered_word, descs_word, regions_from}

-- for `grind`: a queue's size is in range
pub ruleset sizes = (size-range)

pub record QueueOk (s : List ℕ) : Type 0 where
  pub size-some : 1 ≤ get_or s size_word 0
  pub size-high : get_or s size_word 0 ≤ size_max
  pub desc-in : get_or s desc_area_word 0 + 16 * get_or s size_word 0 ≤ get_or s mem_len_word 0
  pub avail-in : get_or s avail_area_word 0 + (6 + 2 * get_or s size_word 0) ≤ get_or s mem_len_word 0
  pub used-in : get_or s used_area_word 0 + (6 + 8 * get_or s size_word 0) ≤ get_or s mem_len_word 0
  pub chain-long : 2 * get_or s size_word 0 ≤ get_or s chain_len_word 0
  pub stage-long : 1048576 ≤ get_or s stage_len_word 0
  pub taken-low : get_or s taken_word 0 < 65536
  pub answered-low : get_or s answered_word 0 < 65536
  pub descs-low : get_or s descs_word 0 ≤ get_or s size_word 0

pub queue-ok : (s : List ℕ) → queue_ok s ≡ true → QueueOk s
unfolding queue_ok lent_ok
queue-ok s e =
    let a = both-split (queue_size_ok (get_or s size_word 0)) _ e in
    let b = both-split (leb (get_or s desc_area_word 0 + 16 * get_or s size_word 0) (get_or s mem_len_word 0)) _ a.1 in
    let c = both-split (leb (get_or s avail_area_word 0 + (6 + 2 * get_or s size_word 0)) (get_or s mem_len_word 0)) _ b.1 in
    let d = both-split (leb (get_or s used_area_word 0 + (6 + 8 * get_or s size_word 0)) (get_or s mem_len_word 0)) _ c.1 in
    let f = both-split (leb (2 * get_or s size_word 0) (get_or s chain_len_word 0)) _ d.1 in
    let g = both-split (leb 1048576 (get_or s stage_len_word 0)) _ f.1 in
    let h = both-split (ltb (get_or s taken_word 0) 65536) _ g.1 in
    let i = both-split (ltb (get_or s answered_word 0) 65536) _ h.1 in
    let z = size-range (get_or s size_word 0) a.0 in
    record {
      size-some = z.0;
      size-high = z.1;
      desc-in = omega told;
      avail-in = omega told;
      used-in = omega told;
      chain-long = omega told;
      stage-long = omega told;
      taken-low = omega told;
      answered-low = omega told;
      descs-low = omega told;
    }

-- an enabled queue: what doesn't hang on the phase, and the phase
pub level-framed : (s : List ℕ) → eqb (level s) 3 ≡ both (framed s) (phase_ok s)
unfolding level framed enabled_ok
level-framed s = go (get_or s level_word 0) (eqb (get_or s level_word 0) 3) refl (memory_ok s) (disk_ok s) (queue_ok s) (phase_ok s)
  where
    other : (a b c d : Bool) (f : ℕ) → f ≡ 0 → eqb (pick a (pick b 1 (pick c (pick d 2 f) 0)) 0) 3 ≡ false
    other true true c d f h = refl
    other true false true true f h = refl
    other true false true false f h = rw h
    other true false false d f h = refl
    other false b c d f h = refl

    three : (a b c d : Bool) → eqb (pick a (pick b (pick (both c d) 3 0) 0) 0) 3 ≡ both (both a (both b c)) d
    three true true true true = refl
    three true true true false = refl
    three true true false d = refl
    three true false c d = refl
    three false b c d = refl

    go : (x : ℕ) (e : Bool) → eqb x 3 ≡ e → (a b c d : Bool)
        → eqb (pick a (pick (eqb x 1) 1 (pick b (pick (eqb x 2) 2 (pick e (pick (both c d) 3 0) 0)) 0)) 0) 3 ≡ both (both e (both a (both b c))) d
    go x true t a b c d = rw (eqb-true x 3 t) (three a b c d)
    go x false t a b c d = other a (eqb x 1) b (eqb x 2) 0 refl

pub framed-queue : (s : List ℕ) → framed s ≡ true → QueueOk s
unfolding framed
framed-queue s e =
    let a = both-split (eqb (get_or s level_word 0) 3) _ e in
    let b = both-split (memory_ok s) _ a.1 in
    let c = both-split (disk_ok s) _ b.1 in
    queue-ok s c.1

-- the map's words, from the first to the last region's
pub map-long : (n : ℕ) → regions_from + 3 * n - regions_from ≡ 3 * n
map-long n = omega arith
