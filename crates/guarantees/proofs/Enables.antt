-- Set-up that is answered 0 brings the state to its level: memory registered, a disk, an enabled queue. So what is said of enabled queues is said of something.
use Prim.Native.Nat.{ℕ, ◌+◌, ◌*◌, ◌/◌, ◌^◌, ◌≤◌, ◌<◌}
use mathlib.Core.Bool.{Bool, true, false}
use mathlib.Core.List.{List, [], ◌∷◌}
use mathlib.Core.Path.{◌≡◌, refl, sym, ap, ◌∙◌}
use native.Mathlib.Omega.{arith}
use lib.Dec.{leb, ltb, eqb}
use lib.ListN.{get_or, length, set, length-set}
use lib.Seq.{get_or-set_same, get_or-set_other}
use Rattle.model.proofs.Lists.{after, put-below, put_in, put_one, part-put, part-put-other, length-put}
use borrow.Author.Tests.{lt-ltb, le-leb, leb-false, ltb-false, eqb-true, eqb-false, leb-true}
use Rattle.model.specs.Pick.{pick, both}
use Rattle.model.specs.Bytes.{put, part, word}
use Rattle.model.specs.Request.{disk_code}
use Rattle.model.proofs.Words.{word_below}
use Rattle.model.specs.Memory.{Region, regions, sound, locate, memory_code, regions_max}
use Rattle.model.specs.Ring.{areas, placed, queue_size_ok, aligned, entangled}
use Rattle.model.specs.Sane.{sane}
use Rattle.model.proofs.Tests.{on, both_l}
use Rattle.model.proofs.Memory.{locate-slice, mapped}
use Rattle.words.specs.Layout.{state_words, row_of, row_words, map_words, memory_ok, disk_ok, queue_ok, lent_ok, tags_ok, phase_ok, enabled_ok, level, level_word, mem_len_word, regions_word, start_word, sectors_word, ro_word, backing_len_word, id2_word, size_word, regions_from}
use Rattle.hostiledisk.specs.Calls.{Set, memory_set, hd_memory, flag, disk_set, hd_disk, queue_words, queue_set, numbered, enabled_with, hd_enable_at}
use Rattle.hostiledisk.proofs.Laws.{memory-ok, level-two}
use Rattle.guarantees.proofs.Good.{both_true}
use Rattle.guarantees.proofs.Stays.{tower-all}
use Rattle.guarantees.proofs.Reached.{queue-word, queue-other, queue-part, queue-phase}
use Rattle.std.specs.Prelude.{Option, Some, None, Result, Ok, Err}
use Rattle.model.specs.SetUp.{number}
use Rattle.model.proofs.SetUp.{number-some}
use Rattle.model.specs.declared.Refusal.{Refusal}
use Rattle.model.specs.declared.Refusal.TheVariants.{QueueSize, Misaligned}
use Rattle.model.specs.declared.Queue.{Queue}

-- areas that were placed: a good size, and inside the slice
pub record Inside (m : ℕ) (q : Queue) : Type 0 where
  pub size_ok : queue_size_ok q.size ≡ true
  pub desc-in : q.desc + 16 * q.size ≤ m
  pub avail-in : q.avail + (6 + 2 * q.size) ≤ m
  pub used-in : q.used + (6 + 8 * q.size) ≤ m

areas-inside : (m : ℕ) (rs : List Region) (size desc avail used : ℕ) (q : Queue) → sound m rs ≡ true → areas rs size desc avail used ≡ Ok q → Inside m q
unfolding areas placed
areas-inside m rs size desc avail used q s h =
    go (queue_size_ok size) (aligned desc avail used) (locate rs desc (16 * size)) (locate rs avail (6 + 2 * size)) (locate rs used (6 + 8 * size)) (entangled size desc avail used) refl refl refl refl h
  where
    go : (a b : Bool) (x y z : Option ℕ) (t : Bool) → queue_size_ok size ≡ a → locate rs desc (16 * size) ≡ x → locate rs avail (6 + 2 * size) ≡ y → locate rs used (6 + 8 * size) ≡ z
        → pick a (pick b (placed size x y z t) (Err Misaligned)) (Err QueueSize) ≡ Ok q → Inside m q
    go false b x y z t ea ex ey ez h = let n : ◌≡◌ {A = ℕ} 0 1 = cc in absurd (omega arith)
    go true false x y z t ea ex ey ez h = let n : ◌≡◌ {A = ℕ} 0 1 = cc in absurd (omega arith)
    go true true None y z t ea ex ey ez h = let n : ◌≡◌ {A = ℕ} 0 1 = cc in absurd (omega arith)
    go true true (Some x) None z t ea ex ey ez h = let n : ◌≡◌ {A = ℕ} 0 1 = cc in absurd (omega arith)
    go true true (Some x) (Some y) None t ea ex ey ez h = let n : ◌≡◌ {A = ℕ} 0 1 = cc in absurd (omega arith)
    go true true (Some x) (Some y) (Some z) true ea ex ey ez h = let n : ◌≡◌ {A = ℕ} 0 1 = cc in absurd (omega arith)
    go true true (Some x) (Some y) (Some z) false ea ex ey ez h =
        let e : record { size = size; desc = x; avail = y; used = z } ≡ q = cc in
        rw (← e)
        (record {
          size_ok = ea;
          desc-in = locate-slice m rs desc (16 * size) x s ex;
          avail-in = locate-slice m rs avail (6 + 2 * size) y s ey;
          used-in = locate-slice m rs used (6 + 8 * size) z s ez;
        })

-- the tower of `level` answers 2 only with memory and disk, where word 0 is not 1
two-parts : (a b c d e f : Bool) → ◌≡◌ {A = ℕ} (pick a (pick b 1 (pick c (pick d 2 (pick e (pick f 3 0) 0)) 0)) 0) 2 → (a ≡ true) × (c ≡ true)
two-parts false b c d e f h = absurd (omega arith)
two-parts true true c d e f h = absurd (omega arith)
two-parts true false false d e f h = absurd (omega arith)
two-parts true false true d e f h = (refl, refl)

level-two-parts : (s : List ℕ) → level s ≡ 2 → (memory_ok s ≡ true) × (disk_ok s ≡ true)
unfolding level
level-two-parts s h = two-parts (memory_ok s) (eqb (get_or s level_word 0) 1) (disk_ok s) (eqb (get_or s level_word 0) 2) (eqb (get_or s level_word 0) 3) (enabled_ok s) h

queue-tag : (s : List ℕ) (q : Queue) (c g start : ℕ) → state_words ≤ length s → get_or (queue_set s q c g start) level_word 0 ≡ 3
unfolding queue_set
queue-tag s q c g start l = put-below (set s level_word 3) size_word _ level_word (omega arith) ∙ get_or-set_same s level_word 3 0 (omega arith)

module _ (s : List ℕ) (q : Queue) (c g start : ℕ) (l : state_words ≤ length s) where
  o : (i : ℕ) → 0 < i → i < size_word → get_or (queue_set s q c g start) i 0 ≡ get_or s i 0
  o i h u = queue-other s q c g start i h u

  memory-enabled : memory_ok (queue_set s q c g start) ≡ memory_ok s
  unfolding memory_ok
  memory-enabled = rw (o regions_word (omega arith) (omega arith), o mem_len_word (omega arith) (omega arith), queue-part s q c g start (3 * get_or s regions_word 0))

  disk-enabled : disk_ok (queue_set s q c g start) ≡ disk_ok s
  unfolding disk_ok
  disk-enabled =
      rw (o start_word (omega arith) (omega arith), o sectors_word (omega arith) (omega arith), o backing_len_word (omega arith) (omega arith), o ro_word (omega arith) (omega arith), o id2_word (omega arith) (omega arith))

  w : (j : ℕ) → j < 19 → get_or (queue_set s q c g start) (size_word + j) 0 ≡ get_or (queue_words q c g start) j 0
  w j u = queue-word s q c g start j l u

  queue-enabled : Inside (get_or s mem_len_word 0) q → 2 * q.size ≤ c → 1048576 ≤ g → start < 65536 → queue_ok (queue_set s q c g start) ≡ true
  unfolding queue_ok lent_ok row_words
  queue-enabled i hc hg hs =
      rw (w 0 (omega arith), w 1 (omega arith), w 2 (omega arith), w 3 (omega arith), w 4 (omega arith), w 5 (omega arith), w 6 (omega arith), w 7 (omega arith), w 18 (omega arith), o mem_len_word (omega arith) (omega arith))
      (both_true (queue_size_ok q.size) _ i.size_ok
      (both_true (leb (q.desc + 16 * q.size) (get_or s mem_len_word 0)) _ (le-leb (q.desc + 16 * q.size) (get_or s mem_len_word 0) i.desc-in)
      (both_true (leb (q.avail + (6 + 2 * q.size)) (get_or s mem_len_word 0)) _ (le-leb (q.avail + (6 + 2 * q.size)) (get_or s mem_len_word 0) i.avail-in)
      (both_true (leb (q.used + (6 + 8 * q.size)) (get_or s mem_len_word 0)) _ (le-leb (q.used + (6 + 8 * q.size)) (get_or s mem_len_word 0) i.used-in)
      (both_true (leb (2 * q.size) c) _ (le-leb (2 * q.size) c hc)
      (both_true (leb 1048576 g) _ (le-leb 1048576 g hg) (both_true (ltb start 65536) _ (lt-ltb start 65536 hs) (both_true (ltb start 65536) _ (lt-ltb start 65536 hs) (le-leb 0 q.size (omega arith))))))))))

  phase-enabled : phase_ok (queue_set s q c g start) ≡ true
  unfolding phase_ok tags_ok sane row_words row_of
  phase-enabled = rw (w 8 (omega arith), queue-phase s q c g start l)

  pub enables : level s ≡ 2 → Inside (get_or s mem_len_word 0) q → 2 * q.size ≤ c → 1048576 ≤ g → start < 65536 → level (queue_set s q c g start) ≡ 3
  unfolding level enabled_ok
  enables h i hc hg hs =
      let p = level-two-parts s h in
      let tag = queue-tag s q c g start l in
      tower-all (memory_ok (queue_set s q c g start)) (eqb (get_or (queue_set s q c g start) level_word 0) 1) (disk_ok (queue_set s q c g start)) (eqb (get_or (queue_set s q c g start) level_word 0) 2)
      (eqb (get_or (queue_set s q c g start) level_word 0) 3) (enabled_ok (queue_set s q c g start)) (memory-enabled ∙ p.0) (rw tag) (disk-enabled ∙ p.1) (rw tag) (rw tag)
      (both_true (queue_ok (queue_set s q c g start)) _ (queue-enabled i hc hg hs) phase-enabled)

-- a refusal of the areas is no 0
pub refused-code : (rs : List Region) (size desc avail used : ℕ) (n : Refusal) → areas rs size desc avail used ≡ Err n → number n ≡ 0 → ⊥
refused-code rs size desc avail used n e h = number-some n h

-- hd_enable_at answered 0: the queue is enabled
enabled-areas : (s : List ℕ) (c g start : ℕ) (x : Result Queue Refusal) (size desc avail used : ℕ) → state_words ≤ length s → level s ≡ 2 → areas (regions (map_words s)) size desc avail used ≡ x
    → (enabled_with s c g start (numbered x)).code ≡ 0 → level (enabled_with s c g start (numbered x)).state ≡ 3
unfolding enabled_with
enabled-areas s c g start (Err n) size desc avail used l h e = λ z. absurd (refused-code (regions (map_words s)) size desc avail used n e z)
enabled-areas s c g start (Ok q) size desc avail used l h e =
    let P : Set → Type 0 = λ x. x.code ≡ 0 → level x.state ≡ 3 in
    let m = memory-ok s (level-two s h) in
    on P (ltb c (2 * q.size)) (λ f z. absurd (omega arith))
    (λ f. on P (ltb g 1048576) (λ f z. absurd (omega arith))
    (λ k. on P (leb 65536 start) (λ f z. absurd (omega arith))
    (λ t z. enables s q c g start l h (areas-inside (get_or s mem_len_word 0) (regions (map_words s)) size desc avail used q m.sound-map e) (ltb-false c (2 * q.size) f) (ltb-false g 1048576 k) (leb-false 65536 start t))))

pub enable-enables : (s : List ℕ) (size desc avail used c g start : ℕ) → (hd_enable_at s size desc avail used c g start).code ≡ 0
    → level (hd_enable_at s size desc avail used c g start).state ≡ 3
unfolding hd_enable_at
enable-enables s size desc avail used c g start =
    let P : Set → Type 0 = λ x. x.code ≡ 0 → level x.state ≡ 3 in
    on P (ltb (length s) state_words) (λ e z. absurd (omega arith))
    (λ e. on P (eqb (level s) 2)
    (λ f. enabled-areas s c g start (areas (regions (map_words s)) size desc avail used) size desc avail used (ltb-false (length s) state_words e) (eqb-true (level s) 2 f) refl)
    (λ f z. absurd (omega arith)))

-- hd_memory answered 0: memory is registered
memory-level : (s ws : List ℕ) (m : ℕ) → state_words ≤ length s → memory_code m ws ≡ 0 → level (memory_set s ws m) ≡ 1
unfolding level memory_ok memory_set
memory-level s ws m l e =
    let few = mapped m ws e in
    let xs : List ℕ = 1 ∷ m ∷ length ws / 3 ∷ [] in
    let s₂ = put s level_word xs in
    let k : state_words ≤ length s₂ = rw (length-put s level_word xs) l in
    let at : (j : ℕ) → j < 3 → get_or (put s₂ regions_from ws) (level_word + j) 0 ≡ get_or xs j 0 =
    λ j h. put-below s₂ regions_from ws (level_word + j) (omega arith) ∙ put_in s level_word xs j h (omega arith) in
    let n : 3 * (length ws / 3) ≡ length ws = omega (arith, few.threes) in
    let r : regions_from + length ws ≤ length s₂ = omega (arith, few.few) in
    let p : part regions_from (length ws) (put s₂ regions_from ws) ≡ ws = part-put s₂ regions_from (length ws) ws refl r in
    rw (at 0 (omega arith), at 1 (omega arith), at 2 (omega arith), n, p, le-leb 1 (length ws / 3) few.some, le-leb (length ws / 3) regions_max few.few, few.each-sound)

pub memory-registers : (s ws : List ℕ) (m : ℕ) → (hd_memory s ws m).code ≡ 0 → level (hd_memory s ws m).state ≡ 1
unfolding hd_memory
memory-registers s ws m =
    let P : Set → Type 0 = λ x. x.code ≡ 0 → level x.state ≡ 1 in
    on P (ltb (length s) state_words) (λ e z. absurd (omega arith))
    (λ e. on P (eqb (memory_code m ws) 0) (λ f z. memory-level s ws m (ltb-false (length s) state_words e) (eqb-true (memory_code m ws) 0 f)) (λ f z. absurd (eqb-false (memory_code m ws) 0 f z)))

-- hd_disk answered 0: there is a disk
low_parts : (a b c d e f : Bool) → 1 ≤ pick a (pick b 1 (pick c (pick d 2 (pick e (pick f 3 0) 0)) 0)) 0 → a ≡ true
low_parts false b c d e f h = absurd (omega arith)
low_parts true b c d e f h = refl

level-some : (s : List ℕ) → 1 ≤ level s → memory_ok s ≡ true
unfolding level
level-some s h = low_parts (memory_ok s) (eqb (get_or s level_word 0) 1) (disk_ok s) (eqb (get_or s level_word 0) 2) (eqb (get_or s level_word 0) 3) (enabled_ok s) h

flag-low : (ro : ℕ) → flag ro ≤ 1
flag-low ro = on (λ (n : ℕ). n ≤ 1) (eqb ro 0) (λ e. omega arith) (λ e. omega arith)

disk-level : (s : List ℕ) (start sectors ro : ℕ) (id : List ℕ) (b : ℕ) → state_words ≤ length s → 1 ≤ level s → disk_code start sectors b ≡ 0 → ((i : ℕ) → get_or id i 0 < 256)
    → level (disk_set s start sectors ro id b) ≡ 2
unfolding level memory_ok disk_ok disk_set
disk-level s start sectors ro id b l h e f =
    let m = memory-ok s (level-some s h) in
    let few = m.few in
    let some = m.some in
    let xs : List ℕ = start ∷ sectors ∷ flag ro ∷ b ∷ word 8 0 id ∷ word 8 8 id ∷ word 4 16 id ∷ [] in
    let s₂ = set s level_word 2 in
    let k : state_words ≤ length s₂ = rw (length-set s level_word 2) l in
    let at : (j : ℕ) → j < 7 → get_or (put s₂ start_word xs) (start_word + j) 0 ≡ get_or xs j 0 = λ j u. put_in s₂ start_word xs j u (omega arith) in
    let o : (i : ℕ) → 0 < i → i < start_word → get_or (put s₂ start_word xs) i 0 ≡ get_or s i 0 = λ i u v. put-below s₂ start_word xs i v ∙ get_or-set_other s level_word i 2 0 (λ z. omega arith) in
    let t : get_or (put s₂ start_word xs) level_word 0 ≡ 2 = put-below s₂ start_word xs level_word (omega arith) ∙ get_or-set_same s level_word 2 0 (omega arith) in
    let p : part regions_from (3 * get_or s regions_word 0) (put s₂ start_word xs) ≡ part regions_from (3 * get_or s regions_word 0) s =
    part-put-other s₂ regions_from (3 * get_or s regions_word 0) start_word xs (after (omega arith)) ∙ (ap (part regions_from (3 * get_or s regions_word 0)) (sym (put_one s level_word 2)) ∙ part-put-other s regions_from (3 * get_or s regions_word 0) level_word (2 ∷ []) (after (omega arith))) in
    rw (
      t,
      o regions_word (omega arith) (omega arith),
      o mem_len_word (omega arith) (omega arith),
      p,
      le-leb 1 (get_or s regions_word 0) some,
      le-leb (get_or s regions_word 0) regions_max few,
      m.sound-map,
      at 0 (omega arith),
      at 1 (omega arith),
      at 3 (omega arith),
      at 2 (omega arith),
      at 6 (omega arith),
      e,
      le-leb (flag ro) 1 (flag-low ro),
      lt-ltb (word 4 16 id) (2 ^ 32) (word_below 4 16 id f),
    )

pub disk-registers : (s : List ℕ) (start sectors ro : ℕ) (id : List ℕ) (b : ℕ) → ((i : ℕ) → get_or id i 0 < 256) → (hd_disk s start sectors ro id b).code ≡ 0
    → level (hd_disk s start sectors ro id b).state ≡ 2
unfolding hd_disk
disk-registers s start sectors ro id b f =
    let P : Set → Type 0 = λ x. x.code ≡ 0 → level x.state ≡ 2 in
    on P (ltb (length s) state_words) (λ e z. absurd (omega arith))
    (λ e. on P (both (leb 1 (level s)) (leb (level s) 2))
    (λ h. on P (eqb (length id) 20)
    (λ i. on P (eqb (disk_code start sectors b) 0)
    (λ d z. disk-level s start sectors ro id b (ltb-false (length s) state_words e) (leb-true 1 (level s) (both_l (leb 1 (level s)) (leb (level s) 2) h)) (eqb-true (disk_code start sectors b) 0 d) f)
    (λ d z. absurd (eqb-false (disk_code start sectors b) 0 d z)))
    (λ i z. absurd (omega arith)))
    (λ h z. absurd (omega arith)))
