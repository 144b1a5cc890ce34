-- Every history that begins with nothing enabled makes only good states. So on such a state no test fails: a step is never refused for its words.
use Prim.Native.Nat.{ℕ, ◌+◌, ◌*◌, ◌/◌, ◌≤◌, ◌<◌}
use mathlib.Core.Bool.{Bool, true, false}
use mathlib.Core.List.{List, [], ◌∷◌, ◌++◌}
use mathlib.Core.Path.{◌≡◌, refl, sym, ap, ◌∙◌}
use native.Mathlib.Omega.{arith}
use lib.Dec.{leb, ltb, eqb}
use lib.ListN.{get_or, length, set, length-set}
use lib.Seq.{get_or-set_same, get_or-set_other}
use borrow.Author.Tests.{ltb-false, eqb-true}
use Rattle.model.specs.Pick.{pick, both}
use Rattle.model.specs.Bytes.{put, part}
use Rattle.model.specs.Memory.{Region, regions, locate, memory_code}
use Rattle.model.specs.Ring.{areas, placed, queue_size_ok, aligned, entangled}
use Rattle.model.specs.Request.{disk_code}
use Rattle.model.specs.Sane.{ready}
use Rattle.model.specs.Step.{next, chained, measured, fetched, step, step_with, counted, effect}
use Rattle.model.proofs.Tests.{on}
use Rattle.model.proofs.Lists.{below, after, put-below, put_in, put_one, part-put-other}
use Rattle.model.proofs.Memory.{locate-in}
use Rattle.words.specs.Layout.{state_words, row_of, row_words, row_at, phase_of, saved, config_at, map_words, memory_ok, disk_ok, enabled_ok, level, level_word, mem_len_word, regions_word, start_word, sectors_word, ro_word, size_word, desc_area_word, avail_area_word, used_area_word, taken_word, answered_word, descs_word, regions_from}
use Rattle.words.proofs.Saved.{phase-saved, others-saved}
use Rattle.device.specs.Turn.{cfg_of, state_of}
use Rattle.hostiledisk.specs.Calls.{Set, Called, memory_set, hd_memory, hd_disk, disk_set, queue_words, queue_set, numbered, enabled_with, hd_enable_at, hd_reset, hd_step, stepped, stepped_on, Going}
use Rattle.hostiledisk.proofs.Laws.{level-three, fit_of}
use Rattle.guarantees.specs.History.{Call, memory, disk, enable, reset, step as step_over, World, ran, left, run, BytesNow, Bytes}
use Rattle.guarantees.specs.Good.{Good, Open, Area, Made}
use Rattle.guarantees.proofs.Step.{by-step}
use Rattle.guarantees.proofs.Keeps.{keeps-next}
use Rattle.guarantees.proofs.Open.{keeps-open}
use Rattle.guarantees.proofs.Good.{good-ready}
use Rattle.std.specs.Prelude.{Option, Some, None, Result, Ok, Err}
use Rattle.model.specs.declared.Refusal.{Refusal}
use Rattle.model.specs.declared.Refusal.TheVariants.{QueueSize, Misaligned}
use Rattle.model.specs.declared.Queue.{Queue}
use Rattle.model.specs.declared.Phase.{Phase}
use Rattle.model.specs.declared.Phase.TheVariants.{Poll}

-- the words that set-up wrote are the same after a step
pub part-saved : (s : List ℕ) (t a n : ℕ) (p : Phase) (k : ℕ) → part regions_from k (saved s t a n p) ≡ part regions_from k s
unfolding saved row_words
part-saved s t a n p k = part-put-other s regions_from k taken_word (t ∷ a ∷ (row_words (row_of p) ++ (n ∷ []))) (after (omega arith))

pub map-saved : (s : List ℕ) (t a n : ℕ) (p : Phase) → map_words (saved s t a n p) ≡ map_words s
map-saved s t a n p = rw (others-saved s t a n p regions_word (below (omega arith))) (part-saved s t a n p (3 * get_or s regions_word 0))

-- a step of the words that were made
made-saved : (s : List ℕ) (t a n : ℕ) (p : Phase) (chain chain₂ : List ℕ) → state_words ≤ length s → Made s chain
    → Good (regions (map_words s)) (get_or s size_word 0) (get_or s sectors_word 0) chain₂ p → Open (get_or s ro_word 0) p → Made (saved s t a n p) chain₂
made-saved s t a n p chain chain₂ l m g o =
    let w : (i : ℕ) → i < taken_word → get_or (saved s t a n p) i 0 ≡ get_or s i 0 = λ i u. others-saved s t a n p i (below u) in
    record {
      desc-area = rw (map-saved s t a n p, w size_word (omega arith), w desc_area_word (omega arith)) m.desc-area;
      avail-area = rw (map-saved s t a n p, w size_word (omega arith), w avail_area_word (omega arith)) m.avail-area;
      used-area = rw (map-saved s t a n p, w size_word (omega arith), w used_area_word (omega arith)) m.used-area;
      good = rw (map-saved s t a n p, w size_word (omega arith), w sectors_word (omega arith), phase-saved s t a n p l) g;
      open-disk = rw (w ro_word (omega arith), phase-saved s t a n p l) o;
    }

pub made-step : (s mem backing chain stage : List ℕ) → ((i : ℕ) → get_or mem i 0 < 256) → Going s (phase_of (row_at s)) (length mem) (length backing) chain (length stage) → Made s chain
    → Made (stepped_on s mem backing chain stage).state (stepped_on s mem backing chain stage).chain
unfolding stepped_on stepped step step_with config_at
made-step s mem backing chain stage b g m =
    let p = phase_of (row_at s) in
    let c = cfg_of (config_at s) (map_words s) in
    let f = fetched c (state_of (get_or s taken_word 0) (get_or s answered_word 0) (get_or s descs_word 0) p) chain mem in
    let x = fit_of s p (length mem) (length backing) chain (length stage) g in
    made-saved s (counted (effect chain stage p f) (get_or s taken_word 0)) (counted (effect chain stage p f) (get_or s answered_word 0)) (measured c (get_or s descs_word 0) p f) (next c (get_or s taken_word 0) chain stage p f) chain (chained c chain p f)
    g.words_long m
    (keeps-next c (get_or s taken_word 0) (get_or s answered_word 0) (get_or s descs_word 0) mem chain stage p b x.size-some x.chain-long m.good)
    (keeps-open c (get_or s taken_word 0) chain stage p f m.open-disk)

-- the tower of `level` answers 3 only where word 0 is 3
tower-tag : (a b c d e f : Bool) → ◌≡◌ {A = ℕ} (pick a (pick b 1 (pick c (pick d 2 (pick e (pick f 3 0) 0)) 0)) 0) 3 → e ≡ true
tower-tag false b c d e f h = absurd (omega arith)
tower-tag true true c d e f h = absurd (omega arith)
tower-tag true false false d e f h = absurd (omega arith)
tower-tag true false true true e f h = absurd (omega arith)
tower-tag true false true false false f h = absurd (omega arith)
tower-tag true false true false true f h = refl

pub level-tag : (s : List ℕ) → level s ≡ 3 → get_or s level_word 0 ≡ 3
unfolding level
level-tag s h =
    eqb-true (get_or s level_word 0) 3 (tower-tag (memory_ok s) (eqb (get_or s level_word 0) 1) (disk_ok s) (eqb (get_or s level_word 0) 2) (eqb (get_or s level_word 0) 3) (enabled_ok s) h)

-- enabling: where the areas lie
areas-placed : (rs : List Region) (size desc avail used : ℕ) (q : Queue) → areas rs size desc avail used ≡ Ok q
    → Area rs q.desc (16 * q.size) × Area rs q.avail (6 + 2 * q.size) × Area rs q.used (6 + 8 * q.size)
unfolding areas placed
areas-placed rs size desc avail used q h =
    go (queue_size_ok size) (aligned desc avail used) (locate rs desc (16 * size)) (locate rs avail (6 + 2 * size)) (locate rs used (6 + 8 * size)) (entangled size desc avail used) refl refl refl h
  where
    go : (a b : Bool) (x y z : Option ℕ) (t : Bool) → locate rs desc (16 * size) ≡ x → locate rs avail (6 + 2 * size) ≡ y → locate rs used (6 + 8 * size) ≡ z
        → pick a (pick b (placed size x y z t) (Err Misaligned)) (Err QueueSize) ≡ Ok q
        → Area rs q.desc (16 * q.size) × Area rs q.avail (6 + 2 * q.size) × Area rs q.used (6 + 8 * q.size)
    go false b x y z t ex ey ez h = let n : ◌≡◌ {A = ℕ} 0 1 = cc in absurd (omega arith)
    go true false x y z t ex ey ez h = let n : ◌≡◌ {A = ℕ} 0 1 = cc in absurd (omega arith)
    go true true None y z t ex ey ez h = let n : ◌≡◌ {A = ℕ} 0 1 = cc in absurd (omega arith)
    go true true (Some x) None z t ex ey ez h = let n : ◌≡◌ {A = ℕ} 0 1 = cc in absurd (omega arith)
    go true true (Some x) (Some y) None t ex ey ez h = let n : ◌≡◌ {A = ℕ} 0 1 = cc in absurd (omega arith)
    go true true (Some x) (Some y) (Some z) true ex ey ez h = let n : ◌≡◌ {A = ℕ} 0 1 = cc in absurd (omega arith)
    go true true (Some x) (Some y) (Some z) false ex ey ez h =
        let e : record { size = size; desc = x; avail = y; used = z } ≡ q = cc in
        rw (← e) (
          record { address = desc; in_one = locate-in rs desc (16 * size) x ex },
          record { address = avail; in_one = locate-in rs avail (6 + 2 * size) y ey },
          record { address = used; in_one = locate-in rs used (6 + 8 * size) z ez },
        )

-- the words after enabling
pub queue-word : (s : List ℕ) (q : Queue) (chain stage start : ℕ) (j : ℕ) → state_words ≤ length s → j < 19
    → get_or (queue_set s q chain stage start) (size_word + j) 0 ≡ get_or (queue_words q chain stage start) j 0
unfolding queue_set row_words
queue-word s q chain stage start j l h =
    put_in (set s level_word 3) size_word (queue_words q chain stage start) j h (rw (length-set s level_word 3) (omega arith))

pub queue-other : (s : List ℕ) (q : Queue) (chain stage start : ℕ) (i : ℕ) → 0 < i → i < size_word → get_or (queue_set s q chain stage start) i 0 ≡ get_or s i 0
unfolding queue_set
queue-other s q chain stage start i h l =
    put-below (set s level_word 3) size_word (queue_words q chain stage start) i l
    ∙ get_or-set_other s level_word i 3 0 (λ e. omega arith)

pub queue-part : (s : List ℕ) (q : Queue) (chain stage start n : ℕ) → part regions_from n (queue_set s q chain stage start) ≡ part regions_from n s
unfolding queue_set row_words
queue-part s q chain stage start n =
    part-put-other (set s level_word 3) regions_from n size_word (queue_words q chain stage start) (after (omega arith))
    ∙ (ap (part regions_from n) (sym (put_one s level_word 3)) ∙ part-put-other s regions_from n level_word (3 ∷ []) (after (omega arith)))

queue-map : (s : List ℕ) (q : Queue) (chain stage start : ℕ) → map_words (queue_set s q chain stage start) ≡ map_words s
queue-map s q chain stage start = rw (queue-other s q chain stage start regions_word (omega arith) (omega arith)) (queue-part s q chain stage start (3 * get_or s regions_word 0))

pub queue-phase : (s : List ℕ) (q : Queue) (chain stage start : ℕ) → state_words ≤ length s → phase_of (row_at (queue_set s q chain stage start)) ≡ Poll
unfolding row_at row_words row_of phase_of
queue-phase s q chain stage start l =
    rw (queue-word s q chain stage start 8 l (omega arith))

made-enable : (s : List ℕ) (q : Queue) (chain stage start : ℕ) (held : List ℕ) → state_words ≤ length s
    → Area (regions (map_words s)) q.desc (16 * q.size) × Area (regions (map_words s)) q.avail (6 + 2 * q.size) × Area (regions (map_words s)) q.used (6 + 8 * q.size)
    → Made (queue_set s q chain stage start) held
unfolding Good Open row_words
made-enable s q chain stage start held l a =
    let w : (j : ℕ) → j < 19 → get_or (queue_set s q chain stage start) (size_word + j) 0 ≡ get_or (queue_words q chain stage start) j 0 =
    λ j u. queue-word s q chain stage start j l u in
    record {
      desc-area = rw (queue-map s q chain stage start, w 0 (omega arith), w 1 (omega arith)) a.0;
      avail-area = rw (queue-map s q chain stage start, w 0 (omega arith), w 2 (omega arith)) a.1;
      used-area = rw (queue-map s q chain stage start, w 0 (omega arith), w 3 (omega arith)) a.2;
      good = rw (queue-phase s q chain stage start l) tt;
      open-disk = rw (queue-phase s q chain stage start l) tt;
    }

-- if the queue is enabled, set-up and steps made it so
abbrev pub Kept : World → Type 0
Kept w = state_words ≤ length w.state → level w.state ≡ 3 → Made w.state w.chain

-- words whose first is not 3 are no enabled queue
not_three : (s chain : List ℕ) (n : ℕ) → get_or s level_word 0 ≡ n → (n ≡ 3 → ⊥) → state_words ≤ length s → level s ≡ 3 → Made s chain
not_three s chain n e f l h = absurd (f (sym e ∙ level-tag s h))

pub disk-tag : (s : List ℕ) (start sectors ro : ℕ) (id : List ℕ) (b : ℕ) → 0 < length s → get_or (disk_set s start sectors ro id b) level_word 0 ≡ 2
unfolding disk_set
disk-tag s start sectors ro id b h = put-below (set s level_word 2) start_word _ level_word (omega arith) ∙ get_or-set_same s level_word 2 0 h

pub memory-tag : (s ws : List ℕ) (m : ℕ) → state_words ≤ length s → get_or (memory_set s ws m) level_word 0 ≡ 1
unfolding memory_set
memory-tag s ws m h =
    let xs : List ℕ = 1 ∷ m ∷ length ws / 3 ∷ [] in
    put-below (put s level_word xs) regions_from ws level_word (omega arith) ∙ put_in s level_word xs 0 (omega arith) (omega arith)

kept_memory : (s chain ws : List ℕ) (m : ℕ) → (state_words ≤ length s → level s ≡ 3 → Made s chain)
    → state_words ≤ length (hd_memory s ws m).state → level (hd_memory s ws m).state ≡ 3 → Made (hd_memory s ws m).state chain
unfolding hd_memory
kept_memory s chain ws m k =
    let P : Set → Type 0 = λ x. state_words ≤ length x.state → level x.state ≡ 3 → Made x.state chain in
    on P (ltb (length s) state_words) (λ e. k)
    (λ e. on P (eqb (memory_code m ws) 0)
    (λ f l h. not_three (memory_set s ws m) chain 1 (memory-tag s ws m (ltb-false (length s) state_words e)) (λ z. omega arith) l h)
    (λ f. k))

kept-disk : (s chain : List ℕ) (start sectors ro : ℕ) (id : List ℕ) (b : ℕ) → (state_words ≤ length s → level s ≡ 3 → Made s chain)
    → state_words ≤ length (hd_disk s start sectors ro id b).state → level (hd_disk s start sectors ro id b).state ≡ 3 → Made (hd_disk s start sectors ro id b).state chain
unfolding hd_disk
kept-disk s chain start sectors ro id b k =
    let P : Set → Type 0 = λ x. state_words ≤ length x.state → level x.state ≡ 3 → Made x.state chain in
    on P (ltb (length s) state_words) (λ e. k)
    (λ e. on P (both (leb 1 (level s)) (leb (level s) 2))
    (λ f. on P (eqb (length id) 20)
    (λ f. on P (eqb (disk_code start sectors b) 0)
    (λ f l h. not_three (disk_set s start sectors ro id b) chain 2 (disk-tag s start sectors ro id b (omega (arith, ltb-false (length s) state_words e))) (λ z. omega arith) l h)
    (λ f. k))
    (λ f. k))
    (λ f. k))

kept-enabled : (s chain : List ℕ) (c g start : ℕ) (x : Result Queue Refusal) (rs : List Region) (size desc avail used : ℕ) → state_words ≤ length s
    → areas (regions (map_words s)) size desc avail used ≡ x → (state_words ≤ length s → level s ≡ 3 → Made s chain)
    → state_words ≤ length (enabled_with s c g start (numbered x)).state → level (enabled_with s c g start (numbered x)).state ≡ 3
    → Made (enabled_with s c g start (numbered x)).state chain
unfolding enabled_with
kept-enabled s chain c g start (Err n) rs size desc avail used l e k = k
kept-enabled s chain c g start (Ok q) rs size desc avail used l e k =
    let P : Set → Type 0 = λ x. state_words ≤ length x.state → level x.state ≡ 3 → Made x.state chain in
    on P (ltb c (2 * q.size)) (λ f. k)
    (λ f. on P (ltb g 1048576) (λ f. k)
    (λ f. on P (leb 65536 start) (λ f. k)
    (λ f u v. made-enable s q c g start chain l (areas-placed (regions (map_words s)) size desc avail used q e))))

kept-enable : (s chain : List ℕ) (size desc avail used c g start : ℕ) → (state_words ≤ length s → level s ≡ 3 → Made s chain)
    → state_words ≤ length (hd_enable_at s size desc avail used c g start).state → level (hd_enable_at s size desc avail used c g start).state ≡ 3
    → Made (hd_enable_at s size desc avail used c g start).state chain
unfolding hd_enable_at
kept-enable s chain size desc avail used c g start k =
    let P : Set → Type 0 = λ x. state_words ≤ length x.state → level x.state ≡ 3 → Made x.state chain in
    on P (ltb (length s) state_words) (λ e. k)
    (λ e. on P (eqb (level s) 2)
    (λ f. kept-enabled s chain c g start (areas (regions (map_words s)) size desc avail used) [] size desc avail used (ltb-false (length s) state_words e) refl k)
    (λ f. k))

kept-reset : (s chain : List ℕ) → (state_words ≤ length s → level s ≡ 3 → Made s chain)
    → state_words ≤ length (hd_reset s).state → level (hd_reset s).state ≡ 3 → Made (hd_reset s).state chain
unfolding hd_reset
kept-reset s chain k =
    let P : List ℕ → Type 0 = λ x. state_words ≤ length x → level x ≡ 3 → Made x chain in
    on (λ (x : Set). P x.state) (ltb (length s) state_words) (λ e. k)
    (λ e. on P (eqb (level s) 3)
    (λ f l h. not_three (set s level_word 2) chain 2 (get_or-set_same s level_word 2 0 (omega (arith, ltb-false (length s) state_words e))) (λ z. omega arith) l h) (λ f. k))

kept_step : (s mem backing chain stage : List ℕ) → ((i : ℕ) → get_or mem i 0 < 256) → (state_words ≤ length s → level s ≡ 3 → Made s chain)
    → state_words ≤ length (hd_step s mem backing chain stage).state → level (hd_step s mem backing chain stage).state ≡ 3
    → Made (hd_step s mem backing chain stage).state (hd_step s mem backing chain stage).chain
kept_step s mem backing chain stage b k =
    by-step (λ (o : Called). state_words ≤ length o.state → level o.state ≡ 3 → Made o.state o.chain) s mem backing chain stage (λ n. k)
    (λ g l h. made-step s mem backing chain stage b g (k g.words_long g.enabled))

pub kept-call : (w : World) (c : Call) → BytesNow c → Kept w → Kept (left (ran w c))
unfolding ran BytesNow
kept-call w (memory words m) b k = kept_memory w.state w.chain words m k
kept-call w (disk start sectors ro id backing) b k = kept-disk w.state w.chain start sectors ro id backing k
kept-call w (enable size desc avail used chain stage start) b k = kept-enable w.state w.chain size desc avail used chain stage start k
kept-call w reset b k = kept-reset w.state w.chain k
kept-call w (step_over mem) b k = kept_step w.state mem w.backing w.chain w.stage b k

-- every history keeps it; a world in which nothing is enabled has it
pub reached : (w : World) (cs : List Call) → Bytes cs → Kept w → Kept (run w cs)
unfolding run Bytes
reached w [] b k = k
reached w (c ∷ cs) b k = reached (left (ran w c)) cs b.1 (kept-call w c b.0 k)

pub kept-start : (w : World) → (level w.state ≡ 3 → ⊥) → Kept w
kept-start w n l h = absurd (n h)

-- on a state that was made no test of the step fails
pub made-ready : (s chain : List ℕ) → level s ≡ 3 → Made s chain → ready (get_or s mem_len_word 0) chain (phase_of (row_at s)) ≡ true
made-ready s chain h m =
    good-ready (get_or s mem_len_word 0) (regions (map_words s)) (get_or s size_word 0) (get_or s sectors_word 0) chain (phase_of (row_at s)) (level-three s h).memory.sound-map m.good
