-- 2, 3 and 4: what a step reads of guest memory, what it writes of it, and that a refusal changes nothing. No word of the state is assumed to be anything.
use Prim.Native.Nat.{ℕ, zero, suc, ◌+◌, ◌-◌, ◌*◌, ◌≤◌, ◌<◌}
use mathlib.Core.Bool.{Bool, true, false}
use mathlib.Core.List.{List, [], ◌∷◌, ◌++◌}
use mathlib.Core.Path.{◌≡◌, refl, ap, ◌∙◌}
use native.Mathlib.Omega.{arith}
use native.Mathlib.Nat.{mod-lt, add-zero}
use lib.Dec.{ltb, eqb}
use lib.ListN.{get_or, length, take, drop, length-take, length-append}
use Rattle.model.specs.Pick.{pick}
use Rattle.model.specs.Bytes.{put, part, bytes}
use Rattle.model.specs.Sane.{ready}
use Rattle.model.specs.Request.{status, reported}
use Rattle.model.specs.Ring.{plus_one}
use borrow.Author.Tests.{le-ltb, eq-eqb}
use Rattle.model.specs.Step.{Effect, nothing, stores, answers, publishes, Store, apply, scatter, spans, writables, handed, status_at, used_at, answer_stores, mem_stores, effect, disk_of, step, step_with, fetched, want, left, code_of, code_after, ends, next, Cfg}
use Rattle.model.specs.declared.Span.{Span}
use Rattle.model.proofs.Lists.{Apart, below, above, part-cong, put-apart}
use Rattle.model.proofs.Step.{spans-turn}
use Rattle.model.proofs.Words.{length-bytes}
use Rattle.words.specs.Layout.{state_words, row_at, phase_of, level, config_at, map_words, mem_len_word, sectors_word, size_word, taken_word, answered_word, descs_word}
use Rattle.device.specs.Turn.{Fit, cfg_of, state_of}
use Rattle.device.proofs.Laws.{header-fit, payload-fit, answer-fit}
use Rattle.hostiledisk.specs.Calls.{Called, untouched, is_broken, long_enough, stepped, stepped_on, Going, hd_step}
use Rattle.hostiledisk.proofs.Laws.{fit_of}
use Rattle.model.proofs.Sane.{chain-ok}
use Rattle.guarantees.specs.History.{wanted, touched, Clear}
use Rattle.guarantees.proofs.Step.{by-step}
use Rattle.model.specs.declared.Queue.{Queue}
use Rattle.model.specs.declared.Walk.{Walk}
use Rattle.model.specs.declared.Job.{Job}
use Rattle.model.specs.declared.Phase.{Phase}
use Rattle.model.specs.declared.Phase.TheVariants.{Poll, Entry, Chain, Header, Payload, Answer, Publish, Broken}

-- 2. Two memories that agree on the wanted range give the same state, disk and answer.
pub record Same (x y : Called) : Type 0 where
  pub code_same : x.code ≡ y.code
  pub state-same : x.state ≡ y.state
  pub backing-same : x.backing ≡ y.backing
  pub chain_same : x.chain ≡ y.chain
  pub stage-same : x.stage ≡ y.stage

same-pick : (t : Bool) (x₁ y₁ x₂ y₂ : Called) → Same x₁ x₂ → Same y₁ y₂ → Same (pick t x₁ y₁) (pick t x₂ y₂)
same-pick true x₁ y₁ x₂ y₂ a b = a
same-pick false x₁ y₁ x₂ y₂ a b = b

module _ (s m₁ m₂ backing chain stage : List ℕ) (l : length m₁ ≡ length m₂)
    (h : (i : ℕ) → (wanted s chain).at ≤ i → i < (wanted s chain).at + (wanted s chain).len → get_or m₁ i 0 ≡ get_or m₂ i 0) where
  same-untouched : (n : ℕ) → Same (untouched n s m₁ backing chain stage) (untouched n s m₂ backing chain stage)
  same-untouched n = record { code_same = refl; state-same = refl; backing-same = refl; chain_same = refl; stage-same = refl }

  same-stepped : Same (stepped_on s m₁ backing chain stage) (stepped_on s m₂ backing chain stage)
  unfolding stepped_on stepped step step_with
  same-stepped =
      let e : part (wanted s chain).at (wanted s chain).len m₁ ≡ part (wanted s chain).at (wanted s chain).len m₂ =
      part-cong (wanted s chain).at (wanted s chain).len m₁ m₂ l h in
      record { code_same = rw e; state-same = rw e; backing-same = rw e; chain_same = rw e; stage-same = rw e }

  pub footprint : Same (hd_step s m₁ backing chain stage) (hd_step s m₂ backing chain stage)
  unfolding hd_step
  footprint =
      let u = same-untouched in
      rw l
      (same-pick (ltb (length s) state_words) _ _ _ _ (u 4)
      (same-pick (eqb (level s) 3) _ _ _ _
      (same-pick (is_broken (phase_of (row_at s))) _ _ _ _ (u 3)
      (same-pick (long_enough s (length m₂) (length backing) (length chain) (length stage)) _ _ _ _
      (same-pick (ready (get_or s mem_len_word 0) chain (phase_of (row_at s))) _ _ _ _ same-stepped (u 4)) (u 4)))
      (u 4)))

-- .. the range lies inside the slice
in-slice : (s mem backing chain stage : List ℕ) (p : Phase) → Fit (config_at s) (get_or s taken_word 0) (get_or s answered_word 0) p (map_words s) (length mem) (length backing) chain (length stage)
    → (want (cfg_of (config_at s) (map_words s)) (get_or s taken_word 0) chain p).at + (want (cfg_of (config_at s) (map_words s)) (get_or s taken_word 0) chain p).len ≤ length mem
unfolding want config_at
in-slice s mem backing chain stage Poll f = omega (arith, f.avail-in, f.mem_long)
in-slice s mem backing chain stage Entry f = omega (arith, f.avail-in, f.mem_long, mod-lt (get_or s taken_word 0) f.size-some)
in-slice s mem backing chain stage (Chain k cur) f = omega (arith, f.desc-in, f.mem_long, (chain-ok (get_or s size_word 0) (get_or s sectors_word 0) k cur f.sane-phase).cur-in)
in-slice s mem backing chain stage (Header k p got) f =
    let g = header-fit (config_at s) (get_or s taken_word 0) (get_or s answered_word 0) (map_words s) (length mem) (length backing) chain (length stage) k p got f in
    omega (arith, g.buffer-in, g.skip-in)
in-slice s mem backing chain stage (Payload k p sector got) f =
    let g = payload-fit (config_at s) (get_or s taken_word 0) (get_or s answered_word 0) (map_words s) (length mem) (length backing) chain (length stage) k p sector got f in
    omega (arith, g.buffer-in, g.skip-in)
in-slice s mem backing chain stage (Answer k job got) f = omega arith
in-slice s mem backing chain stage (Publish k got) f = omega arith
in-slice s mem backing chain stage (Broken reason head count at) f = omega arith

pub wanted-in : (s mem backing chain stage : List ℕ) → Going s (phase_of (row_at s)) (length mem) (length backing) chain (length stage)
    → (wanted s chain).at + (wanted s chain).len ≤ length mem
wanted-in s mem backing chain stage g =
    in-slice s mem backing chain stage (phase_of (row_at s)) (fit_of s (phase_of (row_at s)) (length mem) (length backing) chain (length stage) g)

-- 3. A step leaves every guest byte as it was, except bytes of the ranges that it may write.
unfoldable Misses : ℕ → List Store → Type 0
Misses i [] = Unit {0}
Misses i (x ∷ xs) = Apart i x.to (length x.bytes) × Misses i xs

apply-clear : (xs : List Store) (m : List ℕ) (i : ℕ) → Misses i xs → get_or (apply xs m) i 0 ≡ get_or m i 0
unfolding apply Misses
apply-clear [] m i c = refl
apply-clear (x ∷ xs) m i c = apply-clear xs (put m x.to x.bytes) i c.1 ∙ put-apart m x.to x.bytes i c.0

shorter : (i a n k : ℕ) → k ≤ n → Apart i a n → Apart i a k
shorter i a n k h (below l) = below l
shorter i a n k h (above l) = above (omega arith)

scatter-misses : (i : ℕ) (ss : List Span) (bs : List ℕ) → Clear i ss → Misses i (scatter ss bs)
unfolding scatter Misses Clear
scatter-misses i [] bs c = tt
scatter-misses i (x ∷ ss) bs c =
    (shorter i x.at x.len (length (take x.len bs)) (simp length-take (omega arith)) c.0, scatter-misses i ss (drop x.len bs) c.1)

misses-append : (i : ℕ) (xs ys : List Store) → Misses i xs → Misses i ys → Misses i (xs ++ ys)
unfolding Misses
misses-append i [] ys a b = b
misses-append i (x ∷ xs) ys a b = (a.0, misses-append i xs ys a.1 b)

-- the last of the writable buffers is one of them
clear_at : (i f e : ℕ) (chain : List ℕ) (d : ℕ) → f + d < e → Clear i (spans (e - f) f chain) → Apart i (get_or chain (2 * (f + d)) 0) (get_or chain (2 * (f + d) + 1) 0)
unfolding Clear
clear_at i f e chain zero h c = rw (add-zero f) (rw (spans-turn f e chain (omega arith)) at c).0
clear_at i f e chain (suc d) h c =
    let p : f + suc d ≡ f + 1 + d = omega arith in rw p (clear_at i (f + 1) e chain d (omega arith) (rw (spans-turn f e chain (omega arith)) at c).1)

within : (i a n b k : ℕ) → a ≤ b → b + k ≤ a + n → Apart i a n → Apart i b k
within i a n b k h g (below l) = below (omega arith)
within i a n b k h g (above l) = above (omega arith)

answer-misses : (id : List ℕ) (q : Queue) (a : ℕ) (chain disk : List ℕ) (k : Walk) (job : Job) (i : ℕ) → k.reads < k.count
    → 1 ≤ get_or chain (2 * (k.count - 1) + 1) 0 → Clear i (record { at = used_at q a; len = 8 } ∷ writables chain k)
    → Misses i (answer_stores id q a chain disk k job)
unfolding answer_stores Misses Clear
answer-misses id q a chain disk k job i w l c =
    let p : k.reads + (k.count - 1 - k.reads) ≡ k.count - 1 = omega arith in
    let last : Apart i (get_or chain (2 * (k.count - 1)) 0) (get_or chain (2 * (k.count - 1) + 1) 0) =
    rw p at (clear_at i k.reads k.count chain (k.count - 1 - k.reads) (omega arith) c.1) in
    misses-append i (scatter (writables chain k) (handed id disk k job))
    (record { to = status_at chain k; bytes = status job ∷ [] }
    ∷ record { to = used_at q a; bytes = bytes 4 k.head ++ bytes 4 (reported (status job) k.w) } ∷ [])
    (scatter-misses i (writables chain k) (handed id disk k job) c.1) (
      within i (get_or chain (2 * (k.count - 1)) 0) (get_or chain (2 * (k.count - 1) + 1) 0) (status_at chain k) 1 (omega arith) (omega arith) last,
      (rw (length-append (bytes 4 k.head) (bytes 4 (reported (status job) k.w)), length-bytes 4 k.head, length-bytes 4 (reported (status job) k.w)) c.0, tt),
    )

-- S1 to S5 write no guest memory
quiet-paid : (b : Bool) (at : ℕ) (bs : List ℕ) (c : Cfg) (a : ℕ) (chain disk mem : List ℕ) → apply (mem_stores c a chain disk (pick b (stores at bs) nothing)) mem ≡ mem
unfolding mem_stores apply
quiet-paid true at bs c a chain disk mem = refl
quiet-paid false at bs c a chain disk mem = refl

publish-apart : (at n i : ℕ) → Clear i (record { at = at; len = 2 } ∷ []) → Apart i at (length (bytes 2 n))
unfolding Clear
publish-apart at n i c = rw (length-bytes 2 n) c.0

wall-phase : (s mem backing chain stage : List ℕ) (p : Phase) (i : ℕ) → Fit (config_at s) (get_or s taken_word 0) (get_or s answered_word 0) p (map_words s) (length mem) (length backing) chain (length stage)
    → Clear i (touched (config_at s).queue (get_or s answered_word 0) chain p)
    → get_or (step (cfg_of (config_at s) (map_words s)) (state_of (get_or s taken_word 0) (get_or s answered_word 0) (get_or s descs_word 0) p) mem backing chain stage).mem i 0 ≡ get_or mem i 0
unfolding touched step step_with effect mem_stores apply
wall-phase s mem backing chain stage Poll i f c = refl
wall-phase s mem backing chain stage Entry i f c = refl
wall-phase s mem backing chain stage (Chain k cur) i f c = refl
wall-phase s mem backing chain stage (Header k p got) i f c = refl
wall-phase s mem backing chain stage (Payload k p sector got) i f c =
    let o = cfg_of (config_at s) (map_words s) in
    ap (λ (m : List ℕ). get_or m i 0)
    (quiet-paid (ends k got (left chain p).len) (512 * sector)
    (part 0 got stage ++ fetched o (state_of (get_or s taken_word 0) (get_or s answered_word 0) (get_or s descs_word 0) (Payload k p sector got)) chain mem) o (get_or s answered_word 0) chain (disk_of (config_at s).disk backing) mem)
wall-phase s mem backing chain stage (Answer k job got) i f c =
    let o = cfg_of (config_at s) (map_words s) in
    let g = answer-fit (config_at s) (get_or s taken_word 0) (get_or s answered_word 0) (map_words s) (length mem) (length backing) chain (length stage) k job got f in
    apply-clear (answer_stores o.id o.queue (get_or s answered_word 0) chain (disk_of (config_at s).disk backing) k job) mem i
    (answer-misses o.id o.queue (get_or s answered_word 0) chain (disk_of (config_at s).disk backing) k job i g.writable g.last_some c)
wall-phase s mem backing chain stage (Publish k got) i f c = put-apart mem ((config_at s).queue.used + 2) (bytes 2 (plus_one (get_or s answered_word 0))) i (publish-apart ((config_at s).queue.used + 2) (plus_one (get_or s answered_word 0)) i c)
wall-phase s mem backing chain stage (Broken reason head count at) i f c = refl

pub walls-memory : (s mem backing chain stage : List ℕ) (i : ℕ) → Clear i (touched (config_at s).queue (get_or s answered_word 0) chain (phase_of (row_at s)))
    → get_or (hd_step s mem backing chain stage).mem i 0 ≡ get_or mem i 0
unfolding stepped_on stepped
walls-memory s mem backing chain stage i c =
    by-step (λ (o : Called). get_or o.mem i 0 ≡ get_or mem i 0) s mem backing chain stage (λ n. refl)
    (λ g. wall-phase s mem backing chain stage (phase_of (row_at s)) i (fit_of s (phase_of (row_at s)) (length mem) (length backing) chain (length stage) g) c)

-- 4. A step that is refused (4), and a step of a broken queue, touch nothing.
after-low : (p : Phase) → code_after p < 4
unfolding code_after
after-low Poll = omega arith
after-low Entry = omega arith
after-low (Chain k cur) = omega arith
after-low (Header k p got) = omega arith
after-low (Payload k p s got) = omega arith
after-low (Answer k job got) = omega arith
after-low (Publish k got) = omega arith
after-low (Broken reason head count at) = omega arith

code-low : (e : Effect) (p : Phase) → code_of e p < 4
unfolding code_of
code-low nothing p = after-low p
code-low (stores at bs) p = after-low p
code-low (answers k job) p = after-low p
code-low publishes p = omega arith

pub refused-untouched : (s mem backing chain stage : List ℕ) → (hd_step s mem backing chain stage).code ≡ 4
    → hd_step s mem backing chain stage ≡ untouched 4 s mem backing chain stage
unfolding stepped_on stepped step step_with
refused-untouched s mem backing chain stage =
    let p = phase_of (row_at s) in
    let c = cfg_of (config_at s) (map_words s) in
    let f = fetched c (state_of (get_or s taken_word 0) (get_or s answered_word 0) (get_or s descs_word 0) p) chain mem in
    by-step (λ (o : Called). o.code ≡ 4 → o ≡ untouched 4 s mem backing chain stage) s mem backing chain stage (λ n e. rw e)
    (λ g e. absurd (omega (arith, code-low (effect chain stage p f) (next c (get_or s taken_word 0) chain stage p f), e)))

pub broken-untouched : (s mem backing chain stage : List ℕ) (reason head count at : ℕ) → state_words ≤ length s → level s ≡ 3
    → phase_of (row_at s) ≡ Broken reason head count at → hd_step s mem backing chain stage ≡ untouched 3 s mem backing chain stage
unfolding hd_step is_broken
broken-untouched s mem backing chain stage reason head count at l h e = rw (le-ltb (length s) state_words l, eq-eqb (level s) 3 h, e)
