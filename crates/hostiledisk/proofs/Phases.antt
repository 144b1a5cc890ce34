-- From what a phase's own function tests and does to `hd_step`.
use Prim.Native.Nat.{ℕ, ◌+◌, ◌*◌, ◌≤◌, ◌<◌}
use mathlib.Core.Bool.{Bool, true, false}
use mathlib.Core.List.{List}
use mathlib.Core.Path.{◌≡◌, refl, sym, ◌∙◌}
use native.Mathlib.Omega.{arith}
use lib.Dec.{leb, eqb}
use lib.ListN.{get_or, length}
use borrow.Author.Tests.{eqb-true, eqb-false, leb-true, le-ltb, le-leb, lt-leb}
use Rattle.model.specs.Ring.{size_max}
use Rattle.model.specs.Pick.{pick, both}
use Rattle.model.specs.Step.{step}
use Rattle.model.specs.Sane.{sane, ready, place_is_ok}
use Rattle.model.specs.declared.Walk.{Walk}
use Rattle.model.specs.declared.Place.{Place}
use Rattle.model.specs.declared.Job.{Job}
use Rattle.model.specs.declared.Job.TheVariants.{Failed}
use Rattle.model.specs.declared.Phase.{Phase}
use Rattle.model.specs.declared.Phase.TheVariants.{Poll, Entry, Chain, Header, Payload, Answer, Publish, Broken}
use Rattle.model.proofs.Tests.{told, both-split}
use Rattle.device.specs.Turn.{Fit, Met, cfg_of, state_of}
use Rattle.words.specs.declared.Row.{Row}
use Rattle.words.specs.Layout.{state_words, row, walk_of, job_of, phase_of, row_at, saved, walk_at, place_at, config_at, map_words, memory_ok, tags_ok, phase_ok, framed, level, level_word, mem_len_word, sectors_word, backing_len_word, size_word, chain_len_word, taken_word, answered_word, tag_word, head_word, count_word, a_word, b_word, c_word, d_word, descs_word}
use Rattle.words.proofs.Laws.{level-framed, framed-queue}
use Rattle.hostiledisk.specs.Calls.{is_broken, long_enough, stepped, stepped_on, untouched, broken_code, hd_step, Framed, StepIs}
use Rattle.hostiledisk.proofs.Laws.{MemoryOk, memory-ok, fit_of, untouched-is}

-- the phase's words, its number being this
abbrev row_as : List ℕ → ℕ → Row
row_as s n = row n (walk_at s) (get_or s a_word 0) (get_or s b_word 0) (get_or s c_word 0) (get_or s d_word 0)

-- the words hold this phase, which has a step to take
pub record Held (s : List ℕ) (p : Phase) (mem backing chain stage : ℕ) : Type 0 where
  pub words_long : state_words ≤ length s
  pub frame : framed s ≡ true
  pub tags : tags_ok (get_or s tag_word 0) (get_or s a_word 0) ≡ true
  pub phase-is : phase_of (row_at s) ≡ p
  pub unbroken : is_broken p ≡ false
  pub slices-long : long_enough s mem backing chain stage ≡ true

module _ (s : List ℕ) (mem backing chain stage : ℕ) where
  held : (n : ℕ) (p : Phase) → Framed s n mem backing chain stage → tags_ok n (get_or s a_word 0) ≡ true → phase_of (row_as s n) ≡ p → is_broken p ≡ false
      → Held s p mem backing chain stage
  unfolding row_at
  held n p f t e b =
      record {
        words_long = f.words_long;
        frame = f.frame;
        tags = rw f.tag_is t;
        phase-is = rw f.tag_is e;
        unbroken = b;
        slices-long = f.slices-long;
      }

  pub held-poll : Framed s 1 mem backing chain stage → Held s Poll mem backing chain stage
  unfolding tags_ok phase_of is_broken
  held-poll f = held 1 Poll f refl refl refl

  pub held-entry : Framed s 2 mem backing chain stage → Held s Entry mem backing chain stage
  unfolding tags_ok phase_of is_broken
  held-entry f = held 2 Entry f refl refl refl

  pub held-chain : Framed s 3 mem backing chain stage → (k : Walk) → k ≡ walk_at s → Held s (Chain k (get_or s a_word 0)) mem backing chain stage
  unfolding tags_ok phase_of is_broken
  held-chain f k e = held 3 (Chain k (get_or s a_word 0)) f refl (rw e) refl

  pub held-header : Framed s 4 mem backing chain stage → (k : Walk) (p : Place) → k ≡ walk_at s → p ≡ place_at s
      → Held s (Header k p (get_or s d_word 0)) mem backing chain stage
  unfolding tags_ok phase_of is_broken
  held-header f k p e g = held 4 (Header k p (get_or s d_word 0)) f refl (rw (e, g)) refl

  pub held-payload : Framed s 5 mem backing chain stage → (k : Walk) (p : Place) → k ≡ walk_at s → p ≡ place_at s
      → Held s (Payload k p (get_or s c_word 0) (get_or s d_word 0)) mem backing chain stage
  unfolding tags_ok phase_of is_broken
  held-payload f k p e g = held 5 (Payload k p (get_or s c_word 0) (get_or s d_word 0)) f refl (rw (e, g)) refl

  pub held-answer : Framed s 6 mem backing chain stage → get_or s a_word 0 ≤ 5 → (k : Walk) (job : Job) → k ≡ walk_at s → job ≡ job_of (get_or s a_word 0) (get_or s c_word 0)
      → Held s (Answer k job (get_or s d_word 0)) mem backing chain stage
  unfolding tags_ok phase_of is_broken
  held-answer f h k job e g = held 6 (Answer k job (get_or s d_word 0)) f (le-leb (get_or s a_word 0) 5 h) (rw (e, g)) refl

  pub held-publish : Framed s 7 mem backing chain stage → (k : Walk) → k ≡ walk_at s → Held s (Publish k (get_or s d_word 0)) mem backing chain stage
  unfolding tags_ok phase_of is_broken
  held-publish f k e = held 7 (Publish k (get_or s d_word 0)) f refl (rw e) refl

-- what the tests of one phase say of `sane` and `ready`
module _ (q sectors : ℕ) {b : Bool} where
  pub sane-chain : (k : Walk) (cur : ℕ) → sane q 0 (Chain k cur) ≡ b → sane q sectors (Chain k cur) ≡ b
  unfolding sane
  sane-chain k cur e = e

  pub sane-header : (k : Walk) (p : Place) (got : ℕ) → sane q 0 (Header k p got) ≡ b → sane q sectors (Header k p got) ≡ b
  unfolding sane
  sane-header k p got e = e

  pub sane-publish : (k : Walk) (got : ℕ) → sane q 0 (Publish k got) ≡ b → sane q sectors (Publish k got) ≡ b
  unfolding sane
  sane-publish k got e = e

module _ (m : ℕ) (chain : List ℕ) {b : Bool} where
  pub ready-header : (k : Walk) (p : Place) (got : ℕ) → place_is_ok m chain p ≡ b → ready m chain (Header k p got) ≡ b
  unfolding ready
  ready-header k p got e = e

  pub ready-payload : (k : Walk) (p : Place) (sector got : ℕ) → ready m chain (Payload k p 0 got) ≡ b → ready m chain (Payload k p sector got) ≡ b
  unfolding ready
  ready-payload k p sector got e = e

  pub ready-answer : (k : Walk) (job : Job) (got : ℕ) → ready m chain (Answer k Failed 0) ≡ b → ready m chain (Answer k job got) ≡ b
  unfolding ready
  ready-answer k job got e = e

-- the registered regions are few, and each one that set-up allows
pub framed-memory : (s : List ℕ) → framed s ≡ true → MemoryOk s
unfolding framed
framed-memory s e =
    let a = both-split (eqb (get_or s level_word 0) 3) _ e in
    let b = both-split (memory_ok s) _ a.1 in
    memory-ok s b.0

-- the chain memory that a sane phase stands on
pub chain-long : (s : List ℕ) (p : Phase) (mem backing chain stage : ℕ) → Held s p mem backing chain stage → (get_or s size_word 0 ≤ size_max) × (2 * get_or s size_word 0 ≤ chain)
unfolding long_enough
chain-long s p mem backing chain stage h =
    let q = framed-queue s h.frame in
    let a = both-split (leb (get_or s mem_len_word 0) mem) _ h.slices-long in
    let b = both-split (leb (get_or s backing_len_word 0) backing) _ a.1 in
    let c = both-split (leb (get_or s chain_len_word 0) chain) _ b.1 in
    (q.size-high, omega told)

-- a number that is no phase's
tag-high : (tag job : ℕ) → 8 ≤ tag → (tag ≡ 8 → ⊥) → tags_ok tag job ≡ false
unfolding tags_ok
tag-high tag job h n = rw (le-leb 1 tag (omega arith), lt-leb tag 8 (omega arith))

above : (n t : ℕ) → n ≤ t → (t ≡ n → ⊥) → n + 1 ≤ t
above n t h e = omega arith

none : (t : ℕ) → 1 ≤ t → (t ≡ 1 → ⊥) → (t ≡ 2 → ⊥) → (t ≡ 3 → ⊥) → (t ≡ 4 → ⊥) → (t ≡ 5 → ⊥) → (t ≡ 6 → ⊥) → (t ≡ 7 → ⊥) → 8 ≤ t
none t h a b c d e f g = above 7 t (above 6 t (above 5 t (above 4 t (above 3 t (above 2 t (above 1 t h a) b) c) d) e) f) g

pub tag-none : (job : ℕ) → tags_ok 0 job ≡ false
unfolding tags_ok
tag-none job = refl

-- .. or not that of a broken queue
not-broken-by : (a b c d e f g : Bool) (x : Row) → (a ≡ false → b ≡ false → c ≡ false → d ≡ false → e ≡ false → f ≡ false → g ≡ false → ⊥)
    → is_broken
    (pick a Poll
    (pick b Entry
    (pick c (Chain (walk_of x) x.a)
    (pick d (Header (walk_of x) (record { buf = x.a; skip = x.b }) x.d)
    (pick e (Payload (walk_of x) (record { buf = x.a; skip = x.b }) x.c x.d)
    (pick f (Answer (walk_of x) (job_of x.a x.c) x.d) (pick g (Publish (walk_of x) x.d) (Broken x.a x.head x.count x.b))))))))
    ≡ false
unfolding is_broken
not-broken-by true b c d e f g x n = refl
not-broken-by false true c d e f g x n = refl
not-broken-by false false true d e f g x n = refl
not-broken-by false false false true e f g x n = refl
not-broken-by false false false false true f g x n = refl
not-broken-by false false false false false true g x n = refl
not-broken-by false false false false false false true x n = refl
not-broken-by false false false false false false false x n = absurd (n refl refl refl refl refl refl refl)

not-broken : (s : List ℕ) → phase_ok s ≡ true → get_or s tag_word 0 < 8 → is_broken (phase_of (row_at s)) ≡ false
unfolding phase_ok tags_ok phase_of row_at
not-broken s e h =
    let t = get_or s tag_word 0 in
    let a = both-split (leb 1 t) _ (both-split (both (leb 1 t) (both (leb t 8) (pick (eqb t 6) (leb (get_or s a_word 0) 5) true))) _ e).0 in
    not-broken-by (eqb t 1) (eqb t 2) (eqb t 3) (eqb t 4) (eqb t 5) (eqb t 6) (eqb t 7) (row_at s)
    (λ c₁. λ c₂. λ c₃. λ c₄. λ c₅. λ c₆. λ c₇.
    let z : 8 ≤ t = none t (leb-true 1 t a.0) (eqb-false t 1 c₁) (eqb-false t 2 c₂) (eqb-false t 3 c₃) (eqb-false t 4 c₄) (eqb-false t 5 c₅) (eqb-false t 6 c₆) (eqb-false t 7 c₇) in omega arith)

module _ (s mem backing chain stage : List ℕ) where
  -- what is left of `hd_step` once the words are framed
  hd-framed : state_words ≤ length s → framed s ≡ true
      → hd_step s mem backing chain stage
      ≡ pick (phase_ok s)
      (pick (is_broken (phase_of (row_at s))) (untouched 3 s mem backing chain stage)
      (pick (long_enough s (length mem) (length backing) (length chain) (length stage))
      (pick (ready (get_or s mem_len_word 0) chain (phase_of (row_at s))) (stepped_on s mem backing chain stage) (untouched 4 s mem backing chain stage))
      (untouched 4 s mem backing chain stage)))
      (untouched 4 s mem backing chain stage)
  unfolding hd_step
  hd-framed w f = rw (le-ltb (length s) state_words w, level-framed s, f)

  -- words that set-up doesn't make
  pub unframed : state_words ≤ length s → framed s ≡ false → StepIs (hd_step s mem backing chain stage) 4 s mem backing chain stage
  unfolding hd_step
  unframed w f = rw (le-ltb (length s) state_words w, level-framed s, f) (untouched-is 4 s mem backing chain stage)

  -- words that no step makes
  pub wild : state_words ≤ length s → framed s ≡ true → tags_ok (get_or s tag_word 0) (get_or s a_word 0) ≡ false
      → StepIs (hd_step s mem backing chain stage) 4 s mem backing chain stage
  unfolding phase_ok
  wild w f t = rw (hd-framed w f, t) (untouched-is 4 s mem backing chain stage)

  pub wild-job : Framed s 6 (length mem) (length backing) (length chain) (length stage) → 5 < get_or s a_word 0
      → StepIs (hd_step s mem backing chain stage) 4 s mem backing chain stage
  unfolding tags_ok
  wild-job f h = wild f.words_long f.frame (rw (f.tag_is, lt-leb (get_or s a_word 0) 5 h))

  -- a broken queue
  broken-by : state_words ≤ length s → framed s ≡ true → get_or s tag_word 0 ≡ 8 → (b : Bool)
      → sane (get_or s size_word 0) 0 (Broken (get_or s a_word 0) (get_or s head_word 0) (get_or s count_word 0) (get_or s b_word 0)) ≡ b
      → StepIs (hd_step s mem backing chain stage) (pick b 3 4) s mem backing chain stage
  unfolding phase_ok tags_ok phase_of row_at is_broken sane
  broken-by w f e true u = rw (hd-framed w f, e, u) (untouched-is 3 s mem backing chain stage)
  broken-by w f e false u = rw (hd-framed w f, e, u) (untouched-is 4 s mem backing chain stage)

  pub broken-is : state_words ≤ length s → framed s ≡ true → 8 ≤ get_or s tag_word 0 → StepIs (hd_step s mem backing chain stage) (broken_code s) s mem backing chain stage
  unfolding broken_code
  broken-is w f t = go (eqb (get_or s tag_word 0) 8) refl
    where
      go : (b : Bool) → eqb (get_or s tag_word 0) 8 ≡ b
          → StepIs (hd_step s mem backing chain stage) (pick (both b (sane (get_or s size_word 0) 0 (Broken (get_or s a_word 0) (get_or s head_word 0) (get_or s count_word 0) (get_or s b_word 0)))) 3 4) s mem backing chain stage
      go true e = broken-by w f (eqb-true (get_or s tag_word 0) 8 e) (sane (get_or s size_word 0) 0 (Broken (get_or s a_word 0) (get_or s head_word 0) (get_or s count_word 0) (get_or s b_word 0))) refl
      go false e = wild w f (tag-high (get_or s tag_word 0) (get_or s a_word 0) t (eqb-false (get_or s tag_word 0) 8 e))

  -- slices that are too short
  pub short : state_words ≤ length s → framed s ≡ true → get_or s tag_word 0 < 8 → long_enough s (length mem) (length backing) (length chain) (length stage) ≡ false
      → StepIs (hd_step s mem backing chain stage) 4 s mem backing chain stage
  short w f t l = rw (hd-framed w f, l) (go (phase_ok s) refl)
    where
      go : (b : Bool) → phase_ok s ≡ b
          → StepIs (pick b (pick (is_broken (phase_of (row_at s))) (untouched 3 s mem backing chain stage) (untouched 4 s mem backing chain stage)) (untouched 4 s mem backing chain stage)) 4 s mem backing chain stage
      go true e = rw (not-broken s e t) (untouched-is 4 s mem backing chain stage)
      go false e = untouched-is 4 s mem backing chain stage

-- a phase that has a step to take
module _ (s mem backing chain stage : List ℕ) (p : Phase) (h : Held s p (length mem) (length backing) (length chain) (length stage)) where
  hd-held : hd_step s mem backing chain stage
      ≡ pick (sane (get_or s size_word 0) (get_or s sectors_word 0) p)
      (pick (ready (get_or s mem_len_word 0) chain p)
      (stepped s (step (cfg_of (config_at s) (map_words s)) (state_of (get_or s taken_word 0) (get_or s answered_word 0) (get_or s descs_word 0) p) mem backing chain stage))
      (untouched 4 s mem backing chain stage))
      (untouched 4 s mem backing chain stage)
  unfolding phase_ok stepped_on
  hd-held = rw (hd-framed s mem backing chain stage h.words_long h.frame, h.tags, h.phase-is, h.unbroken, h.slices-long)

  pub insane : sane (get_or s size_word 0) (get_or s sectors_word 0) p ≡ false → StepIs (hd_step s mem backing chain stage) 4 s mem backing chain stage
  insane e = rw (hd-held, e) (untouched-is 4 s mem backing chain stage)

  pub unready : sane (get_or s size_word 0) (get_or s sectors_word 0) p ≡ true → ready (get_or s mem_len_word 0) chain p ≡ false
      → StepIs (hd_step s mem backing chain stage) 4 s mem backing chain stage
  unready e r = rw (hd-held, e, r) (untouched-is 4 s mem backing chain stage)

  pub acted : sane (get_or s size_word 0) (get_or s sectors_word 0) p ≡ true → ready (get_or s mem_len_word 0) chain p ≡ true
      → (t a l : ℕ) (q : Phase) (code : ℕ) (s₂ mem₂ backing₂ chain₂ stage₂ : List ℕ)
      → Met (step (cfg_of (config_at s) (map_words s)) (state_of (get_or s taken_word 0) (get_or s answered_word 0) (get_or s descs_word 0) p) mem backing chain stage) t a l q code mem₂ backing₂ chain₂ stage₂
      → s₂ ≡ saved s t a l q → (r : ℕ) → r ≡ code → StepIs (hd_step s mem backing chain stage) r s₂ mem₂ backing₂ chain₂ stage₂
  unfolding stepped
  acted e y t a l q code s₂ mem₂ backing₂ chain₂ stage₂ m x r z =
      rw (hd-held, e, y)
      (record {
        code_is = z ∙ m.code_is;
        state-is = rw (x, m.taken_is, m.answered-is, m.descs-is, m.phase-is);
        mem_is = m.mem_is;
        backing-is = m.backing-is;
        chain-is = m.chain-is;
        stage_is = m.stage_is;
      })

-- what the step stands on
pub fit-held : (s : List ℕ) (p : Phase) (mem backing : ℕ) (chain : List ℕ) (stage : ℕ) → Held s p mem backing (length chain) stage
    → sane (get_or s size_word 0) (get_or s sectors_word 0) p ≡ true → ready (get_or s mem_len_word 0) chain p ≡ true
    → Fit (config_at s) (get_or s taken_word 0) (get_or s answered_word 0) p (map_words s) mem backing chain stage
unfolding phase_ok
fit-held s p mem backing chain stage h e y =
    let l : eqb (level s) 3 ≡ true = rw (level-framed s, h.frame, h.tags, h.phase-is) e in
    fit_of s p mem backing chain stage
    (record {
      words_long = h.words_long;
      enabled = eqb-true (level s) 3 l;
      phase-is = sym h.phase-is;
      slices-long = h.slices-long;
      chain-ready = y;
    })
