-- From what the functions of a step ensure to the model's step. A step that publishes nothing leaves the counters;
-- of the two that touch the world before S6, only S5 does, and only with the payload's last bytes.
use Prim.Native.Nat.{ℕ, ◌+◌, ◌-◌, ◌*◌, ◌%◌, ◌≤◌}
use mathlib.Core.Bool.{Bool, true, false}
use mathlib.Core.List.{List, [], ◌∷◌, ◌++◌}
use mathlib.Core.Path.{◌≡◌, refl, sym, ap, ◌∙◌}
use native.Mathlib.Omega.{arith}
use native.Mathlib.Nat.{add-zero}
use lib.ListN.{get_or}
use lib.Dec.{leb}
use borrow.Author.Tests.{leb-true, le-leb}
use Rattle.model.specs.Pick.{pick}
use Rattle.model.specs.Bytes.{put, part, word, bytes}
use Rattle.model.specs.Ring.{polled, headed, plus_one}
use Rattle.model.specs.Chain.{desc_at, tested, described, descs_after, keeps}
use Rattle.model.specs.Step.{Cfg, nothing, stores, apply, shifted, writables, left, lacks, ends, gathered, paid, want, next, chained, measured, staged, effect, answer_stores, mem_stores, disk_stores, disk_of, counted, code_after, code_of, fetched, step_with, step}
use Rattle.model.specs.declared.Span.{Span}
use Rattle.model.specs.Sane.{ready, inside, all_inside, place_is_ok}
use Rattle.model.proofs.Tests.{picked, both-split}
use Rattle.model.proofs.Words.{word-part}
use Rattle.model.specs.declared.Walk.{Walk}
use Rattle.model.specs.declared.Place.{Place}
use Rattle.model.specs.declared.Job.{Job}
use Rattle.model.specs.declared.Phase.{Phase}
use Rattle.model.specs.declared.Phase.TheVariants.{Poll, Entry, Chain, Header, Payload, Answer, Publish}
use Rattle.device.specs.Turn.{Fit, Met, state_of}
use Rattle.device.specs.Fit.{HeaderFit, PayloadFit}
use Rattle.device.specs.declared.Config.{Config}
use Rattle.answer.specs.Fit.{AnswerFit}
use Rattle.model.proofs.Sane.{header_ok, payload-ok, answer_ok, place_ok}

-- a number that is the whole fetched range
pub word-all : (n k : ℕ) (m : List ℕ) → word n 0 (part k n m) ≡ word n k m
word-all n k m = word-part n 0 k n m (omega arith) ∙ ap (λ (x : ℕ). word n x m) (add-zero k)

-- a descriptor that is the whole fetched range
pub desc-all : (k : ℕ) (m : List ℕ) → desc_at 0 (part k 16 m) ≡ desc_at k m
unfolding desc_at
desc-all k m =
    rw (word-part 8 0 k 16 m (omega arith), word-part 4 8 k 16 m (omega arith), word-part 2 12 k 16 m (omega arith), word-part 2 14 k 16 m (omega arith), add-zero k)

-- a step without an effect: the counters stay, and the answer goes by the phase
pub met-quiet : (c : Cfg) (t a l : ℕ) (p : Phase) (mem backing chain stage : List ℕ) (q : Phase)
    → effect chain stage p (fetched c (state_of t a l p) chain mem) ≡ nothing
    → q ≡ next c t chain stage p (fetched c (state_of t a l p) chain mem)
    → (l₂ : ℕ) (chain₂ stage₂ : List ℕ) → l₂ ≡ measured c l p (fetched c (state_of t a l p) chain mem)
    → chain₂ ≡ chained c chain p (fetched c (state_of t a l p) chain mem)
    → stage₂ ≡ staged chain stage p (fetched c (state_of t a l p) chain mem)
    → Met (step c (state_of t a l p) mem backing chain stage) t a l₂ q (code_after q) mem backing chain₂ stage₂
unfolding step step_with mem_stores disk_stores counted code_of apply shifted
met-quiet c t a l p mem backing chain stage q e n l₂ chain₂ stage₂ d x y =
    record { taken_is = rw e; answered-is = rw e; descs-is = d; phase-is = n; code_is = rw (e, ← n); mem_is = rw e; backing-is = rw e; chain-is = x; stage_is = y }

-- S5's effect, by whether the payload ends there
paid-counted : (b : Bool) (at : ℕ) (bs : List ℕ) (n : ℕ) → counted (pick b (stores at bs) nothing) n ≡ n
unfolding counted
paid-counted true at bs n = refl
paid-counted false at bs n = refl

paid-code : (b : Bool) (at : ℕ) (bs : List ℕ) (p : Phase) → code_of (pick b (stores at bs) nothing) p ≡ code_after p
unfolding code_of
paid-code true at bs p = refl
paid-code false at bs p = refl

paid-mem : (b : Bool) (at : ℕ) (bs : List ℕ) (c : Cfg) (n : ℕ) (chain disk mem : List ℕ) → apply (mem_stores c n chain disk (pick b (stores at bs) nothing)) mem ≡ mem
unfolding mem_stores apply
paid-mem true at bs c n chain disk mem = refl
paid-mem false at bs c n chain disk mem = refl

paid-back : (b : Bool) (at : ℕ) (bs : List ℕ) (d : ℕ) (backing : List ℕ)
    → shifted d (disk_stores (pick b (stores at bs) nothing)) backing ≡ pick b (put backing (d + at) bs) backing
unfolding disk_stores shifted
paid-back true at bs d backing = refl
paid-back false at bs d backing = refl

pub met-paid : (c : Cfg) (t a l : ℕ) (mem backing chain stage : List ℕ) (k : Walk) (p : Place) (sector got : ℕ) (q : Phase) (stage₂ backing₂ : List ℕ)
    → q ≡ paid k p sector got (left chain p).len
    → stage₂ ≡ pick (ends k got (left chain p).len) stage (put stage got (part (left chain p).at (left chain p).len mem))
    → backing₂
    ≡ pick (ends k got (left chain p).len) (put backing (c.disk.start + 512 * sector) (part 0 got stage ++ part (left chain p).at (left chain p).len mem)) backing
    → Met (step c (state_of t a l (Payload k p sector got)) mem backing chain stage) t a l q (code_after q) mem backing₂ chain stage₂
unfolding step step_with want next chained measured staged effect
met-paid c t a l mem backing chain stage k p sector got q stage₂ backing₂ n x y =
    let b = ends k got (left chain p).len in
    let bs = part 0 got stage ++ part (left chain p).at (left chain p).len mem in
    record {
      taken_is = sym (paid-counted b (512 * sector) bs t);
      answered-is = sym (paid-counted b (512 * sector) bs a);
      descs-is = refl;
      phase-is = n;
      code_is = rw (paid-code b (512 * sector) bs (paid k p sector got (left chain p).len), ← n);
      mem_is = sym (paid-mem b (512 * sector) bs c a chain (disk_of c.disk backing) mem);
      backing-is = y ∙ sym (paid-back b (512 * sector) bs c.disk.start backing);
      chain-is = refl;
      stage_is = x;
    }

-- a longer slice holds what a shorter one holds
pub inside-more : (m n : ℕ) → m ≤ n → (ss : List Span) → all_inside m ss ≡ true → all_inside n ss ≡ true
unfolding all_inside inside
inside-more m n h [] e = refl
inside-more m n h (s ∷ ss) e =
    let a = picked (leb (s.at + s.len) m) (all_inside m ss) e in
    rw (le-leb (s.at + s.len) n (omega (arith, leb-true (s.at + s.len) m a.0))) (inside-more m n h ss a.1)

-- S1 to S7, one law each
module _ (c : Cfg) (t a l : ℕ) (mem backing chain stage : List ℕ) where
  pub met-poll : (q : Phase) → q ≡ polled c.queue.size t (word 2 (c.queue.avail + 2) mem)
      → Met (step c (state_of t a l Poll) mem backing chain stage) t a l q (code_after q) mem backing chain stage
  unfolding want next chained measured staged effect
  met-poll q n = met-quiet c t a l Poll mem backing chain stage q refl (rw (word-all 2 (c.queue.avail + 2) mem) n) l chain stage refl refl refl

  pub met-entry : (q : Phase) → q ≡ headed c.queue.size (word 2 (c.queue.avail + (4 + 2 * (t % c.queue.size))) mem)
      → Met (step c (state_of t a l Entry) mem backing chain stage) t a l q (code_after q) mem backing chain stage
  unfolding want next chained measured staged effect
  met-entry q n =
      met-quiet c t a l Entry mem backing chain stage q refl (rw (word-all 2 (c.queue.avail + (4 + 2 * (t % c.queue.size))) mem) n) l chain stage refl refl refl

  pub met-chain : (k : Walk) (cur : ℕ) (q : Phase) (l₂ : ℕ) (chain₂ : List ℕ)
      → q ≡ described k cur (desc_at (c.queue.desc + 16 * cur) mem) (tested c.map c.queue.size k (desc_at (c.queue.desc + 16 * cur) mem))
      → l₂ ≡ descs_after l k (tested c.map c.queue.size k (desc_at (c.queue.desc + 16 * cur) mem))
      → chain₂ ≡ keeps chain k (desc_at (c.queue.desc + 16 * cur) mem) (tested c.map c.queue.size k (desc_at (c.queue.desc + 16 * cur) mem))
      → Met (step c (state_of t a l (Chain k cur)) mem backing chain stage) t a l₂ q (code_after q) mem backing chain₂ stage
  unfolding want next chained measured staged effect
  met-chain k cur q l₂ chain₂ n d x =
      let e = desc-all (c.queue.desc + 16 * cur) mem in
      met-quiet c t a l (Chain k cur) mem backing chain stage q refl (rw e n) l₂ chain₂ stage (rw e d) (rw e x) refl

  pub met-header : (k : Walk) (p : Place) (got : ℕ) (q : Phase) (stage₂ : List ℕ)
      → stage₂ ≡ put stage got (part (left chain p).at (lacks got (left chain p).len) mem)
      → q ≡ gathered c.disk k p got (left chain p).len (lacks got (left chain p).len) (word 4 0 stage₂) (word 8 8 stage₂)
      → Met (step c (state_of t a l (Header k p got)) mem backing chain stage) t a l q (code_after q) mem backing chain stage₂
  unfolding want next chained measured staged effect
  met-header k p got q stage₂ x n = met-quiet c t a l (Header k p got) mem backing chain stage q refl (rw (← x) n) l chain stage₂ refl refl x

  pub met-answer : (k : Walk) (job : Job) (got : ℕ) (mem₂ : List ℕ)
      → mem₂ ≡ apply (answer_stores c.id c.queue a chain (disk_of c.disk backing) k job) mem
      → Met (step c (state_of t a l (Answer k job got)) mem backing chain stage) t a l (Publish k got) 1 mem₂ backing chain stage
  unfolding step step_with want next chained measured staged effect mem_stores disk_stores counted code_of code_after shifted
  met-answer k job got mem₂ x =
      record { taken_is = refl; answered-is = refl; descs-is = refl; phase-is = refl; code_is = refl; mem_is = x; backing-is = refl; chain-is = refl; stage_is = refl }

  pub met-publish : (k : Walk) (got x y : ℕ) (mem₂ : List ℕ) → x ≡ plus_one t → y ≡ plus_one a
      → mem₂ ≡ put mem (c.queue.used + 2) (bytes 2 (plus_one a))
      → Met (step c (state_of t a l (Publish k got)) mem backing chain stage) x y l Poll 2 mem₂ backing chain stage
  unfolding step step_with want next chained measured staged effect mem_stores disk_stores counted code_of apply shifted
  met-publish k got x y mem₂ p q e =
      record { taken_is = p; answered-is = q; descs-is = refl; phase-is = refl; code_is = refl; mem_is = e; backing-is = refl; chain-is = refl; stage_is = refl }

-- what S4, S5 and S6 stand on, from what every step stands on
module _ (c : Config) (t a : ℕ) (map : List ℕ) (mem backing : ℕ) (chain : List ℕ) (stage : ℕ) where
  pub header-fit : (k : Walk) (p : Place) (got : ℕ) → Fit c t a (Header k p got) map mem backing chain stage → HeaderFit k p got chain mem stage
  unfolding ready
  header-fit k p got f =
      let h = header_ok c.queue.size c.disk.sectors k p got f.sane-phase in
      let g = place_ok c.m chain p f.ready-phase in
      record {
        buf-low = omega (arith, h, f.size-high);
        chain-long = omega (arith, h, f.chain-long);
        skip-in = g.skip-in;
        buffer-in = omega (arith, g.buf-inside, f.mem_long);
        got-low = h.got_in;
        stage-long = omega (arith, f.stage-long);
        w-some = h.full.w-some;
      }

  pub payload-fit : (k : Walk) (p : Place) (sector got : ℕ) → Fit c t a (Payload k p sector got) map mem backing chain stage
      → PayloadFit c.disk k p sector got chain mem stage backing
  unfolding ready
  payload-fit k p sector got f =
      let h = payload-ok c.queue.size c.disk.sectors k p sector got f.sane-phase in
      let b = both-split (place_is_ok c.m chain p) (leb (got + (left chain p).len) (k.r - 16)) f.ready-phase in
      let g = place_ok c.m chain p b.0 in
      record {
        buf-low = omega (arith, h, f.size-high);
        chain-long = omega (arith, h, f.chain-long);
        skip-in = g.skip-in;
        buffer-in = omega (arith, g.buf-inside, f.mem_long);
        r_some = h.r_some;
        no_more = leb-true (got + (left chain p).len) (k.r - 16) b.1;
        stage-long = omega (arith, h.fit.short, f.stage-long);
        disk-in = omega (arith, h.fit.to, f.disk-in);
      }

  pub answer-fit : (k : Walk) (job : Job) (got : ℕ) → Fit c t a (Answer k job got) map mem backing chain stage
      → AnswerFit c.queue c.disk k job chain backing mem
  unfolding ready
  answer-fit k job got f =
      let h = answer_ok c.queue.size c.disk.sectors k job got f.sane-phase in
      let b = both-split (all_inside c.m (writables chain k)) (leb 1 (get_or chain (2 * (k.count - 1) + 1) 0)) f.ready-phase in
      record {
        size-some = f.size-some;
        used-in = omega (arith, f.used-in, f.mem_long);
        disk-in = f.disk-in;
        writable = h.full.writable;
        w-some = h.full.w-some;
        job-in = h.job-in;
        chain-long = omega (arith, h, f.chain-long);
        buffers-in = inside-more c.m mem f.mem_long (writables chain k) b.0;
        last_some = leb-true 1 (get_or chain (2 * (k.count - 1) + 1) 0) b.1;
      }
