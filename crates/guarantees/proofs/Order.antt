-- 11 (counters) and 12 (order): both counters count the answers modulo 2^16, and used idx is published only after the entry that it covers was written.
use Prim.Native.Nat.{ℕ, ◌+◌, ◌%◌, ◌≤◌, ◌<◌}
use mathlib.Core.Bool.{Bool, true, false}
use mathlib.Core.List.{List, [], ◌∷◌, ◌++◌}
use mathlib.Core.Path.{◌≡◌, refl, sym, ap, ◌∙◌}
use native.Mathlib.Omega.{arith}
use native.Mathlib.Nat.{mod-lt}
use lib.Dec.{leb, ltb, eqb}
use lib.ListN.{get_or, length, length-append}
use borrow.Author.Tests.{ne_eqb}
use Rattle.model.specs.Pick.{pick}
use Rattle.model.specs.Bytes.{put, part, word, bytes}
use Rattle.model.specs.Ring.{polled, headed, pending, plus_one}
use Rattle.model.specs.Chain.{desc_at, tested, tally, complete, described}
use Rattle.model.specs.Request.{verdict, decided, status, reported}
use Rattle.model.specs.Step.{Cfg, Effect, nothing, stores, answers, publishes, left, lacks, ends, onward, gathered, paid, next, effect, code_of, code_after, counted, fetched, measured, step, step_with, apply, scatter, writables, handed, status_at, used_at, answer_stores, mem_stores, disk_of}
use Rattle.model.proofs.Tests.{on}
use Rattle.model.proofs.Lists.{length-put, part-put}
use Rattle.model.proofs.Words.{length-bytes}
use Rattle.model.proofs.Step.{apply-append, length-apply}
use Rattle.words.specs.Layout.{state_words, row_at, phase_of, config_at, map_words, taken_word, answered_word, descs_word}
use Rattle.words.proofs.Saved.{phase-saved, taken-saved, answered-saved}
use Rattle.device.specs.Turn.{cfg_of, state_of}
use Rattle.hostiledisk.specs.Calls.{Called, stepped, stepped_on, Going, hd_step}
use Rattle.hostiledisk.proofs.Laws.{fit_of}
use Rattle.guarantees.specs.History.{step as step_over, World, ran, left as leaves, run, steps, answers_in}
use Rattle.guarantees.specs.Accounts.{AfterAnswer}
use Rattle.guarantees.proofs.Step.{by_answer}
use Rattle.model.specs.declared.Queue.{Queue}
use Rattle.model.specs.declared.Desc.{Desc}
use Rattle.model.specs.declared.Tested.{Tested}
use Rattle.model.specs.declared.Tested.TheVariants.{Bad, Next, Last}
use Rattle.model.specs.declared.Walk.{Walk}
use Rattle.model.specs.declared.Place.{Place}
use Rattle.model.specs.declared.Job.{Job}
use Rattle.model.specs.declared.Job.TheVariants.{Failed, Unsupported, Done, Read, Write, Identity}
use Rattle.model.specs.declared.Phase.{Phase}
use Rattle.model.specs.declared.Phase.TheVariants.{Poll, Entry, Chain, Header, Payload, Answer, Publish, Broken}

-- S7 comes after S6 and after nothing else
unfoldable publishing : Phase → Bool
publishing Poll = false
publishing Entry = false
publishing (Chain k cur) = false
publishing (Header k p got) = false
publishing (Payload k p s got) = false
publishing (Answer k job got) = false
publishing (Publish k got) = true
publishing (Broken reason head count at) = false

not-complete : (k : Walk) (cur : ℕ) → publishing (complete k cur) ≡ false
unfolding complete publishing
not-complete k cur =
    let P : Phase → Type 0 = λ p. publishing p ≡ false in
    on P (leb k.count k.reads) (λ e. refl) (λ e. on P (ltb k.r 16) (λ f. refl) (λ f. refl))

not-described : (k : Walk) (cur : ℕ) (d : Desc) (t : Tested) → publishing (described k cur d t) ≡ false
unfolding described publishing
not-described k cur d (Bad n) = refl
not-described k cur d (Next x) = refl
not-described k cur d (Last x) = not-complete (tally k d.flags d.len) cur

not-decided : (k : Walk) (p : Place) (job : Job) → publishing (decided k p job) ≡ false
unfolding decided publishing
not-decided k p Failed = refl
not-decided k p Unsupported = refl
not-decided k p Done = refl
not-decided k p (Read s) = refl
not-decided k p (Write s) = on (λ (p : Phase). publishing p ≡ false) (ltb 16 k.r) (λ e. refl) (λ e. refl)
not-decided k p Identity = refl

differ : (p : Phase) (k : Walk) (got : ℕ) {A : Type 0} → publishing p ≡ false → p ≡ Publish k got → A
unfolding publishing
differ p k got f e = let z : ◌≡◌ {A = Bool} true false = sym (ap publishing e) ∙ f in let y : ◌≡◌ {A = ℕ} 0 1 = cc in absurd (omega arith)

after-answer : (c : Cfg) (t : ℕ) (chain stage : List ℕ) (p : Phase) (f : List ℕ) (k : Walk) (got : ℕ) → next c t chain stage p f ≡ Publish k got → AfterAnswer p k got
unfolding next polled headed gathered paid publishing
after-answer c t chain stage Poll f k got e =
    differ (polled c.queue.size t (word 2 0 f)) k got
    (on (λ (p : Phase). publishing p ≡ false) (eqb (pending (word 2 0 f) t) 0) (λ e. refl)
    (λ e. on (λ (p : Phase). publishing p ≡ false) (ltb c.queue.size (pending (word 2 0 f) t)) (λ e. refl) (λ e. refl))) e
after-answer c t chain stage Entry f k got e =
    differ (headed c.queue.size (word 2 0 f)) k got (on (λ (p : Phase). publishing p ≡ false) (leb c.queue.size (word 2 0 f)) (λ e. refl) (λ e. refl)) e
after-answer c t chain stage (Chain j cur) f k got e =
    differ (described j cur (desc_at 0 f) (tested c.map c.queue.size j (desc_at 0 f))) k got (not-described j cur (desc_at 0 f) (tested c.map c.queue.size j (desc_at 0 f))) e
after-answer c t chain stage (Header j p g) f k got e =
    let l = (left chain p).len in
    differ (gathered c.disk j p g l (lacks g l) (word 4 0 (put stage g f)) (word 8 8 (put stage g f))) k got
    (on (λ (p : Phase). publishing p ≡ false) (ltb (g + lacks g l) 16) (λ e. refl)
    (λ e. not-decided j (onward p l (lacks g l)) (verdict c.disk (word 4 0 (put stage g f)) (word 8 8 (put stage g f)) j.r j.w))) e
after-answer c t chain stage (Payload j p s g) f k got e =
    differ (paid j p s g (left chain p).len) k got (on (λ (p : Phase). publishing p ≡ false) (ends j g (left chain p).len) (λ e. refl) (λ e. refl)) e
after-answer c t chain stage (Answer j job g) f k got e = record { job = job; is = cc }
after-answer c t chain stage (Publish j g) f k got e = differ Poll k got refl e
after-answer c t chain stage (Broken reason head count at) f k got e = differ (Broken reason head count at) k got refl e

-- S6 leaves the used entry in place: it is the last thing that it writes
entry-last : (id : List ℕ) (q : Queue) (a : ℕ) (chain disk mem : List ℕ) (k : Walk) (job : Job) → used_at q a + 8 ≤ length mem
    → part (used_at q a) 8 (apply (answer_stores id q a chain disk k job) mem) ≡ bytes 4 k.head ++ bytes 4 (reported (status job) k.w)
unfolding answer_stores apply
entry-last id q a chain disk mem k job h =
    let xs = scatter (writables chain k) (handed id disk k job) in
    let b = bytes 4 k.head ++ bytes 4 (reported (status job) k.w) in
    let m = put (apply xs mem) (status_at chain k) (status job ∷ []) in
    let n : length b ≡ 8 = rw (length-append (bytes 4 k.head) (bytes 4 (reported (status job) k.w)), length-bytes 4 k.head, length-bytes 4 (reported (status job) k.w)) in
    let l : length m ≡ length mem = length-put (apply xs mem) (status_at chain k) (status job ∷ []) ∙ length-apply xs mem in
    rw (apply-append) (part-put m (used_at q a) 8 b n (rw l h))

entry-step : (s mem backing chain stage : List ℕ) (k : Walk) (job : Job) (got : ℕ) → phase_of (row_at s) ≡ Answer k job got → used_at (config_at s).queue (get_or s answered_word 0) + 8 ≤ length mem
    → part (used_at (config_at s).queue (get_or s answered_word 0)) 8 (stepped_on s mem backing chain stage).mem ≡ bytes 4 k.head ++ bytes 4 (reported (status job) k.w)
unfolding stepped_on stepped step step_with effect mem_stores
entry-step s mem backing chain stage k job got e h =
    rw e (entry-last (cfg_of (config_at s) (map_words s)).id (config_at s).queue (get_or s answered_word 0) chain (disk_of (config_at s).disk backing) mem k job h)

-- 12. If a step leaves a queue that publishes next, that step was S6 of the same request, and the memory that it leaves holds the used entry.
pub order : (s mem backing chain stage : List ℕ) (k : Walk) (got : ℕ) → Going s (phase_of (row_at s)) (length mem) (length backing) chain (length stage)
    → phase_of (row_at (stepped_on s mem backing chain stage).state) ≡ Publish k got
    → (j : AfterAnswer (phase_of (row_at s)) k got)
    × (part (used_at (config_at s).queue (get_or s answered_word 0)) 8 (stepped_on s mem backing chain stage).mem ≡ bytes 4 k.head ++ bytes 4 (reported (status j.job) k.w))
unfolding stepped_on stepped step step_with
order s mem backing chain stage k got g e =
    let p = phase_of (row_at s) in
    let c = cfg_of (config_at s) (map_words s) in
    let f = fetched c (state_of (get_or s taken_word 0) (get_or s answered_word 0) (get_or s descs_word 0) p) chain mem in
    let q = next c (get_or s taken_word 0) chain stage p f in
    let t = counted (effect chain stage p f) (get_or s taken_word 0) in
    let a = counted (effect chain stage p f) (get_or s answered_word 0) in
    let n = measured c (get_or s descs_word 0) p f in
    let j = after-answer c (get_or s taken_word 0) chain stage p f k got (sym (phase-saved s t a n q g.words_long) ∙ e) in
    let x = fit_of s p (length mem) (length backing) chain (length stage) g in
    (j, entry-step s mem backing chain stage k j.job got j.is (omega (arith, x.used-in, x.mem_long, mod-lt (get_or s answered_word 0) x.size-some)))

-- 11, the counters. A call that answers 2 counts, no other does.
after-not-two : (p : Phase) → code_after p ≡ 2 → ⊥
unfolding code_after
after-not-two Poll e = omega arith
after-not-two Entry e = omega arith
after-not-two (Chain k cur) e = omega arith
after-not-two (Header k p got) e = omega arith
after-not-two (Payload k p s got) e = omega arith
after-not-two (Answer k job got) e = omega arith
after-not-two (Publish k got) e = omega arith
after-not-two (Broken reason head count at) e = omega arith

counts : (e : Effect) (p : Phase) (n : ℕ) → counted e n ≡ pick (eqb (code_of e p) 2) (plus_one n) n
unfolding counted code_of
counts nothing p n = rw (ne_eqb (code_after p) 2 (after-not-two p))
counts (stores at bs) p n = rw (ne_eqb (code_after p) 2 (after-not-two p))
counts (answers k job) p n = rw (ne_eqb (code_after p) 2 (after-not-two p))
counts publishes p n = refl

-- both counters after a call of hd_step
pub record Counted (s : List ℕ) (o : Called) : Type 0 where
  pub taken_is : get_or o.state taken_word 0 ≡ pick (eqb o.code 2) (plus_one (get_or s taken_word 0)) (get_or s taken_word 0)
  pub answered-is : get_or o.state answered_word 0 ≡ pick (eqb o.code 2) (plus_one (get_or s answered_word 0)) (get_or s answered_word 0)

counted-stepped : (s mem backing chain stage : List ℕ) → state_words ≤ length s → Counted s (stepped_on s mem backing chain stage)
unfolding stepped_on stepped step step_with
counted-stepped s mem backing chain stage l =
    let p = phase_of (row_at s) in
    let c = cfg_of (config_at s) (map_words s) in
    let f = fetched c (state_of (get_or s taken_word 0) (get_or s answered_word 0) (get_or s descs_word 0) p) chain mem in
    let q = next c (get_or s taken_word 0) chain stage p f in
    let e = effect chain stage p f in
    record {
      taken_is = taken-saved s (counted e (get_or s taken_word 0)) (counted e (get_or s answered_word 0)) (measured c (get_or s descs_word 0) p f) q l ∙ counts e q (get_or s taken_word 0);
      answered-is = answered-saved s (counted e (get_or s taken_word 0)) (counted e (get_or s answered_word 0)) (measured c (get_or s descs_word 0) p f) q l ∙ counts e q (get_or s answered_word 0);
    }

pub counters-step : (s mem backing chain stage : List ℕ) → Counted s (hd_step s mem backing chain stage)
counters-step s mem backing chain stage =
    by_answer (Counted s) s mem backing chain stage
    (λ n h. let t = ne_eqb n 2 (λ z. omega arith) in record { taken_is = rw t; answered-is = rw t })
    (λ g. counted-stepped s mem backing chain stage g.words_long)

counters-call : (w : World) (m : List ℕ) → Counted w.state (ran w (step_over m))
unfolding ran
counters-call w m = counters-step w.state m w.backing w.chain w.stage

more : (b : Bool) (n : ℕ) → n < 65536 → pick b (plus_one n) n ≡ (n + pick b 1 0) % 65536
unfolding plus_one
more true n h = refl
more false n h = omega arith

-- n answers further on both counters are n further, modulo 2^16; and so is used idx, since S7 publishes the new one
pub counters : (w : World) (ms : List (List ℕ)) → get_or w.state taken_word 0 < 65536 → get_or w.state answered_word 0 < 65536
    → (get_or (run w (steps ms)).state taken_word 0 ≡ (get_or w.state taken_word 0 + answers_in w ms) % 65536)
    × (get_or (run w (steps ms)).state answered_word 0 ≡ (get_or w.state answered_word 0 + answers_in w ms) % 65536)
unfolding run steps answers_in
counters w [] h k = (omega arith, omega arith)
counters w (m ∷ ms) h k =
    let v = leaves (ran w (step_over m)) in
    let x = counters-call w m in
    let b = eqb (ran w (step_over m)).code 2 in
    let p : get_or v.state taken_word 0 ≡ (get_or w.state taken_word 0 + pick b 1 0) % 65536 = x.taken_is ∙ more b (get_or w.state taken_word 0) h in
    let q : get_or v.state answered_word 0 ≡ (get_or w.state answered_word 0 + pick b 1 0) % 65536 = x.answered-is ∙ more b (get_or w.state answered_word 0) k in
    let r = counters v ms (omega arith) (omega arith) in
    (r.0 ∙ rw p (omega arith), r.1 ∙ rw q (omega arith))

pub published : (s mem backing chain stage : List ℕ) (k : Walk) (got : ℕ) → phase_of (row_at s) ≡ Publish k got
    → (stepped_on s mem backing chain stage).mem ≡ put mem ((config_at s).queue.used + 2) (bytes 2 (plus_one (get_or s answered_word 0)))
unfolding stepped_on stepped step step_with effect mem_stores apply
published s mem backing chain stage k got e = rw e
