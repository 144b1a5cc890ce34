-- Steps that lead to a result, and what one step of each phase comes to.
use Prim.Native.Nat.{ℕ, zero, suc, ◌+◌, ◌*◌, ◌%◌, ◌<◌}
use native.Mathlib.Omega.{arith}
use native.Mathlib.Nat.{add-zero, suc-add, add-suc}
use mathlib.Core.Bool.{true, false}
use mathlib.Core.Path.{◌≡◌, refl}
use mathlib.Core.List.{List, [], ◌∷◌, ◌++◌}
use lib.Dec.{ltb}
use lib.ListN.{length}
use Rattle.model.specs.Bytes.{put, part, word, bytes}
use Rattle.model.specs.Memory.{sound}
use Rattle.model.specs.Ring.{plus_one, polled, headed}
use Rattle.model.specs.Chain.{desc_at, tested, described, descs_after, keeps}
use Rattle.model.specs.Request.{verdict, decided}
use Rattle.model.specs.Step.{Cfg, Out, left, lacks, onward, ends, paid, gathered, want, next, chained, measured, staged, effect, mem_stores, answer_stores, disk_stores, disk_of, shifted, apply, counted, code_of, code_after, step_with, step}
use Rattle.model.specs.declared.Disk.{Disk}
use Rattle.model.specs.declared.Desc.{Desc}
use Rattle.model.specs.declared.Walk.{Walk}
use Rattle.model.specs.declared.Place.{Place}
use Rattle.model.specs.declared.Job.{Job}
use Rattle.model.specs.declared.Job.TheVariants.{Failed, Unsupported, Done, Read, Write, Identity}
use Rattle.model.specs.declared.Phase.{Phase}
use Rattle.model.specs.declared.Phase.TheVariants.{Poll, Entry, Chain, Header, Payload, Answer}
use Rattle.model.proofs.Tests.{on}
use Rattle.model.proofs.Words.{word-part}
use Rattle.requests.specs.Guest.{again, after, out}

-- from step number i and this output of the step before, steps lead to an output and a number of which F holds; every output before it answers 1
pub data Leads (c : Cfg) (g : ℕ → List ℕ → List ℕ) (F : ℕ → Out → Type 0) : ℕ → Out → Type 0 where
  there : (i : ℕ) (o : Out) → F i o → Leads c g F i o
  turn : (i : ℕ) (o : Out) → o.code ≡ 1 → Leads c g F (suc i) (again c g i o) → Leads c g F i o

pub record Ended (c : Cfg) (g : ℕ → List ℕ → List ℕ) (F : ℕ → Out → Type 0) (i : ℕ) (o : Out) : Type 0 where
  pub steps : ℕ
  pub holds : F (i + steps) (after c g i steps o)
  pub quiet : (j : ℕ) → j < steps → (after c g i j o).code ≡ 1

-- one output that answers 1, before others that do
pub quiet-first : (c : Cfg) (g : ℕ → List ℕ → List ℕ) (i : ℕ) (o : Out) (n : ℕ) → o.code ≡ 1 → ((j : ℕ) → j < n → (after c g (suc i) j (again c g i o)).code ≡ 1)
    → (j : ℕ) → j < suc n → (after c g i j o).code ≡ 1
unfolding after
quiet-first c g i o n q k zero h = q
quiet-first c g i o n q k (suc j) h = k j (omega arith)

pub ended : {c : Cfg} {g : ℕ → List ℕ → List ℕ} {F : ℕ → Out → Type 0} {i : ℕ} {o : Out} → Leads c g F i o → Ended c g F i o
unfolding after
ended (there i o f) = record { steps = 0; holds = rw add-zero f; quiet = λ j h. absurd (omega arith) }
ended {c} {g} (turn i o q l) =
    let r = ended l in
    record { steps = suc r.steps; holds = rw add-suc (rw suc-add at r.holds); quiet = quiet-first c g i o r.steps q r.quiet }

-- A guest whose memories at steps 0, 1, 2, .. are these as long as the device writes none; they keep their length, and the map is sound for it.
pub record Beside (c : Cfg) (g : ℕ → List ℕ → List ℕ) (mems : ℕ → List ℕ) (m : ℕ) : Type 0 where
  pub goes_on : (j : ℕ) → g (suc j) (mems j) ≡ mems (suc j)
  pub long : (j : ℕ) → length (mems j) ≡ m
  pub map-sound : sound m c.map ≡ true

pub desc-part : (k : ℕ) (m : List ℕ) → desc_at 0 (part k 16 m) ≡ desc_at k m
unfolding desc_at
desc-part k m =
    let a : word 8 0 (part k 16 m) ≡ word 8 k m = rw add-zero at (word-part 8 0 k 16 m (omega arith)) in
    rw (a, word-part 4 8 k 16 m (omega arith), word-part 2 12 k 16 m (omega arith), word-part 2 14 k 16 m (omega arith))

word_two : (k : ℕ) (m : List ℕ) → word 2 0 (part k 2 m) ≡ word 2 k m
word_two k m = rw add-zero at (word-part 2 0 k 2 m (omega arith))

-- whatever the header says, there is a step to come
decided-quiet : (k : Walk) (p : Place) (job : Job) → code_after (decided k p job) ≡ 1
unfolding decided code_after
decided-quiet k p Failed = refl
decided-quiet k p Unsupported = refl
decided-quiet k p Done = refl
decided-quiet k p (Read s) = refl
decided-quiet k p (Write s) = on (λ (x : Phase). code_after x ≡ 1) (ltb 16 k.r) (λ e. refl) (λ e. refl)
decided-quiet k p Identity = refl

gathered-quiet : (d : Disk) (k : Walk) (p : Place) (got l n type sector : ℕ) → code_after (gathered d k p got l n type sector) ≡ 1
unfolding gathered code_after
gathered-quiet d k p got l n type sector =
    on (λ (x : Phase). code_after x ≡ 1) (ltb (got + n) 16) (λ e. refl) (λ e. decided-quiet k (onward p l n) (verdict d type sector k.r k.w))

module _ (c : Cfg) (g : ℕ → List ℕ → List ℕ) (mems : ℕ → List ℕ) (F : ℕ → Out → Type 0) (t a descs : ℕ) (b : List ℕ) where
  pub poll-turn : (m chain stage : List ℕ) (code : ℕ) → g 0 m ≡ mems 0
      → Leads c g F 1 (out t a descs (polled c.queue.size t (word 2 (c.queue.avail + 2) (mems 0))) (mems 0) b chain stage (code_after (polled c.queue.size t (word 2 (c.queue.avail + 2) (mems 0)))))
      → Leads c g F 1 (again c g 0 (out t a descs Poll m b chain stage code))
  unfolding again step step_with want next chained measured staged effect mem_stores disk_stores shifted apply counted code_of
  poll-turn m chain stage code e f = rw (e, word_two) f

  pub entry-turn : (chain stage : List ℕ) (code : ℕ) → code ≡ 1 → g 1 (mems 0) ≡ mems 1
      → Leads c g F 2 (out t a descs (headed c.queue.size (word 2 (c.queue.avail + (4 + 2 * (t % c.queue.size))) (mems 1))) (mems 1) b chain stage (code_after (headed c.queue.size (word 2 (c.queue.avail + (4 + 2 * (t % c.queue.size))) (mems 1)))))
      → Leads c g F 1 (out t a descs Entry (mems 0) b chain stage code)
  unfolding again step step_with want next chained measured staged effect mem_stores disk_stores shifted apply counted code_of
  entry-turn chain stage code q e f = turn 1 (out t a descs Entry (mems 0) b chain stage code) q (rw (e, word_two) f)

  pub chain-turn : (i : ℕ) (k : Walk) (n : ℕ) (chain stage : List ℕ) (code : ℕ) → code ≡ 1 → g (suc i) (mems i) ≡ mems (suc i) → (d : Desc)
      → desc_at (c.queue.desc + 16 * n) (mems (suc i)) ≡ d
      → Leads c g F (suc (suc i))
      (out t a (descs_after descs k (tested c.map c.queue.size k d)) (described k n d (tested c.map c.queue.size k d)) (mems (suc i)) b (keeps chain k d (tested c.map c.queue.size k d)) stage (code_after (described k n d (tested c.map c.queue.size k d))))
      → Leads c g F (suc i) (out t a descs (Chain k n) (mems i) b chain stage code)
  unfolding again step step_with want next chained measured staged effect mem_stores disk_stores shifted apply counted code_of
  chain-turn i k n chain stage code q e d h f = turn (suc i) (out t a descs (Chain k n) (mems i) b chain stage code) q (rw (e, desc-part, h) f)

  pub header-turn : (i : ℕ) (k : Walk) (p : Place) (got : ℕ) (chain stage : List ℕ) (code : ℕ) → code ≡ 1 → g (suc i) (mems i) ≡ mems (suc i) → (bs : List ℕ)
      → part (left chain p).at (lacks got (left chain p).len) (mems (suc i)) ≡ bs
      → ((code : ℕ) → code ≡ 1 → Leads c g F (suc (suc i))
      (out t a descs (gathered c.disk k p got (left chain p).len (lacks got (left chain p).len) (word 4 0 (put stage got bs)) (word 8 8 (put stage got bs)))
      (mems (suc i)) b chain (put stage got bs) code))
      → Leads c g F (suc i) (out t a descs (Header k p got) (mems i) b chain stage code)
  unfolding again step step_with want next chained measured staged effect mem_stores disk_stores shifted apply counted code_of
  header-turn i k p got chain stage code q e bs h f =
      turn (suc i) (out t a descs (Header k p got) (mems i) b chain stage code) q (rw (e, h) (f _ (gathered-quiet c.disk k p got (left chain p).len (lacks got (left chain p).len) (word 4 0 (put stage got bs)) (word 8 8 (put stage got bs)))))

  -- a buffer that is not the payload's last ..
  pub payload-turn : (i : ℕ) (k : Walk) (p : Place) (sector got : ℕ) (chain stage : List ℕ) (code : ℕ) → code ≡ 1 → g (suc i) (mems i) ≡ mems (suc i) → (bs : List ℕ)
      → part (left chain p).at (left chain p).len (mems (suc i)) ≡ bs → ends k got (left chain p).len ≡ false
      → ((code : ℕ) → code ≡ 1 → Leads c g F (suc (suc i))
      (out t a descs (Payload k (record { buf = p.buf + 1; skip = 0 }) sector (got + (left chain p).len)) (mems (suc i)) b chain (put stage got bs) code))
      → Leads c g F (suc i) (out t a descs (Payload k p sector got) (mems i) b chain stage code)
  unfolding again step step_with want next chained measured staged effect mem_stores disk_stores shifted apply counted code_of code_after paid
  payload-turn i k p sector got chain stage code q e bs h n f = turn (suc i) (out t a descs (Payload k p sector got) (mems i) b chain stage code) q (rw (e, h, n) (f 1 refl))

  -- .. and the last
  pub payload-last : (i : ℕ) (k : Walk) (p : Place) (sector got : ℕ) (chain stage : List ℕ) (code : ℕ) → code ≡ 1 → g (suc i) (mems i) ≡ mems (suc i) → (bs : List ℕ)
      → part (left chain p).at (left chain p).len (mems (suc i)) ≡ bs → ends k got (left chain p).len ≡ true
      → ((code : ℕ) → code ≡ 1 → Leads c g F (suc (suc i))
      (out t a descs (Answer k Done k.r) (mems (suc i)) (put b (c.disk.start + 512 * sector) (part 0 got stage ++ bs)) chain stage code))
      → Leads c g F (suc i) (out t a descs (Payload k p sector got) (mems i) b chain stage code)
  unfolding again step step_with want next chained measured staged effect mem_stores disk_stores shifted apply counted code_of code_after paid
  payload-last i k p sector got chain stage code q e bs h n f = turn (suc i) (out t a descs (Payload k p sector got) (mems i) b chain stage code) q (rw (e, h, n) (f 1 refl))

  -- S6 and S7
  pub answer-turns : (i : ℕ) (k : Walk) (job : Job) (got : ℕ) (chain stage : List ℕ) (code : ℕ) → code ≡ 1 → g (suc i) (mems i) ≡ mems (suc i)
      → F (suc (suc (suc i)))
      (out (plus_one t) (plus_one a) descs Poll
      (apply (record { to = c.queue.used + 2; bytes = bytes 2 (plus_one a) } ∷ [])
      (g (suc (suc i)) (apply (answer_stores c.id c.queue a chain (disk_of c.disk b) k job) (mems (suc i))))) b chain stage 2)
      → Leads c g F (suc i) (out t a descs (Answer k job got) (mems i) b chain stage code)
  unfolding again step step_with want next chained measured staged effect mem_stores disk_stores shifted counted code_of code_after
  answer-turns i k job got chain stage code q e f =
      let o = out t a descs (Answer k job got) (mems i) b chain stage code in
      turn (suc i) o q (turn (suc (suc i)) (again c g (suc i) o) refl (there (suc (suc (suc i))) (again c g (suc (suc i)) (again c g (suc i) o)) (rw e f)))
