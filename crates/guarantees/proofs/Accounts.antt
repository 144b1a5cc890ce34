-- 11 and 12: the heads answered are the heads taken, in order, each once; used idx is published for an entry that an earlier step wrote.
use Prim.Native.Nat.{ℕ, ◌+◌, ◌*◌, ◌≤◌, ◌<◌}
use mathlib.Core.Bool.{Bool, true, false}
use mathlib.Core.List.{List, [], ◌∷◌, ◌++◌, map, append_assoc}
use mathlib.Core.Path.{◌≡◌, refl, sym, ap, ◌∙◌}
use native.Mathlib.Omega.{arith}
use lib.Dec.{leb, ltb, eqb}
use lib.ListN.{get_or, length, set}
use lib.Seq.{get_or-set_same}
use borrow.Author.Tests.{ne_eqb, eq-eqb, le-ltb, ltb-false, leb-true, eqb-true, eqb-false}
use Rattle.model.specs.Pick.{pick, both}
use Rattle.model.specs.Bytes.{put, word}
use Rattle.model.specs.Ring.{polled, pending, areas}
use Rattle.model.specs.Chain.{desc_at, tested, tally, complete, described}
use Rattle.model.specs.Request.{verdict, decided, disk_code}
use Rattle.model.specs.Step.{Cfg, left, lacks, ends, onward, gathered, paid, next, effect, code_of, code_after, counted, fetched, measured, step, step_with}
use Rattle.words.specs.Layout.{state_words, row_at, phase_of, config_at, map_words, saved, level, level_word, taken_word, answered_word, descs_word}
use Rattle.words.proofs.Saved.{phase-saved, length-saved}
use Rattle.device.specs.Turn.{cfg_of, state_of}
use Rattle.hostiledisk.specs.Calls.{Set, Called, stepped, stepped_on, Going, memory_set, hd_memory, hd_disk, disk_set, queue_set, numbered, enabled_with, hd_enable_at, hd_reset}
use Rattle.model.proofs.Tests.{on, both_r}
use Rattle.model.proofs.Chain.{tally-same}
use Rattle.model.specs.Memory.{regions, memory_code}
use Rattle.std.specs.Prelude.{Result, Ok, Err}
use Rattle.model.specs.declared.Queue.{Queue}
use Rattle.guarantees.specs.Accounts.{held, at_hand, Fate, answered, dropped, head_of, takes, gives, taken, fates, taken_in, fates_in}
use Rattle.guarantees.specs.History.{Call, memory, disk, enable, reset, step as step_over, World, ran, left as leaves, run, BytesNow, Bytes}
use Rattle.guarantees.specs.Good.{Made}
use Rattle.guarantees.proofs.Step.{by_answer}
use Rattle.guarantees.proofs.Reached.{Kept, kept-call, level-tag, memory-tag, disk-tag, queue-phase}
use Rattle.guarantees.proofs.Stays.{stays}
use Rattle.model.specs.declared.Desc.{Desc}
use Rattle.model.specs.declared.Tested.{Tested}
use Rattle.model.specs.declared.Tested.TheVariants.{Bad, Next, Last}
use Rattle.model.specs.declared.Disk.{Disk}
use Rattle.model.specs.declared.Walk.{Walk}
use Rattle.model.specs.declared.Place.{Place}
use Rattle.model.specs.declared.Job.{Job}
use Rattle.model.specs.declared.Job.TheVariants.{Failed, Unsupported, Done, Read, Write, Identity}
use Rattle.model.specs.declared.Phase.{Phase}
use Rattle.model.specs.declared.Phase.TheVariants.{Poll, Entry, Chain, Header, Payload, Answer, Publish, Broken}

append-nil : (xs : List ℕ) → xs ++ [] ≡ xs
append-nil [] = refl
append-nil (x ∷ xs) = ap (λ (l : List ℕ). x ∷ l) (append-nil xs)

keep-poll : (q t idx : ℕ) → held (polled q t idx) ≡ []
unfolding polled held
keep-poll q t idx =
    on (λ (p : Phase). held p ≡ []) (eqb (pending idx t) 0) (λ e. refl) (λ e. on (λ (p : Phase). held p ≡ []) (ltb q (pending idx t)) (λ f. refl) (λ f. refl))

-- a chain that goes on keeps its head, and has a descriptor
keep-complete : (k : Walk) (cur : ℕ) → 0 < k.count → held (complete k cur) ≡ k.head ∷ []
unfolding complete held
keep-complete k cur h =
    let P : Phase → Type 0 = λ p. held p ≡ k.head ∷ [] in
    on P (leb k.count k.reads) (λ e. rw (ne_eqb k.count 0 (λ z. omega arith))) (λ e. on P (ltb k.r 16) (λ f. refl) (λ f. refl))

keep-chain : (k : Walk) (cur : ℕ) (d : Desc) (t : Tested) → held (described k cur d t) ≡ k.head ∷ []
unfolding described held
keep-chain k cur d (Bad n) = rw (ne_eqb (k.count + 1) 0 (λ z. omega arith))
keep-chain k cur d (Next x) = rw (tally-same k d.flags d.len).0
keep-chain k cur d (Last x) =
    let y = tally-same k d.flags d.len in
    keep-complete (tally k d.flags d.len) cur (omega (arith, y.1)) ∙ ap (λ (h : ℕ). h ∷ []) y.0

keep-decided : (k : Walk) (p : Place) (job : Job) → held (decided k p job) ≡ k.head ∷ []
unfolding decided held
keep-decided k p Failed = refl
keep-decided k p Unsupported = refl
keep-decided k p Done = refl
keep-decided k p (Read s) = refl
keep-decided k p (Write s) = on (λ (p : Phase). held p ≡ k.head ∷ []) (ltb 16 k.r) (λ e. refl) (λ e. refl)
keep-decided k p Identity = refl

keep-gathered : (d : Disk) (k : Walk) (p : Place) (got l n type sector : ℕ) → held (gathered d k p got l n type sector) ≡ k.head ∷ []
unfolding gathered held
keep-gathered d k p got l n type sector =
    on (λ (p : Phase). held p ≡ k.head ∷ []) (ltb (got + n) 16) (λ e. refl) (λ e. keep-decided k (onward p l n) (verdict d type sector k.r k.w))

keep-paid : (k : Walk) (p : Place) (s got l : ℕ) → held (paid k p s got l) ≡ k.head ∷ []
unfolding paid held
keep-paid k p s got l = on (λ (p : Phase). held p ≡ k.head ∷ []) (ends k got l) (λ e. refl) (λ e. refl)

-- one step conserves heads: what was at hand and what is taken is what is answered and what is at hand then
pub conserve : (c : Cfg) (t : ℕ) (chain stage : List ℕ) (p : Phase) (f : List ℕ)
    → held p ++ takes p (next c t chain stage p f) ≡ gives p ++ held (next c t chain stage p f)
unfolding next takes gives held
conserve c t chain stage Poll f = sym (keep-poll c.queue.size t (word 2 0 f))
conserve c t chain stage Entry f = refl
conserve c t chain stage (Chain k cur) f = sym (keep-chain k cur (desc_at 0 f) (tested c.map c.queue.size k (desc_at 0 f)))
conserve c t chain stage (Header k p got) f =
    sym (keep-gathered c.disk k p got (left chain p).len (lacks got (left chain p).len) (word 4 0 (put stage got f)) (word 8 8 (put stage got f)))
conserve c t chain stage (Payload k p s got) f = sym (keep-paid k p s got (left chain p).len)
conserve c t chain stage (Answer k job got) f = refl
conserve c t chain stage (Publish k got) f = refl
conserve c t chain stage (Broken reason head count at) f = append-nil (pick (eqb count 0) [] (head ∷ []))

-- heads of fates
heads-answered : (hs : List ℕ) → map head_of (map answered hs) ≡ hs
unfolding head_of
heads-answered [] = refl
heads-answered (h ∷ hs) = ap (λ (l : List ℕ). h ∷ l) (heads-answered hs)

heads-dropped : (hs : List ℕ) → map head_of (map dropped hs) ≡ hs
unfolding head_of
heads-dropped [] = refl
heads-dropped (h ∷ hs) = ap (λ (l : List ℕ). h ∷ l) (heads-dropped hs)

heads-append : (xs ys : List Fate) → map head_of (xs ++ ys) ≡ map head_of xs ++ map head_of ys
heads-append [] ys = refl
heads-append (x ∷ xs) ys = ap (λ (l : List ℕ). head_of x ∷ l) (heads-append xs ys)

-- a step that touches nothing takes nothing
takes_same : (p : Phase) → takes p p ≡ []
unfolding takes held
takes_same Poll = refl
takes_same Entry = refl
takes_same (Chain k cur) = refl
takes_same (Header k p got) = refl
takes_same (Payload k p s got) = refl
takes_same (Answer k job got) = refl
takes_same (Publish k got) = refl
takes_same (Broken reason head count at) = refl

pick-nil : (b : Bool) → ◌≡◌ {A = List Fate} (pick b [] []) []
pick-nil true = refl
pick-nil false = refl

-- a step answers 2 exactly if it gives a head
gives-two : (chain stage f : List ℕ) (p q : Phase) → pick (eqb (code_of (effect chain stage p f) q) 2) (map answered (gives p)) [] ≡ map answered (gives p)
unfolding gives effect code_of
gives-two chain stage f Poll q = pick-nil (eqb (code_after q) 2)
gives-two chain stage f Entry q = pick-nil (eqb (code_after q) 2)
gives-two chain stage f (Chain k cur) q = pick-nil (eqb (code_after q) 2)
gives-two chain stage f (Header k p got) q = pick-nil (eqb (code_after q) 2)
gives-two chain stage f (Payload k p s got) q = pick-nil (eqb (code_of (effect chain stage (Payload k p s got) f) q) 2)
gives-two chain stage f (Answer k job got) q = pick-nil (eqb (code_after q) 2)
gives-two chain stage f (Publish k got) q = refl
gives-two chain stage f (Broken reason head count at) q = pick-nil (eqb (code_after q) 2)

at-hand-on : (w : World) → state_words ≤ length w.state → level w.state ≡ 3 → at_hand w ≡ held (phase_of (row_at w.state))
unfolding at_hand
at-hand-on w l h = rw (le-ltb (length w.state) state_words l, eq-eqb (level w.state) 3 h)

account-stepped : (w : World) (mem : List ℕ) → ((i : ℕ) → get_or mem i 0 < 256)
    → Going w.state (phase_of (row_at w.state)) (length mem) (length w.backing) w.chain (length w.stage) → Made w.state w.chain
    → at_hand w ++ takes (phase_of (row_at w.state)) (phase_of (row_at (stepped_on w.state mem w.backing w.chain w.stage).state))
    ≡ map head_of (pick (eqb (stepped_on w.state mem w.backing w.chain w.stage).code 2) (map answered (gives (phase_of (row_at w.state)))) [])
    ++ at_hand (leaves (stepped_on w.state mem w.backing w.chain w.stage))
unfolding stepped_on stepped step step_with
account-stepped w mem b g m =
    let s = w.state in
    let p = phase_of (row_at s) in
    let c = cfg_of (config_at s) (map_words s) in
    let f = fetched c (state_of (get_or s taken_word 0) (get_or s answered_word 0) (get_or s descs_word 0) p) w.chain mem in
    let q = next c (get_or s taken_word 0) w.chain w.stage p f in
    let e = effect w.chain w.stage p f in
    let t = counted e (get_or s taken_word 0) in
    let a = counted e (get_or s answered_word 0) in
    let n = measured c (get_or s descs_word 0) p f in
    let o = leaves (stepped_on s mem w.backing w.chain w.stage) in
    let x : phase_of (row_at (saved s t a n q)) ≡ q = phase-saved s t a n q g.words_long in
    let y : at_hand o ≡ held q =
    at-hand-on o (rw (length-saved s t a n q) g.words_long) (stays s mem w.backing w.chain w.stage b g m) ∙ ap held x in
    rw (at-hand-on w g.words_long g.enabled, x, gives-two w.chain w.stage f p q, heads-answered (gives p), y) (conserve c (get_or s taken_word 0) w.chain w.stage p f)

-- one step, on the words
account-step : (w : World) (mem : List ℕ) → ((i : ℕ) → get_or mem i 0 < 256) → Kept w
    → at_hand w ++ taken w (step_over mem) ≡ map head_of (fates w (step_over mem)) ++ at_hand (leaves (ran w (step_over mem)))
unfolding taken fates ran
account-step w mem b k =
    let s = w.state in
    let p = phase_of (row_at s) in
    by_answer (λ (o : Called). at_hand w ++ takes p (phase_of (row_at o.state)) ≡ map head_of (pick (eqb o.code 2) (map answered (gives p)) []) ++ at_hand (leaves o))
    s mem w.backing w.chain w.stage
    (λ n h. rw (takes_same p, ne_eqb n 2 (λ z. omega arith)) (append-nil (at_hand w)))
    (λ g. account-stepped w mem b g (k g.words_long g.enabled))

-- nothing is at hand where no queue is enabled, or it only polls
at-hand-off : (w : World) → (state_words ≤ length w.state → level w.state ≡ 3 → held (phase_of (row_at w.state)) ≡ []) → at_hand w ≡ []
unfolding at_hand
at-hand-off w f =
    on (λ (l : List ℕ). l ≡ []) (ltb (length w.state) state_words) (λ e. refl)
    (λ e. on (λ (l : List ℕ). l ≡ []) (eqb (level w.state) 3) (λ h. f (ltb-false (length w.state) state_words e) (eqb-true (level w.state) 3 h)) (λ h. refl))

at-hand-tag : (w : World) (n : ℕ) → get_or w.state level_word 0 ≡ n → (n ≡ 3 → ⊥) → at_hand w ≡ []
at-hand-tag w n e f = at-hand-off w (λ l h. absurd (f (sym e ∙ level-tag w.state h)))

at-hand-level : (w : World) (n : ℕ) → level w.state ≡ n → (n ≡ 3 → ⊥) → at_hand w ≡ []
at-hand-level w n e f = at-hand-off w (λ l h. absurd (f (sym e ∙ h)))

abbrev with-state : World → List ℕ → World
with-state w s = record { state = s; backing = w.backing; chain = w.chain; stage = w.stage }

held-poll : held Poll ≡ []
unfolding held
held-poll = refl

at-hand-short : (w : World) → ltb (length w.state) state_words ≡ true → at_hand w ≡ []
unfolding at_hand
at-hand-short w e = rw e

account-memory : (w : World) (ws : List ℕ) (m : ℕ) → at_hand w ++ taken w (memory ws m) ≡ map head_of (fates w (memory ws m)) ++ at_hand (leaves (ran w (memory ws m)))
unfolding taken fates ran hd_memory
account-memory w ws m =
    let P : Set → Type 0 = λ x. at_hand w ++ [] ≡ map head_of (pick (eqb x.code 0) (map dropped (at_hand w)) []) ++ at_hand (with-state w x.state) in
    on P (ltb (length w.state) state_words) (λ e. append-nil (at_hand w))
    (λ e. on P (eqb (memory_code m ws) 0)
    (λ f. rw (
      heads-dropped (at_hand w),
      at-hand-tag (with-state w (memory_set w.state ws m)) 1 (memory-tag w.state ws m (ltb-false (length w.state) state_words e)) (λ z. omega arith),
    ))
    (λ f. rw f (append-nil (at_hand w))))

account-disk : (w : World) (start sectors ro : ℕ) (id : List ℕ) (b : ℕ)
    → at_hand w ++ taken w (disk start sectors ro id b) ≡ map head_of (fates w (disk start sectors ro id b)) ++ at_hand (leaves (ran w (disk start sectors ro id b)))
unfolding taken fates ran hd_disk
account-disk w start sectors ro id b =
    let P : Set → Type 0 = λ x. at_hand w ++ [] ≡ at_hand (with-state w x.state) in
    on P (ltb (length w.state) state_words) (λ e. append-nil (at_hand w))
    (λ e. on P (both (leb 1 (level w.state)) (leb (level w.state) 2))
    (λ f. on P (eqb (length id) 20)
    (λ g. on P (eqb (disk_code start sectors b) 0)
    (λ h. rw (
      at-hand-level w (level w.state) refl (λ z. omega (arith, leb-true (level w.state) 2 (both_r (leb 1 (level w.state)) (leb (level w.state) 2) f))),
      at-hand-tag (with-state w (disk_set w.state start sectors ro id b)) 2 (disk-tag w.state start sectors ro id b (omega (arith, ltb-false (length w.state) state_words e))) (λ z. omega arith),
    ))
    (λ h. append-nil (at_hand w)))
    (λ g. append-nil (at_hand w)))
    (λ f. append-nil (at_hand w)))

account-enabled : (w : World) (c g start : ℕ) (x : Result Queue ℕ) → state_words ≤ length w.state → level w.state ≡ 2 → at_hand w ++ [] ≡ at_hand (with-state w (enabled_with w.state c g start x).state)
unfolding enabled_with
account-enabled w c g start (Err n) l e = append-nil (at_hand w)
account-enabled w c g start (Ok q) l e =
    let P : Set → Type 0 = λ x. at_hand w ++ [] ≡ at_hand (with-state w x.state) in
    on P (ltb c (2 * q.size)) (λ f. append-nil (at_hand w))
    (λ f. on P (ltb g 1048576) (λ f. append-nil (at_hand w))
    (λ f. on P (leb 65536 start) (λ f. append-nil (at_hand w))
    (λ f. rw (
      at-hand-level w 2 e (λ z. omega arith),
      at-hand-off (with-state w (queue_set w.state q c g start)) (λ u v. ap held (queue-phase w.state q c g start l) ∙ held-poll),
    ))))

account-enable : (w : World) (size desc avail used c g start : ℕ)
    → at_hand w ++ taken w (enable size desc avail used c g start) ≡ map head_of (fates w (enable size desc avail used c g start)) ++ at_hand (leaves (ran w (enable size desc avail used c g start)))
unfolding taken fates ran hd_enable_at
account-enable w size desc avail used c g start =
    let P : Set → Type 0 = λ x. at_hand w ++ [] ≡ at_hand (with-state w x.state) in
    on P (ltb (length w.state) state_words) (λ e. append-nil (at_hand w))
    (λ e. on P (eqb (level w.state) 2)
    (λ f. account-enabled w c g start (numbered (areas (regions (map_words w.state)) size desc avail used)) (ltb-false (length w.state) state_words e) (eqb-true (level w.state) 2 f))
    (λ f. append-nil (at_hand w)))

account-reset : (w : World) → at_hand w ++ taken w reset ≡ map head_of (fates w reset) ++ at_hand (leaves (ran w reset))
unfolding taken fates ran hd_reset
account-reset w =
    let P : List ℕ → Type 0 = λ s. at_hand w ++ [] ≡ map head_of (map dropped (at_hand w)) ++ at_hand (with-state w s) in
    on (λ (x : Set). P x.state) (ltb (length w.state) state_words) (λ e. rw (at-hand-short w e))
    (λ e. on P (eqb (level w.state) 3)
    (λ f. rw (heads-dropped (at_hand w), at-hand-tag (with-state w (set w.state 0 2)) 2 (get_or-set_same w.state 0 2 0 (omega (arith, ltb-false (length w.state) state_words e))) (λ z. omega arith)))
    (λ f. rw (at-hand-level w (level w.state) refl (eqb-false (level w.state) 3 f))))

account-call : (w : World) (c : Call) → BytesNow c → Kept w → at_hand w ++ taken w c ≡ map head_of (fates w c) ++ at_hand (leaves (ran w c))
unfolding BytesNow
account-call w (memory words m) b k = account-memory w words m
account-call w (disk start sectors ro id backing) b k = account-disk w start sectors ro id backing
account-call w (enable size desc avail used chain stage start) b k = account-enable w size desc avail used chain stage start
account-call w reset b k = account-reset w
account-call w (step_over mem) b k = account-step w mem b k

compose : (h₀ t₁ a₁ h₁ t₂ a₂ h₂ : List ℕ) → h₀ ++ t₁ ≡ a₁ ++ h₁ → h₁ ++ t₂ ≡ a₂ ++ h₂ → h₀ ++ (t₁ ++ t₂) ≡ (a₁ ++ a₂) ++ h₂
compose h₀ t₁ a₁ h₁ t₂ a₂ h₂ p q = cc (append_assoc h₀ t₁ t₂, append_assoc a₁ h₁ t₂, append_assoc a₁ a₂ h₂, p, q)

-- 11. Over every history: what was at hand and what is taken, in order, is what is answered or dropped, in order, and what is at hand then.
pub accounts : (w : World) (cs : List Call) → Bytes cs → Kept w → at_hand w ++ taken_in w cs ≡ map head_of (fates_in w cs) ++ at_hand (run w cs)
unfolding taken_in fates_in run Bytes
accounts w [] b k = append-nil (at_hand w)
accounts w (c ∷ cs) b k =
    let v = leaves (ran w c) in
    rw (heads-append (fates w c) (fates_in v cs))
    (compose (at_hand w) (taken w c) (map head_of (fates w c)) (at_hand v) (taken_in v cs) (map head_of (fates_in v cs)) (at_hand (run v cs))
    (account-call w c b.0 k) (accounts v cs b.1 (kept-call w c b.0 k)))
