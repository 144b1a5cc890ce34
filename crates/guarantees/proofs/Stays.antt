-- A step of a queue that set-up and steps made leaves it enabled: its words pass every test again.
use Prim.Native.Nat.{ℕ, ◌+◌, ◌*◌, ◌≤◌, ◌<◌}
use mathlib.Core.Bool.{Bool, true, false}
use mathlib.Core.List.{List}
use mathlib.Core.Path.{◌≡◌, refl, ap, ◌∙◌}
use native.Mathlib.Omega.{arith}
use lib.Dec.{leb, ltb, eqb}
use lib.ListN.{get_or, length}
use borrow.Author.Tests.{lt-ltb, le-leb, leb-false}
use Rattle.model.specs.Pick.{pick}
use Rattle.model.specs.Memory.{Region, regions}
use Rattle.model.specs.Ring.{queue_size_ok, plus_one}
use Rattle.model.specs.Sane.{sane}
use Rattle.model.specs.Chain.{desc_at, tested, descs_after}
use Rattle.model.specs.Step.{Cfg, Effect, nothing, stores, answers, publishes, counted, effect, fetched, next, chained, measured, step, step_with}
use Rattle.model.proofs.Tests.{both-split}
use Rattle.model.proofs.Chain.{last-room}
use Rattle.model.proofs.Lists.{below}
use Rattle.words.specs.Layout.{state_words, job_tag, row_of, row_at, phase_of, saved, config_at, map_words, memory_ok, disk_ok, queue_ok, lent_ok, tags_ok, phase_ok, enabled_ok, level, level_word, mem_len_word, regions_word, start_word, sectors_word, ro_word, backing_len_word, id2_word, size_word, desc_area_word, avail_area_word, used_area_word, chain_len_word, stage_len_word, taken_word, answered_word, tag_word, a_word, descs_word}
use Rattle.words.specs.declared.Row.{Row}
use Rattle.words.proofs.Saved.{row-saved, phase-saved, taken-saved, answered-saved, descs-saved, others-saved}
use Rattle.device.specs.Turn.{cfg_of, state_of}
use Rattle.hostiledisk.specs.Calls.{stepped, stepped_on, Going}
use Rattle.hostiledisk.proofs.Laws.{level-three, fit_of}
use Rattle.guarantees.specs.Good.{Made}
use Rattle.guarantees.proofs.Good.{both_true, good-sane}
use Rattle.guarantees.proofs.Keeps.{keeps-next}
use Rattle.guarantees.proofs.Reached.{part-saved}
use Rattle.model.specs.declared.Desc.{Desc}
use Rattle.model.specs.declared.Tested.{Tested}
use Rattle.model.specs.declared.Tested.TheVariants.{Bad, Next, Last}
use Rattle.model.specs.declared.Walk.{Walk}
use Rattle.model.specs.declared.Job.{Job}
use Rattle.model.specs.declared.Job.TheVariants.{Failed, Unsupported, Done, Read, Write, Identity}
use Rattle.model.specs.declared.Phase.{Phase}
use Rattle.model.specs.declared.Phase.TheVariants.{Poll, Entry, Chain, Header, Payload, Answer, Publish, Broken}

job-tag : (job : Job) → leb (job_tag job) 5 ≡ true
unfolding job_tag
job-tag Failed = refl
job-tag Unsupported = refl
job-tag Done = refl
job-tag (Read s) = refl
job-tag (Write s) = refl
job-tag Identity = refl

row-tags : (p : Phase) → tags_ok (row_of p).tag (row_of p).a ≡ true
unfolding row_of tags_ok
row-tags Poll = refl
row-tags Entry = refl
row-tags (Chain k cur) = refl
row-tags (Header k p got) = refl
row-tags (Payload k p s got) = refl
row-tags (Answer k job got) = job-tag job
row-tags (Publish k got) = refl
row-tags (Broken reason head count at) = refl

-- all of `level`, from its parts
pub tower-all : (a b c d e f : Bool) → a ≡ true → b ≡ false → c ≡ true → d ≡ false → e ≡ true → f ≡ true
    → ◌≡◌ {A = ℕ} (pick a (pick b 1 (pick c (pick d 2 (pick e (pick f 3 0) 0)) 0)) 0) 3
tower-all a b c d e f p q r s t u = rw (p, q, r, s, t, u)

tower-parts : (a b c d e f : Bool) → ◌≡◌ {A = ℕ} (pick a (pick b 1 (pick c (pick d 2 (pick e (pick f 3 0) 0)) 0)) 0) 3
    → (a ≡ true) × (b ≡ false) × (c ≡ true) × (d ≡ false) × (e ≡ true) × (f ≡ true)
tower-parts false b c d e f h = absurd (omega arith)
tower-parts true true c d e f h = absurd (omega arith)
tower-parts true false false d e f h = absurd (omega arith)
tower-parts true false true true e f h = absurd (omega arith)
tower-parts true false true false false f h = absurd (omega arith)
tower-parts true false true false true false h = absurd (omega arith)
tower-parts true false true false true true h = (refl, refl, refl, refl, refl, refl)

module _ (s : List ℕ) (t a n : ℕ) (p : Phase) (l : state_words ≤ length s) (tl : t < 65536) (al : a < 65536) (nl : n ≤ get_or s size_word 0) where
  w : (i : ℕ) → i < taken_word → get_or (saved s t a n p) i 0 ≡ get_or s i 0
  w i u = others-saved s t a n p i (below u)

  memory-saved : memory_ok (saved s t a n p) ≡ memory_ok s
  unfolding memory_ok
  memory-saved = rw (w regions_word (omega arith), w mem_len_word (omega arith), part-saved s t a n p (3 * get_or s regions_word 0))

  disk-saved : disk_ok (saved s t a n p) ≡ disk_ok s
  unfolding disk_ok
  disk-saved = rw (w start_word (omega arith), w sectors_word (omega arith), w backing_len_word (omega arith), w ro_word (omega arith), w id2_word (omega arith))

  queue-saved : queue_ok s ≡ true → queue_ok (saved s t a n p) ≡ true
  unfolding queue_ok lent_ok
  queue-saved e =
      let z = both-split (queue_size_ok (get_or s size_word 0)) _ e in
      let b = both-split (leb (get_or s desc_area_word 0 + 16 * get_or s size_word 0) (get_or s mem_len_word 0)) _ z.1 in
      let c = both-split (leb (get_or s avail_area_word 0 + (6 + 2 * get_or s size_word 0)) (get_or s mem_len_word 0)) _ b.1 in
      let d = both-split (leb (get_or s used_area_word 0 + (6 + 8 * get_or s size_word 0)) (get_or s mem_len_word 0)) _ c.1 in
      let f = both-split (leb (2 * get_or s size_word 0) (get_or s chain_len_word 0)) _ d.1 in
      let g = both-split (leb 1048576 (get_or s stage_len_word 0)) _ f.1 in
      rw (w size_word (omega arith), w desc_area_word (omega arith), w avail_area_word (omega arith), w used_area_word (omega arith), w chain_len_word (omega arith), w stage_len_word (omega arith), w mem_len_word (omega arith), taken-saved s t a n p l, answered-saved s t a n p l, descs-saved s t a n p l)
      (both_true (queue_size_ok (get_or s size_word 0)) _ z.0
      (both_true (leb (get_or s desc_area_word 0 + 16 * get_or s size_word 0) (get_or s mem_len_word 0)) _ b.0
      (both_true (leb (get_or s avail_area_word 0 + (6 + 2 * get_or s size_word 0)) (get_or s mem_len_word 0)) _ c.0
      (both_true (leb (get_or s used_area_word 0 + (6 + 8 * get_or s size_word 0)) (get_or s mem_len_word 0)) _ d.0
      (both_true (leb (2 * get_or s size_word 0) (get_or s chain_len_word 0)) _ f.0
      (both_true (leb 1048576 (get_or s stage_len_word 0)) _ g.0 (both_true (ltb t 65536) _ (lt-ltb t 65536 tl) (both_true (ltb a 65536) _ (lt-ltb a 65536 al) (le-leb n (get_or s size_word 0) nl)))))))))

  tags-saved : tags_ok (get_or (saved s t a n p) tag_word 0) (get_or (saved s t a n p) a_word 0) ≡ true
  unfolding row_at
  tags-saved =
      let e = row-saved s t a n p l in
      let x : get_or (saved s t a n p) tag_word 0 ≡ (row_of p).tag = ap (λ (r : Row). r.tag) e in
      let y : get_or (saved s t a n p) a_word 0 ≡ (row_of p).a = ap (λ (r : Row). r.a) e in
      rw (x, y) (row-tags p)

  pub level-saved : level s ≡ 3 → sane (get_or s size_word 0) (get_or s sectors_word 0) p ≡ true → level (saved s t a n p) ≡ 3
  unfolding level enabled_ok phase_ok
  level-saved h g =
      let x = tower-parts (memory_ok s) (eqb (get_or s level_word 0) 1) (disk_ok s) (eqb (get_or s level_word 0) 2) (eqb (get_or s level_word 0) 3) (enabled_ok s) h in
      let y = both-split (queue_ok s) _ x.5 in
      let o = w level_word (omega arith) in
      tower-all (memory_ok (saved s t a n p)) (eqb (get_or (saved s t a n p) level_word 0) 1) (disk_ok (saved s t a n p)) (eqb (get_or (saved s t a n p) level_word 0) 2) (eqb (get_or (saved s t a n p) level_word 0) 3) (enabled_ok (saved s t a n p))
      (memory-saved ∙ x.0) (rw o x.1) (disk-saved ∙ x.2) (rw o x.3) (rw o x.4)
      (both_true (queue_ok (saved s t a n p)) _ (queue-saved y.0)
      (both_true (tags_ok (get_or (saved s t a n p) tag_word 0) (get_or (saved s t a n p) a_word 0)) _ tags-saved
      (rw (w size_word (omega arith), w sectors_word (omega arith), phase-saved s t a n p l) g)))

counted-low : (e : Effect) (n : ℕ) → n < 65536 → counted e n < 65536
unfolding counted plus_one
counted-low nothing n h = h
counted-low (stores at bs) n h = h
counted-low (answers k job) n h = h
counted-low publishes n h = omega arith

-- a complete chain has at most as many descriptors as the queue
descs-low : (rs : List Region) (q n : ℕ) (k : Walk) (d : Desc) → n ≤ q → descs_after n k (tested rs q k d) ≤ q
unfolding tested descs_after
descs-low rs q n k d h = go (tested rs q k d) refl
  where
    go : (t : Tested) → tested rs q k d ≡ t → descs_after n k t ≤ q
    go (Bad r) e = h
    go (Next x) e = h
    go (Last x) e = omega (arith, leb-false q k.count (last-room _ _ _ _ _ _ _ x e))

measured-low : (c : Cfg) (n : ℕ) (p : Phase) (f : List ℕ) → n ≤ c.queue.size → measured c n p f ≤ c.queue.size
unfolding measured
measured-low c n Poll f h = h
measured-low c n Entry f h = h
measured-low c n (Chain k cur) f h = descs-low c.map c.queue.size n k (desc_at 0 f) h
measured-low c n (Header k p got) f h = h
measured-low c n (Payload k p s got) f h = h
measured-low c n (Answer k job got) f h = h
measured-low c n (Publish k got) f h = h
measured-low c n (Broken reason head count at) f h = h

-- the words after a step pass every test
pub stays : (s mem backing chain stage : List ℕ) → ((i : ℕ) → get_or mem i 0 < 256) → Going s (phase_of (row_at s)) (length mem) (length backing) chain (length stage) → Made s chain
    → level (stepped_on s mem backing chain stage).state ≡ 3
unfolding stepped_on stepped step step_with config_at
stays s mem backing chain stage b g m =
    let p = phase_of (row_at s) in
    let c = cfg_of (config_at s) (map_words s) in
    let f = fetched c (state_of (get_or s taken_word 0) (get_or s answered_word 0) (get_or s descs_word 0) p) chain mem in
    let x = fit_of s p (length mem) (length backing) chain (length stage) g in
    level-saved s (counted (effect chain stage p f) (get_or s taken_word 0)) (counted (effect chain stage p f) (get_or s answered_word 0)) (measured c (get_or s descs_word 0) p f) (next c (get_or s taken_word 0) chain stage p f) g.words_long
    (counted-low (effect chain stage p f) (get_or s taken_word 0) x.taken-low) (counted-low (effect chain stage p f) (get_or s answered_word 0) x.answered-low)
    (measured-low c (get_or s descs_word 0) p f (level-three s g.enabled).queue.descs-low) g.enabled
    (good-sane (regions (map_words s)) (get_or s size_word 0) (get_or s sectors_word 0) (chained c chain p f) (next c (get_or s taken_word 0) chain stage p f)
    (keeps-next c (get_or s taken_word 0) (get_or s answered_word 0) (get_or s descs_word 0) mem chain stage p b x.size-some x.chain-long m.good))
