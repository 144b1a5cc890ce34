-- The calls follow the model: over any memories, hd_step after hd_step leaves and answers what the model's steps do. So what is proved of the
-- model's steps (whole requests, in the crate `requests`) holds of the calls.
use Prim.Native.Nat.{ℕ, zero, suc, ◌*◌, ◌≤◌, ◌<◌}
use mathlib.Core.Bool.{true, false}
use mathlib.Core.List.{List, [], ◌∷◌, ◌++◌}
use mathlib.Core.Path.{◌≡◌, refl, sym, ap, ◌∙◌}
use native.Mathlib.Omega.{arith}
use lib.ListN.{get_or, length}
use borrow.Author.Tests.{le-ltb, le-leb, eq-eqb}
use Rattle.model.specs.Bytes.{put}
use Rattle.model.specs.Chain.{desc_at, tested, held, keeps}
use Rattle.model.specs.Step.{Cfg, State, Out, step, step_with, fetched, next, chained, measured, staged, effect, counted, ends, left, shifted, disk_stores, code_of, code_after, mem_stores, apply}
use Rattle.model.proofs.Tests.{on}
use Rattle.model.proofs.Lists.{below, length-put}
use Rattle.words.specs.Layout.{state_words, row_at, phase_of, config_at, saved, level, mem_len_word, start_word, sectors_word, ro_word, backing_len_word, id0_word, id1_word, id2_word, size_word, desc_area_word, avail_area_word, used_area_word, chain_len_word, stage_len_word, taken_word}
use Rattle.words.proofs.Saved.{phase-saved, taken-saved, answered-saved, descs-saved, others-saved, length-saved}
use Rattle.device.specs.Turn.{state_of}
use Rattle.hostiledisk.specs.Calls.{Called, told, seen_of, shown, shown_more, status_words, hd_status, hd_step, is_broken, long_enough, stepped, stepped_on, Going}
use Rattle.guarantees.specs.History.{step as step_over, World, ran, left as leaves, run, steps}
use Rattle.guarantees.specs.Good.{Made}
use Rattle.guarantees.specs.Follow.{Matches, model, found}
use Rattle.requests.specs.Guest.{again, after}
use Rattle.guarantees.proofs.Reached.{map-saved, made-ready, made-step}
use Rattle.guarantees.proofs.Stays.{stays}
use Rattle.guarantees.proofs.Walls.{stores-length}
use Rattle.guarantees.proofs.Memory.{broken-untouched}
use Rattle.model.specs.declared.Walk.{Walk}
use Rattle.model.specs.declared.Desc.{Desc}
use Rattle.model.specs.declared.Tested.{Tested}
use Rattle.model.specs.declared.Tested.TheVariants.{Bad, Next, Last}
use Rattle.model.specs.declared.Phase.{Phase}
use Rattle.model.specs.declared.Phase.TheVariants.{Poll, Entry, Chain, Header, Payload, Answer, Publish, Broken}

-- private memory keeps its length
length-keeps : (chain : List ℕ) (k : Walk) (d : Desc) (t : Tested) → length (keeps chain k d t) ≡ length chain
unfolding keeps held
length-keeps chain k d (Bad n) = refl
length-keeps chain k d (Next x) = length-put chain (2 * k.count) (x ∷ d.len ∷ [])
length-keeps chain k d (Last x) = length-put chain (2 * k.count) (x ∷ d.len ∷ [])

length-chained : (c : Cfg) (chain : List ℕ) (p : Phase) (f : List ℕ) → length (chained c chain p f) ≡ length chain
unfolding chained
length-chained c chain Poll f = refl
length-chained c chain Entry f = refl
length-chained c chain (Chain k cur) f = length-keeps chain k (desc_at 0 f) (tested c.map c.queue.size k (desc_at 0 f))
length-chained c chain (Header k p got) f = refl
length-chained c chain (Payload k p s got) f = refl
length-chained c chain (Answer k job got) f = refl
length-chained c chain (Publish k got) f = refl
length-chained c chain (Broken reason head count at) f = refl

length-staged : (chain stage : List ℕ) (p : Phase) (f : List ℕ) → length (staged chain stage p f) ≡ length stage
unfolding staged
length-staged chain stage Poll f = refl
length-staged chain stage Entry f = refl
length-staged chain stage (Chain k cur) f = refl
length-staged chain stage (Header k p got) f = length-put stage got f
length-staged chain stage (Payload k p s got) f =
    on (λ (x : List ℕ). length x ≡ length stage) (ends k got (left chain p).len) (λ e. refl) (λ e. length-put stage got f)
length-staged chain stage (Answer k job got) f = refl
length-staged chain stage (Publish k got) f = refl
length-staged chain stage (Broken reason head count at) f = refl

config-saved : (s : List ℕ) (t a n : ℕ) (p : Phase) → config_at (saved s t a n p) ≡ config_at s
unfolding config_at
config-saved s t a n p =
    let w : (i : ℕ) → i < taken_word → get_or (saved s t a n p) i 0 ≡ get_or s i 0 = λ i u. others-saved s t a n p i (below u) in
    rw (
      w size_word (omega arith),
      w desc_area_word (omega arith),
      w avail_area_word (omega arith),
      w used_area_word (omega arith),
      w start_word (omega arith),
      w sectors_word (omega arith),
      w ro_word (omega arith),
      w id0_word (omega arith),
      w id1_word (omega arith),
      w id2_word (omega arith),
      w mem_len_word (omega arith),
    )

long-saved : (s : List ℕ) (t a n : ℕ) (p : Phase) (m b c g : ℕ) → long_enough (saved s t a n p) m b c g ≡ long_enough s m b c g
unfolding long_enough
long-saved s t a n p m b c g =
    let w : (i : ℕ) → i < taken_word → get_or (saved s t a n p) i 0 ≡ get_or s i 0 = λ i u. others-saved s t a n p i (below u) in
    rw (w mem_len_word (omega arith), w backing_len_word (omega arith), w chain_len_word (omega arith), w stage_len_word (omega arith))

-- a queue that set-up and steps made, and that is not broken, makes the step
goes_on : (w : World) (mem : List ℕ) → state_words ≤ length w.state → level w.state ≡ 3 → Made w.state w.chain
    → long_enough w.state (length mem) (length w.backing) (length w.chain) (length w.stage) ≡ true → is_broken (phase_of (row_at w.state)) ≡ false
    → hd_step w.state mem w.backing w.chain w.stage ≡ stepped_on w.state mem w.backing w.chain w.stage
unfolding hd_step
goes_on w mem l h m g b = rw (le-ltb (length w.state) state_words l, eq-eqb (level w.state) 3 h, b, g, made-ready w.state w.chain h m)

-- one call beside one step of the model
pub record Beside (c : Cfg) (n : ℕ) (x : Called) (o : Out) : Type 0 where
  pub code_is : x.code ≡ o.code
  pub mem_is : x.mem ≡ o.mem
  pub after : Matches c n (leaves x) o.state o.backing o.chain o.stage

stepped-model : (c : Cfg) (n : ℕ) (w : World) (s : State) (mem backing chain stage : List ℕ) → Matches c n w s backing chain stage
    → stepped_on w.state mem w.backing w.chain w.stage ≡ stepped w.state (step c s mem backing chain stage)
unfolding stepped_on
stepped-model c n w s mem backing chain stage m =
    rw (m.cfg-is, m.taken_is, m.answered-is, m.descs-is, m.phase-is, m.backing-is, m.chain-is, m.stage_is)

lengths : (c : Cfg) (s : State) (mem backing chain stage : List ℕ)
    → (length (step c s mem backing chain stage).backing ≡ length backing) × (length (step c s mem backing chain stage).chain ≡ length chain)
    × (length (step c s mem backing chain stage).stage ≡ length stage)
unfolding step step_with
lengths c s mem backing chain stage =
    let f = fetched c s chain mem in
    (stores-length (effect chain stage s.phase f) c.disk.start backing, length-chained c chain s.phase f, length-staged chain stage s.phase f)

matches-stepped : (c : Cfg) (n : ℕ) (w : World) (s : State) (mem backing chain stage : List ℕ) → ((i : ℕ) → get_or mem i 0 < 256) → length mem ≡ n
    → Matches c n w s backing chain stage → is_broken (phase_of (row_at w.state)) ≡ false
    → Beside c n (stepped w.state (step c s mem backing chain stage)) (step c s mem backing chain stage)
unfolding stepped
matches-stepped c n w s mem backing chain stage b l m nb =
    let o = step c s mem backing chain stage in
    let t = o.state.taken in
    let a = o.state.answered in
    let d = o.state.descs in
    let p = o.state.phase in
    let z = lengths c s mem backing chain stage in
    let e : stepped_on w.state mem w.backing w.chain w.stage ≡ stepped w.state o = stepped-model c n w s mem backing chain stage m in
    let g : Going w.state (phase_of (row_at w.state)) (length mem) (length w.backing) w.chain (length w.stage) =
    record {
      words_long = m.words_long;
      enabled = m.enabled;
      phase-is = refl;
      slices-long = rw l m.slices-long;
      chain-ready = made-ready w.state w.chain m.enabled m.made;
    } in
    record {
      code_is = refl;
      mem_is = refl;
      after =
          record {
            words_long = rw (length-saved w.state t a d p) m.words_long;
            enabled = ap (λ (x : Called). level x.state) (sym e) ∙ stays w.state mem w.backing w.chain w.stage b g m.made;
            made = rw e at (made-step w.state mem w.backing w.chain w.stage b g m.made);
            slices-long = long-saved w.state t a d p n (length o.backing) (length o.chain) (length o.stage)
                ∙ rw (z.0, z.1, z.2, ← m.backing-is, ← m.chain-is, ← m.stage_is) m.slices-long;
            cfg-is = rw (config-saved w.state t a d p, map-saved w.state t a d p) m.cfg-is;
            taken_is = taken-saved w.state t a d p m.words_long;
            answered-is = answered-saved w.state t a d p m.words_long;
            descs-is = descs-saved w.state t a d p m.words_long;
            phase-is = phase-saved w.state t a d p m.words_long;
            backing-is = refl;
            chain-is = refl;
            stage_is = refl;
          };
    }

-- .. of a broken queue, which stays as it is
broken-model : (c : Cfg) (t a n : ℕ) (reason head count at : ℕ) (mem backing chain stage : List ℕ)
    → step c (state_of t a n (Broken reason head count at)) mem backing chain stage
    ≡ record { state = state_of t a n (Broken reason head count at); mem = mem; backing = backing; chain = chain; stage = stage; code = 3 }
unfolding step step_with effect next chained measured staged mem_stores disk_stores shifted apply counted code_of code_after
broken-model c t a n reason head count at mem backing chain stage = refl

module _ (c : Cfg) (n : ℕ) (w : World) (t a d : ℕ) (mem backing chain stage : List ℕ) (b : (i : ℕ) → get_or mem i 0 < 256) (l : length mem ≡ n) where
  goes-beside : (p : Phase) → Matches c n w (state_of t a d p) backing chain stage → is_broken p ≡ false
      → Beside c n (ran w (step_over mem)) (step c (state_of t a d p) mem backing chain stage)
  unfolding ran
  goes-beside p m nb =
      let q : is_broken (phase_of (row_at w.state)) ≡ false = rw m.phase-is nb in
      rw (goes_on w mem m.words_long m.enabled m.made (rw l m.slices-long) q, stepped-model c n w (state_of t a d p) mem backing chain stage m)
      (matches-stepped c n w (state_of t a d p) mem backing chain stage b l m q)

  broken-beside : (reason head count at : ℕ) → Matches c n w (state_of t a d (Broken reason head count at)) backing chain stage
      → Beside c n (ran w (step_over mem)) (step c (state_of t a d (Broken reason head count at)) mem backing chain stage)
  unfolding ran
  broken-beside reason head count at m =
      rw (
        broken-untouched w.state mem w.backing w.chain w.stage reason head count at m.words_long m.enabled m.phase-is,
        broken-model c t a d reason head count at mem backing chain stage,
      )
      (record { code_is = refl; mem_is = refl; after = m })

  pub beside : (p : Phase) → Matches c n w (state_of t a d p) backing chain stage → Beside c n (ran w (step_over mem)) (step c (state_of t a d p) mem backing chain stage)
  unfolding is_broken
  beside Poll m = goes-beside Poll m refl
  beside Entry m = goes-beside Entry m refl
  beside (Chain k cur) m = goes-beside (Chain k cur) m refl
  beside (Header k p got) m = goes-beside (Header k p got) m refl
  beside (Payload k p s got) m = goes-beside (Payload k p s got) m refl
  beside (Answer k job got) m = goes-beside (Answer k job got) m refl
  beside (Publish k got) m = goes-beside (Publish k got) m refl
  beside (Broken reason head count at) m = broken-beside reason head count at m

-- memories of n bytes
unfoldable pub Memories : ℕ → List (List ℕ) → Type 0
Memories n [] = Unit {0}
Memories n (m ∷ ms) = ((i : ℕ) → get_or m i 0 < 256) × (length m ≡ n) × Memories n ms

-- 5 and 6, carried to the calls: hd_step over any memories follows the model's steps over them
pub follows-model : (c : Cfg) (n : ℕ) (w : World) (o : Out) (ms : List (List ℕ)) → Memories n ms → Matches c n w o.state o.backing o.chain o.stage
    → Matches c n (run w (steps ms)) (model c o ms).state (model c o ms).backing (model c o ms).chain (model c o ms).stage
unfolding run steps model Memories
follows-model c n w o [] h m = m
follows-model c n w o (x ∷ ms) h m =
    let r = beside c n w o.state.taken o.state.answered o.state.descs x o.backing o.chain o.stage h.0 h.1 o.state.phase m in
    follows-model c n (leaves (ran w (step_over x))) (step c o.state x o.backing o.chain o.stage) ms h.2 r.after

after-model : (c : Cfg) (g : ℕ → List ℕ → List ℕ) (i n : ℕ) (o : Out) → after c g i n o ≡ model c o (found c g i n o)
unfolding after again model found
after-model c g i zero o = refl
after-model c g i (suc n) o = after-model c g (suc i) n (again c g i o)

-- 5 and 6 of the calls: as many calls of hd_step beside any guest leave the state, the backing slice and private memory that `serves-still` and
-- `serves-as-fetched` (crate `requests`) say of the model's steps
pub calls-serve : (c : Cfg) (g : ℕ → List ℕ → List ℕ) (i k n : ℕ) (w : World) (o : Out) → Memories n (found c g i k o)
    → Matches c n w o.state o.backing o.chain o.stage
    → Matches c n (run w (steps (found c g i k o))) (after c g i k o).state (after c g i k o).backing (after c g i k o).chain (after c g i k o).stage
calls-serve c g i k n w o h m = rw (after-model c g i k o) (follows-model c n w o (found c g i k o) h m)

-- 13. hd_status shows the model's state, all ten words of it where there is room for them
pub status-shows : (c : Cfg) (n : ℕ) (w : World) (s : State) (backing chain stage : List ℕ) → Matches c n w s backing chain stage → (out : List ℕ) → 10 ≤ length out
    → hd_status w.state out ≡ told 0 (put out 0 (shown 1 s.taken s.answered (seen_of s.phase) ++ shown_more s.descs (seen_of s.phase)))
unfolding hd_status status_words
status-shows c n w s backing chain stage m out l =
    rw (
      le-ltb (length w.state) state_words m.words_long,
      le-ltb (length out) 8 (omega arith),
      le-leb 10 (length out) l,
      eq-eqb (level w.state) 3 m.enabled,
      m.taken_is,
      m.answered-is,
      m.descs-is,
      m.phase-is,
    )

-- .. of a broken queue: why, the head, how many descriptors were fetched, at which of them, and what the last complete chain had
pub broken-shows : (c : Cfg) (n : ℕ) (w : World) (t a descs reason head count at : ℕ) (backing chain stage : List ℕ)
    → Matches c n w (state_of t a descs (Broken reason head count at)) backing chain stage → (out : List ℕ) → 10 ≤ length out
    → hd_status w.state out ≡ told 0 (put out 0 (1 ∷ reason ∷ t ∷ a ∷ 0 ∷ head ∷ count ∷ 0 ∷ at ∷ descs ∷ []))
unfolding shown seen_of
broken-shows c n w t a descs reason head count at backing chain stage m out l = status-shows c n w (state_of t a descs (Broken reason head count at)) backing chain stage m out l
