-- 8, 9 and 10: the walls between disks that share a backing slice. No word of the state is assumed to be anything.
use Prim.Native.Nat.{ℕ, zero, suc, ◌+◌, ◌*◌, ◌≤◌, ◌<◌}
use mathlib.Core.Bool.{Bool, true, false}
use mathlib.Core.List.{List, [], ◌∷◌}
use mathlib.Core.Path.{◌≡◌, refl, sym, ap, ◌∙◌}
use native.Mathlib.Omega.{arith}
use lib.Dec.{leb, ltb, eqb}
use lib.ListN.{get_or, length}
use borrow.Author.Tests.{eq-eqb, ltb-true, ltb-false, leb-true, leb-false, eqb-true, eqb-false}
use Rattle.model.specs.Pick.{pick}
use Rattle.model.specs.Bytes.{put}
use Rattle.model.specs.Sane.{ready}
use Rattle.model.specs.Step.{Effect, nothing, stores, answers, publishes, shifted, disk_stores, effect, disk_of, step, step_with, fetched}
use Rattle.model.proofs.Lists.{Apart, below, above, length-put, part-cong}
use Rattle.words.specs.Layout.{state_words, row_at, phase_of, level, config_at, map_words, mem_len_word, start_word, sectors_word, taken_word, answered_word, descs_word}
use Rattle.device.specs.Turn.{cfg_of, state_of}
use Rattle.hostiledisk.specs.Calls.{Called, untouched, is_broken, long_enough, stepped, stepped_on, hd_step}
use Rattle.guarantees.specs.History.{Call, memory, disk, enable, reset, step as step_over, World, ran, left, run, View, view, views, OutsideNow, Outside, WithinNow, Within, Alike, House, Turn, world_of, act, acts, calls_of, views_of, Apartments}
use Rattle.guarantees.proofs.Step.{by-step, wall-step}

-- 8. Bytes of the backing slice outside this disk's range never change.
wall-call : (i : ℕ) (w : World) (c : Call) → OutsideNow i w c → get_or (ran w c).backing i 0 ≡ get_or w.backing i 0
unfolding ran OutsideNow
wall-call i w (memory words m) o = refl
wall-call i w (disk start sectors ro id backing) o = refl
wall-call i w (enable size desc avail used chain stage start) o = refl
wall-call i w reset o = refl
wall-call i w (step_over mem) o = wall-step w.state mem w.backing w.chain w.stage i o

pub walls-disk : (i : ℕ) (w : World) (cs : List Call) → Outside i w cs → get_or (run w cs).backing i 0 ≡ get_or w.backing i 0
unfolding run Outside
walls-disk i w [] o = refl
walls-disk i w (c ∷ cs) o = walls-disk i (left (ran w c)) cs o.1 ∙ wall-call i w c o.0

-- 9. Nothing is revealed. One step of two worlds that are alike: what is seen is the same, and they stay alike.
put-agree : (m₁ m₂ : List ℕ) (k : ℕ) (bs : List ℕ) (i : ℕ) → length m₁ ≡ length m₂ → get_or m₁ i 0 ≡ get_or m₂ i 0 → get_or (put m₁ k bs) i 0 ≡ get_or (put m₂ k bs) i 0
unfolding put
put-agree [] [] k bs i l e = refl
put-agree [] (y ∷ m₂) k bs i l e = absurd (omega arith)
put-agree (x ∷ m₁) [] k bs i l e = absurd (omega arith)
put-agree (x ∷ m₁) (y ∷ m₂) (suc k) bs zero l e = e
put-agree (x ∷ m₁) (y ∷ m₂) (suc k) bs (suc i) l e = put-agree m₁ m₂ k bs i (omega arith) e
put-agree (x ∷ m₁) (y ∷ m₂) zero [] i l e = e
put-agree (x ∷ m₁) (y ∷ m₂) zero (b ∷ bs) zero l e = refl
put-agree (x ∷ m₁) (y ∷ m₂) zero (b ∷ bs) (suc i) l e = put-agree m₁ m₂ zero bs i (omega arith) e

stores-agree : (e : Effect) (d : ℕ) (b₁ b₂ : List ℕ) (i : ℕ) → length b₁ ≡ length b₂ → get_or b₁ i 0 ≡ get_or b₂ i 0
    → get_or (shifted d (disk_stores e) b₁) i 0 ≡ get_or (shifted d (disk_stores e) b₂) i 0
unfolding disk_stores shifted
stores-agree nothing d b₁ b₂ i l h = h
stores-agree (stores at bs) d b₁ b₂ i l h = put-agree b₁ b₂ (d + at) bs i l h
stores-agree (answers k job) d b₁ b₂ i l h = h
stores-agree publishes d b₁ b₂ i l h = h

pub stores-length : (e : Effect) (d : ℕ) (b : List ℕ) → length (shifted d (disk_stores e) b) ≡ length b
unfolding disk_stores shifted
stores-length nothing d b = refl
stores-length (stores at bs) d b = length-put b (d + at) bs
stores-length (answers k job) d b = refl
stores-length publishes d b = refl

-- two answers that are seen alike, and whose backing slices agree on a set
pub record Same (In : ℕ → Type 0) (x y : Called) : Type 0 where
  pub seen : view x ≡ view y
  pub long : length x.backing ≡ length y.backing
  pub inside : (i : ℕ) → In i → get_or x.backing i 0 ≡ get_or y.backing i 0

same-pick : (In : ℕ → Type 0) (t : Bool) (x₁ y₁ x₂ y₂ : Called) → Same In x₁ x₂ → Same In y₁ y₂ → Same In (pick t x₁ y₁) (pick t x₂ y₂)
same-pick In true x₁ y₁ x₂ y₂ a b = a
same-pick In false x₁ y₁ x₂ y₂ a b = b

module _ (In : ℕ → Type 0) (s mem b₁ b₂ chain stage : List ℕ) (l : length b₁ ≡ length b₂) (h : (i : ℕ) → In i → get_or b₁ i 0 ≡ get_or b₂ i 0) where
  same-untouched : (n : ℕ) → Same In (untouched n s mem b₁ chain stage) (untouched n s mem b₂ chain stage)
  same-untouched n = record { seen = refl; long = l; inside = h }

  same-stepped : ((i : ℕ) → get_or s start_word 0 ≤ i → i < get_or s start_word 0 + 512 * get_or s sectors_word 0 → In i) → Same In (stepped_on s mem b₁ chain stage) (stepped_on s mem b₂ chain stage)
  unfolding stepped_on stepped step step_with config_at
  same-stepped c =
      let p = phase_of (row_at s) in
      let e = effect chain stage p (fetched (cfg_of (config_at s) (map_words s)) (state_of (get_or s taken_word 0) (get_or s answered_word 0) (get_or s descs_word 0) p) chain mem) in
      let d : disk_of (config_at s).disk b₁ ≡ disk_of (config_at s).disk b₂ =
      part-cong (get_or s start_word 0) (512 * get_or s sectors_word 0) b₁ b₂ l (λ i u v. h i (c i u v)) in
      record {
        seen = rw d;
        long = stores-length e (get_or s start_word 0) b₁ ∙ (l ∙ sym (stores-length e (get_or s start_word 0) b₂));
        inside = λ i x. stores-agree e (get_or s start_word 0) b₁ b₂ i l (h i x);
      }

  same_step : ((i : ℕ) → get_or s start_word 0 ≤ i → i < get_or s start_word 0 + 512 * get_or s sectors_word 0 → In i) → Same In (hd_step s mem b₁ chain stage) (hd_step s mem b₂ chain stage)
  unfolding hd_step
  same_step c =
      let u = same-untouched in
      rw l
      (same-pick In (ltb (length s) state_words) _ _ _ _ (u 4)
      (same-pick In (eqb (level s) 3) _ _ _ _
      (same-pick In (is_broken (phase_of (row_at s))) _ _ _ _ (u 3)
      (same-pick In (long_enough s (length mem) (length b₂) (length chain) (length stage)) _ _ _ _
      (same-pick In (ready (get_or s mem_len_word 0) chain (phase_of (row_at s))) _ _ _ _ (same-stepped c) (u 4)) (u 4)))
      (u 4)))

-- .. one call of any kind
same-call : (In : ℕ → Type 0) (w₁ w₂ : World) (c : Call) → Alike In w₁ w₂ → WithinNow In w₁ c → Same In (ran w₁ c) (ran w₂ c)
unfolding ran WithinNow
same-call In w₁ w₂ (memory words m) a o = record { seen = rw (a.same-state, a.same-chain, a.same-stage); long = a.same_length; inside = a.same-inside }
same-call In w₁ w₂ (disk start sectors ro id backing) a o =
    record { seen = rw (a.same-state, a.same-chain, a.same-stage); long = a.same_length; inside = a.same-inside }
same-call In w₁ w₂ (enable size desc avail used chain stage start) a o =
    record { seen = rw (a.same-state, a.same-chain, a.same-stage); long = a.same_length; inside = a.same-inside }
same-call In w₁ w₂ reset a o = record { seen = rw (a.same-state, a.same-chain, a.same-stage); long = a.same_length; inside = a.same-inside }
same-call In w₁ w₂ (step_over mem) a o =
    rw (← a.same-state, ← a.same-chain, ← a.same-stage)
    (same_step In w₁.state mem w₁.backing w₂.backing w₁.chain w₁.stage a.same_length a.same-inside o)

same_left : (In : ℕ → Type 0) (x y : Called) → Same In x y → Alike In (left x) (left y)
same_left In x y s =
    record {
      same-state = ap (λ (v : View). v.state) s.seen;
      same-chain = ap (λ (v : View). v.chain) s.seen;
      same-stage = ap (λ (v : View). v.stage) s.seen;
      same_length = s.long;
      same-inside = s.inside;
    }

-- .. and every history: two backing slices that agree on a set of bytes within which the disk's range lies at each step give the same states,
-- the same guest memories and the same answers, and agree on that set ever after
pub nothing-revealed : (In : ℕ → Type 0) (w₁ w₂ : World) (cs : List Call) → Alike In w₁ w₂ → Within In w₁ cs
    → (views w₁ cs ≡ views w₂ cs) × Alike In (run w₁ cs) (run w₂ cs)
unfolding views run Within
nothing-revealed In w₁ w₂ [] a o = (refl, a)
nothing-revealed In w₁ w₂ (c ∷ cs) a o =
    let s = same-call In w₁ w₂ c a o.0 in
    let r = nothing-revealed In (left (ran w₁ c)) (left (ran w₂ c)) cs (same_left In (ran w₁ c) (ran w₂ c) s) o.1 in
    (rw (s.seen, r.0), r.1)

-- 10. A neighbour's call leaves every byte of a set that is disjoint from the neighbour's.
outside_of : (In : ℕ → Type 0) (w : World) (c : Call) (i : ℕ) → (In i → ⊥) → WithinNow In w c → OutsideNow i w c
unfolding OutsideNow WithinNow
outside_of In w (memory words m) i n o = tt
outside_of In w (disk start sectors ro id backing) i n o = tt
outside_of In w (enable size desc avail used chain stage start) i n o = tt
outside_of In w reset i n o = tt
outside_of In w (step_over mem) i n o = go (ltb i (get_or w.state start_word 0)) refl (leb (get_or w.state start_word 0 + 512 * get_or w.state sectors_word 0) i) refl
  where
    go : (a : Bool) → ltb i (get_or w.state start_word 0) ≡ a → (b : Bool) → leb (get_or w.state start_word 0 + 512 * get_or w.state sectors_word 0) i ≡ b
        → Apart i (get_or w.state start_word 0) (512 * get_or w.state sectors_word 0)
    go true t b u = below (ltb-true i (get_or w.state start_word 0) t)
    go false t true u = above (leb-true (get_or w.state start_word 0 + 512 * get_or w.state sectors_word 0) i u)
    go false t false u =
        absurd (n (o i (ltb-false i (get_or w.state start_word 0) t) (leb-false (get_or w.state start_word 0 + 512 * get_or w.state sectors_word 0) i u)))

-- the backing slice keeps its length
length-stepped : (s mem backing chain stage : List ℕ) → length (stepped_on s mem backing chain stage).backing ≡ length backing
unfolding stepped_on stepped step step_with config_at
length-stepped s mem backing chain stage =
    let p = phase_of (row_at s) in
    stores-length (effect chain stage p (fetched (cfg_of (config_at s) (map_words s)) (state_of (get_or s taken_word 0) (get_or s answered_word 0) (get_or s descs_word 0) p) chain mem)) (get_or s start_word 0) backing

length-call : (w : World) (c : Call) → length (ran w c).backing ≡ length w.backing
unfolding ran
length-call w (memory words m) = refl
length-call w (disk start sectors ro id backing) = refl
length-call w (enable size desc avail used chain stage start) = refl
length-call w reset = refl
length-call w (step_over mem) =
    by-step (λ (o : Called). length o.backing ≡ length w.backing) w.state mem w.backing w.chain w.stage (λ n. refl)
    (λ g. length-stepped w.state mem w.backing w.chain w.stage)

-- what a call leaves of device k: its own call, or another's
act-own : (h : House) (x : Turn) (k : ℕ) → eqb x.who k ≡ true → world_of (act h x) k ≡ left (ran (world_of h k) x.what)
unfolding act
act-own h x k t = let e : x.who ≡ k = eqb-true x.who k t in rw (e, eq-eqb k k refl)

act-other : (h : House) (x : Turn) (k : ℕ) → eqb x.who k ≡ false
    → world_of (act h x) k
    ≡ record { state = (h.lent k).state; backing = (ran (world_of h x.who) x.what).backing; chain = (h.lent k).chain; stage = (h.lent k).stage }
unfolding act
act-other h x k t = rw t

-- Each device sees and leaves what it would have alone: in any interleaving of the calls of any number of devices, over sets of bytes that are
-- disjoint from device k's, device k's answers, states and guest memories are those of its own calls alone, and so are its bytes of the slice.
pub sees-alone : (In : ℕ → ℕ → Type 0) (k : ℕ) → ((n : ℕ) → (n ≡ k → ⊥) → (i : ℕ) → In k i → In n i → ⊥) → (h : House) (w : World) (xs : List Turn)
    → Alike (In k) (world_of h k) w → Apartments In h xs
    → (views_of k h xs ≡ views w (calls_of k xs)) × Alike (In k) (world_of (acts h xs) k) (run w (calls_of k xs))
unfolding views_of views calls_of acts run Apartments
sees-alone In k d h w [] a o = (refl, a)
sees-alone In k d h w (x ∷ xs) a o =
    go (eqb x.who k) refl (λ v b. sees-alone In k d (act h x) v xs b o.1)
  where
    go : (b : Bool) → eqb x.who k ≡ b
        → ((v : World) → Alike (In k) (world_of (act h x) k) v
        → (views_of k (act h x) xs ≡ views v (calls_of k xs)) × Alike (In k) (world_of (acts (act h x) xs) k) (run v (calls_of k xs)))
        → (pick b (view (ran (world_of h x.who) x.what) ∷ views_of k (act h x) xs) (views_of k (act h x) xs) ≡ views w (pick b (x.what ∷ calls_of k xs) (calls_of k xs)))
        × Alike (In k) (world_of (acts (act h x) xs) k) (run w (pick b (x.what ∷ calls_of k xs) (calls_of k xs)))
    go true t f =
        let e : x.who ≡ k = eqb-true x.who k t in
        let s = same-call (In k) (world_of h k) w x.what a (rw e at o.0) in
        let r = f (left (ran w x.what)) (rw (act-own h x k t) (same_left (In k) (ran (world_of h k) x.what) (ran w x.what) s)) in
        let u : view (ran (world_of h x.who) x.what) ≡ view (ran w x.what) = rw e s.seen in
        (cc (u, r.0), r.1)
    go false t f =
        f w
        (rw (act-other h x k t)
        (record {
          same-state = a.same-state;
          same-chain = a.same-chain;
          same-stage = a.same-stage;
          same_length = length-call (world_of h x.who) x.what ∙ a.same_length;
          same-inside = λ i p.
              wall-call i (world_of h x.who) x.what
              (outside_of (In x.who) (world_of h x.who) x.what i (λ q. d x.who (eqb-false x.who k t) i p q) o.0)
              ∙ a.same-inside i p;
        }))
