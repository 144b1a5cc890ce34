-- A request served by calls of hd_step, guest memory held still: as many calls as the model needs steps, each answering what its step does.
use Prim.Native.Nat.{ℕ, zero, suc, ◌+◌, ◌-◌, ◌*◌, ◌^◌, ◌≤◌, ◌<◌}
use native.Mathlib.Omega.{arith}
use mathlib.Core.Bool.{Bool, true, false}
use mathlib.Core.List.{List, [], ◌∷◌}
use mathlib.Core.Path.{◌≡◌, refl, sym, ◌∙◌}
use lib.Dec.{leb, ltb, eqb}
use lib.ListN.{get_or, length}
use borrow.Author.Tests.{eqb-true, eq-eqb, ne_eqb, le-ltb}
use Rattle.model.specs.Pick.{pick}
use Rattle.model.specs.Memory.{Region, region_code, sound}
use Rattle.model.specs.Ring.{pending}
use Rattle.model.specs.Step.{Cfg, State, Out, step, step_with, effect, fetched, mem_stores, disk_of}
use Rattle.model.proofs.Tests.{on}
use Rattle.model.proofs.Memory.{region-sound}
use Rattle.model.proofs.Step.{length-apply}
use Rattle.requests.specs.Serve.{Seen, still, Followed, broke, whole, Outcome, idle, breaks, serves, serve}
use Rattle.requests.specs.Steps.{chain_calls, calls}
use Rattle.requests.specs.Guest.{again, after, out, code_for}
use Rattle.requests.proofs.Serves.{serves-still, quiet-still}
use Rattle.words.specs.Layout.{config_at, row_at, phase_of, taken_word, answered_word}
use Rattle.hostiledisk.specs.Calls.{Called, untouched, Going}
use Rattle.hostiledisk.proofs.Laws.{fit_of}
use Rattle.guarantees.specs.History.{World, ran, left}
use Rattle.guarantees.specs.Follow.{Matches}
use Rattle.guarantees.proofs.Follow.{beside}
use Rattle.guarantees.proofs.Reached.{made-ready}
use Rattle.trip.specs.Until.{called, until, Served}
use Rattle.trip.proofs.Octets.{Octets, octets-at, octets-of, octets-id, octets-step}
use Rattle.trip.proofs.Turns.{until-turn, until-last}
use Rattle.model.specs.declared.Phase.TheVariants.{Poll}

-- calls and steps so far have left the same, and bytes are bytes
record Same (c : Cfg) (n : ℕ) (o : Called) (u : Out) : Type 0 where
  code_is : o.code ≡ u.code
  mem_is : o.mem ≡ u.mem
  matches : Matches c n (left o) u.state u.backing u.chain u.stage
  long : length u.mem ≡ n
  mem_bytes : Octets u.mem
  backing-bytes : Octets u.backing
  stage-bytes : Octets u.stage

length-step : (c : Cfg) (s : State) (mem backing chain stage : List ℕ) → length (step c s mem backing chain stage).mem ≡ length mem
unfolding step step_with
length-step c s mem backing chain stage =
    length-apply (mem_stores c s.answered chain (disk_of c.disk backing) (effect chain stage s.phase (fetched c s chain mem))) mem

-- one call beside one step
same_step : (c : Cfg) (n i : ℕ) (o : Called) (u : Out) → Octets c.id → Same c n o u → Same c n (called o) (again c (λ i x. x) i u)
unfolding ran again
same_step c n i o u d h =
    let b = beside c n (left o) u.state.taken u.state.answered u.state.descs u.mem u.backing u.chain u.stage (octets-at u.mem h.mem_bytes) h.long u.state.phase h.matches in
    let z = octets-step c u.state u.mem u.backing u.chain u.stage d h.mem_bytes h.backing-bytes h.stage-bytes in
    rw h.mem_is
    (record {
      code_is = b.code_is;
      mem_is = b.mem_is;
      matches = b.after;
      long = length-step c u.state u.mem u.backing u.chain u.stage ∙ h.long;
      mem_bytes = z.0;
      backing-bytes = z.1;
      stage-bytes = z.2;
    })

-- k steps that answer 1 and one that does not: the calls stop exactly there
same-until : (c : Cfg) (n k fuel i : ℕ) (o : Called) (u : Out) → Octets c.id → suc k ≤ fuel → Same c n o u
    → ((j : ℕ) → j < k → (after c (λ i x. x) i (suc j) u).code ≡ 1) → ((after c (λ i x. x) i (suc k) u).code ≡ 1 → ⊥)
    → Same c n (until fuel o) (after c (λ i x. x) i (suc k) u)
unfolding after
same-until c n k zero i o u d h s q e = absurd (omega arith)
same-until c n zero (suc f) i o u d h s q e =
    let r = same_step c n i o u d s in
    rw (until-last f o (λ z. e (sym r.code_is ∙ z))) r
same-until c n (suc k) (suc f) i o u d h s q e =
    let r = same_step c n i o u d s in
    rw (until-turn f o (r.code_is ∙ q 0 (omega arith)))
    (same-until c n k f (suc i) (called o) (again c (λ i x. x) i u) d (omega arith) r (λ j l. q (suc j) (omega arith)) e)

-- an outcome's answer is not 1
code-last : (x : Outcome) → code_for x ≡ 1 → ⊥
unfolding code_for
code-last idle h = omega arith
code-last (breaks reason head fetched at) h = omega arith
code-last (serves writes idx after head len descs) h = omega arith

chain-some : (c : Cfg) (v : Seen) (x : Followed) → 1 ≤ chain_calls c v x
unfolding chain_calls
chain-some c v (broke reason fetched at) = omega arith
chain-some c v (whole rs ws last) = on (λ (x : ℕ). 1 ≤ x) (eqb (length ws) 0) (λ e. omega arith) (λ e. omega arith)

calls-some : (c : Cfg) (v : Seen) (t : ℕ) → 1 ≤ calls c v t
unfolding calls
calls-some c v t =
    on (λ (x : ℕ). 1 ≤ x) (eqb (pending v.idx t) 0) (λ e. omega arith)
    (λ e. on (λ (x : ℕ). 1 ≤ x) (ltb c.queue.size (pending v.idx t)) (λ f. omega arith)
    (λ f. on (λ (x : ℕ). 1 ≤ x) (leb c.queue.size v.entry) (λ g. omega arith) (λ g. chain-some c v _)))

-- a map that is sound for a memory is sound for a longer one
region-more : (m n : ℕ) (r : Region) → m ≤ n → region_code m r ≡ 0 → region_code n r ≡ 0
unfolding region_code
region-more m n r h e =
    let k = region-sound m r e in
    rw (ne_eqb r.len 0 (λ z. omega arith), le-ltb n (r.place + r.len) (omega arith), le-ltb (2 ^ 64 - 1) (r.guest + r.len) k.below)

sound_more : (m n : ℕ) (rs : List Region) → m ≤ n → sound m rs ≡ true → sound n rs ≡ true
unfolding sound
sound_more m n [] h e = refl
sound_more m n (r ∷ rs) h e = go (eqb (region_code m r) 0) refl e (sound_more m n rs h)
  where
    go : (b : Bool) → eqb (region_code m r) 0 ≡ b → pick b (sound m rs) false ≡ true → (sound m rs ≡ true → sound n rs ≡ true)
        → pick (eqb (region_code n r) 0) (sound n rs) false ≡ true
    go true t k f = rw (eq-eqb (region_code n r) 0 (region-more m n r h (eqb-true (region_code m r) 0 t))) (f k)
    go false t k f = let z : ◌≡◌ {A = ℕ} 0 1 = cc in absurd (omega arith)

-- what a world that matches stands on
pub record Stands (c : Cfg) (n : ℕ) (w : World) : Type 0 where
  pub map-sound : sound n c.map ≡ true
  pub chain-long : 2 * c.queue.size ≤ length w.chain
  pub stage-long : 1048576 ≤ length w.stage
  pub disk-in : c.disk.start + 512 * c.disk.sectors ≤ length w.backing
  pub taken-low : get_or w.state taken_word 0 < 65536
  pub answered-low : get_or w.state answered_word 0 < 65536
  pub id-bytes : Octets c.id

pub stands : (c : Cfg) (n : ℕ) (w : World) (s : State) (backing chain stage : List ℕ) → Matches c n w s backing chain stage → Stands c n w
stands c n w s backing chain stage m =
    let g : Going w.state (phase_of (row_at w.state)) n (length w.backing) w.chain (length w.stage) =
    record {
      words_long = m.words_long;
      enabled = m.enabled;
      phase-is = refl;
      slices-long = m.slices-long;
      chain-ready = made-ready w.state w.chain m.enabled m.made;
    } in
    let f = fit_of w.state (phase_of (row_at w.state)) n (length w.backing) w.chain (length w.stage) g in
    rw (← m.cfg-is)
    (record {
      disk-in = f.disk-in;
      taken-low = f.taken-low;
      answered-low = f.answered-low;
      map-sound = sound_more (config_at w.state).m n _ f.mem_long f.sound-map;
      chain-long = f.chain-long;
      stage-long = f.stage-long;
      id-bytes = octets-id _;
    })

-- A request of which guest memory is held still: with enough calls, what `serve` says of that memory.
pub until-serves : (c : Cfg) (n : ℕ) (w : World) (t a descs fuel : ℕ) (mem : List ℕ)
    → Matches c n w (record { taken = t; answered = a; descs = descs; phase = Poll }) w.backing w.chain w.stage → length mem ≡ n
    → ((i : ℕ) → get_or mem i 0 < 256) → ((i : ℕ) → get_or w.backing i 0 < 256) → ((i : ℕ) → get_or w.stage i 0 < 256)
    → calls c (still c.queue t mem) t ≤ fuel
    → Served c n t a descs mem w.backing (serve c (still c.queue t mem) t a w.backing) (until fuel (untouched 1 w.state mem w.backing w.chain w.stage))
until-serves c n w t a descs fuel mem m l bm bb bs h =
    let v = still c.queue t mem in
    let x = serve c v t a w.backing in
    let k = calls c v t - 1 in
    let some = calls-some c v t in
    let e : suc k ≡ calls c v t = omega arith in
    let d = stands c n w (record { taken = t; answered = a; descs = descs; phase = Poll }) w.backing w.chain w.stage m in
    let s : sound (length mem) c.map ≡ true = rw l d.map-sound in
    let u : Out = out t a descs Poll mem w.backing w.chain w.stage 1 in
    let g = serves-still c t a descs mem w.backing w.chain w.stage 1 s d.chain-long d.stage-long in
    let q = quiet-still c t a descs mem w.backing w.chain w.stage s d.chain-long d.stage-long in
    let last : Out = after c (λ i x. x) 0 (calls c v t) u in
    let r : Same c n (until fuel (untouched 1 w.state mem w.backing w.chain w.stage)) last =
    rw e at
    (same-until c n k fuel 0 (untouched 1 w.state mem w.backing w.chain w.stage) u d.id-bytes (omega arith)
    (record { code_is = refl; mem_is = refl; matches = m; long = l; mem_bytes = octets-of mem bm; backing-bytes = octets-of w.backing bb; stage-bytes = octets-of w.stage bs })
    (λ j z. q (suc j) (omega arith))
    (λ z. code-last x (sym g.code_is ∙ (rw e at z)))) in
    record {
      code_is = r.code_is ∙ g.code_is;
      mem_is = r.mem_is ∙ g.mem_is;
      backing-is = r.matches.backing-is ∙ g.backing-is;
      goes_on = rw (g.state-is, ← r.matches.backing-is, ← r.matches.chain-is, ← r.matches.stage_is) at r.matches;
      mem_long = rw r.mem_is r.long;
      mem_bytes = rw r.mem_is (octets-at last.mem r.mem_bytes);
      backing-bytes = rw r.matches.backing-is (octets-at last.backing r.backing-bytes);
      stage-bytes = rw r.matches.stage_is (octets-at last.stage r.stage-bytes);
    }
