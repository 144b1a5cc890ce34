-- 7. The disk is the fold of the accepted writes: what was last written with status 0 is what is read.
use Prim.Native.Nat.{ℕ, ◌+◌, ◌*◌, ◌≤◌}
use mathlib.Core.Bool.{Bool, true, false}
use mathlib.Core.List.{List, [], ◌∷◌}
use mathlib.Core.Path.{◌≡◌, refl, sym, ap, ◌∙◌}
use lib.Dec.{ltb, eqb}
use lib.ListN.{get_or, length}
use Rattle.model.specs.Pick.{pick}
use Rattle.model.specs.Bytes.{put, part}
use Rattle.model.specs.Step.{Effect, nothing, stores, answers, publishes, Store, apply, shifted, disk_stores, effect, step, step_with}
use Rattle.model.specs.Sane.{ready}
use Rattle.model.proofs.Lists.{Disjoint, part-put, part-put-in, part-put-other, part-part}
use Rattle.model.proofs.Step.{apply-append}
use Rattle.model.proofs.Tests.{on}
use borrow.Author.Tests.{ltb-false, eqb-true}
use Rattle.guarantees.proofs.Open.{locked}
use Rattle.guarantees.proofs.Reached.{Kept}
use Rattle.words.specs.Layout.{state_words, row_at, phase_of, config_at, level, mem_len_word, start_word, sectors_word, ro_word}
use Rattle.hostiledisk.specs.Calls.{Called, stepped, stepped_on, hd_step, is_broken, long_enough}
use Rattle.guarantees.specs.History.{Call, memory, disk, enable, reset, step as step_over, World, ran, left as leaves, run, wanted, written, written_in, DiskNow, DiskIs}

-- a step's effect on the backing slice is its effect on this disk
pub disk-effect : (e : Effect) (d n : ℕ) (b : List ℕ) → part d n (shifted d (disk_stores e) b) ≡ apply (disk_stores e) (part d n b)
unfolding disk_stores shifted apply
disk-effect nothing d n b = refl
disk-effect (stores at bs) d n b = part-put-in b d n at bs
disk-effect (answers k job) d n b = refl
disk-effect publishes d n b = refl

-- an answer whose disk is the stores applied to the disk before
abbrev Wrote : ℕ → ℕ → List ℕ → Called → List Store → Type 0
Wrote d n b o xs = part d n o.backing ≡ apply xs (part d n b)

wrote-pick : (d n : ℕ) (b : List ℕ) (t : Bool) (o₁ o₂ : Called) (xs₁ xs₂ : List Store) → Wrote d n b o₁ xs₁ → Wrote d n b o₂ xs₂ → Wrote d n b (pick t o₁ o₂) (pick t xs₁ xs₂)
wrote-pick d n b true o₁ o₂ xs₁ xs₂ p q = p
wrote-pick d n b false o₁ o₂ xs₁ xs₂ p q = q

nothing-wrote : (d n : ℕ) (b : List ℕ) → part d n b ≡ apply [] (part d n b)
unfolding apply
nothing-wrote d n b = refl

stepped-wrote : (w : World) (mem : List ℕ)
    → part (get_or w.state start_word 0) (512 * get_or w.state sectors_word 0) (stepped_on w.state mem w.backing w.chain w.stage).backing
    ≡ apply (disk_stores (effect w.chain w.stage (phase_of (row_at w.state)) (part (wanted w.state w.chain).at (wanted w.state w.chain).len mem)))
    (part (get_or w.state start_word 0) (512 * get_or w.state sectors_word 0) w.backing)
unfolding stepped_on stepped step step_with config_at
stepped-wrote w mem =
    disk-effect (effect w.chain w.stage (phase_of (row_at w.state)) (part (wanted w.state w.chain).at (wanted w.state w.chain).len mem))
    (get_or w.state start_word 0) (512 * get_or w.state sectors_word 0) w.backing

wrote-call : (d n : ℕ) (w : World) (c : Call) → DiskNow d n w c → part d n (ran w c).backing ≡ apply (written w c) (part d n w.backing)
unfolding ran written DiskNow hd_step
wrote-call d n w (memory words m) k = nothing-wrote d n w.backing
wrote-call d n w (disk start sectors ro id backing) k = nothing-wrote d n w.backing
wrote-call d n w (enable size desc avail used chain stage start) k = nothing-wrote d n w.backing
wrote-call d n w reset k = nothing-wrote d n w.backing
wrote-call d n w (step_over mem) k =
    let s = w.state in
    let b = w.backing in
    let u = nothing-wrote d n b in
    let x : part d n (stepped_on s mem b w.chain w.stage).backing
    ≡ apply (disk_stores (effect w.chain w.stage (phase_of (row_at s)) (part (wanted s w.chain).at (wanted s w.chain).len mem))) (part d n b) =
    rw (← k.0, ← k.1) (stepped-wrote w mem) in
    wrote-pick d n b (ltb (length s) state_words) _ _ _ _ u
    (wrote-pick d n b (eqb (level s) 3) _ _ _ _
    (wrote-pick d n b (is_broken (phase_of (row_at s))) _ _ _ _ u
    (wrote-pick d n b (long_enough s (length mem) (length b) (length w.chain) (length w.stage)) _ _ _ _
    (wrote-pick d n b (ready (get_or s mem_len_word 0) w.chain (phase_of (row_at s))) _ _ _ _ x u) u))
    u)

-- over every history: the disk is what the accepted writes make of it, in the order of the calls that carried them out
pub disk-run : (d n : ℕ) (w : World) (cs : List Call) → DiskIs d n w cs → part d n (run w cs).backing ≡ apply (written_in w cs) (part d n w.backing)
unfolding run written_in DiskIs
disk-run d n w [] k = nothing-wrote d n w.backing
disk-run d n w (c ∷ cs) k =
    let v = leaves (ran w c) in
    disk-run d n v cs k.1
    ∙ (ap (λ (x : List ℕ). apply (written_in v cs) x) (wrote-call d n w c k.0) ∙ sym (apply-append (written w c) (written_in v cs) (part d n w.backing)))

-- a range that later writes spare holds what it held
unfoldable pub Spare : ℕ → ℕ → List Store → Type 0
Spare a k [] = Unit {0}
Spare a k (x ∷ xs) = Disjoint a k x.to (length x.bytes) × Spare a k xs

pub spared : (a k : ℕ) (xs : List Store) (m : List ℕ) → Spare a k xs → part a k (apply xs m) ≡ part a k m
unfolding Spare apply
spared a k [] m s = refl
spared a k (x ∷ xs) m s = spared a k xs (put m x.to x.bytes) s.1 ∙ part-put-other m a k x.to x.bytes s.0

-- a sector reads back as what was last written: after a write of bs at `at`, and writes that spare the range, any part of the range is that part of bs
pub read_back : (at a k : ℕ) (bs : List ℕ) (xs : List Store) (m : List ℕ) → at + length bs ≤ length m → a + k ≤ length bs → Spare (at + a) k xs
    → part (at + a) k (apply (record { to = at; bytes = bs } ∷ xs) m) ≡ part a k bs
unfolding apply
read_back at a k bs xs m h l s =
    spared (at + a) k xs (put m at bs) s
    ∙ (sym (part-part at a (length bs) k (put m at bs) l) ∙ ap (part a k) (part-put m at (length bs) bs refl h))

-- on a read-only disk that set-up and steps made, no call writes to the disk
pub read_only : (w : World) (c : Call) → Kept w → (get_or w.state ro_word 0 ≡ 0 → ⊥) → written w c ≡ []
unfolding written
read_only w (memory words m) k n = refl
read_only w (disk start sectors ro id backing) k n = refl
read_only w (enable size desc avail used chain stage start) k n = refl
read_only w reset k n = refl
read_only w (step_over mem) k n =
    let P : List Store → Type 0 = λ xs. xs ≡ [] in
    on P (ltb (length w.state) state_words) (λ a. refl)
    (λ a. on P (eqb (level w.state) 3)
    (λ b. on P (is_broken (phase_of (row_at w.state))) (λ c. refl)
    (λ c. on P (long_enough w.state (length mem) (length w.backing) (length w.chain) (length w.stage))
    (λ d. on P (ready (get_or w.state mem_len_word 0) w.chain (phase_of (row_at w.state)))
    (λ e. locked (get_or w.state ro_word 0) w.chain w.stage (part (wanted w.state w.chain).at (wanted w.state w.chain).len mem) (phase_of (row_at w.state)) n
    (k (ltb-false (length w.state) state_words a) (eqb-true (level w.state) 3 b)).open-disk)
    (λ e. refl))
    (λ d. refl)))
    (λ b. refl))
