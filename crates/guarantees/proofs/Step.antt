-- One call of hd_step: it touches nothing, or it is the model's step on words that passed every test.
use Prim.Native.Nat.{ℕ, ◌+◌, ◌-◌, ◌*◌, ◌≤◌}
use mathlib.Core.Bool.{true}
use mathlib.Core.List.{List}
use mathlib.Core.Path.{◌≡◌, refl}
use native.Mathlib.Omega.{arith}
use lib.Dec.{ltb, eqb}
use lib.ListN.{get_or, length, length-append, length-take, length-drop}
use borrow.Author.Tests.{ltb-false, eqb-true}
use Rattle.model.specs.Bytes.{part}
use Rattle.model.specs.Sane.{sane, ready}
use Rattle.model.specs.Step.{Effect, nothing, stores, answers, publishes, shifted, disk_stores, effect, ends, left, step, step_with, fetched, want, Cfg}
use Rattle.model.proofs.Tests.{on}
use Rattle.model.proofs.Lists.{Apart, below, above, put-apart}
use Rattle.model.proofs.Sane.{payload-ok}
use Rattle.words.specs.Layout.{state_words, row_at, phase_of, level, config_at, map_words, mem_len_word, start_word, sectors_word, taken_word, answered_word, descs_word}
use Rattle.device.specs.Turn.{cfg_of, state_of}
use Rattle.model.specs.declared.Walk.{Walk}
use Rattle.hostiledisk.specs.Calls.{Called, untouched, is_broken, long_enough, stepped, stepped_on, Going, hd_step}
use Rattle.hostiledisk.proofs.Laws.{level-three}
use Rattle.model.specs.declared.Phase.{Phase}
use Rattle.model.specs.declared.Phase.TheVariants.{Poll, Entry, Chain, Header, Payload, Answer, Publish, Broken}

-- what holds of a call that touches nothing (it answers 3 or 4), and of a step on words that passed every test, holds of hd_step
pub by_answer : (P : Called → Type 0) (s mem backing chain stage : List ℕ) → ((n : ℕ) → 3 ≤ n → P (untouched n s mem backing chain stage))
    → (Going s (phase_of (row_at s)) (length mem) (length backing) chain (length stage) → P (stepped_on s mem backing chain stage))
    → P (hd_step s mem backing chain stage)
unfolding hd_step
by_answer P s mem backing chain stage u g =
    on P (ltb (length s) state_words) (λ a. u 4 (omega arith))
    (λ a. on P (eqb (level s) 3)
    (λ b. on P (is_broken (phase_of (row_at s))) (λ c. u 3 (omega arith))
    (λ c. on P (long_enough s (length mem) (length backing) (length chain) (length stage))
    (λ d. on P (ready (get_or s mem_len_word 0) chain (phase_of (row_at s)))
    (λ e. g (record { words_long = ltb-false (length s) state_words a; enabled = eqb-true (level s) 3 b; phase-is = refl; slices-long = d; chain-ready = e }))
    (λ e. u 4 (omega arith)))
    (λ d. u 4 (omega arith))))
    (λ b. u 4 (omega arith)))

pub by-step : (P : Called → Type 0) (s mem backing chain stage : List ℕ) → ((n : ℕ) → P (untouched n s mem backing chain stage))
    → (Going s (phase_of (row_at s)) (length mem) (length backing) chain (length stage) → P (stepped_on s mem backing chain stage))
    → P (hd_step s mem backing chain stage)
by-step P s mem backing chain stage u g = by_answer P s mem backing chain stage (λ n h. u n) g

length-part-le : (k n : ℕ) (m : List ℕ) → length (part k n m) ≤ n
unfolding part
length-part-le k n m = simp (length-take, length-drop) (omega arith)

ends_is : (k : Walk) (got l : ℕ) → ends k got l ≡ true → got + l ≡ k.r - 16
unfolding ends
ends_is k got l e = eqb-true (got + l) (k.r - 16) e

-- an effect that stores, stores within a disk of so many sectors
unfoldable pub StoresIn : ℕ → Effect → Type 0
StoresIn c nothing = Unit {0}
StoresIn c (stores at bs) = at + length bs ≤ 512 * c
StoresIn c (answers k job) = Unit {0}
StoresIn c publishes = Unit {0}

pub stores-in : (c : Cfg) (t a n : ℕ) (p : Phase) → sane c.queue.size c.disk.sectors p ≡ true → (mem chain stage : List ℕ)
    → StoresIn c.disk.sectors (effect chain stage p (fetched c (state_of t a n p) chain mem))
unfolding StoresIn effect want
stores-in c t a n Poll h mem chain stage = tt
stores-in c t a n Entry h mem chain stage = tt
stores-in c t a n (Chain k cur) h mem chain stage = tt
stores-in c t a n (Header k p got) h mem chain stage = tt
stores-in c t a n (Payload k p s got) h mem chain stage =
    let f = part (left chain p).at (left chain p).len mem in
    on (StoresIn c.disk.sectors) (ends k got (left chain p).len)
    (λ e. let l : got + (left chain p).len ≡ k.r - 16 = ends_is k got (left chain p).len e in
    let u = (payload-ok c.queue.size c.disk.sectors k p s got h).fit.to in
    omega (arith, length-append (part 0 got stage) f, length-part-le 0 got stage, length-part-le (left chain p).at (left chain p).len mem, l, u))
    (λ e. tt)
stores-in c t a n (Answer k job got) h mem chain stage = tt
stores-in c t a n (Publish k got) h mem chain stage = tt
stores-in c t a n (Broken reason head count at) h mem chain stage = tt

-- what is stored within the disk leaves every byte outside it
pub stores_apart : (e : Effect) (d c : ℕ) (b : List ℕ) (i : ℕ) → StoresIn c e → Apart i d (512 * c) → get_or (shifted d (disk_stores e) b) i 0 ≡ get_or b i 0
unfolding StoresIn disk_stores shifted
stores_apart nothing d c b i h k = refl
stores_apart (stores at bs) d c b i h (below l) = put-apart b (d + at) bs i (below (omega arith))
stores_apart (stores at bs) d c b i h (above l) = put-apart b (d + at) bs i (above (omega arith))
stores_apart (answers k job) d c b i h x = refl
stores_apart publishes d c b i h k = refl

-- 8, one call: bytes of the backing slice outside this disk's range stay, whatever the words are
pub wall-step : (s mem backing chain stage : List ℕ) (i : ℕ) → Apart i (get_or s start_word 0) (512 * get_or s sectors_word 0)
    → get_or (hd_step s mem backing chain stage).backing i 0 ≡ get_or backing i 0
unfolding stepped_on stepped step step_with config_at
wall-step s mem backing chain stage i k =
    by-step (λ (o : Called). get_or o.backing i 0 ≡ get_or backing i 0) s mem backing chain stage (λ n. refl)
    (λ g. let c = cfg_of (config_at s) (map_words s) in
    let p = phase_of (row_at s) in
    stores_apart (effect chain stage p (fetched c (state_of (get_or s taken_word 0) (get_or s answered_word 0) (get_or s descs_word 0) p) chain mem)) (get_or s start_word 0) (get_or s sectors_word 0) backing i
    (stores-in c (get_or s taken_word 0) (get_or s answered_word 0) (get_or s descs_word 0) p (level-three s g.enabled).phase mem chain stage) k)
