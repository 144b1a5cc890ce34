-- DEV-13, what is held where: the words of state are as many for every queue, and a step changes thirteen of them; what grows with the queue is chain
-- memory, two words for each descriptor that a chain may have, and enabling refuses less.
use Prim.Native.Nat.{ℕ, ◌*◌, ◌≤◌, ◌<◌}
use mathlib.Core.List.{List, [], ◌∷◌}
use mathlib.Core.Path.{◌≡◌, refl}
use native.Mathlib.Omega.{arith}
use lib.Dec.{ltb, eqb}
use lib.ListN.{get_or, length}
use borrow.Author.Tests.{leb-false, ltb-false, le-ltb, lt-ltb, eq-eqb}
use Rattle.model.specs.Memory.{Region, regions}
use Rattle.model.specs.Ring.{areas}
use Rattle.model.specs.Chain.{tested, held, keeps}
use Rattle.model.specs.Step.{Cfg, chained, step, step_with}
use Rattle.model.proofs.Tests.{on}
use Rattle.model.proofs.Lists.{Apart, above, put-apart}
use Rattle.model.proofs.Chain.{next-room, last-room}
use Rattle.model.proofs.Ring.{areas-size}
use Rattle.model.specs.declared.Walk.{Walk}
use Rattle.model.specs.declared.Desc.{Desc}
use Rattle.model.specs.declared.Tested.{Tested}
use Rattle.model.specs.declared.Tested.TheVariants.{Bad, Next, Last}
use Rattle.model.specs.declared.Queue.{Queue}
use Rattle.std.specs.Prelude.{Result, Ok, Err}
use Rattle.model.specs.declared.Refusal.{Refusal}
use Rattle.model.specs.declared.Phase.{Phase}
use Rattle.model.specs.declared.Phase.TheVariants.{Poll, Entry, Chain, Header, Payload, Answer, Publish, Broken}
use Rattle.device.specs.Turn.{cfg_of}
use Rattle.words.specs.Layout.{state_words, size_word, taken_word, saved_words, row_at, phase_of, level, config_at, map_words}
use Rattle.words.proofs.Saved.{others-saved}
use Rattle.hostiledisk.specs.Calls.{Set, told, Called, numbered, enabled_with, hd_enable_at, stepped, stepped_on, hd_step}
use Rattle.guarantees.proofs.Step.{by-step}
use Rattle.guarantees.proofs.Enables.{refused-code}

-- a step changes the counters, the phase and the last chain's number, whatever the words are and whatever the queue's size is; set-up's words stay, the map's too
pub state-held : (s mem backing chain stage : List ℕ) (i : ℕ) → Apart i taken_word saved_words → get_or (hd_step s mem backing chain stage).state i 0 ≡ get_or s i 0
unfolding stepped_on stepped
state-held s mem backing chain stage i h =
    by-step (λ (o : Called). get_or o.state i 0 ≡ get_or s i 0) s mem backing chain stage (λ n. refl) (λ g. others-saved s _ _ _ _ i h)

-- a descriptor that is noted is one of the q that a chain may have
keeps_low : (rs : List Region) (q : ℕ) (chain : List ℕ) (k : Walk) (d : Desc) (i : ℕ) → 2 * q ≤ i → get_or (keeps chain k d (tested rs q k d)) i 0 ≡ get_or chain i 0
unfolding keeps held tested
keeps_low rs q chain k d i h = go (tested rs q k d) refl
  where
    go : (t : Tested) → tested rs q k d ≡ t → get_or (keeps chain k d t) i 0 ≡ get_or chain i 0
    go (Bad n) e = refl
    go (Next x) e = put-apart chain (2 * k.count) (x ∷ d.len ∷ []) i (above (omega (arith, leb-false q k.count (next-room _ _ _ _ _ _ _ x e))))
    go (Last x) e = put-apart chain (2 * k.count) (x ∷ d.len ∷ []) i (above (omega (arith, leb-false q k.count (last-room _ _ _ _ _ _ _ x e))))

chained-low : (c : Cfg) (chain : List ℕ) (p : Phase) (f : List ℕ) (i : ℕ) → 2 * c.queue.size ≤ i → get_or (chained c chain p f) i 0 ≡ get_or chain i 0
unfolding chained
chained-low c chain Poll f i h = refl
chained-low c chain Entry f i h = refl
chained-low c chain (Chain k cur) f i h = keeps_low c.map c.queue.size chain k _ i h
chained-low c chain (Header k p got) f i h = refl
chained-low c chain (Payload k p s got) f i h = refl
chained-low c chain (Answer k job got) f i h = refl
chained-low c chain (Publish k got) f i h = refl
chained-low c chain (Broken reason head count at) f i h = refl

-- of chain memory a step changes nothing behind the 2 q words that this queue asks for
pub chain_held : (s mem backing chain stage : List ℕ) (i : ℕ) → 2 * get_or s size_word 0 ≤ i → get_or (hd_step s mem backing chain stage).chain i 0 ≡ get_or chain i 0
unfolding stepped_on stepped step step_with config_at
chain_held s mem backing chain stage i h =
    by-step (λ (o : Called). get_or o.chain i 0 ≡ get_or chain i 0) s mem backing chain stage (λ n. refl)
    (λ g. chained-low (cfg_of (config_at s) (map_words s)) chain (phase_of (row_at s)) _ i h)

-- enabling that is answered 0 was told of two words for each descriptor ..
enabled-lent : (s : List ℕ) (c g start : ℕ) (rs : List Region) (size desc avail used : ℕ) (x : Result Queue Refusal) → areas rs size desc avail used ≡ x
    → (enabled_with s c g start (numbered x)).code ≡ 0 → 2 * size ≤ c
unfolding enabled_with
enabled-lent s c g start rs size desc avail used (Err n) e = λ z. absurd (refused-code rs size desc avail used n e z)
enabled-lent s c g start rs size desc avail used (Ok q) e =
    let P : Set → Type 0 = λ x. x.code ≡ 0 → 2 * size ≤ c in
    on P (ltb c (2 * q.size)) (λ f z. absurd (omega arith)) (λ f z. omega (arith, ltb-false c (2 * q.size) f, areas-size rs size desc avail used q e))

pub enable-lent : (s : List ℕ) (size desc avail used c g start : ℕ) → (hd_enable_at s size desc avail used c g start).code ≡ 0 → 2 * size ≤ c
unfolding hd_enable_at
enable-lent s size desc avail used c g start =
    let P : Set → Type 0 = λ x. x.code ≡ 0 → 2 * size ≤ c in
    on P (ltb (length s) state_words) (λ e z. absurd (omega arith))
    (λ e. on P (eqb (level s) 2)
    (λ f. enabled-lent s c g start (regions (map_words s)) size desc avail used (areas (regions (map_words s)) size desc avail used) refl)
    (λ f z. absurd (omega arith)))

-- .. and with less it answers 42 and changes nothing, where the areas are in order
pub enable-short : (s : List ℕ) (size desc avail used c g start : ℕ) (q : Queue) → state_words ≤ length s → level s ≡ 2
    → areas (regions (map_words s)) size desc avail used ≡ Ok q → c < 2 * size → hd_enable_at s size desc avail used c g start ≡ told 42 s
unfolding hd_enable_at enabled_with
enable-short s size desc avail used c g start q l h e f =
    rw (le-ltb (length s) state_words l, eq-eqb (level s) 2 h, e, lt-ltb c (2 * q.size) (omega (arith, areas-size (regions (map_words s)) size desc avail used q e)))
