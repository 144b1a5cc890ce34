-- 2 and 3, the other half: on a queue that set-up and steps made, the range that a step wants, and each range that it may write, lies inside one registered region.
use Prim.Native.Nat.{ℕ, zero, suc, ◌+◌, ◌-◌, ◌*◌, ◌%◌, ◌≤◌, ◌<◌}
use mathlib.Core.List.{List, [], ◌∷◌}
use mathlib.Core.Path.{◌≡◌, refl}
use native.Mathlib.Omega.{arith}
use native.Mathlib.Nat.{mod-lt}
use lib.ListN.{get_or}
use Rattle.model.specs.Memory.{Region, regions}
use Rattle.model.specs.Step.{Cfg, want, left, lacks, spans, used_at}
use Rattle.model.specs.declared.Span.{Span}
use Rattle.model.proofs.Memory.{InOne, Within, here, later}
use Rattle.model.proofs.Step.{spans-turn, spans-end}
use Rattle.words.specs.Layout.{row_at, phase_of, config_at, map_words, level, sectors_word, taken_word, answered_word}
use Rattle.device.specs.Turn.{cfg_of}
use Rattle.hostiledisk.proofs.Laws.{level-three}
use Rattle.guarantees.specs.History.{wanted, touched}
use Rattle.guarantees.specs.Good.{Spot, Good, Area, Made}
use Rattle.model.specs.declared.Queue.{Queue}
use Rattle.model.specs.declared.Phase.{Phase}
use Rattle.model.specs.declared.Phase.TheVariants.{Poll, Entry, Chain, Header, Payload, Answer, Publish, Broken}

-- a part of a range that lies in one region lies in that region
in-sub : (rs : List Region) (a n x o k : ℕ) → InOne rs a n x → 1 ≤ k → o + k ≤ n → InOne rs (a + o) k (x + o)
in-sub [] a n x o k i h l = elim i [ ]
in-sub (r ∷ rs) a n x o k (here w) h l =
    let v : Within r (a + o) k (x + o) =
    record { some = h; from = omega (arith, w.from); to = omega (arith, w.to); at_place = omega (arith, w.at_place, w.from) } in
    here v
in-sub (r ∷ rs) a n x o k (later w) h l = later (in-sub rs a n x o k w h l)

area-sub : (rs : List Region) (at n o k b : ℕ) → Area rs at n → 1 ≤ k → o + k ≤ n → at + o ≡ b → Area rs b k
area-sub rs at n o k b m h l e = record { address = m.address + o; in_one = rw e at (in-sub rs m.address n at o k m.in_one h l) }

spot-area : (rs : List Region) (at len : ℕ) → Spot rs at len → Area rs at len
spot-area rs at len s = record { address = s.address; in_one = s.in_one }

-- nothing, or a range inside one region
pub data OneRange (rs : List Region) (x : Span) : Type 0 where
  none : x.len ≡ 0 → OneRange rs x
  some : Area rs x.at x.len → OneRange rs x

one-range : (rs : List Region) (c : Cfg) (t : ℕ) (chain : List ℕ) (sectors : ℕ) (p : Phase) → Area rs c.queue.desc (16 * c.queue.size)
    → Area rs c.queue.avail (6 + 2 * c.queue.size) → 1 ≤ c.queue.size → Good rs c.queue.size sectors chain p → OneRange rs (want c t chain p)
unfolding want Good
one-range rs c t chain sectors Poll d a h g = some (area-sub rs c.queue.avail (6 + 2 * c.queue.size) 2 2 (c.queue.avail + 2) a (omega arith) (omega arith) refl)
one-range rs c t chain sectors Entry d a h g =
    some (area-sub rs c.queue.avail (6 + 2 * c.queue.size) (4 + 2 * (t % c.queue.size)) 2 (c.queue.avail + (4 + 2 * (t % c.queue.size))) a (omega arith) (omega (arith, mod-lt t h)) refl)
one-range rs c t chain sectors (Chain k cur) d a h g =
    some (area-sub rs c.queue.desc (16 * c.queue.size) (16 * cur) 16 (c.queue.desc + 16 * cur) d (omega arith) (omega (arith, g.1)) refl)
one-range rs c t chain sectors (Header k p got) d a h g =
    let x = g.4 in
    let s = g.0.buffers p.buf (omega (arith, x.buf-in, g.0.reads_in)) in
    some (area-sub rs (get_or chain (2 * p.buf) 0) (get_or chain (2 * p.buf + 1) 0) p.skip (lacks got (left chain p).len) (left chain p).at
    (spot-area rs (get_or chain (2 * p.buf) 0) (get_or chain (2 * p.buf + 1) 0) s) (omega (arith, x.skip-in, g.2)) (omega (arith, x.skip-in)) refl)
one-range rs c t chain sectors (Payload k p s got) d a h g =
    let x = g.5 in
    let y = g.0.buffers p.buf (omega (arith, x.buf-in, g.0.reads_in)) in
    some (area-sub rs (get_or chain (2 * p.buf) 0) (get_or chain (2 * p.buf + 1) 0) p.skip (left chain p).len (left chain p).at
    (spot-area rs (get_or chain (2 * p.buf) 0) (get_or chain (2 * p.buf + 1) 0) y) (omega (arith, x.skip-in)) (omega (arith, x.skip-in)) refl)
one-range rs c t chain sectors (Answer k job got) d a h g = none refl
one-range rs c t chain sectors (Publish k got) d a h g = none refl
one-range rs c t chain sectors (Broken reason head count at) d a h g = none refl

-- 2. the wanted range
pub wanted-region : (s chain : List ℕ) → level s ≡ 3 → Made s chain → OneRange (regions (map_words s)) (wanted s chain)
unfolding config_at
wanted-region s chain h m =
    one-range (regions (map_words s)) (cfg_of (config_at s) (map_words s)) (get_or s taken_word 0) chain (get_or s sectors_word 0) (phase_of (row_at s)) m.desc-area m.avail-area
    (level-three s h).queue.size-some m.good

unfoldable pub AllIn : List Region → List Span → Type 0
AllIn rs [] = Unit {0}
AllIn rs (x ∷ xs) = Area rs x.at x.len × AllIn rs xs

buffers-in : (rs : List Region) (chain : List ℕ) (d i e : ℕ) → i + d ≡ e → ((j : ℕ) → j < e → Spot rs (get_or chain (2 * j) 0) (get_or chain (2 * j + 1) 0)) → AllIn rs (spans (e - i) i chain)
unfolding AllIn
buffers-in rs chain zero i e x f = rw (spans-end i e chain (omega arith)) tt
buffers-in rs chain (suc d) i e x f =
    rw (spans-turn i e chain (omega arith))
    (spot-area rs (get_or chain (2 * i) 0) (get_or chain (2 * i + 1) 0) (f i (omega arith)), buffers-in rs chain d (i + 1) e (omega arith) f)

touched-all : (rs : List Region) (q : Queue) (a : ℕ) (chain : List ℕ) (sectors : ℕ) (p : Phase) → Area rs q.used (6 + 8 * q.size) → 1 ≤ q.size
    → Good rs q.size sectors chain p → AllIn rs (touched q a chain p)
unfolding touched AllIn Good
touched-all rs q a chain sectors Poll u h g = tt
touched-all rs q a chain sectors Entry u h g = tt
touched-all rs q a chain sectors (Chain k cur) u h g = tt
touched-all rs q a chain sectors (Header k p got) u h g = tt
touched-all rs q a chain sectors (Payload k p s got) u h g = tt
touched-all rs q a chain sectors (Answer k job got) u h g = (
  area-sub rs q.used (6 + 8 * q.size) (4 + 8 * (a % q.size)) 8 (used_at q a) u (omega arith) (omega (arith, mod-lt a h)) refl,
  buffers-in rs chain (k.count - k.reads) k.reads k.count (omega (arith, g.1)) g.0.buffers,
)
touched-all rs q a chain sectors (Publish k got) u h g =
    (area-sub rs q.used (6 + 8 * q.size) 2 2 (q.used + 2) u (omega arith) (omega arith) refl, tt)
touched-all rs q a chain sectors (Broken reason head count at) u h g = tt

-- 3. the ranges that may be written
pub touched-regions : (s chain : List ℕ) → level s ≡ 3 → Made s chain → AllIn (regions (map_words s)) (touched (config_at s).queue (get_or s answered_word 0) chain (phase_of (row_at s)))
unfolding config_at
touched-regions s chain h m =
    touched-all (regions (map_words s)) (config_at s).queue (get_or s answered_word 0) chain (get_or s sectors_word 0) (phase_of (row_at s)) m.used-area (level-three s h).queue.size-some m.good
