-- Bytes stay bytes: what a step of the model leaves of guest memory, the backing slice and staging memory is below 256 again.
use Prim.Native.Nat.{ℕ, zero, suc, ◌+◌, ◌*◌, ◌/◌, ◌<◌}
use native.Mathlib.Omega.{arith}
use mathlib.Core.List.{List, [], ◌∷◌, ◌++◌}
use lib.ListN.{get_or, take, drop}
use Rattle.model.specs.Bytes.{put, part, bytes}
use Rattle.model.specs.Request.{status, reported}
use Rattle.model.specs.Step.{Cfg, State, Store, Effect, nothing, stores, answers, publishes, apply, shifted, scatter, writables, handed, answer_stores, mem_stores, disk_stores, disk_of, effect, staged, ends, left, fetched, step, step_with}
use Rattle.model.specs.declared.Span.{Span}
use Rattle.model.specs.declared.Identity.{Identity as IdentityWords}
use Rattle.model.proofs.Tests.{on}
use Rattle.model.specs.declared.Queue.{Queue}
use Rattle.model.specs.declared.Walk.{Walk}
use Rattle.model.specs.declared.Job.{Job}
use Rattle.model.specs.declared.Job.TheVariants.{Failed, Unsupported, Done, Read, Write, Identity}
use Rattle.model.specs.declared.Phase.{Phase}
use Rattle.model.specs.declared.Phase.TheVariants.{Poll, Entry, Chain, Header, Payload, Answer, Publish, Broken}
use Rattle.answer.specs.Identity.{id_bytes}

unfoldable pub Octets : List ℕ → Type 0
Octets [] = Unit {0}
Octets (x ∷ xs) = (x < 256) × Octets xs

pub octets-at : (xs : List ℕ) → Octets xs → (i : ℕ) → get_or xs i 0 < 256
unfolding Octets
octets-at [] h i = omega arith
octets-at (x ∷ xs) h zero = h.0
octets-at (x ∷ xs) h (suc i) = octets-at xs h.1 i

pub octets-of : (xs : List ℕ) → ((i : ℕ) → get_or xs i 0 < 256) → Octets xs
unfolding Octets
octets-of [] f = tt
octets-of (x ∷ xs) f = (f 0, octets-of xs (λ i. f (suc i)))

pub octets-put : (m : List ℕ) (k : ℕ) (bs : List ℕ) → Octets m → Octets bs → Octets (put m k bs)
unfolding Octets put
octets-put [] k bs h b = tt
octets-put (x ∷ m) (suc k) bs h b = (h.0, octets-put m k bs h.1 b)
octets-put (x ∷ m) zero [] h b = h
octets-put (x ∷ m) zero (y ∷ bs) h b = (b.0, octets-put m zero bs h.1 b.1)

pub octets-append : (xs ys : List ℕ) → Octets xs → Octets ys → Octets (xs ++ ys)
unfolding Octets
octets-append [] ys h k = k
octets-append (x ∷ xs) ys h k = (h.0, octets-append xs ys h.1 k)

octets-take : (n : ℕ) (xs : List ℕ) → Octets xs → Octets (take n xs)
unfolding Octets
octets-take zero xs h = tt
octets-take (suc n) [] h = tt
octets-take (suc n) (x ∷ xs) h = (h.0, octets-take n xs h.1)

octets-drop : (n : ℕ) (xs : List ℕ) → Octets xs → Octets (drop n xs)
unfolding Octets
octets-drop zero xs h = h
octets-drop (suc n) [] h = tt
octets-drop (suc n) (x ∷ xs) h = octets-drop n xs h.1

octets-part : (k n : ℕ) (m : List ℕ) → Octets m → Octets (part k n m)
unfolding part
octets-part k n m h = octets-take n (drop k m) (octets-drop k m h)

pub octets-bytes : (n v : ℕ) → Octets (bytes n v)
unfolding Octets bytes
octets-bytes zero v = tt
octets-bytes (suc n) v = (omega arith, octets-bytes n (v / 256))

pub octets-id : (id : IdentityWords) → Octets (id_bytes id)
unfolding id_bytes
octets-id id =
    octets-append (bytes 8 id.first) (bytes 8 id.second ++ bytes 4 id.last) (octets-bytes 8 id.first)
    (octets-append (bytes 8 id.second) (bytes 4 id.last) (octets-bytes 8 id.second) (octets-bytes 4 id.last))

-- .. of every write
unfoldable pub Written : List Store → Type 0
Written [] = Unit {0}
Written (x ∷ xs) = Octets x.bytes × Written xs

pub written-append : (xs ys : List Store) → Written xs → Written ys → Written (xs ++ ys)
unfolding Written
written-append [] ys h k = k
written-append (x ∷ xs) ys h k = (h.0, written-append xs ys h.1 k)

pub octets-apply : (xs : List Store) (m : List ℕ) → Written xs → Octets m → Octets (apply xs m)
unfolding Written apply
octets-apply [] m w h = h
octets-apply (x ∷ xs) m w h = octets-apply xs (put m x.to x.bytes) w.1 (octets-put m x.to x.bytes h w.0)

octets-shifted : (d : ℕ) (xs : List Store) (b : List ℕ) → Written xs → Octets b → Octets (shifted d xs b)
unfolding Written shifted
octets-shifted d [] b w h = h
octets-shifted d (x ∷ xs) b w h = octets-shifted d xs (put b (d + x.to) x.bytes) w.1 (octets-put b (d + x.to) x.bytes h w.0)

pub written-scatter : (ss : List Span) (bs : List ℕ) → Octets bs → Written (scatter ss bs)
unfolding Written scatter
written-scatter [] bs h = tt
written-scatter (s ∷ ss) bs h = (octets-take s.len bs h, written-scatter ss (drop s.len bs) (octets-drop s.len bs h))

octets-handed : (id disk : List ℕ) (k : Walk) (job : Job) → Octets id → Octets disk → Octets (handed id disk k job)
unfolding Octets handed
octets-handed id disk k Failed i d = tt
octets-handed id disk k Unsupported i d = tt
octets-handed id disk k Done i d = tt
octets-handed id disk k (Read s) i d = octets-part (512 * s) _ disk d
octets-handed id disk k (Write s) i d = tt
octets-handed id disk k Identity i d = i

status-low : (job : Job) → status job < 256
unfolding status
status-low Failed = omega arith
status-low Unsupported = omega arith
status-low Done = omega arith
status-low (Read s) = omega arith
status-low (Write s) = omega arith
status-low Identity = omega arith

written-answer : (id : List ℕ) (q : Queue) (a : ℕ) (chain disk : List ℕ) (k : Walk) (job : Job) → Octets id → Octets disk → Written (answer_stores id q a chain disk k job)
unfolding answer_stores Written Octets
written-answer id q a chain disk k job i d =
    written-append (scatter (writables chain k) (handed id disk k job)) _ (written-scatter (writables chain k) (handed id disk k job) (octets-handed id disk k job i d))
    ((status-low job, tt), (octets-append (bytes 4 k.head) (bytes 4 (reported (status job) k.w)) (octets-bytes 4 k.head) (octets-bytes 4 (reported (status job) k.w)), tt))

written-mem : (c : Cfg) (a : ℕ) (chain disk : List ℕ) (e : Effect) → Octets c.id → Octets disk → Written (mem_stores c a chain disk e)
unfolding mem_stores Written
written-mem c a chain disk nothing i d = tt
written-mem c a chain disk (stores at bs) i d = tt
written-mem c a chain disk (answers k job) i d = written-answer c.id c.queue a chain disk k job i d
written-mem c a chain disk publishes i d = (octets-bytes 2 _, tt)

written-disk : (chain stage : List ℕ) (p : Phase) (f : List ℕ) → Octets stage → Octets f → Written (disk_stores (effect chain stage p f))
unfolding effect disk_stores Written
written-disk chain stage Poll f s h = tt
written-disk chain stage Entry f s h = tt
written-disk chain stage (Chain k cur) f s h = tt
written-disk chain stage (Header k p got) f s h = tt
written-disk chain stage (Payload k p sector got) f s h =
    on (λ (x : Effect). Written (disk_stores x)) (ends k got (left chain p).len) (λ e. (octets-append (part 0 got stage) f (octets-part 0 got stage s) h, tt)) (λ e. tt)
written-disk chain stage (Answer k job got) f s h = tt
written-disk chain stage (Publish k got) f s h = tt
written-disk chain stage (Broken reason head count at) f s h = tt

octets-staged : (chain stage : List ℕ) (p : Phase) (f : List ℕ) → Octets stage → Octets f → Octets (staged chain stage p f)
unfolding staged
octets-staged chain stage Poll f s h = s
octets-staged chain stage Entry f s h = s
octets-staged chain stage (Chain k cur) f s h = s
octets-staged chain stage (Header k p got) f s h = octets-put stage got f s h
octets-staged chain stage (Payload k p sector got) f s h = on Octets (ends k got (left chain p).len) (λ e. s) (λ e. octets-put stage got f s h)
octets-staged chain stage (Answer k job got) f s h = s
octets-staged chain stage (Publish k got) f s h = s
octets-staged chain stage (Broken reason head count at) f s h = s

-- one step
pub octets-step : (c : Cfg) (s : State) (mem backing chain stage : List ℕ) → Octets c.id → Octets mem → Octets backing → Octets stage
    → Octets (step c s mem backing chain stage).mem × Octets (step c s mem backing chain stage).backing × Octets (step c s mem backing chain stage).stage
unfolding step step_with
octets-step c s mem backing chain stage i m b g =
    let f = fetched c s chain mem in
    let h : Octets f = octets-part _ _ mem m in
    let e = effect chain stage s.phase f in (
      octets-apply (mem_stores c s.answered chain (disk_of c.disk backing) e) mem
          (written-mem c s.answered chain (disk_of c.disk backing) e i (octets-part c.disk.start (512 * c.disk.sectors) backing b)) m,
      octets-shifted c.disk.start (disk_stores e) backing (written-disk chain stage s.phase f g h) b,
      octets-staged chain stage s.phase f g h,
    )
