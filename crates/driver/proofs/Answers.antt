-- Turns of the loops that read answers, and what their tests say.
use Prim.Native.Nat.{ℕ, zero, suc, ◌+◌, ◌-◌, ◌*◌, ◌/◌, ◌≤◌, ◌<◌, min}
use mathlib.Core.Bool.{Bool, true, false}
use mathlib.Core.List.{List, [], ◌∷◌, ◌++◌}
use mathlib.Core.Path.{◌≡◌, refl, sym, ◌∙◌, ap}
use native.Mathlib.Omega.{arith}
use lib.Dec.{leb, ltb, eqb}
use lib.ListN.{get_or, length, take, set}
use lib.Seq.{take-append-le, take-append-add, take-nil}
use Rattle.driver.specs.Lay.{queue_in}
use borrow.Author.Tests.{leb-true, leb-false, ltb-true}
use Rattle.model.specs.Pick.{pick, both}
use Rattle.model.specs.Bytes.{put, part}
use Rattle.model.specs.Step.{spans}
use Rattle.model.specs.Sane.{all_inside}
use Rattle.model.proofs.Tests.{told, both-split, on}
use Rattle.model.proofs.Lists.{put-put, put-nil, length_part, take_part}
use Rattle.model.proofs.Step.{spans-turn, spans-end}
use Rattle.model.proofs.Sane.{inside-at, inside-here, inside-rest}
use Rattle.requests.specs.Serve.{gather}
use Rattle.driver.specs.Take.{freed, released, spots_in, countable, judged, outstanding}
use Rattle.driver.proofs.Laws.{queue-ok}
use Rattle.model.specs.Ring.{pending, plus_one, size_max}
use Rattle.std.specs.Prelude.{Option, Some, Result, Ok}
use Rattle.driver.specs.declared.Answer.{Answer}
use Rattle.driver.specs.declared.Strange.{Strange}
use Rattle.driver.specs.declared.Driver.{Driver}

-- one descriptor more is looked at
pub released-turn : (i v : ℕ) (own : List ℕ) → freed i v (released i v own) ≡ released (suc i) v own
unfolding freed released
released-turn zero v [] = go (eqb (get_or [] 0 0) v)
  where
    go : (b : Bool) → pick b (set {A = ℕ} [] 0 0) [] ≡ []
    go true = refl
    go false = refl
released-turn zero v (o ∷ own) = go (eqb o v)
  where
    go : (b : Bool) → pick b (0 ∷ own) (o ∷ own) ≡ pick b 0 o ∷ own
    go true = refl
    go false = refl
released-turn (suc i) v [] = go (eqb (get_or [] (suc i) 0) v)
  where
    go : (b : Bool) → pick b (set {A = ℕ} [] (suc i) 0) [] ≡ []
    go true = refl
    go false = refl
released-turn (suc i) v (o ∷ own) = go (eqb (get_or (released i v own) i 0) v) (released-turn i v own)
  where
    go : (b : Bool) → pick b (set (released i v own) i 0) (released i v own) ≡ released (suc i) v own
        → pick b (set (pick (eqb o v) 0 o ∷ released i v own) (suc i) 0) (pick (eqb o v) 0 o ∷ released i v own) ≡ pick (eqb o v) 0 o ∷ released (suc i) v own
    go true e = ap (λ (xs : List ℕ). pick (eqb o v) 0 o ∷ xs) e
    go false e = ap (λ (xs : List ℕ). pick (eqb o v) 0 o ∷ xs) e

-- one buffer more is copied out: as many of its bytes as there is room for
front : (out : List ℕ) (pos left a l : ℕ) (m rest : List ℕ) → a + l ≤ length m
    → put out pos (take left (part a l m ++ rest)) ≡ put (put out pos (part a (min l left) m)) (pos + min l left) (take (left - min l left) rest)
front out pos left a l m rest h = go (leb l left) refl
  where
    go : (b : Bool) → leb l left ≡ b → put out pos (take left (part a l m ++ rest)) ≡ put (put out pos (part a (min l left) m)) (pos + min l left) (take (left - min l left) rest)
    go true t =
        let u = leb-true l left t in
        let e : min l left ≡ l = omega arith in
        let k : length (part a l m) ≡ l = length_part a l m h in
        let z : left ≡ length (part a l m) + (left - l) = omega arith in
        let y : take left (part a l m ++ rest) ≡ part a l m ++ take (left - l) rest =
        ap (λ (n : ℕ). take n (part a l m ++ rest)) z ∙ take-append-add (part a l m) rest (left - l) in
        rw (e, y) (sym (put-put out pos (part a l m) (take (left - l) rest)) ∙ ap (λ (n : ℕ). put (put out pos (part a l m)) (pos + n) (take (left - l) rest)) k)
    go false t =
        let u = leb-false l left t in
        let e : min l left ≡ left = omega arith in
        let k : length (part a l m) ≡ l = length_part a l m h in
        let x : min left l ≡ left = omega arith in
        let z : left - left ≡ 0 = omega arith in
        let y : take left (part a l m ++ rest) ≡ part a left m =
        take-append-le left (part a l m) rest (omega arith) ∙ (take_part a l left m ∙ ap (λ (n : ℕ). part a n m) x) in
        rw (e, y, z) (sym (put-nil (put out pos (part a left m)) (pos + left)))

pub gather-turn : (i e : ℕ) (spots mem out : List ℕ) (pos left : ℕ) → i < e → get_or spots (2 * i) 0 + get_or spots (2 * i + 1) 0 ≤ length mem
    → put out pos (take left (gather mem (spans (e - i) i spots)))
    ≡ put (put out pos (part (get_or spots (2 * i) 0) (min (get_or spots (2 * i + 1) 0) left) mem)) (pos + min (get_or spots (2 * i + 1) 0) left)
    (take (left - min (get_or spots (2 * i + 1) 0) left) (gather mem (spans (e - (i + 1)) (i + 1) spots)))
unfolding gather
gather-turn i e spots mem out pos left h l =
    rw (spans-turn i e spots h) (front out pos left (get_or spots (2 * i) 0) (get_or spots (2 * i + 1) 0) mem (gather mem (spans (e - (i + 1)) (i + 1) spots)) l)

pub gather-end : (i e : ℕ) (spots mem out : List ℕ) (pos left : ℕ) → e ≤ i → put out pos (take left (gather mem (spans (e - i) i spots))) ≡ out
unfolding gather
gather-end i e spots mem out pos left h = rw (spans-end i e spots h, take-nil left) (put-nil out pos)

-- a request's spots: the last buffer is inside
pub record SpotsIn (m : ℕ) (spots : List ℕ) (reads e : ℕ) : Type 0 where
  pub some : 1 ≤ e
  pub writable : reads < e
  pub long : 2 * e ≤ length spots
  pub all_in : all_inside m (spans (e - reads) reads spots) ≡ true
  pub last_some : 1 ≤ get_or spots (2 * (e - 1) + 1) 0
  pub last-in : get_or spots (2 * (e - 1)) 0 + get_or spots (2 * (e - 1) + 1) 0 ≤ m

pub spots-in-ok : (m : ℕ) (spots : List ℕ) (reads e : ℕ) → spots_in m spots reads e ≡ true → SpotsIn m spots reads e
unfolding spots_in
spots-in-ok m spots reads e t =
    let a = both-split (leb 1 e) _ t in
    let b = both-split (ltb reads e) _ a.1 in
    let c = both-split (leb e (length spots / 2)) _ b.1 in
    let d = both-split (all_inside m (spans (e - reads) reads spots)) _ c.1 in
    let u : reads < e = omega told in
    let p : reads + (e - 1 - reads) ≡ e - 1 = omega arith in
    record {
      some = omega told;
      writable = u;
      long = omega told;
      all_in = d.0;
      last_some = omega told;
      last-in = rw p at (inside-at m reads e spots (e - 1 - reads) (omega arith) d.0);
    }

-- .. in numbers alone
pub spots-room : (m : ℕ) (spots : List ℕ) (reads e : ℕ) → spots_in m spots reads e ≡ true
    → (1 ≤ e) × (2 * e ≤ length spots) × (1 ≤ get_or spots (2 * (e - 1) + 1) 0) × (get_or spots (2 * (e - 1)) 0 + get_or spots (2 * (e - 1) + 1) 0 ≤ m)
spots-room m spots reads e t = let s = spots-in-ok m spots reads e t in (s.some, s.long, s.last_some, s.last-in)

pub countable-ok : (d : Driver) (m own idx : ℕ) → countable d m own idx ≡ true → (d.queue.size ≤ own) × (idx < 65536) × (d.seen < 65536)
unfolding countable
countable-ok d m own idx t =
    let a = both-split (queue_in d.queue m) _ t in
    let b = both-split (leb d.queue.size own) _ a.1 in
    let c = both-split (ltb idx 65536) _ b.1 in
    (omega told, omega told, omega told)

-- an answer that is taken names a descriptor of the queue
pub record Named (d : Driver) (own : List ℕ) (a : Answer) : Type 0 where
  pub queue-is : a.driver.queue.size ≡ d.queue.size
  pub head_in : a.head < d.queue.size
  pub own-long : d.queue.size ≤ length own
  pub small : d.queue.size ≤ size_max

pub judged-answer : (d : Driver) (m : ℕ) (own : List ℕ) (idx id len : ℕ) (a : Answer) → judged d m own idx id len ≡ Ok (Some a) → Named d own a
unfolding judged outstanding countable
judged-answer d m own idx id len a =
    let P : Result (Option Answer) Strange → Type 0 = λ t. t ≡ Ok (Some a) → Named d own a in
    on P (countable d m (length own) idx)
    (λ k. on P (eqb (pending idx d.seen) 0) (λ b e. absurd (cc))
    (λ b. on P (ltb d.queue.size (pending idx d.seen)) (λ c e. absurd (cc))
    (λ c. on P (both (ltb id d.queue.size) (eqb (get_or own id 0) (suc id)))
    (λ o e.
    let p = countable-ok d m (length own) idx k in
    let q = both-split (queue_in d.queue m) _ k in
    let s = queue-ok d.queue m q.0 in
    let g : record { driver = record { queue = d.queue; next = d.next; seen = plus_one d.seen }; head = id; len = len } ≡ a = cc in
    let h : id ≡ a.head = ap (λ (x : Answer). x.head) g in
    record { queue-is = ap (λ (x : Answer). x.driver.queue.size) (sym g); head_in = omega (arith, ltb-true id d.queue.size (both-split (ltb id d.queue.size) _ o).0); own-long = p.0; small = s.small })
    (λ o e. absurd (cc)))))
    (λ k e. absurd (cc))

-- for `search`: what the tests of reading say
pub ruleset in_spots = (spots-in-ok, spots-room)

pub ruleset counted = (countable-ok)

pub ruleset answered = (judged-answer)

-- .. the turns and the ends of the loops
pub ruleset turns = (released-turn)

pub ruleset gathered = (gather-turn, gather-end, inside-here, inside-rest)
