-- The laws of buffers: the private chain's words as a list of buffers, the last byte, the strings and their cuts.
use Prim.Native.Nat.{ℕ, zero, suc, ◌+◌, ◌-◌, ◌*◌, ◌≤◌, ◌<◌}
use native.Mathlib.Omega.{arith}
use native.Mathlib.Nat.{add-zero}
use native.Mathlib.Numerals.{add-one}
use mathlib.Core.Bool.{Bool, true, false}
use mathlib.Core.Path.{◌≡◌, refl, ap, ◌∙◌}
use mathlib.Core.List.{List, [], ◌∷◌, ◌++◌, append_assoc, append-nil}
use lib.Dec.{leb, eqb}
use lib.ListN.{length, get_or, length-append}
use borrow.Author.Tests.{leb-true, leb-false, eqb-true}
use Rattle.model.specs.Pick.{pick}
use Rattle.model.specs.Bytes.{put, part}
use Rattle.model.specs.Step.{buffer, left, spans}
use Rattle.model.specs.declared.Span.{Span}
use Rattle.model.specs.declared.Place.{Place}
use Rattle.model.proofs.Tests.{told}
use Rattle.model.proofs.Lists.{put-below, put_in, part-add, length_part}
use Rattle.requests.specs.Serve.{gather, total, last_byte_at}
use Rattle.requests.specs.Steps.{up_to, past}
use Rattle.requests.specs.Guest.{gather_from}

-- words put behind some buffers leave them ..
pub spans-keep : (n i : ℕ) (chain : List ℕ) (j : ℕ) (bs : List ℕ) → i + n ≤ j → spans n i (put chain (2 * j) bs) ≡ spans n i chain
unfolding spans
spans-keep zero i chain j bs h = refl
spans-keep (suc n) i chain j bs h =
    rw (put-below chain (2 * j) bs (2 * i) (omega arith), put-below chain (2 * j) bs (2 * i + 1) (omega arith), spans-keep n (suc i) chain j bs (omega arith))

-- .. and two words right behind them are one buffer more
pub spans-push : (ss : List Span) (i : ℕ) (chain : List ℕ) (x l : ℕ) → spans (length ss) i chain ≡ ss → 2 * (i + length ss) + 1 < length chain
    → spans (length (ss ++ (record { at = x; len = l } ∷ []))) i (put chain (2 * (i + length ss)) (x ∷ l ∷ [])) ≡ ss ++ (record { at = x; len = l } ∷ [])
unfolding spans
spans-push [] i chain x l e h =
    let a : get_or (put chain (2 * (i + 0)) (x ∷ l ∷ [])) (2 * i) 0 ≡ x =
    ap (λ (k : ℕ). get_or (put chain (2 * (i + 0)) (x ∷ l ∷ [])) k 0) (omega arith) ∙ put_in chain (2 * (i + 0)) (x ∷ l ∷ []) 0 (omega arith) (omega arith) in
    let b : get_or (put chain (2 * (i + 0)) (x ∷ l ∷ [])) (2 * i + 1) 0 ≡ l =
    ap (λ (k : ℕ). get_or (put chain (2 * (i + 0)) (x ∷ l ∷ [])) k 0) (omega arith) ∙ put_in chain (2 * (i + 0)) (x ∷ l ∷ []) 1 (omega arith) (omega arith) in
    rw (a, b)
spans-push (s ∷ ss) i chain x l e h =
    let a : buffer chain i ≡ s = cc in
    let b : spans (length ss) (suc i) chain ≡ ss = cc in
    let j : i + suc (length ss) ≡ suc i + length ss = omega arith in
    let p = put-below chain (2 * (suc i + length ss)) (x ∷ l ∷ []) (2 * i) (omega arith) in
    let q = put-below chain (2 * (suc i + length ss)) (x ∷ l ∷ []) (2 * i + 1) (omega arith) in
    rw (j, p, q, a) (ap (λ (r : List Span). s ∷ r) (spans-push ss (suc i) chain x l b (omega arith)))

-- the last byte of the last buffer
pub last-is : (s : Span) (ss : List Span) (i : ℕ) (chain : List ℕ) → spans (suc (length ss)) i chain ≡ s ∷ ss
    → get_or chain (2 * (i + length ss)) 0 + (get_or chain (2 * (i + length ss) + 1) 0 - 1) ≡ last_byte_at (s ∷ ss)
unfolding spans last_byte_at
last-is s [] i chain e =
    let a : buffer chain i ≡ s = cc in
    let p : get_or chain (2 * i) 0 ≡ s.at = ap (λ (x : Span). x.at) a in
    let q : get_or chain (2 * i + 1) 0 ≡ s.len = ap (λ (x : Span). x.len) a in
    rw (add-zero i, p, q)
last-is s (t ∷ ss) i chain e =
    let j : i + suc (length ss) ≡ suc i + length ss = omega arith in
    let b : spans (suc (length ss)) (suc i) chain ≡ t ∷ ss = cc in
    rw j (last-is t ss (suc i) chain b)

pub total-append : (ss ts : List Span) → total (ss ++ ts) ≡ total ss + total ts
unfolding total
total-append [] ts = omega arith
total-append (s ∷ ss) ts = omega (arith, total-append ss ts)

-- buffers of one byte at least, in a slice of m bytes
unfoldable pub Inside : ℕ → List Span → Type 0
Inside m [] = Unit {0}
Inside m (s ∷ ss) = (1 ≤ s.len) × (s.at + s.len ≤ m) × Inside m ss

pub inside-push : (m : ℕ) (ss : List Span) (s : Span) → Inside m ss → 1 ≤ s.len → s.at + s.len ≤ m → Inside m (ss ++ (s ∷ []))
unfolding Inside
inside-push m [] s k l h = (l, h, tt)
inside-push m (t ∷ ss) s k l h = (k.0, k.1, inside-push m ss s k.2 l h)

-- the buffers from a place of the private chain on: what is left of the one at it, and the next ones
unfoldable pub Ahead : List ℕ → Place → List Span → Type 0
Ahead chain p [] = Unit {0}
Ahead chain p (s ∷ ss) = ((left chain p).at ≡ s.at) × ((left chain p).len ≡ s.len) × (spans (length ss) (p.buf + 1) chain ≡ ss)

pub ahead-next : (chain : List ℕ) (i : ℕ) (ss : List Span) → spans (length ss) i chain ≡ ss → Ahead chain (record { buf = i; skip = 0 }) ss
unfolding Ahead spans
ahead-next chain i [] e = tt
ahead-next chain i (s ∷ ss) e =
    let a : buffer chain i ≡ s = cc in
    let b : spans (length ss) (suc i) chain ≡ ss = cc in
    let p : get_or chain (2 * i) 0 ≡ s.at = ap (λ (x : Span). x.at) a in
    let q : get_or chain (2 * i + 1) 0 ≡ s.len = ap (λ (x : Span). x.len) a in
    (omega arith, omega arith, rw (add-one i) b)

-- the first n bytes of some buffers, as fetched, are n bytes; the others are in memory too, and are as many as are left
pub length-up-to : (m : ℕ) (mems : ℕ → List ℕ) → ((j : ℕ) → length (mems j) ≡ m) → (ss : List Span) (n i : ℕ) → n ≤ total ss → Inside m ss
    → length (gather_from mems i (up_to n ss)) ≡ n
unfolding total Inside up_to gather_from
length-up-to m mems h [] n i l k = omega arith
length-up-to m mems h (s ∷ ss) n i l k = go (leb n s.len) refl (λ u. length-up-to m mems h ss (n - s.len) (suc i) u k.2)
  where
    go : (v : Bool) → leb n s.len ≡ v → (n - s.len ≤ total ss → length (gather_from mems (suc i) (up_to (n - s.len) ss)) ≡ n - s.len)
        → length (gather_from mems i (pick v (record { at = s.at; len = n } ∷ []) (s ∷ up_to (n - s.len) ss))) ≡ n
    go true v f = let u = leb-true n s.len v in rw append-nil (length_part s.at n (mems i) (omega (arith, h i)))
    go false v f =
        let u = leb-false n s.len v in
        let p = length_part s.at s.len (mems i) (omega (arith, h i)) in
        omega (arith, length-append (part s.at s.len (mems i)) (gather_from mems (suc i) (up_to (n - s.len) ss)), f (omega arith))

pub inside_past : (m : ℕ) (ss : List Span) (n : ℕ) → Inside m ss → Inside m (past n ss)
unfolding Inside past
inside_past m [] n k = tt
inside_past m (s ∷ ss) n k = go (leb n s.len) refl (eqb n s.len) refl (inside_past m ss (n - s.len) k.2)
  where
    go : (v : Bool) → leb n s.len ≡ v → (u : Bool) → eqb n s.len ≡ u → Inside m (past (n - s.len) ss)
        → Inside m (pick v (pick u ss (record { at = s.at + n; len = s.len - n } ∷ ss)) (past (n - s.len) ss))
    go true v true u r = k.2
    go true v false u r = (omega (told, k.0, k.1), omega (told, k.0, k.1), k.2)
    go false v u w r = r

pub total-past : (ss : List Span) (n : ℕ) → n ≤ total ss → total (past n ss) + n ≡ total ss
unfolding total past
total-past [] n h = omega arith
total-past (s ∷ ss) n h = go (leb n s.len) refl (eqb n s.len) refl (λ l. total-past ss (n - s.len) l)
  where
    go : (v : Bool) → leb n s.len ≡ v → (u : Bool) → eqb n s.len ≡ u → (n - s.len ≤ total ss → total (past (n - s.len) ss) + (n - s.len) ≡ total ss)
        → total (pick v (pick u ss (record { at = s.at + n; len = s.len - n } ∷ ss)) (past (n - s.len) ss)) + n ≡ s.len + total ss
    go true v true u f = omega told
    go true v false u f = omega told
    go false v u w f = let l = leb-false n s.len v in omega (arith, f (omega arith))

still-gather : (m : List ℕ) (ss : List Span) (i : ℕ) → gather_from (λ x. m) i ss ≡ gather m ss
unfolding gather gather_from
still-gather m [] i = refl
still-gather m (s ∷ ss) i = rw (still-gather m ss (suc i))

-- in a memory that is held still, the first n bytes and the others are all of the string
pub gather-cut : (m : List ℕ) (ss : List Span) (n i j : ℕ) → gather_from (λ x. m) i (up_to n ss) ++ gather_from (λ x. m) j (past n ss) ≡ gather m ss
unfolding gather gather_from up_to past
gather-cut m [] n i j = refl
gather-cut m (s ∷ ss) n i j = go (leb n s.len) refl (eqb n s.len) refl (gather-cut m ss (n - s.len) (suc i) j)
  where
    go : (v : Bool) → leb n s.len ≡ v → (u : Bool) → eqb n s.len ≡ u
        → gather_from (λ x. m) (suc i) (up_to (n - s.len) ss) ++ gather_from (λ x. m) j (past (n - s.len) ss) ≡ gather m ss
        → gather_from (λ x. m) i (pick v (record { at = s.at; len = n } ∷ []) (s ∷ up_to (n - s.len) ss))
        ++ gather_from (λ x. m) j (pick v (pick u ss (record { at = s.at + n; len = s.len - n } ∷ ss)) (past (n - s.len) ss))
        ≡ part s.at s.len m ++ gather m ss
    go true v true u r =
        let e : n ≡ s.len = eqb-true n s.len u in
        rw (append-nil, e, still-gather m ss j)
    go true v false u r =
        let l = leb-true n s.len v in
        let e : n + (s.len - n) ≡ s.len = omega arith in
        let p : part s.at n m ++ part (s.at + n) (s.len - n) m ≡ part s.at s.len m = rw e at (part-add s.at n (s.len - n) m) in
        rw (append-nil, still-gather m ss (suc j), ← append_assoc, p)
    go false v u w r = rw (append_assoc, r)
