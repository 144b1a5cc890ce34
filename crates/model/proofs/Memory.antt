-- The laws of the memory map: what a located range is, what set-up's 0 tells, and how a loop over the words in threes goes.
use Prim.Native.Nat.{ℕ, zero, suc, ◌+◌, ◌-◌, ◌*◌, ◌^◌, ◌/◌, ◌%◌, ◌≤◌, ◌<◌}
use native.Mathlib.Omega.{arith}
use native.Mathlib.Numerals.{add-one, add-two, add-three, towards_suc}
use mathlib.Core.Bool.{Bool, true, false}
use mathlib.Core.Path.{◌≡◌, refl, sym, ap, ◌∙◌}
use mathlib.Core.List.{List, [], ◌∷◌, ◌++◌}
use lib.ListN.{length, get_or, take, drop, length-drop}
use lib.Dec.{leb, ltb, eqb}
use lib.Seq.{drop-cons}
use borrow.Author.Tests.{leb-true, ltb-false, eqb-true, eqb-false, le-leb, lt-leb}
use Rattle.model.specs.Pick.{pick, both}
use Rattle.model.specs.Memory.{Region, region, regions, region_code, overlap, clash, regions_code, memory_code, sound, contains, locate, regions_max}
use Rattle.std.specs.Prelude.{Some, None}
use Rattle.model.proofs.Tests.{told, passed, both_l, both_r, both-split}
use Rattle.model.proofs.Lists.{Disjoint, first, after}

-- the region whose words begin at place i
abbrev pub region_at : List ℕ → ℕ → Region
region_at ws i = region (get_or ws i 0) (get_or ws (i + 1) 0) (get_or ws (i + 2) 0)

-- a turn of a loop over the words
pub regions-turn : (ws : List ℕ) (i : ℕ) → i + 2 < length ws → regions (drop i ws) ≡ region_at ws i ∷ regions (drop (i + 3) ws)
unfolding regions
regions-turn ws i h =
    rw (drop-cons ws i 0 (omega arith), drop-cons ws (suc i) 0 (omega arith), drop-cons ws (suc (suc i)) 0 (omega arith), add-one, add-two, add-three)

-- .. and its end
pub regions-end : (ws : List ℕ) → length ws ≤ 2 → regions ws ≡ []
unfolding regions
regions-end [] h = refl
regions-end (a ∷ []) h = refl
regions-end (a ∷ b ∷ []) h = refl
regions-end (a ∷ b ∷ c ∷ ws) h = absurd (omega arith)

pub regions-seen : (ws : List ℕ) (i : ℕ) → i % 3 ≡ 0 → i + 2 < length ws → regions (take (i + 3) ws) ≡ regions (take i ws) ++ (region_at ws i ∷ [])
unfolding regions
regions-seen [] i e h = absurd (omega arith)
regions-seen (a ∷ []) i e h = absurd (omega arith)
regions-seen (a ∷ b ∷ []) i e h = absurd (omega arith)
regions-seen (a ∷ b ∷ c ∷ ws) zero e h = refl
regions-seen (a ∷ b ∷ c ∷ ws) (suc zero) e h = absurd (omega arith)
regions-seen (a ∷ b ∷ c ∷ ws) (suc (suc zero)) e h = absurd (omega arith)
regions-seen (a ∷ b ∷ c ∷ ws) (suc (suc (suc i))) e h =
    simp towards_suc
    (ap (λ (l : List Region). region a b c ∷ l) (simp towards_suc at (regions-seen ws i (omega arith) (omega arith))))

-- set-up's 0 of one region: it is no empty one, lies in the slice, and ends below 2^64
pub record Sound (m : ℕ) (r : Region) : Type 0 where
  pub some : 1 ≤ r.len
  pub inside : r.place + r.len ≤ m
  pub below : r.guest + r.len ≤ 2 ^ 64 - 1

pub region-sound : (m : ℕ) (r : Region) → region_code m r ≡ 0 → Sound m r
unfolding region_code
region-sound m r e =
    let p = passed (eqb r.len 0) 21 e (omega arith) in
    let q = passed (ltb m (r.place + r.len)) 22 p.1 (omega arith) in
    let t = passed (ltb (2 ^ 64 - 1) (r.guest + r.len)) 23 q.1 (omega arith) in
    let n : r.len ≡ 0 → ⊥ = eqb-false r.len 0 p.0 in
    record { some = omega arith; inside = ltb-false m (r.place + r.len) q.0; below = ltb-false (2 ^ 64 - 1) (r.guest + r.len) t.0 }

sound-head : (c : ℕ) (b : Bool) → pick (eqb c 0) b false ≡ true → (c ≡ 0) × (b ≡ true)
sound-head c b e = split (eqb c 0) refl e
  where
    split : (d : Bool) → eqb c 0 ≡ d → pick d b false ≡ true → (c ≡ 0) × (b ≡ true)
    split true t k = (eqb-true c 0 t, k)
    split false t k = let z : ◌≡◌ {A = ℕ} 0 1 = cc in absurd (omega arith)

-- a range that lies in one region, at this place of the slice
pub record Within (r : Region) (a n x : ℕ) : Type 0 where
  pub some : 1 ≤ n
  pub from : r.guest ≤ a
  pub to : a + n ≤ r.guest + r.len
  pub at_place : x ≡ r.place + (a - r.guest)

-- .. in one of these regions
pub data InOne : List Region → ℕ → ℕ → ℕ → Type 0 where
  here : {r : Region} {rest : List Region} {a n x : ℕ} → Within r a n x → InOne (r ∷ rest) a n x
  later : {r : Region} {rest : List Region} {a n x : ℕ} → InOne rest a n x → InOne (r ∷ rest) a n x

pub contains-within : (r : Region) (a n : ℕ) → contains r.guest r.len a n ≡ true → Within r a n (r.place + (a - r.guest))
unfolding contains
contains-within r a n t =
    let to = leb (a + n) (r.guest + r.len) in
    let u = both_r (leb 1 n) (both (leb r.guest a) to) t in
    record {
      some = leb-true 1 n (both_l (leb 1 n) (both (leb r.guest a) to) t);
      from = leb-true r.guest a (both_l (leb r.guest a) to u);
      to = leb-true (a + n) (r.guest + r.len) (both_r (leb r.guest a) to u);
      at_place = refl;
    }

-- a located range lies inside one region
pub locate-in : (rs : List Region) (a n x : ℕ) → locate rs a n ≡ Some x → InOne rs a n x
unfolding locate
locate-in [] a n x e = let z : ◌≡◌ {A = ℕ} 0 1 = cc in absurd (omega arith)
locate-in (r ∷ rest) a n x e = split (contains r.guest r.len a n) refl e (λ k. locate-in rest a n x k)
  where
    split : (b : Bool) → contains r.guest r.len a n ≡ b → pick b (Some (r.place + (a - r.guest))) (locate rest a n) ≡ Some x
        → (locate rest a n ≡ Some x → InOne rest a n x) → InOne (r ∷ rest) a n x
    split true t k f = let q : r.place + (a - r.guest) ≡ x = cc in here (rw q at (contains-within r a n t))
    split false t k f = later (f k)

-- .. and inside the slice
pub in-slice : (m : ℕ) (rs : List Region) (a n x : ℕ) → sound m rs ≡ true → InOne rs a n x → x + n ≤ m
unfolding sound
in-slice m [] a n x s w = elim w [ ]
in-slice m (r ∷ rest) a n x s (here w) = let k = region-sound m r (sound-head (region_code m r) (sound m rest) s).0 in omega arith
in-slice m (r ∷ rest) a n x s (later w) = in-slice m rest a n x (sound-head (region_code m r) (sound m rest) s).1 w

pub locate-slice : (m : ℕ) (rs : List Region) (a n x : ℕ) → sound m rs ≡ true → locate rs a n ≡ Some x → x + n ≤ m
locate-slice m rs a n x s e = in-slice m rs a n x s (locate-in rs a n x e)

-- the other way round: a region contains each range that lies inside it ..
pub within-contains : (r : Region) (a n x : ℕ) → Within r a n x → contains r.guest r.len a n ≡ true
unfolding contains
within-contains r a n x w = rw (le-leb 1 n w.some, le-leb r.guest a w.from, le-leb (a + n) (r.guest + r.len) w.to)

-- .. so a range that is nowhere lies inside no region
pub locate-out : (rs : List Region) (a n x : ℕ) → locate rs a n ≡ None → InOne rs a n x → ⊥
unfolding locate
locate-out [] a n x e w = elim w [ ]
locate-out (r ∷ rest) a n x e (here w) =
    let k : Some (r.place + (a - r.guest)) ≡ None = rw (within-contains r a n x w) at e in
    let z : ◌≡◌ {A = ℕ} 0 1 = cc in absurd (omega arith)
locate-out (r ∷ rest) a n x e (later w) = split (contains r.guest r.len a n) e (λ k. locate-out rest a n x k w)
  where
    split : (b : Bool) → pick b (Some (r.place + (a - r.guest))) (locate rest a n) ≡ None → (locate rest a n ≡ None → ⊥) → ⊥
    split true k f = let z : ◌≡◌ {A = ℕ} 0 1 = cc in absurd (omega arith)
    split false k f = f k

-- set-up's 0 makes every region sound
pub code-sound : (m : ℕ) (seen rs : List Region) → regions_code m seen rs ≡ 0 → sound m rs ≡ true
unfolding regions_code sound
code-sound m seen [] e = refl
code-sound m seen (r ∷ rest) e = split (eqb (region_code m r) 0) refl (clash seen r.guest r.len) e (λ k. code-sound m (seen ++ (r ∷ [])) rest k)
  where
    split : (b : Bool) → eqb (region_code m r) 0 ≡ b → (d : Bool) → pick b (pick d 24 (regions_code m (seen ++ (r ∷ [])) rest)) (region_code m r) ≡ 0
        → (regions_code m (seen ++ (r ∷ [])) rest ≡ 0 → sound m rest ≡ true) → pick b (sound m rest) false ≡ true
    split true t true k f = absurd (omega arith)
    split true t false k f = f k
    split false t d k f = absurd (eqb-false (region_code m r) 0 t k)

-- .. and tells how many words there are: three for each region, and no more regions than there may be
pub record Mapped (m : ℕ) (words : List ℕ) : Type 0 where
  pub threes : length words % 3 ≡ 0
  pub some : 1 ≤ length words / 3
  pub few : length words / 3 ≤ regions_max
  pub each-sound : sound m (regions words) ≡ true

pub mapped : (m : ℕ) (words : List ℕ) → memory_code m words ≡ 0 → Mapped m words
unfolding memory_code
mapped m words e = split (both (eqb (length words % 3) 0) (both (leb 1 (length words / 3)) (leb (length words / 3) regions_max))) refl e
  where
    split : (b : Bool) → both (eqb (length words % 3) 0) (both (leb 1 (length words / 3)) (leb (length words / 3) regions_max)) ≡ b
        → pick b (regions_code m [] (regions words)) 20 ≡ 0 → Mapped m words
    split true t k =
        let a = both-split (eqb (length words % 3) 0) (both (leb 1 (length words / 3)) (leb (length words / 3) regions_max)) t in
        let b = both-split (leb 1 (length words / 3)) (leb (length words / 3) regions_max) a.1 in
        record { threes = omega told; some = omega told; few = omega told; each-sound = code-sound m [] (regions words) k }
    split false t k = absurd (omega arith)

-- what `overlap` means: no address in common ..
pub overlap-false : (g l h k : ℕ) → overlap g l h k ≡ false → Disjoint g l h k
unfolding overlap
overlap-false g l h k e = split (ltb g h) refl e
  where
    split : (b : Bool) → ltb g h ≡ b → pick b (ltb h (g + l)) (ltb g (h + k)) ≡ false → Disjoint g l h k
    split true t e = first (ltb-false h (g + l) e)
    split false t e = after (ltb-false g (h + k) e)

-- .. or one, if neither is empty
pub record Common (g l h k : ℕ) : Type 0 where
  pub address : ℕ
  pub in-first : (g ≤ address) × (address < g + l)
  pub in-second : (h ≤ address) × (address < h + k)

pub overlap-true : (g l h k : ℕ) → 1 ≤ l → 1 ≤ k → overlap g l h k ≡ true → Common g l h k
unfolding overlap
overlap-true g l h k p q e = split (ltb g h) refl e
  where
    split : (b : Bool) → ltb g h ≡ b → pick b (ltb h (g + l)) (ltb g (h + k)) ≡ true → Common g l h k
    split true t e = record { address = h; in-first = omega told; in-second = omega told }
    split false t e = record { address = g; in-first = omega told; in-second = omega told }

-- A loop over the regions: the invariant says that the rest has the whole's answer.
pub regions-from : (ws : List ℕ) (i : ℕ) → i < length ws / 3 → regions (drop (3 * i) ws) ≡ region_at ws (3 * i) ∷ regions (drop (3 * (i + 1)) ws)
regions-from ws i h = let e : 3 * (i + 1) ≡ 3 * i + 3 = omega arith in rw e (regions-turn ws (3 * i) (omega arith))

pub regions-past : (ws : List ℕ) (i : ℕ) → length ws / 3 ≤ i → regions (drop (3 * i) ws) ≡ []
regions-past ws i h = regions-end (drop (3 * i) ws) (simp length-drop (omega arith))

-- A region that fits ends the search ..
pub locate-hit : (ws : List ℕ) (i a n : ℕ) → i < length ws / 3 → contains (get_or ws (3 * i) 0) (get_or ws (3 * i + 1) 0) a n ≡ true
    → locate (regions (drop (3 * i) ws)) a n ≡ Some (get_or ws (3 * i + 2) 0 + (a - get_or ws (3 * i) 0))
unfolding locate
locate-hit ws i a n h t = rw (regions-from ws i h, t)

-- .. one that does not is passed over ..
pub locate-miss : (ws : List ℕ) (i a n : ℕ) → i < length ws / 3 → contains (get_or ws (3 * i) 0) (get_or ws (3 * i + 1) 0) a n ≡ false
    → locate (regions (drop (3 * i) ws)) a n ≡ locate (regions (drop (3 * (i + 1)) ws)) a n
unfolding locate
locate-miss ws i a n h t = rw (regions-from ws i h, t)

-- .. and there is none after the last
pub locate-none : (ws : List ℕ) (i a n : ℕ) → length ws / 3 ≤ i → locate (regions (drop (3 * i) ws)) a n ≡ None
unfolding locate
locate-none ws i a n h = rw (regions-past ws i h)

-- no bytes are nowhere
pub locate-empty : (rs : List Region) (a n : ℕ) → n < 1 → locate rs a n ≡ None
unfolding locate contains
locate-empty [] a n h = refl
locate-empty (r ∷ rest) a n h = rw (lt-leb 1 n h) (locate-empty rest a n h)

pub sound-from : (m : ℕ) (ws : List ℕ) (i : ℕ) → i < length ws / 3
    → sound m (regions (drop (3 * i) ws)) ≡ pick (eqb (region_code m (region_at ws (3 * i))) 0) (sound m (regions (drop (3 * (i + 1)) ws))) false
unfolding sound
sound-from m ws i h = rw (regions-from ws i h)

pub sound-turn : (m : ℕ) (ws : List ℕ) (i : ℕ) → i < length ws / 3 → sound m (regions (drop (3 * i) ws)) ≡ true
    → (region_code m (region_at ws (3 * i)) ≡ 0) × (sound m (regions (drop (3 * (i + 1)) ws)) ≡ true)
sound-turn m ws i h s = sound-head (region_code m (region_at ws (3 * i))) (sound m (regions (drop (3 * (i + 1)) ws))) (sym (sound-from m ws i h) ∙ s)

pub sound_none : (m : ℕ) (ws : List ℕ) (i : ℕ) → length ws / 3 ≤ i → sound m (regions (drop (3 * i) ws)) ≡ true
unfolding sound
sound_none m ws i h = rw (regions-past ws i h)

-- Set-up's loops go by words.
pub clash-turn : (ws : List ℕ) (i g l : ℕ) → i + 2 < length ws
    → clash (regions (drop i ws)) g l ≡ pick (overlap g l (get_or ws i 0) (get_or ws (i + 1) 0)) true (clash (regions (drop (i + 3) ws)) g l)
unfolding clash
clash-turn ws i g l h = rw (regions-turn ws i h)

pub clash-none : (ws : List ℕ) (i g l : ℕ) → length ws ≤ i + 2 → clash (regions (drop i ws)) g l ≡ false
unfolding clash
clash-none ws i g l h = rw (regions-end (drop i ws) (simp length-drop (omega arith)))

-- the regions before place i are seen, the others to come
abbrev pub code_from : ℕ → List ℕ → ℕ → ℕ
code_from m ws i = regions_code m (regions (take i ws)) (regions (drop i ws))

pub code-turn : (m : ℕ) (ws : List ℕ) (i : ℕ) → i % 3 ≡ 0 → i + 2 < length ws
    → code_from m ws i ≡ pick (eqb (region_code m (region_at ws i)) 0) (pick (clash (regions (take i ws)) (get_or ws i 0) (get_or ws (i + 1) 0)) 24 (code_from m ws (i + 3))) (region_code m (region_at ws i))
unfolding regions_code
code-turn m ws i e h = rw (regions-turn ws i h, regions-seen ws i e h)

pub code-none : (m : ℕ) (ws : List ℕ) (i : ℕ) → length ws ≤ i + 2 → code_from m ws i ≡ 0
unfolding regions_code
code-none m ws i h = rw (regions-end (drop i ws) (simp length-drop (omega arith)))
