-- Where laying refuses nothing, all that the record LayFit says holds of the request, its spots and its numbers.
use Prim.Native.Nat.{ℕ, zero, suc, ◌+◌, ◌-◌, ◌*◌, ◌/◌, ◌%◌, ◌≤◌, ◌<◌}
use Rattle.model.specs.Ring.{plus_one}
use mathlib.Core.Bool.{Bool, true, false}
use mathlib.Core.List.{List, [], ◌∷◌}
use mathlib.Core.Path.{◌≡◌, refl, sym, ◌∙◌, ap}
use native.Mathlib.Omega.{arith}
use lib.Dec.{leb, eqb}
use lib.ListN.{get_or, length, take, length-take}
use lib.Seq.{get_or-take}
use borrow.Author.Tests.{leb-true, eqb-true, eqb-false, le-leb}
use Rattle.model.specs.Pick.{pick}
use Rattle.model.specs.Bytes.{put}
use Rattle.model.specs.Memory.{Region, sound, locate}
use Rattle.model.specs.Step.{spans}
use Rattle.model.specs.declared.Span.{Span}
use Rattle.model.specs.Sane.{all_inside, inside}
use Rattle.std.specs.Prelude.{Option, Some, None}
use Rattle.model.specs.declared.Queue.{Queue}
use Rattle.model.proofs.Tests.{both-split, picked, on}
use Rattle.model.proofs.Memory.{locate-slice}
use Rattle.model.proofs.Ring.{size-range}
use native.Mathlib.Nat.{zero-add}
use Rattle.model.proofs.Lists.{length-put, put_in, put-below}
use Rattle.requests.specs.Serve.{total}
use Rattle.driver.specs.Lay.{spot_of, spot_at, is_at, place_of, in_memory, settled, spots_of, area_words, formed, measured, form_ok, separate, free, ready, counts_ok, plan_on, plan, Plan, PlanIs}
use Rattle.std.specs.Prelude.{Result, Ok, Err}
use Rattle.driver.specs.declared.NotLaid.{NotLaid}
use Rattle.driver.specs.declared.NotLaid.TheVariants.{TooFew}
use Rattle.driver.specs.Fit.{Spot, Areas, LayFit, Numbers, WriteFit}
use Rattle.driver.proofs.Laws.{ReadyOk, ready-ok, CountsOk, counts-ok}
use Rattle.driver.proofs.Formed.{formed-ok}
use Rattle.driver.proofs.Free.{free-below, rising-at}

-- spots that are settled: what lies before them stays, and the length
pub settled-long : (rs : List Region) (bufs : List ℕ) (n i : ℕ) (spots : List ℕ) → length (settled rs bufs n i spots) ≡ length spots
unfolding settled
settled-long rs bufs zero i spots = refl
settled-long rs bufs (suc n) i spots = go (is_at (spot_at rs bufs i)) (settled-long rs bufs n (suc i) (put spots (2 * i) (place_of (spot_at rs bufs i) ∷ get_or bufs (2 * i + 1) 0 ∷ [])))
  where
    go : (b : Bool) → length (settled rs bufs n (suc i) (put spots (2 * i) (place_of (spot_at rs bufs i) ∷ get_or bufs (2 * i + 1) 0 ∷ []))) ≡ length (put spots (2 * i) (place_of (spot_at rs bufs i) ∷ get_or bufs (2 * i + 1) 0 ∷ []))
        → length (pick b (settled rs bufs n (suc i) (put spots (2 * i) (place_of (spot_at rs bufs i) ∷ get_or bufs (2 * i + 1) 0 ∷ []))) spots) ≡ length spots
    go true e = e ∙ length-put spots (2 * i) (place_of (spot_at rs bufs i) ∷ get_or bufs (2 * i + 1) 0 ∷ [])
    go false e = refl

settled-below : (rs : List Region) (bufs : List ℕ) (n i : ℕ) (spots : List ℕ) (k : ℕ) → k < 2 * i → get_or (settled rs bufs n i spots) k 0 ≡ get_or spots k 0
unfolding settled
settled-below rs bufs zero i spots k h = refl
settled-below rs bufs (suc n) i spots k h =
    let ys : List ℕ = place_of (spot_at rs bufs i) ∷ get_or bufs (2 * i + 1) 0 ∷ [] in
    let e : get_or (settled rs bufs n (suc i) (put spots (2 * i) ys)) k 0 ≡ get_or spots k 0 =
    settled-below rs bufs n (suc i) (put spots (2 * i) ys) k (omega arith) ∙ put-below spots (2 * i) ys k h in
    on (λ (xs : List ℕ). get_or xs k 0 ≡ get_or spots k 0) (is_at (spot_at rs bufs i)) (λ t. e) (λ t. refl)

pub spots-long : (q : Queue) (rs : List Region) (bufs : List ℕ) (e : ℕ) (spots : List ℕ) → length (spots_of q rs bufs e spots) ≡ length spots
unfolding spots_of
spots-long q rs bufs e spots = length-put (settled rs bufs e 0 spots) (2 * e) (area_words q) ∙ settled-long rs bufs e 0 spots

-- a byte is in some buffer
some-buffer : (n k : ℕ) (spots : List ℕ) → 1 ≤ total (spans n k spots) → (e : ℕ) → n ≤ e → 1 ≤ e
unfolding total spans
some-buffer zero k spots h e l = absurd (omega arith)
some-buffer (suc n) k spots h e l = omega arith

-- buffers that are in memory lie inside the slice
reads-inside : (rs : List Region) (m : ℕ) (bufs spots : List ℕ) (n k : ℕ) → sound m rs ≡ true → ((i : ℕ) → i < k + n → Spot rs bufs spots i) → all_inside m (spans n k spots) ≡ true
unfolding all_inside spans inside
reads-inside rs m bufs spots zero k s each = refl
reads-inside rs m bufs spots (suc n) k s each =
    let x = each k (omega arith) in
    let l = locate-slice m rs (get_or bufs (2 * k) 0) (get_or bufs (2 * k + 1) 0) (get_or spots (2 * k) 0) s x.located in
    rw (le-leb (get_or spots (2 * k) 0 + get_or spots (2 * k + 1) 0) m (omega (arith, x.len_is)))
    (reads-inside rs m bufs spots n (suc k) s (λ i u. each i (omega arith)))

-- each buffer's spot
at_place : (f : Option ℕ) → is_at f ≡ true → f ≡ Some (place_of f)
unfolding is_at place_of
at_place (Some x) e = refl
at_place None e = let z : ◌≡◌ {A = Bool} true false = cc in absurd (let w : ◌≡◌ {A = ℕ} 0 1 = cc in omega arith)

pub record Settled (rs : List Region) (bufs after : List ℕ) (j : ℕ) : Type 0 where
  pub spot_is : spot_at rs bufs j ≡ Some (get_or after (2 * j) 0)
  pub len_is : get_or after (2 * j + 1) 0 ≡ get_or bufs (2 * j + 1) 0

-- .. in the memory of the turn that settled it
settled_here : (rs : List Region) (bufs : List ℕ) (n i : ℕ) (spots : List ℕ) → is_at (spot_at rs bufs i) ≡ true → 2 * i + 2 ≤ length spots
    → Settled rs bufs (settled rs bufs n (suc i) (put spots (2 * i) (place_of (spot_at rs bufs i) ∷ get_or bufs (2 * i + 1) 0 ∷ []))) i
settled_here rs bufs n i spots t l =
    let ys : List ℕ = place_of (spot_at rs bufs i) ∷ get_or bufs (2 * i + 1) 0 ∷ [] in
    let w : (k : ℕ) → k < 2 → get_or (settled rs bufs n (suc i) (put spots (2 * i) ys)) (2 * i + k) 0 ≡ get_or ys k 0 =
    λ k v. settled-below rs bufs n (suc i) (put spots (2 * i) ys) (2 * i + k) (omega arith) ∙ put_in spots (2 * i) ys k v (omega arith) in
    let z : 2 * i + 0 ≡ 2 * i = omega arith in
    record { spot_is = at_place (spot_at rs bufs i) t ∙ ap (λ (x : ℕ). Some x) (sym (rw z at (w 0 (omega arith)))); len_is = w 1 (omega arith) }

settled_at : (rs : List Region) (bufs : List ℕ) (n i : ℕ) (spots : List ℕ) (j : ℕ) → in_memory rs bufs n i ≡ true → 2 * (i + n) ≤ length spots → i ≤ j → j < i + n
    → Settled rs bufs (settled rs bufs n i spots) j
unfolding in_memory settled
settled_at rs bufs zero i spots j t l h u = absurd (omega arith)
settled_at rs bufs (suc n) i spots j t l h u =
    let p = picked (is_at (spot_at rs bufs i)) (in_memory rs bufs n (suc i)) t in
    let ys : List ℕ = place_of (spot_at rs bufs i) ∷ get_or bufs (2 * i + 1) 0 ∷ [] in
    let k : length (put spots (2 * i) ys) ≡ length spots = length-put spots (2 * i) ys in
    rw p.0
    (go (eqb i j) refl (settled_here rs bufs n i spots p.0 (omega arith))
    (λ v. settled_at rs bufs n (suc i) (put spots (2 * i) ys) j p.1 (omega arith) v (omega arith)))
  where
    go : {after : List ℕ} (d : Bool) → eqb i j ≡ d → Settled rs bufs after i → (suc i ≤ j → Settled rs bufs after j) → Settled rs bufs after j
    go true v here there = let z : i ≡ j = eqb-true i j v in rw (← z) here
    go false v here there = let z : i ≡ j → ⊥ = eqb-false i j v in there (omega arith)

spot-located : (rs : List Region) (a l x : ℕ) → spot_of rs a l ≡ Some x → (locate rs a l ≡ Some x) × (l ≤ 4294967295)
unfolding spot_of
spot-located rs a l x = on (λ (f : Option ℕ). f ≡ Some x → (locate rs a l ≡ Some x) × (l ≤ 4294967295)) (leb l 4294967295) (λ t e. (e, leb-true l 4294967295 t))
    (λ t e. let z : ◌≡◌ {A = ℕ} 0 1 = cc in absurd (omega arith))

-- the buffers' spots and the areas'
spot-fits : (q : Queue) (rs : List Region) (bufs : List ℕ) (e : ℕ) (spots : List ℕ) (i : ℕ) → in_memory rs bufs e 0 ≡ true → 2 * e + 6 ≤ length spots → i < e
    → Spot rs bufs (spots_of q rs bufs e spots) i
unfolding spots_of
spot-fits q rs bufs e spots i t l h =
    let s = settled_at rs bufs e 0 spots i t (omega arith) (omega arith) (omega arith) in
    let f = spot-located rs (get_or bufs (2 * i) 0) (get_or bufs (2 * i + 1) 0) (get_or (settled rs bufs e 0 spots) (2 * i) 0) s.spot_is in
    record {
      located = rw (put-below (settled rs bufs e 0 spots) (2 * e) (area_words q) (2 * i) (omega arith)) f.0;
      len_is = put-below (settled rs bufs e 0 spots) (2 * e) (area_words q) (2 * i + 1) (omega arith) ∙ s.len_is;
      short = f.1;
    }

areas-fit : (q : Queue) (rs : List Region) (bufs : List ℕ) (e : ℕ) (spots : List ℕ) → 2 * e + 6 ≤ length spots → Areas q (spots_of q rs bufs e spots) e
unfolding spots_of area_words
areas-fit q rs bufs e spots l =
    let k : length (settled rs bufs e 0 spots) ≡ length spots = settled-long rs bufs e 0 spots in
    let w : (j i : ℕ) → j < 6 → i ≡ 2 * e + j → get_or (put (settled rs bufs e 0 spots) (2 * e) (area_words q)) i 0 ≡ get_or (area_words q) j 0 =
    λ j i u z. ap (λ (x : ℕ). get_or (put (settled rs bufs e 0 spots) (2 * e) (area_words q)) x 0) z ∙ put_in (settled rs bufs e 0 spots) (2 * e) (area_words q) j u (omega arith) in
    record {
      desc-at = w 0 (2 * e) (omega arith) (omega arith);
      desc-len = w 1 (2 * e + 1) (omega arith) (omega arith);
      avail-at = w 2 (2 * (e + 1)) (omega arith) (omega arith);
      avail-len = w 3 (2 * (e + 1) + 1) (omega arith) (omega arith);
      used-at = w 4 (2 * (e + 2)) (omega arith) (omega arith);
      used-len = w 5 (2 * (e + 2) + 1) (omega arith) (omega arith);
    }

-- the last tests: the form, apart, enough descriptors
pub record Settling (q : ℕ) (own : List ℕ) (kind r reads e : ℕ) (spots nums after : List ℕ) : Type 0 where
  pub form-is : form_ok kind r spots reads e ≡ true
  pub apart-is : separate (spans (e + 3) 0 spots) ≡ true
  pub enough : e ≤ length (free q own)
  pub nums-are : after ≡ put nums 0 (take e (free q own))

plan-on-ok : (q : ℕ) (own : List ℕ) (kind r reads e : ℕ) (spots nums : List ℕ) → (plan_on q own kind r reads e spots nums).answer ≡ Ok tt
    → Settling q own kind r reads e spots nums (plan_on q own kind r reads e spots nums).nums × ((plan_on q own kind r reads e spots nums).spots ≡ spots)
unfolding plan_on
plan-on-ok q own kind r reads e spots nums =
    let P : Plan → Type 0 = λ p. p.answer ≡ Ok tt → Settling q own kind r reads e spots nums p.nums × (p.spots ≡ spots) in
    on P (form_ok kind r spots reads e)
    (λ f. on P (separate (spans (e + 3) 0 spots))
    (λ a z. (record { form-is = f; apart-is = a; enough = leb-true e (length (free q own)) (enough-picked (leb e (length (free q own))) z); nums-are = refl }, refl))
    (λ a z. absurd (cc)))
    (λ f z. absurd (cc))
  where
    enough-picked : (b : Bool) → ◌≡◌ {A = Result Unit NotLaid} (pick b (Ok tt) (Err TooFew)) (Ok tt) → b ≡ true
    enough-picked true z = refl
    enough-picked false z = absurd (cc)

measured-is : (ss : List Span) (n : ℕ) → measured ss ≡ n → n ≤ 2097152 → total ss ≡ n
unfolding measured
measured-is ss n e h = omega arith

fits-settled : (q : Queue) (rs : List Region) (m : ℕ) (own : List ℕ) (kind r : ℕ) (bufs : List ℕ) (reads : ℕ) (spots nums after : List ℕ) → ReadyOk q rs m (length own)
    → CountsOk q.size (length bufs) reads (length spots) (length nums) → in_memory rs bufs (length bufs / 2) 0 ≡ true
    → Settling q.size own kind r reads (length bufs / 2) (spots_of q rs bufs (length bufs / 2) spots) nums after
    → LayFit q rs m own kind r bufs reads (length bufs / 2) (spots_of q rs bufs (length bufs / 2) spots) after
unfolding form_ok
fits-settled q rs m own kind r bufs reads spots nums after k c t s =
    let e = length bufs / 2 in
    let ss = spots_of q rs bufs e spots in
    let w = spans (e - reads) reads ss in
    let f = both-split (eqb (measured (spans reads 0 ss)) r) (formed kind (measured (spans reads 0 ss)) (measured w)) s.form-is in
    let a : measured (spans reads 0 ss) ≡ r = eqb-true (measured (spans reads 0 ss)) r f.0 in
    let g : formed kind r (measured w) ≡ true = rw a at f.1 in
    let o = formed-ok kind r (measured w) g in
    let y : total w ≡ measured w = measured-is w (measured w) refl (omega (arith, o.short)) in
    let l : length ss ≡ length spots = long in
    let fr = free q.size own in
    let n : (i : ℕ) → i < e → get_or after i 0 ≡ get_or fr i 0 =
    λ i u. ap (λ (xs : List ℕ). get_or xs i 0) s.nums-are
    ∙ (rw zero-add at (put_in nums 0 (take e fr) i (rw (length-take e fr) (omega (arith, s.enough))) (omega (arith, c.nums-long))) ∙ get_or-take e fr i 0 u) in
    record {
      map-sound = k.map-sound;
      size_ok = k.size_ok;
      desc-in = k.desc-in;
      avail-in = k.avail-in;
      used-in = k.used-in;
      own-long = k.own-long;
      bufs-long = omega (arith, c.even);
      few = c.few;
      reads_in = c.reads_in;
      spots-long = omega (arith, c.spots-long, l);
      nums-long = rw s.nums-are (rw (length-put nums 0 (take e fr)) c.nums-long);
      each = λ i u. spot-fits q rs bufs e spots i t c.spots-long u;
      areas = areas-fit q rs bufs e spots c.spots-long;
      readable = measured-is (spans reads 0 ss) r a (omega (arith, o.message-short));
      form = rw y g;
      apart = s.apart-is;
      numbers = λ i u. rw (n i u) (free-below q.size own i (omega (arith, s.enough)) k.own-long).0;
      rising = λ i j u v. rw (n i (omega arith), n j v) (rising-at 0 (take q.size own) i j u (omega (arith, s.enough)));
      unused = λ i u. rw (n i u) (free-below q.size own i (omega (arith, s.enough)) k.own-long).1;
    }
  where
    long : length (spots_of q rs bufs (length bufs / 2) spots) ≡ length spots
    long = spots-long q rs bufs (length bufs / 2) spots

-- laying refuses nothing: the request fits
pub plan-fits : (q : Queue) (rs : List Region) (m : ℕ) (own : List ℕ) (kind r : ℕ) (bufs : List ℕ) (reads : ℕ) (spots nums : List ℕ)
    → (plan q rs m own kind r bufs reads spots nums).answer ≡ Ok tt
    → LayFit q rs m own kind r bufs reads (length bufs / 2) (plan q rs m own kind r bufs reads spots nums).spots (plan q rs m own kind r bufs reads spots nums).nums
unfolding plan
plan-fits q rs m own kind r bufs reads spots nums =
    let e = length bufs / 2 in
    let P : Plan → Type 0 = λ p. p.answer ≡ Ok tt → LayFit q rs m own kind r bufs reads e p.spots p.nums in
    on P (ready q rs m (length own))
    (λ a. on P (counts_ok q.size (length bufs) reads (length spots) (length nums))
    (λ b. on P (in_memory rs bufs e 0)
    (λ t z. let s = plan-on-ok q.size own kind r reads e (spots_of q rs bufs e spots) nums z in
    rw s.1
    (fits-settled q rs m own kind r bufs reads spots nums (plan_on q.size own kind r reads e (spots_of q rs bufs e spots) nums).nums (ready-ok q rs m (length own) a)
    (counts-ok q.size (length bufs) reads (length spots) (length nums) b) t s.0))
    (λ t z. absurd (cc)))
    (λ b z. absurd (cc)))
    (λ a z. absurd (cc))

-- what the writes stand on
pub fit-writes : (q : Queue) (rs : List Region) (m : ℕ) (own : List ℕ) (kind r : ℕ) (bufs : List ℕ) (reads e : ℕ) (spots nums : List ℕ)
    → LayFit q rs m own kind r bufs reads e spots nums → WriteFit q m e reads spots nums
unfolding Numbers
fit-writes q rs m own kind r bufs reads e spots nums f =
    let o = formed-ok kind r (total (spans (e - reads) reads spots)) f.form in
    record {
      some_size = (size-range q.size f.size_ok).0;
      desc-in = f.desc-in;
      avail-in = f.avail-in;
      some = some-buffer (e - reads) reads spots o.status-in e (omega arith);
      reads_in = f.reads_in;
      spots-long = omega (arith, f.spots-long);
      nums-long = f.nums-long;
      buffers-in = reads-inside rs m bufs spots reads 0 f.map-sound (λ i u. f.each i (omega (arith, f.reads_in)));
      numbers = f.numbers;
    }

pub fit-notes : (q : Queue) (rs : List Region) (m : ℕ) (own : List ℕ) (kind r : ℕ) (bufs : List ℕ) (reads e : ℕ) (spots nums : List ℕ)
    → LayFit q rs m own kind r bufs reads e spots nums → (16 ≤ r) × ((1 ≤ e) × ((e ≤ length nums) × Numbers (length own) e nums))
unfolding Numbers
fit-notes q rs m own kind r bufs reads e spots nums f =
    let o = formed-ok kind r (total (spans (e - reads) reads spots)) f.form in
    let w = fit-writes q rs m own kind r bufs reads e spots nums f in
    (o.header-in, (w.some, (f.nums-long, λ i u. omega (arith, f.numbers i u, f.own-long))))

-- a request that was laid fits, with the private memory as it is left
pub laid-fits : (q : Queue) (rs : List Region) (m : ℕ) (own : List ℕ) (kind r : ℕ) (bufs : List ℕ) (reads : ℕ) (spots nums spots₂ nums₂ : List ℕ)
    → PlanIs (plan q rs m own kind r bufs reads spots nums) (Ok tt) spots₂ nums₂ → LayFit q rs m own kind r bufs reads (length bufs / 2) spots₂ nums₂
laid-fits q rs m own kind r bufs reads spots nums spots₂ nums₂ p =
    rw (p.spots-are, p.nums-are) (plan-fits q rs m own kind r bufs reads spots nums (sym p.answer-is))

pub one-more-mod : (n : ℕ) → plus_one (n % 65536) ≡ plus_one n
unfolding plus_one
one-more-mod n = omega arith
