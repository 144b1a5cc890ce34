-- A step of a good state leaves a good state, whatever bytes it fetched.
use Prim.Native.Nat.{ℕ, zero, suc, ◌+◌, ◌-◌, ◌*◌, ◌%◌, ◌≤◌, ◌<◌}
use mathlib.Core.Bool.{Bool, true, false}
use mathlib.Core.List.{List, [], ◌∷◌}
use mathlib.Core.Path.{◌≡◌, refl, sym, ap, ◌∙◌}
use native.Mathlib.Omega.{arith}
use native.Mathlib.Nat.{add-zero}
use Rattle.std.specs.Prelude.{not}
use lib.Dec.{leb, ltb, eqb}
use lib.ListN.{get_or, length, length-take, length-drop, get_or-eq_default}
use borrow.Author.Tests.{ltb-true, ltb-false, leb-true, leb-false, eqb-true, eqb-false, eq-eqb, ne_eqb, lt-ltb}
use Rattle.model.specs.Pick.{both}
use Rattle.model.specs.Bytes.{put, part, word}
use Rattle.model.specs.Memory.{Region, locate}
use Rattle.model.specs.Ring.{polled, headed, pending}
use Rattle.model.specs.Chain.{desc_at, tested_by, tested, tally, held, complete, described, keeps}
use Rattle.model.specs.Request.{fits, in_ok, out_ok, exactly, verdict, decided}
use Rattle.model.specs.Step.{Cfg, left, lacks, ends, onward, gathered, paid, next, chained, fetched, want}
use Rattle.device.specs.Turn.{state_of}
use Rattle.model.specs.Sane.{job_ok, refused_at}
use Rattle.model.proofs.Tests.{on, both_l, both_r}
use Rattle.model.proofs.Lists.{put-below, put_in, get_d_part}
use Rattle.model.proofs.Memory.{locate-in}
use Rattle.model.proofs.Chain.{bad-reason, tally-same}
use Rattle.model.proofs.Words.{word_below}
use Rattle.guarantees.specs.Good.{before, Spot, WalkGood, Next, Good}
use Rattle.guarantees.proofs.Good.{before-le, before-next, spot-some, next-left}
use Rattle.std.specs.Prelude.{Option, Some, None}
use Rattle.model.specs.declared.Desc.{Desc}
use Rattle.model.specs.declared.Tested.{Tested}
use Rattle.model.specs.declared.Tested.TheVariants.{Bad, Next as Goes, Last}
use Rattle.model.specs.declared.Disk.{Disk}
use Rattle.model.specs.declared.Walk.{Walk}
use Rattle.model.specs.declared.Place.{Place}
use Rattle.model.specs.declared.Job.{Job}
use Rattle.model.specs.declared.Phase.{Phase}
use Rattle.model.specs.declared.Phase.TheVariants.{Poll, Entry, Chain, Header, Payload, Answer, Publish, Broken}

-- S1 and S2
keeps-poll : (rs : List Region) (q sectors : ℕ) (chain : List ℕ) (taken idx : ℕ) → 1 ≤ q → Good rs q sectors chain (polled q taken idx)
unfolding polled Good refused_at
keeps-poll rs q sectors chain taken idx h =
    on (Good rs q sectors chain) (eqb (pending idx taken) 0) (λ e. tt)
    (λ e. on (Good rs q sectors chain) (ltb q (pending idx taken)) (λ f. (omega arith, omega arith, omega arith, omega arith, refl)) (λ f. tt))

keeps_entry : (rs : List Region) (q sectors : ℕ) (chain : List ℕ) (head : ℕ) → 1 ≤ q → Good rs q sectors chain (headed q head)
unfolding headed Good before refused_at
keeps_entry rs q sectors chain head h =
    on (Good rs q sectors chain) (leb q head) (λ e. (omega arith, omega arith, omega arith, omega arith, refl))
    (λ e. let l : head < q = leb-false q head e in
    (record { head_in = l; count-in = omega arith; reads_in = omega arith; buffers = λ i h. absurd (omega arith); r-is = refl; w-is = refl }, l))

-- what a descriptor's tests tell, if it is held
record Kept (rs : List Region) (q : ℕ) (k : Walk) (d : Desc) (x : ℕ) : Type 0 where
  pub room : k.count < q
  pub placed : locate rs d.addr d.len ≡ Some x
  pub in_order : both (ltb d.flags 2) (ltb k.reads k.count) ≡ false

kept_next : (a s e : Bool) (f : Option ℕ) (l n g : Bool) (x : ℕ) → tested_by a s e f l n g ≡ Goes x → (a ≡ false) × (f ≡ Some x) × (l ≡ false) × (g ≡ false)
unfolding tested_by
kept_next true s e f l n g x h = let z : ◌≡◌ {A = ℕ} 0 1 = cc in absurd (omega arith)
kept_next false true e f l n g x h = let z : ◌≡◌ {A = ℕ} 0 1 = cc in absurd (omega arith)
kept_next false false true f l n g x h = let z : ◌≡◌ {A = ℕ} 0 1 = cc in absurd (omega arith)
kept_next false false false None l n g x h = let z : ◌≡◌ {A = ℕ} 0 1 = cc in absurd (omega arith)
kept_next false false false (Some y) true n g x h = let z : ◌≡◌ {A = ℕ} 0 1 = cc in absurd (omega arith)
kept_next false false false (Some y) false true g x h = let z : ◌≡◌ {A = ℕ} 0 1 = cc in absurd (omega arith)
kept_next false false false (Some y) false false true x h = let z : ◌≡◌ {A = ℕ} 0 1 = cc in absurd (omega arith)
kept_next false false false (Some y) false false false x h = (refl, cc, refl, refl)

kept-last : (a s e : Bool) (f : Option ℕ) (l n g : Bool) (x : ℕ) → tested_by a s e f l n g ≡ Last x → (a ≡ false) × (f ≡ Some x) × (l ≡ false)
unfolding tested_by
kept-last true s e f l n g x h = let z : ◌≡◌ {A = ℕ} 0 1 = cc in absurd (omega arith)
kept-last false true e f l n g x h = let z : ◌≡◌ {A = ℕ} 0 1 = cc in absurd (omega arith)
kept-last false false true f l n g x h = let z : ◌≡◌ {A = ℕ} 0 1 = cc in absurd (omega arith)
kept-last false false false None l n g x h = let z : ◌≡◌ {A = ℕ} 0 1 = cc in absurd (omega arith)
kept-last false false false (Some y) true n g x h = let z : ◌≡◌ {A = ℕ} 0 1 = cc in absurd (omega arith)
kept-last false false false (Some y) false true g x h = (refl, cc, refl)
kept-last false false false (Some y) false false true x h = let z : ◌≡◌ {A = ℕ} 0 1 = cc in absurd (omega arith)
kept-last false false false (Some y) false false false x h = let z : ◌≡◌ {A = ℕ} 0 1 = cc in absurd (omega arith)

-- the private chain with one buffer more
held-old : (chain : List ℕ) (n x l j : ℕ) → j < 2 * n → get_or (held chain n x l) j 0 ≡ get_or chain j 0
unfolding held
held-old chain n x l j h = put-below chain (2 * n) (x ∷ l ∷ []) j h

held_at : (chain : List ℕ) (n x l : ℕ) → 2 * n + 1 < length chain → get_or (held chain n x l) (2 * n) 0 ≡ x
unfolding held
held_at chain n x l h = rw (add-zero (2 * n)) at (put_in chain (2 * n) (x ∷ l ∷ []) 0 (omega arith) (omega arith))

held-len : (chain : List ℕ) (n x l : ℕ) → 2 * n + 1 < length chain → get_or (held chain n x l) (2 * n + 1) 0 ≡ l
unfolding held
held-len chain n x l h = put_in chain (2 * n) (x ∷ l ∷ []) 1 (omega arith) (omega arith)

before-held : (chain : List ℕ) (n x l i : ℕ) → i ≤ n → before (held chain n x l) i ≡ before chain i
unfolding before
before-held chain n x l zero h = refl
before-held chain n x l (suc i) h = rw (before-held chain n x l i (omega arith), held-old chain n x l (2 * i + 1) (omega arith))

-- the buffers that were held, and the new one
spots-held : (rs : List Region) (q : ℕ) (chain : List ℕ) (k : Walk) (d : Desc) (x : ℕ) → WalkGood rs q chain k → Kept rs q k d x → d.len ≤ 4294967295
    → 2 * q ≤ length chain → (i : ℕ) → i < k.count + 1
    → Spot rs (get_or (held chain k.count x d.len) (2 * i) 0) (get_or (held chain k.count x d.len) (2 * i + 1) 0)
spots-held rs q chain k d x g t s l i h = go (ltb i k.count) refl
  where
    go : (b : Bool) → ltb i k.count ≡ b → Spot rs (get_or (held chain k.count x d.len) (2 * i) 0) (get_or (held chain k.count x d.len) (2 * i + 1) 0)
    go true e =
        let u : i < k.count = ltb-true i k.count e in
        rw (held-old chain k.count x d.len (2 * i) (omega arith), held-old chain k.count x d.len (2 * i + 1) (omega arith)) (g.buffers i u)
    go false e =
        let u : i ≡ k.count = omega (arith, ltb-false i k.count e) in
        let r = t.room in
        rw (u, held_at chain k.count x d.len (omega arith), held-len chain k.count x d.len (omega arith))
        (record { address = d.addr; in_one = locate-in rs d.addr d.len x t.placed; short = s })

keeps-walk : (rs : List Region) (q : ℕ) (chain : List ℕ) (k : Walk) (d : Desc) (x : ℕ) → WalkGood rs q chain k → Kept rs q k d x → d.len ≤ 4294967295
    → 2 * q ≤ length chain → WalkGood rs q (held chain k.count x d.len) (tally k d.flags d.len)
unfolding tally
keeps-walk rs q chain k d x g t s l =
    let c = held chain k.count x d.len in
    let sp = spots-held rs q chain k d x g t s l in
    let room = t.room in
    let new = held-len chain k.count x d.len (omega arith) in
    let top = before-next c k.count in
    let old = before-held chain k.count x d.len k.count (omega arith) in
    on (WalkGood rs q c) (ltb d.flags 2)
    (λ e. let f : ltb k.reads k.count ≡ false = rw e at t.in_order in
    let u : k.reads ≡ k.count = omega (arith, ltb-false k.reads k.count f, g.reads_in) in
    record {
      head_in = g.head_in;
      count-in = omega arith;
      reads_in = omega (arith, g.reads_in);
      buffers = sp;
      r-is = rw u (omega (arith, top, old, new, g.r-is ∙ ap (before chain) u));
      w-is = omega (arith, top, old, new, g.w-is);
    })
    (λ e. record {
      head_in = g.head_in;
      count-in = omega arith;
      reads_in = omega (arith, g.reads_in);
      buffers = sp;
      r-is = g.r-is ∙ sym (before-held chain k.count x d.len k.reads g.reads_in);
      w-is = omega (arith, top, old, new, g.w-is);
    })

some_read : (rs : List Region) (q : ℕ) (chain : List ℕ) (k : Walk) → WalkGood rs q chain k → 16 ≤ k.r → 0 < k.reads
unfolding before
some_read rs q chain k g v = go k.reads refl
  where
    go : (n : ℕ) → k.reads ≡ n → 0 < k.reads
    go zero e = let z : k.r ≡ 0 = g.r-is ∙ ap (before chain) e in absurd (omega arith)
    go (suc n) e = omega arith

-- a refused chain has a descriptor
some-refused : (q count cur : ℕ) → 1 ≤ count → cur < q → refused_at q count cur ≡ true
unfolding refused_at
some-refused q count cur h l = rw (ne_eqb count 0 (λ z. omega arith)) (lt-ltb cur q l)

-- the chain is complete
keeps-complete : (rs : List Region) (q sectors : ℕ) (chain : List ℕ) (k : Walk) (cur : ℕ) → WalkGood rs q chain k → 1 ≤ k.count → cur < q
    → Good rs q sectors chain (complete k cur)
unfolding complete Good before job_ok
keeps-complete rs q sectors chain k cur g h l =
    on (Good rs q sectors chain) (leb k.count k.reads)
    (λ e. (omega arith, omega arith, g.head_in, omega (arith, g.count-in), some-refused q k.count cur h l))
    (λ e. let u : k.reads < k.count = leb-false k.count k.reads e in
    on (Good rs q sectors chain) (ltb k.r 16) (λ f. (g, u, omega arith, refl))
    (λ f. let v : 16 ≤ k.r = ltb-false k.r 16 f in
    let n : 0 < k.reads = some_read rs q chain k g v in (
      g,
      u,
      omega arith,
      v,
      record { buf-in = n; skip-in = spot-some rs (get_or chain 0 0) (get_or chain 1 0) (g.buffers 0 (omega arith)); n-is = refl },
    )))

keeps-bad : (rs : List Region) (q sectors : ℕ) (chain : List ℕ) (k : Walk) (cur : ℕ) (d : Desc) (r : ℕ) → WalkGood rs q chain k → cur < q → (1 ≤ r) × (r ≤ 7)
    → Good rs q sectors (keeps chain k d (Bad r)) (described k cur d (Bad r))
unfolding keeps described Good
keeps-bad rs q sectors chain k cur d r g l h =
    (h.0, omega (arith, h.1), g.head_in, omega (arith, g.count-in), some-refused q (k.count + 1) cur (omega arith) l)

keeps-goes : (rs : List Region) (q sectors : ℕ) (chain : List ℕ) (k : Walk) (cur : ℕ) (d : Desc) (x : ℕ) → WalkGood rs q chain k → Kept rs q k d x → d.len ≤ 4294967295
    → 2 * q ≤ length chain → d.next < q → Good rs q sectors (keeps chain k d (Goes x)) (described k cur d (Goes x))
unfolding keeps described Good
keeps-goes rs q sectors chain k cur d x g t s l n = (keeps-walk rs q chain k d x g t s l, n)

keeps-last : (rs : List Region) (q sectors : ℕ) (chain : List ℕ) (k : Walk) (cur : ℕ) (d : Desc) (x : ℕ) → WalkGood rs q chain k → Kept rs q k d x → d.len ≤ 4294967295
    → 2 * q ≤ length chain → cur < q → Good rs q sectors (keeps chain k d (Last x)) (described k cur d (Last x))
unfolding keeps described
keeps-last rs q sectors chain k cur d x g t s l n =
    keeps-complete rs q sectors (held chain k.count x d.len) (tally k d.flags d.len) cur (keeps-walk rs q chain k d x g t s l)
    (omega (arith, (tally-same k d.flags d.len).1)) n

-- S3
keeps-chain : (rs : List Region) (q sectors : ℕ) (chain : List ℕ) (k : Walk) (cur : ℕ) (d : Desc) → WalkGood rs q chain k → cur < q → d.len ≤ 4294967295 → 2 * q ≤ length chain
    → Good rs q sectors (keeps chain k d (tested rs q k d)) (described k cur d (tested rs q k d))
unfolding tested
keeps-chain rs q sectors chain k cur d g n s l =
    go (tested_by (leb q k.count) (ltb 3 d.flags) (eqb d.len 0) (locate rs d.addr d.len)
    (both (ltb d.flags 2) (ltb k.reads k.count)) (eqb (d.flags % 2) 0) (leb q d.next)) refl
  where
    go : (t : Tested)
        → tested_by (leb q k.count) (ltb 3 d.flags) (eqb d.len 0) (locate rs d.addr d.len)
        (both (ltb d.flags 2) (ltb k.reads k.count)) (eqb (d.flags % 2) 0) (leb q d.next) ≡ t
        → Good rs q sectors (keeps chain k d t) (described k cur d t)
    go (Bad r) e = keeps-bad rs q sectors chain k cur d r g n (bad-reason _ _ _ _ _ _ _ r e)
    go (Goes x) e =
        let f = kept_next (leb q k.count) (ltb 3 d.flags) (eqb d.len 0) (locate rs d.addr d.len)
        (both (ltb d.flags 2) (ltb k.reads k.count)) (eqb (d.flags % 2) 0) (leb q d.next) x e in
        keeps-goes rs q sectors chain k cur d x g (record { room = leb-false q k.count f.0; placed = f.1; in_order = f.2 }) s l (leb-false q d.next f.3)
    go (Last x) e =
        let f = kept-last (leb q k.count) (ltb 3 d.flags) (eqb d.len 0) (locate rs d.addr d.len)
        (both (ltb d.flags 2) (ltb k.reads k.count)) (eqb (d.flags % 2) 0) (leb q d.next) x e in
        keeps-last rs q sectors chain k cur d x g (record { room = leb-false q k.count f.0; placed = f.1; in_order = f.2 }) s l n

-- n bytes more of the buffer, and the readable string goes on
next-onward : (rs : List Region) (q : ℕ) (chain : List ℕ) (k : Walk) (p : Place) (a n : ℕ) → WalkGood rs q chain k → Next chain k p a → n ≤ (left chain p).len
    → a + n < k.r → Next chain k (onward p (left chain p).len n) (a + n)
unfolding onward
next-onward rs q chain k p a n g x h l =
    let len = before-next chain p.buf in
    on (λ (z : Place). Next chain k z (a + n)) (eqb n (left chain p).len)
    (λ e. let u : n ≡ (left chain p).len = eqb-true n (left chain p).len e in
    let v : before chain (p.buf + 1) ≡ a + n = omega (arith, len, u, x.n-is, x.skip-in) in
    let w : p.buf + 1 < k.reads = more-reads (leb k.reads (p.buf + 1)) refl v in
    record { buf-in = w; skip-in = spot-some rs (get_or chain (2 * (p.buf + 1)) 0) (get_or chain (2 * (p.buf + 1) + 1) 0) (g.buffers (p.buf + 1) (omega (arith, w, g.reads_in))); n-is = rw (add-zero (before chain (p.buf + 1))) v })
    (λ e. let u : n ≡ (left chain p).len → ⊥ = eqb-false n (left chain p).len e in
    record { buf-in = x.buf-in; skip-in = omega (arith, x.skip-in); n-is = omega (arith, x.n-is) })
  where
    more-reads : (b : Bool) → leb k.reads (p.buf + 1) ≡ b → before chain (p.buf + 1) ≡ a + n → p.buf + 1 < k.reads
    more-reads true t v = absurd (omega (arith, before-le chain k.reads (p.buf + 1) (leb-true k.reads (p.buf + 1) t), v, g.r-is))
    more-reads false t v = leb-false k.reads (p.buf + 1) t

-- S4, decided
keeps-decided : (rs : List Region) (q : ℕ) (d : Disk) (chain : List ℕ) (k : Walk) (p : Place) (type sector : ℕ) → WalkGood rs q chain k → k.reads < k.count → 16 ≤ k.r
    → (16 < k.r → Next chain k p 16) → Good rs q d.sectors chain (decided k p (verdict d type sector k.r k.w))
unfolding verdict decided Good job_ok in_ok out_ok exactly
keeps-decided rs q d chain k p type sector g u v x =
    let P : Job → Type 0 = λ j. Good rs q d.sectors chain (decided k p j) in
    on P (ltb k.r 16) (λ e. (g, u, v, refl))
    (λ e. on P (eqb type 0)
    (λ e. on P (both (eqb k.r 16) (fits (k.w - 1) sector d.sectors)) (λ f. (g, u, v, both_r (eqb k.r 16) (fits (k.w - 1) sector d.sectors) f)) (λ f. (g, u, v, refl)))
    (λ e. on P (eqb type 1)
    (λ e. on P (both (eqb k.w 1) (both (fits (k.r - 16) sector d.sectors) (eqb d.ro 0)))
    (λ f. let a = both_r (eqb k.w 1) (both (fits (k.r - 16) sector d.sectors) (eqb d.ro 0)) f in
    let b = both_l (fits (k.r - 16) sector d.sectors) (eqb d.ro 0) a in
    on (Good rs q d.sectors chain) (ltb 16 k.r) (λ e. let l : 16 < k.r = ltb-true 16 k.r e in (g, u, l, omega arith, b, x l)) (λ e. (g, u, v, refl)))
    (λ f. (g, u, v, refl)))
    (λ e. on P (eqb type 4) (λ e. on P (both (eqb k.r 16) (eqb k.w 1)) (λ f. (g, u, v, refl)) (λ f. (g, u, v, refl)))
    (λ e. on P (eqb type 8)
    (λ e. on P (both (eqb k.r 16) (eqb k.w 21)) (λ f. (g, u, v, both_r (eqb k.r 16) (eqb k.w 21) f)) (λ f. (g, u, v, refl)))
    (λ e. (g, u, v, refl))))))

keeps-header : (rs : List Region) (q : ℕ) (d : Disk) (chain : List ℕ) (k : Walk) (p : Place) (got type sector : ℕ) → WalkGood rs q chain k → k.reads < k.count → got < 16
    → 16 ≤ k.r → Next chain k p got → Good rs q d.sectors chain (gathered d k p got (left chain p).len (lacks got (left chain p).len) type sector)
unfolding gathered Good
keeps-header rs q d chain k p got type sector g u h v x =
    let n = lacks got (left chain p).len in
    on (Good rs q d.sectors chain) (ltb (got + n) 16)
    (λ e. let l : got + n < 16 = ltb-true (got + n) 16 e in (g, u, l, v, next-onward rs q chain k p got n g x (omega arith) (omega arith)))
    (λ e. let l : got + n ≡ 16 = omega (arith, ltb-false (got + n) 16 e) in
    keeps-decided rs q d chain k (onward p (left chain p).len n) type sector g u v
    (λ w. rw l at (next-onward rs q chain k p got n g x (omega arith) (omega (arith, l, w)))))

-- a whole buffer's rest leads to the next buffer
next-whole : (chain : List ℕ) (k : Walk) (p : Place) (a b : ℕ) → a + (left chain p).len ≡ b → Next chain k (onward p (left chain p).len (left chain p).len) (a + (left chain p).len)
    → Next chain k (record { buf = p.buf + 1; skip = 0 }) b
unfolding onward
next-whole chain k p a b e y = rw e at (rw (eq-eqb (left chain p).len (left chain p).len refl) at y)

-- S5
keeps-payload : (rs : List Region) (q sectors : ℕ) (chain : List ℕ) (k : Walk) (p : Place) (s got : ℕ) → Good rs q sectors chain (Payload k p s got)
    → Good rs q sectors chain (paid k p s got (left chain p).len)
unfolding paid Good job_ok ends
keeps-payload rs q sectors chain k p s got g =
    on (Good rs q sectors chain) (eqb (got + (left chain p).len) (k.r - 16)) (λ e. (g.0, g.1, omega arith, refl))
    (λ e. let t = next-left rs q chain k p (16 + got) g.0 g.5 in
    let n : got + (left chain p).len ≡ k.r - 16 → ⊥ = eqb-false (got + (left chain p).len) (k.r - 16) e in
    let lt : got + (left chain p).len < k.r - 16 = omega (arith, g.2) in
    let y = next-onward rs q chain k p (16 + got) (left chain p).len g.0 g.5 (omega arith) (omega (arith, g.2)) in
    (g.0, g.1, g.2, lt, g.4, next-whole chain k p (16 + got) (16 + (got + (left chain p).len)) (omega arith) y))

short : (k n : ℕ) (m : List ℕ) (i : ℕ) → n ≤ i → length (part k n m) ≤ i
unfolding part
short k n m i h = simp (length-take, length-drop) (omega arith)

-- bytes of a part of bytes
part_bytes : (k n : ℕ) (m : List ℕ) → ((i : ℕ) → get_or m i 0 < 256) → (i : ℕ) → get_or (part k n m) i 0 < 256
part_bytes k n m f i = go (ltb i n) refl
  where
    go : (b : Bool) → ltb i n ≡ b → get_or (part k n m) i 0 < 256
    go true e = rw (get_d_part k n m i (ltb-true i n e)) (f (k + i))
    go false e = rw (get_or-eq_default (part k n m) 0 {n = i} (short k n m i (ltb-false i n e))) (omega arith)

chain-walk : (rs : List Region) (q sectors : ℕ) (chain : List ℕ) (k : Walk) (cur : ℕ) → Good rs q sectors chain (Chain k cur) → WalkGood rs q chain k × (cur < q)
unfolding Good
chain-walk rs q sectors chain k cur g = g

-- a length of four bytes
desc-short : (f : List ℕ) → ((i : ℕ) → get_or f i 0 < 256) → (desc_at 0 f).len ≤ 4294967295
unfolding desc_at
desc-short f b = omega (arith, word_below 4 8 f b)

keeps-header-all : (rs : List Region) (q : ℕ) (d : Disk) (chain : List ℕ) (k : Walk) (p : Place) (got type sector : ℕ) → Good rs q d.sectors chain (Header k p got)
    → Good rs q d.sectors chain (gathered d k p got (left chain p).len (lacks got (left chain p).len) type sector)
unfolding Good
keeps-header-all rs q d chain k p got type sector g = keeps-header rs q d chain k p got type sector g.0 g.1 g.2 g.3 g.4

keeps-answer : (rs : List Region) (q sectors : ℕ) (chain : List ℕ) (k : Walk) (job : Job) (got : ℕ) → Good rs q sectors chain (Answer k job got)
    → Good rs q sectors chain (Publish k got)
unfolding Good
keeps-answer rs q sectors chain k job got g = (g.0, g.1, g.2)

pub keeps-publish : (rs : List Region) (q sectors : ℕ) (chain : List ℕ) → Good rs q sectors chain Poll
unfolding Good
keeps-publish rs q sectors chain = tt

-- one step of the model
pub keeps-next : (c : Cfg) (t a n : ℕ) (mem chain stage : List ℕ) (p : Phase) → ((i : ℕ) → get_or mem i 0 < 256) → 1 ≤ c.queue.size → 2 * c.queue.size ≤ length chain
    → Good c.map c.queue.size c.disk.sectors chain p
    → Good c.map c.queue.size c.disk.sectors (chained c chain p (fetched c (state_of t a n p) chain mem)) (next c t chain stage p (fetched c (state_of t a n p) chain mem))
unfolding next chained
keeps-next c t a n mem chain stage Poll b h l g = keeps-poll c.map c.queue.size c.disk.sectors chain t (word 2 0 (fetched c (state_of t a n Poll) chain mem)) h
keeps-next c t a n mem chain stage Entry b h l g = keeps_entry c.map c.queue.size c.disk.sectors chain (word 2 0 (fetched c (state_of t a n Entry) chain mem)) h
keeps-next c t a n mem chain stage (Chain k cur) b h l g =
    let f = fetched c (state_of t a n (Chain k cur)) chain mem in
    let w = want c t chain (Chain k cur) in
    keeps-chain c.map c.queue.size c.disk.sectors chain k cur (desc_at 0 f) (chain-walk c.map c.queue.size c.disk.sectors chain k cur g).0
    (chain-walk c.map c.queue.size c.disk.sectors chain k cur g).1
    (desc-short f (part_bytes w.at w.len mem b)) l
keeps-next c t a n mem chain stage (Header k p got) b h l g =
    let f = fetched c (state_of t a n (Header k p got)) chain mem in
    keeps-header-all c.map c.queue.size c.disk chain k p got (word 4 0 (put stage got f)) (word 8 8 (put stage got f)) g
keeps-next c t a n mem chain stage (Payload k p s got) b h l g = keeps-payload c.map c.queue.size c.disk.sectors chain k p s got g
keeps-next c t a n mem chain stage (Answer k job got) b h l g = keeps-answer c.map c.queue.size c.disk.sectors chain k job got g
keeps-next c t a n mem chain stage (Publish k got) b h l g = keeps-publish c.map c.queue.size c.disk.sectors chain
keeps-next c t a n mem chain stage (Broken reason head count at) b h l g = g
