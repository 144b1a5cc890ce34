-- S3 again and again follows the chain as `follow` does, and the private chain then holds its buffers.
use Prim.Native.Nat.{ℕ, zero, suc, ◌+◌, ◌*◌, ◌≤◌, ◌<◌}
use native.Mathlib.Omega.{arith}
use mathlib.Core.Bool.{Bool, true, false}
use mathlib.Core.Path.{◌≡◌, refl, ◌∙◌}
use mathlib.Core.List.{List, [], ◌∷◌, ◌++◌}
use lib.Dec.{leb, ltb, eqb}
use lib.ListN.{length, length-append}
use borrow.Author.Tests.{leb-false, ltb-false, eqb-false}
use Rattle.model.specs.Pick.{both}
use Rattle.model.specs.Memory.{Region, locate, sound}
use Rattle.model.specs.Chain.{desc_at, tested_by, tested, tally, held, complete, described, descs_after, keeps}
use Rattle.model.specs.Step.{Cfg, Out, spans, code_after}
use Rattle.std.specs.Prelude.{Option, Some, None}
use Rattle.model.specs.declared.Span.{Span}
use Rattle.model.specs.declared.Desc.{Desc}
use Rattle.model.specs.declared.Tested.{Tested}
use Rattle.model.specs.declared.Tested.TheVariants.{Bad, Next, Last}
use Rattle.model.specs.declared.Phase.TheVariants.{Chain, Broken}
use Rattle.model.proofs.Lists.{length-put}
use Rattle.model.proofs.Memory.{locate-slice}
use Rattle.model.proofs.Chain.{bad-reason}
use Rattle.requests.specs.Serve.{total, walk, Followed, broke, whole, linked, follow}
use Rattle.requests.specs.Guest.{out, changing}
use Rattle.requests.proofs.Spans.{spans-keep, spans-push, total-append, Inside, inside-push}
use Rattle.requests.proofs.Leads.{Leads, Beside, chain-turn}

-- a private chain that holds these buffers, in a queue of size q and a memory of m bytes
pub record Held (m q : ℕ) (chain : List ℕ) (rs ws : List Span) : Type 0 where
  pub reads-are : spans (length rs) 0 chain ≡ rs
  pub writes_are : spans (length ws) (length rs) chain ≡ ws
  pub reads_in : Inside m rs
  pub writes-in : Inside m ws
  pub room : 2 * q ≤ length chain

-- what a descriptor that is not refused has passed
record Passed (many empty : Bool) (f : Option ℕ) (late : Bool) (x : ℕ) : Type 0 where
  some_left : many ≡ false
  some_bytes : empty ≡ false
  located : f ≡ Some x
  in_order : late ≡ false

passed-next : (a s e : Bool) (f : Option ℕ) (l n g : Bool) (x : ℕ) → tested_by a s e f l n g ≡ Next x → Passed a e f l x
unfolding tested_by
passed-next true s e f l n g x h = let z : ◌≡◌ {A = ℕ} 0 1 = cc in absurd (omega arith)
passed-next false true e f l n g x h = let z : ◌≡◌ {A = ℕ} 0 1 = cc in absurd (omega arith)
passed-next false false true f l n g x h = let z : ◌≡◌ {A = ℕ} 0 1 = cc in absurd (omega arith)
passed-next false false false None l n g x h = let z : ◌≡◌ {A = ℕ} 0 1 = cc in absurd (omega arith)
passed-next false false false (Some y) true n g x h = let z : ◌≡◌ {A = ℕ} 0 1 = cc in absurd (omega arith)
passed-next false false false (Some y) false true g x h = let z : ◌≡◌ {A = ℕ} 0 1 = cc in absurd (omega arith)
passed-next false false false (Some y) false false true x h = let z : ◌≡◌ {A = ℕ} 0 1 = cc in absurd (omega arith)
passed-next false false false (Some y) false false false x h = record { some_left = refl; some_bytes = refl; located = cc; in_order = refl }

passed-last : (a s e : Bool) (f : Option ℕ) (l n g : Bool) (x : ℕ) → tested_by a s e f l n g ≡ Last x → Passed a e f l x
unfolding tested_by
passed-last true s e f l n g x h = let z : ◌≡◌ {A = ℕ} 0 1 = cc in absurd (omega arith)
passed-last false true e f l n g x h = let z : ◌≡◌ {A = ℕ} 0 1 = cc in absurd (omega arith)
passed-last false false true f l n g x h = let z : ◌≡◌ {A = ℕ} 0 1 = cc in absurd (omega arith)
passed-last false false false None l n g x h = let z : ◌≡◌ {A = ℕ} 0 1 = cc in absurd (omega arith)
passed-last false false false (Some y) true n g x h = let z : ◌≡◌ {A = ℕ} 0 1 = cc in absurd (omega arith)
passed-last false false false (Some y) false true g x h = record { some_left = refl; some_bytes = refl; located = cc; in_order = refl }
passed-last false false false (Some y) false false true x h = let z : ◌≡◌ {A = ℕ} 0 1 = cc in absurd (omega arith)
passed-last false false false (Some y) false false false x h = let z : ◌≡◌ {A = ℕ} 0 1 = cc in absurd (omega arith)

-- the chain with a descriptor more: the buffers, the numbers and the words
record Join (m q head : ℕ) (chain : List ℕ) (rs ws : List Span) (d : Desc) (x : ℕ) : Type 0 where
  reads : List Span
  writes : List Span
  longer : length reads + length writes ≡ length rs + length ws + 1
  tallied : tally (walk head rs ws) d.flags d.len ≡ walk head reads writes
  next-is : (more : ℕ → List Span → List Span → Followed) (n : ℕ) → linked more n d rs ws (Next x) ≡ more d.next reads writes
  last-is : (more : ℕ → List Span → List Span → Followed) (n : ℕ) → linked more n d rs ws (Last x) ≡ whole reads writes n
  held-is : Held m q (held chain (length rs + length ws) x d.len) reads writes

join-write : (m q head : ℕ) (chain : List ℕ) (rs ws : List Span) (d : Desc) (x : ℕ) → ltb d.flags 2 ≡ false
    → length rs + length ws < q → 1 ≤ d.len → x + d.len ≤ m → Held m q chain rs ws → Join m q head chain rs ws d x
unfolding tally walk linked held total
join-write m q head chain rs ws d x e h l k hd =
    let s : Span = record { at = x; len = d.len } in
    let n : length (ws ++ (s ∷ [])) ≡ length ws + 1 = simp length-append in
    let u : total (ws ++ (s ∷ [])) ≡ total ws + d.len = omega (arith, total-append ws (s ∷ [])) in
    let j : length rs + (length ws + 1) ≡ length rs + length ws + 1 = omega arith in
    let p = length-put chain (2 * (length rs + length ws)) (x ∷ d.len ∷ []) in
    record {
      reads = rs;
      writes = ws ++ (s ∷ []);
      longer = omega arith;
      tallied = rw (e, n, u, j);
      next-is = λ more n. rw e;
      last-is = λ more n. rw e;
      held-is = record {
        reads-are = spans-keep (length rs) 0 chain (length rs + length ws) (x ∷ d.len ∷ []) (omega arith) ∙ hd.reads-are;
        writes_are = spans-push ws (length rs) chain x d.len hd.writes_are (omega (arith, hd.room));
        reads_in = hd.reads_in;
        writes-in = inside-push m ws s hd.writes-in l k;
        room = omega (arith, p, hd.room);
      };
    }

join-read : (m q head : ℕ) (chain : List ℕ) (rs ws : List Span) (d : Desc) (x : ℕ) → ltb d.flags 2 ≡ true → length ws ≡ 0
    → length rs + length ws < q → 1 ≤ d.len → x + d.len ≤ m → Held m q chain rs ws → Join m q head chain rs ws d x
unfolding tally walk linked held total spans
join-read m q head chain rs (w ∷ ws) d x e z h l k hd = absurd (omega arith)
join-read m q head chain rs [] d x e z h l k hd =
    let s : Span = record { at = x; len = d.len } in
    let n : length (rs ++ (s ∷ [])) ≡ length rs + 1 = simp length-append in
    let u : total (rs ++ (s ∷ [])) ≡ total rs + d.len = omega (arith, total-append rs (s ∷ [])) in
    let j : length rs + 1 + 0 ≡ length rs + 0 + 1 = omega arith in
    let o : length rs + 0 ≡ 0 + length rs = omega arith in
    let p = length-put chain (2 * (length rs + 0)) (x ∷ d.len ∷ []) in
    record {
      reads = rs ++ (s ∷ []);
      writes = [];
      longer = omega arith;
      tallied = rw (e, n, u, j);
      next-is = λ more n. rw e;
      last-is = λ more n. rw e;
      held-is = record {
        reads-are = rw o (spans-push rs 0 chain x d.len hd.reads-are (omega (arith, hd.room)));
        writes_are = refl;
        reads_in = inside-push m rs s hd.reads_in l k;
        writes-in = hd.writes-in;
        room = omega (arith, p, hd.room);
      };
    }

-- .. it is readable, then no writable buffer stands before it; or writable
join : (m q head : ℕ) (map : List Region) (chain : List ℕ) (rs ws : List Span) (d : Desc) (x : ℕ) → sound m map ≡ true
    → Passed (leb q (length rs + length ws)) (eqb d.len 0) (locate map d.addr d.len) (both (ltb d.flags 2) (ltb (length rs) (length rs + length ws))) x
    → Held m q chain rs ws → Join m q head chain rs ws d x
join m q head map chain rs ws d x s p hd = go (ltb d.flags 2) refl p.in_order
  where
    go : (b : Bool) → ltb d.flags 2 ≡ b → both b (ltb (length rs) (length rs + length ws)) ≡ false → Join m q head chain rs ws d x
    go true e f =
        let r = leb-false q (length rs + length ws) p.some_left in
        let n = eqb-false d.len 0 p.some_bytes in
        let z = ltb-false (length rs) (length rs + length ws) f in
        join-read m q head chain rs ws d x e (omega arith) (omega arith) (omega arith) (locate-slice m map d.addr d.len x s p.located) hd
    go false e f =
        let r = leb-false q (length rs + length ws) p.some_left in
        let n = eqb-false d.len 0 p.some_bytes in
        join-write m q head chain rs ws d x e (omega arith) (omega arith) (locate-slice m map d.addr d.len x s p.located) hd

module _ (c : Cfg) (g : ℕ → List ℕ → List ℕ) (mems : ℕ → List ℕ) (m : ℕ) (F : ℕ → Out → Type 0) (t a descs : ℕ) (b stage : List ℕ) (head : ℕ) where
  -- what is to come after the chain: a break leads on, the last complete chain being the one before; and so does a whole chain with its buffers held,
  -- which now is the last complete one
  unfoldable pub Goes : Followed → Type 0
  Goes (broke reason n at) =
      (i : ℕ) (chain : List ℕ) → suc i ≡ 2 + n → reason ≤ 7 → Leads c g F (suc i) (out t a descs (Broken reason head n at) (mems i) b chain stage 3)
  Goes (whole rs ws last) =
      (i : ℕ) (chain : List ℕ) → suc i ≡ 2 + (length rs + length ws) → Held m c.queue.size chain rs ws
      → Leads c g F (suc i) (out t a (length rs + length ws) (complete (walk head rs ws) last) (mems i) b chain stage (code_after (complete (walk head rs ws) last)))

  -- from a chain of which these buffers are held, at most f descriptors more
  unfoldable pub Takes : ℕ → Type 0
  Takes f =
      (n : ℕ) (rs ws : List Span) (i : ℕ) (chain : List ℕ) (code : ℕ) → code ≡ 1 → suc i ≡ 2 + (length rs + length ws) → f + (length rs + length ws) ≡ suc c.queue.size
      → length rs + length ws ≤ c.queue.size → Held m c.queue.size chain rs ws → Goes (follow c (changing c.queue t mems) head f n rs ws)
      → Leads c g F (suc i) (out t a descs (Chain (walk head rs ws) n) (mems i) b chain stage code)

  one_more : Beside c g mems m → (f : ℕ) → Takes f → Takes (suc f)
  unfolding Takes Goes follow changing tested walk described descs_after keeps linked code_after
  one_more e f ih n rs ws i chain code q h s l hd k =
      let d : Desc = desc_at (c.queue.desc + 16 * n) (mems (2 + (length rs + length ws))) in
      chain-turn c g mems F t a descs b i (walk head rs ws) n chain stage code q (e.goes_on i) d (rw h)
      (go d (tested c.map c.queue.size (walk head rs ws) d) refl k)
    where
      more : ℕ → List Span → List Span → Followed
      more = λ j xs ys. follow c (changing c.queue t mems) head f j xs ys

      go : (d : Desc) (x : Tested) → tested c.map c.queue.size (walk head rs ws) d ≡ x → Goes (linked more n d rs ws x)
          → Leads c g F (suc (suc i)) (out t a (descs_after descs (walk head rs ws) x) (described (walk head rs ws) n d x) (mems (suc i)) b (keeps chain (walk head rs ws) d x) stage (code_after (described (walk head rs ws) n d x)))
      go d (Bad r) u k = k (suc i) chain (omega arith) (bad-reason (leb c.queue.size (length rs + length ws)) _ _ _ _ _ _ r u).1
      go d (Next x) u k =
          let p = passed-next (leb c.queue.size (length rs + length ws)) _ _ _ _ _ _ x u in
          let j = join m c.queue.size head c.map chain rs ws d x e.map-sound p hd in
          let r = leb-false c.queue.size (length rs + length ws) p.some_left in
          let z = j.longer in
          rw j.tallied
          (ih d.next j.reads j.writes (suc i) (held chain (length rs + length ws) x d.len) 1 refl (omega arith) (omega arith) (omega arith) j.held-is
          (rw (j.next-is more n) at k))
      go d (Last x) u k =
          let p = passed-last (leb c.queue.size (length rs + length ws)) _ _ _ _ _ _ x u in
          let j = join m c.queue.size head c.map chain rs ws d x e.map-sound p hd in
          let z = j.longer in
          rw (← z, j.tallied) ((rw (j.last-is more n) at k) (suc i) (held chain (length rs + length ws) x d.len) (omega arith) j.held-is)

  pub takes-chain : Beside c g mems m → (f : ℕ) → Takes f
  unfolding Takes
  takes-chain e zero n rs ws i chain code q h s l hd k = absurd (omega arith)
  takes-chain e (suc f) n rs ws i chain code q h s l hd k = one_more e f (takes-chain e f) n rs ws i chain code q h s l hd k
