-- What the tests of a state tell, by name.
use Prim.Native.Nat.{ℕ, zero, suc, ◌+◌, ◌-◌, ◌*◌, ◌%◌, ◌≤◌, ◌<◌}
use native.Mathlib.Nat.{add-zero}
use mathlib.Core.Bool.{true, false}
use mathlib.Core.List.{List}
use mathlib.Core.Path.{◌≡◌, sym, ◌∙◌}
use borrow.Author.Tests.{leb-true}
use native.Mathlib.Omega.{arith}
use lib.Dec.{leb, ltb, eqb}
use lib.ListN.{get_or}
use Rattle.model.specs.Pick.{pick}
use Rattle.model.specs.Request.{fits}
use Rattle.model.specs.Step.{spans}
use Rattle.model.specs.Sane.{walk_ok, full_ok, job_ok, sane, inside, all_inside, place_is_ok}
use Rattle.model.specs.declared.Walk.{Walk}
use Rattle.model.specs.declared.Place.{Place}
use Rattle.model.specs.declared.Job.{Job}
use Rattle.model.specs.declared.Job.TheVariants.{Read}
use Rattle.model.specs.declared.Phase.TheVariants.{Chain, Header, Payload, Answer}
use Rattle.model.proofs.Tests.{told, both-split, picked}
use Rattle.model.proofs.Step.{spans-turn, spans-end}

pub record WalkOk (q : ℕ) (k : Walk) : Type 0 where
  pub head_in : k.head < q
  pub count-in : k.count ≤ q
  pub reads_in : k.reads ≤ k.count
  pub r-in : k.r ≤ 4294967295 * k.reads
  pub w-in : k.w ≤ 4294967295 * (k.count - k.reads)

pub walk-ok : (q : ℕ) (k : Walk) → walk_ok q k ≡ true → WalkOk q k
unfolding walk_ok
walk-ok q k e =
    let a = both-split (ltb k.head q) _ e in
    let b = both-split (leb k.count q) _ a.1 in
    let c = both-split (leb k.reads k.count) _ b.1 in
    let d = both-split (leb k.r (4294967295 * k.reads)) _ c.1 in
    record { head_in = omega told; count-in = omega told; reads_in = omega told; r-in = omega told; w-in = omega told }

pub record FullOk (q : ℕ) (k : Walk) : Type 0 where
  pub walk : WalkOk q k
  pub writable : k.reads < k.count
  pub w-some : 1 ≤ k.w

pub full-ok : (q : ℕ) (k : Walk) → full_ok q k ≡ true → FullOk q k
unfolding full_ok
full-ok q k e =
    let a = both-split (walk_ok q k) _ e in
    let b = both-split (ltb k.reads k.count) _ a.1 in
    record { walk = walk-ok q k a.0; writable = omega told; w-some = omega told }

pub record Fits (n sector c : ℕ) : Type 0 where
  pub whole : n % 512 ≡ 0
  pub short : n ≤ 1048576
  pub from : sector ≤ c
  pub to : 512 * sector + n ≤ 512 * c

pub fits-ok : (n sector c : ℕ) → fits n sector c ≡ true → Fits n sector c
unfolding fits
fits-ok n sector c e =
    let a = both-split (eqb (n % 512) 0) _ e in
    let b = both-split (leb n 1048576) _ a.1 in
    let d = both-split (leb sector c) _ b.1 in
    record { whole = omega told; short = omega told; from = omega told; to = omega told }

pub record ChainOk (q : ℕ) (k : Walk) (cur : ℕ) : Type 0 where
  pub walk : WalkOk q k
  pub cur-in : cur < q

pub chain-ok : (q sectors : ℕ) (k : Walk) (cur : ℕ) → sane q sectors (Chain k cur) ≡ true → ChainOk q k cur
unfolding sane
chain-ok q sectors k cur e = let a = both-split (walk_ok q k) _ e in record { walk = walk-ok q k a.0; cur-in = omega told }

pub record HeaderOk (q : ℕ) (k : Walk) (p : Place) (got : ℕ) : Type 0 where
  pub full : FullOk q k
  pub buf-in : p.buf < k.reads
  pub got_in : got < 16
  pub r_some : 16 ≤ k.r

pub header_ok : (q sectors : ℕ) (k : Walk) (p : Place) (got : ℕ) → sane q sectors (Header k p got) ≡ true → HeaderOk q k p got
unfolding sane
header_ok q sectors k p got e =
    let a = both-split (full_ok q k) _ e in
    let b = both-split (ltb p.buf k.reads) _ a.1 in
    let c = both-split (ltb got 16) _ b.1 in
    record { full = full-ok q k a.0; buf-in = omega told; got_in = omega told; r_some = omega told }

pub record PayloadOk (q sectors : ℕ) (k : Walk) (p : Place) (s got : ℕ) : Type 0 where
  pub full : FullOk q k
  pub buf-in : p.buf < k.reads
  pub r_some : 16 < k.r
  pub got_in : got < k.r - 16
  pub fit : Fits (k.r - 16) s sectors

pub payload-ok : (q sectors : ℕ) (k : Walk) (p : Place) (s got : ℕ) → sane q sectors (Payload k p s got) ≡ true → PayloadOk q sectors k p s got
unfolding sane
payload-ok q sectors k p s got e =
    let a = both-split (full_ok q k) _ e in
    let b = both-split (ltb p.buf k.reads) _ a.1 in
    let c = both-split (ltb 16 k.r) _ b.1 in
    let d = both-split (ltb got (k.r - 16)) _ c.1 in
    record { full = full-ok q k a.0; buf-in = omega told; r_some = omega told; got_in = omega told; fit = fits-ok (k.r - 16) s sectors d.1 }

pub record AnswerOk (q sectors : ℕ) (k : Walk) (job : Job) (got : ℕ) : Type 0 where
  pub full : FullOk q k
  pub got_in : got ≤ k.r
  pub job-in : job_ok sectors k job ≡ true

pub answer_ok : (q sectors : ℕ) (k : Walk) (job : Job) (got : ℕ) → sane q sectors (Answer k job got) ≡ true → AnswerOk q sectors k job got
unfolding sane
answer_ok q sectors k job got e =
    let a = both-split (full_ok q k) _ e in
    let b = both-split (leb got k.r) _ a.1 in
    record { full = full-ok q k a.0; got_in = omega told; job-in = b.1 }

pub record PlaceOk (m : ℕ) (chain : List ℕ) (p : Place) : Type 0 where
  pub skip-in : p.skip < get_or chain (2 * p.buf + 1) 0
  pub buf-inside : get_or chain (2 * p.buf) 0 + get_or chain (2 * p.buf + 1) 0 ≤ m

pub place_ok : (m : ℕ) (chain : List ℕ) (p : Place) → place_is_ok m chain p ≡ true → PlaceOk m chain p
unfolding place_is_ok inside
place_ok m chain p e =
    let a = both-split (ltb p.skip (get_or chain (2 * p.buf + 1) 0)) _ e in record { skip-in = omega told; buf-inside = omega told }

-- a loop over the buffers: the invariant says that the rest has the whole's answer
pub inside-turn : (m i e : ℕ) (chain : List ℕ) → i < e
    → all_inside m (spans (e - i) i chain)
    ≡ pick (inside m (get_or chain (2 * i) 0) (get_or chain (2 * i + 1) 0)) (all_inside m (spans (e - (i + 1)) (i + 1) chain)) false
unfolding all_inside
inside-turn m i e chain h = rw (spans-turn i e chain h)

pub inside-end : (m i e : ℕ) (chain : List ℕ) → e ≤ i → all_inside m (spans (e - i) i chain) ≡ true
unfolding all_inside
inside-end m i e chain h = rw (spans-end i e chain h)

pub inside-here : (m i e : ℕ) (chain : List ℕ) → i < e → all_inside m (spans (e - i) i chain) ≡ true → get_or chain (2 * i) 0 + get_or chain (2 * i + 1) 0 ≤ m
unfolding inside
inside-here m i e chain h t =
    leb-true _ _ (picked (leb (get_or chain (2 * i) 0 + get_or chain (2 * i + 1) 0) m) _ (sym (inside-turn m i e chain h) ∙ t)).0

pub inside-rest : (m i e : ℕ) (chain : List ℕ) → i < e → all_inside m (spans (e - i) i chain) ≡ true → all_inside m (spans (e - (i + 1)) (i + 1) chain) ≡ true
inside-rest m i e chain h t = (picked (inside m (get_or chain (2 * i) 0) (get_or chain (2 * i + 1) 0)) _ (sym (inside-turn m i e chain h) ∙ t)).1

-- each of the buffers, and so the last
pub inside-at : (m i e : ℕ) (chain : List ℕ) (d : ℕ) → i + d < e → all_inside m (spans (e - i) i chain) ≡ true
    → get_or chain (2 * (i + d)) 0 + get_or chain (2 * (i + d) + 1) 0 ≤ m
inside-at m i e chain zero h t = rw (add-zero i) (inside-here m i e chain (omega arith) t)
inside-at m i e chain (suc d) h t =
    let p : i + suc d ≡ i + 1 + d = omega arith in rw p (inside-at m (i + 1) e chain d (omega arith) (inside-rest m i e chain (omega arith) t))

pub read_fits : (sectors : ℕ) (k : Walk) (s : ℕ) → job_ok sectors k (Read s) ≡ true → Fits (k.w - 1) s sectors
unfolding job_ok
read_fits sectors k s e = fits-ok (k.w - 1) s sectors e
