-- Whole requests: the steps from S1 on come to exactly what `serve` says of what they fetched, after exactly `calls` steps.
use Prim.Native.Nat.{ℕ, zero, suc, ◌+◌, ◌-◌, ◌*◌, ◌≤◌, ◌<◌}
use native.Mathlib.Omega.{arith}
use native.Mathlib.Nat.{add-zero, zero-add, suc-add}
use mathlib.Core.Bool.{Bool, true, false}
use mathlib.Core.Path.{◌≡◌, refl, sym, ap, ◌∙◌, fun_ext}
use mathlib.Core.List.{List, [], ◌∷◌, ◌++◌}
use Rattle.std.specs.Prelude.{not}
use lib.Dec.{leb, ltb, eqb}
use lib.ListN.{length, get_or, drop, get_or-append}
use borrow.Author.Tests.{ltb-false, lt-leb, le-leb, le-ltb, lt-ltb, ne_eqb}
use Rattle.model.specs.Pick.{pick, both}
use Rattle.model.specs.Bytes.{put, word, bytes}
use Rattle.model.specs.Memory.{sound}
use Rattle.model.specs.Ring.{pending, polled, headed as enters, fresh, elsewhere}
use Rattle.model.specs.Chain.{complete}
use Rattle.model.specs.Request.{fits, in_ok, out_ok, exactly, verdict, status, reported, decided}
use Rattle.model.specs.Step.{Cfg, Out, spans, scatter, handed, used_at, disk_of, answer_stores, code_after}
use Rattle.model.specs.declared.Span.{Span}
use Rattle.model.specs.declared.Disk.{Disk}
use Rattle.model.specs.declared.Queue.{Queue}
use Rattle.model.specs.declared.Place.{Place}
use Rattle.model.specs.declared.Job.{Job}
use Rattle.model.specs.declared.Job.TheVariants.{Failed, Unsupported, Done, Read, Write, Identity}
use Rattle.model.specs.declared.Phase.{Phase}
use Rattle.model.specs.declared.Phase.TheVariants.{Poll, Entry, Chain, Header, Answer, Broken}
use Rattle.model.proofs.Tests.{both-split, on}
use Rattle.model.proofs.Lists.{length-put, put-nil, put_in}
use Rattle.model.proofs.Words.{word-cong}
use Rattle.model.proofs.Step.{apply-append}
use Rattle.model.proofs.Sane.{fits-ok}
use lib.Seq.{drop_at}
use Rattle.requests.specs.Serve.{Seen, gather, still, total, walk, Followed, broke, whole, follow, last_byte_at, job_of, stored, Outcome, idle, breaks, serves, answer, carried, serve, memory_after, backing_after}
use Rattle.requests.specs.Steps.{up_to, past, data_fetches, fetches, chain_calls, calls}
use Rattle.requests.specs.Guest.{again, after, out, gather_from, changing, memories, memory_beside, state_after, code_for, Agrees}
use Rattle.requests.proofs.Spans.{last-is, Inside, Ahead, ahead-next, length-up-to, inside_past, total-past, gather-cut}
use Rattle.requests.proofs.Leads.{Leads, there, Ended, quiet-first, ended, Beside, poll-turn, entry-turn, answer-turns}
use Rattle.requests.proofs.Follows.{Held, Goes, Takes, takes-chain}
use Rattle.requests.proofs.Fetches.{Decides, headed, paid-out}

-- the staged header's numbers are the string's
header-word : (n k : ℕ) (stage hs ds : List ℕ) → length hs ≡ 16 → 16 ≤ length stage → k + n ≤ 16 → word n k (put stage 0 hs) ≡ word n k (hs ++ ds)
header-word n k stage hs ds l h u =
    word-cong n k k (put stage 0 hs) (hs ++ ds)
    (λ i v. (ap (λ (x : ℕ). get_or (put stage 0 hs) x 0) (sym (zero-add (k + i))) ∙ put_in stage 0 hs (k + i) (omega arith) (omega arith))
    ∙ sym (get_or-append hs ds 0 (k + i) (omega arith)))

-- an OUT that is accepted fits
write-only : (a i x o y f u n v : Bool) (s s₂ : ℕ)
    → pick a Failed (pick i (pick x (Read s) Failed) (pick o (pick y (Write s) Failed) (pick f (pick u Done Failed) (pick n (pick v Identity Failed) Unsupported)))) ≡ Write s₂
    → (y ≡ true) × (s ≡ s₂)
write-only true i x o y f u n v s s₂ e = let z : ◌≡◌ {A = ℕ} 0 1 = cc in absurd (omega arith)
write-only false true true o y f u n v s s₂ e = let z : ◌≡◌ {A = ℕ} 0 1 = cc in absurd (omega arith)
write-only false true false o y f u n v s s₂ e = let z : ◌≡◌ {A = ℕ} 0 1 = cc in absurd (omega arith)
write-only false false x true true f u n v s s₂ e = (refl, cc)
write-only false false x true false f u n v s s₂ e = let z : ◌≡◌ {A = ℕ} 0 1 = cc in absurd (omega arith)
write-only false false x false y true true n v s s₂ e = let z : ◌≡◌ {A = ℕ} 0 1 = cc in absurd (omega arith)
write-only false false x false y true false n v s s₂ e = let z : ◌≡◌ {A = ℕ} 0 1 = cc in absurd (omega arith)
write-only false false x false y false u true true s s₂ e = let z : ◌≡◌ {A = ℕ} 0 1 = cc in absurd (omega arith)
write-only false false x false y false u true false s s₂ e = let z : ◌≡◌ {A = ℕ} 0 1 = cc in absurd (omega arith)
write-only false false x false y false u false v s s₂ e = let z : ◌≡◌ {A = ℕ} 0 1 = cc in absurd (omega arith)

write-short : (d : Disk) (type sector r w s : ℕ) → verdict d type sector r w ≡ Write s → r - 16 ≤ 1048576
unfolding verdict exactly out_ok
write-short d type sector r w s e =
    let k = write-only (ltb r 16) (eqb type 0) (in_ok d sector r w) (eqb type 1) (both (eqb w 1) (both (fits (r - 16) sector d.sectors) (eqb d.ro 0))) (eqb type 4) (both (eqb r 16) (eqb w 1)) (eqb type 8) (both (eqb r 16) (eqb w 21)) sector s e in
    let f = (both-split (fits (r - 16) sector d.sectors) _ (both-split (eqb w 1) _ k.0).1).0 in
    (fits-ok (r - 16) sector d.sectors f).short

job-short : (d : Disk) (string : List ℕ) (r w : ℕ) → ltb r 16 ≡ true → job_of d string r w ≡ Failed
unfolding job_of verdict
job-short d string r w e = rw e

fetch-short : (rs : List Span) (job : Job) → ltb (total rs) 16 ≡ true → fetches rs job ≡ 0
unfolding fetches
fetch-short rs job e = rw e

fetch-long : (rs : List Span) (job : Job) → ltb (total rs) 16 ≡ false → fetches rs job ≡ length (up_to 16 rs) + data_fetches rs job
unfolding fetches
fetch-long rs job e = rw e

-- S6 writes what `answer` says
stores-are : (id : List ℕ) (q : Queue) (a : ℕ) (chain disk : List ℕ) (m size head : ℕ) (rs : List Span) (s : Span) (ws : List Span) (job : Job) → Held m size chain rs (s ∷ ws)
    → answer_stores id q a chain disk (walk head rs (s ∷ ws)) job
    ≡ scatter (s ∷ ws) (handed id disk (walk head rs (s ∷ ws)) job)
    ++ (record { to = last_byte_at (s ∷ ws); bytes = status job ∷ [] }
    ∷ record { to = used_at q a; bytes = bytes 4 head ++ bytes 4 (reported (status job) (total (s ∷ ws))) } ∷ [])
unfolding answer_stores walk
stores-are id q a chain disk m size head rs s ws job hd =
    let z : length rs + suc (length ws) - length rs ≡ suc (length ws) = omega arith in
    let y : length rs + suc (length ws) - 1 ≡ length rs + length ws = omega arith in
    rw (z, y, hd.writes_are, last-is s ws (length rs) chain hd.writes_are)

-- after a whole chain with a writable buffer there is a step to come
complete-quiet : (head : ℕ) (rs : List Span) (s : Span) (ws : List Span) (last : ℕ) → code_after (complete (walk head rs (s ∷ ws)) last) ≡ 1
unfolding complete walk code_after
complete-quiet head rs s ws last =
    rw (lt-leb (length rs + suc (length ws)) (length rs) (omega arith)) (on (λ (x : Phase). code_after x ≡ 1) (ltb (total rs) 16) (λ e. refl) (λ e. refl))

module _ (c : Cfg) (g : ℕ → List ℕ → List ℕ) (mems : ℕ → List ℕ) (m : ℕ) (t a descs : ℕ) (b : List ℕ) where
  -- after n steps this outcome, n being the number that was stated
  unfoldable pub Result : ℕ → Outcome → ℕ → Out → Type 0
  Result calls w n o = (n ≡ calls) × (o.state ≡ state_after w t a descs) × (o.mem ≡ memory_beside g mems n w) × (o.backing ≡ backing_after w b) × (o.code ≡ code_for w)

  -- broken, x being the descriptors of the last complete chain: with reason 8 it is this one
  breaks-here : (i reason head n at x : ℕ) (chain stage : List ℕ) (calls : ℕ) → suc i ≡ calls → pick (eqb reason 8) n descs ≡ x
      → Leads c g (Result calls (breaks reason head n at)) (suc i) (out t a x (Broken reason head n at) (mems i) b chain stage 3)
  unfolding Result state_after memory_beside backing_after code_for
  breaks-here i reason head n at x chain stage calls h y =
      let z : suc i - 1 ≡ i = omega arith in
      there (suc i) (out t a x (Broken reason head n at) (mems i) b chain stage 3)
      (h, ap (λ (d : ℕ). record { taken = t; answered = a; descs = d; phase = Broken reason head n at }) (sym y), rw z refl, refl, refl)

  -- S6 and S7 of a job that hands out the same bytes and has the same status as the verdict
  finish : Beside c g mems m → (i head : ℕ) (rs : List Span) (s : Span) (ws : List Span) (string : List ℕ) (job does : Job) (got : ℕ) (b₂ chain stage : List ℕ) (code calls : ℕ)
      → code ≡ 1 → Held m c.queue.size chain rs (s ∷ ws) → status does ≡ status job
      → handed c.id (disk_of c.disk b₂) (walk head rs (s ∷ ws)) does ≡ handed c.id (disk_of c.disk b) (walk head rs (s ∷ ws)) job
      → b₂ ≡ stored c.disk job (drop 16 string) b → suc (suc (suc i)) ≡ calls
      → Leads c g (Result calls (answer c a b head rs (s ∷ ws) string job)) (suc i) (out t a (length rs + length (s ∷ ws)) (Answer (walk head rs (s ∷ ws)) does got) (mems i) b₂ chain stage code)
  unfolding Result state_after memory_beside backing_after code_for answer
  finish e i head rs s ws string job does got b₂ chain stage code calls q hd st ha ba h =
      let y : suc (suc (suc i)) - 1 ≡ suc (suc i) = omega arith in
      let z : suc (suc (suc i)) - 2 ≡ suc i = omega arith in
      answer-turns c g mems (Result calls (answer c a b head rs (s ∷ ws) string job)) t a (length rs + length (s ∷ ws)) b₂ i (walk head rs (s ∷ ws)) does got chain stage code q (e.goes_on i)
      (h, refl, rw (y, z, stores-are c.id c.queue a chain (disk_of c.disk b₂) m c.queue.size head rs s ws does hd, st, ha) refl, ba, refl)

  -- an accepted OUT: with no data it is done, with some it is fetched and stored first
  carry-write : Beside c g mems m → (i head : ℕ) (rs : List Span) (s : Span) (ws : List Span) (hs : List ℕ) (z : ℕ) (p : Place) (chain stage : List ℕ) (code calls : ℕ) (ps : List Span)
      → code ≡ 1 → Held m c.queue.size chain rs (s ∷ ws) → Ahead chain p ps → Inside m ps → total ps + 16 ≡ total rs → length hs ≡ 16 → total rs - 16 ≤ length stage
      → suc i + length ps + 2 ≡ calls
      → Leads c g (Result calls (answer c a b head rs (s ∷ ws) (hs ++ gather_from mems (suc i) ps) (Write z))) (suc i)
      (out t a (length rs + length (s ∷ ws)) (decided (walk head rs (s ∷ ws)) p (Write z)) (mems i) b chain stage code)
  unfolding decided walk total Inside status handed stored gather_from
  carry-write e i head rs s ws hs z p chain stage code calls [] q hd w n u l r h =
      let d : drop 16 (hs ++ []) ≡ [] = drop_at hs [] 16 l in
      rw (le-ltb 16 (total rs) (omega arith))
      (finish e i head rs s ws (hs ++ []) (Write z) Done 16 b chain stage code calls q hd refl refl (rw (d, put-nil)) (omega arith))
  carry-write e i head rs s ws hs z p chain stage code calls (x ∷ xs) q hd w n u l r h =
      let d : drop 16 (hs ++ gather_from mems (suc i) (x ∷ xs)) ≡ gather_from mems (suc i) (x ∷ xs) = drop_at hs (gather_from mems (suc i) (x ∷ xs)) 16 l in
      let one = n.0 in
      rw (lt-ltb 16 (total rs) (omega arith))
      (rw (put-nil stage 0) at
      (paid-out c g mems m (Result calls (answer c a b head rs (s ∷ ws) (hs ++ gather_from mems (suc i) (x ∷ xs)) (Write z))) t a (length rs + length (s ∷ ws)) b chain (walk head rs (s ∷ ws)) e x xs stage [] p z i code q
      (omega arith) r n w
      (λ stage code q.
      finish e (i + suc (length xs)) head rs s ws (hs ++ gather_from mems (suc i) (x ∷ xs)) (Write z) Done (total rs)
      (put b (c.disk.start + 512 * z) (gather_from mems (suc i) (x ∷ xs))) chain stage code calls q hd refl refl (rw d refl) (omega arith))))

  -- from the decision on
  carry : Beside c g mems m → (i head : ℕ) (rs : List Span) (s : Span) (ws : List Span) (hs : List ℕ) (job : Job) (p : Place) (chain stage : List ℕ) (code calls : ℕ)
      → code ≡ 1 → Held m c.queue.size chain rs (s ∷ ws) → Ahead chain p (past 16 rs) → 16 ≤ total rs → length hs ≡ 16
      → ((z : ℕ) → job ≡ Write z → total rs - 16 ≤ length stage) → suc i + data_fetches rs job + 2 ≡ calls
      → Leads c g (Result calls (answer c a b head rs (s ∷ ws) (hs ++ gather_from mems (suc i) (past 16 rs)) job)) (suc i)
      (out t a (length rs + length (s ∷ ws)) (decided (walk head rs (s ∷ ws)) p job) (mems i) b chain stage code)
  unfolding decided data_fetches stored
  carry e i head rs s ws hs Failed p chain stage code calls q hd w u l r h =
      finish e i head rs s ws (hs ++ gather_from mems (suc i) (past 16 rs)) Failed Failed 16 b chain stage code calls q hd refl refl refl (omega arith)
  carry e i head rs s ws hs Unsupported p chain stage code calls q hd w u l r h =
      finish e i head rs s ws (hs ++ gather_from mems (suc i) (past 16 rs)) Unsupported Unsupported 16 b chain stage code calls q hd refl refl refl (omega arith)
  carry e i head rs s ws hs Done p chain stage code calls q hd w u l r h =
      finish e i head rs s ws (hs ++ gather_from mems (suc i) (past 16 rs)) Done Done 16 b chain stage code calls q hd refl refl refl (omega arith)
  carry e i head rs s ws hs (Read z) p chain stage code calls q hd w u l r h =
      finish e i head rs s ws (hs ++ gather_from mems (suc i) (past 16 rs)) (Read z) (Read z) 16 b chain stage code calls q hd refl refl refl (omega arith)
  carry e i head rs s ws hs (Write z) p chain stage code calls q hd w u l r h =
      carry-write e i head rs s ws hs z p chain stage code calls (past 16 rs) q hd w (inside_past m rs 16 hd.reads_in) (total-past rs 16 u) l (r z refl) h
  carry e i head rs s ws hs Identity p chain stage code calls q hd w u l r h =
      finish e i head rs s ws (hs ++ gather_from mems (suc i) (past 16 rs)) Identity Identity 16 b chain stage code calls q hd refl refl refl (omega arith)

  -- from a whole chain with a writable buffer on
  request : Beside c g mems m → (i head : ℕ) (rs : List Span) (s : Span) (ws : List Span) (chain stage : List ℕ) (code : ℕ) (hs ds : List ℕ) → code ≡ 1 → 1048576 ≤ length stage
      → Held m c.queue.size chain rs (s ∷ ws) → gather_from mems (suc i) (up_to 16 rs) ≡ hs → gather_from mems (suc (i + length (up_to 16 rs))) (past 16 rs) ≡ ds
      → Leads c g
      (Result (suc i + fetches rs (job_of c.disk (hs ++ ds) (total rs) (total (s ∷ ws))) + 2)
      (answer c a b head rs (s ∷ ws) (hs ++ ds) (job_of c.disk (hs ++ ds) (total rs) (total (s ∷ ws)))))
      (suc i)
      (out t a (length rs + length (s ∷ ws)) (pick (ltb (total rs) 16) (Answer (walk head rs (s ∷ ws)) Failed 0) (Header (walk head rs (s ∷ ws)) (record { buf = 0; skip = 0 }) 0)) (mems i) b chain stage code)
  unfolding job_of Decides walk stored
  request e i head rs s ws chain stage code hs ds q l hd eh ed = go (ltb (total rs) 16) refl
    where
      job : Job
      job = job_of c.disk (hs ++ ds) (total rs) (total (s ∷ ws))

      go : (v : Bool) → ltb (total rs) 16 ≡ v
          → Leads c g (Result (suc i + fetches rs job + 2) (answer c a b head rs (s ∷ ws) (hs ++ ds) job)) (suc i)
          (out t a (length rs + length (s ∷ ws)) (pick v (Answer (walk head rs (s ∷ ws)) Failed 0) (Header (walk head rs (s ∷ ws)) (record { buf = 0; skip = 0 }) 0)) (mems i) b chain stage code)
      go true v =
          rw (job-short c.disk (hs ++ ds) (total rs) (total (s ∷ ws)) v, fetch-short rs Failed v)
          (finish e i head rs s ws (hs ++ ds) Failed Failed 0 b chain stage code (suc i + 0 + 2) q hd refl refl refl (omega arith))
      go false v =
          let long = ltb-false (total rs) 16 v in
          let lh : length hs ≡ 16 = rw eh at (length-up-to m mems e.long rs 16 (suc i) long hd.reads_in) in
          let x = header-word 4 0 stage hs ds lh (omega arith) (omega arith) in
          let y = header-word 8 8 stage hs ds lh (omega arith) (omega arith) in
          rw (fetch-long rs job v)
          (rw (put-nil stage 0) at
          (headed c g mems m (Result (suc i + (length (up_to 16 rs) + data_fetches rs job) + 2) (answer c a b head rs (s ∷ ws) (hs ++ ds) job)) t a (length rs + length (s ∷ ws)) b chain (walk head rs (s ∷ ws)) e rs stage []
          (record { buf = 0; skip = 0 }) i code q (omega arith) long hd.reads_in (ahead-next chain 0 rs hd.reads-are)
          (λ p code q w.
          rw (eh, x, y)
          (rw ed at
          (carry e (i + length (up_to 16 rs)) head rs s ws hs job p chain (put stage 0 hs) code (suc i + (length (up_to 16 rs) + data_fetches rs job) + 2) q hd w long lh
          (λ z q. omega (arith, write-short c.disk (word 4 0 (hs ++ ds)) (word 8 8 (hs ++ ds)) (total rs) (total (s ∷ ws)) z q, length-put stage 0 hs)) (omega arith))))))

  served : Beside c g mems m → (i head : ℕ) (rs : List Span) (s : Span) (ws : List Span) (last : ℕ) (chain stage : List ℕ) (code : ℕ) → code ≡ 1 → 1048576 ≤ length stage
      → suc i ≡ 2 + (length rs + suc (length ws)) → Held m c.queue.size chain rs (s ∷ ws)
      → Leads c g (Result (chain_calls c (changing c.queue t mems) (whole rs (s ∷ ws) last)) (carried c (changing c.queue t mems) a b head (whole rs (s ∷ ws) last))) (suc i)
      (out t a (length rs + length (s ∷ ws)) (complete (walk head rs (s ∷ ws)) last) (mems i) b chain stage code)
  unfolding chain_calls carried complete walk changing
  served e i head rs s ws last chain stage code q l h hd =
      let u : leb (length rs + suc (length ws)) (length rs) ≡ false = lt-leb (length rs + suc (length ws)) (length rs) (omega arith) in
      let z : eqb (suc (length ws)) 0 ≡ false = ne_eqb (suc (length ws)) 0 (λ x. omega arith) in
      rw (u, z, ← h, suc-add i (length (up_to 16 rs))) (request e i head rs s ws chain stage code _ _ q l hd refl refl)

  goes : Beside c g mems m → (head : ℕ) (stage : List ℕ) → 1048576 ≤ length stage → (x : Followed)
      → Goes c g mems m (Result (chain_calls c (changing c.queue t mems) x) (carried c (changing c.queue t mems) a b head x)) t a descs b stage head x
  unfolding Goes chain_calls carried complete walk code_after
  goes e head stage l (broke reason n at) =
      λ i chain h r. breaks-here i reason head n at descs chain stage (2 + n) h (rw (ne_eqb reason 8 (λ x. omega arith)))
  goes e head stage l (whole rs [] last) =
      λ i chain h hd.
      let u : leb (length rs + 0) (length rs) ≡ true = le-leb (length rs + 0) (length rs) (omega arith) in
      rw (u, add-zero) (breaks-here i 8 head (length rs) last (length rs) chain stage (2 + length rs) (omega arith) refl)
  goes e head stage l (whole rs (s ∷ ws) last) = λ i chain h hd. served e i head rs s ws last chain stage _ (complete-quiet head rs s ws last) l h hd

  -- every guest: from S1 on, whatever is in private memory
  leads : Beside c g mems m → (mem chain stage : List ℕ) (code : ℕ) → g 0 mem ≡ mems 0 → 2 * c.queue.size ≤ length chain → 1048576 ≤ length stage
      → Leads c g (Result (calls c (changing c.queue t mems) t) (serve c (changing c.queue t mems) t a b)) 1 (again c g 0 (out t a descs Poll mem b chain stage code))
  unfolding calls serve changing polled enters walk total Takes spans Inside Result state_after memory_beside backing_after code_for code_after
  leads e mem chain stage code h r l =
      poll-turn c g mems (Result (calls c v t) (serve c v t a b)) t a descs b mem chain stage code h
      (first (eqb (pending v.idx t) 0) (ltb c.queue.size (pending v.idx t)))
    where
      v : Seen
      v = changing c.queue t mems

      x : Followed
      x = follow c v v.entry (c.queue.size + 1) v.entry [] []

      second : (q : Bool)
          → Leads c g (Result (pick q 2 (chain_calls c v x)) (pick q (breaks 2 0 0 elsewhere) (carried c v a b v.entry x))) 2
          (out t a descs (pick q (Broken 2 0 0 elsewhere) (Chain (fresh v.entry) v.entry)) (mems 1) b chain stage (code_after (pick q (Broken 2 0 0 elsewhere) (Chain (fresh v.entry) v.entry))))
      second true = breaks-here 1 2 0 0 elsewhere descs chain stage 2 refl refl
      second false =
          takes-chain c g mems m (Result (chain_calls c v x) (carried c v a b v.entry x)) t a descs b stage v.entry e (c.queue.size + 1) v.entry [] [] 1 chain 1 refl refl (omega arith) (omega arith)
          (record { reads-are = refl; writes_are = refl; reads_in = tt; writes-in = tt; room = r }) (goes e v.entry stage l x)

      first : (p q : Bool)
          → Leads c g
          (Result (pick p 1 (pick q 1 (pick (leb c.queue.size v.entry) 2 (chain_calls c v x))))
          (pick p idle (pick q (breaks 1 0 0 elsewhere) (pick (leb c.queue.size v.entry) (breaks 2 0 0 elsewhere) (carried c v a b v.entry x)))))
          1 (out t a descs (pick p Poll (pick q (Broken 1 0 0 elsewhere) Entry)) (mems 0) b chain stage (code_after (pick p Poll (pick q (Broken 1 0 0 elsewhere) Entry))))
      first true q = there 1 (out t a descs Poll (mems 0) b chain stage 0) (refl, refl, refl, refl, refl)
      first false true = breaks-here 0 1 0 0 elsewhere descs chain stage 1 refl refl
      first false false =
          entry-turn c g mems (Result (pick (leb c.queue.size v.entry) 2 (chain_calls c v x)) (pick (leb c.queue.size v.entry) (breaks 2 0 0 elsewhere) (carried c v a b v.entry x))) t a descs b
          chain stage 1 refl (e.goes_on 0) (second (leb c.queue.size v.entry))

-- the number of steps is the stated one, and every one before the last answers 1
result : (c : Cfg) (g : ℕ → List ℕ → List ℕ) (mems : ℕ → List ℕ) (m t a descs : ℕ) (b : List ℕ) (calls : ℕ) (w : Outcome) (o : Out) → Ended c g (Result c g mems m t a descs b calls w) 1 (again c g 0 o)
    → Agrees w t a descs (memory_beside g mems calls w) b (after c g 0 calls o)
unfolding Result after
result c g mems m t a descs b calls w o r =
    let k = rw (suc-add, zero-add) at r.holds in
    let n : suc r.steps ≡ calls = k.0 in
    rw (← n) (record { state-is = k.1; mem_is = k.2; backing-is = k.3; code_is = k.4 })

quiet : (c : Cfg) (g : ℕ → List ℕ → List ℕ) (mems : ℕ → List ℕ) (m t a descs : ℕ) (b : List ℕ) (calls : ℕ) (w : Outcome) (o : Out) → Ended c g (Result c g mems m t a descs b calls w) 1 (again c g 0 o)
    → o.code ≡ 1 → (j : ℕ) → j < calls → (after c g 0 j o).code ≡ 1
unfolding Result
quiet c g mems m t a descs b calls w o r q j h =
    let n = r.holds.0 in
    quiet-first c g 0 o r.steps q r.quiet j (omega arith)

length-memories : (g : ℕ → List ℕ → List ℕ) (mem : List ℕ) → ((i : ℕ) (x : List ℕ) → length (g i x) ≡ length x) → (i : ℕ) → length (memories g mem i) ≡ length mem
unfolding memories
length-memories g mem h zero = h 0 mem
length-memories g mem h (suc i) = h (suc i) (memories g mem i) ∙ length-memories g mem h i

-- 6. Whatever a guest makes of its memory before each step, if only the length stays: the steps come to `serve` of idx, entry, descriptors, header and
-- payload as each was when it was fetched, after exactly `calls` steps. The bytes of S6 go over the memory of that step, idx over that of the next.
pub serves-as-fetched : (c : Cfg) (g : ℕ → List ℕ → List ℕ) → ((i : ℕ) (x : List ℕ) → length (g i x) ≡ length x) → (t a descs : ℕ) (mem backing chain stage : List ℕ) (code : ℕ)
    → sound (length mem) c.map ≡ true → 2 * c.queue.size ≤ length chain → 1048576 ≤ length stage
    → let v = changing c.queue t (memories g mem) in
    let w = serve c v t a backing in
    let n = calls c v t in
    Agrees w t a descs (memory_beside g (memories g mem) n w) backing (after c g 0 n (out t a descs Poll mem backing chain stage code))
unfolding memories
serves-as-fetched c g h t a descs mem backing chain stage code s r l =
    let mems = memories g mem in
    let e : Beside c g mems (length mem) = record { goes_on = λ j. refl; long = length-memories g mem h; map-sound = s } in
    let v = changing c.queue t mems in
    result c g mems (length mem) t a descs backing (calls c v t) (serve c v t a backing) (out t a descs Poll mem backing chain stage code)
    (ended (leads c g mems (length mem) t a descs backing e mem chain stage code refl r l))

-- what is fetched of a memory that is held still
still_seen : (q : Queue) (t : ℕ) (m : List ℕ) → changing q t (λ i. m) ≡ still q t m
unfolding changing still
still_seen q t m =
    let e : ◌≡◌ {A = List Span → List Span → List ℕ} (λ rs ws. gather_from (λ i. m) (2 + (length rs + length ws)) (up_to 16 rs) ++ gather_from (λ i. m) (2 + (length rs + length ws) + length (up_to 16 rs)) (past 16 rs))
    (λ rs ws. gather m rs) =
    fun_ext (λ rs. fun_ext (λ ws. gather-cut m rs 16 (2 + (length rs + length ws)) (2 + (length rs + length ws) + length (up_to 16 rs)))) in
    rw e

still-memory : (m : List ℕ) (n : ℕ) (w : Outcome) → memory_beside (λ i x. x) (λ i. m) n w ≡ memory_after w m
unfolding memory_beside memory_after
still-memory m n idle = refl
still-memory m n (breaks reason head fetched at) = refl
still-memory m n (serves writes idx after head len descs) = sym (apply-append writes (idx ∷ []) m)

-- the steps over a memory held still
still-leads : (c : Cfg) (t a descs : ℕ) (mem backing chain stage : List ℕ) (code : ℕ) → sound (length mem) c.map ≡ true → 2 * c.queue.size ≤ length chain → 1048576 ≤ length stage
    → Ended c (λ i x. x)
    (Result c (λ i x. x) (λ i. mem) (length mem) t a descs backing (calls c (still c.queue t mem) t) (serve c (still c.queue t mem) t a backing))
    1 (again c (λ i x. x) 0 (out t a descs Poll mem backing chain stage code))
still-leads c t a descs mem backing chain stage code s r l =
    let g : ℕ → List ℕ → List ℕ = λ i x. x in
    let mems : ℕ → List ℕ = λ i. mem in
    let e : Beside c g mems (length mem) = record { goes_on = λ j. refl; long = λ j. refl; map-sound = s } in
    rw (still_seen c.queue t mem) at (ended (leads c g mems (length mem) t a descs backing e mem chain stage code refl r l))

-- 5. Memory held still, that is, what one step leaves is what the next one sees: the steps come to `serve` of that memory.
pub serves-still : (c : Cfg) (t a descs : ℕ) (mem backing chain stage : List ℕ) (code : ℕ) → sound (length mem) c.map ≡ true → 2 * c.queue.size ≤ length chain → 1048576 ≤ length stage
    → let v = still c.queue t mem in
    let w = serve c v t a backing in
    Agrees w t a descs (memory_after w mem) backing (after c (λ i x. x) 0 (calls c v t) (out t a descs Poll mem backing chain stage code))
serves-still c t a descs mem backing chain stage code s r l =
    let v = still c.queue t mem in
    let w = serve c v t a backing in
    rw (still-memory mem (calls c v t) w) at
    (result c (λ i x. x) (λ i. mem) (length mem) t a descs backing (calls c v t) w (out t a descs Poll mem backing chain stage code) (still-leads c t a descs mem backing chain stage code s r l))

-- .. and every one of them before the last answers 1
pub quiet-still : (c : Cfg) (t a descs : ℕ) (mem backing chain stage : List ℕ) → sound (length mem) c.map ≡ true → 2 * c.queue.size ≤ length chain → 1048576 ≤ length stage
    → (j : ℕ) → j < calls c (still c.queue t mem) t → (after c (λ i x. x) 0 j (out t a descs Poll mem backing chain stage 1)).code ≡ 1
quiet-still c t a descs mem backing chain stage s r l =
    let v = still c.queue t mem in
    quiet c (λ i x. x) (λ i. mem) (length mem) t a descs backing (calls c v t) (serve c v t a backing) (out t a descs Poll mem backing chain stage 1)
    (still-leads c t a descs mem backing chain stage 1 s r l) refl
