-- S4 and S5: whatever the cuts, the 16 staged bytes are the first ones of the readable string, and the rest goes to the disk.
use Prim.Native.Nat.{ℕ, suc, ◌+◌, ◌-◌, ◌*◌, ◌≤◌, ◌<◌, min}
use native.Mathlib.Omega.{arith}
use native.Mathlib.Nat.{zero-add}
use mathlib.Core.Bool.{Bool, true, false}
use mathlib.Core.Path.{◌≡◌, refl, ap, ◌∙◌}
use mathlib.Core.List.{List, [], ◌∷◌, ◌++◌, append_assoc, append-nil}
use lib.Dec.{leb, eqb}
use lib.ListN.{length, length-append}
use borrow.Author.Tests.{leb-true, leb-false, lt-ltb, le-ltb, eq-eqb, ne_eqb}
use Rattle.model.specs.Pick.{pick}
use Rattle.model.specs.Bytes.{put, part, word}
use Rattle.model.specs.Request.{verdict, decided}
use Rattle.model.specs.Step.{Cfg, Out, left, onward, ends, gathered, spans}
use Rattle.model.specs.declared.Span.{Span}
use Rattle.model.specs.declared.Walk.{Walk}
use Rattle.model.specs.declared.Place.{Place}
use Rattle.model.specs.declared.Job.TheVariants.{Done}
use Rattle.model.specs.declared.Phase.TheVariants.{Header, Payload, Answer}
use Rattle.model.proofs.Lists.{put-put, part-put, length_part}
use Rattle.requests.specs.Serve.{total}
use Rattle.requests.specs.Steps.{up_to, past}
use Rattle.requests.specs.Guest.{out, gather_from}
use Rattle.requests.proofs.Spans.{Inside, Ahead, ahead-next}
use Rattle.requests.proofs.Leads.{Leads, Beside, header-turn, payload-turn, payload-last}

-- staging some bytes and then more is staging all of them
stage-more : (stage hs bs : List ℕ) → put (put stage 0 hs) (length hs) bs ≡ put stage 0 (hs ++ bs)
stage-more stage hs bs = rw zero-add at (put-put stage 0 hs bs)

-- the place after n bytes of the buffer at it
ahead-on : (chain : List ℕ) (p : Place) (s : Span) (ss : List Span) (n : ℕ) → n ≤ s.len → Ahead chain p (s ∷ ss)
    → Ahead chain (onward p s.len n) (pick (eqb n s.len) ss (record { at = s.at + n; len = s.len - n } ∷ ss))
unfolding Ahead onward
ahead-on chain p s ss n h a = go (eqb n s.len) refl
  where
    go : (b : Bool) → eqb n s.len ≡ b
        → Ahead chain (pick b (record { buf = p.buf + 1; skip = 0 }) (record { buf = p.buf; skip = p.skip + n })) (pick b ss (record { at = s.at + n; len = s.len - n } ∷ ss))
    go true e = ahead-next chain (p.buf + 1) ss a.2
    go false e = (omega arith, omega arith, a.2)

ahead-rest : (chain : List ℕ) (p : Place) (s : Span) (ss : List Span) → Ahead chain p (s ∷ ss) → spans (length ss) (p.buf + 1) chain ≡ ss
unfolding Ahead
ahead-rest chain p s ss w = w.2

ahead-at : (chain : List ℕ) (p : Place) (s : Span) (ss : List Span) → Ahead chain p (s ∷ ss) → (left chain p).at ≡ s.at
unfolding Ahead
ahead-at chain p s ss w = w.0

ahead-len : (chain : List ℕ) (p : Place) (s : Span) (ss : List Span) → Ahead chain p (s ∷ ss) → (left chain p).len ≡ s.len
unfolding Ahead
ahead-len chain p s ss w = w.1

module _ (c : Cfg) (g : ℕ → List ℕ → List ℕ) (mems : ℕ → List ℕ) (m : ℕ) (F : ℕ → Out → Type 0) (t a descs : ℕ) (b chain : List ℕ) (k : Walk) where
  -- what is to come after the header: S4 has made its decision at this place, with these bytes staged
  unfoldable pub Decides : List ℕ → ℕ → List ℕ → List Span → Type 0
  Decides stage i hs rest =
      (p : Place) (code : ℕ) → code ≡ 1 → Ahead chain p rest
      → Leads c g F (suc i) (out t a descs (decided k p (verdict c.disk (word 4 0 (put stage 0 hs)) (word 8 8 (put stage 0 hs)) k.r k.w)) (mems i) b chain (put stage 0 hs) code)

  -- S4 at a buffer of which n bytes are the header's
  header-takes : Beside c g mems m → (s : Span) (ss : List Span) (stage hs : List ℕ) (p : Place) (i code n : ℕ) → code ≡ 1 → min (16 - length hs) s.len ≡ n → Ahead chain p (s ∷ ss)
      → ((code : ℕ) → code ≡ 1 → Leads c g F (suc (suc i))
      (out t a descs
      (gathered c.disk k p (length hs) s.len n (word 4 0 (put stage 0 (hs ++ part s.at n (mems (suc i))))) (word 8 8 (put stage 0 (hs ++ part s.at n (mems (suc i))))))
      (mems (suc i)) b chain (put stage 0 (hs ++ part s.at n (mems (suc i)))) code))
      → Leads c g F (suc i) (out t a descs (Header k p (length hs)) (mems i) b chain (put stage 0 hs) code)
  header-takes e s ss stage hs p i code n q h w f =
      let x = ahead-at chain p s ss w in
      let y = ahead-len chain p s ss w in
      header-turn c g mems F t a descs b i k p (length hs) chain (put stage 0 hs) code q (e.goes_on i) (part s.at n (mems (suc i))) (rw (x, y, h))
      (λ code q. rw (y, h, stage-more) (f code q))

  pub headed : Beside c g mems m → (ss : List Span) (stage hs : List ℕ) (p : Place) (i code : ℕ) → code ≡ 1 → length hs < 16 → 16 - length hs ≤ total ss → Inside m ss → Ahead chain p ss
      → Decides stage (i + length (up_to (16 - length hs) ss)) (hs ++ gather_from mems (suc i) (up_to (16 - length hs) ss)) (past (16 - length hs) ss)
      → Leads c g F (suc i) (out t a descs (Header k p (length hs)) (mems i) b chain (put stage 0 hs) code)
  unfolding total Inside Decides up_to past gather_from gathered onward
  headed e [] stage hs p i code q l h n w d = absurd (omega arith)
  headed e (s ∷ ss) stage hs p i code q l h n w d =
      go (leb (16 - length hs) s.len) refl d
      (λ bs code q f j. headed e ss stage (hs ++ bs) (record { buf = p.buf + 1; skip = 0 }) (suc i) code q f j n.2 (ahead-next chain (p.buf + 1) ss (ahead-rest chain p s ss w)))
    where
      go : (v : Bool) → leb (16 - length hs) s.len ≡ v
          → Decides stage (i + length (pick v (record { at = s.at; len = 16 - length hs } ∷ []) (s ∷ up_to (16 - length hs - s.len) ss)))
          (hs ++ gather_from mems (suc i) (pick v (record { at = s.at; len = 16 - length hs } ∷ []) (s ∷ up_to (16 - length hs - s.len) ss)))
          (pick v (pick (eqb (16 - length hs) s.len) ss (record { at = s.at + (16 - length hs); len = s.len - (16 - length hs) } ∷ ss)) (past (16 - length hs - s.len) ss))
          → ((bs : List ℕ) (code : ℕ) → code ≡ 1 → length (hs ++ bs) < 16 → 16 - length (hs ++ bs) ≤ total ss
          → Decides stage (suc i + length (up_to (16 - length (hs ++ bs)) ss)) ((hs ++ bs) ++ gather_from mems (suc (suc i)) (up_to (16 - length (hs ++ bs)) ss)) (past (16 - length (hs ++ bs)) ss)
          → Leads c g F (suc (suc i)) (out t a descs (Header k (record { buf = p.buf + 1; skip = 0 }) (length (hs ++ bs))) (mems (suc i)) b chain (put stage 0 (hs ++ bs)) code))
          → Leads c g F (suc i) (out t a descs (Header k p (length hs)) (mems i) b chain (put stage 0 hs) code)
      go true v d ih =
          let le = leb-true (16 - length hs) s.len v in
          let o : i + 1 ≡ suc i = omega arith in
          header-takes e s ss stage hs p i code (16 - length hs) q (omega arith) w
          (λ code q. rw (le-ltb (length hs + (16 - length hs)) 16 (omega arith))
          ((rw (o, append-nil) at d) (onward p s.len (16 - length hs)) code q (ahead-on chain p s ss (16 - length hs) le w)))
      go false v d ih =
          let lt = leb-false (16 - length hs) s.len v in
          let bs : List ℕ = part s.at s.len (mems (suc i)) in
          let lb : length bs ≡ s.len = length_part s.at s.len (mems (suc i)) (omega (arith, e.long (suc i), n.1)) in
          let lh : length (hs ++ bs) ≡ length hs + s.len = length-append hs bs ∙ ap (λ (x : ℕ). length hs + x) lb in
          let z : 16 - length hs - s.len ≡ 16 - length (hs ++ bs) = omega arith in
          let o : i + suc (length (up_to (16 - length (hs ++ bs)) ss)) ≡ suc i + length (up_to (16 - length (hs ++ bs)) ss) = omega arith in
          header-takes e s ss stage hs p i code s.len q (omega arith) w
          (λ code q. rw (lt-ltb (length hs + s.len) 16 (omega arith), eq-eqb s.len s.len refl, ← lh)
          (ih bs code q (omega arith) (omega arith) (rw append_assoc (rw (z, o) at d))))

  ends-when : (p : Place) (got : ℕ) (v : Bool) → eqb (got + (left chain p).len) (k.r - 16) ≡ v → ends k got (left chain p).len ≡ v
  unfolding ends
  ends-when p got v e = e

  -- S5: the staged bytes and the last buffer's are the data, in chain order
  pub paid-out : Beside c g mems m → (s : Span) (ss : List Span) (stage hs : List ℕ) (p : Place) (sector i code : ℕ) → code ≡ 1 → length hs + total (s ∷ ss) ≡ k.r - 16 → k.r - 16 ≤ length stage
      → Inside m (s ∷ ss) → Ahead chain p (s ∷ ss)
      → ((stage : List ℕ) (code : ℕ) → code ≡ 1 → Leads c g F (suc (i + length (s ∷ ss)))
      (out t a descs (Answer k Done k.r) (mems (i + length (s ∷ ss))) (put b (c.disk.start + 512 * sector) (hs ++ gather_from mems (suc i) (s ∷ ss))) chain stage code))
      → Leads c g F (suc i) (out t a descs (Payload k p sector (length hs)) (mems i) b chain (put stage 0 hs) code)
  unfolding total Inside gather_from
  paid-out e s [] stage hs p sector i code q h r n w f =
      let bs : List ℕ = part s.at s.len (mems (suc i)) in
      let x = ahead-at chain p s [] w in
      let y = ahead-len chain p s [] w in
      let o : i + 1 ≡ suc i = omega arith in
      let u : part 0 (length hs) (put stage 0 hs) ≡ hs = part-put stage 0 (length hs) hs refl (omega arith) in
      payload-last c g mems F t a descs b i k p sector (length hs) chain (put stage 0 hs) code q (e.goes_on i) bs (rw (x, y))
      (ends-when p (length hs) true (eq-eqb (length hs + (left chain p).len) (k.r - 16) (omega arith)))
      (λ code q. rw u ((rw (o, append-nil) at f) (put stage 0 hs) code q))
  paid-out e s (s₂ ∷ ss) stage hs p sector i code q h r n w f =
      let bs : List ℕ = part s.at s.len (mems (suc i)) in
      let x = ahead-at chain p s (s₂ ∷ ss) w in
      let y = ahead-len chain p s (s₂ ∷ ss) w in
      let lb : length bs ≡ s.len = length_part s.at s.len (mems (suc i)) (omega (arith, e.long (suc i), n.1)) in
      let lh : length (hs ++ bs) ≡ length hs + s.len = length-append hs bs ∙ ap (λ (x : ℕ). length hs + x) lb in
      let o : i + suc (suc (length ss)) ≡ suc i + suc (length ss) = omega arith in
      let one = n.2.0 in
      payload-turn c g mems F t a descs b i k p sector (length hs) chain (put stage 0 hs) code q (e.goes_on i) bs (rw (x, y))
      (ends-when p (length hs) false (ne_eqb (length hs + (left chain p).len) (k.r - 16) (λ z. omega arith)))
      (λ code q. rw (y, stage-more, ← lh)
      (paid-out e s₂ ss stage (hs ++ bs) (record { buf = p.buf + 1; skip = 0 }) sector (suc i) code q (omega arith) r n.2
      (ahead-next chain (p.buf + 1) (s₂ ∷ ss) (ahead-rest chain p s (s₂ ∷ ss) w)) (rw append_assoc (rw o at f))))
