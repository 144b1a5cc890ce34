-- A chain is refused at the last descriptor that was fetched, and told by its number in the table.
use Prim.Native.Nat.{ℕ, zero, suc, ◌+◌, ◌-◌, ◌≤◌, ◌<◌}
use native.Mathlib.Omega.{arith}
use mathlib.Core.List.{List, [], ◌∷◌, ◌++◌}
use mathlib.Core.Path.{◌≡◌, refl}
use lib.Dec.{leb, ltb, eqb}
use lib.ListN.{length, length-append}
use borrow.Author.Tests.{leb-false, eqb-true}
use Rattle.model.specs.Ring.{pending}
use Rattle.model.specs.Chain.{tested}
use Rattle.model.specs.Step.{Cfg}
use Rattle.model.specs.declared.Span.{Span}
use Rattle.model.proofs.Tests.{on}
use Rattle.model.proofs.Chain.{next-room, last-room}
use Rattle.model.specs.declared.Desc.{Desc}
use Rattle.model.specs.declared.Tested.{Tested}
use Rattle.model.specs.declared.Tested.TheVariants.{Bad, Next, Last}
use Rattle.requests.specs.Serve.{Seen, walk, Followed, broke, whole, linked, follow, Outcome, answer, carried, serve}
use Rattle.requests.specs.Where.{number_at, Numbered, beyond, within, Told}

module _ (c : Cfg) (v : Seen) (head : ℕ) where
  -- from a chain of which these buffers are held, at most f descriptors more
  unfoldable Holds : ℕ → Type 0
  Holds f =
      (n : ℕ) (rs ws : List Span) → f + (length rs + length ws) ≡ suc c.queue.size → length rs + length ws ≤ c.queue.size
      → n ≡ number_at v head (length rs + length ws) → Numbered c.queue.size v head (follow c v head f n rs ws)

  one_more : (f : ℕ) → Holds f → Holds (suc f)
  unfolding Holds follow linked tested walk Numbered number_at
  one_more f ih n rs ws h l e = go (tested c.map c.queue.size (walk head rs ws) d) refl
    where
      d : Desc
      d = v.desc (length rs + length ws) n

      more : ℕ → List Span → List Span → Followed
      more = λ i xs ys. follow c v head f i xs ys

      goes : (xs ys : List Span) → length xs + length ys ≡ suc (length rs + length ws) → length rs + length ws < c.queue.size
          → Numbered c.queue.size v head (more d.next xs ys)
      goes xs ys m r = ih d.next xs ys (omega arith) (omega arith) (rw (m, e))

      ends : (xs ys : List Span) → length xs + length ys ≡ suc (length rs + length ws) → length rs + length ws < c.queue.size
          → Numbered c.queue.size v head (whole xs ys n)
      ends xs ys m r = let z : length xs + length ys - 1 ≡ length rs + length ws = omega arith in (omega arith, omega arith, rw z e)

      go : (x : Tested) → tested c.map c.queue.size (walk head rs ws) d ≡ x → Numbered c.queue.size v head (linked more n d rs ws x)
      go (Bad r) u = let z : length rs + length ws + 1 - 1 ≡ length rs + length ws = omega arith in (omega arith, omega arith, rw z e)
      go (Next x) u =
          let r = leb-false c.queue.size (length rs + length ws) (next-room _ _ _ _ _ _ _ x u) in
          let s : Span = record { at = x; len = d.len } in
          on (Numbered c.queue.size v head) (ltb d.flags 2) (λ b. goes (rs ++ (s ∷ [])) ws (omega (arith, length-append rs (s ∷ []))) r)
          (λ b. goes rs (ws ++ (s ∷ [])) (omega (arith, length-append ws (s ∷ []))) r)
      go (Last x) u =
          let r = leb-false c.queue.size (length rs + length ws) (last-room _ _ _ _ _ _ _ x u) in
          let s : Span = record { at = x; len = d.len } in
          on (Numbered c.queue.size v head) (ltb d.flags 2) (λ b. ends (rs ++ (s ∷ [])) ws (omega (arith, length-append rs (s ∷ []))) r)
          (λ b. ends rs (ws ++ (s ∷ [])) (omega (arith, length-append ws (s ∷ []))) r)

  held-numbered : (f : ℕ) → Holds f
  unfolding Holds
  held-numbered zero n rs ws h l e = absurd (omega arith)
  held-numbered (suc f) n rs ws h l e = one_more f (held-numbered f) n rs ws h l e

  -- following a chain from its head
  pub follow-numbered : Numbered c.queue.size v head (follow c v head (c.queue.size + 1) head [] [])
  unfolding Holds number_at
  follow-numbered = held-numbered (c.queue.size + 1) head [] [] (omega arith) (omega arith) refl

carried-where : (c : Cfg) (v : Seen) (a : ℕ) (backing : List ℕ) (head : ℕ) (x : Followed) → Numbered c.queue.size v head x
    → Told c.queue.size v (carried c v a backing head x)
unfolding Numbered Told carried answer
carried-where c v a backing head (broke reason fetched at) h = within h.0 h.2
carried-where c v a backing head (whole rs ws last) h =
    on (Told c.queue.size v) (eqb (length ws) 0)
    (λ e. let n : length ws ≡ 0 = eqb-true (length ws) 0 e in
    let k = h.0 in
    let z : length rs - 1 ≡ length rs + length ws - 1 = omega arith in within (omega arith) (rw z h.2))
    (λ e. (h.0, h.1))

-- What becomes of the next available entry: a break is told at the descriptor that was fetched last, by its number, or at none if none was fetched.
pub serve-where : (c : Cfg) (v : Seen) (t a : ℕ) (backing : List ℕ) → Told c.queue.size v (serve c v t a backing)
unfolding serve Told
serve-where c v t a backing =
    let P : Outcome → Type 0 = Told c.queue.size v in
    on P (eqb (pending v.idx t) 0) (λ e. tt)
    (λ e. on P (ltb c.queue.size (pending v.idx t)) (λ f. beyond refl refl)
    (λ f. on P (leb c.queue.size v.entry) (λ g. beyond refl refl)
    (λ g. carried-where c v a backing v.entry (follow c v v.entry (c.queue.size + 1) v.entry [] []) (follow-numbered c v v.entry))))
