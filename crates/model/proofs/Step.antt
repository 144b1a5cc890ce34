-- The laws of a step's pieces: the buffers of a chain, and what is written into them.
use Prim.Native.Nat.{ℕ, suc, ◌+◌, ◌-◌, ◌*◌, ◌≤◌, ◌<◌, min}
use mathlib.Core.List.{List, [], ◌∷◌, ◌++◌}
use mathlib.Core.Path.{◌≡◌, refl, ◌∙◌}
use native.Mathlib.Omega.{arith}
use native.Mathlib.Numerals.{add-one}
use lib.ListN.{length, get_or}
use Rattle.model.specs.Bytes.{put, part}
use Rattle.model.proofs.Lists.{take_part, drop-part, length-put, put-nil}
use lib.Seq.{take-nil, drop-nil}
use Rattle.model.specs.Step.{buffer, spans, Store, apply, scatter}
use Rattle.model.specs.declared.Span.{Span}

-- the buffers from i up to e: the first of them, and the others
pub spans-turn : (i e : ℕ) (chain : List ℕ) → i < e → spans (e - i) i chain ≡ buffer chain i ∷ spans (e - (i + 1)) (i + 1) chain
unfolding spans
spans-turn i e chain h = let p : e - i ≡ suc (e - (i + 1)) = omega arith in rw (p, add-one i)

pub spans-end : (i e : ℕ) (chain : List ℕ) → e ≤ i → spans (e - i) i chain ≡ []
unfolding spans
spans-end i e chain h = let p : e - i ≡ 0 = omega arith in rw p

-- a turn of the loop that hands out bytes: what the buffer takes is put into it, the rest goes to the others
pub spread-turn : (i e : ℕ) (chain : List ℕ) (pos n : ℕ) (src mem : List ℕ) → i < e
    → apply (scatter (spans (e - i) i chain) (part pos n src)) mem
    ≡ apply (scatter (spans (e - (i + 1)) (i + 1) chain) (part (pos + min (get_or chain (2 * i + 1) 0) n) (n - min (get_or chain (2 * i + 1) 0) n) src))
    (put mem (get_or chain (2 * i) 0) (part pos (min (get_or chain (2 * i + 1) 0) n) src))
unfolding apply scatter
spread-turn i e chain pos n src mem h =
    rw (spans-turn i e chain h, take_part pos n (get_or chain (2 * i + 1) 0) src, drop-part pos n (get_or chain (2 * i + 1) 0) src)

pub spread_end : (i e : ℕ) (chain bs mem : List ℕ) → e ≤ i → apply (scatter (spans (e - i) i chain) bs) mem ≡ mem
unfolding apply scatter
spread_end i e chain bs mem h = rw (spans-end i e chain h)

pub apply-append : (xs ys : List Store) (m : List ℕ) → apply (xs ++ ys) m ≡ apply ys (apply xs m)
unfolding apply
apply-append [] ys m = refl
apply-append (x ∷ xs) ys m = apply-append xs ys (put m x.to x.bytes)

pub length-apply : (xs : List Store) (m : List ℕ) → length (apply xs m) ≡ length m
unfolding apply
length-apply [] m = refl
length-apply (x ∷ xs) m = length-apply xs (put m x.to x.bytes) ∙ length-put m x.to x.bytes

-- no bytes, nothing written
pub scatter-nil : (ss : List Span) (m : List ℕ) → apply (scatter ss []) m ≡ m
unfolding apply scatter
scatter-nil [] m = refl
scatter-nil (s ∷ ss) m = rw (take-nil {A = ℕ} s.len, drop-nil {A = ℕ} s.len, put-nil m s.at) (scatter-nil ss m)
