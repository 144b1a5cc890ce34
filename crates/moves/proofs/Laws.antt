-- One turn of the loop of eights: a number's bytes are the eight that it was read from, so the part copied grows by eight.
use Prim.Native.Nat.{ℕ, ◌+◌, ◌*◌, ◌≤◌, ◌<◌}
use native.Mathlib.Omega.{arith}
use mathlib.Core.Path.{◌≡◌}
use mathlib.Core.List.{List}
use lib.ListN.{length, get_or}
use Rattle.model.specs.Bytes.{put, part, word, bytes}
use Rattle.model.proofs.Lists.{put-more}
use Rattle.model.proofs.Words.{bytes_word}

pub put-eight : (m : List ℕ) (k : ℕ) (s : List ℕ) (f i : ℕ) → ((j : ℕ) → get_or s j 0 < 256) → f + 8 * (i + 1) ≤ length s
    → put (put m k (part f (8 * i) s)) (k + 8 * i) (bytes 8 (word 8 (f + 8 * i) s)) ≡ put m k (part f (8 * (i + 1)) s)
put-eight m k s f i b h =
    let e : 8 * (i + 1) ≡ 8 * i + 8 = omega arith in
    rw (bytes_word 8 (f + 8 * i) s b (omega arith), e) (put-more m k s f (8 * i) 8 (omega arith))
