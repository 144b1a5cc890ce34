-- Bytes: a memory is a list of numbers; what is put into it, a part of it, and numbers in it, lowest byte first (01, head).
use Rattle.std.specs.Prelude.{ℕ, zero, suc, ◌+◌, ◌*◌, ◌/◌, ◌%◌, List, [], ◌∷◌, get_or, take, drop}

-- m with bs from place k on. What would leave m is dropped, so the length stays.
unfoldable pub put : List ℕ → ℕ → List ℕ → List ℕ
put [] k bs = []
put (x ∷ m) (suc k) bs = x ∷ put m k bs
put (x ∷ m) zero [] = x ∷ m
put (x ∷ m) zero (b ∷ bs) = b ∷ put m zero bs

-- n elements of m from place k on, fewer where m ends before
unfoldable pub part : ℕ → ℕ → List ℕ → List ℕ
part k n m = take n (drop k m)

-- the number of n bytes at place k, lowest byte first: n = 2, 4, 8 for u16, u32, u64
unfoldable pub word : ℕ → ℕ → List ℕ → ℕ
word zero k m = 0
word (suc n) k m = get_or m k 0 + 256 * word n (suc k) m

-- a number as n bytes, lowest byte first
unfoldable pub bytes : ℕ → ℕ → List ℕ
bytes zero v = []
bytes (suc n) v = v % 256 ∷ bytes n (v / 256)
