-- What rows leave in guest memory: places that nobody has laid hold 0xee.
use Rattle.std.specs.Prelude.{ℕ, ◌-◌, List, leb, length, replicate}
use Rattle.model.specs.Pick.{pick, both}
use Rattle.model.specs.Bytes.{put}

-- the places from a up to b, where there are such; else all as before
unfoldable pub blanked : ℕ → ℕ → List ℕ → List ℕ
blanked a b m = pick (both (leb a b) (leb b (length m))) (put m a (replicate (b - a) 238)) m

-- where the rows with a chain of 1,024 lay or may write: header, data and status, descriptors and available ring, used ring
unfoldable pub cleared : List ℕ → List ℕ
cleared m = blanked 53248 53260 (blanked 32768 49158 (blanked 20480 28673 (blanked 16384 16400 m)))
