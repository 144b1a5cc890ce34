-- The states that set-up and steps make: what is true of the request at hand, beyond what each call tests.
use Rattle.std.specs.Prelude.{ℕ, zero, suc, ◌+◌, ◌-◌, ◌*◌, ◌≤◌, ◌<◌, true, List, ◌≡◌, get_or}
use Rattle.model.specs.Memory.{Region, regions}
use Rattle.words.specs.Layout.{map_words, phase_of, row_at, sectors_word, ro_word, size_word, desc_area_word, avail_area_word, used_area_word}
use Rattle.model.specs.Request.{fits}
use Rattle.model.specs.Sane.{job_ok, refused_at}
use Rattle.model.proofs.Memory.{InOne}
use Rattle.model.specs.declared.Walk.{Walk}
use Rattle.model.specs.declared.Place.{Place}
use Rattle.model.specs.declared.Phase.{Phase}
use Rattle.model.specs.declared.Phase.TheVariants.{Poll, Entry, Chain, Header, Payload, Answer, Publish, Broken}

-- bytes of the first n buffers of the private chain
unfoldable pub before : List ℕ → ℕ → ℕ
before chain zero = 0
before chain (suc n) = before chain n + get_or chain (2 * n + 1) 0

-- a buffer that lies in one registered region, from some guest address on
pub record Spot (rs : List Region) (at len : ℕ) : Type 0 where
  pub address : ℕ
  pub in_one : InOne rs address len at
  pub short : len ≤ 4294967295

-- the chain as far as it is held: each buffer in one region, r and w the sums of the lengths
pub record WalkGood (rs : List Region) (q : ℕ) (chain : List ℕ) (k : Walk) : Type 0 where
  pub head_in : k.head < q
  pub count-in : k.count ≤ q
  pub reads_in : k.reads ≤ k.count
  pub buffers : (i : ℕ) → i < k.count → Spot rs (get_or chain (2 * i) 0) (get_or chain (2 * i + 1) 0)
  pub r-is : k.r ≡ before chain k.reads
  pub w-is : k.r + k.w ≡ before chain k.count

-- n bytes of the readable string have been fetched, and this is the place of the next
pub record Next (chain : List ℕ) (k : Walk) (p : Place) (n : ℕ) : Type 0 where
  pub buf-in : p.buf < k.reads
  pub skip-in : p.skip < get_or chain (2 * p.buf + 1) 0
  pub n-is : before chain p.buf + p.skip ≡ n

unfoldable pub Good : List Region → ℕ → ℕ → List ℕ → Phase → Type 0
Good rs q sectors chain Poll = Unit {0}
Good rs q sectors chain Entry = Unit {0}
Good rs q sectors chain (Chain k cur) = WalkGood rs q chain k × (cur < q)
Good rs q sectors chain (Header k p got) = WalkGood rs q chain k × (k.reads < k.count) × (got < 16) × (16 ≤ k.r) × Next chain k p got
Good rs q sectors chain (Payload k p s got) =
    WalkGood rs q chain k × (k.reads < k.count) × (16 < k.r) × (got < k.r - 16) × (fits (k.r - 16) s sectors ≡ true) × Next chain k p (16 + got)
Good rs q sectors chain (Answer k job got) = WalkGood rs q chain k × (k.reads < k.count) × (got ≤ k.r) × (job_ok sectors k job ≡ true)
Good rs q sectors chain (Publish k got) = WalkGood rs q chain k × (k.reads < k.count) × (got ≤ k.r)
Good rs q sectors chain (Broken reason head count at) = (1 ≤ reason) × (reason ≤ 8) × (head < q) × (count ≤ q + 1) × (refused_at q count at ≡ true)

-- a payload is fetched for a disk that is not read-only
unfoldable pub Open : ℕ → Phase → Type 0
Open ro Poll = Unit {0}
Open ro Entry = Unit {0}
Open ro (Chain k cur) = Unit {0}
Open ro (Header k p got) = Unit {0}
Open ro (Payload k p s got) = ro ≡ 0
Open ro (Answer k job got) = Unit {0}
Open ro (Publish k got) = Unit {0}
Open ro (Broken reason head count at) = Unit {0}

-- an area of n bytes that lies in one registered region
pub record Area (rs : List Region) (at n : ℕ) : Type 0 where
  pub address : ℕ
  pub in_one : InOne rs address n at

-- words of an enabled queue that set-up and steps made, beside the chain memory
pub record Made (s chain : List ℕ) : Type 0 where
  pub desc-area : Area (regions (map_words s)) (get_or s desc_area_word 0) (16 * get_or s size_word 0)
  pub avail-area : Area (regions (map_words s)) (get_or s avail_area_word 0) (6 + 2 * get_or s size_word 0)
  pub used-area : Area (regions (map_words s)) (get_or s used_area_word 0) (6 + 8 * get_or s size_word 0)
  pub good : Good (regions (map_words s)) (get_or s size_word 0) (get_or s sectors_word 0) chain (phase_of (row_at s))
  pub open-disk : Open (get_or s ro_word 0) (phase_of (row_at s))
