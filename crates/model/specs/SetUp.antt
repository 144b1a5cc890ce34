-- What set-up refuses, as the numbers that the documents and the C interface have for it.
use Rattle.std.specs.Prelude.{ℕ, Result, Ok, Err}
use Rattle.model.specs.declared.Refusal.{Refusal}
use Rattle.model.specs.declared.Refusal.TheVariants.{RegionCount, EmptyRegion, LeavesSlice, LeavesAddresses, RegionsOverlap, QueueSize, Misaligned, NotInMemory, Entangled, Capacity, LeavesBacking, ChainMemory, StagingMemory, StartCount}

abbrev pub number : Refusal → ℕ
number RegionCount = 20
number EmptyRegion = 21
number LeavesSlice = 22
number LeavesAddresses = 23
number RegionsOverlap = 24
number QueueSize = 25
number Misaligned = 26
number NotInMemory = 27
number Entangled = 28
number Capacity = 29
number LeavesBacking = 30
number ChainMemory = 42
number StagingMemory = 43
number StartCount = 46

-- what a call of set-up answers: 0, or the number of what it refuses
abbrev pub answer_of : {A : Type 0} → Result A Refusal → ℕ
answer_of (Ok x) = 0
answer_of (Err e) = number e
