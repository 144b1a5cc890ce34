-- Accounts: which heads a history takes, answers and drops.
use Rattle.std.specs.Prelude.{ℕ, List, [], ◌∷◌, ◌++◌, map, ltb, eqb, length, ◌≡◌}
use Rattle.model.specs.Pick.{pick}
use Rattle.words.specs.Layout.{state_words, row_at, phase_of, level}
use Rattle.guarantees.specs.History.{Call, memory, disk, enable, reset, step, World, ran, left}
use Rattle.model.specs.declared.Walk.{Walk}
use Rattle.model.specs.declared.Job.{Job}
use Rattle.model.specs.declared.Phase.{Phase}
use Rattle.model.specs.declared.Phase.TheVariants.{Poll, Entry, Chain, Header, Payload, Answer, Publish, Broken}

-- the head at hand: none or one. A broken queue keeps the one that broke it, if a head had been fetched.
unfoldable pub held : Phase → List ℕ
held Poll = []
held Entry = []
held (Chain k cur) = k.head ∷ []
held (Header k p got) = k.head ∷ []
held (Payload k p s got) = k.head ∷ []
held (Answer k job got) = k.head ∷ []
held (Publish k got) = k.head ∷ []
held (Broken reason head count at) = pick (eqb count 0) [] (head ∷ [])

-- .. of a world; none where no queue is enabled
unfoldable pub at_hand : World → List ℕ
at_hand w = pick (ltb (length w.state) state_words) [] (pick (eqb (level w.state) 3) (held (phase_of (row_at w.state))) [])

-- what becomes of a head
pub data Fate : Type 0 where
  answered : ℕ → Fate
  dropped : ℕ → Fate

unfoldable pub head_of : Fate → ℕ
head_of (answered h) = h
head_of (dropped h) = h

-- what one step takes: the entry that it fetched, if that is a head. What it answers: the head that it publishes.
unfoldable pub takes : Phase → Phase → List ℕ
takes Poll q = []
takes Entry q = held q
takes (Chain k cur) q = []
takes (Header k p got) q = []
takes (Payload k p s got) q = []
takes (Answer k job got) q = []
takes (Publish k got) q = []
takes (Broken reason head count at) q = []

unfoldable pub gives : Phase → List ℕ
gives Poll = []
gives Entry = []
gives (Chain k cur) = []
gives (Header k p got) = []
gives (Payload k p s got) = []
gives (Answer k job got) = []
gives (Publish k got) = k.head ∷ []
gives (Broken reason head count at) = []

-- .. of a call
unfoldable pub taken : World → Call → List ℕ
taken w (memory words m) = []
taken w (disk start sectors ro id backing) = []
taken w (enable size desc avail used chain stage start) = []
taken w reset = []
taken w (step mem) = takes (phase_of (row_at w.state)) (phase_of (row_at (ran w (step mem)).state))

-- a step that answers 2 answers a head; hd_memory and hd_reset drop what is at hand
unfoldable pub fates : World → Call → List Fate
fates w (memory words m) = pick (eqb (ran w (memory words m)).code 0) (map dropped (at_hand w)) []
fates w (disk start sectors ro id backing) = []
fates w (enable size desc avail used chain stage start) = []
fates w reset = map dropped (at_hand w)
fates w (step mem) = pick (eqb (ran w (step mem)).code 2) (map answered (gives (phase_of (row_at w.state)))) []

-- .. of a history
unfoldable pub taken_in : World → List Call → List ℕ
taken_in w [] = []
taken_in w (c ∷ cs) = taken w c ++ taken_in (left (ran w c)) cs

unfoldable pub fates_in : World → List Call → List Fate
fates_in w [] = []
fates_in w (c ∷ cs) = fates w c ++ fates_in (left (ran w c)) cs

-- the step before was S6 of this request
pub record AfterAnswer (p : Phase) (k : Walk) (got : ℕ) : Type 0 where
  pub job : Job
  pub is : p ≡ Answer k job got
