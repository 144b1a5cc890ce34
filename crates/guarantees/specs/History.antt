-- Histories: any sequence of calls, refused ones too, with guest memory replaced at will before each step.
use Rattle.std.specs.Prelude.{ℕ, ◌+◌, ◌*◌, ◌≤◌, ◌<◌, List, [], ◌∷◌, ◌++◌, ◌≡◌, get_or, length, eqb, ltb}
use Rattle.model.specs.Pick.{pick}
use Rattle.model.proofs.Lists.{Apart}
use Rattle.model.specs.Step.{want, used_at, writables, Store, disk_stores, effect}
use Rattle.model.specs.declared.Span.{Span}
use Rattle.model.specs.Bytes.{part}
use Rattle.model.specs.Sane.{ready}
use Rattle.device.specs.Turn.{cfg_of}
use Rattle.words.specs.Layout.{state_words, row_at, phase_of, config_at, map_words, level, mem_len_word, start_word, sectors_word, taken_word}
use Rattle.model.specs.declared.Queue.{Queue}
use Rattle.model.specs.declared.Phase.{Phase}
use Rattle.model.specs.declared.Phase.TheVariants.{Poll, Entry, Chain, Header, Payload, Answer, Publish, Broken}
use Rattle.hostiledisk.specs.Calls.{Set, Called, hd_memory, hd_disk, hd_enable_at, hd_reset, hd_step, is_broken, long_enough}

-- a call; hd_enable is hd_enable_at with start 0. A step comes with the guest memory that it finds, whatever that holds.
pub data Call : Type 0 where
  memory : List ℕ → ℕ → Call
  disk : ℕ → ℕ → ℕ → List ℕ → ℕ → Call
  enable : ℕ → ℕ → ℕ → ℕ → ℕ → ℕ → ℕ → Call
  reset : Call
  step : List ℕ → Call

-- what the host lends from call to call
pub record World : Type 0 where
  pub state : List ℕ
  pub backing : List ℕ
  pub chain : List ℕ
  pub stage : List ℕ

-- a set-up call sees and touches the state words alone
abbrev pub set_up : World → Set → Called
set_up w x = record { code = x.code; state = x.state; mem = []; backing = w.backing; chain = w.chain; stage = w.stage }

-- what a call answers and leaves
unfoldable pub ran : World → Call → Called
ran w (memory words m) = set_up w (hd_memory w.state words m)
ran w (disk start sectors ro id backing) = set_up w (hd_disk w.state start sectors ro id backing)
ran w (enable size desc avail used chain stage start) = set_up w (hd_enable_at w.state size desc avail used chain stage start)
ran w reset = set_up w (hd_reset w.state)
ran w (step mem) = hd_step w.state mem w.backing w.chain w.stage

abbrev pub left : Called → World
left o = record { state = o.state; backing = o.backing; chain = o.chain; stage = o.stage }

unfoldable pub run : World → List Call → World
run w [] = w
run w (c ∷ cs) = run (left (ran w c)) cs

-- what guest and host can see of a call: everything but the backing slice
pub record View : Type 0 where
  pub code : ℕ
  pub state : List ℕ
  pub mem : List ℕ
  pub chain : List ℕ
  pub stage : List ℕ

abbrev pub view : Called → View
view o = record { code = o.code; state = o.state; mem = o.mem; chain = o.chain; stage = o.stage }

unfoldable pub views : World → List Call → List View
views w [] = []
views w (c ∷ cs) = view (ran w c) ∷ views (left (ran w c)) cs

-- byte i of the backing slice lies outside the disk's range, whenever a step is made
unfoldable pub OutsideNow : ℕ → World → Call → Type 0
OutsideNow i w (memory words m) = Unit {0}
OutsideNow i w (disk start sectors ro id backing) = Unit {0}
OutsideNow i w (enable size desc avail used chain stage start) = Unit {0}
OutsideNow i w reset = Unit {0}
OutsideNow i w (step mem) = Apart i (get_or w.state start_word 0) (512 * get_or w.state sectors_word 0)

unfoldable pub Outside : ℕ → World → List Call → Type 0
Outside i w [] = Unit {0}
Outside i w (c ∷ cs) = OutsideNow i w c × Outside i (left (ran w c)) cs

-- the disk's range lies within a set of bytes, whenever a step is made
unfoldable pub WithinNow : (ℕ → Type 0) → World → Call → Type 0
WithinNow In w (memory words m) = Unit {0}
WithinNow In w (disk start sectors ro id backing) = Unit {0}
WithinNow In w (enable size desc avail used chain stage start) = Unit {0}
WithinNow In w reset = Unit {0}
WithinNow In w (step mem) = (i : ℕ) → get_or w.state start_word 0 ≤ i → i < get_or w.state start_word 0 + 512 * get_or w.state sectors_word 0 → In i

unfoldable pub Within : (ℕ → Type 0) → World → List Call → Type 0
Within In w [] = Unit {0}
Within In w (c ∷ cs) = WithinNow In w c × Within In (left (ran w c)) cs

-- two worlds that differ at most in bytes of the backing slice outside a set
pub record Alike (In : ℕ → Type 0) (w₁ w₂ : World) : Type 0 where
  pub same-state : w₁.state ≡ w₂.state
  pub same-chain : w₁.chain ≡ w₂.chain
  pub same-stage : w₁.stage ≡ w₂.stage
  pub same_length : length w₁.backing ≡ length w₂.backing
  pub same-inside : (i : ℕ) → In i → get_or w₁.backing i 0 ≡ get_or w₂.backing i 0

-- Any number of devices on one backing slice: what the host lends to each, and the slice.
pub record Lent : Type 0 where
  pub state : List ℕ
  pub chain : List ℕ
  pub stage : List ℕ

pub record House : Type 0 where
  pub lent : ℕ → Lent
  pub backing : List ℕ

-- a call to device `who`
pub record Turn : Type 0 where
  pub who : ℕ
  pub what : Call

-- the world as device k has it
abbrev pub world_of : House → ℕ → World
world_of h k = record { state = (h.lent k).state; backing = h.backing; chain = (h.lent k).chain; stage = (h.lent k).stage }

abbrev pub lent_by : Called → Lent
lent_by o = record { state = o.state; chain = o.chain; stage = o.stage }

unfoldable pub act : House → Turn → House
act h x =
    record {
      lent = λ (k : ℕ). pick (eqb x.who k) (lent_by (ran (world_of h x.who) x.what)) (h.lent k);
      backing = (ran (world_of h x.who) x.what).backing;
    }

unfoldable pub acts : House → List Turn → House
acts h [] = h
acts h (x ∷ xs) = acts (act h x) xs

-- device k's calls of an interleaving, and what is seen of them in it
unfoldable pub calls_of : ℕ → List Turn → List Call
calls_of k [] = []
calls_of k (x ∷ xs) = pick (eqb x.who k) (x.what ∷ calls_of k xs) (calls_of k xs)

unfoldable pub views_of : ℕ → House → List Turn → List View
views_of k h [] = []
views_of k h (x ∷ xs) = pick (eqb x.who k) (view (ran (world_of h x.who) x.what) ∷ views_of k (act h x) xs) (views_of k (act h x) xs)

-- each device's range lies within the device's own set, whenever it makes a step
unfoldable pub Apartments : (ℕ → ℕ → Type 0) → House → List Turn → Type 0
Apartments In h [] = Unit {0}
Apartments In h (x ∷ xs) = WithinNow (In x.who) (world_of h x.who) x.what × Apartments In (act h x) xs

-- the one range of guest memory that a step on these words wants
abbrev pub wanted : List ℕ → List ℕ → Span
wanted s chain = want (cfg_of (config_at s) (map_words s)) (get_or s taken_word 0) chain (phase_of (row_at s))

-- the ranges of guest memory that a step may write: writable buffers of the chain at hand and the used entry; or used idx
unfoldable pub touched : Queue → ℕ → List ℕ → Phase → List Span
touched q answered chain Poll = []
touched q answered chain Entry = []
touched q answered chain (Chain k cur) = []
touched q answered chain (Header k p got) = []
touched q answered chain (Payload k p s got) = []
touched q answered chain (Answer k job got) = record { at = used_at q answered; len = 8 } ∷ writables chain k
touched q answered chain (Publish k got) = record { at = q.used + 2; len = 2 } ∷ []
touched q answered chain (Broken reason head count at) = []

-- byte i lies outside all of these ranges
unfoldable pub Clear : ℕ → List Span → Type 0
Clear i [] = Unit {0}
Clear i (x ∷ xs) = Apart i x.at x.len × Clear i xs

-- guest memory is bytes, whatever they are
unfoldable pub BytesNow : Call → Type 0
BytesNow (memory words m) = Unit {0}
BytesNow (disk start sectors ro id backing) = Unit {0}
BytesNow (enable size desc avail used chain stage start) = Unit {0}
BytesNow reset = Unit {0}
BytesNow (step mem) = (i : ℕ) → get_or mem i 0 < 256

unfoldable pub Bytes : List Call → Type 0
Bytes [] = Unit {0}
Bytes (c ∷ cs) = BytesNow c × Bytes cs

-- what a call writes to the disk, relative to its first byte: the payload of an accepted write, in the step that carries it out
unfoldable pub written : World → Call → List Store
written w (memory words m) = []
written w (disk start sectors ro id backing) = []
written w (enable size desc avail used chain stage start) = []
written w reset = []
written w (step mem) =
    pick (ltb (length w.state) state_words) []
    (pick (eqb (level w.state) 3)
    (pick (is_broken (phase_of (row_at w.state))) []
    (pick (long_enough w.state (length mem) (length w.backing) (length w.chain) (length w.stage))
    (pick (ready (get_or w.state mem_len_word 0) w.chain (phase_of (row_at w.state)))
    (disk_stores (effect w.chain w.stage (phase_of (row_at w.state)) (part (wanted w.state w.chain).at (wanted w.state w.chain).len mem)))
    [])
    []))
    [])

unfoldable pub written_in : World → List Call → List Store
written_in w [] = []
written_in w (c ∷ cs) = written w c ++ written_in (left (ran w c)) cs

-- the disk is the n bytes from d on, whenever a step is made
unfoldable pub DiskNow : ℕ → ℕ → World → Call → Type 0
DiskNow d n w (memory words m) = Unit {0}
DiskNow d n w (disk start sectors ro id backing) = Unit {0}
DiskNow d n w (enable size desc avail used chain stage start) = Unit {0}
DiskNow d n w reset = Unit {0}
DiskNow d n w (step mem) = (get_or w.state start_word 0 ≡ d) × (512 * get_or w.state sectors_word 0 ≡ n)

unfoldable pub DiskIs : ℕ → ℕ → World → List Call → Type 0
DiskIs d n w [] = Unit {0}
DiskIs d n w (c ∷ cs) = DiskNow d n w c × DiskIs d n (left (ran w c)) cs

-- steps over these memories, one after the other, and how many of them answered a request
unfoldable pub steps : List (List ℕ) → List Call
steps [] = []
steps (m ∷ ms) = step m ∷ steps ms

unfoldable pub answers_in : World → List (List ℕ) → ℕ
answers_in w [] = 0
answers_in w (m ∷ ms) = pick (eqb (ran w (step m)).code 2) 1 0 + answers_in (left (ran w (step m))) ms
