-- The C interface: what each call answers and leaves in every lent slice, tests in their order. A refusal touches nothing.
use Rattle.std.specs.Prelude.{ℕ, ◌+◌, ◌*◌, ◌/◌, ◌≤◌, Bool, true, false, List, [], ◌∷◌, ◌++◌, ◌≡◌, leb, ltb, eqb, get_or, length, set, Result, Ok, Err}
use Rattle.model.specs.Pick.{pick, both}
use Rattle.model.specs.Bytes.{put, word}
use Rattle.model.specs.Memory.{regions, memory_code}
use Rattle.model.specs.Ring.{queue_size_ok, areas, elsewhere}
use Rattle.model.specs.Request.{disk_code}
use Rattle.model.specs.SetUp.{number}
use Rattle.model.specs.Step.{Out, step}
use Rattle.model.specs.Sane.{sane, ready}
use Rattle.model.specs.declared.Refusal.{Refusal}
use Rattle.model.specs.declared.Phase.{Phase}
use Rattle.model.specs.declared.Phase.TheVariants.{Poll, Entry, Chain, Header, Payload, Answer, Publish, Broken}
use Rattle.hostiledisk.specs.declared.Seen.{Seen}
use Rattle.model.specs.declared.Queue.{Queue}
use Rattle.device.specs.Turn.{cfg_of, state_of}
use Rattle.words.specs.Layout.{state_words, row_of, row_words, row_at, phase_of, saved, config_at, map_words, framed, level, level_word, mem_len_word, start_word, backing_len_word, size_word, chain_len_word, stage_len_word, taken_word, answered_word, tag_word, head_word, count_word, a_word, b_word, descs_word, regions_from}

-- what a set-up call answers, and the state afterwards
pub record Set : Type 0 where
  pub code : ℕ
  pub state : List ℕ

abbrev pub told : ℕ → List ℕ → Set
told code s = record { code = code; state = s }

-- hd_chain_words: two words for each descriptor, "0 for a size that enabling refuses"
unfoldable pub chain_words : ℕ → ℕ
chain_words q = pick (queue_size_ok q) (2 * q) 0

-- hd_memory: "40 state too short · 20 to 24 · 0". It forgets everything that was set up before.
unfoldable pub memory_set : List ℕ → List ℕ → ℕ → List ℕ
memory_set s ws m = put (put s level_word (1 ∷ m ∷ length ws / 3 ∷ [])) regions_from ws

unfoldable pub hd_memory : List ℕ → List ℕ → ℕ → Set
hd_memory s ws m =
    pick (ltb (length s) state_words) (told 40 s)
    (pick (eqb (memory_code m ws) 0) (told 0 (memory_set s ws m)) (told (memory_code m ws) s))

-- hd_disk: "40 · 41 no memory registered, or a queue is enabled · 44 identity not 20 bytes · 29, 30 · 0"
abbrev pub flag : ℕ → ℕ
flag n = pick (eqb n 0) 0 1

unfoldable pub disk_set : List ℕ → ℕ → ℕ → ℕ → List ℕ → ℕ → List ℕ
disk_set s start sectors ro id backing =
    put (set s level_word 2) start_word (start ∷ sectors ∷ flag ro ∷ backing ∷ word 8 0 id ∷ word 8 8 id ∷ word 4 16 id ∷ [])

unfoldable pub hd_disk : List ℕ → ℕ → ℕ → ℕ → List ℕ → ℕ → Set
hd_disk s start sectors ro id backing =
    pick (ltb (length s) state_words) (told 40 s)
    (pick (both (leb 1 (level s)) (leb (level s) 2))
    (pick (eqb (length id) 20)
    (pick (eqb (disk_code start sectors backing) 0) (told 0 (disk_set s start sectors ro id backing)) (told (disk_code start sectors backing) s))
    (told 44 s))
    (told 41 s))

-- hd_enable_at: "40 · 41 memory or disk missing, or already enabled · 25 to 28 · 42 chain memory too small · 43 staging memory too small · 46 start is 65,536 or more"
abbrev pub queue_words : Queue → ℕ → ℕ → ℕ → List ℕ
queue_words q chain stage start = q.size ∷ q.desc ∷ q.avail ∷ q.used ∷ chain ∷ stage ∷ start ∷ start ∷ (row_words (row_of Poll) ++ (0 ∷ []))

unfoldable pub queue_set : List ℕ → Queue → ℕ → ℕ → ℕ → List ℕ
queue_set s q chain stage start = put (set s level_word 3) size_word (queue_words q chain stage start)

-- a refusal as its number, since enabling takes any number
abbrev pub numbered : {A : Type 0} → Result A Refusal → Result A ℕ
numbered (Ok x) = Ok x
numbered (Err e) = Err (number e)

-- what such a result is answered as: 0, or the number
abbrev pub number_of : {A : Type 0} → Result A ℕ → ℕ
number_of (Ok x) = 0
number_of (Err n) = n

unfoldable pub enabled_with : List ℕ → ℕ → ℕ → ℕ → Result Queue ℕ → Set
enabled_with s chain stage start (Err n) = told n s
enabled_with s chain stage start (Ok q) =
    pick (ltb chain (2 * q.size)) (told 42 s)
    (pick (ltb stage 1048576) (told 43 s)
    (pick (leb 65536 start) (told 46 s)
    (told 0 (queue_set s q chain stage start))))

unfoldable pub hd_enable_at : List ℕ → ℕ → ℕ → ℕ → ℕ → ℕ → ℕ → ℕ → Set
hd_enable_at s size desc avail used chain stage start =
    pick (ltb (length s) state_words) (told 40 s)
    (pick (eqb (level s) 2) (enabled_with s chain stage start (numbered (areas (regions (map_words s)) size desc avail used))) (told 41 s))

-- hd_reset: "40 · 0". The queue is not enabled any more; memory and disk stay.
unfoldable pub hd_reset : List ℕ → Set
hd_reset s = pick (ltb (length s) state_words) (told 40 s) (told 0 (pick (eqb (level s) 3) (set s level_word 2) s))

-- hd_status: enabled · broken reason · taken · answered · the step that comes next · head · descriptors fetched · bytes fetched.
-- "The last three are 0 where there is no request at hand"; after a break they speak of the request that broke the queue.
-- DEV-12, two words more: the descriptor at which the chain was refused, "65,536 where the queue is in order or broke elsewhere"
-- · "the number of descriptors of the last chain that was complete"
abbrev pub seen : ℕ → ℕ → ℕ → ℕ → ℕ → ℕ → Seen
seen reason step head count bytes at = record { reason = reason; step = step; head = head; count = count; bytes = bytes; at = at }

unfoldable pub seen_of : Phase → Seen
seen_of Poll = seen 0 1 0 0 0 elsewhere
seen_of Entry = seen 0 2 0 0 0 elsewhere
seen_of (Chain k cur) = seen 0 3 k.head k.count 0 elsewhere
seen_of (Header k p got) = seen 0 4 k.head k.count got elsewhere
seen_of (Payload k p s got) = seen 0 5 k.head k.count (16 + got) elsewhere
seen_of (Answer k job got) = seen 0 6 k.head k.count got elsewhere
seen_of (Publish k got) = seen 0 7 k.head k.count got elsewhere
seen_of (Broken reason head count at) = seen reason 0 head count 0 at

unfoldable pub shown : ℕ → ℕ → ℕ → Seen → List ℕ
shown enabled taken answered x = enabled ∷ x.reason ∷ taken ∷ answered ∷ x.step ∷ x.head ∷ x.count ∷ x.bytes ∷ []

abbrev pub shown_more : ℕ → Seen → List ℕ
shown_more descs x = x.at ∷ descs ∷ []

-- "Where the queue isn't enabled all words are 0."
abbrev pub unseen : Seen
unseen = seen 0 0 0 0 0 0

-- the first eight words, or all ten: "with an out of ten or more words"
unfoldable pub status_words : Bool → List ℕ → List ℕ
status_words more s =
    pick (eqb (level s) 3)
    (shown 1 (get_or s taken_word 0) (get_or s answered_word 0) (seen_of (phase_of (row_at s))) ++ pick more (shown_more (get_or s descs_word 0) (seen_of (phase_of (row_at s)))) [])
    (shown 0 0 0 unseen ++ pick more (shown_more 0 unseen) [])

-- "40 state too short · 45 out too short (fewer than 8) · 0 and the words"; `state` is what out holds afterwards
unfoldable pub hd_status : List ℕ → List ℕ → Set
hd_status s out =
    pick (ltb (length s) state_words) (told 40 out)
    (pick (ltb (length out) 8) (told 45 out) (told 0 (put out 0 (status_words (leb 10 (length out)) s))))

-- what hd_step answers, and every lent slice afterwards
pub record Called : Type 0 where
  pub code : ℕ
  pub state : List ℕ
  pub mem : List ℕ
  pub backing : List ℕ
  pub chain : List ℕ
  pub stage : List ℕ

abbrev pub untouched : ℕ → List ℕ → List ℕ → List ℕ → List ℕ → List ℕ → Called
untouched code s mem backing chain stage = record { code = code; state = s; mem = mem; backing = backing; chain = chain; stage = stage }

unfoldable pub is_broken : Phase → Bool
is_broken Poll = false
is_broken Entry = false
is_broken (Chain k cur) = false
is_broken (Header k p got) = false
is_broken (Payload k p s got) = false
is_broken (Answer k job got) = false
is_broken (Publish k got) = false
is_broken (Broken reason head count at) = true

-- "The slices of hd_step must be at least as long as set-up was told"
unfoldable pub long_enough : List ℕ → ℕ → ℕ → ℕ → ℕ → Bool
long_enough s mem backing chain stage =
    both (leb (get_or s mem_len_word 0) mem) (both (leb (get_or s backing_len_word 0) backing) (both (leb (get_or s chain_len_word 0) chain) (leb (get_or s stage_len_word 0) stage)))

unfoldable pub stepped : List ℕ → Out → Called
stepped s o =
    record {
      code = o.code;
      state = saved s o.state.taken o.state.answered o.state.descs o.state.phase;
      mem = o.mem;
      backing = o.backing;
      chain = o.chain;
      stage = o.stage;
    }

-- a step of the model on these words
unfoldable pub stepped_on : List ℕ → List ℕ → List ℕ → List ℕ → List ℕ → Called
stepped_on s mem backing chain stage =
    stepped s (step (cfg_of (config_at s) (map_words s)) (state_of (get_or s taken_word 0) (get_or s answered_word 0) (get_or s descs_word 0) (phase_of (row_at s))) mem backing chain stage)

-- what a step on words stands on: they passed every test
pub record Going (s : List ℕ) (p : Phase) (mem backing : ℕ) (chain : List ℕ) (stage : ℕ) : Type 0 where
  pub words_long : state_words ≤ length s
  pub enabled : level s ≡ 3
  pub phase-is : p ≡ phase_of (row_at s)
  pub slices-long : long_enough s mem backing (length chain) stage ≡ true
  pub chain-ready : ready (get_or s mem_len_word 0) chain p ≡ true

-- what a phase's own function stands on: words that are an enabled queue's but for the phase, whose number this is, and slices that are long enough
pub record Framed (s : List ℕ) (tag mem backing chain stage : ℕ) : Type 0 where
  pub words_long : state_words ≤ length s
  pub frame : framed s ≡ true
  pub tag_is : get_or s tag_word 0 ≡ tag
  pub slices-long : long_enough s mem backing chain stage ≡ true

-- "3 the queue is broken"; other words with no step to take are none that steps make
unfoldable pub broken_code : List ℕ → ℕ
broken_code s = pick (both (eqb (get_or s tag_word 0) 8) (sane (get_or s size_word 0) 0 (Broken (get_or s a_word 0) (get_or s head_word 0) (get_or s count_word 0) (get_or s b_word 0)))) 3 4

-- hd_step: "4 refused: not enabled, or the state is not one that set-up and steps make · 3 the queue is broken (nothing touched)
-- · 4 refused: a slice is shorter than set-up was told (nothing touched) · 0 · 1 · 2 · 3 broken in this step"
unfoldable pub hd_step : List ℕ → List ℕ → List ℕ → List ℕ → List ℕ → Called
hd_step s mem backing chain stage =
    pick (ltb (length s) state_words) (untouched 4 s mem backing chain stage)
    (pick (eqb (level s) 3)
    (pick (is_broken (phase_of (row_at s))) (untouched 3 s mem backing chain stage)
    (pick (long_enough s (length mem) (length backing) (length chain) (length stage))
    (pick (ready (get_or s mem_len_word 0) chain (phase_of (row_at s)))
    (stepped_on s mem backing chain stage)
    (untouched 4 s mem backing chain stage))
    (untouched 4 s mem backing chain stage)))
    (untouched 4 s mem backing chain stage))

-- the contract of hd_step: the answer, and the state, guest memory, backing slice, chain and staging memory afterwards, each the model's
pub record StepIs (o : Called) (r : ℕ) (s mem backing chain stage : List ℕ) : Type 0 where
  pub code_is : r ≡ o.code
  pub state-is : s ≡ o.state
  pub mem_is : mem ≡ o.mem
  pub backing-is : backing ≡ o.backing
  pub chain-is : chain ≡ o.chain
  pub stage_is : stage ≡ o.stage
