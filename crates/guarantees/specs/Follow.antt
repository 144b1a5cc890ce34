-- The calls beside the model: the words decode to the model's state, and the lent memory is the model's.
use Rattle.std.specs.Prelude.{ℕ, zero, suc, ◌≤◌, true, List, [], ◌∷◌, ◌≡◌, get_or, length}
use Rattle.requests.specs.Guest.{again}
use Rattle.model.specs.Step.{Cfg, State, Out, step}
use Rattle.words.specs.Layout.{state_words, row_at, phase_of, config_at, map_words, level, taken_word, answered_word, descs_word}
use Rattle.device.specs.Turn.{cfg_of}
use Rattle.hostiledisk.specs.Calls.{long_enough}
use Rattle.guarantees.specs.History.{World}
use Rattle.guarantees.specs.Good.{Made}

-- a world of an enabled queue that set-up and steps made, with slices as long as set-up was told, guest memory being n bytes long
pub record Matches (c : Cfg) (n : ℕ) (w : World) (s : State) (backing chain stage : List ℕ) : Type 0 where
  pub words_long : state_words ≤ length w.state
  pub enabled : level w.state ≡ 3
  pub made : Made w.state w.chain
  pub slices-long : long_enough w.state n (length w.backing) (length w.chain) (length w.stage) ≡ true
  pub cfg-is : cfg_of (config_at w.state) (map_words w.state) ≡ c
  pub taken_is : get_or w.state taken_word 0 ≡ s.taken
  pub answered-is : get_or w.state answered_word 0 ≡ s.answered
  pub descs-is : get_or w.state descs_word 0 ≡ s.descs
  pub phase-is : phase_of (row_at w.state) ≡ s.phase
  pub backing-is : w.backing ≡ backing
  pub chain-is : w.chain ≡ chain
  pub stage_is : w.stage ≡ stage

-- the model, stepped over these memories one after the other
unfoldable pub model : Cfg → Out → List (List ℕ) → Out
model c o [] = o
model c o (m ∷ ms) = model c (step c o.state m o.backing o.chain o.stage) ms

-- the memories that n steps find beside a guest that makes of guest memory what it likes before each (crate `requests`)
unfoldable pub found : Cfg → (ℕ → List ℕ → List ℕ) → ℕ → ℕ → Out → List (List ℕ)
found c g i zero o = []
found c g i (suc n) o = g i o.mem ∷ found c g (suc i) n (again c g i o)
