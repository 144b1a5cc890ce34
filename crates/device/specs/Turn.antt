-- One step of the code beside one step of the model.
use Rattle.std.specs.Prelude.{ℕ, ◌+◌, ◌*◌, ◌≤◌, ◌<◌, true, List, ◌≡◌, length}
use Rattle.model.specs.Ring.{size_max}
use Rattle.model.specs.Memory.{regions, sound}
use Rattle.model.specs.Step.{Cfg, State, Out}
use Rattle.model.specs.Sane.{sane, ready}
use Rattle.model.specs.declared.Phase.{Phase}
use Rattle.answer.specs.Identity.{id_bytes}
use Rattle.device.specs.declared.Config.{Config}

-- the model's words for what the code holds
abbrev pub cfg_of : Config → List ℕ → Cfg
cfg_of c words = record { map = regions words; disk = c.disk; id = id_bytes c.id; queue = c.queue }

abbrev pub state_of : ℕ → ℕ → ℕ → Phase → State
state_of taken answered descs p = record { taken = taken; answered = answered; descs = descs; phase = p }

-- what a step stands on: what set-up has fixed, slices as long as it was told, and a state that passed its tests
pub record Fit (c : Config) (taken answered : ℕ) (p : Phase) (map : List ℕ) (mem backing : ℕ) (chain : List ℕ) (stage : ℕ) : Type 0 where
  pub sound-map : sound c.m (regions map) ≡ true
  pub size-some : 1 ≤ c.queue.size
  pub size-high : c.queue.size ≤ size_max
  pub desc-in : c.queue.desc + 16 * c.queue.size ≤ c.m
  pub avail-in : c.queue.avail + (6 + 2 * c.queue.size) ≤ c.m
  pub used-in : c.queue.used + (6 + 8 * c.queue.size) ≤ c.m
  pub disk-in : c.disk.start + 512 * c.disk.sectors ≤ backing
  pub mem_long : c.m ≤ mem
  pub chain-long : 2 * c.queue.size ≤ length chain
  pub stage-long : 1048576 ≤ stage
  pub taken-low : taken < 65536
  pub answered-low : answered < 65536
  pub sane-phase : sane c.queue.size c.disk.sectors p ≡ true
  pub ready-phase : ready c.m chain p ≡ true

-- everything that a step leaves is the model's: the counters, the last complete chain's descriptors, the next phase, the answer, and the slices
pub record Met (o : Out) (taken answered descs : ℕ) (p : Phase) (code : ℕ) (mem backing chain stage : List ℕ) : Type 0 where
  pub taken_is : taken ≡ o.state.taken
  pub answered-is : answered ≡ o.state.answered
  pub descs-is : descs ≡ o.state.descs
  pub phase-is : p ≡ o.state.phase
  pub code_is : code ≡ o.code
  pub mem_is : mem ≡ o.mem
  pub backing-is : backing ≡ o.backing
  pub chain-is : chain ≡ o.chain
  pub stage_is : stage ≡ o.stage
