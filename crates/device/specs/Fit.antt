-- What S4 and S5 stand on: the tests of the state, and what set-up has fixed.
use Rattle.std.specs.Prelude.{ℕ, ◌+◌, ◌-◌, ◌*◌, ◌≤◌, ◌<◌, List, length, get_or}
use Rattle.model.specs.Ring.{size_max}
use Rattle.model.specs.declared.Disk.{Disk}
use Rattle.model.specs.declared.Walk.{Walk}
use Rattle.model.specs.declared.Place.{Place}

pub record HeaderFit (k : Walk) (p : Place) (got : ℕ) (chain : List ℕ) (mem stage : ℕ) : Type 0 where
  pub buf-low : p.buf < size_max
  pub chain-long : 2 * p.buf + 1 < length chain
  pub skip-in : p.skip < get_or chain (2 * p.buf + 1) 0
  pub buffer-in : get_or chain (2 * p.buf) 0 + get_or chain (2 * p.buf + 1) 0 ≤ mem
  pub got-low : got < 16
  pub stage-long : 16 ≤ stage
  pub w-some : 1 ≤ k.w

pub record PayloadFit (d : Disk) (k : Walk) (p : Place) (sector got : ℕ) (chain : List ℕ) (mem stage backing : ℕ) : Type 0 where
  pub buf-low : p.buf < size_max
  pub chain-long : 2 * p.buf + 1 < length chain
  pub skip-in : p.skip < get_or chain (2 * p.buf + 1) 0
  pub buffer-in : get_or chain (2 * p.buf) 0 + get_or chain (2 * p.buf + 1) 0 ≤ mem
  pub r_some : 16 < k.r
  pub no_more : got + (get_or chain (2 * p.buf + 1) 0 - p.skip) ≤ k.r - 16
  pub stage-long : k.r - 16 ≤ stage
  pub disk-in : d.start + (512 * sector + (k.r - 16)) ≤ backing
