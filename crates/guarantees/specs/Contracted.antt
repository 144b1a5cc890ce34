-- From the contracts to the theorems: a call of the compiled interface met its contract, and a sequence of such calls.
use Rattle.std.specs.Prelude.{List, [], ◌∷◌, ◌≡◌}
use Rattle.hostiledisk.specs.Calls.{Set, Called, hd_memory, hd_disk, hd_enable_at, hd_reset, hd_step, StepIs}
use Rattle.guarantees.specs.History.{Call, memory, disk, enable, reset, step, World, left}

-- what the contract of a set-up call says: its answer and the state words; it is lent nothing else
pub record SetIs (w : World) (x : Set) (o : Called) : Type 0 where
  pub code_is : o.code ≡ x.code
  pub state-is : o.state ≡ x.state
  pub mem_is : o.mem ≡ []
  pub backing-is : o.backing ≡ w.backing
  pub chain-is : o.chain ≡ w.chain
  pub stage_is : o.stage ≡ w.stage

-- the call answered and left `o`, as its contract in crates/hostiledisk/src/lib.rt says
unfoldable pub Did : World → Call → Called → Type 0
Did w (memory words m) o = SetIs w (hd_memory w.state words m) o
Did w (disk start sectors ro id backing) o = SetIs w (hd_disk w.state start sectors ro id backing) o
Did w (enable size desc avail used chain stage start) o = SetIs w (hd_enable_at w.state size desc avail used chain stage start) o
Did w reset o = SetIs w (hd_reset w.state) o
Did w (step mem) o = StepIs (hd_step w.state mem w.backing w.chain w.stage) o.code o.state o.mem o.backing o.chain o.stage

-- calls that each met their contract, one after the other
pub data Calls : World → List Call → World → Type 0 where
  none : {w : World} → Calls w [] w
  one : {w v : World} {c : Call} {cs : List Call} (o : Called) → Did w c o → Calls (left o) cs v → Calls w (c ∷ cs) v
