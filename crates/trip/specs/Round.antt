-- Sectors are written, and read back.
use Rattle.std.specs.Prelude.{ℕ, ◌/◌, List, length, Result, Ok, Err}
use Rattle.model.specs.Memory.{Region}
use Rattle.hostiledisk.specs.Calls.{Called}
use Rattle.driver.specs.Take.{data_of}
use Rattle.driver.specs.declared.Driver.{Driver}
use Rattle.driver.specs.declared.Ask.{Ask}
use Rattle.trip.specs.declared.Done.{Done}
use Rattle.trip.specs.declared.NotDone.{NotDone}
use Rattle.trip.specs.declared.Trip.{Trip}
use Rattle.trip.specs.Exchange.{Exchange, lent, exchange}

abbrev pub asked : ℕ → ℕ → ℕ → Ask
asked kind sector reads = record { kind = kind; sector = sector; reads = reads }

-- what is answered, and what `out` holds afterwards
pub record Round : Type 0 where
  pub answer : Result Trip NotDone
  pub out : List ℕ

-- the read's answer, after the write's status s: its data are read from the memory that it has left
unfoldable pub round_of : ℕ → ℕ → ℕ → List ℕ → Exchange → Result Done NotDone → Round
round_of s reads e out y (Err k) = record { answer = Err k; out = out }
round_of s reads e out y (Ok z) = record { answer = Ok (record { write = s; read = z.status }); out = data_of y.device.mem y.spots reads e out }

abbrev pub read_of : ℕ → ℕ → ℕ → List ℕ → Exchange → Round
read_of s reads e out y = round_of s reads e out y y.answer

-- the write's answer, and then the read of the same sectors, on what the write has left
unfoldable pub written : ℕ → List Region → ℕ → List ℕ → List ℕ → ℕ → List ℕ → Exchange → Result Done NotDone → Round
written n rs sector header bufs reads out x (Err k) = record { answer = Err k; out = out }
written n rs sector header bufs reads out x (Ok z) =
    read_of z.status reads (length bufs / 2) out (exchange n z.driver x.own rs (asked 0 sector reads) header bufs x.spots x.nums (lent x.device x.device.mem))

abbrev pub written_by : ℕ → List Region → ℕ → List ℕ → List ℕ → ℕ → List ℕ → Exchange → Round
written_by n rs sector header bufs reads out x = written n rs sector header bufs reads out x x.answer

-- the message goes to the disk from the sector on, over `bufs`; as much as `out` holds comes back over `bufs₂`
unfoldable pub round : ℕ → Driver → List ℕ → List Region → ℕ → List ℕ → List ℕ → ℕ → List ℕ → List ℕ → ℕ → List ℕ → List ℕ → List ℕ → Called → Round
round n d own rs sector message bufs reads header bufs₂ reads₂ out spots nums o =
    written_by n rs sector header bufs₂ reads₂ out (exchange n d own rs (asked 1 sector reads) message bufs spots nums o)
