-- One request the whole way: the driver lays and publishes it, the device is called until it has answered, the driver reads the answer.
use Rattle.std.specs.Prelude.{ℕ, ◌/◌, List, ◌≡◌, eqb, length, Option, Some, None, Result, Ok, Err}
use Rattle.model.specs.Pick.{pick}
use Rattle.model.specs.Memory.{Region}
use Rattle.hostiledisk.specs.Calls.{Called, untouched}
use Rattle.driver.specs.Lay.{number, Lay, lay, published}
use Rattle.driver.specs.Take.{strange_number, used_idx, taken, own_after, status_of}
use Rattle.driver.specs.declared.Driver.{Driver}
use Rattle.driver.specs.declared.Ask.{Ask}
use Rattle.driver.specs.declared.Laid.{Laid}
use Rattle.driver.specs.declared.NotLaid.{NotLaid}
use Rattle.driver.specs.declared.Answer.{Answer}
use Rattle.driver.specs.declared.Strange.{Strange}
use Rattle.trip.specs.declared.Done.{Done}
use Rattle.trip.specs.declared.NotDone.{NotDone}
use Rattle.trip.specs.declared.NotDone.TheVariants.{Unanswered, Another, NoStatus}
use Rattle.trip.specs.Until.{until}

-- refused as in laying, or no answer: 0 none yet · 60, 66, 67 as in reading answers · 68 another request's · 69 without a status
abbrev pub done_number : NotDone → ℕ
done_number (NotDone.NotLaid e) = number e
done_number Unanswered = 0
done_number (NotDone.Strange e) = strange_number e
done_number Another = 68
done_number NoStatus = 69

-- what was laid is published
unfoldable pub shown_in : Result Laid NotLaid → List ℕ → List ℕ
shown_in (Err e) mem = mem
shown_in (Ok l) mem = published l.driver mem

abbrev pub shown : Lay → Lay
shown x = record { answer = x.answer; mem = shown_in x.answer x.mem; own = x.own; message = x.message; spots = x.spots; nums = x.nums }

unfoldable pub sent : Driver → List ℕ → List Region → List ℕ → Ask → List ℕ → List ℕ → List ℕ → List ℕ → Lay
sent d own rs mem ask message bufs spots nums = shown (lay d own rs mem ask.kind ask.sector message bufs ask.reads spots nums)

-- what the next answer is to a driver that waits for the request with this head
unfoldable pub with_status : Driver → ℕ → Option ℕ → Result Done NotDone
with_status d len None = Err NoStatus
with_status d len (Some s) = Ok (record { driver = d; status = s; len = len })

unfoldable pub received : ℕ → Result (Option Answer) Strange → Option ℕ → Result Done NotDone
received head (Ok None) b = Err Unanswered
received head (Err e) b = Err (NotDone.Strange e)
received head (Ok (Some a)) b = pick (eqb a.head head) (with_status a.driver a.len b) (Err Another)

-- What is answered, and every lent slice afterwards: the device's five, and the driver's.
pub record Exchange : Type 0 where
  pub answer : Result Done NotDone
  pub device : Called
  pub own : List ℕ
  pub message : List ℕ
  pub spots : List ℕ
  pub nums : List ℕ

-- the driver reads the next answer in what the device has left
unfoldable pub reading : Driver → ℕ → ℕ → ℕ → Lay → Called → Exchange
reading d head reads e x o =
    record {
      answer = received head (taken d x.own o.mem (used_idx d o.mem)) (status_of o.mem x.spots reads e);
      device = o;
      own = own_after d.queue.size x.own (taken d x.own o.mem (used_idx d o.mem));
      message = x.message;
      spots = x.spots;
      nums = x.nums;
    }

-- the device finds what was laid: at most n calls
abbrev pub lent : Called → List ℕ → Called
lent o mem = untouched 1 o.state mem o.backing o.chain o.stage

unfoldable pub after : ℕ → ℕ → ℕ → Called → Lay → Result Laid NotLaid → Exchange
after n reads e o x (Err k) =
    record { answer = Err (NotDone.NotLaid k); device = lent o x.mem; own = x.own; message = x.message; spots = x.spots; nums = x.nums }
after n reads e o x (Ok l) = reading l.driver l.head reads e x (until n (lent o x.mem))

abbrev pub after_lay : ℕ → ℕ → ℕ → Called → Lay → Exchange
after_lay n reads e o x = after n reads e o x x.answer

unfoldable pub exchange : ℕ → Driver → List ℕ → List Region → Ask → List ℕ → List ℕ → List ℕ → List ℕ → Called → Exchange
exchange n d own rs ask message bufs spots nums o = after_lay n ask.reads (length bufs / 2) o (sent d own rs o.mem ask message bufs spots nums)

-- the contract of `exchange`
pub record ExchangeIs (x : Exchange) (r : Result Done NotDone) (state mem backing chain stage own message spots nums : List ℕ) : Type 0 where
  pub answer-is : r ≡ x.answer
  pub state-is : state ≡ x.device.state
  pub mem_is : mem ≡ x.device.mem
  pub backing-is : backing ≡ x.device.backing
  pub chain-is : chain ≡ x.device.chain
  pub stage_is : stage ≡ x.device.stage
  pub own_is : own ≡ x.own
  pub message-is : message ≡ x.message
  pub spots-are : spots ≡ x.spots
  pub nums-are : nums ≡ x.nums
