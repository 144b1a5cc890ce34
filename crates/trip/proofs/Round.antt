-- A round trip, in the words of the code: what the calls have left stands for what the definitions say.
use Prim.Native.Nat.{ℕ, ◌/◌}
use mathlib.Core.List.{List}
use mathlib.Core.Path.{◌≡◌, refl, sym, ap, ◌∙◌}
use lib.ListN.{length}
use Rattle.std.specs.Prelude.{Result, Ok, Err}
use Rattle.model.specs.Memory.{Region}
use Rattle.hostiledisk.specs.Calls.{Called, untouched}
use Rattle.driver.specs.Take.{data_of}
use Rattle.driver.specs.declared.Driver.{Driver}
use Rattle.trip.specs.declared.Done.{Done}
use Rattle.trip.specs.declared.NotDone.{NotDone}
use Rattle.trip.specs.Exchange.{Exchange, ExchangeIs, lent, exchange}
use Rattle.trip.specs.Round.{Round, asked, round_of, read_of, written, written_by, round}

-- the slices that a call has left are those of its definition
lent_is : (x : Exchange) (r : Result Done NotDone) (state mem backing chain stage own message spots nums : List ℕ)
    → ExchangeIs x r state mem backing chain stage own message spots nums → lent x.device x.device.mem ≡ untouched 1 state mem backing chain stage
lent_is x r state mem backing chain stage own message spots nums k = rw (k.state-is, k.mem_is, k.backing-is, k.chain-is, k.stage_is)

-- the write was refused, or not answered
module _ (n : ℕ) (d : Driver) (own : List ℕ) (rs : List Region) (sector : ℕ) (message bufs : List ℕ) (reads : ℕ) (header bufs₂ : List ℕ) (reads₂ : ℕ) (out spots nums : List ℕ) (o : Called) (r : Result Done NotDone) (state₁ mem₁ backing₁ chain₁ stage₁ own₁ message₁ spots₁ nums₁ : List ℕ) (x : ExchangeIs (exchange n d own rs (asked 1 sector reads) message bufs spots nums o) r state₁ mem₁ backing₁ chain₁ stage₁ own₁ message₁ spots₁ nums₁) where
  abbrev all : Round
  all = round n d own rs sector message bufs reads header bufs₂ reads₂ out spots nums o

  pub write-failed : {k : NotDone} → r ≡ Err k → (Err k ≡ all.answer) × (out ≡ all.out)
  unfolding round written
  write-failed g = rw (← x.answer-is, g) (refl, refl)

-- the read, on what the write has left
written_is : (n : ℕ) (rs : List Region) (sector : ℕ) (header bufs : List ℕ) (reads : ℕ) (out : List ℕ) (x : Exchange) (r : Result Done NotDone)
    (state mem backing chain stage own message spots nums : List ℕ) (w : Done) → ExchangeIs x r state mem backing chain stage own message spots nums → r ≡ Ok w
    → written_by n rs sector header bufs reads out x
    ≡ read_of w.status reads (length bufs / 2) out (exchange n w.driver own rs (asked 0 sector reads) header bufs spots nums (untouched 1 state mem backing chain stage))
unfolding written
written_is n rs sector header bufs reads out x r state mem backing chain stage own message spots nums w k g =
    rw (← k.answer-is, g, lent_is x r state mem backing chain stage own message spots nums k, k.own_is, k.spots-are, k.nums-are)

module _ (n : ℕ) (d : Driver) (own : List ℕ) (rs : List Region) (sector : ℕ) (message bufs : List ℕ) (reads : ℕ) (header bufs₂ : List ℕ) (reads₂ : ℕ) (out spots nums : List ℕ) (o : Called) (r : Result Done NotDone) (state₁ mem₁ backing₁ chain₁ stage₁ own₁ message₁ spots₁ nums₁ : List ℕ) (w : Done) (r₂ : Result Done NotDone) (state₂ mem₂ backing₂ chain₂ stage₂ own₂ header₂ spots₂ nums₂ : List ℕ) (x : ExchangeIs (exchange n d own rs (asked 1 sector reads) message bufs spots nums o) r state₁ mem₁ backing₁ chain₁ stage₁ own₁ message₁ spots₁ nums₁) (g : r ≡ Ok w) (y : ExchangeIs (exchange n w.driver own₁ rs (asked 0 sector reads₂) header bufs₂ spots₁ nums₁ (untouched 1 state₁ mem₁ backing₁ chain₁ stage₁)) r₂ state₂ mem₂ backing₂ chain₂ stage₂ own₂ header₂ spots₂ nums₂) where
  abbrev whole : Round
  whole = round n d own rs sector message bufs reads header bufs₂ reads₂ out spots nums o

  abbrev second : Exchange
  second = exchange n w.driver own₁ rs (asked 0 sector reads₂) header bufs₂ spots₁ nums₁ (untouched 1 state₁ mem₁ backing₁ chain₁ stage₁)

  whole_is : whole ≡ round_of w.status reads₂ (length bufs₂ / 2) out second r₂
  unfolding round
  whole_is =
      written_is n rs sector header bufs₂ reads₂ out (exchange n d own rs (asked 1 sector reads) message bufs spots nums o) r state₁ mem₁ backing₁ chain₁ stage₁ own₁ message₁ spots₁ nums₁ w x g
      ∙ ap (λ (z : Result Done NotDone). round_of w.status reads₂ (length bufs₂ / 2) out second z) (sym y.answer-is)

  -- the read was refused, or not answered ..
  pub read-failed : {k : NotDone} → r₂ ≡ Err k → (Err k ≡ whole.answer) × (out ≡ whole.out)
  unfolding round_of
  read-failed h = rw (whole_is, h) (refl, refl)

  -- .. or its data are read
  pub read_done : {z : Done} {out₂ : List ℕ} → r₂ ≡ Ok z → out₂ ≡ data_of mem₂ spots₂ reads₂ (length bufs₂ / 2) out
      → (Ok (record { write = w.status; read = z.status }) ≡ whole.answer) × (out₂ ≡ whole.out)
  unfolding round_of
  read_done h e = rw (whole_is, h) (refl, rw (← y.mem_is, ← y.spots-are) e)
