-- What a step answers, as the numbers that the C interface has for it.
use Rattle.std.specs.Prelude.{ℕ}
use Rattle.device.specs.declared.Outcome.{Outcome}
use Rattle.device.specs.declared.Outcome.TheVariants.{Idle, WentOn, Answered, Broken, Refused}

-- hd_step: "0 nothing to do · 1 a part of a request was done · 2 a request was answered · 3 the queue is broken · 4 refused"
abbrev pub number : Outcome → ℕ
number Idle = 0
number WentOn = 1
number Answered = 2
number Broken = 3
number Refused = 4
