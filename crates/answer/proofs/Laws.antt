-- Where the status byte goes: the last writable buffer lies in the slice.
use Prim.Native.Nat.{ℕ, ◌+◌, ◌-◌, ◌*◌, ◌≤◌}
use mathlib.Core.List.{List}
use mathlib.Core.Path.{◌≡◌}
use native.Mathlib.Omega.{arith}
use lib.ListN.{get_or}
use Rattle.model.proofs.Sane.{inside-at}
use Rattle.model.specs.declared.Queue.{Queue}
use Rattle.model.specs.declared.Disk.{Disk}
use Rattle.model.specs.declared.Walk.{Walk}
use Rattle.model.specs.declared.Job.{Job}
use Rattle.answer.specs.Fit.{AnswerFit}

pub last-in : (q : Queue) (d : Disk) (k : Walk) (job : Job) (chain : List ℕ) (b m : ℕ) → AnswerFit q d k job chain b m
    → get_or chain (2 * (k.count - 1)) 0 + get_or chain (2 * (k.count - 1) + 1) 0 ≤ m
last-in q d k job chain b m f =
    let p : k.reads + (k.count - 1 - k.reads) ≡ k.count - 1 = omega (arith, f.writable) in
    rw p at (inside-at m k.reads k.count chain (k.count - 1 - k.reads) (omega (arith, f.writable)) f.buffers-in)
