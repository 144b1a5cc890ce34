-- What a form that some disk accepts has: a header, a byte for the status, at most 1,048,576 bytes of data, one of the four types.
use Prim.Native.Nat.{ℕ, ◌^◌, ◌≤◌}
use mathlib.Core.Bool.{true, false}
use mathlib.Core.Path.{◌≡◌}
use native.Mathlib.Omega.{arith}
use lib.Dec.{leb, eqb}
use borrow.Author.Tests.{leb-true, eqb-true}
use Rattle.model.proofs.Tests.{both-split}
use Rattle.model.specs.Request.{verdict, status}
use Rattle.model.specs.declared.Disk.{Disk}
use Rattle.model.specs.declared.Job.{Job}
use Rattle.requests.specs.Table.{Accepted, reads, writes, flushes, tells}
use Rattle.requests.proofs.Table.{served-accepted}
use Rattle.driver.specs.Lay.{formed}

accepted-ok : (d : Disk) (kind sector r w : ℕ) (job : Job) → Accepted d kind sector r w job → (16 ≤ r) × (r ≤ 1048592) × (w ≤ 1048577) × (kind ≤ 8)
accepted-ok d kind sector r w job (reads t l f) = let s = f.short in (omega arith, omega arith, omega arith, omega arith)
accepted-ok d kind sector r w job (writes t l o f n) = let s = f.short in (omega arith, omega arith, omega arith, omega arith)
accepted-ok d kind sector r w job (flushes t l o) = (omega arith, omega arith, omega arith, omega arith)
accepted-ok d kind sector r w job (tells t l o) = (omega arith, omega arith, omega arith, omega arith)

pub record FormOk (kind r w : ℕ) : Type 0 where
  pub header-in : 16 ≤ r
  pub message-short : r ≤ 1048592
  pub status-in : 1 ≤ w
  pub short : w ≤ 1048577
  pub known : kind ≤ 8

pub formed-ok : (kind r w : ℕ) → formed kind r w ≡ true → FormOk kind r w
unfolding formed
formed-ok kind r w h =
    let d : Disk = record { start = 0; sectors = 2 ^ 32; ro = 0 } in
    let p = both-split (leb 1 w) (eqb (status (verdict d kind 0 r w)) 0) h in
    let a = accepted-ok d kind 0 r w (verdict d kind 0 r w) (served-accepted d kind 0 r w (eqb-true (status (verdict d kind 0 r w)) 0 p.1)) in
    record { header-in = a.0; message-short = a.1; status-in = leb-true 1 w p.0; short = a.2; known = a.3 }
