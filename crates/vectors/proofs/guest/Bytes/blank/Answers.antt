use Rattle.std.proofs.Common.{◌≡◌, ◌+◌, ◌-◌, ◌≤◌, length, arith}
use Rattle.std.proofs.Math.ListN.{replicate}
use Rattle.std.proofs.lemmas.List.{length-replicate}
use borrow.Author.Tests.{le-leb}
use Rattle.model.specs.Bytes.{part}
use Rattle.model.proofs.Lists.{put_back, length_part}
use Rattle.vectors.specs.Blank.{blanked}
use Rattle.vectors.proofs.guest.Bytes.blank.Goals as goal

pub returns-then-to-le65536 : goal.returns-then-to-le65536
unfolding blanked part
returns-then-to-le65536 c =
    let a = c.args in
    let n = a.places.now.end - a.places.now.start in
    let l : a.places.now.end ≤ length (a.self.now).0 = omega (arith, c.if-to-le65536.true) in
    let r : a.places.now.start + n ≤ length (a.self.now).0 = omega (arith, l, c.if-from-to.true) in
    let q = length_part a.places.now.start n (a.self.now).0 r in
    let e = rw q at (c.fill.ensures.after (λ y h. h)) in
    let s : a.places.now.start + n - a.places.now.start ≡ n = omega arith in
    rw (le-leb _ _ c.if-from-to.true, le-leb _ _ l, e) (rw s at (put_back (a.self.now).0 a.places.now.start n (replicate n 238) (length-replicate n 238) r))
