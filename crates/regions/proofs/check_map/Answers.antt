use Rattle.model.specs.Memory.{regions_max}
use lib.Seq.{length-take-le}
use Prim.Native.Nat.{ℕ, ◌+◌, ◌*◌, ◌%◌, ◌/◌, ◌<◌}
use mathlib.Core.Path.{◌≡◌, sym, ◌∙◌}
use mathlib.Core.List.{List}
use lib.Dec.{eqb}
use Rattle.model.specs.Pick.{pick}
use lib.ListN.{length, get_or, take}
use native.Mathlib.Omega.{arith}
use Rattle.model.specs.Memory.{regions, region_code, clash, memory_code}
use Rattle.std.proofs.lemmas.Result.{err_from_is_err_and}
use Rattle.model.proofs.SetUp.{number-some}
use Rattle.model.proofs.Memory.{region_at, code_from, code-turn, code-none}
use borrow.Author.Tests.{ne_eqb, eq-eqb, le-leb}
use Rattle.regions.proofs.check_map.Goals as goal

pub loop-i-init : goal.loop-i-init
unfolding memory_code regions
loop-i-init c = let l = length c.args.map.now in rw (eq-eqb (l % 3) 0 c.if-map-ne0.false, le-leb 1 (l / 3) (omega arith), le-leb (l / 3) regions_max (omega arith))

-- a turn at region i, whose words begin at 3 i
turn : (m : ℕ) (ws : List ℕ) (i : ℕ) → i < length ws / 3
    → code_from m ws (3 * i) ≡ pick (eqb (region_code m (region_at ws (3 * i))) 0) (pick (clash (regions (take (3 * i) ws)) (get_or ws (3 * i) 0) (get_or ws (3 * i + 1) 0)) 24 (code_from m ws (3 * (i + 1)))) (region_code m (region_at ws (3 * i)))
turn m ws i h =
    let e : 3 * (i + 1) ≡ 3 * i + 3 = omega arith in
    rw e (code-turn m ws (3 * i) (omega arith) (omega (arith, h)))

pub returns-in_err-check_region : goal.returns-in_err-check_region
returns-in_err-check_region c =
    let p = err_from_is_err_and c.from_residual.result c.from_residual.ensures.1 in
    let h = c.in_err-check_region in
    rw (p.1, p.2) (h.ensures ∙ sym (c.loop-i.invariant ∙ rw (turn _ _ _ c.loop-i-test.true, ← h.ensures, ne_eqb _ 0 (number-some h.field-0.0))))

pub slice_bounds-clashes-end : goal.slice_bounds-clashes-end
slice_bounds-clashes-end c = sym (length-take-le _ _ (omega arith))

pub returns-then-clashes : goal.returns-then-clashes
returns-then-clashes c = sym (c.loop-i.invariant ∙ rw (turn _ _ _ c.loop-i-test.true, ← c.in_ok-check_region.ensures, ← c.if-clashes.ensures))

pub loop-i-preserved : goal.loop-i-preserved
loop-i-preserved c = c.loop-i.invariant ∙ rw (turn _ _ _ c.loop-i-test.true, ← c.in_ok-check_region.ensures, ← c.if-clashes.ensures)

pub returns : goal.returns
returns c = sym (c.loop-i.invariant ∙ code-none _ c.args.map.now (3 * c.loop-i.i) (omega (arith, c.loop-i-test.false)))
