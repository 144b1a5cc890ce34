use Rattle.std.proofs.Common.{◌≡◌, ◌+◌, ◌-◌, ◌*◌, min, refl, sym, ◌∙◌, arith, length, get_or}
use Rattle.model.proofs.Lists.{part-all}
use Rattle.model.proofs.Step.{spread-turn, spread_end}
use Rattle.model.proofs.Sane.{inside-here, inside-rest}
use Rattle.answer.proofs.spread.Goals as goal
use Rattle.answer.proofs.spread.Goals.{After-min-n}

-- the bytes that this buffer takes
takes : (c : After-min-n) → c.min-n.result ≡ min (get_or c.args.chain.now (2 * c.loop-i.i + 1) 0) (length c.args.src.now - c.loop-i.pos)
takes c = rw c.buffer-b.ensures at c.min-n.ensures

pub loop-i-init : goal.loop-i-init
loop-i-init c = record { pos_in = omega arith; mem_long = refl; rest_inside = c.requires.chain_value; rest_comes = let e : length c.args.src.now - 0 ≡ length c.args.src.now = omega arith in rw (e, part-all) }

pub copy-requires-clause-dst_in_bounds : goal.copy-requires-clause-dst_in_bounds
copy-requires-clause-dst_in_bounds c =
    let i = c.loop-i.invariant in
    rw c.buffer-b.ensures (omega (arith, inside-here _ _ _ _ c.loop-i-test.true i.rest_inside, takes (goal.at.copy-requires-clause-dst_in_bounds c).After-min-n, i.mem_long))

pub loop-i-preserved : goal.loop-i-preserved
loop-i-preserved c =
    let i = c.loop-i.invariant in
    let t = takes (goal.at.loop-i-preserved c).After-min-n in
    record {
      pos_in = omega (arith, t, i.pos_in);
      mem_long = omega (arith, c.copy.auto.dst, i.mem_long);
      rest_inside = inside-rest _ _ _ _ c.loop-i-test.true i.rest_inside;
      rest_comes =
          let p = c.loop-i.pos in
          let n = c.min-n.result in
          let e : length c.args.src.now - (p + n) ≡ length c.args.src.now - p - n = omega arith in
          i.rest_comes ∙ rw (rw c.buffer-b.ensures at c.copy.ensures, e, t) (spread-turn _ _ _ _ _ _ _ c.loop-i-test.true);
    }

pub returns : goal.returns
returns c = sym (c.loop-i.invariant.rest_comes ∙ spread_end _ _ _ _ _ c.loop-i-test.false)
