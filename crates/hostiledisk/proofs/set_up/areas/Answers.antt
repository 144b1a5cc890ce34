use native.Mathlib.Omega.{arith}
use lib.ListN.{get_or}
use Rattle.words.specs.Layout.{regions_word}
use Rattle.words.proofs.Laws.{map-long}
use Rattle.hostiledisk.proofs.Laws.{memory-ok}
use Rattle.model.specs.Bytes.{part}
use Rattle.hostiledisk.proofs.set_up.areas.Goals as goal

pub overflow_mul-end : goal.overflow_mul-end
overflow_mul-end c = omega (arith, (memory-ok _ c.requires).few)

pub overflow_add-end : goal.overflow_add-end
overflow_add-end c = omega (arith, (memory-ok _ c.requires).few)

pub slice_bounds-map-end : goal.slice_bounds-map-end
slice_bounds-map-end c = omega (arith, (memory-ok _ c.requires).few, c.args.state.long)

pub invariant_of-map : goal.invariant_of-map
unfolding part
invariant_of-map c = let n = get_or c.args.state.words.now regions_word 0 in let e = map-long n in rw e (record { sound = (memory-ok _ c.requires).sound-map })

pub returns : goal.returns
unfolding part
returns c = let n = get_or c.args.state.words.now regions_word 0 in let e = map-long n in rw e at c.areas.ensures
