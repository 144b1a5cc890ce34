use mathlib.Core.Path.{sym}
use native.Mathlib.Omega.{arith}
use Rattle.model.proofs.Ring.{size-range}
use Rattle.ring.proofs.areas.Goals as goal

pub overflow_mul-q : goal.overflow_mul-q
overflow_mul-q c = omega (arith, size-range _ (sym c.if-not-size_ok.ensures))

pub overflow_mul-q-2 : goal.overflow_mul-q-2
overflow_mul-q-2 c = omega (arith, size-range _ (sym c.if-not-size_ok.ensures))

pub overflow_add-q : goal.overflow_add-q
overflow_add-q c = omega (arith, size-range _ (sym c.if-not-size_ok.ensures))

pub overflow_mul-q-3 : goal.overflow_mul-q-3
overflow_mul-q-3 c = omega (arith, size-range _ (sym c.if-not-size_ok.ensures))

pub overflow_add-q-2 : goal.overflow_add-q-2
overflow_add-q-2 c = omega (arith, size-range _ (sym c.if-not-size_ok.ensures))

pub entangled-tangled-requires : goal.entangled-tangled-requires
entangled-tangled-requires c = (size-range _ (sym c.if-not-size_ok.ensures)).1
