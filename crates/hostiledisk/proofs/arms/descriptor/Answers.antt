use native.Mathlib.Omega.{arith}
use mathlib.Core.Path.{refl, sym, ◌∙◌}
use Rattle.words.proofs.Laws.{map-long}
use Rattle.words.proofs.Saved.{kept-descs}
use lib.ListN.{get_or, length-set}
use Rattle.model.specs.Bytes.{part}
use Rattle.model.specs.Sane.{ready}
use Rattle.model.specs.Step.{code_after}
use Rattle.model.proofs.Sane.{chain-ok}
use Rattle.model.proofs.Chain.{chain-on}
use Rattle.words.specs.Layout.{config_at, regions_word}
use Rattle.device.proofs.Laws.{met-chain}
use Rattle.hostiledisk.proofs.Phases.{held-chain, sane-chain, framed-memory, fit-held, insane, acted}
use Rattle.hostiledisk.proofs.arms.descriptor.Goals as goal

pub overflow_mul-end : goal.overflow_mul-end
overflow_mul-end c = omega (arith, (framed-memory _ c.requires.frame).few)

pub overflow_add-end : goal.overflow_add-end
overflow_add-end c = omega (arith, (framed-memory _ c.requires.frame).few)

pub slice_bounds-map-end : goal.slice_bounds-map-end
slice_bounds-map-end c = omega (arith, (framed-memory _ c.requires.frame).few, c.requires.words_long)

pub invariant_of-map : goal.invariant_of-map
unfolding part
invariant_of-map c = let n = get_or c.args.state.now regions_word 0 in let e = map-long n in rw e (record { sound = (framed-memory _ c.requires.frame).sound-map })

pub descriptor-x-requires : goal.descriptor-x-requires
unfolding part config_at ready
descriptor-x-requires c = let t = sym c.chain_sane.ensures ∙ c.if-not-chain_sane.false in let f = fit-held _ _ _ _ c.args.chain.now _ (held-chain _ _ _ _ _ c.requires _ c.walk-k.ensures) (sane-chain _ _ _ _ t) refl in let h = chain-ok _ _ _ _ t in rw c.queue.ensures (record { size_le_size_max = omega (arith, h, f); size_in_bounds = omega (arith, h, f); size_in_bounds_2 = omega (arith, h, f); cur_lt_size = omega (arith, h, f); count_le_size = omega (arith, h, f); reads_le_count = omega (arith, h, f); r_bound = omega (arith, h, f); w_bound = omega (arith, h, f) })

pub save_chain-requires : goal.save_chain-requires
save_chain-requires c = c.requires.words_long

pub returns-in-Chain : goal.returns-in-Chain
unfolding part code_after ready
returns-in-Chain c = let n = get_or c.args.state.now regions_word 0 in let e = map-long n in let q = c.queue.ensures in let d = c.descriptor-x.ensures in let g = c.in-Chain.is in let t = rw (q, e) at d.phase_value in acted _ _ _ _ _ _ (held-chain _ _ _ _ _ c.requires _ c.walk-k.ensures) (sane-chain _ _ _ _ (sym c.chain_sane.ensures ∙ c.if-not-chain_sane.false)) refl _ _ _ _ _ _ _ _ _ _ (met-chain _ _ _ _ _ _ _ _ _ _ _ _ _ t (sym (chain-on _ _ _ _ _ _ _ (sym t ∙ g))) (rw (q, e) at d.chain_after)) (rw g c.save_chain.ensures) _ (rw g)

pub finish-requires : goal.finish-requires
finish-requires c = simp length-set c.requires.words_long

pub shape_of-state : goal.shape_of-state
shape_of-state c = c.finish.auto.state ∙ simp length-set

pub returns : goal.returns
unfolding part ready
returns c = let n = get_or c.args.state.now regions_word 0 in let e = map-long n in let q = c.queue.ensures in let d = c.descriptor-x.ensures in acted _ _ _ _ _ _ (held-chain _ _ _ _ _ c.requires _ c.walk-k.ensures) (sane-chain _ _ _ _ (sym c.chain_sane.ensures ∙ c.if-not-chain_sane.false)) refl _ _ _ _ _ _ _ _ _ _ (met-chain _ _ _ _ _ _ _ _ _ _ _ _ _ (rw (q, e) at d.phase_value) (rw (q, e) at d.descs_value) (rw (q, e) at d.chain_after)) (c.finish.ensures.state_after ∙ kept-descs _ _ _ c.requires.words_long) _ c.finish.ensures.value

pub returns-then-not-chain_sane : goal.returns-then-not-chain_sane
returns-then-not-chain_sane c = insane _ _ _ _ _ _ (held-chain _ _ _ _ _ c.requires _ c.walk-k.ensures) (sane-chain _ _ _ _ (sym c.chain_sane.ensures ∙ c.if-not-chain_sane.true))
