use Rattle.model.specs.Chain.{desc_at}
use borrow.Author.Rules.{rules}
use Rattle.chain.proofs.fetch.Goals as goal

pub returns : goal.returns
unfolding desc_at
returns c = record { is = rw (c.get.ensures.value, c.get-2.ensures.value, c.get-3.ensures.value, c.get-4.ensures.value); len-fits = search rules; next_fits = search rules }
