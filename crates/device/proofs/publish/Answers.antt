use Rattle.device.proofs.publish.Goals as goal

pub returns : goal.returns
returns c = rw (c.used_idx.ensures, c.one_more.ensures)
