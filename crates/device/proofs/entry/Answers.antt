use Rattle.device.proofs.entry.Goals as goal

pub returns : goal.returns
returns c = rw (← c.avail_entry-head.ensures.0) c.headed.ensures
