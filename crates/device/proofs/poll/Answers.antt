use Rattle.device.proofs.poll.Goals as goal

pub returns : goal.returns
returns c = rw (← c.avail_idx-idx.ensures.0) c.polled.ensures
