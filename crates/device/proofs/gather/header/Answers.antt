use Rattle.device.proofs.gather.header.Goals as goal

pub returns-clause-stage_after : goal.returns-clause-stage_after
returns-clause-stage_after c = rw (c.copy.ensures, c.min-n.ensures, c.left-b.ensures)

pub returns-clause-value : goal.returns-clause-value
returns-clause-value c = rw (c.gathered.ensures, c.get-kind.ensures.value, c.get-sector.ensures.value, c.min-n.ensures, c.left-b.ensures)
