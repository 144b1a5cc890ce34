use Rattle.model.specs.Bytes.{put, part, bytes}
use Rattle.answer.specs.Identity.{id_bytes}
use Rattle.answer.proofs.bytes_of.Goals as goal

pub returns : goal.returns
unfolding id_bytes part put bytes
returns c = rw (c.put-3.ensures, c.put-2.ensures, c.put.ensures)
