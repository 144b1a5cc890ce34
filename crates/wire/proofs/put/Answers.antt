use mathlib.Core.Path.{◌∙◌}
use Rattle.model.proofs.Lists.{put_back}
use Rattle.model.proofs.Words.{length-bytes}
use Rattle.wire.proofs.Number.{bytes_of}
use Rattle.wire.proofs.put.Goals as goal

pub returns : goal.returns
returns g c =
    let a = c.args in
    let e = c.copy_from_slice.ensures.after ∙ bytes_of g.row.N a.v _ c.to_le_bytes.ensures c.requires.eight_at_most in
    rw e (put_back a.m.now a.k g.row.N _ (length-bytes g.row.N a.v) c.requires.in_bounds)
