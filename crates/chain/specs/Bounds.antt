-- A descriptor as fetched, and the range of its fields.
use Rattle.std.specs.Prelude.{ℕ, ◌<◌, ◌^◌, List, ◌≡◌}
use Rattle.model.specs.Chain.{desc_at}
use Rattle.model.specs.declared.Desc.{Desc}

pub record DescOk (at : ℕ) (m : List ℕ) (d : Desc) : Type 0 where
  pub is : d ≡ desc_at at m
  pub len-fits : d.len < 2 ^ 32
  pub next_fits : d.next < 65536
