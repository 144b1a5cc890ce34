-- The 20 identity bytes (03 §1), held as three numbers of 8, 8 and 4 bytes.
use Rattle.std.specs.Prelude.{ℕ, List, ◌++◌}
use Rattle.model.specs.Bytes.{bytes}
use Rattle.model.specs.declared.Identity.{Identity}

unfoldable pub id_bytes : Identity → List ℕ
id_bytes id = bytes 8 id.first ++ (bytes 8 id.second ++ bytes 4 id.last)
