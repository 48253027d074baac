-- Bytes in room that was taken at the start.
use Rattle.std.specs.Prelude.{ℕ, List}

pub record BufferView : Type 0 where
  pub bytes : List ℕ
  pub room : ℕ
