-- What a reader or a writer of std shows that counts its faults.
use Rattle.std.specs.Prelude.{ℕ}

-- the reader or writer, and how often it has failed
pub record Stream (T : Type 0) : Type 0 where
  pub inner : T
  pub faults : ℕ
