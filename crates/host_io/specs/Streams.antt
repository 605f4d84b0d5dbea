-- What the sources and sinks in memory show.
use Rattle.std.specs.Prelude.{ℕ, List}
use Rattle.host_io.specs.CallCount.{CallCount}

-- the bytes that a source has left, and its calls
pub record SourceState : Type 0 where
  pub left : List ℕ
  pub calls : CallCount

-- the bytes that a sink was given, for how many it has room in all, and its calls
pub record SinkState : Type 0 where
  pub written : List ℕ
  pub room : ℕ
  pub calls : CallCount
