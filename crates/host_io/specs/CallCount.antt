-- Which calls of an object in memory fail, how many were made, and how many of them failed.
use Rattle.std.specs.Prelude.{ℕ, ◌+◌, ◌-◌, ◌^◌, ◌==◌, min, Bool, List, Result, Ok, Err}
use Rattle.std.specs.List.{list_any}

pub record CallCount : Type 0 where
  -- the numbers of the calls that fail, the first call being 0
  pub failing : List ℕ
  pub made : ℕ
  pub faults : ℕ

-- before the first call
abbrev pub no_calls : List ℕ → CallCount
no_calls failing = record { failing = failing; made = 0; faults = 0 }

-- whether the next call is one of those that fail
abbrev pub fails_next : CallCount → Bool
fails_next calls = list_any (λ number. number == calls.made) calls.failing

-- a count, one higher where it is not at its last value
abbrev pub raised : ℕ → ℕ
raised n = min (n + 1) (2 ^ 64 - 1)

-- after a call with this answer
abbrev pub after_call : {T E : Type 0} → CallCount → Result T E → CallCount
after_call calls (Ok _) = record calls { made = raised calls.made }
after_call calls (Err _) = record calls { made = raised calls.made; faults = raised calls.faults }
