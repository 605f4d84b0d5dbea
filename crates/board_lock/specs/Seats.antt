-- The passes that a lock has given out, and what its calls do to them.
use Rattle.std.specs.Prelude.{◌≡◌, ℕ, ◌<◌, nat_lt, if◌then◌else◌, Bool, List, [], ◌∷◌, ◌++◌, Option, Some, None, slice_get, slice_set}
use Rattle.board_lock.specs.Passes.{Held, giver_of, given_by}

-- a call at the k-th pass: it is split, or it enters or leaves, and has then seen these entries
pub data Call (I : Type 0) : Type 0 where
  Splits : ℕ → Call I
  Turns : ℕ → List I → Bool → Call I

module _ {F I : Type 0} where
  -- where the stock isn't empty, the new pass stands last
  abbrev pub split_passes : List (Held F I) → ℕ → Option (Held F I) → List (Held F I)
  split_passes ps k None = ps
  split_passes ps k (Some p) = if nat_lt p.stock 18446744073709551615 then slice_set ps k (giver_of p) ++ given_by p ∷ [] else ps

  abbrev pub turned_passes : List (Held F I) → ℕ → List I → Bool → Option (Held F I) → List (Held F I)
  turned_passes ps k seen in_turn None = ps
  turned_passes ps k seen in_turn (Some p) = slice_set ps k (record p { seen = seen; in_turn = in_turn })

  abbrev pub after_call : List (Held F I) → Call I → List (Held F I)
  after_call ps (Splits k) = split_passes ps k (slice_get ps k)
  after_call ps (Turns k seen in_turn) = turned_passes ps k seen in_turn (slice_get ps k)

  abbrev pub after_calls : List (Held F I) → List (Call I) → List (Held F I)
  after_calls ps [] = ps
  after_calls ps (c ∷ cs) = after_calls (after_call ps c) cs

  -- no two passes have one seat number, and none is above 2^64 - 2
  pub record AreApart (ps : List (Held F I)) : Type 0 where
    pub apart : (j k : ℕ) (p q : Held F I) → slice_get ps j ≡ Some p → slice_get ps k ≡ Some q → p.seat ≡ q.seat → j ≡ k
    pub below : (k : ℕ) (p : Held F I) → slice_get ps k ≡ Some p → p.seat < 18446744073709551615
