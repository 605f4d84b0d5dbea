-- Plain runs of a machine: the point after n instructions, the pieces written on the way, and the output.
use Rattle.std.specs.Prelude.{ℕ, zero, suc, ◌+◌, List, [], ◌∷◌, ◌++◌, Option, Some, None, if◌then◌else◌, nat_le, nat_eq}
use Rattle.speculation.specs.Machine.{Machine, Stepped, Next, Ends}

-- a byte of the output, marked with its stream
pub record Mark : Type 0 where
  pub stream : ℕ
  pub byte : ℕ

-- what one instruction writes: its number, the stream, and at least one byte
pub record Piece : Type 0 where
  pub number : ℕ
  pub stream : ℕ
  pub bytes : List ℕ

-- where a run stands: a state, and the end that was met there, if any
pub record Point (S E : Type 0) : Type 0 where
  pub state : S
  pub end : Option E

-- these bytes, marked with their stream
abbrev pub marked : ℕ → List ℕ → List Mark
marked stream [] = []
marked stream (b ∷ bs) = record { stream = stream; byte = b } ∷ marked stream bs

-- the marked bytes of these pieces, in order
abbrev pub marks : List Piece → List Mark
marks [] = []
marks (p ∷ ps) = marked p.stream p.bytes ++ marks ps

-- the marked bytes of the pieces that are numbered at most `limit`
abbrev pub marks_upto : ℕ → List Piece → List Mark
marks_upto limit [] = []
marks_upto limit (p ∷ ps) = (if nat_le p.number limit then marked p.stream p.bytes else []) ++ marks_upto limit ps

-- the bytes of one stream, in order
abbrev pub stream_bytes : ℕ → List Mark → List ℕ
stream_bytes stream [] = []
stream_bytes stream (m ∷ ms) = if nat_eq m.stream stream then m.byte ∷ stream_bytes stream ms else stream_bytes stream ms

-- the point at a state in which no end was met
abbrev pub fresh : {S E : Type 0} → S → Point S E
fresh s = record { state = s; end = None }

-- the point behind an instruction in state s; after an end the state is the one before it
abbrev pub moved : {S E : Type 0} → S → Stepped S E → Point S E
moved s (Next t stream bytes) = fresh t
moved s (Ends e) = record { state = s; end = Some e }

-- one instruction more, unless the end was met
abbrev pub advanced : {S E D : Type 0} → Machine S E D → S → Option E → Point S E
advanced m s (Some e) = record { state = s; end = Some e }
advanced m s None = moved s (m.step s)

-- the point that n instructions from p lead to
unfoldable pub go : {S E D : Type 0} → Machine S E D → Point S E → ℕ → Point S E
go m p zero = p
go m p (suc n) = advanced m (go m p n).state (go m p n).end

-- the piece of an instruction numbered k: none where it writes no byte
abbrev pub piece_of : {S E : Type 0} → ℕ → Stepped S E → List Piece
piece_of k (Next t stream []) = []
piece_of k (Next t stream (b ∷ bs)) = record { number = k; stream = stream; bytes = b ∷ bs } ∷ []
piece_of k (Ends e) = []

-- what the instruction numbered k writes in state s, unless the end was met
abbrev pub wrote : {S E D : Type 0} → Machine S E D → ℕ → S → Option E → List Piece
wrote m k s (Some e) = []
wrote m k s None = piece_of k (m.step s)

-- the pieces of the n instructions from p on, numbered from k + 1
unfoldable pub pieces : {S E D : Type 0} → Machine S E D → Point S E → ℕ → ℕ → List Piece
pieces m p k zero = []
pieces m p k (suc n) = pieces m p k n ++ wrote m (suc (k + n)) (go m p n).state (go m p n).end

-- the marked bytes that the n instructions from p on write
unfoldable pub out : {S E D : Type 0} → Machine S E D → Point S E → ℕ → List Mark
out m p n = marks (pieces m p 0 n)

-- one instruction more in a count, unless the end was met
abbrev pub tick : {E : Type 0} → Option E → ℕ → ℕ
tick (Some e) n = n
tick None n = suc n

-- how many of n instructions from p are taken: the ending one counts, and none after it
unfoldable pub taken : {S E D : Type 0} → Machine S E D → Point S E → ℕ → ℕ
taken m p zero = 0
taken m p (suc n) = tick (go m p n).end (taken m p n)
