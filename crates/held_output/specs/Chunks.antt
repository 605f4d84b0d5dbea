-- Marked bytes as chunks of one stream each
use Rattle.std.specs.Prelude.{◌≢◌, List, [], ◌∷◌, ◌++◌, All}
use Rattle.speculation.specs.Run.{Mark, marked}
use Rattle.held_output.specs.declared.chunks.Chunk.{Chunk}
use Rattle.held_output.specs.Held.{IsStream}

-- the marked bytes of these chunks, in order
abbrev pub chunk_marks : List Chunk → List Mark
chunk_marks [] = []
chunk_marks (c ∷ cs) = marked c.stream c.bytes ++ chunk_marks cs

-- no two chunks that follow each other are of one stream
abbrev pub NeighboursDiffer : List Chunk → Type 0
NeighboursDiffer [] = Unit {0}
NeighboursDiffer (c ∷ []) = Unit {0}
NeighboursDiffer (c ∷ (d ∷ cs)) = (c.stream ≢ d.stream) × NeighboursDiffer (d ∷ cs)

-- what holds of all chunks that are handed out
pub record AreChunks (cs : List Chunk) : Type 0 where
  pub filled : All (λ c. c.bytes ≢ []) cs
  pub differ : NeighboursDiffer cs
  pub streams : All (λ c. IsStream c.stream) cs
