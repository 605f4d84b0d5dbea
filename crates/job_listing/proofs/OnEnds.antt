-- The ends of a batch can be printed
use Rattle.std.proofs.Common.{ℕ, List, [], ◌∷◌, All, ap}
use Rattle.std.specs.Option.{is_some}
use Rattle.std.proofs.lemmas.List.Elements.{All-nil, All-cons}
use Rattle.track_board.specs.Value.{Posted}
use Rattle.job_batch.specs.Ends.{EndsWith, AreEnds}
use Rattle.job_batch.specs.declared.ends.JobEnd.{JobEnd}
use Rattle.job_batch.specs.declared.ends.JobOutcome.{JobOutcome}
use Rattle.job_batch.specs.declared.ends.JobOutcome.TheVariants.{Done, NoMemory}
use Rattle.job_listing.specs.Listing.{HasFinish}

finish_of : (workers : ℕ) (v : Posted) (out notes : List ℕ) (outcome : JobOutcome) → EndsWith workers v out notes outcome → HasFinish outcome
finish_of workers v out notes (Done o) h = ap is_some h.whole.finish
finish_of workers v out notes NoMemory h = tt

pub ends-finish : (workers : ℕ) (boards : List Posted) (ends : List JobEnd) → AreEnds workers boards ends → All (λ end. HasFinish end.outcome) ends
ends-finish workers [] [] h = All-nil _
ends-finish workers [] (end ∷ ends) h = absurd h
ends-finish workers (v ∷ boards) [] h = absurd h
ends-finish workers (v ∷ boards) (end ∷ ends) h =
    All-cons (λ e. HasFinish e.outcome) end ends (finish_of workers v end.out end.notes end.outcome h.0) (ends-finish workers boards ends h.1)
