use Rattle.track_state.proofs.OnTracks.{runs_begun, runs_from, runs_left}
use Rattle.track_state.proofs.laws.tracks_run_over_inputs.Goals as goal

pub returns-clause-begun : goal.returns-clause-begun
returns-clause-begun c = λ input kind s budget h. runs_begun input kind s budget h

pub returns-clause-from : goal.returns-clause-from
returns-clause-from c = λ input kind t h. runs_from input kind t h

pub returns-clause-left : goal.returns-clause-left
returns-clause-left c = λ input limit t rises h. runs_left input limit t rises h
