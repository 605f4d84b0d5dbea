-- A loan stays while other seats act, with its track, unless a discard drops it.
use Rattle.std.proofs.Common.{◌≡◌, ◌≢◌, ℕ, zero, suc, Bool, true, false, if◌then◌else◌, List, [], ◌∷◌, ◌++◌, Option, Some, None, refl, sym, ap, ap₂, ◌∙◌, subst, append_assoc, append-nil}
use Rattle.std.proofs.lemmas.Option.{same_Some}
use Rattle.speculation.specs.declared.tracks.Name.{Name}
use Rattle.speculation.specs.declared.tracks.OpenLoan.{OpenLoan}
use Rattle.speculation.specs.declared.history.Settings.{Settings}
use Rattle.speculation.specs.declared.history.Entry.{Entry}
use Rattle.speculation.specs.declared.history.Entry.TheVariants as E
use Rattle.speculation.specs.Run.{Mark}
use Rattle.speculation.specs.Core.{Track as CoreTrack, opening, over, find_loan, find_track, most_slice}
use Rattle.speculation.specs.Due.{Due, Finishing, Crossing, Judging, Forking}
use Rattle.speculation.specs.Events.{run_on, slice, core_run}
use Rattle.speculation.specs.Serial.{row_entry, entry_of}
use Rattle.speculation.specs.Verdicts.{is_kept}
use Rattle.speculation.specs.Loans.{loans_after, seat_of, owner_of, IsForeign}
use Rattle.speculation_law.specs.Fates.{dropped_since, TrackStays}
use Rattle.speculation_law.proofs.Soundness.{sound-history, core_run-append}
use Rattle.speculation_law.proofs.Fates.{run-loans, loan-later}
use Rattle.guest_model.specs.MachineState.{MachineState}
use Rattle.guest_model.specs.Rv32.{rv32}
use Rattle.guest_model.specs.declared.difference.Difference.{Difference}
use Rattle.guest_model.specs.declared.end.End.{End}
use Rattle.rv32_law.specs.GuestStates.{IsGuestState}
use Rattle.rv32_law.proofs.Differences.{exact-rv32}
use Rattle.rv32_law.proofs.Starts.{start-is-guest}
use Rattle.track_state.specs.Views.{view_of}
use Rattle.track_state.specs.Runs.{RunsOver, RanOn, run_length}
use Rattle.track_state.specs.declared.track.Track.{Track}
use Rattle.track_state.proofs.OnTracks.{length_slice}
use Rattle.track_board.specs.declared.loan.Loan.{Loan}
use Rattle.track_board.specs.declared.loan.Back.{Back}
use Rattle.track_board.specs.declared.loan.Back.TheVariants.{Taken, Dropped, Over}
use Rattle.track_board.specs.Value.{Posted, GuestCore, IsKnown, machine_of, start_state, core_of, posted}
use Rattle.track_board.specs.Parts.{TrackStands}
use Rattle.track_board.specs.Loans.{IsLoanOf, IsLent, IsReturned, back_entry}
use Rattle.track_board.specs.Settles.{Settles, released_with}
use Rattle.track_board.specs.Others.{extended, OthersAct, IsOut, MayComeHome}

-- ---- one loan

-- the track of a loan that no discard dropped is such
abbrev pub LiveIs : Posted → Name → (CoreTrack MachineState → Type 0) → Type 0
LiveIs v n P =
    (l : OpenLoan) → find_loan n (core_of v).loans ≡ Some l → l.dropped ≡ None →
    (t : CoreTrack MachineState) → find_track (core_of v) n ≡ Some t → P t

since-none : (o : Option ℕ) (xs : List Entry) → dropped_since o xs ≡ None → o ≡ None
since-none None xs h = refl
since-none (Some row) xs h = absurd (cc)

guest-start : (v : Posted) → IsGuestState v.input (start_state v)
guest-start v = start-is-guest v.input v.loaded.entry v.loaded.areas v.loaded.heap v.loaded.layout

-- the entries that follow lead from core to core
run-rest : (v : Posted) (rest : List Entry) → IsKnown v → IsKnown (extended v rest) → core_run (machine_of v) v.settings (Some (core_of v)) rest ≡ Some (core_of (extended v rest))
run-rest v rest h after =
    ap (λ (o : Option GuestCore). core_run (machine_of v) v.settings o rest) (sym h.legal)
    ∙ sym (core_run-append (machine_of v) v.settings (start_state v) v.entries rest (Some (opening (start_state v))))
    ∙ after.legal

module _ (v : Posted) (rest : List Entry) (known : IsKnown v) (after : IsKnown (extended v rest)) (seat : ℕ) (foreign : IsForeign seat v.entries rest) (n : Name) (lent : IsLoanOf v seat n) where
  stays : TrackStays n lent.0 rest (core_of v) (core_of (extended v rest))
  stays =
      let exact = exact-rv32 v.input (start_state v) (guest-start v) in
      loan-later (machine_of v) v.settings (start_state v) exact v.entries rest (core_of v) (core_of (extended v rest)) n lent.0
      (sound-history (machine_of v) v.settings (start_state v) v.entries (core_of v) exact known.legal) known.legal (run-rest v rest known after) lent.1
      (subst (λ k. IsForeign k v.entries rest) (sym lent.2) foreign)

  -- it is still lent to the seat
  stays-lent : IsLoanOf (extended v rest) seat n
  stays-lent = (stays.stays.loan, stays.stays.found, stays.stays.same_seat ∙ lent.2)

  -- and so is its track
  stays-live : (P : CoreTrack MachineState → Type 0) → LiveIs v n P → LiveIs (extended v rest) n P
  stays-live P is l found undropped t live =
      let same : stays.stays.loan ≡ l = same_Some stays.stays.loan l (sym stays.stays.found ∙ found) in
      let now : stays.stays.loan.dropped ≡ None = ap (λ (k : OpenLoan). k.dropped) same ∙ undropped in
      is lent.0 lent.1 (since-none lent.0.dropped rest (sym stays.stays.fate ∙ now)) t (sym (stays.track now) ∙ live)

known-extended : (seat : ℕ) (v w : Posted) (h : OthersAct seat v w) → IsKnown w → IsKnown (extended v h.rest)
known-extended seat v w h known = subst IsKnown h.is known

-- a loan that is out stays out
pub out-stays : (v w : Posted) (seat : ℕ) (loan : Loan) → IsKnown v → IsKnown w → OthersAct seat v w → IsOut v seat loan → IsOut w seat loan
out-stays v w seat loan known after h out =
    let later = known-extended seat v w h after in
    subst (λ (x : Posted). IsOut x seat loan) (sym h.is) (record {
      lent = stays-lent v h.rest known later seat h.foreign loan.name out.lent;
      input = out.input;
      runs = out.runs;
      live = stays-live v h.rest known later seat h.foreign loan.name out.lent (λ t. TrackStands v.input v.settings.budget loan.track true t) out.live;
    })

-- a loan that was run may come home later
pub home-stays : (v w : Posted) (seat : ℕ) (loan : Loan) → IsKnown v → IsKnown w → OthersAct seat v w → MayComeHome v seat loan → MayComeHome w seat loan
home-stays v w seat loan known after h out =
    let later = known-extended seat v w h after in
    subst (λ (x : Posted). MayComeHome x seat loan) (sym h.is) (record {
      lent = stays-lent v h.rest known later seat h.foreign loan.name out.lent;
      ran = stays-live v h.rest known later seat h.foreign loan.name out.lent
          (λ t. TrackStands v.input v.settings.budget loan.track true (run_on (machine_of v) t (slice (machine_of v) v.settings t))) out.ran;
    })

-- a name that is lent to a seat stays lent to it
pub lent-stays : (v w : Posted) (seat : ℕ) (n : Name) → IsKnown v → IsKnown w → OthersAct seat v w → IsLoanOf v seat n → IsLoanOf w seat n
lent-stays v w seat n known after h lent =
    subst (λ (x : Posted). IsLoanOf x seat n) (sym h.is) (stays-lent v h.rest known (known-extended seat v w h after) seat h.foreign n lent)

-- ---- lent, and run

-- what was lent is out
pub lent-out : (v w : Posted) (seat : ℕ) (loan : Loan) → IsLent v w seat loan → IsOut w seat loan
lent-out v w seat loan h = record {
  lent = h.loan_of;
  input = h.input ∙ sym (ap (λ (x : Posted). x.input) h.entry);
  runs = subst (λ input. RunsOver input (view_of loan.track)) (sym h.input) h.track.runs;
  live = λ l found undropped t live.
      (let same : h.live ≡ t = same_Some h.live t (sym h.still ∙ live) in
      subst (λ (u : CoreTrack MachineState). TrackStands w.input w.settings.budget loan.track true u) same
      (subst (λ (x : Posted). TrackStands x.input x.settings.budget loan.track true h.live) (sym h.entry) h.track));
}

stands-on : (input : List ℕ) (b : Settings) (x y : Track) (t : CoreTrack MachineState) (n : ℕ) → TrackStands input b.budget x true t → n ≡ run_length input (view_of x) most_slice → RanOn input (view_of x) (view_of y) n
    → TrackStands input b.budget y true (run_on (rv32 input) t (slice (rv32 input) b t))
stands-on input b x y t n stands count ran =
    let all : n ≡ slice (rv32 input) b t = count ∙ length_slice input b (view_of x) stands.budget ∙ ap (slice (rv32 input) b) stands.is in
    record { here = refl; is = ran.is ∙ ap₂ (λ (u : CoreTrack MachineState) k. run_on (rv32 input) u k) stands.is all; runs = ran.runs; budget = ran.budget ∙ stands.budget }

-- a loan that is out may come home once it was run by one slice
pub run-home : (v : Posted) (seat : ℕ) (loan ran : Loan) (n : ℕ) → IsOut v seat loan → ran.name ≡ loan.name → n ≡ run_length loan.input (view_of loan.track) most_slice
    → RanOn loan.input (view_of loan.track) (view_of ran.track) n → MayComeHome v seat ran
run-home v seat loan ran n out name count run = record {
  lent = subst (λ (k : Name). IsLoanOf v seat k) (sym name) out.lent;
  ran = λ l found undropped t live.
      (let stands = out.live l (ap (λ (k : Name). find_loan k (core_of v).loans) (sym name) ∙ found) undropped t (ap (find_track (core_of v)) (sym name) ∙ live) in
      stands-on v.input v.settings loan.track ran.track t n stands
      (subst (λ input. n ≡ run_length input (view_of loan.track) most_slice) out.input count)
      (subst (λ input. RanOn input (view_of loan.track) (view_of ran.track) n) out.input run));
}

-- ---- entries of others

foreign-append : (seat : ℕ) (before xs ys : List Entry) → IsForeign seat before xs → IsForeign seat (before ++ xs) ys → IsForeign seat before (xs ++ ys)
foreign-append seat before [] ys h g = subst (λ zs. IsForeign seat zs ys) (append-nil before) g
foreign-append seat before (x ∷ xs) ys h g =
    (h.0, foreign-append seat (before ++ (x ∷ [])) xs ys h.1 (subst (λ zs. IsForeign seat zs ys) (sym (append_assoc before (x ∷ []) xs)) g))

-- where nothing happened
pub others-none : (seat : ℕ) (v w : Posted) → w ≡ v → OthersAct seat v w
others-none seat v w h = record { rest = []; is = h ∙ ap (λ (xs : List Entry). record v { entries = xs }) (sym (append-nil v.entries)); foreign = _ }

-- where others acted, and then others again
pub others-then : (seat : ℕ) (u v w : Posted) → OthersAct seat u v → OthersAct seat v w → OthersAct seat u w
others-then seat u v w a b = record {
  rest = a.rest ++ b.rest;
  is = b.is ∙ ap (λ (x : Posted). extended x b.rest) a.is ∙ ap (λ (xs : List Entry). record u { entries = xs }) (append_assoc u.entries a.rest b.rest);
  foreign = foreign-append seat u.entries a.rest b.rest a.foreign (subst (λ (x : Posted). IsForeign seat x.entries b.rest) a.is b.foreign);
}

-- one entry that belongs to no seat, or to another one
others-one : (seat : ℕ) (v w : Posted) (x : Entry) (owner : Option ℕ) → owner_of v.entries x ≡ owner → owner ≢ Some seat → w ≡ posted v x → OthersAct seat v w
others-one seat v w x owner is apart h = record { rest = x ∷ []; is = h; foreign = ((λ same. apart (sym is ∙ same)), _) }

apart-none : (seat : ℕ) → None ≢ Some seat
apart-none seat same = cc

apart-some : (other seat : ℕ) → other ≢ seat → Some other ≢ Some seat
apart-some other seat differ same = differ (same_Some other seat same)

owner-row : (before : List Entry) (row : ℕ) (kept : Bool) → owner_of before (row_entry kept row) ≡ None
owner-row before row true = refl
owner-row before row false = refl

owner-due : (before : List Entry) (c : GuestCore) (d : Due MachineState End Difference) → owner_of before (entry_of c d) ≡ None
owner-due before c (Finishing f) = refl
owner-due before c Crossing = refl
owner-due before c (Judging v) = owner-row before _ (is_kept v.judged.verdict)
owner-due before c Forking = refl

-- due events belong to no seat
pub others-settle : (seat n : ℕ) (v w : Posted) → Settles n v w → OthersAct seat v w
others-settle seat zero v w h = others-none seat v w h
others-settle seat (suc n) v w h =
    let u = h.0 in
    let acted = h.2 in
    others-then seat v u w (others-settle seat n v u h.1)
    (others-one seat u w (entry_of (core_of u) acted.event) None (owner-due u.entries (core_of u) acted.event) (apart-none seat) acted.now)

-- a loan to another seat
pub others-lend : (seat other : ℕ) (v w : Posted) (loan : Loan) → other ≢ seat → IsLent v w other loan → OthersAct seat v w
others-lend seat other v w loan differ h = others-one seat v w (E.Lend other loan.name) (Some other) refl (apart-some other seat differ) h.entry

-- the loans are told by the entries
pub loans-told : (v : Posted) → IsKnown v → (core_of v).loans ≡ loans_after [] v.entries
loans-told v h = run-loans (machine_of v) v.settings v.entries (Some (opening (start_state v))) (opening (start_state v)) (core_of v) refl h.legal

pub seat-told : (v : Posted) (other : ℕ) (n : Name) → IsKnown v → IsLoanOf v other n → seat_of (find_loan n (loans_after [] v.entries)) ≡ Some other
seat-told v other n h lent = ap (λ (ls : List OpenLoan). seat_of (find_loan n ls)) (sym (loans-told v h)) ∙ ap seat_of lent.1 ∙ ap Some lent.2

owner-back : (v : Posted) (other : ℕ) (n : Name) (result : Back) → seat_of (find_loan n (loans_after [] v.entries)) ≡ Some other → owner_of v.entries (back_entry v n result) ≡ Some other
owner-back v other n Taken h = h
owner-back v other n (Dropped row) h = h
owner-back v other n Over h = h

-- another seat's loan comes home
pub others-back : (seat other : ℕ) (v w : Posted) (n : Name) (result : Back) → IsKnown v → other ≢ seat → IsLoanOf v other n → IsReturned v w n result → OthersAct seat v w
others-back seat other v w n result known differ lent h =
    others-one seat v w (back_entry v n result) (Some other) (owner-back v other n result (seat-told v other n known lent)) (apart-some other seat differ) h.entry

-- another seat's loan is given up
pub others-gone : (seat other : ℕ) (v w : Posted) (n : Name) → IsKnown v → other ≢ seat → IsLoanOf v other n → w ≡ posted v (E.Gone n) → OthersAct seat v w
others-gone seat other v w n known differ lent h = others-one seat v w (E.Gone n) (Some other) (seat-told v other n known lent) (apart-some other seat differ) h

-- only seat 0 releases
pub others-release : (seat : ℕ) (v w : Posted) (bytes : List Mark) → 0 ≢ seat → w ≡ released_with v bytes → OthersAct seat v w
others-release seat v w [] differ h = others-none seat v w h
others-release seat v w (m ∷ ms) differ h = others-one seat v w (E.Release _) (Some 0) refl (apart-some 0 seat differ) h

halted-by : (seat other : ℕ) (v w : Posted) (ended : Bool) → other ≢ seat → w ≡ (if ended then v else posted v (E.Halt other)) → OthersAct seat v w
halted-by seat other v w true differ h = others-none seat v w h
halted-by seat other v w false differ h = others-one seat v w (E.Halt other) (Some other) refl (apart-some other seat differ) h

-- another seat ends the run
pub others-halt : (seat other : ℕ) (v w : Posted) → other ≢ seat → w ≡ (if over (core_of v) then v else posted v (E.Halt other)) → OthersAct seat v w
others-halt seat other v w differ h = halted-by seat other v w (over (core_of v)) differ h
