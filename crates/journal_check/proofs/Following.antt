-- One entry: where it isn't allowed, and what the board is where it is.
use Rattle.std.proofs.Common.{◌≡◌, ◌≢◌, ℕ, suc, ◌+◌, ◌^◌, ◌<◌, Bool, true, false, not, ◌&&◌, if◌then◌else◌, nat_eq, nat_lt, List, [], ◌∷◌, ◌++◌, length, Option, Some, None, is_some, is_none, length-append, refl, sym, ap, ap₂, ◌∙◌, subst, eqb-true, eq-eqb, arith, Vec, Global}
use Rattle.std.proofs.lemmas.Option.{same_Some}
use Rattle.std.proofs.lemmas.Bool.{and_parts, not-true}
use Rattle.speculation.specs.declared.tracks.Name.{Name}
use Rattle.speculation.specs.declared.tracks.OpenLoan.{OpenLoan}
use Rattle.speculation.specs.declared.history.Entry.{Entry}
use Rattle.speculation.specs.declared.history.Entry.TheVariants.{Lend, Back, Gone, Fork, Cross, Keep, Discard, Release, Finish, Halt}
use Rattle.speculation.specs.Run.{Mark}
use Rattle.speculation.specs.Verdicts.{is_kept}
use Rattle.speculation.specs.Core.{Track as CoreTrack, over, lead_name, is_named, find_loan, find_track, front_home, most_slice}
use Rattle.speculation.specs.Due.{Due, Finishing, Crossing, Judging, Forking}
use Rattle.speculation.specs.Effects.{effect}
use Rattle.speculation.specs.Events.{some_if, slice, back_of, gone_of, released_by, released_core, is_row_entry, is_entry_of, due_done, event}
use Rattle.speculation.specs.Serial.{row_entry, entry_of, slice_of}
use Rattle.speculation_law.proofs.Options.{some_if-some, is_none-none, is_some-none}
use Rattle.speculation_law.proofs.Names.{name_eq-true, name_eq-refl}
use Rattle.speculation_law.proofs.Happens.{lent_core, back_core, event-happens}
use Rattle.speculation_law.proofs.Prefixes.{released-happens}
use Rattle.guest_model.specs.MachineState.{MachineState}
use Rattle.guest_model.specs.declared.difference.Difference.{Difference}
use Rattle.guest_model.specs.declared.end.End.{End}
use Rattle.rv32_law.proofs.OutputBounds.{history-bound}
use Rattle.track_state.specs.Views.{view_of}
use Rattle.track_state.specs.Runs.{RanOn, run_length}
use Rattle.track_state.proofs.OnTracks.{length_slice}
use Rattle.track_board.specs.declared.loan.Loan.{Loan}
use Rattle.track_board.specs.declared.loan.Back.{Back as Answer}
use Rattle.track_board.specs.declared.loan.Back.TheVariants.{Taken}
use Rattle.track_board.specs.Value.{Posted, GuestCore, IsKnown, machine_of, start_state, core_of, posted}
use Rattle.track_board.specs.Loans.{IsLoan, HasRun, may_lend, LendNamedIs, back_by, back_entry, IsReturned}
use Rattle.track_board.specs.Settles.{SettlesOne, due_of, verified_of, released_with}
use Rattle.track_board.proofs.Lents.{All-at}
use Rattle.track_board.proofs.Others.{run-home}
use Rattle.journal_check.specs.declared.replay.Replay.{Replay}
use Rattle.journal_check.specs.Replays.{IsTakenOut, IsAsLent, AreOut, IsFollowing, Follows, FollowsIf, IsRefused, IsOfDue, same_event, names_of, is_live, may_return}
use Rattle.journal_check.proofs.Loans.{found-named, KeepsLoans, out-kept, out-ended, out-added}
use Rattle.journal_check.proofs.Staying.{starts-in_guest, sound-of, posted-event}

-- ---- Lend

pub lend-refused : (v : Posted) (seat : ℕ) (n : Name) → may_lend v n ≡ false → IsRefused v (Lend seat n)
unfolding event
lend-refused v seat n h = ap (λ (t : Bool). some_if t (lent_core (core_of v) seat n)) h

-- ---- Back

-- the track of this name may come home
pub record MayEnd (v : Posted) (n : Name) : Type 0 where
  pub open_loan : OpenLoan
  pub found : find_loan n (core_of v).loans ≡ Some open_loan
  pub undropped : open_loan.dropped ≡ None
  pub running : over (core_of v) ≡ false

live-found : (o : Option OpenLoan) → is_live o ≡ true → (l : OpenLoan) × (o ≡ Some l) × (l.dropped ≡ None)
live-found None h = absurd (cc)
live-found (Some l) h = (l, refl, is_none-none l.dropped h)

pub may-return : (v : Posted) (n : Name) → may_return v n ≡ true → MayEnd v n
may-return v n h =
    let parts = and_parts (not (over (core_of v))) (is_live (find_loan n (core_of v).loans)) h in
    let live = live-found (find_loan n (core_of v).loans) parts.1 in
    record { open_loan = live.0; found = live.1; undropped = live.2; running = not-true (over (core_of v)) parts.0 }

-- a loan of the core is among those that are out
pub loan-named : (v : Posted) (out : List Loan) (n : Name) (l : OpenLoan) → AreOut v out → find_loan n (core_of v).loans ≡ Some l → is_named n (names_of out) ≡ true
loan-named v out n l h found = subst (λ (ns : List Name). is_named n ns ≡ true) (sym h.names) (found-named n l (core_of v).loans found)

three-false : (p q r : Bool) → (q && p) ≡ false → (p && (q && r)) ≡ false
three-false true true r h = absurd (cc)
three-false true false r h = refl
three-false false q r h = refl

last-false : (p q r : Bool) → r ≡ false → (p && (q && r)) ≡ false
last-false true true r h = h
last-false true false r h = refl
last-false false q r h = refl

none-back : (v : Posted) (n : Name) (count : ℕ) (l : Option OpenLoan) (t : Option (CoreTrack MachineState)) → (not (over (core_of v)) && is_live l) ≡ false
    → back_of (machine_of v) v.settings (core_of v) n count l t ≡ None
none-back v n count None t h = refl
none-back v n count (Some l) None h = refl
none-back v n count (Some l) (Some t) h =
    ap (λ (u : Bool). some_if u (back_core (machine_of v) v.settings (core_of v) n)) (three-false (is_none l.dropped) (not (over (core_of v))) (nat_eq count (slice (machine_of v) v.settings t)) h)

pub back-refused : (v : Posted) (n : Name) (count : ℕ) → may_return v n ≡ false → IsRefused v (Back n count)
unfolding event
back-refused v n count h = none-back v n count (find_loan n (core_of v).loans) (find_track (core_of v) n) h

-- ---- Gone

pub gone-refused : (v : Posted) (n : Name) → find_loan n (core_of v).loans ≡ None → IsRefused v (Gone n)
unfolding event
gone-refused v n h = ap (gone_of (core_of v) n) h

-- ---- the due event

pub undue-refused : (v : Posted) (x : Entry) → IsOfDue x → due_of v ≡ None → IsRefused v x
unfolding event
undue-refused v (Lend seat n) of_due h = absurd of_due
undue-refused v (Back n count) of_due h = absurd of_due
undue-refused v (Gone n) of_due h = absurd of_due
undue-refused v (Release bytes) of_due h = absurd of_due
undue-refused v (Halt seat) of_due h = absurd of_due
undue-refused v (Fork n) of_due h = ap (due_done (machine_of v) v.settings (core_of v) (Fork n)) h
undue-refused v (Cross n) of_due h = ap (due_done (machine_of v) v.settings (core_of v) (Cross n)) h
undue-refused v (Keep row) of_due h = ap (due_done (machine_of v) v.settings (core_of v) (Keep row)) h
undue-refused v (Discard row) of_due h = ap (due_done (machine_of v) v.settings (core_of v) (Discard row)) h
undue-refused v Finish of_due h = ap (due_done (machine_of v) v.settings (core_of v) Finish) h

row-is : (row : ℕ) (x : Entry) (kept : Bool) → is_row_entry row x kept ≡ true → x ≡ row_entry kept row
row-is row (Keep k) true h = ap Keep (eqb-true k row h)
row-is row (Discard k) false h = ap Discard (eqb-true k row h)
row-is row _ kept h = absurd (cc)

entry-is : (c : GuestCore) (d : Due MachineState End Difference) (x : Entry) → is_entry_of c d x ≡ true → x ≡ entry_of c d
entry-is c (Finishing f) Finish h = refl
entry-is c (Finishing f) _ h = absurd (cc)
entry-is c Crossing (Cross n) h = ap Cross (name_eq-true n (lead_name c) h)
entry-is c Crossing _ h = absurd (cc)
entry-is c (Judging v) x h = row-is (length c.rows) x (is_kept v.judged.verdict) h
entry-is c Forking (Fork n) h = ap Fork (name_eq-true n (record { generation = c.generation; region = suc c.last; normal = false }) h)
entry-is c Forking _ h = absurd (cc)

other-by : (c : GuestCore) (d : Due MachineState End Difference) (x : Entry) (t : Bool) → is_entry_of c d x ≡ t → x ≢ entry_of c d → t ≡ false
other-by c d x true is other = absurd (other (entry-is c d x is))
other-by c d x false is other = refl

none-done : (v : Posted) (x : Entry) (d : Due MachineState End Difference) (o : Option (Due MachineState End Difference)) → o ≡ Some d → x ≢ entry_of (core_of v) d → due_done (machine_of v) v.settings (core_of v) x o ≡ None
none-done v x d o is other =
    ap (due_done (machine_of v) v.settings (core_of v) x) is
    ∙ ap (λ (t : Bool). some_if t (effect (machine_of v) v.settings (core_of v) d)) (other-by (core_of v) d x (is_entry_of (core_of v) d x) refl other)

-- another event is due
pub due-refused : (v : Posted) (x : Entry) (d : Due MachineState End Difference) → IsOfDue x → due_of v ≡ Some d → x ≢ entry_of (core_of v) d → IsRefused v x
unfolding event
due-refused v (Lend seat n) d of_due h other = absurd of_due
due-refused v (Back n count) d of_due h other = absurd of_due
due-refused v (Gone n) d of_due h other = absurd of_due
due-refused v (Release bytes) d of_due h other = absurd of_due
due-refused v (Halt seat) d of_due h other = absurd of_due
due-refused v (Fork n) d of_due h other = none-done v (Fork n) d (due_of v) h other
due-refused v (Cross n) d of_due h other = none-done v (Cross n) d (due_of v) h other
due-refused v (Keep row) d of_due h other = none-done v (Keep row) d (due_of v) h other
due-refused v (Discard row) d of_due h other = none-done v (Discard row) d (due_of v) h other
due-refused v Finish d of_due h other = none-done v Finish d (due_of v) h other

-- ---- Release

pub release-refused : (v : Posted) (bytes : ℕ) → bytes ≢ length (verified_of v) → IsRefused v (Release bytes)
unfolding event
release-refused v bytes h =
    ap (λ (t : Bool). some_if (nat_lt 0 bytes && t) (released_core v.settings (core_of v))) (apart-by bytes (length (verified_of v)) (nat_eq bytes (length (verified_of v))) refl h)
    ∙ ap (λ (t : Bool). some_if t (released_core v.settings (core_of v))) (and-false (nat_lt 0 bytes))
  where
    apart-by : (m n : ℕ) (t : Bool) → nat_eq m n ≡ t → m ≢ n → t ≡ false
    apart-by m n true is differ = absurd (differ (eqb-true m n is))
    apart-by m n false is differ = refl

    and-false : (t : Bool) → (t && false) ≡ false
    and-false true = refl
    and-false false = refl

pub nothing-refused : (v : Posted) (bytes : ℕ) → bytes ≡ 0 → IsRefused v (Release bytes)
unfolding event
nothing-refused v bytes h = ap (λ (n : ℕ). some_if (nat_lt 0 n && nat_eq n (length (verified_of v))) (released_core v.settings (core_of v))) h

-- what was released is what the entry tells
pub released-is : (v w : Posted) (marks : List Mark) (bytes : ℕ) → marks ≡ verified_of v → w ≡ released_with v marks → bytes ≡ length (verified_of v) → bytes ≢ 0 → w ≡ posted v (Release bytes)
released-is v w [] bytes is now count some = absurd (some (count ∙ ap (length {A = Mark}) (sym is)))
released-is v w (m ∷ ms) bytes is now count some = now ∙ ap (λ (n : ℕ). posted v (Release n)) (sym (count ∙ ap (length {A = Mark}) (sym is)))

home-released : (home : Bool) (limit : ℕ) (c : GuestCore) (marks : List Mark) → (released_by home limit c marks).released ≡ c.released ++ marks
home-released true limit c marks = refl
home-released false limit c marks = refl

released-more : (v w : Posted) (bytes : ℕ) → event (machine_of v) v.settings (core_of v) (Release bytes) ≡ Some (core_of w) → (core_of w).released ≡ (core_of v).released ++ verified_of v
unfolding event
released-more v w bytes h =
    let passed = some_if-some (nat_lt 0 bytes && nat_eq bytes (length (verified_of v))) (released_core v.settings (core_of v)) (core_of w) h in
    ap (λ (c : GuestCore). c.released) (sym passed.is) ∙ home-released (front_home (core_of v)) _ (core_of v) (verified_of v)

-- and the count of released bytes grows by it
pub released-grows : (v w : Posted) (bytes : ℕ) → IsKnown v → IsKnown w → w ≡ posted v (Release bytes) → bytes ≡ length (verified_of v) → length (core_of w).released ≡ length (core_of v).released + bytes
released-grows v w bytes known after is count =
    ap (length {A = Mark}) (released-more v w bytes (posted-event v w (Release bytes) known after is))
    ∙ length-append (core_of v).released (verified_of v) ∙ ap (λ (n : ℕ). length (core_of v).released + n) (sym count)

-- within 64 bits
pub released-fits : (v : Posted) (released bytes : ℕ) → IsKnown v → released ≡ length (core_of v).released → bytes ≡ length (verified_of v) → released + bytes < 2 ^ 64
released-fits v released bytes known is count =
    let bound = history-bound v.input v.settings (start_state v) v.entries (core_of v) (starts-in_guest v) known.legal in
    let both = length-append (core_of v).released (verified_of v) in
    let budget = known.limits.budget in
    omega (arith, bound, both, budget)

-- no other entry releases anything
pub released-kept : (v w : Posted) (x : Entry) → IsKnown v → IsKnown w → w ≡ posted v x → ((count : ℕ) → x ≡ Release count → ⊥) → length (core_of v).released ≡ length (core_of w).released
released-kept v w x known after is never =
    sym (ap (length {A = Mark}) (released-happens (machine_of v) v.settings (core_of v) (core_of w) x never
    (event-happens (machine_of v) v.settings (core_of v) (core_of w) x (posted-event v w x known after is))))

-- ---- Halt

pub halt-refused : (v : Posted) (seat : ℕ) → over (core_of v) ≡ true → IsRefused v (Halt seat)
unfolding event
halt-refused v seat h = ap (λ (t : Bool). some_if (not t) (record (core_of v) { halted = true })) h

-- ---- a track that comes home

module _ (v : Posted) (n : Name) (loan : Loan) (known : IsKnown v) (may : MayEnd v n) (as_lent : IsAsLent v loan) (name : loan.name ≡ n) where
  loan-found : find_loan loan.name (core_of v).loans ≡ Some may.open_loan
  loan-found = ap (λ (k : Name). find_loan k (core_of v).loans) name ∙ may.found

  -- the track that is out
  live_track : (t : CoreTrack MachineState) × (find_track (core_of v) n ≡ Some t)
  live_track = (sound-of v known).named.live n may.open_loan may.found may.undropped

  loan-track : find_track (core_of v) loan.name ≡ Some live_track.0
  loan-track = ap (find_track (core_of v)) name ∙ live_track.1

  module _ (ran : Loan) (count : ℕ) (same : ran.name ≡ loan.name) (taken : count ≡ run_length loan.input (view_of loan.track) most_slice) (run : RanOn loan.input (view_of loan.track) (view_of ran.track) count) where
    -- it ran by its slice
    count-slice : count ≡ slice (machine_of v) v.settings live_track.0
    count-slice =
        let stands = as_lent.live may.open_loan loan-found may.undropped live_track.0 loan-track in
        taken ∙ ap (λ (input : List ℕ). run_length input (view_of loan.track) most_slice) as_lent.input
        ∙ length_slice v.input v.settings (view_of loan.track) stands.budget ∙ ap (slice (machine_of v) v.settings) stands.is

    ran-name : ran.name ≡ n
    ran-name = same ∙ name

    pub ran-lent : IsLoan v ran.name
    ran-lent = (may.open_loan, ap (λ (k : Name). find_loan k (core_of v).loans) ran-name ∙ may.found)

    pub ran-home : HasRun v ran
    ran-home =
        (run-home v may.open_loan.seat loan ran count (record { lent = (may.open_loan, loan-found, refl); input = as_lent.input; runs = as_lent.runs; live = as_lent.live }) same taken run).ran

    -- the board takes it
    pub back-is : (w : Posted) (answer : Answer) → IsReturned v w ran.name answer → w ≡ posted v (Back n count)
    back-is w answer h =
        let here : h.loan ≡ may.open_loan = same_Some h.loan may.open_loan (sym h.found ∙ ap (λ (k : Name). find_loan k (core_of v).loans) ran-name ∙ may.found) in
        let undropped : h.loan.dropped ≡ None = ap (λ (l : OpenLoan). l.dropped) here ∙ may.undropped in
        let is_taken : answer ≡ Taken = h.answer ∙ ap₂ back_by undropped may.running in
        let sliced : slice_of (machine_of v) v.settings (find_track (core_of v) ran.name) ≡ count =
        ap (λ (k : Name). slice_of (machine_of v) v.settings (find_track (core_of v) k)) ran-name ∙ ap (slice_of (machine_of v) v.settings) live_track.1 ∙ sym count-slice in
        h.entry ∙ ap (λ (a : Answer). posted v (back_entry v ran.name a)) is_taken ∙ ap₂ (λ (k : Name) (m : ℕ). posted v (Back k m)) ran-name sliced

    -- a count that isn't the slice's is refused
    pub count-refused : (told : ℕ) → count ≢ told → IsRefused v (Back n told)
    unfolding event
    count-refused told differ =
        ap₂ (λ (l : Option OpenLoan) (t : Option (CoreTrack MachineState)). back_of (machine_of v) v.settings (core_of v) n told l t) may.found live_track.1
        ∙ ap (λ (t : Bool). some_if t (back_core (machine_of v) v.settings (core_of v) n)) (last-false (is_none may.open_loan.dropped) (not (over (core_of v))) (nat_eq told (slice (machine_of v) v.settings live_track.0))
        (unequal-by (nat_eq told (slice (machine_of v) v.settings live_track.0)) refl))
      where
        unequal-by : (t : Bool) → nat_eq told (slice (machine_of v) v.settings live_track.0) ≡ t → t ≡ false
        unequal-by true is = absurd (differ (count-slice ∙ sym (eqb-true told (slice (machine_of v) v.settings live_track.0) is)))
        unequal-by false is = refl

-- ---- one entry of a due event

pub same_event-true : (y x : Entry) → same_event y x ≡ true → y ≡ x
same_event-true (Fork m) (Fork n) h = ap Fork (name_eq-true m n h)
same_event-true (Cross m) (Cross n) h = ap Cross (name_eq-true m n h)
same_event-true (Keep k) (Keep l) h = ap Keep (eqb-true k l h)
same_event-true (Discard k) (Discard l) h = ap Discard (eqb-true k l h)
same_event-true Finish Finish h = refl
same_event-true _ _ h = absurd (cc)

same_event-refl : (x : Entry) → IsOfDue x → same_event x x ≡ true
same_event-refl (Fork n) h = name_eq-refl n
same_event-refl (Cross n) h = name_eq-refl n
same_event-refl (Keep k) h = eq-eqb k k refl
same_event-refl (Discard k) h = eq-eqb k k refl
same_event-refl Finish h = refl
same_event-refl (Lend seat n) h = absurd h
same_event-refl (Back n count) h = absurd h
same_event-refl (Gone n) h = absurd h
same_event-refl (Release bytes) h = absurd h
same_event-refl (Halt seat) h = absurd h

-- the entry releases nothing
abbrev IsQuiet : Entry → Type 0
IsQuiet (Release bytes) = ⊥
IsQuiet _ = Unit {0}

due-quiet : (x : Entry) → IsOfDue x → IsQuiet x
due-quiet (Release bytes) h = h
due-quiet x h = tt

due-keeps : (x : Entry) → IsOfDue x → KeepsLoans x
due-keeps (Lend seat n) h = h
due-keeps (Back n count) h = h
due-keeps (Gone n) h = h
due-keeps x h = tt

-- another entry than that of the event
pub other_fork : (m : Name) (x : Entry) → ((n : Name) → x ≡ Fork n → ⊥) → false ≡ same_event (Fork m) x
other_fork m (Fork n) h = absurd (h n refl)
other_fork m _ h = refl

pub other_cross : (m : Name) (x : Entry) → ((n : Name) → x ≡ Cross n → ⊥) → false ≡ same_event (Cross m) x
other_cross m (Cross n) h = absurd (h n refl)
other_cross m _ h = refl

pub other_keep : (k : ℕ) (x : Entry) → ((l : ℕ) → x ≡ Keep l → ⊥) → false ≡ same_event (Keep k) x
other_keep k (Keep l) h = absurd (h l refl)
other_keep k _ h = refl

pub other_discard : (k : ℕ) (x : Entry) → ((l : ℕ) → x ≡ Discard l → ⊥) → false ≡ same_event (Discard k) x
other_discard k (Discard l) h = absurd (h l refl)
other_discard k _ h = refl

pub other_finish : (x : Entry) → (x ≡ Finish → ⊥) → false ≡ same_event Finish x
other_finish Finish h = absurd (h refl)
other_finish _ h = refl

-- the entry of no event that may be due
pub no_event : (y x : Entry) → ((n : Name) → y ≡ Fork n → ⊥) → ((n : Name) → y ≡ Cross n → ⊥) → ((l : ℕ) → y ≡ Keep l → ⊥) → ((l : ℕ) → y ≡ Discard l → ⊥) → (y ≡ Finish → ⊥) → false ≡ same_event y x
no_event (Fork n) x fork cross keep discard finish = absurd (fork n refl)
no_event (Cross n) x fork cross keep discard finish = absurd (cross n refl)
no_event (Keep l) x fork cross keep discard finish = absurd (keep l refl)
no_event (Discard l) x fork cross keep discard finish = absurd (discard l refl)
no_event Finish x fork cross keep discard finish = absurd (finish refl)
no_event _ x fork cross keep discard finish = refl

-- ---- whole steps

never : (x : Entry) → IsQuiet x → (count : ℕ) → x ≡ Release count → ⊥
never x h count same = subst IsQuiet same h

pub taken-as_lent : (v : Posted) (out left : List Loan) (n : Name) (loan : Loan) → AreOut v out → IsTakenOut out left n loan → IsAsLent v loan
taken-as_lent v out left n loan h taken = All-at (IsAsLent v) out taken.place loan taken.at h.each

pub none-out : (v : Posted) (n : Name) → is_some (find_loan n (core_of v).loans) ≡ false → find_loan n (core_of v).loans ≡ None
none-out v n h = is_some-none (find_loan n (core_of v).loans) h

some-of : (o : Option OpenLoan) → is_some o ≡ true → (l : OpenLoan) × (o ≡ Some l)
some-of (Some l) h = (l, refl)
some-of None h = absurd (cc)

pub some-out : (v : Posted) (n : Name) → is_some (find_loan n (core_of v).loans) ≡ true → IsLoan v n
some-out v n h = some-of (find_loan n (core_of v).loans) h

pub gone-lent : (v : Posted) (n k : Name) → IsLoan v n → k ≡ n → IsLoan v k
gone-lent v n k h same = subst (λ (m : Name). IsLoan v m) (sym same) h

module _ (old : Replay) (w : Posted) (on : IsFollowing old) (after : IsKnown w) where
  -- an entry that releases nothing
  quietly : (x : Entry) (out : Vec Loan Global) → IsQuiet x → w ≡ posted old.board x → AreOut w out.items → Follows old (record { board = w; out = out; released = old.released }) x
  quietly x out quiet is are_out = record {
    board = is;
    on = record { known = after; out = are_out; released = on.released ∙ released-kept old.board w x on.known after is (never x quiet) };
  }

  pub lend-follows : (more : Vec Loan Global) (seat : ℕ) (n : Name) (loan : Loan) (reserved : List Loan) → LendNamedIs old.board w seat n (Some loan) → reserved ≡ old.out.items → more.items ≡ reserved ++ (loan ∷ [])
      → Follows old (record { board = w; out = more; released = old.released }) (Lend seat n)
  lend-follows more seat n loan reserved lent same items =
      quietly (Lend seat n) more tt (lent.0.entry ∙ ap (λ (k : Name). posted old.board (Lend seat k)) lent.1)
      (out-added old.board w seat loan old.out.items more.items on.known after lent.0 (items ∙ ap (λ (ls : List Loan). ls ++ (loan ∷ [])) same) on.out)

  pub back-follows : (left : Vec Loan Global) (n : Name) (ran told : ℕ) (loan : Loan) → IsTakenOut old.out.items left.items n loan → w ≡ posted old.board (Back n ran) → ran ≡ told
      → Follows old (record { board = w; out = left; released = old.released }) (Back n told)
  back-follows left n ran told loan taken is same =
      let now : w ≡ posted old.board (Back n told) = is ∙ ap (λ (k : ℕ). posted old.board (Back n k)) same in
      quietly (Back n told) left tt now (out-ended old.board w (Back n told) on.known after now old.out.items on.out n loan left.items refl taken)

  pub gone-follows : (left : Vec Loan Global) (n : Name) (loan : Loan) → IsTakenOut old.out.items left.items n loan → w ≡ posted old.board (Gone loan.name)
      → Follows old (record { board = w; out = left; released = old.released }) (Gone n)
  gone-follows left n loan taken is =
      let now : w ≡ posted old.board (Gone n) = is ∙ ap (λ (k : Name). posted old.board (Gone k)) taken.name in
      quietly (Gone n) left tt now (out-ended old.board w (Gone n) on.known after now old.out.items on.out n loan left.items refl taken)

  pub halt-follows : (seat : ℕ) → over (core_of old.board) ≡ false → w ≡ (if over (core_of old.board) then old.board else posted old.board (Halt seat))
      → Follows old (record { board = w; out = old.out; released = old.released }) (Halt seat)
  halt-follows seat running is =
      let now : w ≡ posted old.board (Halt seat) = is ∙ ap (λ (t : Bool). if t then old.board else posted old.board (Halt seat)) running in
      quietly (Halt seat) old.out tt now (out-kept old.board w (Halt seat) on.known after now old.out.items on.out tt)

  pub release-follows : (bytes : ℕ) (marks : List Mark) → marks ≡ verified_of old.board → w ≡ released_with old.board marks → bytes ≡ length (verified_of old.board) → bytes ≢ 0
      → Follows old (record { board = w; out = old.out; released = old.released + bytes }) (Release bytes)
  release-follows bytes marks is now count some =
      let entry = released-is old.board w marks bytes is now count some in
      record {
        board = entry;
        on = record {
          known = after;
          out = out-kept old.board w (Release bytes) on.known after entry old.out.items on.out tt;
          released = ap (λ (k : ℕ). k + bytes) on.released ∙ sym (released-grows old.board w bytes on.known after entry count);
        };
      }

  -- the due event, by whether its entry is the one that is told
  settled : (done x : Entry) (t : Bool) → IsOfDue x → SettlesOne old.board w (Some done) → same_event done x ≡ t → FollowsIf old (record { board = w; out = old.out; released = old.released }) x t
  settled done x true of_due h is =
      let now : w ≡ posted old.board x = h.0 ∙ ap (posted old.board) (same_event-true done x is) in
      quietly x old.out (due-quiet x of_due) now (out-kept old.board w x on.known after now old.out.items on.out (due-keeps x of_due))
  settled done x false of_due h is =
      due-refused old.board x h.1.0 of_due h.1.1 (λ same. (
      let one : done ≡ x = h.1.2 ∙ sym same in
      let both : true ≡ false = sym (same_event-refl x of_due) ∙ ap (λ (y : Entry). same_event y x) (sym one) ∙ is in cc))

  pub settle-follows : (done x : Entry) (t : Bool) → IsOfDue x → SettlesOne old.board w (Some done) → t ≡ same_event done x → FollowsIf old (record { board = w; out = old.out; released = old.released }) x t
  settle-follows done x t of_due h is = settled done x t of_due h (sym is)
