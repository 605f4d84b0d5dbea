-- Where the board goes on by one entry, a track that is out stays as it was lent.
use Rattle.std.proofs.Common.{◌≡◌, ℕ, ◌-◌, Bool, true, false, List, [], ◌∷◌, Option, Some, None, length, refl, sym, ap, ◌∙◌, subst}
use Rattle.std.proofs.lemmas.Option.{same_Some}
use Rattle.speculation.specs.declared.tracks.Name.{Name}
use Rattle.speculation.specs.declared.tracks.OpenLoan.{OpenLoan}
use Rattle.speculation.specs.declared.history.Entry.{Entry}
use Rattle.speculation.specs.declared.history.Entry.TheVariants.{Fork, Cross, Keep, Discard, Finish}
use Rattle.speculation.specs.Run.{Mark}
use Rattle.speculation.specs.Verdicts.{is_kept}
use Rattle.speculation.specs.Core.{opening, name_eq, find_loan, find_track, front_home, verified}
use Rattle.speculation.specs.Due.{Due, Finishing, Crossing, Judging, Forking}
use Rattle.speculation.specs.Events.{end_loan, gone_live, released_by, released_core, is_row_entry, is_entry_of, event, core_run}
use Rattle.speculation.specs.Law.{Exact}
use Rattle.speculation.specs.Loans.{owner_of}
use Rattle.speculation_law.specs.Naming.{Distinct, Sound}
use Rattle.speculation_law.proofs.Names.{find_track-found, is_lent-found}
use Rattle.speculation_law.proofs.FindLoan.{find_loan-append, find_loan-other, find_loan-ended}
use Rattle.speculation_law.proofs.Names.{name_eq-true}
use Rattle.speculation_law.proofs.LiveTracks.{find_track-back, find_track-released}
use Rattle.speculation_law.proofs.Happens.{Happens, Lends, Returns, Vanishes, Releases, Halts, Does, lent_core, back_core, event-happens}
use Rattle.speculation_law.proofs.Soundness.{sound-history, core_run-append}
use Rattle.guest_model.specs.MachineState.{MachineState}
use Rattle.guest_model.specs.declared.difference.Difference.{Difference}
use Rattle.guest_model.specs.declared.end.End.{End}
use Rattle.rv32_law.proofs.Differences.{exact-rv32}
use Rattle.rv32_law.proofs.Starts.{start-is-guest}
use Rattle.rv32_law.specs.GuestStates.{IsGuestState}
use Rattle.track_board.specs.declared.loan.Loan.{Loan}
use Rattle.track_board.specs.Value.{Posted, GuestCore, IsKnown, machine_of, start_state, run_of, core_of, posted}
use Rattle.track_board.specs.Parts.{TrackStands}
use Rattle.track_board.specs.Loans.{IsLoan}
use Rattle.track_board.specs.Others.{OthersAct, IsOut}
use Rattle.track_board.proofs.Others.{out-stays}
use Rattle.journal_check.specs.Replays.{IsAsLent}

-- ---- a board that is known

pub starts-in_guest : (v : Posted) → IsGuestState v.input (start_state v)
starts-in_guest v = start-is-guest v.input v.loaded.entry v.loaded.areas v.loaded.heap v.loaded.layout

pub exact-of : (v : Posted) → Exact (machine_of v) (start_state v)
exact-of v = exact-rv32 v.input (start_state v) (starts-in_guest v)

pub sound-of : (v : Posted) → IsKnown v → Sound (machine_of v) v.settings (start_state v) (core_of v)
sound-of v h = sound-history (machine_of v) v.settings (start_state v) v.entries (core_of v) (exact-of v) h.legal

-- one entry more leads from core to core
pub posted-event : (v w : Posted) (x : Entry) → IsKnown v → IsKnown w → w ≡ posted v x → event (machine_of v) v.settings (core_of v) x ≡ Some (core_of w)
unfolding core_run
posted-event v w x known after is =
    sym (core_run-append (machine_of v) v.settings (start_state v) v.entries (x ∷ []) (Some (opening (start_state v)))
    ∙ ap (λ (o : Option GuestCore). core_run (machine_of v) v.settings o (x ∷ [])) known.legal)
    ∙ sym (ap run_of is) ∙ after.legal

-- ---- one entry

-- a loan of this name that no discard dropped was one before, of the same track
abbrev pub Remains : Name → GuestCore → GuestCore → Type 0
Remains n c new =
    (l : OpenLoan) → find_loan n new.loans ≡ Some l → l.dropped ≡ None → (find_loan n c.loans ≡ Some l) × (find_track new n ≡ find_track c n)

remains-lent : (c : GuestCore) (n k : Name) (seat : ℕ) (was : OpenLoan) → find_loan n c.loans ≡ Some was → Remains n c (lent_core c seat k)
remains-lent c n k seat was had l found undropped =
    let still = find_loan-append n c.loans (record { seat = seat; name = k; dropped = None }) was had in
    let same : was ≡ l = same_Some was l (sym still ∙ found) in
    (had ∙ ap Some same, refl)

-- by whether the loan that ended is this one
ended-by : (c : GuestCore) (n k : Name) (t : Bool) → name_eq k n ≡ t → Distinct c.loans → (l : OpenLoan) → find_loan n (end_loan k c.loans) ≡ Some l → (name_eq k n ≡ false) × (find_loan n c.loans ≡ Some l)
ended-by c n k true is distinct l found =
    absurd (let none : find_loan n (end_loan k c.loans) ≡ None = ap (λ (x : Name). find_loan n (end_loan x c.loans)) (name_eq-true k n is) ∙ find_loan-ended n c.loans distinct in cc)
ended-by c n k false is distinct l found = (is, sym (find_loan-other n k c.loans is) ∙ found)

gone-loans : (c : GuestCore) (k : Name) (o : Option ℕ) → (gone_live c k o).loans ≡ end_loan k c.loans
gone-loans c k (Some row) = refl
gone-loans c k None = refl

gone-track : (c : GuestCore) (n k : Name) (o : Option ℕ) → find_track (gone_live c k o) n ≡ find_track c n
gone-track c n k (Some row) = refl
gone-track c n k None = refl

released-loans : (c : GuestCore) (home : Bool) (limit : ℕ) (bytes : List Mark) → (released_by home limit c bytes).loans ≡ c.loans
released-loans c true limit bytes = refl
released-loans c false limit bytes = refl

row-owner : (before : List Entry) (row : ℕ) (x : Entry) (kept : Bool) → is_row_entry row x kept ≡ true → owner_of before x ≡ None
row-owner before row (Keep k) true h = refl
row-owner before row (Discard k) false h = refl
row-owner before row _ kept h = absurd (cc)

-- a due event belongs to no seat
due-owner : (before : List Entry) (c : GuestCore) (d : Due MachineState End Difference) (x : Entry) → is_entry_of c d x ≡ true → owner_of before x ≡ None
due-owner before c (Finishing f) Finish h = refl
due-owner before c (Finishing f) _ h = absurd (cc)
due-owner before c Crossing (Cross n) h = refl
due-owner before c Crossing _ h = absurd (cc)
due-owner before c (Judging v) x h = row-owner before (length c.rows) x (is_kept v.judged.verdict) h
due-owner before c Forking (Fork n) h = refl
due-owner before c Forking _ h = absurd (cc)

module _ (v w : Posted) (x : Entry) (known : IsKnown v) (after : IsKnown w) (is : w ≡ posted v x) (loan : Loan) (lent : IsLoan v loan.name) (as_lent : IsAsLent v loan) where
  as_lent-remains : Remains loan.name (core_of v) (core_of w) → IsAsLent w loan
  as_lent-remains remains = record {
    input = as_lent.input ∙ sym (ap (λ (u : Posted). u.input) is);
    runs = as_lent.runs;
    live = λ l found undropped t live.
        (let was = remains l found undropped in
        subst (λ (u : Posted). TrackStands u.input u.settings.budget loan.track true t) (sym is) (as_lent.live l was.0 undropped t (sym was.1 ∙ live)));
  }

  as_lent-unowned : owner_of v.entries x ≡ None → IsAsLent w loan
  as_lent-unowned none =
      let others : OthersAct lent.0.seat v w = record { rest = x ∷ []; is = is; foreign = ((λ same. (let both : None ≡ Some lent.0.seat = sym none ∙ same in cc)), tt) } in
      let out : IsOut v lent.0.seat loan = record { lent = (lent.0, lent.1, refl); input = as_lent.input; runs = as_lent.runs; live = as_lent.live } in
      let stays = out-stays v w lent.0.seat loan known after others out in
      record { input = stays.input; runs = stays.runs; live = stays.live }

  abbrev at : (c : GuestCore) → c ≡ core_of w → Remains loan.name (core_of v) c → IsAsLent w loan
  at c same remains = as_lent-remains (subst (Remains loan.name (core_of v)) same remains)

  as_lent-happens : Happens (machine_of v) v.settings (core_of v) (core_of w) x → IsAsLent w loan
  as_lent-happens (Lends seat k t entry can new) = at (lent_core (core_of v) seat k) new (remains-lent (core_of v) loan.name k seat lent.0 lent.1)
  as_lent-happens (Returns k count l t entry live found undropped tracked counted new) =
      at (back_core (machine_of v) v.settings (core_of v) k) new (λ l2 here undropped2.
      (let other = ended-by (core_of v) loan.name k (name_eq k loan.name) refl (sound-of v known).named.distinct l2 here in
      (other.1, find_track-back (machine_of v) v.settings (core_of v) loan.name k t (find_track-found (core_of v) k t tracked) other.0)))
  as_lent-happens (Vanishes k l entry found new) =
      at (gone_live (core_of v) k l.dropped) new (λ l2 here undropped2.
      (let other = ended-by (core_of v) loan.name k (name_eq k loan.name) refl (sound-of v known).named.distinct l2 (sym (ap (find_loan loan.name) (gone-loans (core_of v) k l.dropped)) ∙ here) in
      (other.1, gone-track (core_of v) loan.name k l.dropped)))
  as_lent-happens (Releases count entry some counted new) =
      at (released_core v.settings (core_of v)) new (λ l2 here undropped2.
      (let same : find_loan loan.name (core_of v).loans ≡ Some l2 =
      sym (ap (find_loan loan.name) (released-loans (core_of v) (front_home (core_of v)) (v.settings.budget - (core_of v).base) (verified v.settings (core_of v)))) ∙ here in (
        same,
        find_track-released (machine_of v) v.settings (core_of v) loan.name (front_home (core_of v)) (v.settings.budget - (core_of v).base) (verified v.settings (core_of v)) refl
            (is_lent-found loan.name l2 (core_of v).loans same undropped2),
      )))
  as_lent-happens (Halts seat entry live new) = at (record (core_of v) { halted = true }) new (λ l2 here undropped2. (here, refl))
  as_lent-happens (Does d due_is entry new) = as_lent-unowned (due-owner v.entries (core_of v) d x entry)

  -- whatever the entry is
  pub as_lent-stays : IsAsLent w loan
  as_lent-stays = as_lent-happens (event-happens (machine_of v) v.settings (core_of v) (core_of w) x (posted-event v w x known after is))
