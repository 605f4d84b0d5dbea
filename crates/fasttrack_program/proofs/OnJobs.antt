-- The jobs of a batch: from the files that a list names to what is reported of each
use Rattle.std.proofs.Common.{◌≡◌, ℕ, suc, ◌+◌, ◌<◌, ◌≤◌, List, [], ◌∷◌, ◌++◌, length, take, get_or, map, Option, Some, None, Result, Ok, Err, inl, inr, refl, sym, ap, ◌∙◌, subst, append-nil, append_assoc, arith}
use Rattle.std.specs.Global.{Global}
use Rattle.std.specs.Prelude.{All, IfOk, IfErr, OnOk, String, Vec, string_bytes, not}
use Rattle.std.specs.List.{AllZip, cons_option}
use Rattle.std.proofs.Math.ListN.{length-map}
use Rattle.std.proofs.lemmas.List.{take_more, map-append, get_or-map}
use Rattle.std.proofs.lemmas.List.Elements.{All-nil, All-cons, filter_map-append}
use Rattle.std.proofs.lemmas.Slice.Zip.{all_zipped_more}
use Rattle.speculation.specs.declared.history.Entry.{Entry}
use Rattle.speculation.specs.declared.history.Settings.{Settings}
use Rattle.guest_model.specs.Image.{Image}
use Rattle.guest_streams.specs.GuestStreams.{Sinks}
use Rattle.guest_streams.specs.declared.fault.OutputFault.{OutputFault}
use Rattle.guest_streams.specs.declared.fault.OutputFault.TheVariants as F
use Rattle.sink_text.specs.TextOnSink.{WritesText}
use Rattle.track_board.specs.Value.{Posted}
use Rattle.job_batch.specs.Ends.{IsFresh, IsEndOf, AreEnds}
use Rattle.job_batch.specs.declared.ends.JobEnd.{JobEnd}
use Rattle.job_listing.specs.Lists.{names_in}
use Rattle.job_listing.specs.Listing.{jobs_text, merged, runs_in}
use Rattle.job_listing.proofs.OnLists.{names-few}
use Rattle.job_listing.specs.declared.report.JobReport.{JobReport}
use Rattle.job_listing.specs.declared.report.JobStart.{JobStart}
use Rattle.job_listing.specs.declared.report.JobStart.TheVariants as Starts
use Rattle.program_words.specs.CommandLine.{Request}
use Rattle.program_words.specs.declared.request.Task.TheVariants as Tasks
use Rattle.fasttrack_program.specs.declared.answer.Answer.{Answer}
use Rattle.fasttrack_program.specs.declared.answer.Answer.TheVariants.{Shown, NoMemory}
use Rattle.fasttrack_program.specs.declared.jobs.FoundJobs.{FoundJobs}
use Rattle.fasttrack_program.specs.declared.served.Served.{Served}
use Rattle.fasttrack_program.specs.declared.served.Told.TheVariants.{Each}
use Rattle.fasttrack_program.specs.Answers.{answer_of_fault}
use Rattle.fasttrack_program.specs.Finding.{AddsJob, ReadsJobs, IsStartOf, Stands, StandsFor, FindsJobs, images_in, ok_image, start_refusal}
use Rattle.fasttrack_program.specs.Jobs.{Batch, IsBoardOf, IsReportOf, AreReports, history_in, histories_of_jobs}
use Rattle.fasttrack_program.specs.Plan.{Found, Refused, Runs, after, batch_of, image_in, input_in, job_settings, list_in, plan, unless_none}
use Rattle.fasttrack_program.specs.Reading.{Agrees, Known, AgreesWith, IsUnread, IsRefusedEarly, Reads}
use Rattle.fasttrack_program.specs.Serving.{plainly, IsRun, IsServed}
use Rattle.fasttrack_program.proofs.OnReports.{text_shown, text_stops, text_within}
use Rattle.fasttrack_program.proofs.OnReading.{late-unread}
use Rattle.fasttrack_program.proofs.OnPlans.{some_bytes, some_agree, found_file, agrees_file, found_both, agrees_both, plan-by, served-plan, served-unread}

-- ---- jobs that are found one after another

module _ (settings : Settings) (input : List ℕ) (jobs : List (Result Image Answer)) (starts starts' : List JobStart) (boards boards' : List Posted) (h : Stands settings input jobs starts boards) where
  -- one more that runs
  pub stands-run : (i : Image) (v : Posted) → IsBoardOf settings input i v → starts' ≡ starts ++ Starts.Runs ∷ [] → boards' ≡ boards ++ v ∷ [] → Stands settings input (jobs ++ Ok i ∷ []) starts' boards'
  stands-run i v board more others = record {
    starts_are = subst (AllZip IsStartOf (jobs ++ Ok i ∷ [])) (sym more) (all_zipped_more IsStartOf jobs starts (Ok i) Starts.Runs h.starts_are refl);
    boards_are = subst (λ (is : List Image). AllZip (IsBoardOf settings input) is boards') (sym (filter_map-append ok_image jobs (Ok i ∷ [])))
        (subst (AllZip (IsBoardOf settings input) (images_in jobs ++ i ∷ [])) (sym others) (all_zipped_more (IsBoardOf settings input) (images_in jobs) boards i v h.boards_are board));
  }

  -- one more that is refused
  pub stands-refused : (a : Answer) (start : JobStart) → start_refusal start ≡ Some a → starts' ≡ starts ++ start ∷ [] → boards' ≡ boards → Stands settings input (jobs ++ Err a ∷ []) starts' boards'
  stands-refused a start refusal more same = record {
    starts_are = subst (AllZip IsStartOf (jobs ++ Err a ∷ [])) (sym more) (all_zipped_more IsStartOf jobs starts (Err a) start h.starts_are refusal);
    boards_are = subst (λ (is : List Image). AllZip (IsBoardOf settings input) is boards') (sym (filter_map-append ok_image jobs (Err a ∷ []) ∙ append-nil (images_in jobs)))
        (subst (AllZip (IsBoardOf settings input) (images_in jobs)) (sym same) h.boards_are);
  }

-- the file of one name was read, and its job was added or memory ran out
module _ (settings : Settings) (input : List ℕ) (known : Option (List ℕ)) (bytes : List ℕ) (agrees : Agrees known bytes) (old new : FoundJobs) where
  pub adds-run : (i : Image) (v : Posted) → image_in bytes ≡ Ok i → IsBoardOf settings input i v → (r : Result (Unit {0}) Answer) → OnOk r (new.starts.items ≡ old.starts.items ++ Starts.Runs ∷ []) → OnOk r (new.boards.items ≡ old.boards.items ++ v ∷ [])
      → IfErr r (λ answer. answer ≡ NoMemory) → AddsJob settings input known old new r
  adds-run i v loads board (Ok _) more others none = (
    bytes,
    agrees,
    λ jobs h. subst (λ j. Stands settings input (jobs ++ j ∷ []) new.starts.items new.boards.items) (sym loads)
        (stands-run settings input jobs old.starts.items new.starts.items old.boards.items new.boards.items h i v board more others),
  )
  adds-run i v loads board (Err a) more others none = inr none

  pub adds-refused : (a : Answer) (start : JobStart) → image_in bytes ≡ Err a → start_refusal start ≡ Some a → (r : Result (Unit {0}) Answer) → OnOk r (new.starts.items ≡ old.starts.items ++ start ∷ []) → new.boards.items ≡ old.boards.items
      → IfErr r (λ answer. answer ≡ NoMemory) → AddsJob settings input known old new r
  adds-refused a start refused names (Ok _) more same none = (
    bytes,
    agrees,
    λ jobs h. subst (λ j. Stands settings input (jobs ++ j ∷ []) new.starts.items new.boards.items) (sym refused)
        (stands-refused settings input jobs old.starts.items new.starts.items old.boards.items new.boards.items h a start names more same),
  )
  adds-refused a start refused names (Err b) more same none = inr none

-- the file of one name more was read
named-more : {A : Type 0} (R : A → List ℕ → Type 0) (names : List A) (k : ℕ) (d : A) (images : List (List ℕ)) (bytes : List ℕ) → k < length names → AllZip R (take k names) images → R (get_or names k d) bytes
    → AllZip R (take (k + 1) names) (images ++ bytes ∷ [])
named-more R names k d images bytes h so one =
    subst (λ ns. AllZip R ns (images ++ bytes ∷ [])) (sym (take_more names k d h)) (all_zipped_more R (take k names) images (get_or names k d) bytes so one)

pub stands-more : (settings : Settings) (input : List ℕ) (named : List ℕ → Option (List ℕ)) (texts : List (String Global)) (k : ℕ) (text d : String Global) (old new : FoundJobs) (u : Unit {0}) → k < length texts → text ≡ get_or texts k d
    → StandsFor settings input named (take k (map string_bytes texts)) old → AddsJob settings input (named (string_bytes text)) old new (Ok u) → StandsFor settings input named (take (k + 1) (map string_bytes texts)) new
stands-more settings input named texts k text d old new u within item h adds =
    let names : List (List ℕ) = map string_bytes texts in
    let below : k < length names = (let mapped = length-map texts string_bytes in omega (arith, within, mapped)) in
    let name : string_bytes text ≡ get_or names k (string_bytes d) = ap string_bytes item ∙ sym (get_or-map string_bytes texts k d (string_bytes d) within) in
    record {
      images = h.images ++ adds.0 ∷ [];
      are_named = named-more (λ n bytes. Agrees (named n) bytes) names k (string_bytes d) h.images adds.0 below h.are_named (subst (λ n. Agrees (named n) adds.0) name adds.1);
      stands = subst (λ (js : List (Result Image Answer)). Stands settings input js new.starts.items new.boards.items) (sym (map-append image_in h.images (adds.0 ∷ []))) (adds.2 (map image_in h.images) h.stands);
    }

-- none was read yet
pub stands-first : (settings : Settings) (input : List ℕ) (named : List ℕ → Option (List ℕ)) (jobs : FoundJobs) → jobs.starts.items ≡ [] → jobs.boards.items ≡ [] → StandsFor settings input named [] jobs
stands-first settings input named jobs starts boards = record {
  images = [];
  are_named = tt;
  stands = record { starts_are = subst (AllZip IsStartOf []) (sym starts) tt; boards_are = subst (AllZip (IsBoardOf settings input) []) (sym boards) tt };
}

-- an image that was refused, and not for want of memory or of a read
pub reads-refused : (settings : Settings) (input : List ℕ) (known : Option (List ℕ)) (old new : FoundJobs) (a : Answer) (start : JobStart) → start_refusal start ≡ Some a → IsRefusedEarly a → Reads {A = Image} image_in known (Err a)
    → (r : Result (Unit {0}) Answer) → OnOk r (new.starts.items ≡ old.starts.items ++ start ∷ []) → new.boards.items ≡ old.boards.items → IfErr r (λ answer. answer ≡ NoMemory) → AddsJob settings input known old new r
reads-refused settings input known old new a start names early (inl unread) r more same none = absurd (late-unread a unread early)
reads-refused settings input known old new a start names early (inr read) r more same none =
    adds-refused settings input known read.0 read.1 old new a start read.2 names r more same none

-- ---- the boards of jobs

fresh-boards : (settings : Settings) (input : List ℕ) (is : List Image) (boards : List Posted) → AllZip (IsBoardOf settings input) is boards → All IsFresh boards
fresh-boards settings input [] [] h = All-nil IsFresh
fresh-boards settings input [] (v ∷ vs) h = absurd h
fresh-boards settings input (i ∷ is) [] h = absurd h
fresh-boards settings input (i ∷ is) (v ∷ vs) h = All-cons IsFresh v vs h.0.fresh (fresh-boards settings input is vs h.1)

pub stands-fresh : (settings : Settings) (input : List ℕ) (jobs : List (Result Image Answer)) (starts : List JobStart) (boards : List Posted) → Stands settings input jobs starts boards → All IsFresh boards
stands-fresh settings input jobs starts boards h = fresh-boards settings input (images_in jobs) boards h.boards_are

-- a board for each job that runs
runs-boards : (R : Image → Posted → Type 0) (jobs : List (Result Image Answer)) (starts : List JobStart) (boards : List Posted) → AllZip IsStartOf jobs starts → AllZip R (images_in jobs) boards → length boards ≡ runs_in starts
runs-boards R [] [] [] h k = refl
runs-boards R [] [] (v ∷ vs) h k = absurd k
runs-boards R [] (s ∷ ss) vs h k = absurd h
runs-boards R (j ∷ js) [] vs h k = absurd h
runs-boards R (Ok i ∷ js) (s ∷ ss) [] h k = absurd k
runs-boards R (Ok i ∷ js) (s ∷ ss) (v ∷ vs) h k = ap suc (runs-boards R js ss vs h.1 k.1) ∙ ap (λ (x : JobStart). runs_in (x ∷ ss)) (sym h.0)
runs-boards R (Err a ∷ js) (Starts.TooLong ∷ ss) vs h k = runs-boards R js ss vs h.1 k
runs-boards R (Err a ∷ js) (Starts.BadImage fault ∷ ss) vs h k = runs-boards R js ss vs h.1 k
runs-boards R (Err a ∷ js) (Starts.Runs ∷ ss) vs h k = absurd (let bad : None ≡ Some a = h.0 in cc)

pub stands-runs : (settings : Settings) (input : List ℕ) (jobs : List (Result Image Answer)) (starts : List JobStart) (boards : List Posted) → Stands settings input jobs starts boards → length boards ≡ runs_in starts
stands-runs settings input jobs starts boards h = runs-boards (IsBoardOf settings input) jobs starts boards h.starts_are h.boards_are

-- no more boards than jobs
few-images : (R : Image → Posted → Type 0) (jobs : List (Result Image Answer)) (boards : List Posted) → AllZip R (images_in jobs) boards → length boards ≤ length jobs
few-images R [] [] h = omega arith
few-images R [] (v ∷ vs) h = absurd h
few-images R (Ok i ∷ js) [] h = absurd h
few-images R (Ok i ∷ js) (v ∷ vs) h = (let less = few-images R js vs h.1 in omega (arith, less))
few-images R (Err a ∷ js) vs h = (let less = few-images R js vs h in omega (arith, less))

pub as-many : {A B : Type 0} (R : A → B → Type 0) (xs : List A) (ys : List B) → AllZip R xs ys → length ys ≡ length xs
as-many R [] [] h = refl
as-many R [] (y ∷ ys) h = absurd h
as-many R (x ∷ xs) [] h = absurd h
as-many R (x ∷ xs) (y ∷ ys) h = ap suc (as-many R xs ys h.1)

-- and no more than names
pub few-boards : (settings : Settings) (input : List ℕ) (named : List ℕ → Option (List ℕ)) (names : List (List ℕ)) (jobs : FoundJobs) → StandsFor settings input named names jobs → length jobs.boards.items ≤ length names
few-boards settings input named names jobs h =
    let less = few-images (IsBoardOf settings input) (map image_in h.images) jobs.boards.items h.stands.boards_are in
    let same = as-many (λ name bytes. Agrees (named name) bytes) names h.images h.are_named in
    let mapped = length-map h.images image_in in
    omega (arith, less, same, mapped)

-- ---- reports

-- each job is reported by its own board's end
report-each : (b : Batch) (jobs : List (Result Image Answer)) (starts : List JobStart) (boards : List Posted) (ends : List JobEnd) → AllZip IsStartOf jobs starts → AllZip (IsBoardOf b.settings b.input) (images_in jobs) boards
    → AllZip (IsEndOf b.workers) boards ends → AllZip (IsReportOf b) jobs (merged starts ends)
report-each b [] [] vs es h k m = tt
report-each b [] (s ∷ ss) vs es h k m = absurd h
report-each b (j ∷ js) [] vs es h k m = absurd h
report-each b (Ok i ∷ js) (Starts.TooLong ∷ ss) vs es h k m = absurd (let bad : Starts.TooLong ≡ Starts.Runs = h.0 in cc)
report-each b (Ok i ∷ js) (Starts.BadImage fault ∷ ss) vs es h k m = absurd (let bad : Starts.BadImage fault ≡ Starts.Runs = h.0 in cc)
report-each b (Ok i ∷ js) (Starts.Runs ∷ ss) [] es h k m = absurd k
report-each b (Ok i ∷ js) (Starts.Runs ∷ ss) (v ∷ vs) [] h k m = absurd m
report-each b (Ok i ∷ js) (Starts.Runs ∷ ss) (v ∷ vs) (e ∷ es) h k m = (record { board = v; is_board = k.0; ends = m.0 }, report-each b js ss vs es h.1 k.1 m.1)
report-each b (Err a ∷ js) (Starts.TooLong ∷ ss) vs es h k m = (h.0, report-each b js ss vs es h.1 k m)
report-each b (Err a ∷ js) (Starts.BadImage fault ∷ ss) vs es h k m = (h.0, report-each b js ss vs es h.1 k m)
report-each b (Err a ∷ js) (Starts.Runs ∷ ss) vs es h k m = absurd (let bad : None ≡ Some a = h.0 in cc)

pub told-reports : (b : Batch) (workers : ℕ) (starts : List JobStart) (boards : List Posted) (ends : List JobEnd) → b.workers ≡ workers → Stands b.settings b.input b.jobs starts boards → AreEnds workers boards ends → AreReports b (merged starts ends)
told-reports b workers starts boards ends is h e =
    report-each b b.jobs starts boards ends h.starts_are h.boards_are (subst (λ n. AreEnds n boards ends) (sym is) e)

-- as many ends as jobs that run
pub ends-counted : (workers : ℕ) (boards : List Posted) (ends : List JobEnd) (starts : List JobStart) → AreEnds workers boards ends → length boards ≡ runs_in starts → length ends ≡ runs_in starts
ends-counted workers boards ends starts are h = as-many (IsEndOf workers) boards ends are ∙ h

-- ---- what is shown of a batch

module _ (b : Batch) (reports : Vec JobReport Global) (are : AreReports b reports.items) (s : Sinks) (got : Option (List ℕ)) (faults : ℕ) where
  pub reports-whole : (u : Unit {0}) → WritesText {T = Unit {0}} s.out got s.out_faults faults (jobs_text reports.items) (Ok u) → IsRun b s (record s { out = got; out_faults = faults }) (record { answer = Shown; told = Each reports })
  reports-whole u h = inr (record { reports = reports; are_reports = are; kept = inl (refl, text_shown s got faults (jobs_text reports.items) h.0 h.1) })

  pub reports-part : (e : OutputFault) → WritesText {T = Unit {0}} s.out got s.out_faults faults (jobs_text reports.items) (Err e) → IsRun b s (record s { out = got; out_faults = faults }) (plainly (answer_of_fault e))
  reports-part F.Write h = inr (record { reports = reports; are_reports = are; kept = inr (inl (refl, text_stops s got faults (jobs_text reports.items) h)) })
  reports-part F.NoMemory h = inr (record { reports = reports; are_reports = are; kept = inr (inr (refl, text_within s got faults (jobs_text reports.items) h)) })

-- ---- calls that were served

pub served-jobs : (r : Request) (known : Known) (jobs : FoundJobs) (workers : ℕ) (old new : Sinks) (v : Served) → workers ≡ r.workers → FindsJobs r known (Ok jobs)
    → ((b : Batch) → b.workers ≡ workers → Stands b.settings b.input b.jobs jobs.starts.items jobs.boards.items → IsRun b old new v) → IsServed (Some r) known old new v
served-jobs r known jobs workers old new v is (found, agrees, (input, plan-is, stands)) run = by (run (batch_of r found.images input) (sym is) stands)
  where
    by : IsRun (batch_of r found.images input) old new v → IsServed (Some r) known old new v
    by (inl stopped) = record { found = found; agrees = agrees; keeps = inl (inr stopped.0, stopped.1) }
    by (inr kept) = served-plan (Some r) known found (Runs (batch_of r found.images input)) old new v agrees plan-is kept

pub served-no_jobs : (r : Request) (known : Known) (a : Answer) (s : Sinks) → FindsJobs r known (Err a) → IsServed (Some r) known s s (plainly a)
served-no_jobs r known a s (inl unread) = served-unread (Some r) known s a unread
served-no_jobs r known a s (inr h) = served-plan (Some r) known h.0 (Refused a) s s (plainly a) h.1 h.2 (refl, refl)

-- ---- what is found for a request

pub named-by : (file : List ℕ) (names : List (List ℕ)) → list_in file ≡ Ok names → names_in file ≡ Some names
named-by file names e = by (names_in file) refl
  where
    by : (o : Option (List (List ℕ))) → names_in file ≡ o → names_in file ≡ Some names
    by None is = absurd (let bad : Err _ ≡ Ok names = sym (ap unless_none is) ∙ e in cc)
    by (Some others) is = is ∙ (let same : Ok others ≡ Ok names = sym (ap unless_none is) ∙ e in cc)

module _ (r : Request) (known : Known) (task : r.task ≡ Tasks.Batch) where
  after-list : (found : Found) (names : List (List ℕ)) → list_in found.file ≡ Ok names → plan (Some r) found ≡ after (input_in (not r.no_input) found.input) (λ input. Runs (batch_of r found.images input))
  after-list found names e = plan-by r found Tasks.Batch task ∙ ap (λ x. after x (λ (ns : List (List ℕ)). after (input_in (not r.no_input) found.input) (λ input. Runs (batch_of r found.images input)))) e

  pub finds-no_list : (a : Answer) → Reads {A = List (List ℕ)} list_in known.file (Err a) → FindsJobs r known (Err a)
  finds-no_list a (inl unread) = inl unread
  finds-no_list a (inr read) =
      let found = found_file known read.0 in
      inr (
        found,
        agrees_file known read.0 read.1,
        plan-by r found Tasks.Batch task ∙ ap (λ x. after x (λ (ns : List (List ℕ)). after (input_in (not r.no_input) found.input) (λ input. Runs (batch_of r found.images input)))) read.2,
      )

  module _ (names : List (List ℕ)) (list : Reads list_in known.file (Ok names)) where
    pub finds-no_input : (a : Answer) → Reads {A = List ℕ} (input_in (not r.no_input)) known.input (Err a) → FindsJobs r known (Err a)
    finds-no_input a (inl unread) = inl unread
    finds-no_input a (inr read) =
        let found = found_both known list.0 read.0 in
        inr (found, agrees_both known list.0 read.0 list.1 read.1, after-list found names list.2 ∙ ap (λ x. after x (λ input. Runs (batch_of r found.images input))) read.2)

    pub finds-jobs : (input : List ℕ) → Reads (input_in (not r.no_input)) known.input (Ok input) → (jobs : FoundJobs) → StandsFor (job_settings r) input known.named names jobs → FindsJobs r known (Ok jobs)
    finds-jobs input read jobs h =
        let found : Found = record { file = list.0; input = read.0; beside = some_bytes known.beside; images = h.images } in
        let agrees : AgreesWith known found = record {
          file = list.1;
          input = read.1;
          beside = some_agree known.beside;
          images = λ others is. subst (λ (ns : List (List ℕ)). AllZip (λ name bytes. Agrees (known.named name) bytes) ns h.images) (same-names others is) h.are_named;
        } in
        (found, agrees, (input, after-list found names list.2 ∙ ap (λ x. after x (λ taken. Runs (batch_of r found.images taken))) read.2, h.stands))
      where
        same-names : (others : List (List ℕ)) → names_in list.0 ≡ Some others → names ≡ others
        same-names others is = (let same : Some names ≡ Some others = sym (named-by list.0 names list.2) ∙ is in cc)

    pub finds-result : (settings : Settings) (named : List ℕ → Option (List ℕ)) → settings ≡ job_settings r → named ≡ known.named → (input : List ℕ) → Reads (input_in (not r.no_input)) known.input (Ok input)
        → (x : Result FoundJobs Answer) → ReadsJobs settings input named names x → FindsJobs r known x
    finds-result settings named same all input read (Ok jobs) h =
        finds-jobs input read jobs (subst (λ (s : Settings). StandsFor s input known.named names jobs) same (subst (λ (f : List ℕ → Option (List ℕ)). StandsFor settings input f names jobs) all h))
    finds-result settings named same all input read (Err a) h = inl h

-- a list has few names, so there are few boards
pub few-found : (settings : Settings) (input : List ℕ) (named : List ℕ → Option (List ℕ)) (names : List (List ℕ)) (known : Option (List ℕ)) → Reads list_in known (Ok names)
    → (x : Result FoundJobs Answer) → ReadsJobs settings input named names x → IfOk x (λ jobs. length jobs.boards.items ≤ 16)
few-found settings input named names known list (Ok jobs) h =
    let few = names-few list.0 names (named-by list.0 names list.2) in
    let less = few-boards settings input named names jobs h in
    omega (arith, few, less)
few-found settings input named names known list (Err a) h = tt

-- a job that could not be read
pub jobs-unread : (settings : Settings) (input : List ℕ) (named : List ℕ → Option (List ℕ)) (names : List (List ℕ)) (x : Result FoundJobs Answer) → ReadsJobs settings input named names x → IfErr x IsUnread
jobs-unread settings input named names (Ok jobs) h = tt
jobs-unread settings input named names (Err a) h = h

-- ---- histories that are handed out

module _ (before now now' : List (List Entry)) (done : List JobReport) (report : JobReport) (so : now ≡ before ++ histories_of_jobs done) where
  pub added-one : (entries : List Entry) → history_in report ≡ Some entries → now' ≡ now ++ entries ∷ [] → now' ≡ before ++ histories_of_jobs (done ++ report ∷ [])
  added-one entries is more =
      more ∙ ap (λ hs. hs ++ entries ∷ []) so ∙ append_assoc before (histories_of_jobs done) (entries ∷ [])
      ∙ ap (λ hs. before ++ hs) (sym (filter_map-append history_in done (report ∷ []) ∙ ap (λ o. histories_of_jobs done ++ cons_option o []) is))

  pub added-none : history_in report ≡ None → now ≡ before ++ histories_of_jobs (done ++ report ∷ [])
  added-none is =
      so ∙ ap (λ hs. before ++ hs) (sym (filter_map-append history_in done (report ∷ []) ∙ ap (λ o. histories_of_jobs done ++ cons_option o []) is ∙ append-nil (histories_of_jobs done)))

-- how many are left
pub left-one : (report : JobReport) (rest : List JobReport) (entries : List Entry) → history_in report ≡ Some entries → length (histories_of_jobs (report ∷ rest)) ≡ length (histories_of_jobs rest) + 1
left-one report rest entries is = (let steps = ap (λ (o : Option (List Entry)). length (cons_option o (histories_of_jobs rest))) is in omega (arith, steps))

pub left-none : (report : JobReport) (rest : List JobReport) → history_in report ≡ None → length (histories_of_jobs (report ∷ rest)) ≡ length (histories_of_jobs rest)
left-none report rest is = ap (λ (o : Option (List Entry)). length (cons_option o (histories_of_jobs rest))) is
