-- The end of a job is that of its own program alone
use Rattle.std.proofs.Common.{◌≡◌, ℕ, List, [], append-nil, sym, ap, ◌∙◌, subst}
use Rattle.speculation.specs.Ledger.{ledger}
use Rattle.speculation.specs.Record.{Ran, alone, output_of}
use Rattle.speculation.specs.declared.history.Settings.{Settings}
use Rattle.speculation.specs.declared.history.Entry.{Entry}
use Rattle.guest_model.specs.Image.{Image, start_of}
use Rattle.guest_model.specs.MachineState.{MachineState}
use Rattle.guest_model.specs.Rv32.{rv32}
use Rattle.guest_model.specs.declared.end.End.{End}
use Rattle.guest_streams.specs.GuestStreams.{end_of}
use Rattle.elf32_loader.specs.LoadedImage.{image_of_loaded}
use Rattle.track_board.specs.Value.{Posted}
use Rattle.track_board.specs.declared.outcome.Outcome.{Outcome}
use Rattle.serial_run.specs.Conducting.{IsSameRun, alone_of}
use Rattle.worker_gate.specs.Histories.{IsWorked}
use Rattle.job_batch.specs.Ends.{AreStreams, IsDone, EndsWith}
use Rattle.job_batch.specs.declared.ends.JobEnd.{JobEnd}
use Rattle.job_batch.specs.declared.ends.JobOutcome.{JobOutcome}
use Rattle.job_batch.specs.declared.ends.JobOutcome.TheVariants.{Done, NoMemory}
use Rattle.fasttrack_program.specs.Jobs.{Batch, IsBoardOf, IsEndFor, IsOwnEnd, IsOwnPart, job_alone}

-- a board of these settings, image and input, whatever else there is of it
record Runs (b : Batch) (i : Image) (v : Posted) : Type 0 where
  pub settings : v.settings ≡ b.settings
  pub image : image_of_loaded v.loaded ≡ i
  pub input : v.input ≡ b.input

board-runs : (b : Batch) (i : Image) (v : Posted) → IsBoardOf b.settings b.input i v → Runs b i v
board-runs b i v h = record { settings = h.settings_are; image = h.image; input = h.input_is }

same-runs : (b : Batch) (i : Image) (v w : Posted) → IsSameRun v w → Runs b i v → Runs b i w
same-runs b i v w same h = record {
  settings = same.settings ∙ h.settings;
  image = ap image_of_loaded same.loaded ∙ h.image;
  input = same.input ∙ h.input;
}

module _ (b : Batch) (i : Image) (v : Posted) (h : Runs b i v) where
  alone-is : alone_of v ≡ job_alone b i
  alone-is =
      ap (λ (xs : List ℕ). alone (rv32 xs) (start_of (image_of_loaded v.loaded)) v.settings.budget) h.input
      ∙ ap (λ (x : Image). alone (rv32 b.input) (start_of x) v.settings.budget) h.image
      ∙ ap (λ (s : Settings). alone (rv32 b.input) (start_of i) s.budget) h.settings

  ledger-is : ledger (rv32 v.input) (start_of (image_of_loaded v.loaded)) v.settings.budget ≡ ledger (rv32 b.input) (start_of i) b.settings.budget
  ledger-is =
      ap (λ (xs : List ℕ). ledger (rv32 xs) (start_of (image_of_loaded v.loaded)) v.settings.budget) h.input
      ∙ ap (λ (x : Image). ledger (rv32 b.input) (start_of x) v.settings.budget) h.image
      ∙ ap (λ (s : Settings). ledger (rv32 b.input) (start_of i) s.budget) h.settings

  history-is : (entries : List Entry) → IsWorked b.workers (rv32 v.input) v.settings (start_of (image_of_loaded v.loaded)) entries → IsWorked b.workers (rv32 b.input) b.settings (start_of i) entries
  history-is entries worked =
      subst (λ (s : Settings). IsWorked b.workers (rv32 b.input) s (start_of i) entries) h.settings
      (subst (λ (x : Image). IsWorked b.workers (rv32 b.input) v.settings (start_of x) entries) h.image
      (subst (λ (xs : List ℕ). IsWorked b.workers (rv32 xs) v.settings (start_of (image_of_loaded v.loaded)) entries) h.input worked))

own-done : (b : Batch) (i : Image) (v : Posted) (e : JobEnd) (o : Outcome) → Runs b i v → IsDone b.workers v e.out e.notes o → IsOwnEnd b i e o
own-done b i v e o h done =
    let last = same-runs b i v done.last done.same h in
    let streams = subst (λ (r : Ran MachineState End). AreStreams (output_of r) e.out e.notes) (alone-is b i v h) done.streams in
    record {
      on_out = streams.on_out;
      on_notes = streams.on_notes;
      finished = done.whole.finished;
      finish = done.whole.finish;
      end = done.whole.end ∙ ap (λ (r : Ran MachineState End). end_of r.end) (alone-is b i done.last last);
      count = done.whole.count ∙ ap (λ (r : Ran MachineState End). r.count) (alone-is b i done.last last);
      rows = done.whole.rows ∙ ledger-is b i done.last last;
      history = history-is b i done.last last o.entries
          (subst (λ es. IsWorked b.workers (rv32 done.last.input) done.last.settings (start_of (image_of_loaded done.last.loaded)) es) (sym done.whole.outcome.entries) done.worked);
    }

pub own-end : (b : Batch) (i : Image) (e : JobEnd) (o : Outcome) → IsEndFor b i e → e.outcome ≡ Done o → IsOwnEnd b i e o
own-end b i e o h is =
    own-done b i h.board e o (board-runs b i h.board h.is_board) (subst (λ (x : JobOutcome). EndsWith b.workers h.board e.out e.notes x) is h.ends)

part-by : (b : Batch) (i : Image) (v : Posted) (e : JobEnd) (x : JobOutcome) → Runs b i v → EndsWith b.workers v e.out e.notes x → IsOwnPart b i e
part-by b i v e (Done o) h done = record {
  got = output_of (alone_of v);
  rest = [];
  parts = append-nil (output_of (alone_of v)) ∙ ap output_of (alone-is b i v h);
  on_out = done.streams.on_out;
  on_notes = done.streams.on_notes;
}
part-by b i v e NoMemory h part = record {
  got = part.got;
  rest = part.rest;
  parts = part.parts ∙ ap output_of (alone-is b i v h);
  on_out = part.streams.on_out;
  on_notes = part.streams.on_notes;
}

pub own-part : (b : Batch) (i : Image) (e : JobEnd) → IsEndFor b i e → IsOwnPart b i e
own-part b i e h = part-by b i h.board e e.outcome (board-runs b i h.board h.is_board) h.ends
