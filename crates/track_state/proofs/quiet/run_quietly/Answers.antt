use Rattle.std.proofs.Common.{◌+◌, sym, subst, arith}
use Rattle.guest_model.specs.MachineState.{MachineState}
use Rattle.paged_image.specs.declared.image.PagedImage.{PagedImage}
use Rattle.track_state.specs.Kept.{flat_state}
use Rattle.track_state.specs.Progress.{KeepsPages}
use Rattle.track_state.specs.Quiet.{QuietSteps}
use Rattle.track_state.proofs.OnPages.{KeepsPages-trans}
use Rattle.track_state.proofs.OnQuiet.{quiet-append, quiet-one}
use Rattle.track_state.proofs.quiet.run_quietly.Goals as goal

pub returns-then-not-take_store-clause-ran : goal.returns-then-not-take_store-clause-ran
returns-then-not-take_store-clause-ran c =
    subst (λ (t : MachineState). QuietSteps c.args.input.now (flat_state c.args.state.now) (c.pages.taken + c.run_registers-run.result.taken) t) (sym c.if-not-take_store.ensures.declined)
    (quiet-append c.args.input.now c.pages.taken c.run_registers-run.result.taken (flat_state c.args.state.now) (flat_state c.pages.state) (flat_state c.run_registers-run.new.state) c.pages.invariant.ran (c.run_registers-run.ensures.ran c.args.input.now))

pub pages-preserved-in-Some : goal.pages-preserved-in-Some
pages-preserved-in-Some c =
    let more = rw c.in-Some.is at c.run_registers-run.ensures.more in
    record {
      ran = quiet-one c.args.input.now (c.pages.taken + c.run_registers-run.result.taken) (flat_state c.args.state.now) (flat_state c.run_registers-run.new.state) (flat_state c.take_store.new.state)
          (quiet-append c.args.input.now c.pages.taken c.run_registers-run.result.taken (flat_state c.args.state.now) (flat_state c.pages.state) (flat_state c.run_registers-run.new.state) c.pages.invariant.ran (c.run_registers-run.ensures.ran c.args.input.now))
          c.if-not-take_store.ensures.done;
      place = c.take_store.ensures.place;
      kept = KeepsPages-trans c.args.state.now.memory c.pages.state.memory c.take_store.new.state.memory c.pages.invariant.kept
          (subst (λ (t : PagedImage). KeepsPages t c.take_store.new.state.memory) c.run_registers-run.ensures.memory c.take_store.ensures.kept);
      within = omega (arith, more);
    }

pub pages-preserved : goal.pages-preserved
pages-preserved c = record {
  ran = quiet-append c.args.input.now c.pages.taken c.run_registers-run.result.taken (flat_state c.args.state.now) (flat_state c.pages.state) (flat_state c.run_registers-run.new.state) c.pages.invariant.ran (c.run_registers-run.ensures.ran c.args.input.now);
  place = rw c.run_registers-run.ensures.place c.pages.invariant.place;
  kept = subst (λ (t : PagedImage). KeepsPages c.args.state.now.memory t) (sym c.run_registers-run.ensures.memory) c.pages.invariant.kept;
  within = omega (arith, c.run_registers-run.ensures.within, c.pages.invariant.within);
}

pub returns-in-None-2-clause-ran : goal.returns-in-None-2-clause-ran
returns-in-None-2-clause-ran c =
    quiet-append c.args.input.now c.pages.taken c.run_registers-run.result.taken (flat_state c.args.state.now) (flat_state c.pages.state) (flat_state c.run_registers-run.new.state) c.pages.invariant.ran (c.run_registers-run.ensures.ran c.args.input.now)
