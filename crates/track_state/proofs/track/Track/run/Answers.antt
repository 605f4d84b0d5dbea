use Rattle.std.proofs.Common.{◌+◌, ◌<◌, ◌≤◌, subst, arith}
use Rattle.speculation.specs.Run.{Point}
use Rattle.speculation.specs.Core.{held_size, most_held}
use Rattle.guest_model.specs.MachineState.{MachineState}
use Rattle.guest_model.specs.declared.end.End.{End}
use Rattle.paged_image.specs.Image.{content-bounded}
use Rattle.rv32_law.specs.GuestStates.{IsGuestState, SharesLayout}
use Rattle.speculation_law.proofs.Options.{is_some-none}
use Rattle.track_state.specs.Kept.{flat_state}
use Rattle.track_state.specs.Views.{view_of}
use Rattle.track_state.proofs.OnPages.{KeepsStart-more}
use Rattle.track_state.proofs.OnRuns.{Starts, ran-at}
use Rattle.track_state.proofs.OnStarts.{held-number, ran-on}
use Rattle.track_state.proofs.OnRunCalls.{with_regs, starts-by, length-by, short-by, rests-ended, rests-many}
use Rattle.track_state.proofs.track.Track.run.Goals as goal

pub returns-then-is_some : goal.returns-then-is_some
unfolding view_of
returns-then-is_some c = rests-ended c.args.input.now (view_of c.args.self.now) c.args.k c.requires.runs (cc)

pub returns-then-size-ge-MOST_HELD : goal.returns-then-size-ge-MOST_HELD
unfolding view_of most_held
returns-then-size-ge-MOST_HELD c = rests-many c.args.input.now (view_of c.args.self.now) c.args.k c.requires.runs (omega (arith, c.size.ensures.size))

pub advance-progress-requires-clause-numbers : goal.advance-progress-requires-clause-numbers
unfolding view_of
advance-progress-requires-clause-numbers c = held-number c.args.input.now (view_of c.args.self.now) c.open-opened.result c.requires.runs

pub advance-progress-requires-clause-room : goal.advance-progress-requires-clause-room
unfolding most_held
advance-progress-requires-clause-room c = omega (arith, c.size.ensures.size)

pub invariant_of-self : goal.invariant_of-self
unfolding view_of most_held
invariant_of-self c =
    let t = view_of c.args.self.now in
    let limit = c.min-limit.result in
    let n = c.open-opened.result in
    let s = with_regs (flat_state c.args.self.now.state) c.open-opened.new.regs in
    let fits : t.own + limit ≤ t.budget = omega (arith, c.min-limit.ensures, c.args.self.now.within) in
    let room : held_size t.held < most_held = omega (arith, c.size.ensures.size) in
    let starts : Starts c.args.input.now t limit n s = starts-by c.args.input.now t limit n c.open-opened.new.regs c.requires.runs (is_some-none c.args.self.now.end (cc)) c.args.self.now.call fits room c.open-opened.ensures in
    let u = flat_state c.advance-progress.new.state in
    let held = c.advance-progress.new.held in
    let p = c.advance-progress.result in
    let ran = c.advance-progress.ensures.progress in
    let guest : IsGuestState c.args.input.now t.start = record { registers = c.pc-start.ensures.zero; memory = content-bounded c.args.self.now.start.memory.value; place = c.requires.runs.began } in
    let layout : SharesLayout t.start u = subst (λ (q : Point MachineState End). SharesLayout t.start q.state) (ran-at c.args.input.now t limit n s u held p starts ran) (c.runs_keep_states.ensures.tracks c.args.input.now t.kind t.start (t.own + (n + p.taken)) guest).layout in
    record {
      within = omega (arith, starts.count, ran.below, fits);
      call = c.args.self.now.call;
      kept = KeepsStart-more t.start c.args.self.now.state c.advance-progress.new.state c.args.self.now.kept c.advance-progress.ensures.kept layout;
    }

pub returns-then-progress : goal.returns-then-progress
unfolding view_of most_held
returns-then-progress c =
    let t = view_of c.args.self.now in
    let limit = c.min-limit.result in
    let n = c.open-opened.result in
    let s = with_regs (flat_state c.args.self.now.state) c.open-opened.new.regs in
    let fits : t.own + limit ≤ t.budget = omega (arith, c.min-limit.ensures, c.args.self.now.within) in
    let room : held_size t.held < most_held = omega (arith, c.size.ensures.size) in
    let starts : Starts c.args.input.now t limit n s = starts-by c.args.input.now t limit n c.open-opened.new.regs c.requires.runs (is_some-none c.args.self.now.end (cc)) c.args.self.now.call fits room c.open-opened.ensures in
    let u = flat_state c.advance-progress.new.state in
    let held = c.advance-progress.new.held in
    let p = c.advance-progress.result in
    let ran = c.advance-progress.ensures.progress in
    record {
      taken = n + p.taken;
      short = short-by c.args.input.now t limit n s u held p c.args.k starts ran c.min-limit.ensures c.args.self.now.within c.if-progress.true;
      ran = ran-on c.args.input.now t limit n s u held p starts ran c.requires.runs c.advance-progress.ensures.place;
    }

pub returns : goal.returns
unfolding view_of most_held
returns c =
    let t = view_of c.args.self.now in
    let limit = c.min-limit.result in
    let n = c.open-opened.result in
    let s = with_regs (flat_state c.args.self.now.state) c.open-opened.new.regs in
    let fits : t.own + limit ≤ t.budget = omega (arith, c.min-limit.ensures, c.args.self.now.within) in
    let room : held_size t.held < most_held = omega (arith, c.size.ensures.size) in
    let starts : Starts c.args.input.now t limit n s = starts-by c.args.input.now t limit n c.open-opened.new.regs c.requires.runs (is_some-none c.args.self.now.end (cc)) c.args.self.now.call fits room c.open-opened.ensures in
    let u = flat_state c.advance-progress.new.state in
    let held = c.advance-progress.new.held in
    let p = c.advance-progress.result in
    let ran = c.advance-progress.ensures.progress in
    (length-by c.args.input.now t limit n s u held p c.args.k starts ran c.min-limit.ensures c.args.self.now.within c.if-progress.false, ran-on c.args.input.now t limit n s u held p starts ran c.requires.runs c.advance-progress.ensures.place)
