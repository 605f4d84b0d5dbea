use Rattle.std.proofs.Common.{None, false, sym, ap, ◌∙◌, subst, ◌≡◌}
use Rattle.speculation.specs.declared.tracks.Kind.TheVariants.{Segment}
use Rattle.guest_model.specs.Image.{start_of}
use Rattle.guest_model.specs.AreaMap.{IsLayout}
use Rattle.elf32_loader.specs.LoadedImage.{image_of_loaded}
use Rattle.elf32_loader.specs.declared.loaded.Loaded.{Loaded}
use Rattle.track_state.specs.Views.{view_of, begun}
use Rattle.track_board.specs.declared.board.Board.TheInside.{Inside}
use Rattle.track_board.specs.declared.slot.Slot.TheVariants.{Home}
use Rattle.track_board.proofs.Opening.{IsFresh, first-stands}
use Rattle.track_board.proofs.board.Board.new.Goals as goal

pub invariant_of-result : goal.invariant_of-result
invariant_of-result c =
    let i : Inside = record {
      alloc = c.args.alloc;
      settings = c.args.settings;
      loaded = c.of.result;
      input = c.args.input;
      base = 0;
      ready = c.new.result;
      rows = c.new-2.result;
      generation = 0;
      last = 0;
      regions = c.new-3.result;
      lead = Home c.in_ok-lead.lead;
      loans = c.new-4.result;
      finish = None;
      halted = false;
      entries = c.reserve.new.self;
    } in
    let layout : IsLayout c.of.result.value.areas = subst (λ (l : Loaded). IsLayout l.areas) (sym c.of.ensures) c.args.loaded.now.layout in
    let begins : view_of c.in_ok-lead.lead ≡ begun Segment (start_of (image_of_loaded c.of.result.value)) c.args.settings.budget
    = c.in_ok-lead.ensures ∙ ap (λ (l : Loaded). begun Segment (start_of (image_of_loaded l)) c.args.settings.budget) (sym c.of.ensures) in
    let fresh : IsFresh i = record {
      ready = c.new.ensures.items;
      rows = c.new-2.ensures.items;
      regions = c.new-3.ensures;
      loans = c.new-4.ensures.items;
      loan_count = c.new-4.ensures.len;
      entries = c.reserve.ensures.items ∙ c.new-entries.ensures.items;
      room = c.in_ok-reserve.ensures.ok;
    } in
    (_, first-stands i c.in_ok-lead.lead fresh c.requires layout begins)
