-- Due events, one after another, come to an end.
use Rattle.std.proofs.Common.{◌≡◌, ℕ, suc, ◌+◌, ◌<◌, true, [], ◌∷◌, Option, Some, None, is_some, length, vec_len, length-append, refl, sym, ap, ◌∙◌, subst, arith}
use Rattle.speculation.specs.declared.history.Entry.{Entry}
use Rattle.speculation.specs.Effects.{effect}
use Rattle.speculation.specs.Events.{event}
use Rattle.speculation.specs.Serial.{entry_of}
use Rattle.rv32_law.specs.GuestStates.{IsGuestState}
use Rattle.rv32_law.proofs.Differences.{exact-rv32}
use Rattle.speculation_law.specs.Naming.{Sound}
use Rattle.speculation_law.proofs.Soundness.{sound-history, sound-event}
use Rattle.speculation_law.proofs.SerialSteps.{event-entry_of}
use Rattle.speculation_law.proofs.SerialRounds.{falls-due}
use Rattle.speculation_law.proofs.Weights.{weigh, digits_of}
use Rattle.track_board.specs.Value.{Posted, GuestCore, IsKnown, machine_of, start_state, core_of, posted}
use Rattle.track_board.specs.Settles.{Acted, Settles, SettlesOne}
use Rattle.track_board.specs.Invariant.{view_of_board, StandsFor}
use Rattle.track_board.specs.declared.board.Board.TheInside.{Inside}
use Rattle.track_board.proofs.Foundation.{posted-core, posted-known, known-seen}

-- what each due event makes smaller
abbrev pub weight_of : Posted → ℕ
weight_of v = weigh v.settings (digits_of v.settings (core_of v))

-- its program starts in a guest state
abbrev pub StartsInGuest : Posted → Type 0
StartsInGuest v = IsGuestState v.input (start_state v)

pub posted-starts : (v w : Posted) (e : Entry) → w ≡ posted v e → StartsInGuest v → StartsInGuest w
posted-starts v w e is h = subst StartsInGuest (sym is) h

module _ (v w : Posted) (acted : Acted v w) where
  pub acted-starts : StartsInGuest v → StartsInGuest w
  acted-starts h = posted-starts v w (entry_of (core_of v) acted.event) acted.now h

  pub acted-length : length w.entries ≡ length v.entries + 1
  acted-length = ap (λ (u : Posted). length u.entries) acted.now ∙ length-append v.entries (entry_of (core_of v) acted.event ∷ [])

  acted-step : event (machine_of v) v.settings (core_of v) (entry_of (core_of v) acted.event) ≡ Some (effect (machine_of v) v.settings (core_of v) acted.event)
  acted-step = event-entry_of (machine_of v) v.settings (core_of v) acted.event acted.was

  pub acted-known : IsKnown v → IsKnown w
  acted-known known =
      subst IsKnown (sym acted.now) (posted-known v (entry_of (core_of v) acted.event) (core_of v) (effect (machine_of v) v.settings (core_of v) acted.event) known known.legal acted-step)

  pub acted-falls : StartsInGuest v → IsKnown v → weight_of w < weight_of v
  acted-falls guest known =
      let exact = exact-rv32 v.input (start_state v) guest in
      let sound : Sound (machine_of v) v.settings (start_state v) (core_of v) = sound-history (machine_of v) v.settings (start_state v) v.entries (core_of v) exact known.legal in
      let after : Sound (machine_of v) v.settings (start_state v) (effect (machine_of v) v.settings (core_of v) acted.event) =
      sound-event (machine_of v) v.settings (start_state v) (core_of v) (effect (machine_of v) v.settings (core_of v) acted.event) (entry_of (core_of v) acted.event) exact sound acted-step in
      let falls = falls-due (machine_of v) v.settings (start_state v) (core_of v) acted.event sound.good sound.bounded acted.was after.bounded in
      let same : weight_of w ≡ weigh v.settings (digits_of v.settings (effect (machine_of v) v.settings (core_of v) acted.event)) =
      ap weight_of acted.now ∙ ap (λ (c : GuestCore). weigh v.settings (digits_of v.settings c)) (posted-core v (entry_of (core_of v) acted.event) (core_of v) (effect (machine_of v) v.settings (core_of v) acted.event) known.legal acted-step) in
      subst (λ (n : ℕ). n < weight_of v) (sym same) falls

-- an entry was answered, so an event was done
pub acted-some : (v w : Posted) (o : Option Entry) → SettlesOne v w o → is_some o ≡ true → Acted v w
acted-some v w (Some e) h p = record { event = h.1.0; was = h.1.1; now = h.0 ∙ ap (posted v) h.1.2 }
acted-some v w None h p = absurd (cc)

settles-more : (n : ℕ) (v u w : Posted) → Settles n v u → Acted u w → Settles (suc n) v w
settles-more n v u w h acted = (u, h, acted)

-- what a loop over due events knows, which began at v with so many entries
pub record IsSettling (v w : Posted) (before : ℕ) : Type 0 where
  pub starts : StartsInGuest w
  pub known : IsKnown w
  pub count : ℕ
  pub entries : length w.entries ≡ before + count
  pub settles : Settles count v w

pub settling-more : (v u w : Posted) (before : ℕ) → IsSettling v u before → Acted u w → IsSettling v w before
settling-more v u w before h acted = record {
  starts = acted-starts u w acted h.starts;
  known = acted-known u w acted h.known;
  count = suc h.count;
  entries = (let more = acted-length u w acted in let so_far = h.entries in omega arith);
  settles = settles-more h.count v u w h.settles acted;
}

-- before the first of them
pub settling-first : (i : Inside) (k : GuestCore) (v : Posted) (before : ℕ) → StandsFor i k → view_of_board i ≡ v → before ≡ vec_len i.entries → IsSettling v v before
settling-first i k v before h seen is = record {
  starts = subst StartsInGuest seen h.guest;
  known = known-seen i k v h seen;
  count = 0;
  entries =
      (let items : length v.entries ≡ length i.entries.items = ap (λ (u : Posted). length u.entries) (sym seen) in
      let len = i.entries.ok.0 in
      omega arith);
  settles = refl;
}
