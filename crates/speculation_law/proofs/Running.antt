-- A track that runs on by one slice meets nothing on the way, and holds what it writes.
use Rattle.std.proofs.Common.{◌≡◌, ℕ, ◌+◌, ◌-◌, ◌<◌, false, ◌||◌, List, ◌++◌, is_some, nat_eq, nat_le, sym, ap, ap₂, ◌∙◌, subst, inl, inr, arith}
use Rattle.std.proofs.lemmas.Bool.{cases_lt, or_parts}
use Rattle.speculation.specs.declared.tracks.Kind.{Kind}
use Rattle.speculation.specs.declared.tracks.Kind.TheVariants.{Normal, Fast, Segment}
use Rattle.speculation.specs.declared.history.Settings.{Settings}
use Rattle.speculation.specs.Machine.{Machine}
use Rattle.speculation.specs.Run.{Piece, fresh, go, pieces}
use Rattle.speculation.specs.Core.{Track, track_point, at_boundary, has_stop, held_size, most_held, most_slice}
use Rattle.speculation.specs.Events.{new_pieces, run_on, slice}
use Rattle.speculation.proofs.Runs.{pieces-add}
use Rattle.speculation_law.specs.Facts.{NoStop, Unstopped, NormalTrack, SegmentTrack, FastTrack, Whole}
use Rattle.speculation_law.proofs.Options.{is_some-none}
use Rattle.speculation_law.proofs.Least.{first-below}

module _ {S E D : Type 0} (m : Machine S E D) (b : Settings) where
  -- a track without a stop met nothing, and has not taken the whole budget
  pub record MetNothing (t : Track S) : Type 0 where
    pub met : NoStop m t.kind t.start t.own
    pub unspent : nat_eq t.own b.budget ≡ false

  pub has_stop-false : (t : Track S) → has_stop m b t ≡ false → MetNothing t
  has_stop-false t h =
      let first = or_parts (at_boundary m t) (is_some (track_point m t).end || nat_eq t.own b.budget) h in
      let second = or_parts (is_some (track_point m t).end) (nat_eq t.own b.budget) first.1 in
      record { met = record { going = is_some-none (track_point m t).end second.0; inside = first.0 }; unspent = second.1 }

  -- nor before the slice is over
  pub slice-unstopped : (t : Track S) (k : ℕ) → k < slice m b t → MetNothing (run_on m t k)
  unfolding slice
  slice-unstopped t k less =
      has_stop-false (run_on m t k)
      (or_parts (has_stop m b (run_on m t k)) (nat_le most_held (held_size (run_on m t k).held))
      (first-below (λ i. has_stop m b (run_on m t i) || nat_le most_held (held_size (run_on m t i).held)) most_slice k less)).0

  least-more : (kind : Kind) (s : S) (own j : ℕ) → Unstopped m kind s own → ((k : ℕ) → k < j → NoStop m kind s (own + k)) → Unstopped m kind s (own + j)
  least-more kind s own j least more = record {
    at = λ i less. elim (cases_lt i own) [
      | inl low ↦ least.at i low
      | inr high ↦ (let k = i - own in let whole : own + k ≡ i = omega arith in subst (λ n. NoStop m kind s n) whole (more k (omega arith)))
    ];
  }

  -- the facts of a track are those of its kind and start
  no_stop-at : (kind k2 : Kind) (s s2 : S) (n : ℕ) → kind ≡ k2 → s ≡ s2 → NoStop m kind s n → NoStop m k2 s2 n
  no_stop-at kind k2 s s2 n p q h = subst (λ (x : S). NoStop m k2 x n) q (subst (λ (k : Kind). NoStop m k s n) p h)

  slice-least : (t : Track S) (kind : Kind) (s : S) → t.kind ≡ kind → t.start ≡ s → Unstopped m kind s t.own → Unstopped m kind s (t.own + slice m b t)
  slice-least t kind s p q least =
      least-more kind s t.own (slice m b t) least (λ k less. no_stop-at t.kind kind t.start s (t.own + k) p q (slice-unstopped t k less).met)

  pub run-normal : (s : S) (t : Track S) → NormalTrack m s t → NormalTrack m s (run_on m t (slice m b t))
  run-normal s t h = record { kind = h.kind; start = h.start; least = slice-least t Normal s h.kind h.start h.least }

  pub run-segment : (s : S) (t : Track S) → SegmentTrack m s t → SegmentTrack m s (run_on m t (slice m b t))
  run-segment s t h = record { kind = h.kind; start = h.start; least = slice-least t Segment s h.kind h.start h.least }

  new-kind : (k kind : Kind) (s s2 : S) (own n : ℕ) → k ≡ kind → s ≡ s2 → new_pieces m k s own n ≡ new_pieces m kind s2 own n
  new-kind k kind s s2 own n p q = ap₂ (λ (x : Kind) (y : S). new_pieces m x y own n) p q

  -- what an original or a segment writes on the way
  pub new-normal : (s : S) (t : Track S) (n : ℕ) → NormalTrack m s t → new_pieces m t.kind t.start t.own n ≡ pieces m (go m (fresh s) t.own) t.own n
  new-normal s t n h = new-kind t.kind Normal t.start s t.own n h.kind h.start

  pub new-segment : (s : S) (t : Track S) (n : ℕ) → SegmentTrack m s t → new_pieces m t.kind t.start t.own n ≡ pieces m (go m (fresh s) t.own) t.own n
  new-segment s t n h = new-kind t.kind Segment t.start s t.own n h.kind h.start

  pub run-fast : (s : S) (t : Track S) → FastTrack m s t → FastTrack m s (run_on m t (slice m b t))
  run-fast s t h = record {
    kind = h.kind;
    start = h.start;
    least = slice-least t Fast s h.kind h.start h.least;
    held = ap₂ (λ (ps qs : List Piece). ps ++ qs) h.held (new-kind t.kind Fast t.start s t.own (slice m b t) h.kind h.start);
  }

  whole-more : (s : S) (t : Track S) (n : ℕ) → new_pieces m t.kind t.start t.own n ≡ pieces m (go m (fresh s) t.own) t.own n → Whole m s t → Whole m s (run_on m t n)
  whole-more s t n new h = record {
    held = ap₂ (λ (ps qs : List Piece). ps ++ qs) h.held new ∙ sym (pieces-add m (fresh s) 0 t.own n
        ∙ ap (λ k. pieces m (fresh s) 0 t.own ++ pieces m (go m (fresh s) t.own) k n) (let first : 0 + t.own ≡ t.own = omega arith in first));
  }

  pub whole-normal : (s : S) (t : Track S) (n : ℕ) → NormalTrack m s t → Whole m s t → Whole m s (run_on m t n)
  whole-normal s t n h w = whole-more s t n (new-normal s t n h) w

  pub whole-segment : (s : S) (t : Track S) (n : ℕ) → SegmentTrack m s t → Whole m s t → Whole m s (run_on m t n)
  whole-segment s t n h w = whole-more s t n (new-segment s t n h) w
