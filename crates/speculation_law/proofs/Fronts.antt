-- The front and the output: what is released, ready and held by the front is the output up to where the front stands.
use Rattle.std.proofs.Common.{◌≡◌, ℕ, ◌+◌, ◌-◌, ◌<◌, ◌≤◌, min, Bool, true, false, ◌&&◌, List, [], ◌++◌, None, nat_le, sym, ap, ap₂, ◌∙◌, subst, inl, inr, append_assoc, append-nil, leb-true, leb-false, arith}
use Rattle.std.proofs.lemmas.Bool.{cases_lt}
use Rattle.speculation.specs.declared.tracks.Kind.TheVariants.{Normal}
use Rattle.speculation.specs.declared.history.Settings.{Settings}
use Rattle.speculation.specs.Machine.{Machine}
use Rattle.speculation.specs.Run.{Mark, Point, marks, marks_upto, fresh, go, pieces, out}
use Rattle.speculation.specs.Core.{Core, Track, Region, front, front_of, track_point, at_boundary, is_kind}
use Rattle.speculation.specs.Due.{finish_test}
use Rattle.speculation.specs.Events.{new_pieces, run_on, left_over}
use Rattle.speculation.proofs.Runs.{go-add, going-below}
use Rattle.speculation_law.specs.Facts.{Whole, Chain}
use Rattle.speculation_law.specs.Sound.{Numbered, Good}
use Rattle.speculation_law.proofs.Walks.{fresh-point}
use Rattle.speculation_law.proofs.Pieces.{marks_upto-append, marks_upto-all, Numbered-append, Numbered-wider, numbered-pieces, marks_upto-pieces, out-min, marks_upto-left_over, Numbered-left_over}
use Rattle.speculation_law.proofs.Dues.{Unfinished, Below, AtBoundary, finish_on, finish_on-unspent, finish_on-none}
use Rattle.speculation_law.proofs.Chains.{front-point, front-going}

-- the output up to where a front t stands that begins behind `base`
pub record Shows {S E D : Type 0} (m : Machine S E D) (b : Settings) (start : S) (base : ℕ) (released ready : List Mark) (t : Track S) : Type 0 where
  pub output : released ++ (ready ++ marks_upto (b.budget - base) t.held) ≡ out m (fresh start) (min b.budget (base + t.own))
  pub numbered : Numbered 0 t.own t.held

module _ {S E D : Type 0} (m : Machine S E D) (b : Settings) (start : S) where
  -- the program's run goes on from a point at which it met no end
  pub go-from : (base k : ℕ) → (go m (fresh start) base).end ≡ None → go m (fresh (go m (fresh start) base).state) k ≡ go m (fresh start) (base + k)
  go-from base k going = ap (λ (q : Point S E). go m q k) (sym (fresh-point m (go m (fresh start) base) going)) ∙ sym (go-add m (fresh start) base k)

  pub shows-good : (c : Core S E D) → Good m b start c → Shows m b start c.base c.released c.ready (front c)
  shows-good c g = record { output = g.output; numbered = g.numbered }

  -- the front stands so many instructions behind the base
  pub front-stands : (base : ℕ) (regions : List (Region S)) (lead : Track S) → (go m (fresh start) base).end ≡ None → Chain m (go m (fresh start) base).state regions lead
      → track_point m (front_of regions lead) ≡ go m (fresh start) (base + (front_of regions lead).own)
  front-stands base regions lead going chain =
      front-point m (go m (fresh start) base).state regions lead chain ∙ go-from base (front_of regions lead).own going

  -- the program met no end before the front's last instruction
  pub before-front : (base : ℕ) (regions : List (Region S)) (lead : Track S) → (go m (fresh start) base).end ≡ None → Chain m (go m (fresh start) base).state regions lead
      → (k : ℕ) → k < base + (front_of regions lead).own → (go m (fresh start) k).end ≡ None
  before-front base regions lead going chain k less = elim (cases_lt k base) [
    | inl low ↦ going-below m (fresh start) k base (omega arith) going
    | inr high ↦ (let i = k - base in let whole : base + i ≡ k = omega arith in
        let here : (go m (fresh (go m (fresh start) base).state) i).end ≡ None = front-going m (go m (fresh start) base).state regions lead chain i (omega arith) in
        subst (λ n. (go m (fresh start) n).end ≡ None) whole (sym (ap (λ (q : Point S E). q.end) (go-from base i going)) ∙ here))
  ]

  -- a front that runs on
  pub shows-run : (base : ℕ) (released ready : List Mark) (t : Track S) (n : ℕ) → (go m (fresh start) base).end ≡ None
      → new_pieces m t.kind t.start t.own n ≡ pieces m (go m (fresh (go m (fresh start) base).state) t.own) t.own n
      → Shows m b start base released ready t → Shows m b start base released ready (run_on m t n)
  shows-run base released ready t n going new h =
      let l = b.budget - base in
      let p : Point S E = go m (fresh (go m (fresh start) base).state) t.own in
      let here : p ≡ go m (fresh start) (base + t.own) = go-from base t.own going in
      let held : marks_upto l (t.held ++ new_pieces m t.kind t.start t.own n) ≡ marks_upto l t.held ++ out m (go m (fresh start) (base + t.own)) (min (b.budget - (base + t.own)) n)
      = marks_upto-append l t.held (new_pieces m t.kind t.start t.own n)
      ∙ ap (λ ms. marks_upto l t.held ++ ms) (ap (marks_upto l) new ∙ marks_upto-pieces m l p t.own n
      ∙ ap₂ (λ (q : Point S E) (k : ℕ). out m q (min k n)) here (let less : (b.budget - base) - t.own ≡ b.budget - (base + t.own) = omega arith in less)) in
      let more = out m (go m (fresh start) (base + t.own)) (min (b.budget - (base + t.own)) n) in
      let whole : base + (t.own + n) ≡ (base + t.own) + n = omega arith in
      record {
        output = ap (λ ms. released ++ (ready ++ ms)) held
            ∙ ap (λ ms. released ++ ms) (sym (append_assoc ready (marks_upto l t.held) more))
            ∙ sym (append_assoc released (ready ++ marks_upto l t.held) more)
            ∙ ap (λ ms. ms ++ more) h.output ∙ sym (out-min m (fresh start) b.budget (base + t.own) n) ∙ ap (λ k. out m (fresh start) (min b.budget k)) (sym whole);
        numbered = Numbered-append 0 (t.own + n) t.held (new_pieces m t.kind t.start t.own n) (Numbered-wider 0 t.own 0 (t.own + n) t.held (omega arith) (omega arith) h.numbered)
            (subst (λ ps. Numbered 0 (t.own + n) ps) (sym new) (Numbered-wider t.own (t.own + n) 0 (t.own + n) (pieces m p t.own n) (omega arith) (omega arith) (numbered-pieces m p t.own n)));
      }

  -- a front that holds all its pieces, where all before it is released or ready
  pub shows-whole : (base : ℕ) (released ready : List Mark) (t : Track S) → (go m (fresh start) base).end ≡ None → Whole m (go m (fresh start) base).state t
      → released ++ ready ≡ out m (fresh start) (min b.budget base) → Shows m b start base released ready t
  shows-whole base released ready t going whole h =
      let s : S = (go m (fresh start) base).state in
      let l = b.budget - base in
      let held : marks_upto l t.held ≡ out m (go m (fresh start) base) (min l t.own)
      = ap (marks_upto l) whole.held ∙ marks_upto-pieces m l (fresh s) 0 t.own
      ∙ ap₂ (λ (q : Point S E) (k : ℕ). out m q (min k t.own)) (sym (fresh-point m (go m (fresh start) base) going)) (let same : l - 0 ≡ l = omega arith in same) in
      record {
        output = ap (λ ms. released ++ (ready ++ ms)) held ∙ sym (append_assoc released ready (out m (go m (fresh start) base) (min l t.own)))
            ∙ ap (λ ms. ms ++ out m (go m (fresh start) base) (min l t.own)) h ∙ sym (out-min m (fresh start) b.budget base t.own);
        numbered = subst (λ ps. Numbered 0 t.own ps) (sym whole.held)
            (Numbered-wider 0 (0 + t.own) 0 t.own (pieces m (fresh s) 0 t.own) (omega arith) (omega arith) (numbered-pieces m (fresh s) 0 t.own));
      }

  -- all pieces of a front within the budget, once they are ready
  pub shows-settled : (base : ℕ) (released ready : List Mark) (t : Track S) → t.own ≤ b.budget - base → Shows m b start base released ready t
      → released ++ (ready ++ marks t.held) ≡ out m (fresh start) (min b.budget (base + t.own))
  shows-settled base released ready t le h =
      ap (λ ms. released ++ (ready ++ ms)) (sym (marks_upto-all 0 t.own (b.budget - base) t.held h.numbered le)) ∙ h.output

  -- a front that gave out its pieces
  pub shows-released : (base : ℕ) (released ready : List Mark) (t : Track S) → Shows m b start base released ready t
      → Shows m b start base (released ++ (ready ++ marks_upto (b.budget - base) t.held)) [] (record t { held = left_over (b.budget - base) t.held })
  shows-released base released ready t h = record {
    output = ap (λ ms. (released ++ (ready ++ marks_upto (b.budget - base) t.held)) ++ ms) (marks_upto-left_over (b.budget - base) t.held)
        ∙ append-nil (released ++ (ready ++ marks_upto (b.budget - base) t.held)) ∙ h.output;
    numbered = Numbered-left_over 0 t.own (b.budget - base) t.held h.numbered;
  }

  -- a front that stays, while what is ready is given out
  pub shows-poured : (base : ℕ) (released ready : List Mark) (t : Track S) → Shows m b start base released ready t
      → Shows m b start base (released ++ (ready ++ [])) [] t
  shows-poured base released ready t h = record {
    output = append_assoc released (ready ++ []) (marks_upto (b.budget - base) t.held)
        ∙ ap (λ ms. released ++ (ms ++ marks_upto (b.budget - base) t.held)) (append-nil ready) ∙ h.output;
    numbered = h.numbered;
  }

  -- What it says that there is no finish

  pub unfinished-unspent : (base : ℕ) (home : Bool) (t : Track S) → finish_test m b base home t ≡ None → base < b.budget
  unfinished-unspent base home t h =
      leb-false b.budget base (finish_on-unspent b.budget (base + t.own) (nat_le b.budget base) home (track_point m t).end
      (nat_le t.own (b.budget - base)) (nat_le (b.budget - base) t.own) (is_kind t.kind Normal && at_boundary m t) h)

  pub unfinished-case : (base : ℕ) (home : Bool) (t : Track S) → finish_test m b base home t ≡ None → home ≡ true → (track_point m t).end ≡ None
      → Unfinished (nat_le t.own (b.budget - base)) (nat_le (b.budget - base) t.own) (is_kind t.kind Normal && at_boundary m t)
  unfinished-case base home t h is_home going =
      let spent : nat_le b.budget base ≡ false = finish_on-unspent b.budget (base + t.own) (nat_le b.budget base) home (track_point m t).end
      (nat_le t.own (b.budget - base)) (nat_le (b.budget - base) t.own) (is_kind t.kind Normal && at_boundary m t) h in
      finish_on-none b.budget (base + t.own) home (track_point m t).end (nat_le t.own (b.budget - base)) (nat_le (b.budget - base) t.own) (is_kind t.kind Normal && at_boundary m t)
      is_home going
      (subst (λ x. finish_on b.budget (base + t.own) x home (track_point m t).end (nat_le t.own (b.budget - base)) (nat_le (b.budget - base) t.own) (is_kind t.kind Normal && at_boundary m t) ≡ None) spent h)

  -- an own count that doesn't finish the run is within what is left
  pub within-by : (own left : ℕ) (closed : Bool) → Unfinished (nat_le own left) (nat_le left own) closed → own ≤ left
  within-by own left closed (Below reached) = (let less = leb-false left own reached in omega arith)
  within-by own left closed (AtBoundary within is) = leb-true own left within

  -- a front at home that met no end is within the budget
  pub unfinished-within : (base : ℕ) (home : Bool) (t : Track S) → finish_test m b base home t ≡ None → home ≡ true → (track_point m t).end ≡ None → t.own ≤ b.budget - base
  unfinished-within base home t h is_home going =
      within-by t.own (b.budget - base) (is_kind t.kind Normal && at_boundary m t) (unfinished-case base home t h is_home going)

  -- and below it, but for an original at its boundary
  pub below-by : (own left : ℕ) (closed : Bool) → closed ≡ false → Unfinished (nat_le own left) (nat_le left own) closed → own < left
  below-by own left closed inside (Below reached) = leb-false left own reached
  below-by own left closed inside (AtBoundary within is) = absurd (cc)
