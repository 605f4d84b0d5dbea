-- A finish is that of the program alone.
use Rattle.std.proofs.Common.{◌≡◌, ℕ, ◌+◌, ◌-◌, ◌<◌, ◌≤◌, min, Bool, true, false, ◌&&◌, List, [], ◌∷◌, ◌++◌, Some, None, length, nat_le, sym, ap, ◌∙◌, subst, inl, inr, append-nil, leb-true, leb-false, arith}
use Rattle.std.proofs.lemmas.Bool.{cases_lt}
use Rattle.speculation.specs.declared.tracks.Kind.{Kind}
use Rattle.speculation.specs.declared.tracks.Kind.TheVariants.{Normal}
use Rattle.speculation.specs.declared.history.Settings.{Settings}
use Rattle.speculation.specs.Machine.{Machine}
use Rattle.speculation.specs.Run.{Point, marks, marks_upto, fresh, go, out, taken}
use Rattle.speculation.specs.Tracks.{boundary}
use Rattle.speculation.specs.Ledger.{ledger, ledger_from}
use Rattle.speculation.specs.Core.{Core, Track, Region, Finished, front, front_of, front_home, track_point, at_boundary, is_kind}
use Rattle.speculation.specs.Due.{finish_test}
use Rattle.speculation.proofs.Runs.{go-stays, pieces-stay, going-below, taken-going, taken-stays}
use Rattle.speculation_law.specs.Facts.{Chain}
use Rattle.speculation_law.specs.Sound.{Final, Good}
use Rattle.speculation_law.proofs.Verdicts.{boundary-ended, taken-all}
use Rattle.speculation_law.proofs.Walks.{ledger_from-zero, ledger_from-unclosed, ledger_from-segment_ends, ledger_from-segment_spent}
use Rattle.speculation_law.proofs.Pieces.{marks_upto-none}
use Rattle.speculation_law.proofs.Dues.{FinishCase, IsSpent, IsEnded, IsPast, IsReached, finish_on-case}
use Rattle.speculation_law.proofs.Chains.{boundary-at}
use Rattle.speculation_law.proofs.Fronts.{go-from, front-stands, before-front}

module _ {S E D : Type 0} (m : Machine S E D) (b : Settings) (start : S) where
  -- The rows are whole

  -- where the front took more than is left
  rows-past : (left : ℕ) (s : S) (number at : ℕ) (regions : List (Region S)) (lead : Track S) → Chain m s regions lead → left < (front_of regions lead).own → ledger_from m left s number at ≡ []
  rows-past left s number at [] lead h less = ledger_from-segment_spent m lead.own left s number at (omega arith) h.least (h.least.at left less).going
  rows-past left s number at (r ∷ rs) lead h less = ledger_from-unclosed m left s number at h.call (λ i pos le. (h.normal.least.at i (omega arith)).inside)

  closed-normal : (kind : Kind) (here : Bool) → kind ≡ Normal → (is_kind kind Normal && here) ≡ false → here ≡ false
  closed-normal kind here p h = sym (ap (λ k. is_kind k Normal && here) p) ∙ h

  -- where it took all that is left, and is no original at its boundary
  rows-reached : (left : ℕ) (s : S) (number at : ℕ) (regions : List (Region S)) (lead : Track S) → Chain m s regions lead → left ≡ (front_of regions lead).own
      → (go m (fresh s) (front_of regions lead).own).end ≡ None → (is_kind (front_of regions lead).kind Normal && at_boundary m (front_of regions lead)) ≡ false → ledger_from m left s number at ≡ []
  rows-reached left s number at [] lead h same going not = ledger_from-segment_spent m lead.own left s number at (omega arith) h.least (subst (λ n. (go m (fresh s) n).end ≡ None) (sym same) going)
  rows-reached left s number at (r ∷ rs) lead h same going not =
      let inside : boundary m Normal s r.normal.own ≡ false = sym (boundary-at m Normal s r.normal h.normal.kind h.normal.start) ∙ closed-normal r.normal.kind (at_boundary m r.normal) h.normal.kind not in
      ledger_from-unclosed m left s number at h.call (λ i pos le. elim (cases_lt i r.normal.own) [
        | inl less ↦ (h.normal.least.at i less).inside
        | inr more ↦ (let is : r.normal.own ≡ i = omega arith in subst (λ n. boundary m Normal s n ≡ false) is inside)
      ])

  -- where it ended
  rows-ended : (left : ℕ) (s : S) (number at : ℕ) (regions : List (Region S)) (lead : Track S) (e : E) → Chain m s regions lead
      → (go m (fresh s) (front_of regions lead).own).end ≡ Some e → ledger_from m left s number at ≡ []
  rows-ended left s number at [] lead e h ended = ledger_from-segment_ends m lead.own left s number at e h.least ended
  rows-ended left s number at (r ∷ rs) lead e h ended =
      ledger_from-unclosed m left s number at h.call (λ i pos le. elim (cases_lt i r.normal.own) [
        | inl less ↦ (h.normal.least.at i less).inside
        | inr more ↦ (let rest = i - r.normal.own in let whole : r.normal.own + rest ≡ i = omega arith in
            let stays : (go m (fresh s) i).end ≡ Some e = ap (λ n. (go m (fresh s) n).end) (sym whole) ∙ ap (λ (q : Point S E). q.end) (go-stays m (fresh s) r.normal.own rest e ended) ∙ ended in
            boundary-ended m Normal s i e stays)
      ])

  rows-all : (c : Core S E D) → Good m b start c → ledger_from m (b.budget - c.base) (go m (fresh start) c.base).state (length c.rows) c.base ≡ [] → c.rows ≡ ledger m start b.budget
  rows-all c g none = sym (g.rows ∙ ap (λ xs. c.rows ++ xs) none ∙ append-nil c.rows)

  nothing-home : (c : Core S E D) → front_home c ≡ true → front_home c ≡ false → marks_upto (b.budget - c.base) (front c).held ≡ []
  nothing-home c home away = absurd (cc)

  -- the budget is spent with no end
  final-spent : (c : Core S E D) → Good m b start c → (go m (fresh start) b.budget).end ≡ None → b.budget ≤ c.base + (front c).own
      → ledger_from m (b.budget - c.base) (go m (fresh start) c.base).state (length c.rows) c.base ≡ []
      → (front_home c ≡ false → marks_upto (b.budget - c.base) (front c).held ≡ []) → Final m b start c (record { end = None; count = b.budget })
  final-spent c g going reached none nothing = record {
    end = sym going;
    count = sym (taken-going m (fresh start) b.budget going);
    output = g.output ∙ ap (out m (fresh start)) (let all : min b.budget (c.base + (front c).own) ≡ b.budget = omega arith in all);
    nothing = nothing;
    rows = rows-all c g none;
  }

  out-stays : (p : Point S E) (a n : ℕ) (e : E) → (go m p a).end ≡ Some e → out m p (a + n) ≡ out m p a
  unfolding out
  out-stays p a n e h = ap marks (pieces-stay m p 0 a n e h)

  -- the program ended within the budget
  final-ended : (c : Core S E D) (e : E) → Good m b start c → front_home c ≡ true → (track_point m (front c)).end ≡ Some e → c.base < b.budget → (front c).own ≤ b.budget - c.base
      → Final m b start c (record { end = Some e; count = c.base + (front c).own })
  final-ended c e g home ended unspent within =
      let n = c.base + (front c).own in
      let rest = b.budget - n in
      let whole : b.budget ≡ n + rest = omega arith in
      let stands : track_point m (front c) ≡ go m (fresh start) n = front-stands m b start c.base c.regions c.lead g.truth g.chain in
      let met : (go m (fresh start) n).end ≡ Some e = sym (ap (λ (q : Point S E). q.end) stands) ∙ ended in
      let local : (go m (fresh (go m (fresh start) c.base).state) (front c).own).end ≡ Some e = ap (λ (q : Point S E). q.end) (go-from m b start c.base (front c).own g.truth) ∙ met in
      let last : go m (fresh start) b.budget ≡ go m (fresh start) n = ap (go m (fresh start)) whole ∙ go-stays m (fresh start) n rest e met in
      let all : min b.budget n ≡ n = omega arith in
      record {
        end = sym (ap (λ (q : Point S E). q.end) last ∙ met);
        count = sym (ap (taken m (fresh start)) whole ∙ taken-stays m (fresh start) n rest e met ∙ taken-all m (fresh start) n (before-front m b start c.base c.regions c.lead g.truth g.chain));
        output = g.output ∙ ap (out m (fresh start)) all ∙ sym (ap (out m (fresh start)) whole ∙ out-stays (fresh start) n rest e met);
        nothing = nothing-home c home;
        rows = rows-all c g (rows-ended (b.budget - c.base) (go m (fresh start) c.base).state (length c.rows) c.base c.regions c.lead e g.chain local);
      }

  final-past : (c : Core S E D) → Good m b start c → front_home c ≡ true → c.base < b.budget → b.budget - c.base < (front c).own → Final m b start c (record { end = None; count = b.budget })
  final-past c g home unspent past =
      final-spent c g (before-front m b start c.base c.regions c.lead g.truth g.chain b.budget (omega arith)) (omega arith)
      (rows-past (b.budget - c.base) (go m (fresh start) c.base).state (length c.rows) c.base c.regions c.lead g.chain past) (nothing-home c home)

  final-reached : (c : Core S E D) → Good m b start c → front_home c ≡ true → c.base < b.budget → (track_point m (front c)).end ≡ None → b.budget - c.base ≡ (front c).own
      → (is_kind (front c).kind Normal && at_boundary m (front c)) ≡ false → Final m b start c (record { end = None; count = b.budget })
  final-reached c g home unspent going same not =
      let stands : track_point m (front c) ≡ go m (fresh start) (c.base + (front c).own) = front-stands m b start c.base c.regions c.lead g.truth g.chain in
      let whole : c.base + (front c).own ≡ b.budget = omega arith in
      let none : (go m (fresh start) (c.base + (front c).own)).end ≡ None = sym (ap (λ (q : Point S E). q.end) stands) ∙ going in
      let local : (go m (fresh (go m (fresh start) c.base).state) (front c).own).end ≡ None = ap (λ (q : Point S E). q.end) (go-from m b start c.base (front c).own g.truth) ∙ none in
      final-spent c g (subst (λ n. (go m (fresh start) n).end ≡ None) whole none) (omega arith)
      (rows-reached (b.budget - c.base) (go m (fresh start) c.base).state (length c.rows) c.base c.regions c.lead g.chain same local not) (nothing-home c home)

  final-over : (c : Core S E D) → Good m b start c → b.budget ≤ c.base → Final m b start c (record { end = None; count = b.budget })
  final-over c g spent =
      let none : b.budget - c.base ≡ 0 = omega arith in
      final-spent c g (going-below m (fresh start) b.budget c.base spent g.truth) (omega arith)
      (ap (λ l. ledger_from m l (go m (fresh start) c.base).state (length c.rows) c.base) none ∙ ledger_from-zero m (go m (fresh start) c.base).state (length c.rows) c.base)
      (λ away. marks_upto-none 0 (front c).own (b.budget - c.base) (front c).held g.numbered (omega arith))

  final-case : (c : Core S E D) (f : Finished E) → Good m b start c
      → FinishCase b.budget (c.base + (front c).own) (nat_le b.budget c.base) (front_home c) (track_point m (front c)).end (nat_le (front c).own (b.budget - c.base)) (nat_le (b.budget - c.base) (front c).own)
      (is_kind (front c).kind Normal && at_boundary m (front c)) f
      → Final m b start c f
  final-case c f g (IsSpent spent is) = subst (λ (x : Finished E). Final m b start c x) is (final-over c g (leb-true b.budget c.base spent))
  final-case c f g (IsEnded e unspent home ended within is) =
      subst (λ (x : Finished E). Final m b start c x) is (final-ended c e g home ended (leb-false b.budget c.base unspent) (leb-true (front c).own (b.budget - c.base) within))
  final-case c f g (IsPast unspent home past is) =
      subst (λ (x : Finished E). Final m b start c x) is (final-past c g home (leb-false b.budget c.base unspent) (leb-false (front c).own (b.budget - c.base) past))
  final-case c f g (IsReached unspent home going within reached not is) =
      let low = leb-true (front c).own (b.budget - c.base) within in
      let high = leb-true (b.budget - c.base) (front c).own reached in
      subst (λ (x : Finished E). Final m b start c x) is (final-reached c g home (leb-false b.budget c.base unspent) going (omega arith) not)

  -- a finish that is due is final
  pub final-due : (c : Core S E D) (f : Finished E) → Good m b start c → finish_test m b c.base (front_home c) (front c) ≡ Some f → Final m b start c f
  final-due c f g h =
      final-case c f g (finish_on-case b.budget (c.base + (front c).own) (nat_le b.budget c.base) (front_home c) (track_point m (front c)).end (nat_le (front c).own (b.budget - c.base)) (nat_le (b.budget - c.base) (front c).own)
      (is_kind (front c).kind Normal && at_boundary m (front c)) f h)
