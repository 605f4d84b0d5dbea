-- The law of histories.
use Rattle.std.proofs.Common.{◌≡◌, ℕ, ◌+◌, ◌-◌, ◌≤◌, min, Bool, true, false, if◌then◌else◌, List, [], ◌∷◌, ◌++◌, Option, Some, None, length, refl, sym, ap, ◌∙◌, subst, append_assoc, append-nil, arith}
use Rattle.speculation.specs.declared.tracks.Kind.TheVariants.{Fast, Segment}
use Rattle.speculation.specs.declared.history.Settings.{Settings}
use Rattle.speculation.specs.declared.history.Entry.{Entry}
use Rattle.speculation.specs.Machine.{Machine}
use Rattle.speculation.specs.Run.{marks_upto, fresh, go, pieces, out}
use Rattle.speculation.specs.Record.{alone, output_of, IsPrefixOf}
use Rattle.speculation.specs.Ledger.{ledger, ledger_from}
use Rattle.speculation.specs.Core.{Core, Finished, opening, front, front_home, verified}
use Rattle.speculation.specs.Events.{event, core_run}
use Rattle.speculation.specs.Law.{Exact, IsHistory, IsPartial, IsComplete}
use Rattle.speculation.proofs.Outputs.{out-add}
use Rattle.speculation.proofs.Records.{output-alone, end-alone, count-alone}
use Rattle.speculation_law.specs.Sound.{Final, Good}
use Rattle.speculation_law.proofs.Chains.{segment-first}
use Rattle.speculation_law.proofs.Events.{good-event}

module _ {S E D : Type 0} (m : Machine S E D) (b : Settings) (start : S) where
  -- the opening core
  pub good-opening : Good m b start (opening start)
  unfolding go out pieces ledger
  good-opening = record {
    truth = refl;
    chain = segment-first m start;
    output = sym (ap (out m (fresh start)) (let none : min b.budget (0 + 0) ≡ 0 = omega arith in none));
    numbered = tt;
    rows = ap (λ l. ledger_from m l start 0 0) (let same : b.budget ≡ b.budget - 0 = omega arith in same);
    waiting = λ kind lent. absurd (let other : Segment ≡ Fast = kind in cc);
    once = λ n. omega arith;
    lost = λ live. refl;
    final = λ f is. absurd (cc);
  }

  pub good-run : (xs : List Entry) (o : Option (Core S E D)) (new : Core S E D) → Exact m start → ((c : Core S E D) → o ≡ Some c → Good m b start c) → core_run m b o xs ≡ Some new → Good m b start new
  unfolding core_run
  good-run [] o new exact g h = g new h
  good-run (x ∷ xs) None new exact g h = absurd (cc)
  good-run (x ∷ xs) (Some c) new exact g h = good-run xs (event m b c x) new exact (λ k is. good-event m b start c k x exact (g c refl) is) h

  -- every legal history
  pub good-history : (entries : List Entry) (c : Core S E D) → Exact m start → IsHistory m b start entries c → Good m b start c
  good-history entries c exact h =
      good-run entries (Some (opening start)) c exact (λ k is. (let same : opening start ≡ k = cc in subst (λ (x : Core S E D). Good m b start x) same good-opening)) h

  -- Partial and complete

  shown-by : (c : Core S E D) (home : Bool) → IsPrefixOf (c.released ++ (c.ready ++ (if home then marks_upto (b.budget - c.base) (front c).held else []))) (c.released ++ (c.ready ++ marks_upto (b.budget - c.base) (front c).held))
  shown-by c true = ([], append-nil (c.released ++ (c.ready ++ marks_upto (b.budget - c.base) (front c).held)))
  shown-by c false = (
    marks_upto (b.budget - c.base) (front c).held,
    append_assoc c.released (c.ready ++ []) (marks_upto (b.budget - c.base) (front c).held) ∙ ap (λ ms. c.released ++ (ms ++ marks_upto (b.budget - c.base) (front c).held)) (append-nil c.ready),
  )

  shown : (c : Core S E D) → IsPrefixOf (c.released ++ verified b c) (c.released ++ (c.ready ++ marks_upto (b.budget - c.base) (front c).held))
  unfolding verified
  shown c = shown-by c (front_home c)

  out-prefix : (k : ℕ) → k ≤ b.budget → IsPrefixOf (out m (fresh start) k) (out m (fresh start) b.budget)
  out-prefix k le =
      let rest = b.budget - k in let whole : k + rest ≡ b.budget = omega arith in
      (out m (go m (fresh start) k) rest, sym (out-add m (fresh start) k rest) ∙ ap (out m (fresh start)) whole)

  prefix-trans : {A : Type 0} (xs ys zs : List A) → IsPrefixOf xs ys → IsPrefixOf ys zs → IsPrefixOf xs zs
  prefix-trans xs ys zs h k = (h.0 ++ k.0, sym (append_assoc xs h.0 k.0) ∙ ap (λ ws. ws ++ k.0) h.1 ∙ k.1)

  prefix-at : {A : Type 0} (xs ys zs : List A) → ys ≡ zs → IsPrefixOf xs ys → IsPrefixOf xs zs
  prefix-at xs ys zs e h = (h.0, h.1 ∙ e)

  pub partial-good : (c : Core S E D) → Good m b start c → IsPartial m b start c
  partial-good c g =
      let k = min b.budget (c.base + (front c).own) in
      let here : IsPrefixOf (c.released ++ verified b c) (out m (fresh start) k)
      = prefix-at (c.released ++ verified b c) (c.released ++ (c.ready ++ marks_upto (b.budget - c.base) (front c).held)) (out m (fresh start) k) g.output (shown c) in
      record {
        output = prefix-at (c.released ++ verified b c) (out m (fresh start) b.budget) (output_of (alone m start b.budget)) (sym (output-alone m start b.budget))
            (prefix-trans (c.released ++ verified b c) (out m (fresh start) k) (out m (fresh start) b.budget) here (out-prefix k (omega arith)));
        rows = (ledger_from m (b.budget - c.base) (go m (fresh start) c.base).state (length c.rows) c.base, sym g.rows);
      }

  final-shown : (c : Core S E D) (home : Bool) → front_home c ≡ home → (front_home c ≡ false → marks_upto (b.budget - c.base) (front c).held ≡ [])
      → (if home then marks_upto (b.budget - c.base) (front c).held else []) ≡ marks_upto (b.budget - c.base) (front c).held
  final-shown c true is nothing = refl
  final-shown c false is nothing = sym (nothing is)

  final-verified : (c : Core S E D) → (front_home c ≡ false → marks_upto (b.budget - c.base) (front c).held ≡ []) → verified b c ≡ c.ready ++ marks_upto (b.budget - c.base) (front c).held
  unfolding verified
  final-verified c nothing = ap (λ ms. c.ready ++ ms) (final-shown c (front_home c) refl nothing)

  pub complete-final : (c : Core S E D) (f : Finished E) → Final m b start c f → IsComplete m b start c f
  complete-final c f h = record {
    end = h.end ∙ sym (end-alone m start b.budget);
    count = h.count ∙ sym (count-alone m start b.budget);
    output = ap (λ ms. c.released ++ ms) (final-verified c h.nothing) ∙ h.output ∙ sym (output-alone m start b.budget);
    rows = h.rows;
  }

  -- the law: what comes out of any legal history is a prefix, and all of it where the history has a finish
  pub law-partial : (entries : List Entry) (c : Core S E D) → Exact m start → IsHistory m b start entries c → IsPartial m b start c
  law-partial entries c exact h = partial-good c (good-history entries c exact h)

  pub law-complete : (entries : List Entry) (c : Core S E D) (f : Finished E) → Exact m start → IsHistory m b start entries c → c.finish ≡ Some f → IsComplete m b start c f
  law-complete entries c f exact h finished = complete-final c f ((good-history entries c exact h).final f finished)
