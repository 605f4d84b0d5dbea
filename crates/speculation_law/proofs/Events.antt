-- Each entry of a history keeps what holds of the core.
use Rattle.std.proofs.Common.{◌≡◌, ◌-◌, ◌<◌, ◌≤◌, true, false, List, [], ◌∷◌, Some, None, refl, sym, ap, ◌∙◌, subst}
use Rattle.speculation.specs.declared.tracks.Kind.TheVariants.{Normal}
use Rattle.speculation.specs.declared.history.Settings.{Settings}
use Rattle.speculation.specs.declared.history.Entry.{Entry}
use Rattle.speculation.specs.Machine.{Machine}
use Rattle.speculation.specs.Run.{Point, fresh, go}
use Rattle.speculation.specs.Tracks.{point}
use Rattle.speculation.specs.Verdicts.{Verdict, Kept, Differs, Stopped, Late, verdict, judge}
use Rattle.speculation.specs.Core.{Core, Region, Finished, over, at_home, front, front_of, front_name, front_home, track_point, at_boundary}
use Rattle.speculation.specs.Due.{Judgement, Due, Finishing, Crossing, Judging, Forking, finish_test, cross_test, seen, due}
use Rattle.speculation.specs.Effects.{judged_core, dropped_core, effect}
use Rattle.speculation.specs.Events.{event}
use Rattle.speculation.specs.Law.{Exact}
use Rattle.speculation_law.specs.Facts.{Chain}
use Rattle.speculation_law.specs.Sound.{Final, Good}
use Rattle.speculation_law.proofs.Verdicts.{boundary-going, judge-verdict}
use Rattle.speculation_law.proofs.Dues.{IsJudged, due-finishing, due-crossing, due-judging, due-forking, verdict_due-some, cross_test-true, fork_test-true}
use Rattle.speculation_law.proofs.Chains.{track_point-at}
use Rattle.speculation_law.proofs.Fronts.{unfinished-unspent, unfinished-within}
use Rattle.speculation_law.proofs.Judging.{sees-tail, judge-kept, kept-part, lead-inside, good-dropped, good-kept}
use Rattle.speculation_law.proofs.Leading.{good-crossed, good-forked}
use Rattle.speculation_law.proofs.Finishing.{final-due}
use Rattle.speculation_law.proofs.Happens.{Happens, Lends, Returns, Vanishes, Releases, Halts, Does, event-happens}
use Rattle.speculation_law.proofs.Lending.{unfinished, good-lent, good-back, good-gone, good-halted, good-released}

module _ {S E D : Type 0} (m : Machine S E D) (b : Settings) (start : S) where
  -- a finish
  good-finished : (c : Core S E D) (f : Finished E) → Good m b start c → Final m b start c f → over c ≡ false → Good m b start (record c { finish = Some f })
  good-finished c f g final live = record {
    truth = g.truth;
    chain = g.chain;
    output = g.output;
    numbered = g.numbered;
    rows = g.rows;
    waiting = g.waiting;
    once = g.once;
    lost = λ still. g.lost live;
    final = λ x is. (let same : f ≡ x = cc in
        let old = subst (λ (y : Finished E). Final m b start c y) same final in
        record { end = old.end; count = old.count; output = old.output; nothing = λ away. old.nothing (away-same c f c.regions away); rows = old.rows });
  }
    where
      away-same : (c : Core S E D) (f : Finished E) (rs : List (Region S))
          → at_home (record c { finish = Some f }) (front_name (record c { finish = Some f }) rs) ≡ false
          → at_home c (front_name c rs) ≡ false
      away-same c f [] h = h
      away-same c f (r ∷ rs) h = h

  -- What is known of a judgement that is due

  pub record Judges (c : Core S E D) (v : Judgement S D) : Type 0 where
    pub good : Good m b start (record c { regions = v.region ∷ v.younger })
    pub live : over c ≡ false
    pub unspent : c.base < b.budget
    pub within : v.region.normal.own ≤ b.budget - c.base
    pub boundary : at_boundary m v.region.normal ≡ true
    pub judged : v.judged ≡ verdict m (go m (fresh start) c.base).state v.region.normal.own
    pub answer : judge v.region.normal.own (seen m v.region.part (track_point m v.region.normal).state c.lead) ≡ Some v.judged

  judges-by : (c : Core S E D) (v : Judgement S D) → Good m b start c → over c ≡ false → finish_test m b c.base (front_home c) (front c) ≡ None → cross_test m c ≡ false
      → IsJudged m c c.regions v → Judges c v
  judges-by c v g live none uncrossed j =
      let s : S = (go m (fresh start) c.base).state in
      let good : Good m b start (record c { regions = v.region ∷ v.younger }) = subst (λ (k : Core S E D). Good m b start k) (λ i. record c { regions = j.open_regions i }) g in
      let chain : Chain m s (v.region ∷ v.younger) c.lead = good.chain in
      let front_is : front c ≡ v.region.normal = ap (λ rs. front_of rs c.lead) j.open_regions in
      let test : finish_test m b c.base (front_home c) v.region.normal ≡ None = sym (ap (finish_test m b c.base (front_home c)) front_is) ∙ none in
      let going : (track_point m v.region.normal).end ≡ None = boundary-going m v.region.normal.kind v.region.normal.start v.region.normal.own j.boundary in
      let stands : track_point m v.region.normal ≡ point m Normal s v.region.normal.own = track_point-at m Normal s v.region.normal chain.normal.kind chain.normal.start in
      let sees = sees-tail m s (track_point m v.region.normal).state v.region.normal.own v.region.part v.region.segment v.younger c.lead chain.tail (ap (λ (q : Point S E). q.state) stands)
      (lead-inside m c (g.lost live) uncrossed g.waiting) in
      record {
        good = good;
        live = live;
        unspent = unfinished-unspent m b start c.base (front_home c) v.region.normal test;
        within = unfinished-within m b start c.base (front_home c) v.region.normal test j.home going;
        boundary = j.boundary;
        judged = judge-verdict m s v.region.normal.own (seen m v.region.part (track_point m v.region.normal).state c.lead) v.judged sees j.answer;
        answer = j.answer;
      }

  pub judges-due : (c : Core S E D) (v : Judgement S D) → Good m b start c → due m b c ≡ Some (Judging v) → Judges c v
  judges-due c v g h = (let chosen = due-judging m b c v h in judges-by c v g chosen.live chosen.unfinished chosen.uncrossed (verdict_due-some m c c.regions v chosen.judged))

  good-discarded : (c : Core S E D) (v : Judgement S D) → Judges c v → Good m b start (dropped_core m c v)
  good-discarded c v j = good-dropped m b start c v.region v.younger v.judged j.good j.live j.unspent j.within j.boundary j.judged (unfinished c j.live)

  good-judged_by : (c : Core S E D) (v : Judgement S D) (w : Verdict D) → Exact m start → v.judged.verdict ≡ w → Judges c v → Good m b start (judged_core m b c v w)
  good-judged_by c v Kept exact is j =
      good-kept m b start c v.region v.younger v.judged exact j.good j.live j.unspent j.within j.boundary j.judged
      (kept-part m v.region.part (track_point m v.region.normal).state c.lead
      (judge-kept v.region.normal.own (seen m v.region.part (track_point m v.region.normal).state c.lead) v.judged j.answer is))
      (unfinished c j.live)
  good-judged_by c v (Differs d) exact is j = good-discarded c v j
  good-judged_by c v Stopped exact is j = good-discarded c v j
  good-judged_by c v Late exact is j = good-discarded c v j

  -- the due event
  pub good-due : (c : Core S E D) (d : Due S E D) → Exact m start → Good m b start c → due m b c ≡ Some d → Good m b start (effect m b c d)
  good-due c (Finishing f) exact g h = (let chosen = due-finishing m b c f h in good-finished c f g (final-due m b start c f g chosen.finish) chosen.live)
  good-due c Crossing exact g h = (let chosen = due-crossing m b c h in good-crossed m b start c g (unfinished c chosen.live) (cross_test-true m c chosen.crosses))
  good-due c (Judging v) exact g h = good-judged_by c v v.judged.verdict exact refl (judges-due c v g h)
  good-due c Forking exact g h = (let chosen = due-forking m b c h in good-forked m b start c g (unfinished c chosen.live) chosen.unfinished (fork_test-true m b c chosen.forks))

  good-happens : (c new : Core S E D) (x : Entry) → Exact m start → Good m b start c → Happens m b c new x → Good m b start new
  good-happens c new x exact g (Lends seat n t entry can is) = subst (λ (k : Core S E D). Good m b start k) is (good-lent m b start c n seat t g can)
  good-happens c new x exact g (Returns n count l t entry live loan undropped found counted is) =
      subst (λ (k : Core S E D). Good m b start k) is (good-back m b start c n l t g live loan undropped found)
  good-happens c new x exact g (Vanishes n l entry loan is) = subst (λ (k : Core S E D). Good m b start k) is (good-gone m b start c n l g loan)
  good-happens c new x exact g (Releases count entry some counted is) = subst (λ (k : Core S E D). Good m b start k) is (good-released m b start c g)
  good-happens c new x exact g (Halts seat entry live is) = subst (λ (k : Core S E D). Good m b start k) is (good-halted m b start c g live)
  good-happens c new x exact g (Does d due_is entry is) = subst (λ (k : Core S E D). Good m b start k) is (good-due c d exact g due_is)

  -- each entry that is allowed
  pub good-event : (c new : Core S E D) (x : Entry) → Exact m start → Good m b start c → event m b c x ≡ Some new → Good m b start new
  good-event c new x exact g h = good-happens c new x exact g (event-happens m b c new x h)
