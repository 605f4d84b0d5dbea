-- The numbers of the core are bounded.
use Rattle.std.proofs.Common.{◌≡◌, ℕ, suc, ◌+◌, ◌-◌, ◌*◌, ◌<◌, ◌≤◌, Bool, true, false, List, [], ◌∷◌, Option, Some, None, length, nat_eq, if◌then◌else◌, refl, sym, ap, ◌∙◌, subst, inl, inr, eq-eqb, length-append, arith}
use Rattle.std.proofs.lemmas.Bool.{cases_lt}
use Rattle.speculation.specs.declared.tracks.Kind.TheVariants.{Normal}
use Rattle.speculation.specs.declared.tracks.Name.{Name}
use Rattle.speculation.specs.declared.history.Settings.{Settings}
use Rattle.speculation.specs.declared.history.Entry.{Entry}
use Rattle.speculation.specs.Machine.{Machine}
use Rattle.speculation.specs.Run.{Mark, fresh, go}
use Rattle.speculation.specs.Verdicts.{Verdict, Kept, Differs, Stopped, Late}
use Rattle.speculation.specs.Core.{Core, Track, Between, Region, opening, front, front_home, track_point, verified}
use Rattle.speculation.specs.Due.{Judgement, Due, Finishing, Crossing, Judging, Forking, due}
use Rattle.speculation.specs.Effects.{row_of, base_after_fork, region_of, crossed, forked, crossed_core, forked_core, kept_core, dropped_core, judged_core, effect}
use Rattle.speculation.specs.Events.{run_on, slice, back_normals, back_regions, back_lead, gone_live, released_regions, released_lead, released_by}
use Rattle.speculation_law.specs.Sound.{Good}
use Rattle.speculation_law.specs.Naming.{RegionsWithin, Bounded}
use Rattle.speculation_law.proofs.Running.{slice-unstopped}
use Rattle.speculation_law.proofs.Dues.{due-judging, due-forking, verdict_due-some, fork_test-true}
use Rattle.speculation_law.proofs.Chains.{boundary-at}
use Rattle.speculation_law.proofs.Fronts.{unfinished-unspent}
use Rattle.speculation_law.proofs.Judging.{normal-pos}
use Rattle.speculation_law.proofs.Leading.{lead-within}
use Rattle.speculation_law.proofs.Happens.{Happens, Lends, Returns, Vanishes, Releases, Halts, Does, back_core}
use Rattle.speculation_law.proofs.Events.{Judges, judges-due}

module _ {S : Type 0} where
  within-crossed : (budget k : ℕ) (s : S) (rs : List (Region S)) → k ≤ budget → RegionsWithin budget rs → RegionsWithin budget (crossed rs k s)
  within-crossed budget k s [] le h = tt
  within-crossed budget k s (r ∷ []) le h = record { normal = h.normal; part = le; segment = h.segment; rest = tt }
  within-crossed budget k s (r ∷ (r2 ∷ rs)) le h = record { normal = h.normal; part = h.part; segment = h.segment; rest = within-crossed budget k s (r2 ∷ rs) le h.rest }

  pub length-crossed : (k : ℕ) (s : S) (rs : List (Region S)) → length (crossed rs k s) ≡ length rs
  length-crossed k s [] = refl
  length-crossed k s (r ∷ []) = refl
  length-crossed k s (r ∷ (r2 ∷ rs)) = ap suc (length-crossed k s (r2 ∷ rs))

  within-forked : (budget number : ℕ) (g : Between) (s : S) (rs : List (Region S)) → g.steps ≤ budget → RegionsWithin budget rs → RegionsWithin budget (forked rs g (region_of number s))
  within-forked budget number g s [] le h = record { normal = omega arith; part = tt; segment = omega arith; rest = tt }
  within-forked budget number g s (r ∷ []) le h = record { normal = h.normal; part = h.part; segment = le; rest = record { normal = omega arith; part = tt; segment = omega arith; rest = tt } }
  within-forked budget number g s (r ∷ (r2 ∷ rs)) le h = record { normal = h.normal; part = h.part; segment = h.segment; rest = within-forked budget number g s (r2 ∷ rs) le h.rest }

  pub length-forked : (g : Between) (new : Region S) (rs : List (Region S)) → length (forked rs g new) ≡ suc (length rs)
  length-forked g new [] = refl
  length-forked g new (r ∷ []) = refl
  length-forked g new (r ∷ (r2 ∷ rs)) = ap suc (length-forked g new (r2 ∷ rs))

  within-released : (budget limit : ℕ) (rs : List (Region S)) → RegionsWithin budget rs → RegionsWithin budget (released_regions limit rs)
  within-released budget limit [] h = tt
  within-released budget limit (r ∷ rs) h = record { normal = h.normal; part = h.part; segment = h.segment; rest = h.rest }

  pub length-released : (limit : ℕ) (rs : List (Region S)) → length (released_regions limit rs) ≡ length rs
  length-released limit [] = refl
  length-released limit (r ∷ rs) = refl

module _ {S E D : Type 0} (m : Machine S E D) (b : Settings) where
  -- a slice doesn't pass the budget
  pub slice-within : (t : Track S) → t.own ≤ b.budget → t.own + slice m b t ≤ b.budget
  slice-within t le = elim (cases_lt b.budget (t.own + slice m b t)) [
    | inl past ↦ absurd (let k = b.budget - t.own in let whole : t.own + k ≡ b.budget = omega arith in
        let unspent = (slice-unstopped m b t k (omega arith)).unspent in let spent : nat_eq (t.own + k) b.budget ≡ true = eq-eqb (t.own + k) b.budget whole in cc)
    | inr below ↦ below
  ]

  within-back_by : (number : ℕ) (r : Region S) (rs : List (Region S)) (t : Bool) → RegionsWithin b.budget (r ∷ rs) → RegionsWithin b.budget (back_normals m b number rs)
      → RegionsWithin b.budget (if t then (record r { normal = run_on m r.normal (slice m b r.normal) }) ∷ rs else r ∷ back_normals m b number rs)
  within-back_by number r rs true h rest = record { normal = slice-within r.normal h.normal; part = h.part; segment = h.segment; rest = h.rest }
  within-back_by number r rs false h rest = record { normal = h.normal; part = h.part; segment = h.segment; rest = rest }

  within-normals : (number : ℕ) (rs : List (Region S)) → RegionsWithin b.budget rs → RegionsWithin b.budget (back_normals m b number rs)
  within-normals number [] h = tt
  within-normals number (r ∷ rs) h = within-back_by number r rs (nat_eq number r.number) h (within-normals number rs h.rest)

  length-back_by : (number : ℕ) (r : Region S) (rs : List (Region S)) (t : Bool) → length (back_normals m b number rs) ≡ length rs
      → length (if t then (record r { normal = run_on m r.normal (slice m b r.normal) }) ∷ rs else r ∷ back_normals m b number rs) ≡ suc (length rs)
  length-back_by number r rs true h = refl
  length-back_by number r rs false h = ap suc h

  length-normals : (number : ℕ) (rs : List (Region S)) → length (back_normals m b number rs) ≡ length rs
  length-normals number [] = refl
  length-normals number (r ∷ rs) = length-back_by number r rs (nat_eq number r.number) (length-normals number rs)

  pub length-back : (normal : Bool) (number : ℕ) (rs : List (Region S)) → length (back_regions m b normal number rs) ≡ length rs
  length-back true number rs = length-normals number rs
  length-back false number rs = refl

  bounded-back_by : (c : Core S E D) (n : Name) (normal : Bool) → n.normal ≡ normal → Bounded b c
      → Bounded b (record c { regions = back_regions m b normal n.region c.regions; lead = back_lead m b normal c.lead; loans = (back_core m b c n).loans })
  bounded-back_by c n true is h = record {
    regions = within-normals n.region c.regions h.regions;
    lead = h.lead;
    base = h.base;
    rows = h.rows;
    generation = h.generation;
    open_regions = subst (λ k. k ≤ b.tracks) (sym (length-normals n.region c.regions)) h.open_regions;
    last = subst (λ k. c.last ≤ length c.rows + k) (sym (length-normals n.region c.regions)) h.last;
  }
  bounded-back_by c n false is h = record {
    regions = h.regions;
    lead = slice-within c.lead h.lead;
    base = h.base;
    rows = h.rows;
    generation = h.generation;
    open_regions = h.open_regions;
    last = h.last;
  }

  bounded-back : (c : Core S E D) (n : Name) → Bounded b c → Bounded b (back_core m b c n)
  bounded-back c n h = bounded-back_by c n n.normal refl h

  bounded-gone : (c : Core S E D) (n : Name) (o : Option ℕ) → Bounded b c → Bounded b (gone_live c n o)
  bounded-gone c n (Some row) h = record { regions = h.regions; lead = h.lead; base = h.base; rows = h.rows; generation = h.generation; open_regions = h.open_regions; last = h.last }
  bounded-gone c n None h = record { regions = h.regions; lead = h.lead; base = h.base; rows = h.rows; generation = h.generation; open_regions = h.open_regions; last = h.last }

  lead-released : (limit : ℕ) (rs : List (Region S)) (lead : Track S) → (released_lead limit rs lead).own ≡ lead.own
  lead-released limit [] lead = refl
  lead-released limit (r ∷ rs) lead = refl

  bounded-released_by : (c : Core S E D) (home : Bool) (limit : ℕ) (bytes : List Mark) → Bounded b c → Bounded b (released_by home limit c bytes)
  bounded-released_by c true limit bytes h = record {
    regions = within-released b.budget limit c.regions h.regions;
    lead = subst (λ k. k ≤ b.budget) (sym (lead-released limit c.regions c.lead)) h.lead;
    base = h.base;
    rows = h.rows;
    generation = h.generation;
    open_regions = subst (λ k. k ≤ b.tracks) (sym (length-released limit c.regions)) h.open_regions;
    last = subst (λ k. c.last ≤ length c.rows + k) (sym (length-released limit c.regions)) h.last;
  }
  bounded-released_by c false limit bytes h = record { regions = h.regions; lead = h.lead; base = h.base; rows = h.rows; generation = h.generation; open_regions = h.open_regions; last = h.last }

  bounded-crossed : (c : Core S E D) → Bounded b c → Bounded b (crossed_core m c)
  bounded-crossed c h =
      let same = length-crossed c.lead.own (track_point m c.lead).state c.regions in
      record {
        regions = within-crossed b.budget c.lead.own (track_point m c.lead).state c.regions h.lead h.regions;
        lead = omega arith;
        base = h.base;
        rows = h.rows;
        generation = h.generation;
        open_regions = subst (λ k. k ≤ b.tracks) (sym same) h.open_regions;
        last = subst (λ k. c.last ≤ length c.rows + k) (sym same) h.last;
      }

  base-forked : (rs : List (Region S)) (base : ℕ) (lead : Track S) → base ≤ 2 * b.budget → (rs ≡ [] → base + lead.own ≤ b.budget)
      → (base ≤ base_after_fork rs base lead) × (base_after_fork rs base lead ≤ 2 * b.budget)
  base-forked [] base lead h less = (let within = less refl in (omega arith, omega arith))
  base-forked (r ∷ rs) base lead h less = (omega arith, h)

  bounded-forked : (c : Core S E D) → Bounded b c → length c.regions < b.tracks → (c.regions ≡ [] → c.base + c.lead.own ≤ b.budget) → Bounded b (forked_core m c)
  bounded-forked c h room within =
      let g : Between = record { steps = c.lead.own; pieces = c.lead.held } in
      let new : Region S = region_of (suc c.last) (track_point m c.lead).state in
      let more = length-forked g new c.regions in
      let base = base-forked c.regions c.base c.lead h.base within in
      let base_low = base.0 in let rows = h.rows in let last = h.last in
      record {
        regions = within-forked b.budget (suc c.last) g (track_point m c.lead).state c.regions h.lead h.regions;
        lead = omega arith;
        base = base.1;
        rows = omega arith;
        generation = h.generation;
        open_regions = subst (λ k. k ≤ b.tracks) (sym more) room;
        last = subst (λ k. suc c.last ≤ length c.rows + k) (sym more) (omega arith);
      }

  bounded-kept : (start : S) (c : Core S E D) (v : Judgement S D) → Judges m b start c v → RegionsWithin b.budget (v.region ∷ v.younger) → length c.regions ≡ suc (length v.younger)
      → Bounded b c → Bounded b (kept_core m b c v)
  bounded-kept start c v j within count h =
      let more = length-append c.rows (row_of m c v.region v.judged ∷ []) in
      let segment = within.segment in let own = j.within in let unspent = j.unspent in let rows = h.rows in let generation = h.generation in let open_regions = h.open_regions in let last = h.last in
      let pos : 0 < v.region.normal.own = normal-pos m (go m (fresh start) c.base).state v.region.normal.own
      (sym (boundary-at m Normal (go m (fresh start) c.base).state v.region.normal j.good.chain.normal.kind j.good.chain.normal.start) ∙ j.boundary) in
      record { regions = within.rest; lead = h.lead; base = omega arith; rows = omega arith; generation = omega arith; open_regions = omega arith; last = omega arith }

  bounded-discarded : (start : S) (c : Core S E D) (v : Judgement S D) → Judges m b start c v → Bounded b c → Bounded b (dropped_core m c v)
  bounded-discarded start c v j h =
      let more = length-append c.rows (row_of m c v.region v.judged ∷ []) in
      let own = j.within in let unspent = j.unspent in let rows = h.rows in let generation = h.generation in
      let pos : 0 < v.region.normal.own = normal-pos m (go m (fresh start) c.base).state v.region.normal.own
      (sym (boundary-at m Normal (go m (fresh start) c.base).state v.region.normal j.good.chain.normal.kind j.good.chain.normal.start) ∙ j.boundary) in
      record { regions = tt; lead = omega arith; base = omega arith; rows = omega arith; generation = omega arith; open_regions = omega arith; last = omega arith }

  bounded-judged : (start : S) (c : Core S E D) (v : Judgement S D) (w : Verdict D) → Judges m b start c v → RegionsWithin b.budget (v.region ∷ v.younger) → length c.regions ≡ suc (length v.younger)
      → Bounded b c → Bounded b (judged_core m b c v w)
  bounded-judged start c v Kept j within count h = bounded-kept start c v j within count h
  bounded-judged start c v (Differs d) j within count h = bounded-discarded start c v j h
  bounded-judged start c v Stopped j within count h = bounded-discarded start c v j h
  bounded-judged start c v Late j within count h = bounded-discarded start c v j h

  pub bounded-due : (start : S) (c : Core S E D) (d : Due S E D) → Good m b start c → Bounded b c → due m b c ≡ Some d → Bounded b (effect m b c d)
  bounded-due start c (Finishing f) g h is = record { regions = h.regions; lead = h.lead; base = h.base; rows = h.rows; generation = h.generation; open_regions = h.open_regions; last = h.last }
  bounded-due start c Crossing g h is = bounded-crossed c h
  bounded-due start c (Judging v) g h is =
      let j = judges-due m b start c v g is in
      let regions = (verdict_due-some m c c.regions v (due-judging m b c v is).judged).open_regions in
      bounded-judged start c v v.judged.verdict j (subst (λ rs. RegionsWithin b.budget rs) regions h.regions) (ap length regions) h
  bounded-due start c Forking g h is =
      let chosen = due-forking m b c is in
      let lead = fork_test-true m b c chosen.forks in
      bounded-forked c h lead.room (λ empty. (let within = lead-within m b start c chosen.unfinished lead.home lead.boundary empty in
      let unspent = unfinished-unspent m b start c.base (front_home c) (front c) chosen.unfinished in omega arith))

  pub bounded-happens : (start : S) (c new : Core S E D) (x : Entry) → Good m b start c → Bounded b c → Happens m b c new x → Bounded b new
  bounded-happens start c new x g h (Lends seat n t entry can is) =
      subst (λ (k : Core S E D). Bounded b k) is (record { regions = h.regions; lead = h.lead; base = h.base; rows = h.rows; generation = h.generation; open_regions = h.open_regions; last = h.last })
  bounded-happens start c new x g h (Returns n count l t entry live loan undropped found counted is) = subst (λ (k : Core S E D). Bounded b k) is (bounded-back c n h)
  bounded-happens start c new x g h (Vanishes n l entry loan is) = subst (λ (k : Core S E D). Bounded b k) is (bounded-gone c n l.dropped h)
  bounded-happens start c new x g h (Releases count entry some counted is) = subst (λ (k : Core S E D). Bounded b k) is (bounded-released_by c (front_home c) (b.budget - c.base) (verified b c) h)
  bounded-happens start c new x g h (Halts seat entry live is) =
      subst (λ (k : Core S E D). Bounded b k) is (record { regions = h.regions; lead = h.lead; base = h.base; rows = h.rows; generation = h.generation; open_regions = h.open_regions; last = h.last })
  bounded-happens start c new x g h (Does d due_is entry is) = subst (λ (k : Core S E D). Bounded b k) is (bounded-due start c d g h due_is)

  pub bounded-opening : (start : S) → Bounded {S = S} {E = E} {D = D} b (opening start)
  bounded-opening start = record { regions = tt; lead = omega arith; base = omega arith; rows = omega arith; generation = omega arith; open_regions = omega arith; last = omega arith }
