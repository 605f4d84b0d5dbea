-- Each step keeps the rule of the table.
use Rattle.std.proofs.Common.{◌≡◌, ◌≢◌, ◌⊎◌, ℕ, zero, suc, ◌+◌, ◌%◌, ◌<◌, ◌≤◌, cond, eqb, List, [], ◌∷◌, ◌++◌, length, set, get_or, Option, Some, refl, sym, ap, ◌∙◌, subst, inl, inr, ⊎_elim, arith, length-set, length-append, eq-eqb, ne_eqb, mod-eq_of_lt, lit<}
use lib.Seq.{set-get_or}
use mathlib.Core.Option.{none, some, some-injective, some-ne-none}
use mathlib.Core.Option as maybe
use mathlib.Core.Logic.{dite}
use native.Mathlib.Decide.{ℕ_discrete}
use lib.ListN.{get_elem?}
use Rattle.atomic_table.specs.Table.{State, Me, Act, keeps, takes, gives, stepped, put_back, rest, Valid, carried_after, Allows, Splits, opening, Final, Seen}
use Rattle.atomic_table.proofs.Lists.{at_set, set_here, set_else, set_again, at_longer, one_turn}
use Rattle.board_lock.specs.declared.known.Known.{Known}
use Rattle.board_lock.specs.declared.known.Stage.{Stage}
use Rattle.board_lock.specs.declared.known.Stage.TheVariants.{Idle, Waits, Holds}
use Rattle.board_lock.specs.Entries.{Foreign, Extends, Appends, Unborn}
use Rattle.board_lock.specs.Rule.{weight, tickets, stock_of, starting, Stands, Fits, AtHome, IsOut, Ruled}
use Rattle.board_lock.specs.Steps.{staged, giver, given, Resumes, drew, looked, OneMore, passed}
use Rattle.board_lock.specs.Places.{IsAtRest}
use Rattle.board_lock.proofs.Growing.{extends_all, extends_push, extends_born, unborn_push, next}
use Rattle.board_lock.proofs.Views.{at_below, at_pushed, tickets_set, tickets_push, tickets_le}

-- the owners after the ticket t was drawn by the view id
owned : (ℕ → ℕ) → ℕ → ℕ → ℕ → ℕ
owned owner t id n = cond (eqb n t) id (owner n)

owned_here : (owner : ℕ → ℕ) (t id : ℕ) → owned owner t id t ≡ id
unfolding owned
owned_here owner t id = ap (λ b. cond b id (owner t)) (eq-eqb t t refl)

owned_else : (owner : ℕ → ℕ) (t id n : ℕ) → n ≢ t → owned owner t id n ≡ owner n
unfolding owned
owned_else owner t id n other = ap (λ b. cond b id (owner n)) (ne_eqb n t other)

wraps : (a : ℕ) → (a % 18446744073709551616 + 1) % 18446744073709551616 ≡ (a + 1) % 18446744073709551616
wraps a = omega arith

-- each stage is another
idle_apart : (n : ℕ) → Idle ≢ Holds n
idle_apart n e = cc

waits_apart : (m n : ℕ) → Waits m ≢ Holds n
waits_apart m n e = cc

holds_same : (m n : ℕ) → Holds m ≡ Holds n → m ≡ n
holds_same m n e = cc

module _ {F I T : Type 0} (fixed : T → F) (entries : T → List I) (belongs : List I → I → Option ℕ) (f : F) where
  abbrev View : Type 0
  View = Known F I

  abbrev Homes : Type 0
  Homes = List (maybe.Option (Option T))

  abbrev Rule : State (Option T) View → Type 0
  Rule s = Ruled fixed entries belongs f s

  abbrev Fit : ℕ → ℕ → (ℕ → ℕ) → List I → Homes → ℕ → ℕ → View → Type 0
  Fit served drawn owner known homes j count v = Fits served drawn owner known homes j belongs f count v

  abbrev Placed : ℕ → ℕ → List I → List View → Homes → Type 0
  Placed served at known views homes = AtHome fixed entries f known homes ⊎ IsOut served at views homes

  -- what the rule says of a view after its list or its stage came to be told otherwise
  refit : {served drawn served' drawn' count : ℕ} {owner owner' : ℕ → ℕ} {known known' : List I} {homes homes' : Homes} {j : ℕ} {v : View} → Fit served drawn owner known homes j count v
      → Extends belongs j v.seen known' → Stands served' drawn' owner' known' homes' j v.stage v.seen → Fit served' drawn' owner' known' homes' j count v
  refit x list stage = record { seat = x.seat; stock = x.stock; fixed_part = x.fixed_part; list = list; stage = stage }

  -- the rule after one view changed
  moved : (vs : List View) (id : ℕ) (v w : View) (ws : List ℕ) (hs : Homes) (served drawn : ℕ) (owner : ℕ → ℕ) (known : List I) → get_elem? vs id ≡ some v → length vs < 18446744073709551616
      → ws ≡ drawn % 18446744073709551616 ∷ served % 18446744073709551616 ∷ length known % 18446744073709551616 ∷ []
      → (served + tickets vs) + weight w.stage ≡ drawn + weight v.stage → Placed served (owner served) known (set vs id w) hs → Fit served drawn owner known hs id (length vs) w
      → ((j : ℕ) (u : View) → j ≢ id → get_elem? vs j ≡ some u → Fit served drawn owner known hs j (length vs) u) → Unborn belongs (length vs) known → Rule (record { words = ws; homes = hs; views = set vs id w })
  moved vs id v w ws hs served drawn owner known at few words counted place mine others unborn =
      let count : ℕ = length vs in
      let same : length (set vs id w) ≡ count = length-set vs id w in record {
        served = served;
        drawn = drawn;
        owner = owner;
        known = known;
        words = words;
        counted = (let after = tickets_set vs id v w at in omega arith);
        few = (omega arith);
        place = place;
        each = λ j u e. subst (λ (n : ℕ). Fit served drawn owner known hs j n u) (sym same) (⊎_elim
            (λ (x : (j ≡ id) × (w ≡ u)). subst (λ (y : ℕ × View). Fit served drawn owner known hs y.0 count y.1) (λ k. (sym x.0 k, x.1 k)) mine)
            (λ (x : (j ≢ id) × (get_elem? vs j ≡ some u)). others j u x.0 x.1)
            (at_set vs id j w u e));
        unborn = subst (λ (n : ℕ). Unborn belongs n known) (sym same) unborn;
      }

  -- the holder stays where another view changes
  holder : (vs : List View) (id at served : ℕ) (v w : View) (hs : Homes) → get_elem? vs id ≡ some v → v.stage ≢ Holds served → IsOut served at vs hs → IsOut served at (set vs id w) hs
  holder vs id at served v w hs e not out =
      let other : at ≢ id = λ same. not (subst (λ (u : View). u.stage ≡ Holds served) (some-injective _ _ (sym out.1.1 ∙ ap (λ k. get_elem? vs k) same ∙ e)) out.1.2) in
      (out.0, (out.1.0, set_else vs id at w other ∙ out.1.1, out.1.2))

  -- a ticket is out where a view is served
  is_drawn : (served drawn : ℕ) (owner : ℕ → ℕ) (known : List I) (hs : Homes) (j count : ℕ) (v : View) → v.stage ≡ Holds served → Fit served drawn owner known hs j count v → served < drawn
  is_drawn served drawn owner known hs j count v is fits = (subst (λ s. Stands served drawn owner known hs j s v.seen) is fits.stage).2

  -- Draw
  draw_stage : (served drawn : ℕ) (owner : ℕ → ℕ) (known : List I) (hs : Homes) (j id : ℕ) (stage : Stage) (seen : List I) → Stands served drawn owner known hs j stage seen
      → Stands served (drawn + 1) (owned owner drawn id) known hs j stage seen
  draw_stage served drawn owner known hs j id Idle seen x = tt
  draw_stage served drawn owner known hs j id (Waits n) seen x = (owned_else owner drawn id n (λ e. let less = x.2 in omega arith) ∙ x.0, x.1, (let less = x.2 in omega arith))
  draw_stage served drawn owner known hs j id (Holds n) seen x =
      (owned_else owner drawn id n (λ e. let less = x.2 in let is = x.1 in omega arith) ∙ x.0, x.1, (let less = x.2 in omega arith), x.3, x.4)

  pub draws : (slots id : ℕ) (m : Me (Option T) View) → IsAtRest m → Allows Rule slots id m 0 (λ n. (n + 1) % 18446744073709551616) (drew m)
  draws slots id m idle s r deep at small =
      let v : View = m.0 in
      let t : ℕ = r.drawn in
      let w : View = staged v v.seen (Waits t) in
      let owner : ℕ → ℕ = owned r.owner t id in
      let fits = r.each id v at in (
        w,
        keeps,
        tt,
        moved s.views id v w (set s.words 0 ((get_or s.words 0 0 + 1) % 18446744073709551616)) s.homes r.served (t + 1) owner r.known at r.few
            (ap (λ ws. set ws 0 ((get_or ws 0 0 + 1) % 18446744073709551616)) r.words ∙ ap (λ n. n ∷ r.served % 18446744073709551616 ∷ length r.known % 18446744073709551616 ∷ []) (wraps t))
            (let c = r.counted in let z = ap weight idle.0 in omega arith)
            (⊎_elim (λ x. inl x) (λ x.
            let less = is_drawn r.served t r.owner r.known s.homes (r.owner r.served) (length s.views) x.1.0 x.1.2 (r.each _ _ x.1.1) in
            let stays : owner r.served ≡ r.owner r.served = owned_else r.owner t id r.served (λ e. omega arith) in
            inr (subst (λ k. IsOut r.served k (set s.views id w) s.homes) (sym stays) (holder s.views id (r.owner r.served) r.served v w s.homes at (λ e. idle_apart r.served (sym idle.0 ∙ e)) x))) r.place)
            (record { seat = fits.seat; stock = fits.stock; fixed_part = fits.fixed_part; list = fits.list; stage = (owned_here r.owner t id, (let c = r.counted in omega arith), omega arith) })
            (λ j u n e. let x = r.each j u e in refit x x.list (draw_stage r.served t r.owner r.known s.homes j id u.stage u.seen x.stage))
            r.unborn,
        (t, ap (λ ws. get_or ws 0 0) r.words, λ k. (w, idle.1 k)),
      )

  -- Look
  -- a view that isn't served waits, whatever the slot and the entries are
  others_wait : (served drawn : ℕ) (owner : ℕ → ℕ) (known known' : List I) (homes homes' : Homes) (j : ℕ) (stage : Stage) (seen : List I) → j ≢ owner served → Stands served drawn owner known homes j stage seen
      → Stands served drawn owner known' homes' j stage seen
  others_wait served drawn owner known known' homes homes' j Idle seen not x = tt
  others_wait served drawn owner known known' homes homes' j (Waits n) seen not x = x
  others_wait served drawn owner known known' homes homes' j (Holds n) seen not x = absurd (not (sym x.0 ∙ ap owner x.1))

  covers : (count j : ℕ) → count < 18446744073709551616 → count ≤ stock_of count j
  covers count zero few = omega arith
  covers count (suc j) few = omega arith

  waits_same : (m n : ℕ) → Waits m ≡ Waits n → m ≡ n
  waits_same m n e = cc

  -- the tickets that are out are fewer than 2^64
  in_one_turn : (s : State (Option T) View) (r : Rule s) → r.drawn < r.served + 18446744073709551616
  in_one_turn s r = let c = r.counted in let few = r.few in let le = tickets_le s.views in omega arith

  -- the value at home extends what a view has seen
  resumes : {served drawn : ℕ} {owner : ℕ → ℕ} {known : List I} {homes : Homes} {j count : ℕ} (v : View) (x : T)
      → Fit served drawn owner known homes j count v → fixed x ≡ f → entries x ≡ known → count < 18446744073709551616 → Unborn belongs count known → Resumes fixed entries belongs v x
  resumes {j = j} {count = count} v x fits part all few unborn = record {
    fixed_part = part ∙ sym fits.fixed_part;
    seen_first = subst (λ (y : ℕ × List I). Extends belongs y.0 v.seen y.1) (λ k. (sym fits.seat k, sym all k)) fits.list;
    stock_free = λ k le. subst (λ l. Foreign belongs k [] l) (sym all) (unborn k (let c = covers count j few in let is = fits.stock in omega arith));
  }

  -- the rule where a step changes nothing
  unchanged : (s : State (Option T) View) (i id : ℕ) (v : View) → get_elem? s.views id ≡ some v → Rule s → Rule (record { words = set s.words i (get_or s.words i 0); homes = s.homes; views = set s.views id v })
  unchanged s i id v at r = subst Rule (λ k. record { words = sym (set-get_or s.words i 0) k; homes = s.homes; views = sym (set_again s.views id v at) k }) r

  pub looks : (slots id : ℕ) (m : Me (Option T) View) (t : ℕ) → m.0.stage ≡ Waits t → m.1 ≡ [] → Allows Rule slots id m 1 (λ n. n) (looked fixed entries belongs m)
  looks slots id m t waits empty s r deep at small = dite (ℕ_discrete (get_or s.words 1 0) (t % 18446744073709551616)) hit miss
    where
      v : View
      v = m.0

      fits : Fit r.served r.drawn r.owner r.known s.homes id (length s.views) v
      fits = r.each id v at

      waiting : (r.owner t ≡ id) × (r.served ≤ t) × (t < r.drawn)
      waiting = subst (λ stage. Stands r.served r.drawn r.owner r.known s.homes id stage v.seen) waits fits.stage

      Found : Me (Option T) View → ℕ → Type 0
      Found m' t = (get_or s.words 1 0 ≡ t % 18446744073709551616 → (x : T) × Resumes fixed entries belongs v x × (m' ≡ (staged v (entries x) (Holds t), (0, Some x) ∷ [])))
          × (get_or s.words 1 0 ≢ t % 18446744073709551616 → m' ≡ m)

      told : (m' : Me (Option T) View) → Found m' t → looked fixed entries belongs m (get_or s.words 1 0) m'
      told m' found t' waits' = subst (Found m') (waits_same t t' (sym waits ∙ waits')) found

      Goal : Type 0
      Goal = (w : View) × (a : Act (Option T)) × Valid s.homes m.1 a × Rule (stepped s 1 (get_or s.words 1 0) id m.1 w a) × looked fixed entries belongs m (get_or s.words 1 0) (w, carried_after m.1 a)

      miss : get_or s.words 1 0 ≢ t % 18446744073709551616 → Goal
      miss other = (v, keeps, tt, unchanged s 1 id v at r, told m ((λ e. absurd (other e)), λ _. refl))

      hit : get_or s.words 1 0 ≡ t % 18446744073709551616 → Goal
      hit own = ⊎_elim at_home (λ out. absurd (waits_apart t r.served (sym waits ∙ subst (λ (u : View). u.stage ≡ Holds r.served) (some-injective _ _ (sym out.1.1 ∙ ap (λ k. get_elem? s.views k) mine ∙ at)) out.1.2))) r.place
        where
          is : r.served ≡ t
          is = one_turn r.served t 18446744073709551616 waiting.1 (let less = in_one_turn s r in let lt = waiting.2 in omega arith) (sym (ap (λ ws. get_or ws 1 0) r.words) ∙ own)

          mine : r.owner r.served ≡ id
          mine = ap r.owner is ∙ waiting.0

          at_home : AtHome fixed entries f r.known s.homes → Goal
          at_home home =
              let x : T = home.0 in
              let w : View = staged v (entries x) (Holds t) in
              let out : set s.homes 0 none ≡ none ∷ [] = ap (λ hs. set hs 0 none) home.1 in (
                w,
                takes 0 (Some x),
                ap (λ hs. get_elem? hs 0) home.1,
                moved s.views id v w (set s.words 1 (get_or s.words 1 0)) (set s.homes 0 none) r.served r.drawn r.owner r.known at r.few
                    (set-get_or s.words 1 0 ∙ r.words)
                    (let c = r.counted in let z = ap weight waits in omega arith)
                    (inr (out, (w, ap (λ k. get_elem? (set s.views id w) k) mine ∙ set_here s.views id w (at_below s.views id v at), ap (λ n. Holds n) (sym is))))
                    (record {
                      seat = fits.seat;
                      stock = fits.stock;
                      fixed_part = fits.fixed_part;
                      list = subst (λ l. Extends belongs id l r.known) (sym home.3) (extends_all belongs id r.known);
                      stage = (waiting.0, sym is, (let lt = waiting.2 in let e = is in omega arith), out, sym home.3);
                    })
                    (λ j u n e. let y = r.each j u e in refit y y.list (others_wait r.served r.drawn r.owner r.known r.known s.homes (set s.homes 0 none) j u.stage u.seen (λ z. n (z ∙ mine)) y.stage))
                    r.unborn,
                told (w, (0, Some x) ∷ m.1) ((λ _. (x, resumes v x fits home.2 home.3 r.few r.unborn, λ k. (w, (0, Some x) ∷ empty k))), λ other. absurd (other own)),
              )

  -- Add
  -- the owner of a ticket that is held
  holding : (served drawn : ℕ) (owner : ℕ → ℕ) (known : List I) (homes : Homes) (j count t : ℕ) (v : View) → v.stage ≡ Holds t → Fit served drawn owner known homes j count v
      → (owner t ≡ j) × (t ≡ served) × (served < drawn) × (homes ≡ none ∷ []) × (known ≡ v.seen)
  holding served drawn owner known homes j count t v holds fits = subst (λ stage. Stands served drawn owner known homes j stage v.seen) holds fits.stage

  pub adds : (slots id : ℕ) (m : Me (Option T) View) (t : ℕ) (log : List I) → m.0.stage ≡ Holds t → Appends belongs m.0.seat m.0.seen log → length m.0.seen < length log
      → Allows Rule slots id m 2 (λ n. (n + 1) % 18446744073709551616) (λ n m'. OneMore log m m')
  adds slots id m t log holds appends less s r deep at small =
      let v : View = m.0 in
      let fits = r.each id v at in
      let held = holding r.served r.drawn r.owner r.known s.homes id (length s.views) t v holds fits in
      let one = next belongs v.seat v.seen log appends less in
      let e : I = one.0 in
      let known : List I = r.known ++ e ∷ [] in
      let seen : List I = v.seen ++ e ∷ [] in
      let w : View = staged v seen v.stage in
      let mine : r.owner r.served ≡ id = ap r.owner (sym held.1) ∙ held.0 in
      let foreign : (k : ℕ) → k ≢ id → belongs r.known e ≢ Some k = λ k n. subst (λ l. belongs l e ≢ Some k) (sym held.4) (one.3 k (λ z. n (z ∙ fits.seat))) in
      let longer : known ≡ seen = ap (λ l. l ++ e ∷ []) held.4 in (
        w,
        keeps,
        tt,
        moved s.views id v w (set s.words 2 ((get_or s.words 2 0 + 1) % 18446744073709551616)) s.homes r.served r.drawn r.owner known at r.few
            (ap (λ ws. set ws 2 ((get_or ws 2 0 + 1) % 18446744073709551616)) r.words
            ∙ ap (λ n. r.drawn % 18446744073709551616 ∷ r.served % 18446744073709551616 ∷ n ∷ []) (wraps (length r.known) ∙ ap (λ n. n % 18446744073709551616) (sym (length-append r.known (e ∷ [])))))
            (let c = r.counted in omega arith)
            (inr (held.3, (w, ap (λ k. get_elem? (set s.views id w) k) mine ∙ set_here s.views id w (at_below s.views id v at), holds ∙ ap (λ n. Holds n) held.1)))
            (record {
              seat = fits.seat;
              stock = fits.stock;
              fixed_part = fits.fixed_part;
              list = subst (λ l. Extends belongs id l known) longer (extends_all belongs id known);
              stage = subst (λ stage. Stands r.served r.drawn r.owner known s.homes id stage seen) (sym holds) (held.0, held.1, held.2, held.3, longer);
            })
            (λ j u n at'. let y = r.each j u at' in refit y (extends_push belongs j u.seen r.known e y.list (foreign j n)) (others_wait r.served r.drawn r.owner r.known known s.homes s.homes j u.stage u.seen (λ z. n (z ∙ mine)) y.stage))
            (unborn_push belongs (length s.views) r.known e r.unborn (λ k le. foreign k (λ z. let below = at_below s.views id v at in omega arith))),
        (e, one.1, one.2, refl),
      )

  -- Pass on
  -- who waits while another is served is served after it
  pass_stage : (served drawn : ℕ) (owner : ℕ → ℕ) (known : List I) (homes homes' : Homes) (j : ℕ) (stage : Stage) (seen : List I) → j ≢ owner served → Stands served drawn owner known homes j stage seen
      → Stands (served + 1) drawn owner known homes' j stage seen
  pass_stage served drawn owner known homes homes' j Idle seen not x = tt
  pass_stage served drawn owner known homes homes' j (Waits n) seen not x =
      (x.0, (let le = x.1 in let other : n ≢ served = λ e. not (sym x.0 ∙ ap owner e) in omega arith), x.2)
  pass_stage served drawn owner known homes homes' j (Holds n) seen not x = absurd (not (sym x.0 ∙ ap owner x.1))

  pub passes : (slots id : ℕ) (m : Me (Option T) View) (t : ℕ) (x : T) → m.0.stage ≡ Holds t → m.1 ≡ (0, Some x) ∷ [] → fixed x ≡ m.0.fixed → entries x ≡ m.0.seen
      → Allows Rule slots id m 1 (λ n. (n + 1) % 18446744073709551616) (λ n m'. passed m m')
  passes slots id m t x holds full part all s r deep at small =
      let v : View = m.0 in
      let fits = r.each id v at in
      let held = holding r.served r.drawn r.owner r.known s.homes id (length s.views) t v holds fits in
      let w : View = staged v v.seen Idle in
      let mine : r.owner r.served ≡ id = ap r.owner (sym held.1) ∙ held.0 in
      let home : put_back s.homes m.1 ≡ some (Some x) ∷ [] = λ k. put_back (held.3 k) (full k) in (
        w,
        gives,
        tt,
        moved s.views id v w (set s.words 1 ((get_or s.words 1 0 + 1) % 18446744073709551616)) (put_back s.homes m.1) (r.served + 1) r.drawn r.owner r.known at r.few
            (ap (λ ws. set ws 1 ((get_or ws 1 0 + 1) % 18446744073709551616)) r.words ∙ ap (λ n. r.drawn % 18446744073709551616 ∷ n ∷ length r.known % 18446744073709551616 ∷ []) (wraps r.served))
            (let c = r.counted in let z = ap weight holds in omega arith)
            (inl (x, home, part ∙ fits.fixed_part, all ∙ sym held.4))
            (record { seat = fits.seat; stock = fits.stock; fixed_part = fits.fixed_part; list = fits.list; stage = tt })
            (λ j u n e. let y = r.each j u e in refit y y.list (pass_stage r.served r.drawn r.owner r.known s.homes (put_back s.homes m.1) j u.stage u.seen (λ z. n (z ∙ mine)) y.stage))
            r.unborn,
        λ k. (w, rest (full k)),
      )

  -- Split
  -- only the first view has a seat number to give: the number of views
  gives_count : (served drawn : ℕ) (owner : ℕ → ℕ) (known : List I) (homes : Homes) (j count : ℕ) (v : View) → Fit served drawn owner known homes j count v → v.stock < 18446744073709551615 → (j ≡ 0) × (v.stock ≡ count)
  gives_count served drawn owner known homes zero count v fits some_left = (refl, fits.stock)
  gives_count served drawn owner known homes (suc j) count v fits some_left = let none_left = fits.stock in absurd (omega arith)

  -- what the rule says of a view that isn't the first, where one more comes
  recount : {served drawn : ℕ} {owner : ℕ → ℕ} {known : List I} {homes : Homes} {j count : ℕ} {v : View} → j ≢ 0 → Fit served drawn owner known homes j count v → Fit served drawn owner known homes j (count + 1) v
  recount {j = zero} not x = absurd (not refl)
  recount {j = suc j} not x = record { seat = x.seat; stock = x.stock; fixed_part = x.fixed_part; list = x.list; stage = x.stage }

  full_stock : (count j : ℕ) → j ≢ 0 → 18446744073709551615 ≡ stock_of count j
  full_stock count zero not = absurd (not refl)
  full_stock count (suc j) not = refl

  pub splits : (id : ℕ) (v : View) → v.stage ≡ Idle → v.stock < 18446744073709551615 → Splits Rule id v (giver v) (given v)
  splits id v idle some_left s r at =
      let count : ℕ = length s.views in
      let fits = r.each id v at in
      let first = gives_count r.served r.drawn r.owner r.known s.homes id count v fits some_left in
      let below = at_below s.views id v at in
      let one : List View = set s.views id (giver v) in
      let same : length one ≡ count = length-set s.views id (giver v) in
      let longer : length (one ++ given v ∷ []) ≡ count + 1 = length-append one (given v ∷ []) ∙ ap (λ n. n + 1) same in
      let left : Fit r.served r.drawn r.owner r.known s.homes id (count + 1) (giver v) =
      record { seat = fits.seat; stock = ap (λ n. n + 1) first.1 ∙ ap (stock_of (count + 1)) (sym first.0); fixed_part = fits.fixed_part; list = fits.list; stage = fits.stage } in
      let right : Fit r.served r.drawn r.owner r.known s.homes count (count + 1) (given v) =
      record { seat = first.1; stock = full_stock (count + 1) count (λ e. omega arith); fixed_part = fits.fixed_part; list = extends_born belongs count id v.seen r.known (r.unborn count (omega arith)) fits.list; stage = tt } in
      record {
        served = r.served;
        drawn = r.drawn;
        owner = r.owner;
        known = r.known;
        words = r.words;
        counted = (let a = tickets_set s.views id v (giver v) at in let b = tickets_push one (given v) in let c = r.counted in omega arith);
        few = (let c = first.1 in omega arith);
        place = ⊎_elim (λ x. inl x) (λ x. let y = holder s.views id (r.owner r.served) r.served v (giver v) s.homes at (λ e. idle_apart r.served (sym idle ∙ e)) x in
            inr (y.0, (y.1.0, at_longer one (given v ∷ []) (r.owner r.served) y.1.0 y.1.1, y.1.2))) r.place;
        each = λ j u e. subst (λ (n : ℕ). Fit r.served r.drawn r.owner r.known s.homes j n u) (sym longer) (⊎_elim
            (λ (old : get_elem? one j ≡ some u). ⊎_elim
            (λ (x : (j ≡ id) × (giver v ≡ u)). subst (λ (y : ℕ × View). Fit r.served r.drawn r.owner r.known s.homes y.0 (count + 1) y.1) (λ k. (sym x.0 k, x.1 k)) left)
            (λ (x : (j ≢ id) × (get_elem? s.views j ≡ some u)). recount (λ z. x.0 (z ∙ sym first.0)) (r.each j u x.1))
            (at_set s.views id j (giver v) u old))
            (λ (new : (j ≡ length one) × (given v ≡ u)). subst (λ (y : ℕ × View). Fit r.served r.drawn r.owner r.known s.homes y.0 (count + 1) y.1) (λ k. (sym (new.0 ∙ same) k, new.1 k)) right)
            (at_pushed one (given v) u j e));
        unborn = λ k le. r.unborn k (omega arith);
      }

  -- a new table
  pub starts : (x : T) (n : ℕ) → fixed x ≡ f → n ≡ length (entries x) → n < 18446744073709551616 → ((k : ℕ) → k ≢ 0 → Foreign belongs k [] (entries x))
      → Rule (opening (0 ∷ 0 ∷ n ∷ []) (Some x ∷ []) (starting f (entries x)))
  starts x n part is small foreign = record {
    served = 0;
    drawn = 0;
    owner = λ _. 0;
    known = entries x;
    words = ap (λ c. 0 ∷ 0 ∷ c ∷ []) (sym (mod-eq_of_lt small) ∙ ap (λ c. c % 18446744073709551616) is);
    counted = refl;
    few = lit< tt;
    place = inl (x, refl, part, refl);
    each = one;
    unborn = λ k le. foreign k (λ e. omega arith);
  }
    where
      one : (j : ℕ) (v : View) → get_elem? (starting f (entries x) ∷ []) j ≡ some v → Fit 0 0 (λ _. 0) (entries x) (some (Some x) ∷ []) j 1 v
      one zero v e = subst (λ (u : View). Fit 0 0 (λ _. 0) (entries x) (some (Some x) ∷ []) 0 1 u) (some-injective _ _ e)
          (record { seat = refl; stock = refl; fixed_part = refl; list = extends_all belongs 0 (entries x); stage = tt })
      one (suc j) v e = absurd (some-ne-none v (sym e))

  -- Close
  -- where as many tickets were served as were drawn, the value is at home
  at_rest : (s : State (Option T) View) (r : Rule s) → r.served ≡ r.drawn → AtHome fixed entries f r.known s.homes
  at_rest s r all = ⊎_elim (λ x. x) (λ x. let less = is_drawn r.served r.drawn r.owner r.known s.homes (r.owner r.served) (length s.views) x.1.0 x.1.2 (r.each _ _ x.1.1) in absurd (omega arith)) r.place

  -- the words at the end tell whether all tickets were served, and then the slot has a value that extends the pass
  pub ends : (id : ℕ) (v : View) (ws : List ℕ) (xs : List (Option T)) → Final (Seen Rule id v) ws xs → get_or ws 0 0 ≡ get_or ws 1 0
      → (x : T) × (get_elem? xs 0 ≡ some (Some x)) × Resumes fixed entries belongs v x
  ends id v ws xs (s, seen, is, deep, values) equal =
      let r = seen.0 in
      let same : r.drawn % 18446744073709551616 ≡ r.served % 18446744073709551616 = ap (λ us. get_or us 0 0) (sym r.words ∙ is) ∙ (equal ∙ ap (λ us. get_or us 1 0) (sym is ∙ r.words)) in
      let all : r.served ≡ r.drawn = one_turn r.served r.drawn 18446744073709551616 (let c = r.counted in omega arith) (in_one_turn s r) (sym same) in
      let home = at_rest s r all in
      (home.0, values 0 (Some home.0) (ap (λ hs. get_elem? hs 0) home.1), resumes v home.0 (r.each id v seen.1) home.2 home.3 r.few r.unborn)

  -- a lock that was never split and is in no turn has served all tickets
  pub ends_alone : (id : ℕ) (v : View) (ws : List ℕ) (xs : List (Option T)) → Final (Seen Rule id v) ws xs → v.stage ≡ Idle → v.seat ≡ 0 → v.stock ≡ 1 → get_or ws 0 0 ≡ get_or ws 1 0
  ends_alone id v ws xs (s, seen, is, deep, values) idle first whole =
      let r = seen.0 in
      let fits = r.each id v seen.1 in
      let one : length s.views ≡ 1 = sym (ap (stock_of (length s.views)) (sym fits.seat ∙ first)) ∙ (sym fits.stock ∙ whole) in
      let none_out : tickets s.views ≡ 0 = alone s.views id v one seen.1 idle in
      let all : r.drawn ≡ r.served = (let c = r.counted in omega arith) in
      ap (λ us. get_or us 0 0) (sym is ∙ r.words) ∙ (ap (λ n. n % 18446744073709551616) all ∙ ap (λ us. get_or us 1 0) (sym r.words ∙ is))
    where
      alone : (vs : List View) (id : ℕ) (v : View) → length vs ≡ 1 → get_elem? vs id ≡ some v → v.stage ≡ Idle → tickets vs ≡ 0
      alone [] id v one e idle = absurd (some-ne-none v (sym e))
      alone (u ∷ []) zero v one e idle = ap (λ (y : View). weight y.stage + 0) (some-injective u v e) ∙ ap (λ stage. weight stage + 0) idle
      alone (u ∷ []) (suc id) v one e idle = absurd (some-ne-none v (sym e))
      alone (u ∷ w ∷ vs) id v one e idle = absurd (omega arith)
