-- The loans of several seats while one of them acts.
use Rattle.std.proofs.Common.{◌≡◌, ◌≢◌, ◌⊎◌, inl, inr, ℕ, zero, suc, ◌+◌, List, [], ◌∷◌, ◌++◌, Option, Some, None, length, slice_get, slice_set, refl, sym, ap, subst, arith}
use Rattle.std.proofs.lemmas.Option.{same_Some, slice_get_within}
use Rattle.track_state.specs.Views.{view_of}
use Rattle.speculation.specs.Core.{most_slice}
use Rattle.track_state.specs.Runs.{RunsOver, RanOn, run_length}
use Rattle.track_board.specs.declared.loan.Loan.{Loan}
use Rattle.track_board.specs.declared.loan.Back.{Back}
use Rattle.track_board.specs.Value.{Posted, IsKnown, posted}
use Rattle.track_board.specs.Loans.{LendIs, IsReturned}
use Rattle.speculation.specs.declared.history.Entry.TheVariants as E
use Rattle.track_board.specs.Others.{OthersAct, MayComeHome, AllMayComeHome}
use Rattle.track_board.proofs.Others.{home-stays, lent-out, run-home, others-none, others-lend, others-back, others-gone}

get-cleared : {X : Type 0} (xs : List (Option X)) (p q : ℕ) (x : X) → slice_get (slice_set xs p None) q ≡ Some (Some x) → (slice_get xs q ≡ Some (Some x)) × (q ≢ p)
get-cleared [] p q x h = absurd (cc)
get-cleared (y ∷ xs) zero zero x h = absurd (cc)
get-cleared (y ∷ xs) zero (suc q) x h = (h, λ same. omega (arith, same))
get-cleared (y ∷ xs) (suc p) zero x h = (h, λ same. omega (arith, same))
get-cleared (y ∷ xs) (suc p) (suc q) x h = (let rest = get-cleared xs p q x h in (rest.0, λ same. rest.1 (omega (arith, same))))

get-pushed : {X : Type 0} (xs : List X) (y z : X) (q : ℕ) → slice_get (xs ++ (y ∷ [])) q ≡ Some z → (slice_get xs q ≡ Some z) ⊎ ((q ≡ length xs) × (y ≡ z))
get-pushed [] y z zero h = inr (refl, same_Some y z h)
get-pushed [] y z (suc q) h = absurd (cc)
get-pushed (x ∷ xs) y z zero h = inl h
get-pushed (x ∷ xs) y z (suc q) h = pushed-behind x xs y z q (get-pushed xs y z q h)
  where
    pushed-behind : {X : Type 0} (x : X) (xs : List X) (y z : X) (q : ℕ) → (slice_get xs q ≡ Some z) ⊎ ((q ≡ length xs) × (y ≡ z))
        → (slice_get (x ∷ xs) (suc q) ≡ Some z) ⊎ ((suc q ≡ length (x ∷ xs)) × (y ≡ z))
    pushed-behind x xs y z q (inl h) = inl h
    pushed-behind x xs y z q (inr h) = inr (ap suc h.0, h.1)

module _ (v w : Posted) (known : IsKnown v) (after : IsKnown w) (xs : List (Option Loan)) (all : AllMayComeHome v xs) where
  -- only a seat beyond them acted
  pub all-stay : (seat : ℕ) → seat ≡ length xs + 1 → ((other : ℕ) → seat ≢ other → OthersAct other v w) → AllMayComeHome w xs
  all-stay seat is others place loan at =
      let inside = slice_get_within xs place (Some loan) at in
      home-stays v w (suc place) loan known after (others (suc place) (λ same. omega (arith, is, inside, same))) (all place loan at)

  -- no seat acted
  pub all-wait : ((seat : ℕ) → OthersAct (suc seat) v w) → AllMayComeHome w xs
  all-wait others place loan at = home-stays v w (suc place) loan known after (others place) (all place loan at)

  all-pushed_by : (seat : ℕ) (loan : Loan) → seat ≡ length xs + 1 → ((other : ℕ) → seat ≢ other → OthersAct other v w) → MayComeHome w seat loan
      → (place : ℕ) (other : Loan) → (slice_get xs place ≡ Some (Some other)) ⊎ ((place ≡ length xs) × (Some loan ≡ Some other)) → MayComeHome w (suc place) other
  all-pushed_by seat loan is others home place other (inl at) = all-stay seat is others place other at
  all-pushed_by seat loan is others home place other (inr at) =
      let here : seat ≡ suc place = omega (arith, is, at.0) in
      subst (λ (l : Loan). MayComeHome w (suc place) l) (same_Some loan other at.1) (subst (λ k. MayComeHome w k loan) here home)

  -- the seat beyond them has a loan now
  pub all-pushed : (seat : ℕ) (loan : Loan) (ys : List (Option Loan)) → seat ≡ length xs + 1 → ((other : ℕ) → seat ≢ other → OthersAct other v w) → MayComeHome w seat loan
      → ys ≡ xs ++ (Some loan ∷ []) → AllMayComeHome w ys
  all-pushed seat loan ys is others home items =
      subst (λ (zs : List (Option Loan)). AllMayComeHome w zs) (sym items)
      (λ place other at. all-pushed_by seat loan is others home place other (get-pushed xs (Some loan) (Some other) place at))

  -- the loan at this place has ended
  all-ended : (place : ℕ) (ys : List (Option Loan)) → ys ≡ slice_set xs place None → ((other : ℕ) → suc place ≢ suc other → OthersAct (suc other) v w) → AllMayComeHome w ys
  all-ended place ys items others =
      subst (λ (zs : List (Option Loan)). AllMayComeHome w zs) (sym items)
      (λ other loan at. (let left = get-cleared xs place other loan at in
      home-stays v w (suc other) loan known after (others other (λ same. left.1 (omega (arith, same)))) (all other loan left.0)))

  module _ (place : ℕ) (loan : Loan) (ys : List (Option Loan)) (at : slice_get xs place ≡ Some (Some loan)) (items : ys ≡ slice_set xs place None) where
    -- it came home
    pub all-home : (result : Back) → IsReturned v w loan.name result → AllMayComeHome w ys
    all-home result h = all-ended place ys items (λ other differ. others-back (suc other) (suc place) v w loan.name result known differ (all place loan at).lent h)

    -- it was given up
    pub all-given_up : w ≡ posted v (E.Gone loan.name) → AllMayComeHome w ys
    all-given_up h = all-ended place ys items (λ other differ. others-gone (suc other) (suc place) v w loan.name known differ (all place loan at).lent h)

-- where nothing happened but that a loan was taken out
pub all-cleared : (v : Posted) (xs ys : List (Option Loan)) (place : ℕ) → AllMayComeHome v xs → ys ≡ slice_set xs place None → AllMayComeHome v ys
all-cleared v xs ys place all items =
    subst (λ (zs : List (Option Loan)). AllMayComeHome v zs) (sym items) (λ other loan at. all other loan (get-cleared xs place other loan at).0)

-- the same loans in another vector
pub all-same : (v : Posted) (xs ys : List (Option Loan)) → AllMayComeHome v xs → ys ≡ xs → AllMayComeHome v ys
all-same v xs ys all items = subst (λ (zs : List (Option Loan)). AllMayComeHome v zs) (sym items) all

-- ---- lending

-- what went out runs over the board's input
pub lent-runs : (v w : Posted) (seat : ℕ) (loan : Loan) → LendIs v w seat (Some loan) → RunsOver loan.input (view_of loan.track)
lent-runs v w seat loan h = (lent-out v w seat loan h.0).runs

pub others-lent : (v w : Posted) (seat : ℕ) (o : Option Loan) → LendIs v w seat o → (other : ℕ) → seat ≢ other → OthersAct other v w
others-lent v w seat None h other differ = others-none other v w h.0
others-lent v w seat (Some loan) h other differ = others-lend other seat v w loan differ h.0

-- what was lent and run by one slice may come home
pub lent-home : (v w : Posted) (seat : ℕ) (loan ran : Loan) (n : ℕ) → LendIs v w seat (Some loan) → ran.name ≡ loan.name → n ≡ run_length loan.input (view_of loan.track) most_slice
    → RanOn loan.input (view_of loan.track) (view_of ran.track) n → MayComeHome w seat ran
lent-home v w seat loan ran n h name count run = run-home w seat loan ran n (lent-out v w seat loan h.0) name count run
