-- Which tracks are at home.
use Rattle.std.proofs.Common.{◌≡◌, suc, Bool, true, false, not, ◌&&◌, if◌then◌else◌, List, [], ◌∷◌, Some, None, is_none, refl, ap, ap₂, ◌∙◌, arith}
use Rattle.speculation.specs.declared.tracks.Name.{Name}
use Rattle.speculation.specs.declared.tracks.OpenLoan.{OpenLoan}
use Rattle.speculation.specs.Core.{Core, Track, name_eq, is_lent, is_named, at_home, find_loan}
use Rattle.speculation_law.specs.Naming.{Distinct, IsLive, Named}
use Rattle.speculation_law.proofs.Names.{FoundTrack, Original, Lead, find_track-found, name_eq-true}
use Rattle.speculation_law.proofs.LiveTracks.{number-high}
use Rattle.speculation_law.proofs.Options.{is_none-none}

-- a name that is lent has a loan that was not dropped
pub record LentLoan (n : Name) (ls : List OpenLoan) : Type 0 where
  pub loan : OpenLoan
  pub found : find_loan n ls ≡ Some loan
  pub live : loan.dropped ≡ None

lent-by : (n : Name) (l : OpenLoan) (ls : List OpenLoan) (t u : Bool) → name_eq n l.name ≡ t → is_none l.dropped ≡ u → find_loan l.name ls ≡ None
    → (is_lent n ls ≡ true → LentLoan n ls) → (if t && u then true else is_lent n ls) ≡ true → LentLoan n (l ∷ ls)
lent-by n l ls true true same live none rest h = record { loan = l; found = ap (λ (t : Bool). if t then Some l else find_loan n ls) same; live = is_none-none l.dropped live }
lent-by n l ls true false same dropped none rest h =
    let r = rest h in
    absurd (let other : find_loan n ls ≡ None = ap (λ (x : Name). find_loan x ls) (name_eq-true n l.name same) ∙ none in let found = r.found in cc)
lent-by n l ls false u other live none rest h = (let r = rest h in record { loan = r.loan; found = ap (λ (t : Bool). if t then Some l else find_loan n ls) other ∙ r.found; live = r.live })

pub lent-loan : (n : Name) (ls : List OpenLoan) → Distinct ls → is_lent n ls ≡ true → LentLoan n ls
lent-loan n [] d h = absurd (cc)
lent-loan n (l ∷ ls) d h = lent-by n l ls (name_eq n l.name) (is_none l.dropped) refl refl d.0 (lent-loan n ls d.1) h

module _ {S E D : Type 0} (c : Core S E D) (named : Named c) where
  unlent-by : (n : Name) (t : Bool) → is_lent n c.loans ≡ t → (IsLive c n → ⊥) → t ≡ false
  unlent-by n true is none = absurd (let l = lent-loan n c.loans named.distinct is in none (named.live n l.loan l.found l.live))
  unlent-by n false is none = refl

  -- a name of no live track is not lent
  pub unlent : (n : Name) → (IsLive c n → ⊥) → is_lent n c.loans ≡ false
  unlent n none = unlent-by n (is_lent n c.loans) refl none

  -- and where no track is lost, a track that gets it is at home
  pub new-home : (n : Name) → c.lost ≡ [] → (IsLive c n → ⊥) → at_home c n ≡ true
  new-home n lost none = ap₂ (λ (t : Bool) (ns : List Name). not t && not (is_named n ns)) (unlent n none) lost

  -- no live track has a region number above the last
  beyond-by : (n : Name) (t : Track S) → FoundTrack c n t → n.region ≡ suc c.last → ⊥
  beyond-by n t (Original generation normal found) is = (let low = number-high n.region 0 c.last c.regions t named.rising found in omega arith)
  beyond-by n t (Lead normal same lead) is = (let here : n.region ≡ c.last = ap (λ (x : Name). x.region) same in omega arith)

  pub beyond-last : (n : Name) → n.region ≡ suc c.last → IsLive c n → ⊥
  beyond-last n is live = beyond-by n live.0 (find_track-found c n live.0 live.1) is
