-- What holds of the core of every legal history.
use Rattle.std.specs.Prelude.{◌≡◌, ℕ, ◌+◌, ◌-◌, ◌<◌, ◌≤◌, min, Bool, true, false, ◌&&◌, List, [], ◌∷◌, ◌++◌, Some, None, length, is_none}
use Rattle.speculation.specs.declared.tracks.Kind.TheVariants.{Fast}
use Rattle.speculation.specs.declared.tracks.Name.{Name}
use Rattle.speculation.specs.declared.tracks.OpenLoan.{OpenLoan}
use Rattle.speculation.specs.declared.history.Settings.{Settings}
use Rattle.speculation.specs.Machine.{Machine}
use Rattle.speculation.specs.Run.{Piece, marks_upto, fresh, go, out, taken}
use Rattle.speculation.specs.Ledger.{ledger, ledger_from}
use Rattle.speculation.specs.Core.{Core, Finished, over, front, front_home, lead_name, is_lent, name_eq}
use Rattle.speculation_law.specs.Facts.{NoStop, Chain}

-- the numbers of these pieces are above `low` and at most `high`
abbrev pub Numbered : ℕ → ℕ → List Piece → Type 0
Numbered low high [] = Unit {0}
Numbered low high (p ∷ ps) = (low < p.number) × (p.number ≤ high) × Numbered low high ps

abbrev pub one_if : Bool → ℕ
one_if true = 1
one_if false = 0

-- how many loans of this name were not dropped
abbrev pub count_lent : Name → List OpenLoan → ℕ
count_lent n [] = 0
count_lent n (l ∷ ls) = one_if (name_eq n l.name && is_none l.dropped) + count_lent n ls

-- what holds once the core has a finish
pub record Final {S E D : Type 0} (m : Machine S E D) (b : Settings) (start : S) (c : Core S E D) (f : Finished E) : Type 0 where
  pub end : f.end ≡ (go m (fresh start) b.budget).end
  pub count : f.count ≡ taken m (fresh start) b.budget
  pub output : c.released ++ (c.ready ++ marks_upto (b.budget - c.base) (front c).held) ≡ out m (fresh start) b.budget
  -- a front that is away holds nothing that is verified
  pub nothing : front_home c ≡ false → marks_upto (b.budget - c.base) (front c).held ≡ []
  pub rows : c.rows ≡ ledger m start b.budget

-- the facts that carry the law
pub record Good {S E D : Type 0} (m : Machine S E D) (b : Settings) (start : S) (c : Core S E D) : Type 0 where
  -- the program comes to the base without an end
  pub truth : (go m (fresh start) c.base).end ≡ None
  pub chain : Chain m (go m (fresh start) c.base).state c.regions c.lead
  -- released, ready and the front's pieces within the budget are the output up to where the front stands
  pub output : c.released ++ (c.ready ++ marks_upto (b.budget - c.base) (front c).held) ≡ out m (fresh start) (min b.budget (c.base + (front c).own))
  pub numbered : Numbered 0 (front c).own (front c).held
  -- the rows so far, and those from the base on, are the ledger
  pub rows : ledger m start b.budget ≡ c.rows ++ ledger_from m (b.budget - c.base) (go m (fresh start) c.base).state (length c.rows) c.base
  -- a fast lead that is lent had met nothing
  pub waiting : c.lead.kind ≡ Fast → is_lent (lead_name c) c.loans ≡ true → NoStop m Fast c.lead.start c.lead.own
  pub once : (n : Name) → count_lent n c.loans ≤ 1
  pub lost : over c ≡ false → c.lost ≡ []
  pub final : (f : Finished E) → c.finish ≡ Some f → Final m b start c f
