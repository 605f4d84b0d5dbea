-- The fields of a board stand for the core that its entries lead to
use Rattle.std.specs.Prelude.{◌≡◌, ℕ, ◌+◌, ◌*◌, ◌≤◌, Bool, true, not, length, All, Some, option_map, vec_len, vec_capacity}
use Rattle.speculation.specs.Core.{over, at_home, lead_home}
use Rattle.region_ledger.specs.Ledger.{core_finished, ledger_rows}
use Rattle.rv32_law.specs.GuestStates.{IsGuestState}
use Rattle.speculation_law.specs.Sound.{one_if}
use Rattle.track_board.specs.Value.{Posted, GuestCore, IsSettings, run_of, start_state}
use Rattle.track_board.specs.Parts.{SlotStands, RegionsStand, ready_marks, core_loans, LoanFinds}
use Rattle.track_board.specs.declared.board.Board.TheInside.{Inside}

-- what contracts see of these fields
abbrev pub view_of_board : Inside → Posted
view_of_board i = record { settings = i.settings; loaded = i.loaded.value; input = i.input.value; entries = i.entries.items }

-- whether the original of the region of this number is at home
abbrev pub home_at : GuestCore → ℕ → Bool
home_at c number = at_home c (record { generation = c.generation; region = number; normal = true })

pub record FieldsStand (i : Inside) (c : GuestCore) : Type 0 where
  pub base : i.base ≡ c.base
  pub ready : ready_marks i.ready.items ≡ c.ready
  pub rows : ledger_rows i.rows.items ≡ c.rows
  pub generation : i.generation ≡ c.generation
  pub last : i.last ≡ c.last
  pub regions : RegionsStand i.input.value i.settings.budget (home_at c) i.regions.nodes c.regions
  pub lead : SlotStands i.input.value i.settings.budget i.lead (lead_home c) c.lead
  pub loans : core_loans i.loans.items ≡ c.loans
  pub keys : All (LoanFinds i.regions) i.loans.items
  pub finish : option_map core_finished i.finish ≡ c.finish
  pub halted : i.halted ≡ c.halted

-- there is room for the entry of each loan's end, and for one that ends the run; and names for more regions
pub record HasRoom (i : Inside) (c : GuestCore) : Type 0 where
  pub entries : vec_len i.entries + (vec_len i.loans + one_if (not (over c))) ≤ vec_capacity i.entries
  pub names : i.regions.made ≤ 32 * vec_len i.rows + length i.regions.nodes

pub record StandsFor (i : Inside) (c : GuestCore) : Type 0 where
  pub limits : IsSettings i.settings
  pub guest : IsGuestState i.input.value (start_state (view_of_board i))
  pub legal : run_of (view_of_board i) ≡ Some c
  pub fields : FieldsStand i c
  pub room : HasRoom i c

abbrev pub Stands : Inside → Type 0
Stands i = (c : GuestCore) × StandsFor i c
