use Rattle.region_account.proofs.OnReported.{reported_rows-back, ledger_rows-back}
use Rattle.region_account.proofs.laws.reported_rows_are_the_ledger.Goals as goal

pub returns : goal.returns
returns c = record { ledger = ledger_rows-back; reported = reported_rows-back }
