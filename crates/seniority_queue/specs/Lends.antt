-- What a queue ends as, where a `&mut` to one of its values is returned
use Rattle.std.specs.Prelude.{Option}
use Rattle.std.specs.Borrow.{Lends, LendsIf, Fml, RattleType, MutBor}
use Rattle.seniority_queue.specs.Listing.{Listing, with_value}
use Rattle.seniority_queue.specs.contracts.queue.Queue.{the_row}
use Rattle.seniority_queue.specs.declared.key.Key.{Key}

module _ (T : RattleType) (q : MutBor (Listing T.Denot)) (key : Key) where
  -- once the borrow r ends, the key has the last value written through r
  abbrev pub lends_value : MutBor T.Denot → Fml
  lends_value r = Lends (the_row T) T q r (with_value q.now key)

  -- the same where r is a reference, and at `None` the queue stays as it is
  abbrev pub lends_get : Option (MutBor T.Denot) → Fml
  lends_get r = LendsIf (the_row T) T q r (with_value q.now key) q.now
