-- The number chooses the row of the table, which is what the called function answers.
use Rattle.guest_calls.proofs.services.serve.Goals as goal

pub returns-in-63-clause-means : goal.returns-in-63-clause-means
returns-in-63-clause-means g c = λ fast f. rw c.in-63.is (c.read.ensures.means fast f c.args.heap.now)

pub returns-in-64-clause-means : goal.returns-in-64-clause-means
returns-in-64-clause-means g c = λ fast f. rw c.in-64.is (c.write.ensures.means fast f c.args.heap.now c.args.place.now)
