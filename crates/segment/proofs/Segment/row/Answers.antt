-- `Segment::row` meets its contract: P and N are concentrations.
use Rattle.model.specs.Sweep.{P, N}
use Rattle.sweep_laws.proofs.Accepted.{P-most, N-most}
use Rattle.segment.proofs.Segment.row.Goals as goal

pub terms-storage-requires-clause-figure : goal.terms-storage-requires-clause-figure
unfolding P
terms-storage-requires-clause-figure c =
    let ready = c.args.self.ready in
    rw (c.storage.ensures.right, c.storage.ensures.divisor) (P-most _ _ ready.accepted ready.most)

pub terms-sediment-requires-clause-figure : goal.terms-sediment-requires-clause-figure
unfolding N
terms-sediment-requires-clause-figure c =
    let ready = c.args.self.ready in
    rw (c.sediment.ensures.right, c.sediment.ensures.divisor) (N-most _ _ ready.accepted ready.most)
