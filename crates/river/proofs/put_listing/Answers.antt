-- `put_listing` meets its contract: the river is started in lists that are long enough for every sheet, and run.
use Prim.Native.Nat.{◌≤◌, zero-le}
use native.Mathlib.Omega.{arith}
use Rattle.model.specs.Ranges.{most_segments}
use Rattle.own_river_laws.proofs.Sheets.{most-segments, rows-most}
use Rattle.own_river.specs.Ready.{OfSheet}
use Rattle.river.proofs.Running.{ready-begun, begun-alike, begun-steps, put_lines}
use Rattle.river.proofs.put_listing.Goals as goal

pub start-river-requires : goal.start-river-requires
start-river-requires c =
    let few : c.segment_count-n.result ≤ most_segments = rw c.segment_count-n.ensures (most-segments _ c.requires) in (
      record { passed = c.requires; count = c.segment_count-n.ensures },
      omega (arith, few),
      record { channel = omega (arith, few); storage = omega (arith, few); sediment = omega (arith, few) },
      rw c.upstream_at-u.ensures (rows-most _ c.requires _),
    )

pub run-requires : goal.run-requires
run-requires c =
    let few : c.segment_count-n.result ≤ most_segments = rw c.segment_count-n.ensures (most-segments _ c.requires) in
    let of_sheet : OfSheet c.args.sheet.now c.segment_count-n.result = record { passed = c.requires; count = c.segment_count-n.ensures } in
    let begun = c.start-river.ensures.begun in
    (ready-begun _ of_sheet begun (omega (arith, few)) (omega (arith, few)), rw (begun-steps begun) zero-le)

pub returns : goal.returns
returns c =
    let begun = c.start-river.ensures.begun in
    put_lines _ c.requires (begun-steps begun) (begun-alike c.upstream_at-u.ensures begun) c.put_heading.ensures c.run.ensures
