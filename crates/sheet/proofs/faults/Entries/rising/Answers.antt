-- `Entries::rising` meets its contract: the entry of each kind is read where the sheet has it, and its own rule looks at it. Assumes nothing.
use mathlib.Core.Path.{sym, ◌∙◌}
use Rattle.model.specs.Sheet.{gauges}
use Rattle.sheet.proofs.Entries.{row-start, row-concentration, gauge, flow-row-start, flow-row-top}
use Rattle.sheet.proofs.faults.Entries.rising.Goals as goal

pub returns-in-Rows : goal.returns-in-Rows
returns-in-Rows c =
    let is = c.in-Rows.is in
    let h = rw is at c.requires in
    let first = row-start c.args.sheet.now _ h ∙ sym c.row_start-first.ensures in
    let figure = row-concentration c.args.sheet.now _ h ∙ sym c.row_concentration.ensures in
    rw is (λ b. rw (c.then_some.ensures, c.row_fault-fault.ensures _ _ _ (record { before_is = b; start_is = first; figure_is = figure }), first))

pub returns-in-Gauges : goal.returns-in-Gauges
returns-in-Gauges c =
    let is = c.in-Gauges.is in
    let first = gauge c.args.sheet.now _ (rw is at c.requires) ∙ sym c.gauge-first.ensures in
    rw is
    (λ b. rw (c.then_some-in-Gauges.ensures, c.gauge_fault-fault.ensures (gauges c.args.sheet.now) _ (record { before_is = b; gauge_is = first }), first))

pub returns-in-FlowRows : goal.returns-in-FlowRows
returns-in-FlowRows c =
    let is = c.in-FlowRows.is in
    let h = rw is at c.requires in
    let first = flow-row-start c.args.sheet.now _ h ∙ sym c.flow_row_start-first.ensures in
    let figure = flow-row-top c.args.sheet.now _ h ∙ sym c.flow_row_top.ensures in
    rw is
    (λ b. rw (c.then_some-in-FlowRows.ensures, c.flow_row_fault-fault.ensures _ _ _ (record { before_is = b; start_is = first; figure_is = figure }), first))
