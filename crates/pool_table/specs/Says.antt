-- A slot of the table as document 02, 3 has it, for each value of the code's type.
use Rattle.model.specs.Pool as Document
use Rattle.pool_table.specs.declared.Slot.{Slot}

abbrev pub slot_says : Slot → Document.Slot
slot_says x =
    record { opened = x.opened; first = x.first; segments = x.segments; upstream = x.upstream; steps = x.steps }
