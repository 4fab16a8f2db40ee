-- Both sides of a step in one list that is lent: twenty-four parts of one length, for the ten lists of the old set, the ten of the new one, CL, CB,
-- Kd and the start figures.
use Rattle.std.specs.Prelude.{◌≡◌, cond, List, ℕ, suc, ◌*◌, ◌/◌, eqb, length, drop}
use Rattle.lists.specs.Lists.{stretch}
use Rattle.model.specs.Flow.{flow_in_force}
use Rattle.model.specs.State.{NumberSet, Columns, loaded_segments, write_segments}
use Rattle.terms.specs.Lent as Lent

-- how many parts there are
abbrev pub parts : ℕ
parts = 24

-- the entries of a part
abbrev pub width : List ℕ → ℕ
width list = length list / parts

-- the part with this number, from 0
unfoldable pub part_of : List ℕ → ℕ → List ℕ
part_of list k = stretch (k * width list) (width list) list

-- what stands behind the last part
unfoldable pub rest_of : List ℕ → List ℕ
rest_of list = drop (parts * width list) list

-- what the list holds: the set of the old side, the fourteen lists of the new one, and what is left of it
pub record Sides : Type 0 where
  pub old : NumberSet
  pub new : Columns
  pub rest : List ℕ

-- in the order of their places in `terms`
unfoldable pub sides_of : List ℕ → Sides
sides_of list = record {
  old = Lent.set (part_of list 0) (part_of list 1) (part_of list 2) (part_of list 3) (part_of list 4)
      (part_of list 5) (part_of list 6) (part_of list 7) (part_of list 8) (part_of list 9);
  new = Lent.columns (part_of list 10) (part_of list 11) (part_of list 12) (part_of list 13) (part_of list 14)
      (part_of list 15) (part_of list 16) (part_of list 17) (part_of list 18) (part_of list 19)
      (part_of list 20) (part_of list 21) (part_of list 22) (part_of list 23);
  rest = rest_of list;
}

-- flow r's set and the lists that every flow shares on the new side, as a loading gives them
abbrev pub filled : List ℕ → (r : ℕ) → Sides → Sides
filled sheet r x = record { old = x.old; new = write_segments (loaded_segments sheet r) x.new; rest = x.rest }

-- the new side's set on the old side too
abbrev pub kept : Sides → Sides
kept x = record { old = x.new.numbers; new = x.new; rest = x.rest }

-- both sides with the set of the flow in force at this step
abbrev pub held_at : List ℕ → (steps : ℕ) → Sides → Sides
held_at sheet steps x = kept (filled sheet (flow_in_force sheet steps) x)

-- changed so where the flow is another than the one held
abbrev pub where_other : (held flow : ℕ) → (Sides → Sides) → Sides → Sides
where_other held flow change x = cond (eqb held flow) x (change x)

-- for the step from n to n + 1: "that step's old side keeps the half-step numbers of the flow before, its new side takes those after"
abbrev pub sides_for : List ℕ → (n : ℕ) → Sides → Sides
sides_for sheet n x = where_other (flow_in_force sheet n) (flow_in_force sheet (suc n)) (filled sheet (flow_in_force sheet (suc n))) x

-- behind that step its new side is the next one's old side
abbrev pub sides_after : List ℕ → (n : ℕ) → Sides → Sides
sides_after sheet n x = where_other (flow_in_force sheet n) (flow_in_force sheet (suc n)) kept (sides_for sheet n x)

-- the list holds these, and is as long as it was
pub record SidesAre (x : Sides) (before after : List ℕ) : Type 0 where
  pub sides : sides_of after ≡ x
  pub long : length after ≡ length before
