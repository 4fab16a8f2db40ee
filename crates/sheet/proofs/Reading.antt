-- Laws of a field's place: past the sheet's end it is 0, and so a place that no usize can give is read as the highest one.
use mathlib.Core.Path.{◌≡◌, sym, ap, ◌∙◌}
use mathlib.Core.List.{List}
use Prim.Native.Nat.{ℕ, ◌+◌, ◌-◌, ◌^◌, ◌≤◌, min}
use native.Mathlib.Decide.{dec_le}
use native.Mathlib.Omega.{arith}
use lib.ListN.{length, get_or, get_or-eq_default}
use Rattle.model.specs.Sheet.{field}

-- the highest usize
abbrev pub far : ℕ
far = 2 ^ 64 - 1

pub field_past : (sheet : List ℕ) (at : ℕ) → length sheet ≤ at → field sheet at ≡ 0
unfolding field
field_past sheet at h =
    rw (
      get_or-eq_default sheet 0 {n = at} h,
      get_or-eq_default sheet 0 {n = at + 1} (omega arith),
      get_or-eq_default sheet 0 {n = at + 2} (omega arith),
      get_or-eq_default sheet 0 {n = at + 3} (omega arith),
    )

pub field-far : (sheet : List ℕ) (at at' : ℕ) → length sheet ≤ far → at' ≡ min at far → field sheet at' ≡ field sheet at
field-far sheet at at' h e =
    elim (dec_le at far) [
      | yes l ↦ ap (field sheet) (omega arith)
      | no g ↦ field_past sheet at' (omega arith) ∙ sym (field_past sheet at (omega arith))
    ]

-- the byte behind a field's first one by k
pub byte-far : (sheet : List ℕ) (at k : ℕ) {place : ℕ} → length sheet ≤ far → place ≡ min (at + k) far → get_or sheet place 0 ≡ get_or sheet (at + k) 0
byte-far sheet at k h e =
    elim (dec_le (at + k) far) [
      | yes l ↦ ap (λ i. get_or sheet i 0) (omega arith)
      | no g ↦ get_or-eq_default sheet 0 (omega arith) ∙ sym (get_or-eq_default sheet 0 (omega arith))
    ]
