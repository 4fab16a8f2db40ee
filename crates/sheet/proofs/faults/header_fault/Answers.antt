-- `header_fault` meets its contract. Assumes nothing.
use mathlib.Core.Path.{◌≡◌, refl, sym, ap, ap₂, ◌∙◌}
use mathlib.Core.Bool.{Bool, true, false, ◌||◌, or-false}
use Rattle.model.specs.Ranges.{◌to◌, outside, any_outside, flows, most_steps}
use Rattle.sheet.proofs.faults.header_fault.Goals as goal

-- five tests in a row, as `any_outside` joins them
five : (a b c d e : Bool) → (a || b || c || d || e) ≡ (a || (b || (c || (d || (e || false)))))
five true b c d e = refl
five false true c d e = refl
five false false true d e = refl
five false false false true e = refl
five false false false false e = sym (or-false e)

same-five : {a b c d e a' b' c' d' e' : Bool} → a ≡ a' → b ≡ b' → c ≡ c' → d ≡ d' → e ≡ e' →
    (a || b || c || d || e) ≡ (a' || (b' || (c' || (d' || (e' || false)))))
same-five {a} {b} {c} {d} {e} p q r s t = five a b c d e ∙ (λ i. p i || (q i || (r i || (s i || (t i || false)))))

pub returns : goal.returns
unfolding any_outside
returns c =
    let dt = c.outside.ensures ∙ ap (outside (1 to 3600)) (c.from.ensures ∙ c.dt.ensures) in
    let dx = c.outside-2.ensures ∙ ap (outside (10 to 10000)) (c.from-2.ensures ∙ c.dx.ensures) in
    let steps = c.outside-3.ensures ∙ ap (outside (1 to most_steps)) (c.from-3.ensures ∙ c.steps-most.ensures) in
    let interval = c.outside-4.ensures ∙ ap₂ (λ m. outside (1 to m)) c.steps-most.ensures (c.from-4.ensures ∙ c.interval.ensures) in
    let flow = c.outside-5.ensures ∙ ap (outside flows) (c.from-5.ensures ∙ c.top_flow.ensures) in
    same-five dt dx steps interval flow
