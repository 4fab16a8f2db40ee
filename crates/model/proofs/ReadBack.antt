-- Figures written over the first entries of the state's lists are read back.
use mathlib.Core.Path.{◌≡◌, refl, ap, ◌∙◌}
use mathlib.Core.List.{List, [], ◌∷◌, ◌++◌, map}
use Prim.Native.Nat.{ℕ, zero, suc}
use lib.ListN.{length, get_or}
use Rattle.lists.specs.Lists.{tab}
use Rattle.model.specs.Equations.{Figures}
use Rattle.model.specs.State.{State, figures_at, figures_of, write_figures}

-- a table from j + 1 on is the table from j of what comes one later
tab-later : {A : Type 0} (j n : ℕ) (f : ℕ → A) → tab (suc j) n f ≡ tab j n (λ i. f (suc i))
tab-later j zero f = refl
tab-later j (suc n) f = ap (λ l. f (suc j) ∷ l) (tab-later (suc j) n f)

-- the three lists, entry by entry
entries : List ℕ → List ℕ → List ℕ → ℕ → Figures
entries cs zs ws i = record { c = get_or cs i 0; z = get_or zs i 0; w = get_or ws i 0 }

read-lists : (fs : List Figures) (cs zs ws : List ℕ) →
    tab 0 (length fs) (entries (map (λ x. x.c) fs ++ cs) (map (λ x. x.z) fs ++ zs) (map (λ x. x.w) fs ++ ws)) ≡ fs
unfolding entries
read-lists [] cs zs ws = refl
read-lists (f ∷ fs) cs zs ws = ap (λ l. f ∷ l) (tab-later 0 (length fs) _ ∙ read-lists fs cs zs ws)

pub read_back : (n : ℕ) (fs : List Figures) (u steps : ℕ) (before : State) → length fs ≡ n → figures_of n (write_figures fs u steps before) ≡ fs
unfolding figures_at write_figures entries
read_back n fs u steps before e = rw (← e) (read-lists fs _ _ _)
