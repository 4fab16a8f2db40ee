-- Lists that pass test 13 have an entry for each segment, list by list.
use mathlib.Core.Path.{◌≡◌}
use mathlib.Core.Bool.{false}
use mathlib.Core.List.{List, [], ◌∷◌, ◌++◌}
use Prim.Native.Nat.{ℕ}
use Rattle.lists.specs.Lists.{any_shorter}
use Rattle.lists.proofs.Shorter.{AllLong, all-long}
use Rattle.model.specs.State.{NumberSet, set_lists, Columns, column_lists}
use Rattle.terms.specs.Lent.{LongSet, Long, LongFigures}

-- the lists behind some others
behind : (n : ℕ) (lists others : List (List ℕ)) → AllLong n (lists ++ others) → AllLong n others
behind n [] others long = long
behind n (list ∷ lists) others long = behind n lists others long.1

-- a set whose lists are first
set_first : (n : ℕ) (x : NumberSet) (others : List (List ℕ)) → AllLong n (set_lists x ++ others) → LongSet n x
set_first n x others long = record {
  e = long.0;
  g = long.1.0;
  l = long.1.1.0;
  a = long.1.1.1.0;
  b = long.1.1.1.1.0;
  k = long.1.1.1.1.1.0;
  ks = long.1.1.1.1.1.1.0;
  h = long.1.1.1.1.1.1.1.0;
  m = long.1.1.1.1.1.1.1.1.0;
  s = long.1.1.1.1.1.1.1.1.1.0;
}

pub set_long : (n : ℕ) (x : NumberSet) → any_shorter n (set_lists x) ≡ false → LongSet n x
set_long n x e = set_first n x [] (all-long n (set_lists x) e)

-- fourteen lists that are first
pub columns-first : (n : ℕ) (x : Columns) (others : List (List ℕ)) → AllLong n (column_lists x ++ others) → Long n x
columns-first n x others long =
    let fixed = behind n (set_lists x.numbers) (x.cl ∷ x.cb ∷ x.kd ∷ x.start ∷ others) long in
    record {
      numbers = set_first n x.numbers (x.cl ∷ x.cb ∷ x.kd ∷ x.start ∷ others) long;
      cl = fixed.0;
      cb = fixed.1.0;
      kd = fixed.1.1.0;
      start = fixed.1.1.1.0;
    }

-- the state's lists behind the fourteen
pub figures-behind : (n : ℕ) (x : Columns) (channel storage sediment : List ℕ) →
    AllLong n (column_lists x ++ channel ∷ storage ∷ sediment ∷ []) → LongFigures n channel storage sediment
figures-behind n x channel storage sediment long =
    let figures = behind n (column_lists x) (channel ∷ storage ∷ sediment ∷ []) long in
    record { channel = figures.0; storage = figures.1.0; sediment = figures.1.1.0 }
