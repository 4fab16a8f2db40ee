-- Document 01, "The listing": the text of each line that program `river` prints, as bytes of ASCII.
use Rattle.std.specs.Prelude.{List, [], ◌∷◌, ◌++◌, ℕ, suc, ◌^◌, ltb}
use Rattle.io.specs.Digits.{last_digits}
use Rattle.lists.specs.Lists.{lowest}

-- how many digits n has: one more than the lowest k with n below 10 ^ (k + 1)
unfoldable pub places : ℕ → ℕ
places n = suc (lowest n (λ k. ltb n (10 ^ suc k)))

-- n in decimal, with no 0 in front
unfoldable pub decimal : ℕ → List ℕ
decimal n = last_digits 10 (places n) n

-- a number and the byte that ends it
unfoldable pub ended : ℕ → ℕ → List ℕ
ended end n = decimal n ++ (end ∷ [])

-- the byte between two numbers of a line
abbrev space : ℕ
space = 32

-- the byte at the end of a line
abbrev pub line_feed : ℕ
line_feed = 10

-- the listing's first line, `step segment channel storage sediment`
unfoldable pub heading : List ℕ
heading =
    115 ∷ 116 ∷ 101 ∷ 112 ∷ 32 ∷ 115 ∷ 101 ∷ 103 ∷ 109 ∷ 101 ∷ 110 ∷ 116 ∷ 32 ∷ 99 ∷ 104 ∷ 97 ∷ 110 ∷ 110 ∷ 101 ∷ 108 ∷
    32 ∷ 115 ∷ 116 ∷ 111 ∷ 114 ∷ 97 ∷ 103 ∷ 101 ∷ 32 ∷ 115 ∷ 101 ∷ 100 ∷ 105 ∷ 109 ∷ 101 ∷ 110 ∷ 116 ∷ 10 ∷ []

-- "Fields: step, gauge's segment, C, Z, Kd × W"
unfoldable pub line : (step segment channel storage sediment : ℕ) → List ℕ
line step segment channel storage sediment =
    ended space step ++ ended space segment ++ ended space channel ++ ended space storage ++ ended line_feed sediment

-- "then `done` with the steps made"
unfoldable pub done : ℕ → List ℕ
done steps = (100 ∷ 111 ∷ 110 ∷ 101 ∷ 32 ∷ []) ++ ended line_feed steps

-- "A refused sheet prints only `refused` and its number."
unfoldable pub refused : ℕ → List ℕ
refused number = (114 ∷ 101 ∷ 102 ∷ 117 ∷ 115 ∷ 101 ∷ 100 ∷ 32 ∷ []) ++ ended line_feed number
