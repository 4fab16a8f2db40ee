-- "Each number below is its fraction times one whole, to the nearest, a half going up."
-- Document 01, sections "Flow and half-step numbers" and "The sweep".
use Rattle.std.specs.Prelude.{ℕ, ◌+◌, ◌*◌, ◌/◌, ◌^◌}

-- "One whole is 2^30"; the equations call it S.
abbrev pub S : ℕ
S = 2 ^ 30

-- "to the nearest, a half going up": n / d + 1/2, rounded down, with the denominators multiplied out
unfoldable pub nearest : ℕ → ℕ → ℕ
nearest n d = (2 * n + d) / (2 * d)

-- a fraction n / d in parts of one whole: "its fraction times one whole, to the nearest"
abbrev pub parts : ℕ → ℕ → ℕ
parts n d = nearest (n * S) d
