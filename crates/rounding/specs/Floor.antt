-- "the net gain can be negative and is rounded down once"
use Rattle.std.specs.Prelude.{ℕ, ◌/◌, ℤ, pos, negsuc}

-- x / d rounded down, towards minus infinity. `negsuc n` is −(n + 1): from −d to −1, where n is 0 to d − 1, the quotient is −1.
unfoldable pub floor_div : ℤ → ℕ → ℤ
floor_div (pos n) d = pos (n / d)
floor_div (negsuc n) d = negsuc (n / d)
