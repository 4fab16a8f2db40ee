-- what a program prints of a place and of a refusal: a refusal's number, and then its place
use Rattle.std.specs.Prelude.{List, ℕ, ◌++◌, codes, decimal}
use Rattle.terms.specs.Says.{fault_number}
use Rattle.terms.specs.declared.Place.{Place}
use Rattle.terms.specs.declared.Place.TheVariants.{Nothing, Reach, Segment, Row}
use Rattle.terms.specs.declared.Refusal.{Refusal}

abbrev pub place_text : Place → List ℕ
place_text Nothing = codes "nothing"
place_text (Reach i) = codes "reach " ++ decimal i
place_text (Segment i) = codes "segment " ++ decimal i
place_text (Row i) = codes "row " ++ decimal i

abbrev pub refusal_text : Refusal → List ℕ
refusal_text refusal = codes "refused " ++ decimal (fault_number refusal.fault) ++ codes " " ++ place_text refusal.place
