-- An address and a choice as numbers.
use Rattle.geometry.specs.Place as place
use Rattle.geometry.specs.Place.{PlaceSaid}
use Rattle.header_choice.specs.Choice.{ChoiceSaid, first, second, neither}
use Rattle.numbers.specs.declared.places.AdrPlace.{AdrPlace}
use Rattle.numbers.specs.declared.places.AdrChoice.{AdrChoice}

-- an address, or 0 and the number of the refusal
abbrev pub place_twin : PlaceSaid → AdrPlace
place_twin (place.address a) = record { address = a; number = 0 }
place_twin (place.refused n) = record { address = 0; number = n }

-- the first is 1 and the second 2; 0 and the number of the refusal
abbrev pub choice_twin : ChoiceSaid → AdrChoice
choice_twin first = record { which = 1; number = 0 }
choice_twin second = record { which = 2; number = 0 }
choice_twin (neither n) = record { which = 0; number = n }
