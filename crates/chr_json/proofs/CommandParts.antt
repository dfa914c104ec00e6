-- Arrays of other lengths are no commands.
use Rattle.std.proofs.Common.{◌≡◌, List, [], ◌∷◌, length, Some, None, option_and_then, ◌∙◌, refl, ap}
use Rattle.serde_json.specs.Data.{Data}
use Rattle.chr_json.specs.Values.{elements}
use Rattle.chr_json.specs.Commands.{command_from, command_of}

from_others : (ds : List Data) → ¬ (length ds ≡ 2) → ¬ (length ds ≡ 3) → ¬ (length ds ≡ 4) → command_from ds ≡ None
from_others [] two three four = refl
from_others (w ∷ []) two three four = refl
from_others (w ∷ r ∷ []) two three four = absurd (two refl)
from_others (w ∷ r ∷ d ∷ []) two three four = absurd (three refl)
from_others (w ∷ r ∷ d ∷ e ∷ []) two three four = absurd (four refl)
from_others (w ∷ r ∷ d ∷ e ∷ f ∷ ds) two three four = refl

pub of_others : (v : Data) (ds : List Data) → elements v ≡ Some ds → ¬ (length ds ≡ 2) → ¬ (length ds ≡ 3)
    → ¬ (length ds ≡ 4) → command_of v ≡ None
of_others v ds is two three four = ap (option_and_then command_from) is ∙ from_others ds two three four
