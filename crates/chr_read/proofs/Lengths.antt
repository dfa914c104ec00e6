-- Lengths of lists seen as others.
use Rattle.std.proofs.Common.{◌≡◌, List, length, map}
use Rattle.std.proofs.lemmas.List.{length-map}

pub length_of_map : {A B : Type 0} (f : A → B) (xs : List A) → length (map f xs) ≡ length xs
length_of_map f xs = length-map xs f
