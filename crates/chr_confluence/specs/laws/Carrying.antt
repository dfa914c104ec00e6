-- What the law of images and carried steps says.
use Rattle.std.specs.Prelude.{◌≡◌, List, map, Bool}
use Rattle.chr_base.specs.declared.atom.Atom.{Atom}
use Rattle.chr_base.specs.declared.rule.Rule.{Rule}
use Rattle.chr_base.specs.FinBag.{◌⊕◌, ◌⊖◌, IsWithin}
use Rattle.chr_base.specs.Stores.{Store, store_of}
use Rattle.chr_base.specs.Rules.{Step, StepBy, Valuation}
use Rattle.chr_base.specs.Rewriting.{Reaches, AreJoinable}
use Rattle.chr_base.specs.Values.{Each}
use Rattle.chr_confluence.specs.Images.{image, Carries, CarriesSteps}

abbrev pub ListsHaveImages : Type 0
ListsHaveImages = (f : Atom → Atom) (xs : List Atom) → image f (store_of xs) ≡ store_of (map f xs)

-- the image of a sum is the sum of the images, also where different atoms become equal
abbrev pub ImagesAdd : Type 0
ImagesAdd = (f : Atom → Atom) (s t : Store) → image f (s ⊕ t) ≡ image f s ⊕ image f t

abbrev pub ImagesAreWithin : Type 0
ImagesAreWithin = (f : Atom → Atom) (s t : Store) → IsWithin s t → IsWithin (image f s) (image f t)

-- the image of a difference is the difference of the images, where one store is within the other
abbrev pub ImagesSubtract : Type 0
ImagesSubtract = (f : Atom → Atom) (s t : Store) → IsWithin t s → image f (s ⊖ t) ≡ image f s ⊖ image f t

-- a map that carries the instance of a step carries the step
abbrev pub StepsAreCarried : Type 0
StepsAreCarried =
    (f : Atom → Atom) (r : Rule) (v w : Valuation) (s t : Store) → Carries f r v w → StepBy r v s t
    → StepBy r w (image f s) (image f t)

-- a map that carries the instances of steps carries runs
abbrev pub RunsAreCarried : Type 0
RunsAreCarried =
    (f : Atom → Atom) (p : Atom → Bool) (rules : List Rule) (s t : Store) → CarriesSteps f p rules → Each p s
    → Reaches (Step rules) s t → Reaches (Step rules) (image f s) (image f t)

abbrev pub JoinsAreCarried : Type 0
JoinsAreCarried =
    (f : Atom → Atom) (p : Atom → Bool) (rules : List Rule) (t u : Store) → CarriesSteps f p rules → Each p t
    → Each p u → AreJoinable (Step rules) t u → AreJoinable (Step rules) (image f t) (image f u)
