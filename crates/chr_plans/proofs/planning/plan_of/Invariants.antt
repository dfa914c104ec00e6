use Rattle.std.proofs.Common.{◌≡◌, ◌∷◌, ◌-◌, length, nat_eq}
use Rattle.std.specs.List.{IsDistinct}
use Rattle.chr_base.specs.Rules.{heads_of}
use Rattle.chr_plans.specs.Plans.{places_of}
use Rattle.chr_plans.specs.Planning.{AreLongest}
use Rattle.chr_plans.specs.working.Choosing.{ArePlaces}
use Rattle.chr_plans.proofs.planning.plan_of.Given as goal

abbrev pub invariant-loop-partner : goal.invariant-loop-partner
invariant-loop-partner l = record {
  known : l.known.items ≡ l.place ∷ places_of l.partners.items;
  distinct : IsDistinct nat_eq l.known.items;
  places : ArePlaces l.rule l.known.items;
  longest : AreLongest l.rule l.place l.partners.items;
}

abbrev pub decreases-loop-partner : goal.decreases-loop-partner
decreases-loop-partner l = length (heads_of l.rule) - length l.known.items
