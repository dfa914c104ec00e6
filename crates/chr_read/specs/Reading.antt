-- What a clause without faults adds.
use Rattle.std.specs.Prelude.{[], ◌∷◌, ◌++◌, map, unwrap_or}
use Rattle.chr_base.specs.ProgramTests.{Declaration, with_weight}
use Rattle.chr_base.specs.Weights.{default_weight}
use Rattle.chr_syntax.specs.Clauses.{Symbol, Form, use_module, declare, weight, rule, propagation}
use Rattle.chr_read.specs.Numbers.{arity_of, weight_named_by}
use Rattle.chr_read.specs.Faults.{place_of_symbol}
use Rattle.chr_read.specs.Meanings.{Progress}
use Rattle.chr_read.specs.Resolving.{resolved}

abbrev pub declared_symbol : Symbol → Declaration
declared_symbol s = record { name = s.name; arity = unwrap_or (arity_of s.arity) 0; weight = default_weight }

-- what the clauses before it made, and a clause of this form
abbrev pub with_form : Progress → Form → Progress
with_form q use_module = q
with_form q (declare ss) =
    record q { meaning = record q.meaning { declarations = q.meaning.declarations ++ map declared_symbol ss } }
with_form q (weight s first second) =
    let i = unwrap_or (place_of_symbol q.meaning.declarations s) 0 in
    let w = unwrap_or (weight_named_by first second) default_weight in record {
      meaning = record q.meaning { declarations = with_weight q.meaning.declarations i w };
      weighed = q.weighed ++ i ∷ [];
    }
with_form q (rule r) =
    record q { meaning = record q.meaning { rules = q.meaning.rules ++ resolved q.meaning.declarations r ∷ [] } }
with_form q (propagation r) = q
