-- Which variables of a rule's heads have one number.
use Rattle.std.specs.Prelude.{◌≡◌, ◌↔◌, ℕ, List, [], ◌∷◌, ◌++◌, false}
use Rattle.chr_base.specs.RuleTests.{terms_of}
use Rattle.chr_base.specs.ProgramTests.{Declaration}
use Rattle.chr_syntax.specs.Clauses.{Term, Atom, variable}
use Rattle.chr_read.specs.Faults.{args_of, is_anonymous}
use Rattle.chr_read.specs.Resolving.{variable_of, head_terms, after_terms, heads, after_heads}

-- the terms of the heads are numbered as one list, kept heads first
abbrev pub HeadsAreOneList : Type 0
HeadsAreOneList = (ds : List Declaration) (kept removed : List Atom)
    → terms_of (heads ds [] kept ++ heads ds (after_heads [] kept) removed)
    ≡ head_terms [] (args_of kept ++ args_of removed)

-- the number of the variable w where it stands after these terms
abbrev pub number_at : List Term → List ℕ → ℕ
number_at before w = variable_of (after_terms [] before) w

-- Of two places, the later has the number of the earlier exactly where both are one variable, which is not `_`.
abbrev pub OneNumberIsOneVariable : Type 0
OneNumberIsOneVariable = (before between : List Term) (v w : List ℕ)
    → number_at (before ++ variable v ∷ between) w ≡ number_at before v ↔ (v ≡ w) × (is_anonymous w ≡ false)
