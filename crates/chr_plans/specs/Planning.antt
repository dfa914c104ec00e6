-- The plan that is made: which arguments are known, and which partner is next.
use Rattle.std.specs.Prelude.{◌≡◌, ℕ, ◌+◌, ◌-◌, ◌<◌, ◌≤◌, ◌⊎◌, List, [], ◌∷◌, length, get_or, take, Option, Some, None}
use Rattle.std.specs.Prelude.{option_map, if◌then◌else◌, Bool, true, false, nat_eq, not, pos}
use Rattle.std.specs.List.{list_any}
use Rattle.std.specs.Option.{option_or, option_and_then}
use Rattle.chr_base.specs.declared.term.Term.{Term}
use Rattle.chr_base.specs.declared.term.Term.TheVariants as term
use Rattle.chr_base.specs.declared.term.Cmp.{Cmp}
use Rattle.chr_base.specs.declared.term.Cmp.TheVariants.{Less, AtMost, Greater, AtLeast, Equal, NotEqual}
use Rattle.chr_base.specs.declared.term.Comparison.{Comparison}
use Rattle.chr_base.specs.declared.rule.Rule.{Rule}
use Rattle.chr_base.specs.Rules.{heads_of}
use Rattle.chr_base.specs.RuleTests.{is_variable}
use Rattle.chr_plans.specs.declared.key.Source.{Source}
use Rattle.chr_plans.specs.declared.key.Source.TheVariants.{Constant, Argument}
use Rattle.chr_plans.specs.declared.key.Key.{Key}
use Rattle.chr_plans.specs.declared.key.Test.{Test}
use Rattle.chr_plans.specs.declared.key.Limit.{Limit}
use Rattle.chr_plans.specs.declared.plan.Partner.{Partner}
use Rattle.chr_plans.specs.Keys.{passes}
use Rattle.chr_plans.specs.Plans.{pattern_at, places_of}

-- the place is one of these
abbrev pub is_in : ℕ → List ℕ → Bool
is_in q known = list_any (nat_eq q) known

-- the first column at which the terms, which begin at this column, have the variable
abbrev pub column_of : List Term → ℕ → ℕ → Option ℕ
column_of [] x column = None
column_of (t ∷ ts) x column = if is_variable x t then Some column else column_of ts x (column + 1)

-- the comparison sign for equal values
abbrev pub is_equal : Cmp → Bool
is_equal Less = false
is_equal AtMost = false
is_equal Greater = false
is_equal AtLeast = false
is_equal Equal = true
is_equal NotEqual = false

-- where the variable first stands in the heads at these places
abbrev pub variable_source : Rule → List ℕ → ℕ → Option Source
variable_source r [] x = None
variable_source r (q ∷ known) x =
    option_or (option_map (λ c. Argument q c) (column_of (pattern_at r q).args.items x 0)) (variable_source r known x)

-- where the value of a term stands, when the heads at these places are known
abbrev pub direct_source : Rule → List ℕ → Term → Option Source
direct_source r known (term.Variable x) = variable_source r known x
direct_source r known (term.Constant c) = Some (Constant c)

-- the one of two terms beside which the other is the variable
abbrev pub beside : ℕ → Term → Term → Option Term
beside x t u = if is_variable x t then Some u else (if is_variable x u then Some t else None)

-- the term that a comparison says a variable equals
abbrev pub equal_to : ℕ → Comparison → Option Term
equal_to x c = if is_equal c.cmp then beside x c.left c.right else None

-- where a term stands that one of the comparisons says a variable equals
abbrev pub equal_source : Rule → List ℕ → ℕ → List Comparison → Option Source
equal_source r known x [] = None
equal_source r known x (c ∷ cs) =
    option_or (option_and_then (direct_source r known) (equal_to x c)) (equal_source r known x cs)

-- where the value of a term comes from: a head that is known has it, or a term that the guard says it equals
abbrev pub term_source : Rule → List ℕ → Term → Option Source
term_source r known (term.Variable x) =
    option_or (variable_source r known x) (equal_source r known x r.guard.items)
term_source r known (term.Constant c) = Some (Constant c)

-- one key more, where the source is known
abbrev pub with_key : ℕ → Option Source → List Key → List Key
with_key column None keys = keys
with_key column (Some s) keys = record { column = column; source = s } ∷ keys

-- the keys of terms, which begin at this column: one for each whose value is known
abbrev pub keys_from : Rule → List ℕ → ℕ → List Term → List Key
keys_from r known column [] = []
keys_from r known column (t ∷ ts) = with_key column (term_source r known t) (keys_from r known (column + 1) ts)

-- the key of the head at a place
abbrev pub key_at : Rule → List ℕ → ℕ → List Key
key_at r known q = keys_from r known 0 (pattern_at r q).args.items

-- a test of two values, where both are known
abbrev pub test_by : Cmp → Option Source → Option Source → Option Test
test_by k None right = None
test_by k (Some s) None = None
test_by k (Some s) (Some t) = Some (record { left = s; cmp = k; right = t })

-- a comparison as a test, where the heads at these places have both its terms
abbrev pub test_of : Rule → List ℕ → Comparison → Option Test
test_of r known c = test_by c.cmp (direct_source r known c.left) (direct_source r known c.right)

-- one test more, where it is a new one
abbrev pub with_test : Option Test → Option Test → List Test → List Test
with_test (Some t) old tests = tests
with_test None None tests = tests
with_test None (Some t) tests = t ∷ tests

-- the comparisons as tests, which the heads at the known places allow and those at the places before do not
abbrev pub tests_from : Rule → List ℕ → List ℕ → List Comparison → List Test
tests_from r before known [] = []
tests_from r before known (c ∷ cs) =
    with_test (test_of r before c) (test_of r known c) (tests_from r before known cs)

-- a comparison of constants, or of a variable with itself, as a test of constants
abbrev pub fixed_by : Cmp → Term → Term → Option Test
fixed_by k (term.Constant c) (term.Constant d) = Some (record { left = Constant c; cmp = k; right = Constant d })
fixed_by k (term.Constant c) (term.Variable x) = None
fixed_by k (term.Variable x) (term.Constant c) = None
fixed_by k (term.Variable x) (term.Variable y) =
    if nat_eq x y then Some (record { left = Constant (pos 0); cmp = k; right = Constant (pos 0) }) else None

-- a comparison whose outcome hangs on no values, as a test
abbrev pub fixed_test : Comparison → Option Test
fixed_test c = fixed_by c.cmp c.left c.right

-- there is a test, which fails
abbrev pub fails : Option Test → Bool
fails None = false
fails (Some t) = not (passes [] t)

-- the comparison holds under no values
abbrev pub never_holds : Comparison → Bool
never_holds c = fails (fixed_test c)

-- a comparison of the guard holds under no values
abbrev pub never_fires : Rule → Bool
never_fires r = list_any never_holds r.guard.items

-- a test that nothing passes
abbrev pub no_pass : Test
no_pass = record { left = Constant (pos 0); cmp = NotEqual; right = Constant (pos 0) }

-- the tests of the guard that the last known head allows, or one that nothing passes where the guard never holds
abbrev pub tests_at : Rule → List ℕ → List Test
tests_at r known =
    if never_fires r then no_pass ∷ [] else tests_from r (take (length known - 1) known) known r.guard.items

-- the comparison sign for the sides in the other order
abbrev pub turned : Cmp → Cmp
turned Less = Greater
turned AtMost = AtLeast
turned Greater = Less
turned AtLeast = AtMost
turned Equal = Equal
turned NotEqual = NotEqual

-- the first column at which the head at a place has the term, where it is a variable
abbrev pub own_column : Rule → ℕ → Term → Option ℕ
own_column r q (term.Variable x) = column_of (pattern_at r q).args.items x 0
own_column r q (term.Constant c) = None

-- a limit of this column, by a value that is known
abbrev pub limit_by : Cmp → Option ℕ → Option Source → Option Limit
limit_by k None source = None
limit_by k (Some column) None = None
limit_by k (Some column) (Some s) =
    if is_equal k then None else Some (record { column = column; cmp = k; source = s })

-- a comparison as a limit of the head at a place, where one side stands in it and the other is known
abbrev pub limit_of : Rule → List ℕ → ℕ → Comparison → Option Limit
limit_of r known q c =
    option_or (limit_by c.cmp (own_column r q c.left) (direct_source r known c.right))
    (limit_by (turned c.cmp) (own_column r q c.right) (direct_source r known c.left))

-- one limit more, where the comparison is no test of what is known
abbrev pub with_limit : Option Test → Option Limit → List Limit → List Limit
with_limit (Some t) new limits = limits
with_limit None None limits = limits
with_limit None (Some l) limits = l ∷ limits

-- the comparisons as limits of the head at a place
abbrev pub limits_from : Rule → List ℕ → ℕ → List Comparison → List Limit
limits_from r known q [] = []
limits_from r known q (c ∷ cs) = with_limit (test_of r known c) (limit_of r known q c) (limits_from r known q cs)

-- all limits that the guard has of the head at a place, or none where they are of no use
abbrev pub MayLimit : Rule → List ℕ → ℕ → List Limit → Type 0
MayLimit r known q limits = (limits ≡ []) ⊎ (limits ≡ limits_from r known q r.guard.items)

-- among the first n places of the rule that are not known, the partner has a place with the longest key
pub record IsLongest (r : Rule) (known : List ℕ) (n : ℕ) (l : Partner) : Type 0 where
  pub within : l.place < n
  pub new : is_in l.place known ≡ false
  pub key : l.key.items ≡ key_at r known l.place
  pub tests : l.tests.items ≡ tests_at r known
  pub limits : MayLimit r known l.place l.limits.items
  pub longest : (q : ℕ) → q < n → is_in q known ≡ false → length (key_at r known q) ≤ length l.key.items

-- each partner is a longest one, when the active atom and the partners before it are known
abbrev pub AreLongest : Rule → ℕ → List Partner → Type 0
AreLongest r p partners =
    (j : ℕ) (l : Partner) → j < length partners → get_or partners j l ≡ l
    → IsLongest r (p ∷ take j (places_of partners)) (length (heads_of r)) l
