-- Rows whose atoms lack an argument that a rule's first head has.
use Rattle.std.specs.Prelude.{Option, Some, None, IfSome, IfNone, slice_get}
use Rattle.std.specs.Option.{unwrap_or}
use Rattle.std.proofs.Common.{◌≡◌, ℕ, ◌+◌, ◌-◌, ◌<◌, ◌≤◌, pos, List, [], ◌∷◌, ◌++◌, length, get_or, set, take, drop}
use Rattle.std.proofs.Common.{refl, sym, ap, subst, ◌∙◌, arith, inl, inr}
use Rattle.std.proofs.lemmas.Bool.{and_parts, eqb-true, cases_lt}
use Rattle.std.proofs.lemmas.List.{get_or_append_left, get_or-append_right, take_all}
use Rattle.std.proofs.lemmas.Option.{slice_get_within, slice_get-get_or, get_or_from_slice_get}
use Rattle.chr_base.specs.declared.atom.Atom.{Atom}
use Rattle.chr_base.specs.declared.rule.Rule.{Rule}
use Rattle.chr_base.specs.declared.term.Term.TheVariants.{Constant}
use Rattle.chr_base.specs.Rules.{heads_at, term_value, Valuation}
use Rattle.chr_plans.specs.Keys.{argument}
use Rattle.chr_plans.specs.Plans.{pattern_at}
use Rattle.chr_plans.specs.Rows.{Tables}
use Rattle.chr_plans.specs.Seats.{head, NoPartners}
use Rattle.chr_plans.proofs.Values.{no_term, term_at, argument_value, shape_known}
use Rattle.chr_tables.specs.Contents.{Contents, HasArgument}
use Rattle.chr_columns.specs.declared.candidates.Known.{Known}
use Rattle.chr_columns.specs.working.Candidates.{IsKnownConstant, Misses}
use Rattle.chr_columns.specs.working.Finding.{only_table}
use Rattle.chr_columns.specs.working.Listing.{rows_in_turn}
use Rattle.chr_columns.proofs.Turns.{live_below, NoneAt}

-- what no row from the one place up to the other has
abbrev pub Pass : Option Known → List (Option Atom) → ℕ → ℕ → Type 0
Pass known rows from to = (n : ℕ) (a : Atom) → from ≤ n → n < to → get_or rows n None ≡ Some a → Misses known a

-- what rows of the first table pass, the same rows of all tables pass
pub pass_here : (known : Option Known) (xs ys : List (Option Atom)) (from to : ℕ) → to ≤ length xs
    → Pass known xs from to → Pass known (xs ++ ys) from to
pass_here known xs ys from to l pass n a m k live = pass n a m k
    (sym (get_or_append_left xs ys None n (omega (arith, k, l))) ∙ live)

-- what rows of the later tables pass, the same rows of all tables pass
pub pass_there : (known : Option Known) (xs ys : List (Option Atom)) (from to : ℕ) → length xs ≤ from
    → Pass known ys (from - length xs) to → Pass known (xs ++ ys) from (length xs + to)
pass_there known xs ys from to l pass n a m k live =
    pass (n - length xs) a (omega (arith, l, m)) (omega (arith, l, m, k))
    (sym (get_or-append_right xs ys (length xs) n None refl (omega (arith, l, m))) ∙ live)

-- a table that was searched in a column
module _ (k : Known) (rows : List (Option Atom)) (from : ℕ) where
  abbrev Lacks : ℕ → Type 0
  Lacks n = HasArgument k.column k.value (get_or rows n None) → ⊥

  within_rows : (n : ℕ) → HasArgument k.column k.value (get_or rows n None) → n < length rows
  within_rows n has = live_below rows n has.0 has.1

  passed_to : (to : ℕ) → ((n : ℕ) → from ≤ n → n < to → Lacks n) → Pass (Some k) rows from to
  passed_to to lacks n a l m live has = lacks n l m (a, live, has)

  pub searched : (found : Option ℕ) → IfSome found (λ row. HasArgument k.column k.value (get_or rows row None))
      → IfSome found (λ row. (n : ℕ) → from ≤ n → n < row → Lacks n) → IfNone found ((n : ℕ) → from ≤ n → Lacks n)
      → (unwrap_or found (length rows) ≤ length rows) × Pass (Some k) rows from (unwrap_or found (length rows))
  searched None has least none = (omega arith, passed_to (length rows) (λ n l m. none n l))
  searched (Some row) has least none = let l = within_rows row has in (omega (arith, l), passed_to row least)

-- the first table, and those after it
pub first_passed : (known : Option Known) (ts : List Contents) (fresh : List Atom) (t : Contents) (from to : ℕ)
    → 1 ≤ length ts → t ≡ get_or ts 0 t
    → to ≤ length t.rows → Pass known t.rows from to → Pass known (rows_in_turn ts fresh) from to
first_passed known [] fresh t from to e is l pass = absurd (omega (arith, e))
first_passed known (x ∷ ts) fresh t from to e is l pass =
    subst (λ (y : Contents). Pass known (y.rows ++ rows_in_turn ts fresh) from to) is
    (pass_here known t.rows (rows_in_turn ts fresh) from to l pass)

pub others_passed : (known : Option Known) (ts : List Contents) (fresh : List Atom) (t : Contents) (from to : ℕ)
    → 1 ≤ length ts → t ≡ get_or ts 0 t
    → length t.rows ≤ from → Pass known (rows_in_turn (take (length ts - 1) (drop 1 ts)) fresh)
    (from - length t.rows) to
    → Pass known (rows_in_turn ts fresh) from (length t.rows + to)
others_passed known [] fresh t from to e is l pass = absurd (omega (arith, e))
others_passed known (x ∷ ts) fresh t from to e is l pass =
    let all : take (length (x ∷ ts) - 1) ts ≡ ts = take_all (length (x ∷ ts) - 1) ts (omega arith) in
    subst (λ (y : Contents). Pass known (y.rows ++ rows_in_turn ts fresh) from (length t.rows + to)) is
    (pass_there known t.rows (rows_in_turn ts fresh) from to l
    (subst (λ us. Pass known (rows_in_turn us fresh) (from - length t.rows) to) all pass))

-- an atom without the argument is the first head of no instance
pub missed : (r : Rule) (rows : Tables) (known : Option Known) (a : Atom) → IsKnownConstant (pattern_at r 0) known
    → Misses known a → NoPartners r rows 0 a
missed r rows None a is misses = absurd misses
missed r rows (Some k) a is misses = λ heads seats s e.
    (let v : Valuation = s.instance.0 in
    let at : heads_at v r ≡ heads = s.instance.1 in
    let shape = shape_known r v 0 heads at in
    let same : length (pattern_at r 0).args.items ≡ length (head heads 0).args.items =
    eqb-true (length (pattern_at r 0).args.items) (length (head heads 0).args.items) (and_parts _ _ shape).1 in
    let l : k.column < length (pattern_at r 0).args.items =
    slice_get_within (pattern_at r 0).args.items k.column _ is in
    let term : term_at r 0 k.column ≡ Constant k.value = get_or_from_slice_get (pattern_at r 0).args.items k.column
    (Constant k.value) no_term is in
    let value : argument (head heads 0) k.column ≡ k.value = argument_value r v heads 0 k.column at
    ∙ ap (term_value v) term in
    let here : slice_get (head heads 0).args.items k.column ≡ Some k.value =
    slice_get-get_or (head heads 0).args.items k.column (pos 0) (omega (arith, l, same)) ∙ ap Some value in
    misses (ap (λ (b : Atom). slice_get b.args.items k.column) (sym e) ∙ here))

-- the walk over the rows, where some are passed over
pub none_passed : (rows : List (Option Atom)) (r : Rule) (known : Option Known) (from to : ℕ)
    → IsKnownConstant (pattern_at r 0) known
    → ((n : ℕ) (a : Atom) → n < from → get_or rows n None ≡ Some a → NoneAt rows r 0 n a) → Pass known rows from to
    → (n : ℕ) (a : Atom) → n < to → get_or rows n None ≡ Some a → NoneAt rows r 0 n a
none_passed rows r known from to is before pass n a l live = elim (cases_lt n from) as (λ _. NoneAt rows r 0 n a) [
  | inl less ↦ before n a less live
  | inr most ↦ missed r (only_table (set rows n None)) known a is (pass n a most l live)
]
