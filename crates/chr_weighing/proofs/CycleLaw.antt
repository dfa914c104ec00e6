-- No weights are lowered by each rule of a cycle.
use Rattle.std.specs.Prelude.{◌≡◌, ℕ, ◌+◌, ◌*◌, ◌≤◌, true, cond, nat_eq, ◌&&◌, List, [], ◌∷◌, length, Option, Some}
use Rattle.std.specs.Prelude.{None, slice_get, pos}
use Rattle.std.specs.List.{list_all}
use Rattle.std.specs.Option.{option_map}
use Rattle.std.proofs.Common.{refl, sym, ap, subst, ◌∙◌, arith}
use mathlib.Core.Bool.{true≢false}
use Rattle.std.proofs.lemmas.Bool.{and_parts}
use Rattle.std.proofs.lemmas.List.{length-map}
use Rattle.std.proofs.lemmas.List.Sums.{sum_by-cons}
use Rattle.chr_base.specs.declared.term.Pattern.{Pattern}
use Rattle.chr_base.specs.declared.rule.Rule.{Rule}
use Rattle.chr_base.specs.declared.program.Program.{Program}
use Rattle.chr_base.specs.FinBag.{total}
use Rattle.chr_base.specs.ProgramTests.{Declaration, fits, is_declared, takes}
use Rattle.chr_base.specs.Programs.{declarations, rules_of}
use Rattle.chr_base.specs.Rules.{Valuation, atom_at, atoms_at}
use Rattle.chr_base.specs.Weights.{default_weight, rank}
use Rattle.chr_weights.proofs.Weighing.{all_at, declared_within, pattern_weight}
use Rattle.chr_weights.proofs.Ranks.{lowers_rank, rank_in}
use Rattle.chr_weighing.specs.declared.cycle.Side.{Side}
use Rattle.chr_weighing.specs.declared.cycle.Side.TheVariants.{Removed, Body}
use Rattle.chr_weighing.specs.Reweighing.{IsReweighed, HasNoWeights}
use Rattle.chr_weighing.specs.Cycles.{IsCycle, count_of, side_of, total_of}
use Rattle.chr_weighing.proofs.Sums.{dot, dot_none, dot_plus, dot_times, dot_rises, dot_same, dot_once, once}
use Rattle.chr_weighing.proofs.Sums.{taken_times, taken_less}

-- the rank of a symbol's weight
abbrev rank_at : Option Declaration → ℕ
rank_at None = 0
rank_at (Some d) = rank d.weight

-- the ranks of these patterns summed
abbrev ranks : (ℕ → ℕ) → List Pattern → ℕ
ranks f ps = total (λ (p : Pattern). f p.symbol.0) ps

count_cons : (s : ℕ) (p : Pattern) (ps : List Pattern) → count_of s (p ∷ ps) ≡ once p.symbol.0 s + count_of s ps
count_cons s p ps = sum_by-cons (λ (q : Pattern). cond (nat_eq q.symbol.0 s) 1 0) p ps

-- the ranks of patterns are the ranks of the symbols, each taken as often as the symbol stands among the patterns
ranks_counted : (ds : List Declaration) (f : ℕ → ℕ) (ps : List Pattern) → list_all (is_declared ds) ps ≡ true
    → dot (length ds) f (λ s. count_of s ps) ≡ ranks f ps
ranks_counted ds f [] h = dot_none (length ds) f
ranks_counted ds f (p ∷ ps) h =
    let here = declared_within ds p.symbol.0 (length p.args.items)
    ((and_parts (is_declared ds p) (list_all (is_declared ds) ps) h).0) in
    let more = ranks_counted ds f ps ((and_parts (is_declared ds p) (list_all (is_declared ds) ps) h).1) in
    let one = dot_once (length ds) f p.symbol.0 here in
    let both = dot_plus (length ds) f (once p.symbol.0) (λ s. count_of s ps) in
    let split = dot_same (length ds) f (λ s. count_of s (p ∷ ps)) (λ s. once p.symbol.0 s + count_of s ps)
    (λ s. count_cons s p ps) in
    omega (arith, more, one, both, split)

side_fits : (ds : List Declaration) (side : Side) (r : Rule) → fits ds r ≡ true
    → list_all (is_declared ds) (side_of side r) ≡ true
side_fits ds Removed r h = let a = (and_parts _ (list_all (is_declared ds) r.body.items) h).0 in
    (and_parts (list_all (is_declared ds) r.kept.items) _ a).1
side_fits ds Body r h = (and_parts (list_all (is_declared ds) r.kept.items && list_all (is_declared ds) r.removed.items)
    (list_all (is_declared ds) r.body.items) h).1

-- each rule taken its number of times, the ranks on one side of all rules are those of the symbols, each as often as it
-- stands there
sides_counted : (ds : List Declaration) (f : ℕ → ℕ) (side : Side) (rs : List Rule) (times : List ℕ)
    → list_all (fits ds) rs ≡ true → dot (length ds) f (λ s. total_of side s rs times)
    ≡ taken_times (λ r. ranks f (side_of side r)) rs times
sides_counted ds f side [] times h = dot_none (length ds) f
sides_counted ds f side (r ∷ rs) [] h = dot_none (length ds) f
sides_counted ds f side (r ∷ rs) (k ∷ times) h =
    let one = ranks_counted ds f (side_of side r) (side_fits ds side r
    ((and_parts (fits ds r) (list_all (fits ds) rs) h).0)) in
    let more = sides_counted ds f side rs times ((and_parts (fits ds r) (list_all (fits ds) rs) h).1) in
    let here = dot_times (length ds) f (λ s. count_of s (side_of side r)) k in
    let both = dot_plus (length ds) f (λ s. k * count_of s (side_of side r)) (λ s. total_of side s rs times) in
    let product : k * dot (length ds) f (λ s. count_of s (side_of side r)) ≡ k * ranks f (side_of side r) =
    ap (λ n. k * n) one in
    omega (arith, more, here, both, product)

-- the rank that a pattern's atom has in the program
pattern_ranks : (q : Program) (v : Valuation) (p : Pattern) → is_declared (declarations q) p ≡ true
    → rank_in q (atom_at v p) ≡ rank_at (slice_get (declarations q) p.symbol.0)
pattern_ranks q v p h = by (slice_get (declarations q) p.symbol.0) refl
  where
    by : (o : Option Declaration) → slice_get (declarations q) p.symbol.0 ≡ o → rank_in q (atom_at v p) ≡ rank_at o
    by None e = absurd (true≢false (sym h ∙ ap (λ o. takes o (length p.args.items)) e))
    by (Some d) e = sym (ap rank (pattern_weight q p d.weight v h
        (sym (ap (option_map (λ (d : Declaration). d.weight)) e))))

atoms_rank : (q : Program) (v : Valuation) (ps : List Pattern) → list_all (is_declared (declarations q)) ps ≡ true
    → total (rank_in q) (atoms_at v ps) ≡ ranks (λ s. rank_at (slice_get (declarations q) s)) ps
atoms_rank q v [] h = refl
atoms_rank q v (p ∷ ps) h =
    let one = pattern_ranks q v p ((and_parts (is_declared (declarations q) p)
    (list_all (is_declared (declarations q)) ps) h).0) in
    let more = atoms_rank q v ps ((and_parts (is_declared (declarations q) p)
    (list_all (is_declared (declarations q)) ps) h).1) in
    omega (arith, one, more)

all_fit : (q : Program) → list_all (fits (declarations q)) (rules_of q) ≡ true
all_fit q = (and_parts _ (list_all (fits (declarations q)) (rules_of q)) q.well_formed).1

fits_at : (ds : List Declaration) (rs : List Rule) (i : ℕ) (r : Rule) → list_all (fits ds) rs ≡ true → slice_get rs i
    ≡ Some r → fits ds r ≡ true
fits_at ds rs i r h e = all_at (fits ds) rs i r h e

same_length : (p q : Program) → IsReweighed p q → length (declarations q) ≡ length (declarations p)
same_length p q same =
    let a = length-map (declarations q) (λ (d : Declaration). record d { weight = default_weight }) in
    let b = length-map (declarations p) (λ (d : Declaration). record d { weight = default_weight }) in
    let c = ap length same.symbols in
    omega (arith, a, b, c)

pub no_weights : (p : Program) (times : List ℕ) → IsCycle p times → HasNoWeights p
no_weights p times cycle q same lowers =
    let ds = declarations q in
    let rs = rules_of q in
    let v : Valuation = λ _. pos 0 in
    let f : ℕ → ℕ = λ s. rank_at (slice_get ds s) in
    let less = taken_less (λ r. ranks f (side_of Body r)) (λ r. ranks f (side_of Removed r)) rs times
    (cycle.each ∙ ap length (sym same.rules)) (λ i r e.
    (let fit = fits_at ds rs i r (all_fit q) e in
    let low = lowers_rank q lowers i r e v in
    let body = atoms_rank q v r.body.items (side_fits ds Body r fit) in
    let removed = atoms_rank q v r.removed.items (side_fits ds Removed r fit) in
    omega (arith, low, body, removed))) in
    let taken = sides_counted ds f Removed rs times (all_fit q) in
    let given = sides_counted ds f Body rs times (all_fit q) in
    let rises = dot_rises (length ds) f (λ s. total_of Removed s rs times) (λ s. total_of Body s rs times) (λ s l.
    subst (λ xs. total_of Removed s xs times ≤ total_of Body s xs times) (sym same.rules)
    (cycle.back s (let n = same_length p q same in omega (arith, n, l)))) in
    let some = cycle.some in
    omega (arith, less, taken, given, rises, some)
