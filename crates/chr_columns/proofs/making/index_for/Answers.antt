use Rattle.std.proofs.Common.{◌≡◌, List, ◌∷◌, [], ◌++◌, map, length, ap, ◌∙◌, arith, ℕ}
use Rattle.std.specs.Prelude.{slice_get}
use Rattle.chr_plans.specs.declared.key.Order.{Order}
use Rattle.std.proofs.lemmas.List.{map-append, length-map}
use Rattle.chr_columns.specs.working.Making.{made_way, made_ways, lists_of}
use Rattle.chr_columns.proofs.Slices.{slice_left, slice_last}
use Rattle.chr_columns.proofs.making.index_for.Goals as goal

pub returns-clause-stay : goal.returns-clause-stay
returns-clause-stay c i cs e =
    ap (λ (xs : List (List ℕ)). slice_get xs i) (ap (map (λ w. w.0))
    (ap (map made_way) c.in_ok-push.ensures.items ∙ map-append made_way c.args.keys.now.ways.items _)
    ∙ map-append (λ w. w.0) (made_ways c.args.keys.now) _)
    ∙ slice_left (lists_of c.args.keys.now) (c.args.columns.items ∷ []) i cs e

pub returns-clause-index : goal.returns-clause-index
returns-clause-index c =
    let ways = length-map c.args.keys.now.ways.items made_way in
    let n = c.len-index.ensures in
    let ok = c.args.keys.now.ways.ok.0 in
    let i : c.len-index.result ≡ length (made_ways c.args.keys.now) = omega (arith, ways, n, ok) in
    ap (λ (xs : List (List ℕ × Order)). slice_get xs c.len-index.result)
    (ap (map made_way) c.in_ok-push.ensures.items ∙ map-append made_way c.args.keys.now.ways.items _)
    ∙ ap (slice_get (made_ways c.args.keys.now ++ (c.args.columns.items, c.args.order) ∷ [])) i
    ∙ slice_last (made_ways c.args.keys.now) (c.args.columns.items, c.args.order)
