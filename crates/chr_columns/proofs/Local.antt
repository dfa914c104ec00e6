-- What the checks of patterns tell of rules.
use Rattle.std.specs.Prelude.{◌≡◌, ℕ, ◌-◌, ◌≤◌, List, [], ◌∷◌, length, get_or, take, drop, All, Bool, true, false}
use Rattle.std.specs.Bool.{OnTrue}
use Rattle.std.proofs.Common.{subst, arith}
use Rattle.std.proofs.lemmas.List.{take_all}
use Rattle.std.proofs.lemmas.List.Elements.{All-append, All-cons}
use Rattle.chr_base.specs.declared.rule.Rule.{Rule}
use Rattle.chr_base.specs.Rules.{heads_of}
use Rattle.chr_plans.specs.Joined.{HasThere, IsLocal}

pub on_heads : (columns : List ℕ) (x : ℕ) (r : Rule) (b : Bool) → All (HasThere columns x) r.kept.items
    → OnTrue b (All (HasThere columns x) r.removed.items) → OnTrue b (All (HasThere columns x) (heads_of r))
on_heads columns x r true kept removed = All-append (HasThere columns x) r.kept.items r.removed.items kept removed
on_heads columns x r false kept removed = tt

pub on_body : (columns : List ℕ) (x : ℕ) (r : Rule) (b : Bool) → All (HasThere columns x) (heads_of r)
    → OnTrue b (All (HasThere columns x) r.body.items) → OnTrue b (IsLocal columns r)
on_body columns x r true heads body = (x, heads, body)
on_body columns x r false heads body = tt

pub all_local : (columns : List ℕ) (rules : List Rule) (r : Rule) (b : Bool) → 1 ≤ length rules → r ≡ get_or rules 0 r
    → IsLocal columns r → OnTrue b (All (IsLocal columns) (take (length rules - 1) (drop 1 rules)))
    → OnTrue b (All (IsLocal columns) rules)
all_local columns [] r b l e h more = absurd (omega (arith, l))
all_local columns (x ∷ rules) r true l e h more =
    let P : Rule → Type 0 = IsLocal columns in
    let n : take (length (x ∷ rules) - 1) rules ≡ rules = take_all (length (x ∷ rules) - 1) rules (omega arith) in
    All-cons P x rules (subst P e h) (subst (λ rs. All P rs) n more)
all_local columns (x ∷ rules) r false l e h more = tt
