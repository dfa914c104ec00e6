-- The variables of a rule, counted term by term.
use Rattle.std.specs.Prelude.{◌≡◌, ℕ, ◌+◌, ◌<◌, true, List, ◌++◌, length, get_or, drop, Some, is_some}
use Rattle.std.proofs.Common.{sym, ap, ◌∙◌}
use Rattle.std.proofs.lemmas.List.{drop_more}
use Rattle.chr_base.specs.declared.term.Pattern.{Pattern}
use Rattle.chr_base.specs.declared.rule.Rule.{Rule}
use Rattle.chr_base.specs.Rules.{heads_of, no_pattern}
use Rattle.chr_base.specs.RuleTests.{numbered, terms_of}
use Rattle.chr_base.proofs.Instances.{numbered_rule}
use Rattle.chr_base.proofs.Terms.{first_numbered, then_numbered}

-- the heads from a place on: its terms come first
pub terms_from : (ps : List Pattern) (i : ℕ) → i < length ps → terms_of (drop i ps)
    ≡ (get_or ps i no_pattern).args.items ++ terms_of (drop (i + 1) ps)
terms_from ps i h = ap terms_of (drop_more ps i no_pattern h)

-- counting place by place: the next place is numbered, and what follows is counted on from there
pub place_numbered : (r : Rule) (i n : ℕ) → i < length (heads_of r) → numbered n (terms_of (drop i (heads_of r)))
    ≡ numbered 0 (terms_of (heads_of r))
    → is_some (numbered n (get_or (heads_of r) i no_pattern).args.items) ≡ true
place_numbered r i n l e =
    first_numbered n (get_or (heads_of r) i no_pattern).args.items (terms_of (drop (i + 1) (heads_of r)))
    (ap (λ ts. is_some (numbered n ts)) (sym (terms_from (heads_of r) i l)) ∙ ap is_some e ∙ numbered_rule r)

pub place_counted : (r : Rule) (i n m : ℕ) → i < length (heads_of r) → numbered n (terms_of (drop i (heads_of r)))
    ≡ numbered 0 (terms_of (heads_of r))
    → numbered n (get_or (heads_of r) i no_pattern).args.items ≡ Some m
    → numbered m (terms_of (drop (i + 1) (heads_of r))) ≡ numbered 0 (terms_of (heads_of r))
place_counted r i n m l e k =
    sym (then_numbered n m (get_or (heads_of r) i no_pattern).args.items (terms_of (drop (i + 1) (heads_of r))) k)
    ∙ ap (numbered n) (sym (terms_from (heads_of r) i l)) ∙ e
