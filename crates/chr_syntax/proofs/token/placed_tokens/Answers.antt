use Rattle.std.proofs.Common.{◌≡◌, ◌+◌, ◌<◌, ◌≤◌, ◌∷◌, ◌++◌, [], map, drop, length, option_map}
use Rattle.std.proofs.Common.{ap, sym, subst, ◌∙◌, arith, rules}
use Rattle.std.proofs.lemmas.Grind.{common_steps}
use Rattle.chr_syntax.specs.working.Tokens.{token_at}
use Rattle.chr_syntax.specs.Views.{placed_view, token_view}
use Rattle.chr_syntax.proofs.Placed.{AreFoundFirst, placed_none, placed_layout, placed_next, placed_all}
use Rattle.chr_syntax.proofs.token.placed_tokens.Goals as goal

pub loop-at-init : goal.loop-at-init
loop-at-init c =
    let none : map placed_view c.new-placed.result.items ≡ [] = grind (arith, common_steps) in
    record {
      within = omega arith;
      found = subst (λ l. AreFoundFirst l c.args.bytes.now 0) (sym none) (placed_none c.args.bytes.now);
    }

pub loop-at-preserved-then-is_layout : goal.loop-at-preserved-then-is_layout
loop-at-preserved-then-is_layout c = record {
  within = omega arith;
  found = placed_layout (map placed_view c.loop-at.placed.items) c.args.bytes.now c.loop-at.at (omega arith)
      (search rules) c.loop-at.invariant.found;
}

pub loop-at-preserved : goal.loop-at-preserved
loop-at-preserved c =
    let bytes = c.args.bytes.now in
    let at = c.loop-at.at in
    let xs = map placed_view c.loop-at.placed.items in
    let token = c.placed_at-token.result in
    let n = length token.word.now in
    let read : option_map (λ t. (token_view t, n)) token.token ≡ token_at (drop at bytes) = search rules in
    let some : 0 < n = search rules in
    let within : at + n ≤ length bytes = search rules in
    let pushed : map placed_view c.push.new.self.items ≡ xs ++ option_map token_view token.token ∷ [] =
    grind (arith, common_steps) in
    record {
      within = omega (arith, within);
      found = subst (λ l. AreFoundFirst l bytes (at + n)) (sym pushed)
          (placed_next xs bytes at n token.token (omega arith) (search rules) read some c.loop-at.invariant.found);
    }

pub returns : goal.returns
returns c = placed_all (map placed_view c.loop-at.placed.items) c.args.bytes.now c.loop-at.at (omega arith)
    c.loop-at.invariant.found
