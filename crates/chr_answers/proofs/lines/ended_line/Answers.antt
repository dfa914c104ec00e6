use Rattle.std.proofs.Common.{◌≡◌, ◌∷◌, ◌++◌, ◌+◌, take, drop, ap, sym, ◌∙◌, arith, length-drop, subst}
use Rattle.std.specs.Prelude.{◌==◌, ◌≤◌, length}
use Rattle.std.specs.List.{position_or_len}
use Rattle.std.proofs.lemmas.List.{take_all}
use Rattle.chr_answers.specs.Lines.{HasNoFeed}
use Rattle.chr_answers.proofs.Feeds.{first_has_none}
use Rattle.chr_answers.proofs.LineLaws.{split_at_feed}
use Rattle.chr_answers.proofs.lines.ended_line.Goals as goal

pub returns-then-n-bytes-clause-none : goal.returns-then-n-bytes-clause-none
returns-then-n-bytes-clause-none c =
    let bytes = c.args.bytes.now in
    let e = c.line_len-n.ensures.value in
    let all : length bytes ≤ position_or_len (λ b. b == 10) bytes = omega (arith, e) in
    subst HasNoFeed (take_all _ bytes all) (first_has_none bytes)

pub returns-clause-some : goal.returns-clause-some
returns-clause-some c =
    let bytes = c.args.bytes.now in
    let n = c.line_len-n.result in
    let found = split_at_feed bytes (omega arith) in
    let at : bytes ≡ take n bytes ++ 10 ∷ drop (n + 1) bytes = rw c.line_len-n.ensures.value found in
    at ∙ ap (λ l. take n bytes ++ 10 ∷ l) (sym (take_all _ (drop (n + 1) bytes)
    (omega (arith, length-drop (n + 1) bytes))))

pub returns-clause-unended : goal.returns-clause-unended
returns-clause-unended c = subst (λ n. HasNoFeed (take n c.args.bytes.now)) (sym c.line_len-n.ensures.value)
    (first_has_none c.args.bytes.now)
