use Rattle.std.proofs.Common.{◌≡◌, ◌+◌, ◌-◌, ◌<◌, ◌⊎◌, length, take, drop, slice_index_or, ap, arith, inl, inr, rules}
use Rattle.std.proofs.Common.{subst, sym, ◌∙◌}
use Rattle.std.proofs.lemmas.Grind.{get_or_default_zero}
use Rattle.chr_json.specs.Lines.{is_blank_line}
use Rattle.chr_answers.specs.Lines.{HasNoFeed}
use Rattle.chr_answers.specs.Shortened.{StandsFor}
use Rattle.chr_answers.proofs.Shortened.{between, last_of, shortened, shortened_none}
use Rattle.chr_answers.proofs.shortening.shorten.Goals.{then-is_blank, else-is_blank}
use Rattle.chr_answers.proofs.shortening.shorten.Goals as goal
use mathlib.Core.Bool.{true≢false}

pub returns-clause-stands : goal.returns-clause-stands
returns-clause-stands c =
    let line = c.args.line.now.items in
    let kept = c.if-is_blank.kept in
    let all : c.deref.result.now ≡ line = search rules in
    let len : c.len-end.result ≡ length line = search rules in
    let first : c.len.result ≡ length line = search rules in
    let more = c.if-len-le-MOST_HELD.false in
    let long : 1048577 + 1 < length line = omega (arith, first, more) in
    let blank : c.is_blank.result ≡ is_blank_line (between line 1048577) =
    c.is_blank.ensures ∙ ap (λ l. is_blank_line (take (c.len-end.result - 1 - 1048577) (drop 1048577 l))) all
    ∙ ap (λ n. is_blank_line (take (n - 1 - 1048577) (drop 1048577 line))) len in
    subst (λ cut. StandsFor cut line) (sym c.truncate.ensures.items)
    (shortened line 1048577 kept (omega arith) long
    (λ e. elim c.if-is_blank.branch as (λ _. kept ≡ last_of line) [
      | then-is_blank w ↦ (let k : kept ≡ last_of line = w.kept-is ∙ w.index.ensures
          ∙ get_or_default_zero line (c.len-end.result - 1) w.index.result.now (omega (arith, len, long))
          ∙ ap (λ n. slice_index_or line (n - 1) 0) len in k)
      | else-is_blank w ↦ absurd (true≢false (sym (blank ∙ e) ∙ w.if-is_blank.false))
    ])
    (λ e. elim c.if-is_blank.branch as (λ _. kept ≡ 120) [
      | then-is_blank w ↦ absurd (true≢false (sym w.if-is_blank.true ∙ blank ∙ e))
      | else-is_blank w ↦ w.kept-is
    ]))

pub returns-clause-unended : goal.returns-clause-unended
returns-clause-unended c none =
    let line = c.args.line.now.items in
    let kept = c.if-is_blank.kept in
    let len : c.len-end.result ≡ length line = search rules in
    let first : c.len.result ≡ length line = search rules in
    let more = c.if-len-le-MOST_HELD.false in
    let long : 1048577 + 1 < length line = omega (arith, first, more) in
    subst HasNoFeed (sym c.truncate.ensures.items)
    (shortened_none line 1048577 kept long none
    (elim c.if-is_blank.branch as (λ _. (kept ≡ last_of line) ⊎ (kept ≡ 120)) [
      | then-is_blank w ↦ inl (let k : kept ≡ last_of line = w.kept-is ∙ w.index.ensures
          ∙ get_or_default_zero line (c.len-end.result - 1) w.index.result.now (omega (arith, len, long))
          ∙ ap (λ n. slice_index_or line (n - 1) 0) len in k)
      | else-is_blank w ↦ inr w.kept-is
    ]))
