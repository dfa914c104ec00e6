use Rattle.std.proofs.Common.{sym, ap, ◌∙◌, subst, ◌++◌, map}
use Rattle.std.specs.Prelude.{string_bytes}
use Rattle.chr_base.specs.Programs.{declarations, rules_of}
use Rattle.chr_read.specs.CanonicalTexts.{ended_clauses, declaration_clauses, weight_clauses, rule_clause}
use Rattle.chr_read.specs.working.Views.{declared_view}
use Rattle.chr_read.specs.RoundTrips.{ComesBack}
use Rattle.chr_read.proofs.RoundTrip.{round_trip}
use Rattle.chr_read.proofs.Written.{whole_written}
use Rattle.chr_read.proofs.writer.write.Goals as goal

pub returns : goal.returns
returns c =
    let ds = declarations c.args.program.now in
    let all = map declared_view c.in_ok-all.all.items in
    let text = whole_written (string_bytes c.push_declaration.new.out) (string_bytes c.push_weights.new.out)
    (string_bytes c.push_rules.new.out) all ds (rules_of c.args.program.now) c.in_ok-all.ensures
    (c.in_ok-push_declaration.ensures ∙ (λ i. c.new-out.ensures.bytes i
    ++ ended_clauses (declaration_clauses (map declared_view (c.deref.ensures.value i)))))
    (c.in_ok-push_weights.ensures ∙ ap (λ x. string_bytes c.push_declaration.new.out
    ++ ended_clauses (weight_clauses (map declared_view x))) c.deref-2.ensures.value)
    (c.in_ok-push_rules.ensures ∙ ap (λ x. string_bytes c.push_weights.new.out
    ++ ended_clauses (map (rule_clause ds) x)) c.rules.ensures) in
    record { text = text; round_trip = subst (ComesBack c.args.program.now) (sym text) (round_trip c.args.program.now) }
