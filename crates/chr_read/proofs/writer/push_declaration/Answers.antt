use Rattle.std.proofs.Common.{ap, map}
use Rattle.chr_read.specs.working.Views.{declared_view}
use Rattle.chr_read.proofs.Written.{declaration_written}
use Rattle.chr_read.proofs.writer.push_declaration.Goals as goal

pub returns-in_ok-push_str-2 : goal.returns-in_ok-push_str-2
returns-in_ok-push_str-2 c =
    declaration_written _ _ _ _ _ (declared_view c.in-Some.first.now) (map declared_view c.in-Some.rest.now)
    (map declared_view c.args.all.now) c.in_ok-push_str.ensures.bytes c.in_ok-push_symbol.ensures
    c.in_ok-push_more_symbols.ensures c.in_ok-push_str-2.ensures.bytes
    (ap (map declared_view) c.in-Some.ensures.cases.0)
