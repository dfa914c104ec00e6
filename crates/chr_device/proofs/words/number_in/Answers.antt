use Rattle.std.proofs.Common.{List, ℕ, sym, subst}
use Rattle.std.specs.Prelude.{Option}
use Rattle.std.specs.Str.Parse.{ParsesUnsigned, ExplainsUnsignedError, HasUnsignedDigitsIfOk}
use Rattle.clap.specs.Words.{found_of, subcommand_rows_of}
use Rattle.chr_device.specs.working.Numbers.{IsReadFrom}
use Rattle.chr_device.proofs.Numbers.{one_is_read, text_met}
use Rattle.chr_device.proofs.words.number_in.Goals as goal

pub returns-in-Some : goal.returns-in-Some
returns-in-Some c =
    let met = text_met c.args.name.now (subcommand_rows_of c.args.matches.now)
    (found_of c.in-Some.options.now) c.in-Some.ensures.rows in
    let read = one_is_read (λ bs r. ParsesUnsigned 32 10 bs r × ExplainsUnsignedError 10 bs r
    × HasUnsignedDigitsIfOk bs r) (λ u x given. given.0)
    c.args.name.now (found_of c.in-Some.options.now) c.get_one.result c.unwrap_or.result c.get_one.ensures.none
    c.get_one.ensures.value c.unwrap_or.ensures in
    subst (λ (o : Option (List ℕ)). IsReadFrom o c.unwrap_or.result) (sym met) read
