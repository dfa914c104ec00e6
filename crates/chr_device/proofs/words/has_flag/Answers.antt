use Rattle.std.proofs.Common.{◌∙◌, ap, codes, refl, sym}
use Rattle.clap.specs.Words.{found_of, subcommand_rows_of}
use Rattle.chr_device.specs.Words.{is_word_text}
use Rattle.chr_device.proofs.Flags.{compared, first_met}
use Rattle.chr_device.proofs.words.has_flag.Goals as goal

pub returns-in-Some : goal.returns-in-Some
returns-in-Some c =
    let met = first_met c.args.name.now (subcommand_rows_of c.args.matches.now)
    (found_of c.in-Some.options.now) c.in-Some.ensures.rows in
    c.eq.ensures ∙ compared _ (λ a b. refl) _ c.get_str.result ∙ ap (is_word_text (codes "true"))
    (c.get_str.ensures ∙ sym met)
