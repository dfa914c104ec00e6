use Rattle.std.proofs.Common.{◌≡◌, ◌∙◌, map, string_bytes, refl}
use Rattle.std.specs.Prelude.{◌⊎◌}
use Rattle.std.specs.Process.{exit_status}
use Rattle.chr_device.specs.Words.{verb_met, wide_met}
use Rattle.chr_report.specs.Wires.{reader_of, writer_of}
use Rattle.chr_start.specs.Statuses.{wanted_met}
use Rattle.chr_start.proofs.Ended.{neither_failed}
use Rattle.chr_start.proofs.RefusedWords.{memory_ends, memory_ends_explanation, status_of_refused}
use Rattle.chr_start.proofs.TakenWords.{explanation_ends, run_ends}
use Rattle.chr_start.proofs.run_words.Goals as goal

pub returns-in-Ok : goal.returns-in-Ok
returns-in-Ok g c =
    let words = map string_bytes c.args.words.now in
    let read = c.in-Ok.ensures in
    let fits = c.fitting.ensures in
    let s = c.fitting.result in
    record {
      ends = record {
        taken =
            λ none.
            run_ends _ _ words s _ _ (fits.command ∙ read.command) (fits.wide ∙ read.wide) _ _
            (fits.replicas ∙ read.replicas) c.run_settings.ensures.answered;
        explained =
            λ none.
            explanation_ends _ _ words s _ _ (fits.command ∙ read.command) (fits.wide ∙ read.wide)
            c.run_settings.ensures.explained;
        refused = λ some. absurd (some read.taken);
      };
    }

pub returns-in-Err : goal.returns-in-Err
returns-in-Err g c =
    let words = map string_bytes c.args.words.now in
    let s = c.args.streams.now in
    let bytes = g.R.Read.remaining (reader_of s) in
    let known = g.W.Write.contents (writer_of s) in
    let fault = c.in-Err.fault in
    let whole = neither_failed s (c.requires.reads, c.requires.writes) in
    record {
      ends = record {
        taken =
            λ none other.
            memory_ends s _ whole words fault bytes known (verb_met words) (wanted_met words) none
            c.in-Err.ensures.refused c.refuse_words.ensures.memory;
        explained =
            λ none is.
            memory_ends_explanation s _ whole (wide_met words) words fault bytes none
            c.in-Err.ensures.refused c.refuse_words.ensures.memory;
        refused =
            λ some.
            record {
              status_is = status_of_refused fault _ c.refuse_words.ensures.memory c.refuse_words.ensures.words;
              untouched = refl;
            };
      };
    }
