-- Words that gave settings.
use Rattle.std.proofs.Common.{◌≡◌, ℕ, List, ap, sym, subst, ◌∙◌}
use Rattle.std.specs.Prelude.{◌≢◌, Option}
use Rattle.chr_device.specs.Words.{replicas_met, verb_met, wide_met}
use Rattle.chr_device.specs.declared.words.Settings.{Settings}
use Rattle.chr_device.specs.declared.words.Verb.TheVariants.{Explain}
use Rattle.chr_report.specs.declared.wire.Streams.{Streams}
use Rattle.chr_report.specs.Asked.{coverage_for, replicas_by, wanted_by}
use Rattle.chr_start.specs.Statuses.{wanted_met, ExplanationEnds, RunEnds}

-- what ends by settings ends by the words that gave them
module _ {R W : Type 0} (from to : Streams R W) (words : List (List ℕ)) (s : Settings) (bytes : Option (List ℕ))
    (status : ℕ) (command : s.command ≡ verb_met words) (wide : s.wide ≡ wide_met words) where
  pub run_ends : (old new : Option (List ℕ)) → s.replicas ≡ replicas_met words
      → (s.command ≢ Explain → RunEnds from to bytes old new s.command (wanted_by s) status)
      → verb_met words ≢ Explain → RunEnds from to bytes old new (verb_met words) (wanted_met words) status
  run_ends old new replicas ends other =
      let wanted : wanted_by s ≡ wanted_met words =
      ap (λ w. replicas_by (coverage_for w) s.replicas) wide
      ∙ ap (replicas_by (coverage_for (wide_met words))) replicas in
      subst (λ v. RunEnds from to bytes old new v (wanted_met words) status) command
      (subst (λ w. RunEnds from to bytes old new s.command w status) wanted (ends (λ is. other (sym command ∙ is))))

  pub explanation_ends : (s.command ≡ Explain → ExplanationEnds from to s.wide bytes status)
      → verb_met words ≡ Explain → ExplanationEnds from to (wide_met words) bytes status
  explanation_ends ends is = subst (λ w. ExplanationEnds from to w bytes status) wide (ends (command ∙ is))
