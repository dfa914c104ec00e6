-- Words that gave no settings.
use Rattle.std.proofs.Common.{◌≡◌, ℕ, List, [], sym, subst, append-nil, inl, inr, refl}
use Rattle.std.specs.Prelude.{◌≢◌, ◌⊎◌, Bool, false, Option, Some, None, Result, Err, IsErrOf, ⊤}
use Rattle.std.specs.Io.KnownBytes.{Appends}
use Rattle.chr_device.specs.Settings.{IsOfFault}
use Rattle.chr_device.specs.Words.{faults_of}
use Rattle.chr_device.specs.declared.fault.RunFault.{RunFault}
use Rattle.chr_device.specs.declared.fault.RunFault.TheVariants as run
use Rattle.chr_device.specs.declared.words.Verb.{Verb}
use Rattle.chr_device.specs.declared.words.WordsFault.{WordsFault}
use Rattle.chr_device.specs.declared.words.WordsFault.TheVariants as words
use Rattle.chr_report.specs.declared.running.Status.{Status}
use Rattle.chr_report.specs.declared.wanted.Wanted.{Wanted}
use Rattle.chr_report.specs.declared.wire.Streams.{Streams}
use Rattle.chr_report.specs.Wires.{is_broken}
use Rattle.chr_start.specs.Statuses.{EndsBy, ExplanationEnds, RunEnds, WritesLast}

-- nothing is written
appends_nothing : (known : Option (List ℕ)) → Appends known known []
appends_nothing None = tt
appends_nothing (Some xs) = sym (append-nil xs)

abbrev no_memory : Result Status RunFault
no_memory = Err run.Memory

module _ {R W : Type 0} (s : Streams R W) (status : ℕ) (whole : is_broken s ≡ false) where
  memory_told : status ≡ 4 → EndsBy s status (Err run.Memory)
  memory_told is = record {
    status_is = is;
    whole = tt;
    device = λ (e : IsErrOf no_memory run.Device). cc;
    memory = λ _. whole;
  }

  nothing_written : WritesLast s s (Err run.Memory)
  nothing_written = record { unread = λ _. refl; unanswered = λ _. refl }

  -- where `clap` takes the words, memory ran out
  pub memory_ends : (ws : List (List ℕ)) (fault : WordsFault) (bytes known : Option (List ℕ)) (verb : Verb)
      (wanted : Wanted) → faults_of ws ≡ [] → IsOfFault (faults_of ws) fault
      → (fault ≡ words.Memory → status ≡ 4) → RunEnds s s bytes known known verb wanted status
  memory_ends ws (words.Words e) bytes known verb wanted none is told =
      absurd (subst (λ ks. IsOfFault ks (words.Words e)) none is).0
  memory_ends ws words.Memory bytes known verb wanted none is told = record {
    outcome = Err run.Memory;
    ends = memory_told (told refl);
    ok = tt;
    err = inl (appends_nothing known);
    last = λ _. nothing_written;
  }

  pub memory_ends_explanation : (wide : Bool) (ws : List (List ℕ)) (fault : WordsFault)
      (bytes : Option (List ℕ)) → faults_of ws ≡ [] → IsOfFault (faults_of ws) fault
      → (fault ≡ words.Memory → status ≡ 4) → ExplanationEnds s s wide bytes status
  memory_ends_explanation wide ws (words.Words e) bytes none is told =
      absurd (subst (λ ks. IsOfFault ks (words.Words e)) none is).0
  memory_ends_explanation wide ws words.Memory bytes none is told = record {
    outcome = Err run.Memory;
    ends = memory_told (told refl);
    ok = tt;
    last = nothing_written;
  }

abbrev is_words : WordsFault → Type 0
is_words (words.Words e) = ⊤
is_words words.Memory = ⊥

-- the status is 2 or 4
pub status_of_refused : (fault : WordsFault) (status : ℕ) → (fault ≡ words.Memory → status ≡ 4)
    → (fault ≢ words.Memory → status ≡ 2) → (status ≡ 2) ⊎ (status ≡ 4)
status_of_refused (words.Words e) status memory other = inl (other (λ is. subst is_words is tt))
status_of_refused words.Memory status memory other = inr (memory refl)
