-- What a run leaves of its devices is what the status tells.
use Rattle.std.proofs.Common.{◌≡◌, ◌∙◌, ℕ, ap, inl, inr, refl}
use Rattle.std.specs.Prelude.{◌⊎◌, ◌||◌, Bool, true, false, Result, IsErrOf, OnOk}
use Rattle.std.proofs.lemmas.Result.{on_ok_weaker}
use Rattle.chr_device.specs.Devices.{has_failed}
use Rattle.chr_device.specs.declared.fault.RunFault.{RunFault}
use Rattle.chr_device.specs.declared.fault.RunFault.TheVariants.{Device, Memory}
use Rattle.chr_report.specs.declared.running.Status.{Status}
use Rattle.chr_report.specs.declared.wire.Streams.{Streams}
use Rattle.chr_report.specs.Wires.{is_broken}
use Rattle.chr_start.specs.Statuses.{EndsBy, WritesLast, status_of}

or_true : (b : Bool) → (b || true) ≡ true
or_true true = refl
or_true false = refl

module _ {R W : Type 0} (to : Streams R W) where
  pub neither_failed : (has_failed to.reader ≡ false) × (has_failed to.writer ≡ false) → is_broken to ≡ false
  neither_failed h = ap (λ b. b || has_failed to.writer) h.0 ∙ h.1

  pub one_failed : (has_failed to.reader ≡ true) ⊎ (has_failed to.writer ≡ true) → is_broken to ≡ true
  one_failed (inl r) = ap (λ b. b || has_failed to.writer) r
  one_failed (inr w) = ap (λ b. has_failed to.reader || b) w ∙ or_true (has_failed to.reader)

  pub ends_by : (status : ℕ) (r : Result Status RunFault) → status ≡ status_of r
      → OnOk r ((has_failed to.reader ≡ false) × (has_failed to.writer ≡ false))
      → (IsErrOf r Device → (has_failed to.reader ≡ true) ⊎ (has_failed to.writer ≡ true))
      → (IsErrOf r Memory → (has_failed to.reader ≡ false) × (has_failed to.writer ≡ false))
      → EndsBy to status r
  ends_by status r is whole device memory = record {
    status_is = is;
    whole = on_ok_weaker r neither_failed whole;
    device = λ e. one_failed (device e);
    memory = λ e. neither_failed (memory e);
  }
