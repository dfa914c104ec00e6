-- What is kept of an input decides its output.
use Rattle.std.proofs.Common.{◌≡◌, ℕ, ◌+◌, ◌-◌, ◌^◌, ◌<◌, List, [], ◌++◌, length, sym, ap, ◌∙◌, append-nil, subst}
use Rattle.std.proofs.Common.{arith}
use Rattle.std.specs.Prelude.{Bool, true, false, Option, Some, None, IfSome}
use Rattle.std.specs.Bool.{OnTrue, OnFalse}
use Rattle.std.specs.Io.KnownBytes.{Consumes, IsAtEnd}
use Rattle.chr_device.specs.Devices.{ReadsOn}
use Rattle.chr_read.specs.declared.reader.TheConstants.{MAX_TEXT}
use Rattle.chr_answers.specs.Lines.{lines}
use Rattle.chr_report.specs.Inputs.{text_of}
use Rattle.chr_report.specs.Outputs.{Decides, IsOutput}
use Rattle.chr_report.specs.working.Divided.{IsUndivided}
use Rattle.chr_report.proofs.Inputs.{read_more, text_too_long, too_long_output}

-- all that is read decides the output
all_decide : (from to : Option (List ℕ)) (kept : List ℕ) → Consumes from to kept → IsAtEnd to
    → IfSome from (Decides kept)
all_decide None to kept c e = tt
all_decide (Some x) None kept c e = absurd c
all_decide (Some x) (Some y) kept c e = λ verb wanted status out o. subst (λ i. IsOutput verb wanted i status out)
    (sym (c ∙ ap (λ l. kept ++ l) e ∙ append-nil kept)) o

pub both_decide : (from to next : Option (List ℕ)) (start some kept : List ℕ) → start ≡ [] → ReadsOn from to start some
    → ReadsOn to next some kept → IsAtEnd next → IfSome from (Decides kept)
both_decide from to next start some kept s r q e =
    all_decide from next kept (read_more from to next r.bytes q.bytes kept
    (q.held ∙ ap (λ l. l ++ q.bytes) (r.held ∙ ap (λ l. l ++ r.bytes) s)) r.read q.read) e

-- no bytes are more than any number of a word
pub all_are_read : (ended : Bool) (next : Option (List ℕ)) (kept : List ℕ) → length kept < 2 ^ 64
    → OnTrue ended (IsAtEnd next) → OnFalse ended (2 ^ 64 - 1 < length kept) → IsAtEnd next
all_are_read true next kept l e m = e
all_are_read false next kept l e m = absurd (omega (arith, l, m))

-- the beginning of a text that is too long decides the output
long_decides : (from to : Option (List ℕ)) (kept : List ℕ) → Consumes from to kept → MAX_TEXT + 4 < length kept
    → IsUndivided kept → IfSome from (Decides kept)
long_decides None to kept c l u = tt
long_decides (Some x) None kept c l u = absurd c
long_decides (Some x) (Some y) kept c l u = λ verb wanted status out o.
    let here : MAX_TEXT < length (text_of (lines kept)) =
    subst (λ b. MAX_TEXT < length (text_of (lines b))) (append-nil kept) (text_too_long kept [] u l) in
    let all : MAX_TEXT < length (text_of (lines x)) = subst (λ b. MAX_TEXT < length (text_of (lines b))) (sym c)
    (text_too_long kept y u l) in
    too_long_output verb kept x out wanted status here all o

-- all that is held was read
pub all_consumed : (from to : Option (List ℕ)) (start kept : List ℕ) → start ≡ [] → ReadsOn from to start kept
    → Consumes from to kept
all_consumed from to start kept s r = subst (Consumes from to) (sym (r.held ∙ ap (λ b. b ++ r.bytes) s)) r.read

pub beginning_decides : (from to : Option (List ℕ)) (start kept : List ℕ) → start ≡ [] → ReadsOn from to start kept
    → (MAX_TEXT + 4 < length kept) × IsUndivided kept → IfSome from (Decides kept)
beginning_decides from to start kept s r l =
    long_decides from to kept (all_consumed from to start kept s r) l.0 l.1

-- all of an input decides the output
pub all_kept_decide : (from to : Option (List ℕ)) (start kept : List ℕ) → start ≡ [] → ReadsOn from to start kept
    → IsAtEnd to → IfSome from (Decides kept)
all_kept_decide from to start kept s r e = all_decide from to kept (all_consumed from to start kept s r) e

-- an input, or a beginning of it, in which the program text has not ended, decides the output if all is read or the
-- text is too long
pub undivided_decides : (ended : Bool) (from to : Option (List ℕ)) (start kept : List ℕ) → start ≡ []
    → ReadsOn from to start kept → OnTrue ended (IsAtEnd to) → OnFalse ended (MAX_TEXT + 4 < length kept)
    → IsUndivided kept → IfSome from (Decides kept)
undivided_decides true from to start kept s r e m u = all_kept_decide from to start kept s r e
undivided_decides false from to start kept s r e m u =
    long_decides from to kept (all_consumed from to start kept s r) m u
