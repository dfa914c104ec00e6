-- What is written for an input of which a beginning was read.
use Rattle.std.proofs.Common.{◌≡◌, ℕ, ◌+◌, ◌-◌, ◌<◌, ◌≤◌, ◌⊎◌, Bool, true, false, List, [], ◌∷◌, ◌++◌, length, take}
use Rattle.std.proofs.Common.{refl, sym, ap, ◌∙◌, append_assoc, append-nil, length-append, subst, inl, inr, arith}
use Rattle.std.specs.Prelude.{Option, Some, None, IfSome, Result, Ok, Err, codes, nat_eq, if◌then◌else◌}
use Rattle.std.specs.List.{ends_with, onto_first}
use Rattle.std.proofs.lemmas.Bool.Decides.{Decides-eqb}
use Rattle.std.proofs.lemmas.List.{length-take-le}
use Rattle.std.proofs.lemmas.Slice.Eq.{slice_eq-Decides}
use Rattle.std.specs.Io.KnownBytes.{Appends, Consumes}
use Rattle.std.proofs.KnownBytes.{Consumes-trans}
use Rattle.chr_base.specs.declared.program.Program.{Program}
use Rattle.chr_device.specs.declared.words.Verb.{Verb}
use Rattle.chr_device.specs.declared.words.Verb.TheVariants.{Run}
use Rattle.chr_read.specs.declared.fault.ReadFault.{ReadFault}
use Rattle.chr_read.specs.declared.fault.ReadFault.TheVariants as fault
use Rattle.chr_read.specs.declared.reader.TheConstants.{MAX_TEXT}
use Rattle.chr_read.specs.ProgramTexts.{IsAnswer}
use Rattle.chr_report.specs.declared.wanted.Wanted.{Wanted}
use Rattle.chr_report.specs.declared.running.Status.{Status}
use Rattle.chr_report.specs.declared.running.Status.TheVariants.{Refused}
use Rattle.chr_answers.specs.Lines.{lines, without_return}
use Rattle.chr_report.specs.Inputs.{is_divider, text_of}
use Rattle.chr_report.specs.Outputs.{IsOutput, IsReadOutput}
use Rattle.chr_report.specs.Served.{AllAnswered, has_divider}
use Rattle.chr_answers.specs.Lines.{HasNoFeed}
use Rattle.chr_report.specs.Written.{Writes}
use Rattle.chr_report.specs.working.Divided.{AreText, Divides, IsDivided, IsUndivided}
use Rattle.chr_report.specs.working.Serving.{WritesText}
use Rattle.chr_answers.proofs.LineLaws.{some_line}

-- ---- after the divider

output_divided : (text front more out : List ℕ) (wanted : Wanted) (answer : Result Program ReadFault) (status : Status)
    → Divides text front → IsAnswer text answer → IsReadOutput answer wanted (lines more) status out
    → IsOutput Run wanted (front ++ more) status out
output_divided text front more out wanted answer status d a h = (
  answer,
  subst (λ t. IsAnswer t answer) (sym (d.text_is more)) a,
  subst (λ cs. IsReadOutput answer wanted cs status out) (sym (d.commands more)) h,
)

-- bytes that were read, and all that the reader has then, are all that it had
all_read : (from to : Option (List ℕ)) (bytes input : List ℕ) → Consumes from to bytes → IfSome to (λ all. input ≡ all)
    → IfSome from (λ all. bytes ++ input ≡ all)
all_read None to bytes input c i = tt
all_read (Some x) None bytes input c i = absurd c
all_read (Some x) (Some y) bytes input c i = ap (λ l. bytes ++ l) i ∙ sym c

pub divided_written : (from to : Option (List ℕ)) (bytes text first : List ℕ) (wanted : Wanted) (status : Status)
    (IsWritten : List ℕ → Type 0) → Consumes from to bytes → IsDivided bytes text first
    → WritesText (IsAnswer text) first to wanted status IsWritten → Writes from Run wanted status IsWritten
divided_written from to bytes text first wanted status IsWritten c d w = record {
  input = bytes ++ w.input;
  is_read = all_read from to bytes w.input c w.is_read;
  out = w.out;
  is_output =
      subst (λ b. IsOutput Run wanted b status w.out) (sym
      (ap (λ b. b ++ w.input) d.are ∙ append_assoc d.front first w.input))
      (output_divided text d.front (first ++ w.input) w.out wanted w.answer status d.divides w.is_answer w.output);
  is_written = w.is_written;
}

-- ---- before the divider

no_divider : (front : List ℕ) → AreText front → has_divider front ≡ false
no_divider front t = ap has_divider (sym (append-nil front)) ∙ t.divider []

pub undivided_answered : (from to : Option (List ℕ)) (bytes : List ℕ) (wanted : Wanted) (old new : Option (List ℕ))
    → Consumes from to bytes → IsUndivided bytes → Appends old new [] → AllAnswered from to old new wanted
undivided_answered from to bytes wanted old new c u w = record {
  front = u.front;
  line = u.line;
  read = subst (Consumes from to) u.are c;
  whole = u.begins.whole;
  unended = u.unended;
  written = rw (no_divider u.front u.begins) w;
}

-- ---- a text that is too long

-- a line that has begun is the beginning of the first line
first_line : (line more : List ℕ) → HasNoFeed line → (rest : List ℕ) × (ls : List (List ℕ))
    × (lines (line ++ more) ≡ (line ++ rest) ∷ ls)
first_line [] more h = some_line more
first_line (b ∷ bs) more h =
    let f = first_line bs more h.1 in
    (f.0, f.1, rw h.0 (ap (onto_first b) f.2))

no_shorter : (l : List ℕ) (ls : List (List ℕ)) → is_divider l ≡ false → length l ≤ length (text_of (l ∷ ls))
no_shorter l [] e = rw e (omega arith)
no_shorter l (m ∷ ls) e = rw e (omega (arith, length-append l (10 ∷ text_of (m ∷ ls))))

three : (b : Bool) (l : List ℕ) → (if b then take (length l - 1) l else l) ≡ codes "---" → length l ≤ 4
three true l e = let size = ap length e in let cut = length-take-le (length l - 1) l (omega arith) in
    omega (arith, size, cut)
three false l e = let size = ap length e in omega (arith, size)

divider_short : (l : List ℕ) → is_divider l ≡ true → length l ≤ 4
divider_short l e = three (ends_with nat_eq l (13 ∷ [])) l
    ((slice_eq-Decides Decides-eqb (without_return l) (codes "---") _ refl).0 e)

text_longer : (b : Bool) (line rest : List ℕ) (ls : List (List ℕ)) → is_divider (line ++ rest) ≡ b → (length line ≤ 4)
    ⊎ (length line ≤ length (text_of ((line ++ rest) ∷ ls)))
text_longer true line rest ls e = let short = divider_short (line ++ rest) e in
    inl (omega (arith, short, length-append line rest))
text_longer false line rest ls e = let long = no_shorter (line ++ rest) ls e in
    inr (omega (arith, long, length-append line rest))

long_enough : (all front line rest whole : ℕ) → MAX_TEXT + 4 < all → all ≡ front + line → whole ≡ front + rest
    → (line ≤ 4) ⊎ (line ≤ rest) → MAX_TEXT < whole
long_enough all front line rest whole l e f (inl s) = omega (arith, l, e, f, s)
long_enough all front line rest whole l e f (inr s) = omega (arith, l, e, f, s)

pub text_too_long : (bytes more : List ℕ) → IsUndivided bytes → MAX_TEXT + 4 < length bytes
    → MAX_TEXT < length (text_of (lines (bytes ++ more)))
text_too_long bytes more u l =
    let f = first_line u.line more u.unended in
    let text : text_of (lines (bytes ++ more)) ≡ u.front ++ text_of ((u.line ++ f.0) ∷ f.1) =
    ap (λ b. text_of (lines (b ++ more))) u.are ∙ ap (λ b. text_of (lines b)) (append_assoc u.front u.line more)
    ∙ u.begins.text (u.line ++ more) ∙ ap (λ ls. u.front ++ text_of ls) f.2 in
    let size : length bytes ≡ length u.front + length u.line = ap length u.are ∙ length-append u.front u.line in
    let sum = length-append u.front (text_of ((u.line ++ f.0) ∷ f.1)) in
    rw text (long_enough (length bytes) (length u.front) (length u.line) _ _ l size sum
    (text_longer (is_divider (u.line ++ f.0)) u.line f.0 f.1 refl))

-- the line of a text that is too long is that of any longer beginning of the input
pub too_long_output : (verb : Verb) (short long out : List ℕ) (wanted : Wanted) (status : Status)
    → MAX_TEXT < length (text_of (lines short)) → MAX_TEXT < length (text_of (lines long))
    → IsOutput verb wanted short status out → IsOutput verb wanted long status out
too_long_output verb short long out wanted status s l (Ok p, a, h) = let fits = a.0 in absurd (omega (arith, s, fits))
too_long_output verb short long out wanted status s l (Err fault.TooLong, a, h) = (Err fault.TooLong, l, h)
too_long_output verb short long out wanted status s l (Err (fault.Bad n k), a, h) = let fits = a.0 in
    absurd (omega (arith, s, fits))
too_long_output verb short long out wanted status s l (Err fault.Memory, a, h) = absurd h.1

-- a program whose text is too long is refused
pub too_long_refused : (verb : Verb) (input out : List ℕ) (wanted : Wanted) (status : Status)
    → MAX_TEXT < length (text_of (lines input)) → IsOutput verb wanted input status out → status ≡ Refused
too_long_refused verb input out wanted status l (Ok p, a, h) = let fits = a.0 in absurd (omega (arith, l, fits))
too_long_refused verb input out wanted status l (Err e, a, h) = h.0

-- ---- reads

-- bytes that are read after others are kept with these
pub read_more : (from to next : Option (List ℕ)) (bytes more all : List ℕ) → all ≡ bytes ++ more
    → Consumes from to bytes → Consumes to next more → Consumes from next all
read_more from to next bytes more all e c d = subst (Consumes from next) (sym e)
    (Consumes-trans from to next bytes more c d)
