-- The program text cut off an input, line by line.
use Rattle.std.proofs.Common.{◌≡◌, ℕ, ◌+◌, ◌-◌, true, false, List, [], ◌∷◌, ◌++◌, length, take, refl, sym, ap, ◌∙◌}
use Rattle.std.proofs.Common.{append_assoc, append-nil, arith, length-append, subst}
use Rattle.std.specs.Prelude.{Option, Some, None, IfSome, IfNone}
use Rattle.std.specs.Borrow.{Bor}
use Rattle.std.proofs.Math.Seq.{take-append_seam}
use Rattle.chr_answers.specs.Lines.{lines}
use Rattle.chr_report.specs.Inputs.{is_divider, text_of, commands_of}
use Rattle.chr_report.specs.working.LinesLeft.{lines_left}
use Rattle.chr_report.proofs.Texts.{text_more, text_last, text_ended, commands_later, commands_here}

abbrev pub bytes_left : Option (Bor (List ℕ)) → List ℕ
bytes_left None = []
bytes_left (Some s) = s.now

-- what stands before the lines that are left is program text
pub record Cut (input : List ℕ) (next : Option (Bor (List ℕ))) : Type 0 where
  pub front : List ℕ
  pub whole : input ≡ front ++ bytes_left next
  pub text : text_of (lines input) ≡ front ++ text_of (lines_left next)
  pub commands : commands_of (lines input) ≡ commands_of (lines_left next)

pub uncut : (s : Bor (List ℕ)) → Cut s.now (Some s)
uncut s = record { front = []; whole = refl; text = refl; commands = refl }

-- a line, with its line feed where another line comes after it
abbrev line_bytes : List ℕ → Option (Bor (List ℕ)) → List ℕ
line_bytes line None = line
line_bytes line (Some r) = line ++ 10 ∷ []

bytes_more : (line : List ℕ) (more : Option (Bor (List ℕ))) (rest : List ℕ) → IfNone more (rest ≡ line)
    → IfSome more (λ r. rest ≡ line ++ 10 ∷ r.now) → rest ≡ line_bytes line more ++ bytes_left more
bytes_more line None rest h g = h ∙ sym (append-nil line)
bytes_more line (Some r) rest h g = g ∙ sym (append_assoc line (10 ∷ []) r.now)

texts_more : (line : List ℕ) (more : Option (Bor (List ℕ))) → is_divider line ≡ false → text_of (line ∷ lines_left more)
    ≡ line_bytes line more ++ text_of (lines_left more)
texts_more line None apart = text_last line apart ∙ sym (append-nil line)
texts_more line (Some r) apart = text_more line r.now apart ∙ sym (append_assoc line (10 ∷ []) (text_of (lines r.now)))

pub cut_more : (input : List ℕ) (next : Option (Bor (List ℕ))) (rest : Bor (List ℕ)) (line : List ℕ)
    (more : Option (Bor (List ℕ))) → Cut input next → next ≡ Some rest
    → lines rest.now ≡ line ∷ lines_left more → IfNone more (rest.now ≡ line)
    → IfSome more (λ r. rest.now ≡ line ++ 10 ∷ r.now) → is_divider line ≡ false → Cut input more
cut_more input next rest line more c is split alone before apart =
    let first : lines_left next ≡ line ∷ lines_left more = ap lines_left is ∙ split in
    record {
      front = c.front ++ line_bytes line more;
      whole = c.whole ∙ ap (λ n. c.front ++ bytes_left n) is
          ∙ ap (λ bs. c.front ++ bs) (bytes_more line more rest.now alone before)
          ∙ sym (append_assoc c.front (line_bytes line more) (bytes_left more));
      text = c.text ∙ ap (λ ls. c.front ++ text_of ls) first ∙ ap (λ bs. c.front ++ bs) (texts_more line more apart)
          ∙ sym (append_assoc c.front (line_bytes line more) (text_of (lines_left more)));
      commands = c.commands ∙ ap commands_of first ∙ commands_later line (lines_left more) apart;
    }

pub take_front : (xs ys : List ℕ) → take (length (xs ++ ys) - length ys) (xs ++ ys) ≡ xs
take_front xs ys = let e : length (xs ++ ys) - length ys ≡ length xs = simp length-append (omega arith) in
    rw e (take-append_seam xs ys)

-- the program text ends at the divider
pub cut_text : (input : List ℕ) (next : Option (Bor (List ℕ))) (rest : Bor (List ℕ)) (line : List ℕ)
    (more : Option (Bor (List ℕ))) → Cut input next → next ≡ Some rest → lines rest.now ≡ line ∷ lines_left more
    → is_divider line ≡ true
    → (take (length input - length rest.now) input ≡ text_of (lines input))
    × (commands_of (lines input) ≡ lines_left more)
cut_text input next rest line more c is split found =
    let first : lines_left next ≡ line ∷ lines_left more = ap lines_left is ∙ split in
    let whole : input ≡ c.front ++ rest.now = c.whole ∙ ap (λ n. c.front ++ bytes_left n) is in (
      subst (λ bs. take (length bs - length rest.now) bs ≡ c.front) (sym whole) (take_front c.front rest.now)
          ∙ sym (c.text ∙ ap (λ ls. c.front ++ text_of ls) first
          ∙ ap (λ bs. c.front ++ bs) (text_ended line (lines_left more) found) ∙ append-nil c.front),
      c.commands ∙ ap commands_of first ∙ commands_here line (lines_left more) found,
    )

-- where there is no divider, all is program text
pub cut_none : (input : List ℕ) (next : Option (Bor (List ℕ))) → Cut input next → next ≡ None
    → (input ≡ text_of (lines input)) × (commands_of (lines input) ≡ [])
cut_none input next c e = (
  c.whole ∙ ap (λ n. c.front ++ bytes_left n) e ∙ sym (c.text ∙ ap (λ n. c.front ++ text_of (lines_left n)) e),
  c.commands ∙ ap (λ n. commands_of (lines_left n)) e,
)

-- the bytes of a slice, and one more where there is one
abbrev pub slice_size : Option (Bor (List ℕ)) → ℕ
slice_size None = 0
slice_size (Some s) = length s.now + 1
