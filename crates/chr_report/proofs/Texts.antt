-- Program text and commands, line by line.
use Rattle.std.proofs.Common.{◌≡◌, ℕ, ◌+◌, List, [], ◌∷◌, ◌++◌, drop, suc, true, false, not, cond}
use Rattle.std.proofs.Common.{refl, sym, ap, ◌∙◌, arith, inl, append-nil}
use Rattle.std.specs.Prelude.{◌||◌}
use Rattle.std.specs.List.{list_any, position_or_len}
use Rattle.chr_answers.specs.Lines.{HasNoFeed, lines}
use Rattle.chr_answers.proofs.Feeds.{ended_more, lines_more, whole_ended}
use Rattle.chr_answers.proofs.LineLaws.{some_line}
use Rattle.chr_report.specs.Inputs.{commands_of, is_divider, text_of}
use Rattle.chr_report.specs.Served.{has_divider}
use Rattle.chr_report.specs.working.Divided.{AreText, Divides}

pub text_more : (line r : List ℕ) → is_divider line ≡ false → text_of (line ∷ lines r) ≡ line ++ 10 ∷ text_of (lines r)
text_more line r apart =
    let s = some_line r in
    ap (λ ls. text_of (line ∷ ls)) s.2 ∙ ap (λ b. cond b [] (line ++ 10 ∷ text_of (s.0 ∷ s.1))) apart
    ∙ ap (λ ls. line ++ 10 ∷ text_of ls) (sym s.2)

pub text_last : (line : List ℕ) → is_divider line ≡ false → text_of (line ∷ []) ≡ line
text_last line apart = ap (λ b. cond b [] line) apart

pub text_ended : (line : List ℕ) (ls : List (List ℕ)) → is_divider line ≡ true → text_of (line ∷ ls) ≡ []
text_ended line [] found = ap (λ b. cond b [] line) found
text_ended line (m ∷ ls) found = ap (λ b. cond b [] (line ++ 10 ∷ text_of (m ∷ ls))) found

pub commands_later : (line : List ℕ) (ls : List (List ℕ)) → is_divider line ≡ false → commands_of (line ∷ ls)
    ≡ commands_of ls
commands_later line ls apart =
    let n = position_or_len is_divider ls in
    ap (λ b. drop (cond (not b) (1 + n) 0 + 1) (line ∷ ls)) apart
    ∙ ap (λ k. drop k (line ∷ ls)) (let e : 1 + n + 1 ≡ suc (n + 1) = omega arith in e)

pub commands_here : (line : List ℕ) (ls : List (List ℕ)) → is_divider line ≡ true → commands_of (line ∷ ls) ≡ ls
commands_here line ls found = ap (λ b. drop (cond (not b) (1 + position_or_len is_divider ls) 0 + 1) (line ∷ ls)) found

pub no_text : AreText []
no_text = record { whole = inl refl; divider = λ more. refl; text = λ more. refl; commands = λ more. refl }

pub text_grows : (front line : List ℕ) → AreText front → HasNoFeed line → is_divider line ≡ false
    → AreText (front ++ (line ++ 10 ∷ []))
text_grows front line t h apart =
    let cut : (more : List ℕ) → lines (line ++ 10 ∷ more) ≡ line ∷ lines more = λ more. lines_more line more h in
    record {
      whole = whole_ended front line;
      divider = λ more. ap has_divider (ended_more front line more) ∙ t.divider (line ++ 10 ∷ more)
          ∙ ap (list_any is_divider) (cut more) ∙ ap (λ b. b || has_divider more) apart;
      text = λ more. ap (λ i. text_of (lines i)) (ended_more front line more) ∙ t.text (line ++ 10 ∷ more)
          ∙ ap (λ ls. front ++ text_of ls) (cut more) ∙ ap (λ bs. front ++ bs) (text_more line more apart)
          ∙ sym (ended_more front line (text_of (lines more)));
      commands = λ more. ap (λ i. commands_of (lines i)) (ended_more front line more) ∙ t.commands (line ++ 10 ∷ more)
          ∙ ap commands_of (cut more) ∙ commands_later line (lines more) apart;
    }

pub text_divides : (front line : List ℕ) → AreText front → HasNoFeed line → is_divider line ≡ true
    → Divides front (front ++ (line ++ 10 ∷ []))
text_divides front line t h found =
    let cut : (more : List ℕ) → lines (line ++ 10 ∷ more) ≡ line ∷ lines more = λ more. lines_more line more h in
    record {
      whole = whole_ended front line;
      divider = λ more. ap has_divider (ended_more front line more) ∙ t.divider (line ++ 10 ∷ more)
          ∙ ap (list_any is_divider) (cut more) ∙ ap (λ b. b || has_divider more) found;
      text_is = λ more. ap (λ i. text_of (lines i)) (ended_more front line more) ∙ t.text (line ++ 10 ∷ more)
          ∙ ap (λ ls. front ++ text_of ls) (cut more) ∙ ap (λ bs. front ++ bs) (text_ended line (lines more) found)
          ∙ append-nil front;
      commands = λ more. ap (λ i. commands_of (lines i)) (ended_more front line more) ∙ t.commands (line ++ 10 ∷ more)
          ∙ ap commands_of (cut more) ∙ commands_here line (lines more) found;
    }
