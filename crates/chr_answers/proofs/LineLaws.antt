-- The first line of an input, and its end.
use Rattle.std.proofs.Common.{◌≡◌, ℕ, ◌+◌, ◌<◌, List, [], ◌∷◌, ◌++◌, length, Bool, true, false, cond}
use Rattle.std.proofs.Common.{refl, sym, ap, ◌∙◌, arith}
use Rattle.std.specs.Prelude.{◌==◌}
use Rattle.std.specs.List.{position_or_len, before_first, after_first, onto_first}
use Rattle.std.proofs.lemmas.Bool.{eqb-true}
use Rattle.std.proofs.lemmas.List.Sums.{fails_before_first, passes_at_first, split_at_first, position_or_len_is}
use Rattle.std.proofs.lemmas.List.Splits.{slice_split_none, slice_split_first, join_with_byte-slice_split}
use Rattle.memchr.specs.Find.{is_byte, Passes, Nowhere, NoneBefore}
use Rattle.chr_answers.specs.Lines.{lines}
use Rattle.chr_answers.specs.Laws.{LinesAreTheInput}

pub lines_none : (t : List ℕ) → position_or_len (λ b. b == 10) t ≡ length t → lines t ≡ t ∷ []
lines_none t e = slice_split_none (λ b. b == 10) t (λ k d l. fails_before_first (λ b. b == 10) t k d
    (omega (arith, e, l)))

pub lines_some : (t : List ℕ) → position_or_len (λ b. b == 10) t < length t → lines t ≡ before_first (λ b. b == 10) t
    ∷ lines (after_first (λ b. b == 10) t)
lines_some t l = slice_split_first (λ b. b == 10) t 0 l

-- the first line, its line feed and the rest
pub split_at_feed : (t : List ℕ) → position_or_len (λ b. b == 10) t < length t → t ≡ before_first (λ b. b == 10) t ++ 10
    ∷ after_first (λ b. b == 10) t
split_at_feed t l =
    split_at_first (λ b. b == 10) t 0 l
    ∙ ap (λ x. before_first (λ b. b == 10) t ++ x ∷ after_first (λ b. b == 10) t)
    (eqb-true _ 10 (passes_at_first (λ b. b == 10) t 0 l))

pub lines_are_the_input : LinesAreTheInput
lines_are_the_input input = join_with_byte-slice_split 10 input

-- an input has at least one line
pub some_line : (r : List ℕ) → (l : List ℕ) × (ls : List (List ℕ)) × (lines r ≡ l ∷ ls)
some_line [] = ([], [], refl)
some_line (b ∷ bs) = by (b == 10) (lines bs)
  where
    by : (x : Bool) (ls : List (List ℕ)) → (l : List ℕ) × (more : List (List ℕ))
        × (cond x ([] ∷ ls) (onto_first b ls) ≡ l ∷ more)
    by true ls = ([], ls, refl)
    by false [] = (b ∷ [], [], refl)
    by false (l ∷ ls) = (b ∷ l, ls, refl)

-- ---- where the first line feed stands

pub no_test : (b : Bool) → ¬ (b ≡ true) → b ≡ false
no_test true h = absurd (h refl)
no_test false h = refl

pub feed_at : (bytes : List ℕ) (k : ℕ) → NoneBefore (Passes (is_byte 10) bytes) 0 (length bytes) k
    → Passes (is_byte 10) bytes k → k ≡ position_or_len (λ b. b == 10) bytes
feed_at bytes k h there =
    let high = h.high in
    sym (position_or_len_is (λ b. b == 10) bytes k 0 (omega (arith, high))
    (λ j l. no_test _ (h.before j (omega arith) l)) (λ _. there))

pub no_feed : (bytes : List ℕ) → Nowhere (Passes (is_byte 10) bytes) 0 (length bytes) → length bytes
    ≡ position_or_len (λ b. b == 10) bytes
no_feed bytes h = sym (position_or_len_is (λ b. b == 10) bytes (length bytes) 0 (omega arith)
    (λ j l. no_test _ (h j (omega arith) l)) (λ l. absurd (omega (arith, l))))
