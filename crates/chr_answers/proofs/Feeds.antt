-- Bytes without line feeds, and whole lines.
use mathlib.Core.Bool.{true≢false}
use Rattle.std.proofs.Common.{◌≡◌, ℕ, zero, suc, ◌+◌, ◌<◌, List, [], ◌∷◌, ◌++◌, drop, length, take, Bool, true, false}
use Rattle.std.proofs.Common.{not, cond, refl, sym, ap, ◌∙◌, arith, subst, inl, inr, append_assoc, append-nil}
use Rattle.std.proofs.lemmas.Bool.{eqb-true}
use Rattle.std.proofs.lemmas.List.{take_more}
use Rattle.std.specs.Prelude.{◌==◌, slice_index}
use Rattle.memchr.specs.Find.{is_byte, Passes, Nowhere, NoneAfter}
use Rattle.std.specs.List.{position_or_len, onto_first}
use Rattle.chr_answers.specs.Lines.{lines}
use Rattle.chr_answers.specs.Lines.{HasNoFeed, AreWholeLines}
use Rattle.chr_answers.proofs.LineLaws.{no_test}

none_at : (b : Bool) (n x : ℕ) (xs : List ℕ) → (x == 10) ≡ b → HasNoFeed (take n xs)
    → HasNoFeed (take (cond (not b) (1 + n) 0) (x ∷ xs))
none_at true n x xs e h = tt
none_at false n x xs e h = let one : suc n ≡ 1 + n = omega arith in subst (λ m. HasNoFeed (take m (x ∷ xs))) one (e, h)

-- no line feed stands before the first one
pub first_has_none : (t : List ℕ) → HasNoFeed (take (position_or_len (λ b. b == 10) t) t)
first_has_none [] = tt
first_has_none (x ∷ xs) = none_at (x == 10) (position_or_len (λ b. b == 10) xs) x xs refl (first_has_none xs)

pub none_in_both : (l m : List ℕ) → HasNoFeed l → HasNoFeed m → HasNoFeed (l ++ m)
none_in_both [] m h g = g
none_in_both (b ∷ bs) m h g = (h.0, none_in_both bs m h.1 g)

pub lines_more : (l more : List ℕ) → HasNoFeed l → lines (l ++ 10 ∷ more) ≡ l ∷ lines more
lines_more [] more h = refl
lines_more (b ∷ bs) more h = rw h.0 (ap (onto_first b) (lines_more bs more h.1))

pub lines_last : (l : List ℕ) → HasNoFeed l → lines l ≡ l ∷ []
lines_last [] h = refl
lines_last (b ∷ bs) h = rw h.0 (ap (onto_first b) (lines_last bs h.1))

-- ---- whole lines

-- whole lines go on with one line more
pub ended_more : (front line more : List ℕ) → (front ++ (line ++ 10 ∷ [])) ++ more ≡ front ++ (line ++ 10 ∷ more)
ended_more front line more = append_assoc front (line ++ 10 ∷ []) more
    ∙ ap (λ m. front ++ m) (append_assoc line (10 ∷ []) more)

pub whole_ended : (front line : List ℕ) → AreWholeLines (front ++ (line ++ 10 ∷ []))
whole_ended front line = inr (front ++ line, sym (append_assoc front line (10 ∷ [])))

pub whole_both : (a b : List ℕ) → AreWholeLines a → AreWholeLines b → AreWholeLines (a ++ b)
whole_both a b h (inl e) = subst AreWholeLines (sym (ap (λ l. a ++ l) e ∙ append-nil a)) h
whole_both a b h (inr g) = inr (a ++ g.0, ap (λ l. a ++ l) g.1 ∙ sym (append_assoc a g.0 (10 ∷ [])))

-- what is left of whole lines are whole lines
abbrev rest_of : List ℕ → List ℕ
rest_of [] = []
rest_of (x ∷ xs) = xs

whole_rest : (x : ℕ) (xs : List ℕ) → AreWholeLines (x ∷ xs) → AreWholeLines xs
whole_rest x xs (inl e) = inl (ap rest_of e)
whole_rest x xs (inr ([], e)) = inl (ap rest_of e)
whole_rest x xs (inr (b ∷ bs, e)) = inr (bs, ap rest_of e)

whole_after : (front rest : List ℕ) → AreWholeLines (front ++ rest) → AreWholeLines rest
whole_after [] rest h = h
whole_after (x ∷ xs) rest h = whole_after xs rest (whole_rest x (xs ++ rest) h)

some_feed : (bytes : List ℕ) → HasNoFeed (bytes ++ 10 ∷ []) → ⊥
some_feed [] h = true≢false h.0
some_feed (x ∷ xs) h = some_feed xs h.1

none_left : (line : List ℕ) → AreWholeLines line → HasNoFeed line → line ≡ []
none_left line (inl e) h = e
none_left line (inr (bytes, e)) h = absurd (some_feed bytes (subst HasNoFeed e h))

-- after whole lines nothing comes in which no line ends
pub whole_left : (front line : List ℕ) → AreWholeLines (front ++ line) → HasNoFeed line → line ≡ []
whole_left front line w h = none_left line (whole_after front line w) h

-- ---- the last line feed

none_from : (text : List ℕ) (n : ℕ) → Nowhere (Passes (is_byte 10) text) n (length text) → HasNoFeed (drop n text)
none_from [] zero h = tt
none_from [] (suc n) h = tt
none_from (x ∷ xs) zero h = (
  no_test (x == 10) (h 0 (omega arith) (omega arith)),
  none_from xs zero (λ k low high. h (suc k) (omega arith) (omega (arith, high))),
)
none_from (x ∷ xs) (suc n) h = none_from xs n (λ k low high. h (suc k) (omega (arith, low)) (omega (arith, high)))

-- no line ends after the last feed
pub none_after : (text : List ℕ) (k : ℕ) → NoneAfter (Passes (is_byte 10) text) 0 (length text) k
    → HasNoFeed (drop (k + 1) text)
none_after text k h = none_from text (k + 1) h.after

pub none_ends : (text : List ℕ) → Nowhere (Passes (is_byte 10) text) 0 (length text) → HasNoFeed text
none_ends text h = none_from text 0 h

-- up to the last line feed there are whole lines
pub whole_up_to : (text : List ℕ) (k : ℕ) → k < length text → Passes (is_byte 10) text k
    → AreWholeLines (take (k + 1) text)
whole_up_to text k l p =
    inr (take k text, take_more text k 0 l ∙ ap (λ b. take k text ++ b ∷ []) (eqb-true (slice_index text k) 10 p))
