-- Texts that have lost comments and clauses are no longer.
use Rattle.std.proofs.Common.{◌≡◌, ℕ, ◌+◌, ◌≤◌, List, [], ◌∷◌, ◌++◌, length, Bool, true, false, cond, ap, arith}
use Rattle.std.proofs.Common.{length-append}
use Rattle.std.specs.Prelude.{◌==◌}
use Rattle.std.specs.List.{slice_split, count_by}
use Rattle.std.proofs.lemmas.List.Splits.{length-slice_split}
use Rattle.std.proofs.lemmas.List.Sums.{count_by-le-length}
use Rattle.chr_syntax.specs.Bytes.{outside, without_comments, line_feed, percent, is_stop}
use Rattle.chr_read.specs.declared.fault.Fault.{Fault}
use Rattle.chr_read.specs.ProgramTexts.{IsRefusedText}
use Rattle.chr_faults.specs.BadClauses.{apart_from, clause_after, without_clause}

either : (f : Bool) (x y : List ℕ) (n : ℕ) → length x ≤ n → length y ≤ n → length (cond f x y) ≤ n
either true x y n h k = h
either false x y n h k = k

length_outside : (s : Bool) (bs : List ℕ) → length (outside s bs) ≤ length bs
length_outside true [] = omega arith
length_outside false [] = omega arith
length_outside true (b ∷ bs) =
    let h : length (outside true bs) ≤ length bs = length_outside true bs in
    let k : length (outside false bs) ≤ length bs = length_outside false bs in
    either (b == line_feed) (b ∷ outside false bs) (outside true bs) (length (b ∷ bs)) (omega arith) (omega arith)
length_outside false (b ∷ bs) =
    let h : length (outside true bs) ≤ length bs = length_outside true bs in
    let k : length (outside false bs) ≤ length bs = length_outside false bs in
    either (b == percent) (outside true bs) (b ∷ outside false bs) (length (b ∷ bs)) (omega arith) (omega arith)

pub length_without_comments : (text : List ℕ) → length (without_comments text) ≤ length text
length_without_comments text = length_outside false text

length_apart : (k n : ℕ) (bs : List ℕ) → length (apart_from k n bs) ≤ length bs
length_apart k n [] = omega arith
length_apart k n (b ∷ bs) =
    let h : length (apart_from k (clause_after n b) bs) ≤ length bs = length_apart k (clause_after n b) bs in
    either (n == k) (apart_from k (clause_after n b) bs) (b ∷ apart_from k (clause_after n b) bs) (length (b ∷ bs))
    (omega arith) (omega arith)

pub length_without_clause : (k : ℕ) (text : List ℕ) → length (without_clause k text) ≤ length text
length_without_clause k text = let a : length (apart_from k 1 (without_comments text)) ≤ length
    (without_comments text) = length_apart k 1 (without_comments text) in
    let b : length (without_comments text) ≤ length text = length_without_comments text in omega arith

-- the bad clause is one of those that the text has
pub refused_within : (text : List ℕ) (n : Fault) (k : ℕ) → IsRefusedText text n k → k ≤ length text + 1
refused_within text n k r =
    let all : length (slice_split is_stop (without_comments text)) ≡ count_by is_stop (without_comments text) + 1 =
    length-slice_split is_stop (without_comments text) in
    let few : count_by is_stop (without_comments text) ≤ length (without_comments text) =
    count_by-le-length is_stop (without_comments text) in
    let less : length (without_comments text) ≤ length text = length_without_comments text in
    let parts : length (slice_split is_stop (without_comments text)) ≡ length (r.1 ++ r.2 ∷ r.3) = ap length r.5 in
    let sum : length (r.1 ++ r.2 ∷ r.3) ≡ length r.1 + length (r.2 ∷ r.3) = length-append r.1 (r.2 ∷ r.3) in
    let is : k ≡ length r.1 + 1 = r.6 in
    omega arith
