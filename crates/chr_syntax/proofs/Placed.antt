-- What stands at the places of a clause that is made of tokens is these tokens.
use Rattle.chr_base.proofs.Traversals.{front, front_push}
use Rattle.std.proofs.Common.{◌≡◌, ℕ, ◌+◌, ◌<◌, ◌≤◌, List, [], ◌∷◌, ◌++◌, length, map, drop, get_or, true, false}
use Rattle.std.proofs.Common.{Option, Some, None, option_map, refl, sym, ap, ◌∙◌, append-nil}
use Rattle.std.proofs.lemmas.List.{drop_all}
use Rattle.std.proofs.lemmas.Option.{none-some, same_Some}
use Rattle.chr_syntax.specs.declared.token.Token.{Token}
use Rattle.chr_syntax.specs.Bytes.{is_layout}
use Rattle.chr_syntax.specs.Lexemes.{AreTokens}
use Rattle.chr_syntax.specs.Tokens.{Tok}
use Rattle.chr_syntax.specs.Views.{token_view}
use Rattle.chr_syntax.specs.working.Tokens.{token_at, tokens_after}
use Rattle.chr_syntax.proofs.Lexed.{tokens_found}
use Rattle.chr_syntax.proofs.Lexing.{at_layout, at_token, at_none}

-- the tokens found so far, and behind them those of the bytes from a place on
abbrev pub placed_so_far : List (Option Tok) → List ℕ → ℕ → Option (List (Option Tok))
placed_so_far xs bs at = front xs (option_map (map Some) (tokens_after 0 (drop at bs)))

-- if the bytes are tokens, they are those found so far and those still found
abbrev pub AreFoundFirst : List (Option Tok) → List ℕ → ℕ → Type 0
AreFoundFirst xs bs at = (ts : List Tok) → AreTokens ts bs → placed_so_far xs bs at ≡ Some (map Some ts)

first_some : (t : Tok) (o : Option (List Tok)) → option_map (map Some) (option_map (λ ts. t ∷ ts) o)
    ≡ option_map (λ xs. Some t ∷ xs) (option_map (map Some) o)
first_some t None = refl
first_some t (Some ts) = refl

pub placed_none : (bs : List ℕ) → AreFoundFirst [] bs 0
placed_none bs ts h = ap (λ o. front [] (option_map (map Some) o)) (tokens_found bs ts h)

pub placed_layout : (xs : List (Option Tok)) (bs : List ℕ) (at : ℕ) → at < length bs → is_layout (get_or bs at 0) ≡ true
    → AreFoundFirst xs bs at → AreFoundFirst xs bs (at + 1)
placed_layout xs bs at within layout so_far ts h =
    ap (λ o. front xs (option_map (map Some) o)) (sym (at_layout bs at within layout)) ∙ so_far ts h

placed_on : (xs us : List (Option Tok)) (bs : List ℕ) (at n : ℕ) (x : Option Token) → at < length bs
    → is_layout (get_or bs at 0) ≡ false → option_map (λ t. (token_view t, n)) x ≡ token_at (drop at bs) → 0 < n
    → placed_so_far xs bs at ≡ Some us → placed_so_far (xs ++ option_map token_view x ∷ []) bs (at + n) ≡ Some us
placed_on xs us bs at n None within layout is some h =
    let none = at_none bs at within layout (sym is) in
    absurd (none-some us (sym (ap (λ o. front xs (option_map (map Some) o)) none) ∙ h))
placed_on xs us bs at n (Some t) within layout is some h =
    let rest = tokens_after 0 (drop (at + n) bs) in
    let first = at_token bs at n (token_view t) within layout (sym is) some in
    sym (front_push xs (Some (token_view t)) (option_map (map Some) rest))
    ∙ ap (front xs) (sym (first_some (token_view t) rest))
    ∙ ap (λ o. front xs (option_map (map Some) o)) (sym first) ∙ h

pub placed_next : (xs : List (Option Tok)) (bs : List ℕ) (at n : ℕ) (x : Option Token) → at < length bs
    → is_layout (get_or bs at 0) ≡ false → option_map (λ t. (token_view t, n)) x ≡ token_at (drop at bs) → 0 < n
    → AreFoundFirst xs bs at → AreFoundFirst (xs ++ option_map token_view x ∷ []) bs (at + n)
placed_next xs bs at n x within layout is some so_far ts h =
    placed_on xs (map Some ts) bs at n x within layout is some (so_far ts h)

at_past : (xs : List (Option Tok)) (bs : List ℕ) (at : ℕ) → length bs ≤ at → placed_so_far xs bs at ≡ Some xs
unfolding tokens_after
at_past xs bs at past = ap (λ l. front xs (option_map (map Some) (tokens_after 0 l))) (drop_all at bs past)
    ∙ ap Some (append-nil xs)

pub placed_all : (xs : List (Option Tok)) (bs : List ℕ) (at : ℕ) → length bs ≤ at → AreFoundFirst xs bs at
    → (ts : List Tok) → AreTokens ts bs → xs ≡ map Some ts
placed_all xs bs at past so_far ts h = same_Some xs (map Some ts) (sym (at_past xs bs at past) ∙ so_far ts h)
