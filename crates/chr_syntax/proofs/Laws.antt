-- The laws of tokens and forms in the grammar's own words.
use Rattle.std.proofs.Common.{◌≡◌, ℕ, List, ◌∷◌, ◌++◌, Option, Some, None, option_map, refl, sym, ap, ◌∙◌}
use Rattle.std.proofs.lemmas.Option.{none-some, same_Some}
use Rattle.chr_syntax.specs.Clauses.{Form}
use Rattle.chr_syntax.specs.Grammar.{SpellingsAreOne}
use Rattle.chr_syntax.specs.Lexemes.{AreTokens, AreClause, TokensAreOne, FormsAreOne}
use Rattle.chr_syntax.specs.Printing.{WrittenTokensAreFirst, LayoutChangesNoTokens}
use Rattle.chr_syntax.specs.Tokens.{Tok}
use Rattle.chr_syntax.specs.working.Forms.{form_in, clause_of}
use Rattle.chr_syntax.specs.working.Tokens.{tokens_of}
use Rattle.chr_syntax.proofs.FormsRead.{forms_read}
use Rattle.chr_syntax.proofs.Lexed.{found_are, tokens_found, read_is, clauses_read}
use Rattle.chr_syntax.proofs.Printing.{written_read, layout_goes}

pub tokens_one : TokensAreOne
tokens_one bs ts us h g = same_Some ts us (sym (tokens_found bs ts h) ∙ tokens_found bs us g)

pub forms_one : FormsAreOne
forms_one bs f g h k = same_Some f g (sym (clauses_read bs f h) ∙ clauses_read bs g k)

pub spellings_one : SpellingsAreOne
spellings_one f g h k same = same_Some f g (sym (forms_read f h) ∙ ap form_in same ∙ forms_read g k)

pub written_first : WrittenTokensAreFirst
written_first t w rest us lexeme ends = (
  λ h. by (tokens_of rest) refl (sym (written_read t w rest lexeme ends) ∙ tokens_found (w ++ rest) us h),
  λ (ts, is, h).
      found_are (w ++ rest) us (written_read t w rest lexeme ends
      ∙ ap (option_map (λ l. t ∷ l)) (tokens_found rest ts h) ∙ ap Some (sym is)),
)
  where
    by : (o : Option (List Tok)) → tokens_of rest ≡ o → option_map (λ l. t ∷ l) o ≡ Some us → (ts : List Tok)
        × (us ≡ t ∷ ts) × AreTokens ts rest
    by None is e = absurd (none-some us e)
    by (Some ts) is e = (ts, sym (same_Some (t ∷ ts) us e), found_are rest ts is)

pub layout_changes_none : LayoutChangesNoTokens
layout_changes_none layout rest ts h = (
  λ g. found_are rest ts (sym (layout_goes layout rest h) ∙ tokens_found (layout ++ rest) ts g),
  λ g. found_are (layout ++ rest) ts (layout_goes layout rest h ∙ tokens_found rest ts g),
)

-- where no form fits, none is read
pub no_clause : (bs : List ℕ) → ((f : Form) → ¬ (AreClause f bs)) → clause_of bs ≡ None
no_clause bs none = by (clause_of bs) refl
  where
    by : (o : Option Form) → clause_of bs ≡ o → o ≡ None
    by None is = refl
    by (Some f) is = absurd (none f (read_is bs f is))

-- where none is read, no form fits
pub none_fits : (bs : List ℕ) → clause_of bs ≡ None → (f : Form) → ¬ (AreClause f bs)
none_fits bs none f h = none-some f (sym none ∙ clauses_read bs f h)
