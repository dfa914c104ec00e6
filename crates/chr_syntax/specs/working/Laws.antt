-- What the calls that find tokens and forms say of the grammar.
use Rattle.std.specs.Prelude.{◌≡◌, ℕ, List, ◌∷◌, ◌++◌, Some, option_map}
use Rattle.chr_syntax.specs.Bytes.{is_layout}
use Rattle.chr_syntax.specs.Clauses.{Form}
use Rattle.chr_syntax.specs.Grammar.{spelled, IsForm}
use Rattle.chr_syntax.specs.Lexemes.{AllAre, IsLexeme, AreTokens, AreClause}
use Rattle.chr_syntax.specs.Printing.{EndsBefore}
use Rattle.chr_syntax.specs.Tokens.{Tok}
use Rattle.chr_syntax.specs.working.Forms.{form_in, clause_of}
use Rattle.chr_syntax.specs.working.Tokens.{tokens_of}

-- where tokens are read as a form, they spell it
abbrev pub FormsAreSpelled : Type 0
FormsAreSpelled = (ts : List Tok) (f : Form) → form_in ts ≡ Some f → ts ≡ spelled f

-- what is read as a form is a form of the grammar
abbrev pub ReadFormsAreForms : Type 0
ReadFormsAreForms = (ts : List Tok) (f : Form) → form_in ts ≡ Some f → IsForm f

-- the tokens that spell a form are read as it
abbrev pub SpelledFormsAreRead : Type 0
SpelledFormsAreRead = (f : Form) → IsForm f → form_in (spelled f) ≡ Some f

-- what is found are the tokens of the bytes
abbrev pub FoundAreTokens : Type 0
FoundAreTokens = (bs : List ℕ) (ts : List Tok) → tokens_of bs ≡ Some ts → AreTokens ts bs

-- the tokens of the bytes are found
abbrev pub TokensAreFound : Type 0
TokensAreFound = (bs : List ℕ) (ts : List Tok) → AreTokens ts bs → tokens_of bs ≡ Some ts

-- the form that is read is the clause's
abbrev pub ReadIsTheClause : Type 0
ReadIsTheClause = (bs : List ℕ) (f : Form) → clause_of bs ≡ Some f → AreClause f bs

-- each clause is read as its form
abbrev pub ClausesAreRead : Type 0
ClausesAreRead = (bs : List ℕ) (f : Form) → AreClause f bs → clause_of bs ≡ Some f

-- a token that is written and ends is read, and then the tokens of the rest
abbrev pub WrittenTokensAreRead : Type 0
WrittenTokensAreRead = (t : Tok) (w rest : List ℕ) → IsLexeme t w → EndsBefore t rest
    → tokens_of (w ++ rest) ≡ option_map (λ ts. t ∷ ts) (tokens_of rest)

-- layout before tokens changes none of them
abbrev pub LayoutIsSkipped : Type 0
LayoutIsSkipped = (layout rest : List ℕ) → AllAre is_layout layout → tokens_of (layout ++ rest) ≡ tokens_of rest
