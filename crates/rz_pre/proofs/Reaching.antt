-- What a source may ask for, the files that it includes may ask for.
use Rattle.std.proofs.Common.{◌≡◌, ℕ, zero, suc, inl, inr, List, [], ◌∷◌, ◌++◌, Option, Some, None, Ok, Err, refl, sym, ap, subst}
use Rattle.std.specs.Prelude.{slice_get}
use Rattle.std.specs.declared.result.Result.{Result}
use Rattle.rz_core.specs.declared.fault.Fault.{Fault}
use Rattle.rz_core.specs.declared.fault.Mark.{Mark}
use Rattle.rz_folder.specs.Folder.{Files}
use Rattle.rz_folder.specs.MayRead.{IsOneOf, MayRead, MayReadOf}
use Rattle.rz_folder.specs.declared.folder.Folder.{Ghosts}
use Rattle.rz_folder.proofs.Allowed.{may_read_fewer, may_read_these}
use Rattle.rz_folder.specs.Names.{file_of, missing_file, names_of, utf8_name}
use Rattle.rz_folder.proofs.Found.{found_under}
use Rattle.rz_lex.specs.Joined.{joined}
use Rattle.rz_lex.specs.Lines.{StandsBefore}
use Rattle.rz_lex.specs.declared.joined.Placed.{Placed}
use Rattle.rz_lex.specs.declared.raw_line.RawLine.{RawLine}
use Rattle.rz_pre.specs.Program.{innermost, too_deep, with_file, Enters, Opens, OpensAs, State}
use Rattle.rz_pre.specs.Reached.{begins, goes_on, CanInclude, HasLine, HoldsText, IsIncluded, IsReached}
use Rattle.rz_pre.specs.Reading.{Steps}
use Rattle.rz_pre.specs.declared.condition.Tool.{Tool}
use Rattle.rz_pre.specs.declared.conditional.Open.{Open}
use Rattle.rz_pre.specs.declared.program.Failure.{Failure}
use Rattle.rz_pre_source.specs.Source.{IsTextOf}
use Rattle.rz_pre.proofs.Going.{steps_in, SomeLines}

-- Lines of a text.

-- the first line
line_here : (file : ℕ) (here : List Placed) (line : RawLine) (rest : List Placed) → StandsBefore file here line rest → SomeLines file rest → HasLine file here line
line_here file here line rest stands (lines, ending, has) = ([], lines, ending, stands lines ending has)

-- a line of the rest
line_later : (file : ℕ) (here : List Placed) (first : RawLine) (rest : List Placed) → StandsBefore file here first rest
    → (line : RawLine) → HasLine file rest line → HasLine file here line
line_later file here first rest stands line (before, after, ending, has) = (first ∷ before, after, ending, stands (before ++ line ∷ after) ending has)

-- all lines ahead are lines of the text
abbrev pub AreLinesOf : ℕ → List Placed → List Placed → Type 0
AreLinesOf file text ahead = (line : RawLine) → HasLine file ahead line → HasLine file text line

pub lines_go_on : (file : ℕ) (text here : List Placed) (first : RawLine) (rest : List Placed) → AreLinesOf file text here → StandsBefore file here first rest → AreLinesOf file text rest
lines_go_on file text here first rest are stands = λ line has. are line (line_later file here first rest stands line has)

-- Files that were opened.

-- a file stands under one of some names, and this is its text
abbrev pub IsOpened : Files → List (List ℕ) → List ℕ → Type 0
IsOpened files names text = (name : List ℕ) × IsOneOf names name × HoldsText files name text

abbrev pub given : List ℕ × State → Result (List ℕ × State) Failure
given opened = Ok opened

same_given : (one other : List ℕ × State) → given one ≡ given other → one ≡ other
same_given one other is = cc

not_given : (opened : List ℕ × State) (failure : Failure) → given opened ≡ Err failure → ⊥
not_given opened failure is = cc is

pub opened_under : (files : Files) (names : List (List ℕ)) (missing : Fault) (s t : State) (text : List ℕ) → Opens files names missing s (given (text, t)) → IsOpened files names text
opened_under files names missing s t text opens = by (file_of files names) refl opens
  where
    by : (found : Option (List ℕ × List ℕ)) → file_of files names ≡ found → OpensAs missing s found (given (text, t)) → IsOpened files names text
    by None none opens = absurd (not_given (text, t) (record { fault = missing; files = s.files }) opens)
    by (Some (name, source)) is (inl (held, has, same)) =
        let under = found_under files names name source is in
        let same_text : held ≡ text = sym (ap (λ (p : List ℕ × State). p.0) (same_given (text, t) (held, with_file name s) same)) in
        (name, under.0, (source, under.1, subst (λ (l : List ℕ). IsTextOf source l) same_text has))
    by (Some (name, source)) is (inr (failure, has, same)) = absurd (not_given (text, t) failure same)

-- the same of a file that a line includes
pub included_under : (files : Files) (paths : List (List ℕ)) (levels : ℕ) (own : List ℕ) (mark : Mark) (s t : State) (text : List ℕ)
    → Enters files paths levels own mark s (given (text, t)) → IsOpened files (names_of paths (utf8_name own)) text
included_under files paths zero own mark s t text enters = absurd (not_given (text, t) (record { fault = too_deep mark; files = s.files }) enters)
included_under files paths (suc levels) own mark s t text enters =
    opened_under files (names_of paths (utf8_name own)) (missing_file (Some mark) own) s t text enters

-- Names that may be read.

module _ (paths : List (List ℕ)) (files : Files) where
  -- what is reached from names that are reached
  pub reached_from : (First Other : List ℕ → Type 0) → ((name : List ℕ) → First name → IsReached paths files Other name)
      → (name : List ℕ) → IsReached paths files First name → IsReached paths files Other name
  reached_from First Other so name (begins _ is) = so name is
  reached_from First Other so name (goes_on _ opened text file from holds includes) =
      goes_on name opened text file (reached_from First Other so opened from) holds includes

  -- what the lines of an opened file include is reached with the file
  pub reached_in : (First : List ℕ → Type 0) (opened text : List ℕ) (file : ℕ) → IsReached paths files First opened → HoldsText files opened text
      → (name : List ℕ) → IsReached paths files (IsIncluded paths file (joined 1 text)) name → IsReached paths files First name
  reached_in First opened text file from holds =
      reached_from (IsIncluded paths file (joined 1 text)) First (λ name includes. goes_on name opened text file from holds includes)

no_name : (name : List ℕ) → ◌≡◌ {A = Option (List ℕ)} None (Some name) → ⊥
no_name name is = cc is

module _ {F : Type 0} (g : Ghosts F) (paths : List (List ℕ)) where
  -- a name of the words
  pub may_read_words : (folder : F) (names : List (List ℕ)) (k : ℕ) (name : List ℕ) → slice_get names k ≡ Some name
      → MayReadOf g folder (λ files. IsReached paths files (IsOneOf names)) → MayReadOf g folder (λ files. IsReached paths files (IsOneOf (name ∷ [])))
  may_read_words folder names k name is may =
      may_read_fewer g (λ files. IsReached paths files (IsOneOf names)) may (λ files. IsReached paths files (IsOneOf (name ∷ [])))
      (λ files told. reached_from paths files (IsOneOf (name ∷ [])) (IsOneOf names) (λ other one. begins other (by other one)))
    where
      by : (other : List ℕ) → IsOneOf (name ∷ []) other → IsOneOf names other
      by other (zero, same) = (k, subst (λ (o : Option (List ℕ)). slice_get names k ≡ o) same is)
      by other (suc i, none) = absurd (no_name other none)

  -- a file that the words name
  pub may_read_first : (folder : F) (First : List ℕ → Type 0) → MayReadOf g folder (λ files. IsReached paths files First) → MayRead g folder First
  may_read_first folder First may = may_read_these g (λ files. IsReached paths files First) may First (λ files told name is. begins name is)

  -- the files that the file includes that was opened under one of some names
  pub may_read_inside : (folder : F) (names : List (List ℕ)) (text : List ℕ) (file : ℕ)
      → ((files : Files) → g.files folder ≡ Some files → IsOpened files names text)
      → MayReadOf g folder (λ files. IsReached paths files (IsOneOf names)) → MayReadOf g folder (λ files. IsReached paths files (IsIncluded paths file (joined 1 text)))
  may_read_inside folder names text file opened may =
      may_read_fewer g (λ files. IsReached paths files (IsOneOf names)) may (λ files. IsReached paths files (IsIncluded paths file (joined 1 text)))
      (λ files told. let under = opened files told in reached_in paths files (IsOneOf names) under.0 text file (begins under.0 under.1) under.2)

  -- the names under which the file is looked for that a line includes
  pub may_read_included : (folder : F) (tool : Tool) (file : ℕ) (text here rest : List Placed) (line : RawLine) (opens after : List Open) (s t : State) (own : List ℕ)
      → AreLinesOf file text here → StandsBefore file here line rest → SomeLines file rest → Steps tool line opens s (Ok (Some own)) after t
      → MayReadOf g folder (λ files. IsReached paths files (IsIncluded paths file text))
      → MayReadOf g folder (λ files. IsReached paths files (IsOneOf (names_of paths (utf8_name own))))
  may_read_included folder tool file text here rest line opens after s t own are stands some steps may =
      may_read_fewer g (λ files. IsReached paths files (IsIncluded paths file text)) may (λ files. IsReached paths files (IsOneOf (names_of paths (utf8_name own))))
      (λ files told. reached_from paths files (IsOneOf (names_of paths (utf8_name own))) (IsIncluded paths file text) (λ name one. begins name (includes name one)))
    where
      can : CanInclude line own
      can = (s.live, tool, innermost opens, (steps_in (λ name mark u answer. ⊥) tool line opens s own after t steps).does)

      includes : (name : List ℕ) → IsOneOf (names_of paths (utf8_name own)) name → IsIncluded paths file text name
      includes name one = (own, (line, are line (line_here file here line rest stands some), can), one)
