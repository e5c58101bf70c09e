-- Of each word it is decided what it says as a value of a sort.
use Rattle.std.proofs.Common.{◌≡◌, ◌⊎◌, inl, inr, ℕ, zero, suc, ◌==◌, List, [], ◌∷◌, ◌++◌, Some, None, refl, sym, ap, subst, ◌∙◌, arith}
use Rattle.std.specs.Prelude.{◌&&◌}
use Rattle.std.proofs.Math.Decide.{map_dec}
use Rattle.std.proofs.lemmas.Bool.{eqb-false, eqb-true}
use Rattle.rz_core.specs.declared.fault.Fault.{Fault}
use Rattle.rz_core.specs.declared.fault.Mark.{Mark}
use Rattle.rz_core.specs.declared.resource.OsType.{OsType}
use Rattle.rz_core.specs.declared.resource.Word.{Word}
use Rattle.rz_core.proofs.EveryCut.{both, known_with, some_of}
use Rattle.rz_core.proofs.Tests.{by_test}
use Rattle.rz_words.specs.Words.{is_label, role_of}
use Rattle.rz_bridge_files.specs.declared.form.Form as form
use Rattle.rz_lex.specs.Cutting.{Cuts, Refuses}
use Rattle.rz_lex.specs.declared.token.Token.{Token}
use Rattle.rz_pre.specs.declared.program.Def.{Def}
use Rattle.rz_pre_source.specs.Source.{mark, IsBadAt, IsTextOf}
use Rattle.rz_tools_args.specs.Command.{form_named, Define, Form, IsValue, Kind, Name, Value}
use Rattle.rz_tools_args.specs.Definition.{nowhere, Defines, HasNoSign, IsName, IsText, Undefines}
use Rattle.rz_tools_args.specs.Definition.Defines.{alone, with_text}
use Rattle.rz_core.specs.Resources.{kind_of}
use Rattle.rz_tools_args.specs.Kind.{IsKind}
use Rattle.rz_tools_args.specs.Line.{is_one_word}
use Rattle.rz_tools_args.specs.declared.flag.Sort.{Sort}
use Rattle.rz_tools_args.specs.declared.flag.Sort.TheVariants as sorts
use Rattle.rz_tools_args.proofs.Names.{named, not_named}
use Rattle.rz_tools_args.proofs.Names as names
use Rattle.rz_tools_args.proofs.Splits.{has_sign, one_split}

-- where there is one thing or one of another kind, and never both, it is decided whether there is one
one_or_other : {X Y : Type 0} (P : X → Type 0) (Q : Y → Type 0) → ((x : X) × P x) ⊎ ((y : Y) × Q y) → ((x : X) (y : Y) → P x → Q y → ⊥) → Dec ((x : X) × P x)
one_or_other P Q (inl found) never = yes found
one_or_other P Q (inr other) never = no (λ h. never h.0 other.0 h.1 other.1)

-- a value that is made of what a word says
made_of : {X : Type 0} (make : X → Value) (P : X → Type 0) → Dec ((x : X) × P x) → Dec ((value : Value) × ((x : X) × (value ≡ make x) × P x))
made_of {X} make P = map_dec to from
  where
    to : (x : X) × P x → (value : Value) × ((x : X) × (value ≡ make x) × P x)
    to (x, is) = (make x, (x, refl, is))

    from : (value : Value) × ((x : X) × (value ≡ make x) × P x) → (x : X) × P x
    from (value, (x, same, is)) = (x, is)

-- The first `=` of a value.

abbrev IsSplit : List ℕ → Type 0
IsSplit value = (name : List ℕ) × (text : List ℕ) × HasNoSign name × (value ≡ name ++ 61 ∷ text)

none_of : HasNoSign []
none_of i within = absurd (omega (arith, within))

none_more : (b : ℕ) (bs : List ℕ) → (b ≡ 61 → ⊥) → HasNoSign bs → HasNoSign (b ∷ bs)
none_more b bs other lacks zero within = other
none_more b bs other lacks (suc i) within = lacks i (omega (arith, within))

first_sign : (value : List ℕ) → HasNoSign value ⊎ IsSplit value
first_sign [] = inl none_of
first_sign (b ∷ bs) =
    by_test (HasNoSign (b ∷ bs) ⊎ IsSplit (b ∷ bs)) (b == 61) (λ on. inr ([], bs, none_of, ap (λ (x : ℕ). x ∷ bs) (eqb-true b 61 on)))
    (λ off. onto (eqb-false b 61 off) (first_sign bs))
  where
    onto : (b ≡ 61 → ⊥) → HasNoSign bs ⊎ IsSplit bs → HasNoSign (b ∷ bs) ⊎ IsSplit (b ∷ bs)
    onto other (inl lacks) = inl (none_more b bs other lacks)
    onto other (inr (name, text, lacks, is)) = inr (b ∷ name, text, none_more b name other lacks, ap (λ (xs : List ℕ). b ∷ xs) is)

module _ (one_text : (source text other : List ℕ) → IsTextOf source text → IsTextOf source other → text ≡ other)
    (not_bad : (source text : List ℕ) (offset : ℕ) → IsTextOf source text → IsBadAt source offset → ⊥)
    (one_cut : (at : Mark) (line : List ℕ) (tokens others : List Token) → Cuts at line tokens → Cuts at line others → tokens ≡ others)
    (not_refused : (at : Mark) (line : List ℕ) (tokens : List Token) (fault : Fault) → Cuts at line tokens → Refuses at line fault → ⊥)
    (every_source : (source : List ℕ) → ((text : List ℕ) × IsTextOf source text) ⊎ ((offset : ℕ) × IsBadAt source offset))
    (every_line : (at : Mark) (line : List ℕ) → ((tokens : List Token) × Cuts at line tokens) ⊎ ((fault : Fault) × Refuses at line fault)) where
  -- Characters with bytes in Mac Roman, and tokens.

  is_roman : (word : List ℕ) → Dec ((bytes : List ℕ) × IsTextOf (mark ++ word) bytes)
  is_roman word = one_or_other (IsTextOf (mark ++ word)) (IsBadAt (mark ++ word)) (every_source (mark ++ word)) (not_bad (mark ++ word))

  is_cut : (line : List ℕ) → Dec ((tokens : List Token) × Cuts nowhere line tokens)
  is_cut line = one_or_other (Cuts nowhere line) (Refuses nowhere line) (every_line nowhere line) (not_refused nowhere line)

  is_text : (text : List ℕ) → Dec ((tokens : List Token) × IsText text tokens)
  is_text text =
      map_dec to from (known_with (IsTextOf (mark ++ text)) (λ bytes. (tokens : List Token) × Cuts nowhere bytes tokens) (one_text (mark ++ text))
      (is_roman text) (λ bytes roman. is_cut bytes))
    where
      to : (bytes : List ℕ) × IsTextOf (mark ++ text) bytes × ((tokens : List Token) × Cuts nowhere bytes tokens) → (tokens : List Token) × IsText text tokens
      to (bytes, roman, (tokens, cut)) = (tokens, record { bytes = bytes; roman = roman; cut = cut })

      from : (tokens : List Token) × IsText text tokens → (bytes : List ℕ) × IsTextOf (mark ++ text) bytes × ((tokens : List Token) × Cuts nowhere bytes tokens)
      from (tokens, is) = (is.bytes, is.roman, (tokens, is.cut))

  is_kind : (word : List ℕ) → Dec ((kind : OsType) × IsKind word kind)
  is_kind word =
      map_dec to from (known_with (IsTextOf (mark ++ word)) (λ bytes. (kind : OsType) × (kind_of bytes ≡ Some kind)) (one_text (mark ++ word))
      (is_roman word) (λ bytes roman. some_of (kind_of bytes)))
    where
      to : (bytes : List ℕ) × IsTextOf (mark ++ word) bytes × ((kind : OsType) × (kind_of bytes ≡ Some kind)) → (kind : OsType) × IsKind word kind
      to (bytes, roman, (kind, is)) = (kind, record { bytes = bytes; roman = roman; is = is })

      from : (kind : OsType) × IsKind word kind → (bytes : List ℕ) × IsTextOf (mark ++ word) bytes × ((kind : OsType) × (kind_of bytes ≡ Some kind))
      from (kind, is) = (is.bytes, is.roman, (kind, is.is))

  -- Definitions.

  is_name : (name : List ℕ) → Dec ((word : Word) × IsName name word)
  is_name name = by (is_cut name)
    where
      by : Dec ((tokens : List Token) × Cuts nowhere name tokens) → Dec ((word : Word) × IsName name word)
      by (no never) = no (λ h. never (names.alone h.0, h.1.one))
      by (yes (tokens, cuts)) =
          by_test (Dec ((word : Word) × IsName name word)) (is_one_word tokens name && is_label (role_of name))
          (λ on. yes (record { bytes = name }, named tokens name name refl cuts on))
          (λ off. no (λ h. not_named tokens name name refl off h.0 h.1 (one_cut nowhere name tokens (names.alone h.0) cuts h.1.one)))

  is_defined : (value : List ℕ) → Dec ((def : Def) × Defines value def)
  is_defined value = by (first_sign value)
    where
      by : HasNoSign value ⊎ IsSplit value → Dec ((def : Def) × Defines value def)
      by (inl lacks) = map_dec to from (is_name value)
        where
          to : (word : Word) × IsName value word → (def : Def) × Defines value def
          to (word, is) = (record { name = word; text = Some [] }, alone lacks (is, refl))

          from : (def : Def) × Defines value def → (word : Word) × IsName value word
          from (def, alone none it) = (def.name, it.0)
          from (def, with_text other behind none eq it) = absurd (has_sign value other behind eq lacks)
      by (inr (name, text, lacks, is)) = map_dec to from (both (is_name name) (is_text text))
        where
          to : ((word : Word) × IsName name word) × ((tokens : List Token) × IsText text tokens) → (def : Def) × Defines value def
          to ((word, so), (tokens, texted)) = (record { name = word; text = Some tokens }, with_text name text lacks is (tokens, so, texted, refl))

          from : (def : Def) × Defines value def → ((word : Word) × IsName name word) × ((tokens : List Token) × IsText text tokens)
          from (def, alone none it) = absurd (has_sign value name text is none)
          from (def, with_text other behind none eq (tokens, so, texted, text_is)) =
              let same = one_split other name behind text none lacks (sym eq ∙ is) in (
                (def.name, subst (λ (n : List ℕ). IsName n def.name) same.0 so),
                (tokens, subst (λ (t : List ℕ). IsText t tokens) same.1 texted),
              )

  is_undefined : (value : List ℕ) → Dec ((def : Def) × Undefines value def)
  is_undefined value = map_dec to from (is_name value)
    where
      to : (word : Word) × IsName value word → (def : Def) × Undefines value def
      to (word, is) = (record { name = word; text = None }, (is, refl))

      from : (def : Def) × Undefines value def → (word : Word) × IsName value word
      from (def, it) = (def.name, it.0)

  -- Values.

  pub every_value : (sort : Sort) (word : List ℕ) → Dec ((value : Value) × IsValue sort word value)
  every_value sorts.Name word = yes (Name word, refl)
  every_value sorts.Definition word = made_of (λ (def : Def). Define def) (Defines word) (is_defined word)
  every_value sorts.Undefinition word = made_of (λ (def : Def). Define def) (Undefines word) (is_undefined word)
  every_value sorts.Kind word = made_of (λ (kind : OsType). Kind kind) (IsKind word) (is_kind word)
  every_value sorts.Form word = made_of (λ (one : form.Form). Form one) (λ (one : form.Form). form_named word ≡ Some one) (some_of (form_named word))
