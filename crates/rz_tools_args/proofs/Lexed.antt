-- What holds of each definition of the words holds of all that a command asks for.
use Rattle.std.proofs.Common.{◌≡◌, ℕ, true, List, [], ◌∷◌, sym, ap, subst, ◌∙◌}
use Rattle.std.specs.Prelude.{IfSome}
use Rattle.std.specs.List.{AllByRecursion}
use Rattle.std.specs.declared.option.Option.{Option}
use Rattle.rz_core.specs.declared.fault.Mark.{Mark}
use Rattle.rz_core.specs.declared.resource.Word.{Word}
use Rattle.rz_words.specs.Words.{is_label, role_of}
use Rattle.rz_lex.specs.Cutting.{Cuts}
use Rattle.rz_lex.specs.Lexeme.{AreLexed}
use Rattle.rz_lex.specs.declared.token.Token.{Token}
use Rattle.rz_pre.specs.Lexed.{HaveLexedTexts}
use Rattle.rz_pre.specs.declared.program.Def.{Def}
use Rattle.rz_tools_args.specs.Command.{place_item, switch_item, value_item, AreItems, Asked, IsCommand, IsItem, IsValue, Item, Value, Valued}
use Rattle.rz_tools_args.specs.Definition.{nowhere, AreFree, Defines, IsFree, IsName, Undefines}
use Rattle.rz_tools_args.specs.Items.{defs_of}
use Rattle.rz_tools_args.specs.Syntax.{sort_of, syntax_of, Syntax}
use Rattle.rz_tools_args.specs.declared.flag.Flag.{Flag}
use Rattle.rz_tools_args.specs.declared.flag.Sort.{Sort}
use Rattle.rz_tools_args.specs.declared.flag.Sort.TheVariants as sorts

module _ (P : Def → Type 0) (defined : (value : List ℕ) (def : Def) → Defines value def → P def) (undefined : (value : List ℕ) (def : Def) → Undefines value def → P def) where
  value_all : (sort : Sort) (word : List ℕ) (value : Value) (flag : Flag) (items : List Item) → IsValue sort word value → AllByRecursion P (defs_of items)
      → AllByRecursion P (defs_of (Valued flag value ∷ items))
  value_all sorts.Name word value flag items is have = subst (λ (v : Value). AllByRecursion P (defs_of (Valued flag v ∷ items))) (sym is) have
  value_all sorts.Definition word value flag items (def, is, it) have =
      subst (λ (v : Value). AllByRecursion P (defs_of (Valued flag v ∷ items))) (sym is) (defined word def it, have)
  value_all sorts.Undefinition word value flag items (def, is, it) have =
      subst (λ (v : Value). AllByRecursion P (defs_of (Valued flag v ∷ items))) (sym is) (undefined word def it, have)
  value_all sorts.Kind word value flag items (kind, is, it) have = subst (λ (v : Value). AllByRecursion P (defs_of (Valued flag v ∷ items))) (sym is) have
  value_all sorts.Form word value flag items (one, is, it) have = subst (λ (v : Value). AllByRecursion P (defs_of (Valued flag v ∷ items))) (sym is) have

  item_all : (syntax : Syntax) (words : List (List ℕ)) (one : Item) (items : List Item) → IsItem syntax words one → AllByRecursion P (defs_of items)
      → AllByRecursion P (defs_of (one ∷ items))
  item_all syntax words one items (place_item word is holds same) have = subst (λ (o : Item). AllByRecursion P (defs_of (o ∷ items))) (sym same) have
  item_all syntax words one items (switch_item word switch is named same) have = subst (λ (o : Item). AllByRecursion P (defs_of (o ∷ items))) (sym same) have
  item_all syntax words one items (value_item word spelled flag value is named says same) have =
      subst (λ (o : Item). AllByRecursion P (defs_of (o ∷ items))) (sym same) (value_all (sort_of flag) spelled value flag items says have)

  items_all : (syntax : Syntax) (words : List (List ℕ)) (items : List Item) → AreItems syntax words items → AllByRecursion P (defs_of items)
  items_all syntax words [] are = tt
  items_all syntax words (one ∷ items) are = item_all syntax are.0 one items are.3 (items_all syntax are.1 items are.4)

  asked_all : (words : List (List ℕ)) (asked : Asked) → IsCommand words asked → AllByRecursion P (defs_of asked.items)
  asked_all words asked is = items_all (syntax_of asked.name) is.rest asked.items is.are

-- a text is lexed, where there is one
abbrev HasLexed : Option (List Token) → Type 0
HasLexed text = IfSome text (λ text. AreLexed text)

module _ (law : (mark : Mark) (line : List ℕ) (tokens : List Token) → Cuts mark line tokens → AreLexed tokens) where
  defined_lexed : (value : List ℕ) (def : Def) → Defines value def → HasLexed def.text
  defined_lexed value def (Defines.alone none alone) = subst HasLexed (sym alone.1) tt
  defined_lexed value def (Defines.with_text name text none split with) = subst HasLexed (sym with.3) (law nowhere with.2.bytes with.0 with.2.cut)

  undefined_lexed : (value : List ℕ) (def : Def) → Undefines value def → HasLexed def.text
  undefined_lexed value def is = subst HasLexed (sym is.1) tt

  pub asked_lexed : (words : List (List ℕ)) (asked : Asked) → IsCommand words asked → HaveLexedTexts (defs_of asked.items)
  asked_lexed = asked_all (λ def. HasLexed def.text) defined_lexed undefined_lexed

-- A name that is defined isn't reserved.

named : (name : List ℕ) (word : Word) → IsName name word → is_label (role_of word.bytes) ≡ true
named name word is = ap (λ (bytes : List ℕ). is_label (role_of bytes)) is.spelled ∙ is.free

defined_free : (value : List ℕ) (def : Def) → Defines value def → IsFree def
defined_free value def (Defines.alone none alone) = named value def.name alone.0
defined_free value def (Defines.with_text name text none split with) = named name def.name with.1

undefined_free : (value : List ℕ) (def : Def) → Undefines value def → IsFree def
undefined_free value def is = named value def.name is.0

pub asked_free : (words : List (List ℕ)) (asked : Asked) → IsCommand words asked → AreFree (defs_of asked.items)
asked_free = asked_all IsFree defined_free undefined_free
