-- Texts that name no file: what the files give changes nothing in them.
use Rattle.std.proofs.Common.{◌≡◌, ℕ, Bool, true, false, if◌then◌else◌, List, [], ◌∷◌, Option, Some, None, Ok, refl, sym, ap, subst, ◌∙◌}
use Rattle.std.specs.Prelude.{codes}
use Rattle.std.specs.List.{AllByRecursion}
use Rattle.std.specs.declared.result.Result.{Result}
use Rattle.rz_stmt_brackets.proofs.Parts.{cut_each, within_each}
use Rattle.rz_stmt_brackets.specs.declared.bracket.Bracket.TheVariants.{Curly}
use Rattle.rz_stmt_brackets.specs.declared.pieces.Divider.TheVariants.{Separator}
use Rattle.rz_core.specs.Stop.{◌>>=◌}
use Rattle.rz_core.specs.declared.facts.Facts.{Facts}
use Rattle.rz_core.specs.declared.fault.Fault.{Fault}
use Rattle.rz_core.specs.declared.fault.Mark.{Mark}
use Rattle.rz_stmt_data.proofs.Frames.{frame_each}
use Rattle.rz_stmt_data.specs.Texts.{alone, begins_text, call_in, called, no_part, one_part, part_in, word_call, word_part, AreParts, IsFront}
use Rattle.rz_stmt_data.specs.declared.texts.TextCall.{TextCall}
use Rattle.rz_words.specs.Keyword.{keyword_of}
use Rattle.rz_words.specs.Words.{is_name, is_other_name, keyword_role, plain_role, role_of}
use Rattle.rz_words.specs.declared.keyword.Keyword.{Keyword}
use Rattle.rz_words.specs.declared.keyword.Keyword.TheVariants.{Resource}
use Rattle.rz_words.specs.declared.words.Role.{Role}
use Rattle.rz_words.specs.declared.words.Role.TheVariants as roles
use Rattle.rz_words.specs.declared.words.TextWord.TheVariants as words
use Rattle.rz_types_fields.specs.Text.{Plain, PlainPart}
use Rattle.rz_folder.specs.Folder.{Files}
use Rattle.rz_stmt_items.specs.Compile.{Compile, IsCompile}
use Rattle.rz_stmt_items.specs.Item as plain
use Rattle.rz_stmt_items.specs.Item.{items_of, more, PlainItem, PlainItems}
use Rattle.rz_stmt_items.specs.Items.{cut, listed, named, no_more, one_more, simple, stripped, AreEach, AreItems, IsItem}
use Rattle.rz_stmt_items.specs.Simple.{IsSimpleBy}
use Rattle.rz_lex.specs.Printed.{word_of}
use Rattle.rz_lex.specs.declared.token.Shape.{Shape}
use Rattle.rz_lex.specs.declared.token.Shape.TheVariants as shapes
use Rattle.rz_lex.specs.declared.token.Token.{Token}
use Rattle.rz_show_laws.specs.Statement.{shown_words, text_parts}
use Rattle.rz_tools_resource.specs.Items.{inner_read, item_read, items_read}
use Rattle.rz_tools_values.specs.Texts.{part_read, texts_read}

-- no token is the name of a function that is a text
abbrev pub CallsNone : Token → Type 0
CallsNone token = call_in token.shape ≡ None

never : (call : TextCall) → ◌≡◌ {A = Option TextCall} (Some call) None → ⊥
never call is = cc

-- Which words name none.

plain_calls : (word : List ℕ) → word_call (plain_role word) ≡ None
plain_calls word = by (is_other_name word) (keyword_of word)
  where
    by : (test : Bool) (keyword : Option Keyword) → word_call (if test then roles.OtherName else keyword_role keyword) ≡ None
    by true keyword = refl
    by false (Some keyword) = refl
    by false None = refl

-- the words of statements and of attributes, and those of truth
pub shown_call_none : AllByRecursion (λ word. call_in (word_of word) ≡ None) shown_words
shown_call_none =
    (plain_calls (codes "data"), (plain_calls (codes "resource"), (plain_calls (codes "sysheap"), (plain_calls (codes "purgeable"), (plain_calls (codes "locked"), (plain_calls (codes "protected"), (plain_calls (codes "preload"), (plain_calls (codes "changed"), (plain_calls (codes "true"), (plain_calls (codes "false"), tt))))))))))

-- names
pub names_call_none : (word : List ℕ) → is_name (role_of word) ≡ true → call_in (word_of word) ≡ None
names_call_none word = by (role_of word)
  where
    by : (role : Role) → is_name role ≡ true → word_call role ≡ None
    by roles.Label is = refl
    by roles.OtherName is = refl
    by _ is = absurd cc

module _ (paths : List (List ℕ)) (files : Files) (mark : Mark) (known : Facts) where
  -- Texts of bytes alone.

  pub pieces_read : (pieces : List (List ℕ)) → texts_read paths files mark known (text_parts pieces) ≡ Ok (text_parts pieces)
  pieces_read [] = refl
  pieces_read (piece ∷ pieces) = ap (λ (r : Result (List PlainPart) Fault). r >>= λ parts. Ok (Plain piece ∷ parts)) (pieces_read pieces)

  -- Texts of tokens that name no function.

  -- the part, where there is one, is read as it is
  abbrev IsSame : Option PlainPart → Type 0
  IsSame None = Unit {0}
  IsSame (Some part) = part_read paths files mark known part ≡ Ok part

  word_same : (role : Role) → IsSame (word_part role)
  word_same (roles.Text words.Name) = refl
  word_same (roles.Text words.Date) = refl
  word_same (roles.Text words.Time) = refl
  word_same (roles.Text words.Version) = refl
  word_same _ = tt

  shape_same : (shape : Shape) → IsSame (part_in shape)
  shape_same (shapes.Text bytes) = refl
  shape_same (shapes.Word word) = word_same (role_of word.bytes)
  shape_same _ = tt

  front_same : (tokens behind : List Token) (part : PlainPart) → IsFront tokens part behind → AllByRecursion CallsNone tokens
      → (part_read paths files mark known part ≡ Ok part) × AllByRecursion CallsNone behind
  front_same tokens behind part (alone token same one is) none = (subst IsSame is (shape_same token.shape), none.1)
  front_same tokens behind part (called word rest call parted one is brackets so) none = absurd (never call (sym is ∙ none.0))

  parts_same : (tokens : List Token) (parts : List PlainPart) → AreParts tokens parts → AllByRecursion CallsNone tokens → texts_read paths files mark known parts ≡ Ok parts
  parts_same tokens parts no_part none = refl
  parts_same tokens parts (one_part same behind part others front rest) none =
      let first = front_same tokens behind part front none in
      ap (λ (r : Result PlainPart Fault). r >>= λ part. texts_read paths files mark known others >>= λ parts. Ok (part ∷ parts)) first.0
      ∙ ap (λ (r : Result (List PlainPart) Fault). r >>= λ parts. Ok (part ∷ parts)) (parts_same behind others rest first.1)

  -- Items of such tokens.

  abbrev AllCallNone : List (List Token) → Type 0
  AllCallNone pieces = AllByRecursion (λ piece. AllByRecursion CallsNone piece) pieces

  stripped_none : (pieces : List (List Token)) → AllCallNone pieces → AllCallNone (stripped pieces)
  stripped_none [] are = tt
  stripped_none ([] ∷ []) are = tt
  stripped_none ((token ∷ tokens) ∷ []) are = are
  stripped_none ([] ∷ next ∷ pieces) are = (are.0, stripped_none (next ∷ pieces) are.1)
  stripped_none ((token ∷ tokens) ∷ next ∷ pieces) are = (are.0, stripped_none (next ∷ pieces) are.1)

  simple_same : (begins : Bool) (place : Mark) (tokens : List Token) (one : PlainItem) → IsSimpleBy begins place tokens one → AllByRecursion CallsNone tokens
      → item_read paths files mark known one ≡ Ok one
  simple_same true place tokens one is none =
      ap (item_read paths files mark known) is.2
      ∙ ap (λ (r : Result (List PlainPart) Fault). r >>= λ parts. Ok (plain.Text parts place)) (parts_same tokens is.0 is.1.are none)
      ∙ ap (λ (item : PlainItem). Ok item) (sym is.2)
  simple_same false place tokens one is none = ap (item_read paths files mark known) is.2 ∙ ap (λ (item : PlainItem). Ok item) (sym is.2)

  mutual
    item_same : (tokens : List Token) (one : PlainItem) → IsItem tokens one → AllByRecursion CallsNone tokens → item_read paths files mark known one ≡ Ok one
    item_same tokens one (listed first rest parted items is end are) none =
        ap (λ (r : Result PlainItems Fault). r >>= λ items. Ok (plain.Braced items first.mark))
        (inner_same parted.front items are (within_each CallsNone Curly (first ∷ rest) parted is none))
    item_same tokens one (named first rest name parted items has is end are) none =
        ap (λ (r : Result PlainItems Fault). r >>= λ items. Ok (plain.Named name items first.mark))
        (inner_same parted.front items are (within_each CallsNone Curly rest parted is none.1))
    item_same tokens one (simple first rest it off before so) none = simple_same (begins_text (first ∷ rest)) first.mark (first ∷ rest) one so none

    inner_same : (tokens : List Token) (items : List PlainItem) → AreItems tokens items → AllByRecursion CallsNone tokens
        → inner_read paths files mark known (items_of items) ≡ Ok (items_of items)
    inner_same tokens items (cut same pieces all is each) none =
        inner_each (stripped pieces) items each (stripped_none pieces (cut_each CallsNone Separator tokens pieces is none))

    inner_each : (pieces : List (List Token)) (items : List PlainItem) → AreEach pieces items → AllCallNone pieces
        → inner_read paths files mark known (items_of items) ≡ Ok (items_of items)
    inner_each pieces items no_more none = refl
    inner_each pieces items (one_more piece rest x others is each) none =
        ap (λ (r : Result PlainItem Fault). r >>= λ item. inner_read paths files mark known (items_of others) >>= λ items. Ok (more item items)) (item_same piece x is none.0)
        ∙ ap (λ (r : Result PlainItems Fault). r >>= λ items. Ok (more x items)) (inner_each rest others each none.1)

  each_same : (pieces : List (List Token)) (items : List PlainItem) → AreEach pieces items → AllCallNone pieces → items_read paths files mark known items ≡ Ok items
  each_same pieces items no_more none = refl
  each_same pieces items (one_more piece rest x others is each) none =
      ap (λ (r : Result PlainItem Fault). r >>= λ item. items_read paths files mark known others >>= λ items. Ok (item ∷ items)) (item_same piece x is none.0)
      ∙ ap (λ (r : Result (List PlainItem) Fault). r >>= λ items. Ok (x ∷ items)) (each_same rest others each none.1)

  items_same : (tokens : List Token) (items : List PlainItem) → AreItems tokens items → AllByRecursion CallsNone tokens → items_read paths files mark known items ≡ Ok items
  items_same tokens items (cut same pieces all is each) none =
      each_same (stripped pieces) items each (stripped_none pieces (cut_each CallsNone Separator tokens pieces is none))

  -- the items of a statement of such tokens are read as they are
  pub compile_same : (tokens : List Token) (compile : Compile) → IsCompile tokens compile → AllByRecursion CallsNone tokens
      → items_read paths files mark known compile.items ≡ Ok compile.items
  compile_same tokens compile is none = items_same is.inside compile.items is.items (frame_each CallsNone Resource tokens _ is.frame none)
