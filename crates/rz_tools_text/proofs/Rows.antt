-- How a resource is put: by the row that its bytes tell, or by its bytes.
use Rattle.std.proofs.Common.{◌≡◌, ◌++◌, ℕ, Bool, true, false, if◌then◌else◌, List, [], ◌∷◌, map, Option, Some, None, Ok, Err, refl, sym, ap, subst, ◌∙◌, append_assoc}
use Rattle.std.specs.Prelude.{◌||◌, ℤ, codes, IfOk}
use Rattle.std.specs.List.{concat, list_any}
use Rattle.std.specs.Str.{bytes_eq, str_to_ascii_lowercase}
use Rattle.std.specs.declared.result.Result.{Result}
use Rattle.std.proofs.lemmas.Bool.{false≢true}
use Rattle.std.proofs.lemmas.Option.{none-some, same_Some}
use Rattle.rz_core.specs.Decided.{Decided}
use Rattle.rz_core.specs.declared.facts.Facts.{Facts}
use Rattle.rz_core.specs.declared.moment.Moment.{Moment}
use Rattle.rz_core.specs.declared.resource.Resource.{Resource}
use Rattle.rz_core.specs.declared.resource.Word.{Word}
use Rattle.rz_core.specs.declared.stop.NoMemory.{NoMemory}
use Rattle.rz_types_fields.specs.declared.tree.Tree.{Tree}
use Rattle.rz_folder.proofs.Streams.{got_none, told_same}
use Rattle.rz_folder.specs.Sink.{GotPart, Puts, PutsFront, Stream}
use Rattle.rz_folder.specs.declared.sink.Put.{Put}
use Rattle.rz_pre.specs.Reading.{is_among}
use Rattle.rz_show.specs.Hidden.{hides}
use Rattle.rz_show.specs.Shown.{row_uses}
use Rattle.rz_show.specs.declared.hidden.Hidden.{Hidden}
use Rattle.rz_show.specs.Head.{head_lines}
use Rattle.rz_show.specs.Showing.{by_bytes, by_row, showing_lines, showing_text, Showing}
use Rattle.rz_show.specs.Statement.{close_lines, data_items, data_lines, row_items, row_lines, statement_lines}
use Rattle.rz_show_lines.specs.Print.{list_lines, Prints}
use Rattle.rz_show_lines.specs.Written.{as_line, line_text, lines_text, Written}
use Rattle.rz_tools_text.specs.Held.{macros_held}
use Rattle.rz_types_table.specs.Table.{declared_for}
use Rattle.rz_tools_text.specs.Shown.{its_bytes, its_row, IsShownBy, Known, Shown, TellsRow}
use Rattle.rz_types.specs.Field.{PlainBody}
use Rattle.rz_types_fields.specs.Row.{IsRow}
use Rattle.rz_types_fields.specs.Spells.{SpellsPlainly}
use Rattle.rz_types_table.specs.Table.{Declaration}
use Rattle.rz_unlay.specs.Reading.{facts_of, IsTree}

-- Names of macros.

among_any : (name : List ℕ) (words : List Word) → list_any (λ one. bytes_eq name one.bytes) words ≡ is_among name words
among_any name [] = refl
among_any name (word ∷ words) = by (bytes_eq name word.bytes) (among_any name words)
  where
    by : (test : Bool) → list_any (λ one. bytes_eq name one.bytes) words ≡ is_among name words
        → (test || list_any (λ one. bytes_eq name one.bytes) words) ≡ (if test then true else is_among name words)
    by true rest = refl
    by false rest = rest

pub known_so : (types : List Declaration) (macros : Hidden) (moment : Moment) (given names : List Word) → given ≡ names
    → ((name : List ℕ) → hides macros name ≡ list_any (λ one. bytes_eq (str_to_ascii_lowercase name) one.bytes) given)
    → ◌≡◌ {A = Known} (record { types = types; is_macro = hides macros; moment = moment }) (record { types = types; is_macro = macros_held names; moment = moment })
known_so types macros moment given names same held = λ i. record {
  types = types;
  is_macro = λ name.
      (held name ∙ ap (λ (words : List Word). list_any (λ one. bytes_eq (str_to_ascii_lowercase name) one.bytes) words) same ∙ among_any (str_to_ascii_lowercase name) names) i;
  moment = moment;
}

-- Lines.

lines_bytes : (lines : List (List Written)) → concat (map as_line lines) ≡ lines_text lines
lines_bytes [] = refl
lines_bytes (line ∷ lines) = append_assoc (line_text line) (10 ∷ []) (concat (map as_line lines)) ∙ ap (λ (t : List ℕ). line_text line ++ 10 ∷ t) (lines_bytes lines)

-- a resource is shown in one way at most
abbrev pub OneShowing : Type 0
OneShowing = (known : Known) (r : Resource) (one other : Showing) → IsShownBy known r one → IsShownBy known r other → one ≡ other

-- A resource has a line at least.

some_behind : {A : Type 0} (xs ys : List A) → (ys ≡ [] → ⊥) → xs ++ ys ≡ [] → ⊥
some_behind [] ys some = some
some_behind (x ∷ xs) ys some = λ e. cc e

statement_some : (word : List ℕ) (code : ℕ) (id : ℤ) (name : List ℕ) (attr : ℕ) (items : Prints) → statement_lines word code id name attr items ≡ [] → ⊥
unfolding statement_lines
statement_some word code id name attr items =
    some_behind (head_lines word code id name attr) (list_lines 1 items ++ close_lines) (some_behind (list_lines 1 items) close_lines (λ e. cc e))

some_lines : (lines : List (List Written)) → (lines ≡ [] → ⊥) → lines_text lines ≡ [] → ⊥
some_lines [] some = λ e. some refl
some_lines (line ∷ lines) some = some_behind (line_text line) (10 ∷ lines_text lines) (λ e. cc e)

showing_some : (hidden : List ℕ → Bool) (showing : Showing) → showing_text hidden showing ≡ [] → ⊥
showing_some hidden (by_bytes r) =
    some_lines (showing_lines hidden (by_bytes r)) (statement_some (codes "data") r.kind.code r.id r.name r.attr (data_items r.bytes))
showing_some hidden (by_row r body row) =
    some_lines (showing_lines hidden (by_row r body row)) (statement_some (codes "resource") r.kind.code r.id r.name r.attr (row_items hidden body row))

-- memory was refused before anything was put
pub nothing_put : (known : Known) (r : Resource) (text : List ℕ) → Shown known r text → (before : Option Stream) (refused : NoMemory) → PutsFront text before before (Err refused)
nothing_put known r text (showing, by, is) before refused =
    told_same (GotPart text) (λ s. (text, λ none. showing_some known.is_macro showing (sym is ∙ none), got_none text s)) before

module _ (one : OneShowing) (known : Known) (r : Resource) (facts : Facts) (are : facts ≡ facts_of known.moment r)
    (before after : Option Stream) (result : Put) (text : List ℕ) (shown : Shown known r text) where
  -- the lines of a resource are its text, in which way ever it is shown
  showing_put : (showing : Showing) → IsShownBy known r showing → (lines : List (List ℕ)) → concat lines ≡ showing_text known.is_macro showing
      → Puts (concat lines) before after result → PutsFront text before after (Ok result)
  showing_put showing by lines same told =
      subst (λ (t : List ℕ). Puts t before after result) (same ∙ ap (showing_text known.is_macro) (one known r showing shown.0 by shown.1) ∙ sym shown.2) told

  bytes_put : IsShownBy known r (by_bytes r) → (lines : List (List ℕ)) → lines ≡ map as_line (data_lines facts r.bytes)
      → Puts (concat lines) before after result → PutsFront text before after (Ok result)
  bytes_put by lines are_lines =
      showing_put (by_bytes r) by lines
      (ap concat are_lines ∙ lines_bytes (data_lines facts r.bytes) ∙ ap (λ (known : Facts). lines_text (data_lines known r.bytes)) are)

  -- a resource for which nothing is declared
  pub undeclared_put : declared_for known.types r ≡ None → (lines : List (List ℕ)) → lines ≡ map as_line (data_lines facts r.bytes)
      → Puts (concat lines) before after result → PutsFront text before after (Ok result)
  undeclared_put none = bytes_put (its_bytes (λ body row tells. none-some body (sym none ∙ tells.tree.declared)) refl)

  module _ (body : PlainBody) (declared : declared_for known.types r ≡ Some body) where
    -- a resource whose bytes tell no row that is shown
    pub untold_put : ((row : List Tree) → TellsRow known r body row → ⊥) → (lines : List (List ℕ)) → lines ≡ map as_line (data_lines facts r.bytes)
        → Puts (concat lines) before after result → PutsFront text before after (Ok result)
    untold_put none =
        bytes_put (its_bytes (λ other row tells. none row (subst (λ (b : PlainBody). TellsRow known r b row) (sym (same_Some body other (sym declared ∙ tells.tree.declared))) tells)) refl)

    -- a resource whose bytes tell a row
    pub row_put : (row given : List Tree) (own : PlainBody) → given ≡ row → own ≡ body → TellsRow known r body row
        → (lines : List (List ℕ)) → lines ≡ map as_line (row_lines known.is_macro facts own given)
        → Puts (concat lines) before after result → PutsFront text before after (Ok result)
    row_put row given own same is_own tells lines are_lines =
        showing_put (by_row r body row) (its_row body row tells refl) lines
        (ap concat are_lines ∙ lines_bytes (row_lines known.is_macro facts own given)
        ∙ (λ i. lines_text (row_lines known.is_macro (are i) (is_own i) (same i))))

-- What is told.

module _ (known : Known) (r : Resource) (facts : Facts) (are : facts ≡ facts_of known.moment r) (body : PlainBody) (declared : declared_for known.types r ≡ Some body) where
  abbrev Tells : List Tree → Type 0
  Tells row = TellsRow known r body row

  module _ (found : Option (List Tree)) (told : Decided (λ row. (own : PlainBody) × IsTree (Some body) facts r.bytes own row) found)
      (every : (own : PlainBody) (row : List Tree) → IsTree (Some body) facts r.bytes own row → found ≡ Some row) where
    there : (own : PlainBody) (row : List Tree) → IsTree (Some body) facts r.bytes own row → IsTree (declared_for known.types r) (facts_of known.moment r) r.bytes own row
    there own row is =
        subst (λ (fields : Option PlainBody). IsTree fields (facts_of known.moment r) r.bytes own row) (sym declared)
        (subst (λ (f : Facts). IsTree (Some body) f r.bytes own row) are is)

    here : (own : PlainBody) (row : List Tree) → IsTree (declared_for known.types r) (facts_of known.moment r) r.bytes own row → IsTree (Some body) facts r.bytes own row
    here own row is =
        subst (λ (f : Facts). IsTree (Some body) f r.bytes own row) (sym are)
        (subst (λ (fields : Option PlainBody). IsTree fields (facts_of known.moment r) r.bytes own row) declared is)

    -- the row is one of the fields that are declared
    of_body : (row : List Tree) → (own : PlainBody) × IsTree (Some body) facts r.bytes own row → IsTree (Some body) facts r.bytes body row
    of_body row (own, tree) = subst (λ (b : PlainBody). IsTree (Some body) facts r.bytes b row) (sym (same_Some body own tree.declared)) tree

    pub none_told : found ≡ None → (row : List Tree) → Tells row → ⊥
    none_told none row tells = none-some row (sym none ∙ every body row (here body row tells.tree))

    row_decided : (row : List Tree) → found ≡ Some row → (uses : Bool) → row_uses known.is_macro body row ≡ uses → Decided Tells (if uses then None else Some row)
    row_decided row is true uses = λ other tells.
        let same = same_Some row other (sym is ∙ every body other (here body other tells.tree)) in
        false≢true (sym tells.bare ∙ sym (ap (row_uses known.is_macro body) same) ∙ uses)
    row_decided row is false bare = record {
      tree = there body row (of_body row (subst (Decided (λ row. (own : PlainBody) × IsTree (Some body) facts r.bytes own row)) is told));
      bare = bare;
    }

    pub row_told : (row : List Tree) (own : PlainBody) → found ≡ Some row → own ≡ body
        → (result : Result (Option (List Tree)) NoMemory) → IfOk result (λ found. found ≡ (if row_uses known.is_macro own row then None else Some row))
        → IfOk result (Decided Tells)
    row_told row own is is_own (Ok given) answer =
        subst (Decided Tells)
        (sym (answer ∙ ap (λ (b : PlainBody). if row_uses known.is_macro b row then None else Some row) is_own))
        (row_decided row is (row_uses known.is_macro body row) refl)
    row_told row own is is_own (Err refused) answer = tt

-- a row that is told is one of its fields
pub told_is_row : ((known : Facts) (body : PlainBody) (row : List Tree) (bytes : List ℕ) → SpellsPlainly known body row bytes → IsRow body row)
    → (known : Known) (r : Resource) (body own : PlainBody) (row given : List Tree) → own ≡ body → given ≡ row → TellsRow known r body row → IsRow own given
told_is_row rows known r body own row given is_own same tells =
    subst (λ (b : PlainBody). IsRow b given) (sym is_own)
    (subst (IsRow body) (sym same) (rows (facts_of known.moment r) body row r.bytes tells.tree.told.1))
