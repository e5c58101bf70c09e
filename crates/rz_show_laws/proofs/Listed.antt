-- The tokens of printed items are these items.
use Rattle.std.proofs.Common.{◌≡◌, ℕ, suc, ℤ, pos, negsuc, List, [], ◌∷◌, ◌++◌, map, Some, None, refl, sym, ap, subst, ◌∙◌}
use Rattle.std.specs.Prelude.{Bool, true, false, if◌then◌else◌}
use Rattle.std.proofs.lemmas.List.{append-nil}
use Rattle.rz_stmt_brackets.specs.Bracket.{begins, opens, IsBracketed}
use Rattle.rz_stmt_brackets.specs.Pieces.{has_divider, last, more, AreCut, Parted}
use Rattle.rz_stmt_brackets.specs.Statements.{open_behind_all}
use Rattle.rz_stmt_brackets.specs.declared.bracket.Bracket.TheVariants.{Curly}
use Rattle.rz_stmt_brackets.specs.declared.pieces.Divider.TheVariants.{CloseBrace, Separator}
use Rattle.rz_expr.specs.Grammar.{bytes_number, labelled, operand, prefixed, start_of, tighter, word_start, Derives, IsExpression}
use Rattle.rz_expr.specs.Term.{Constant, Named, Term}
use Rattle.rz_expr.specs.Value.{reduced}
use Rattle.rz_words.specs.Words.{is_name, role_of}
use Rattle.rz_words.specs.declared.words.Role.{Role}
use Rattle.rz_words.specs.declared.words.Role.TheVariants as roles
use Rattle.rz_stmt_data.proofs.OneText.{expression_apart}
use Rattle.rz_stmt_data.proofs.Plain.{plain_begins, plain_text}
use Rattle.rz_types_fields.specs.Text.{Plain, PlainPart}
use Rattle.rz_types_fields.specs.Value.{is_item_expression}
use Rattle.rz_types_fields.specs.declared.place.TextPlace.TheVariants as places
use Rattle.rz_stmt_items.specs.Item as item
use Rattle.rz_stmt_items.specs.Item.{items_of, PlainItem}
use Rattle.rz_stmt_items.specs.Items.{cut, listed, name_before, name_in, named, no_more, one_more, simple, stripped, AreEach, AreItems, IsItem}
use Rattle.rz_stmt_items.specs.Simple.{IsSimpleBy}
use Rattle.rz_lex.specs.Printed.{word_of}
use Rattle.rz_lex.specs.declared.sign.Sign.TheVariants as signs
use Rattle.rz_lex.specs.declared.token.Shape.{Shape}
use Rattle.rz_lex.specs.declared.token.Shape.TheVariants as shapes
use Rattle.rz_lex.specs.declared.token.Token.{Token}
use Rattle.rz_show_lines.proofs.Split.{front_and_back, none_left, one_and_more, shapes_in}
use Rattle.rz_show_lines.proofs.Tokens.{braced, group_tokens, list_shapes, number_prints, print_shapes}
use Rattle.rz_show_laws.proofs.Items.{signed_term, AreNamingPrints, ArePrintedItems, AreReadBack, AreTermItems, IsNaming, IsNamingPrint, IsNamingSingle, IsPrintedItem, IsTermItem}
use Rattle.rz_show_lines.specs.Print.{block, by_name, in_binary, in_decimal, in_group, in_hex, in_literal, in_octal, in_text, named_block, no_prints, pieces, print, single, Print, Prints, Single}
use Rattle.rz_show_laws.proofs.Pass.{list_passes, print_passes}
use Rattle.rz_show_laws.proofs.Walks.{nothing_divides, nothing_opens}

-- tokens that are the item of this print
pub record IsHere (one : Print) (tokens : List Token) : Type 0 where
  pub found : PlainItem
  pub is : IsItem tokens found
  pub meant : IsPrintedItem one found

-- all tokens with these shapes are
abbrev IsRead : Print → Type 0
IsRead one = (tokens : List Token) → shapes_in tokens ≡ print_shapes one → IsHere one tokens

abbrev AreRead : Prints → Type 0
AreRead prints = (tokens : List Token) → shapes_in tokens ≡ list_shapes prints → AreReadBack prints tokens

-- Lists.

two_pieces : (front next : List Token) (rest : List (List Token)) → stripped (front ∷ next ∷ rest) ≡ front ∷ stripped (next ∷ rest)
two_pieces [] next rest = refl
two_pieces (token ∷ tokens) next rest = refl

with_front : (front behind : List Token) (rest : List (List Token)) → AreCut Separator behind rest → stripped (front ∷ rest) ≡ front ∷ stripped rest
with_front front behind rest (last piece none) = two_pieces front piece []
with_front front behind rest (more tokens parted others is also) = two_pieces front parted.front others

-- an item, a comma and more items
then_items : (front behind : List Token) (comma : Token) (one : PlainItem) (items : List PlainItem) → IsItem front one → has_divider Separator 0 front ≡ false
    → open_behind_all front 0 ≡ 0 → comma.shape ≡ shapes.Sign signs.Comma → AreItems behind items → AreItems (front ++ comma ∷ behind) (one ∷ items)
then_items front behind comma one items is closed shut comma_is (cut same rest found are each) =
    cut (front ++ comma ∷ behind) (front ∷ rest) (one ∷ items)
    (more (front ++ comma ∷ behind) (record { front = front; behind = behind }) rest (record { sign = comma; are = refl; first = closed; divides = rw (comma_is, shut) refl }) are)
    (subst (λ (ps : List (List Token)). AreEach ps (one ∷ items)) (sym (with_front front behind rest are)) (one_more front (stripped rest) one items is each))

alone_each : (tokens : List Token) (one : PlainItem) → IsItem tokens one → AreEach (stripped (tokens ∷ [])) (one ∷ [])
alone_each tokens one (listed first rest parted items is none are) =
    one_more (first ∷ rest) [] (item.Braced (items_of items) first.mark) [] (listed first rest parted items is none are) no_more
alone_each tokens one (named first rest name parted items has is none are) =
    one_more (first ∷ rest) [] (item.Named name (items_of items) first.mark) [] (named first rest name parted items has is none are) no_more
alone_each tokens one (simple first rest same off before so) = one_more (first ∷ rest) [] one [] (simple first rest one off before so) no_more

alone : (tokens : List Token) (one : PlainItem) → IsItem tokens one → has_divider Separator 0 tokens ≡ false → AreItems tokens (one ∷ [])
alone tokens one is closed = cut tokens (tokens ∷ []) (one ∷ []) (last tokens closed) (alone_each tokens one is)

-- no tokens
none_read : AreRead no_prints
none_read tokens is = record {
  items = [];
  are = subst (λ (ts : List Token). AreItems ts []) (sym (none_left tokens is)) (cut [] ([] ∷ []) [] (last [] refl) no_more);
  meant = refl;
}

-- an item in front of others
first_read : (one : Print) (others : Prints) → IsRead one → AreRead others → AreRead (print one others)
first_read one no_prints first rest tokens is =
    let shapes_are : shapes_in tokens ≡ print_shapes one = is ∙ append-nil (print_shapes one) in
    let here = first tokens shapes_are in
    record {
      items = here.found ∷ [];
      are = alone tokens here.found here.is (nothing_divides Separator (print_shapes one) tokens (print_passes one) refl shapes_are);
      meant = (here.found, [], refl, here.meant, refl);
    }
first_read one (print next others) first rest tokens is =
    let parts = front_and_back tokens (print_shapes one) (shapes.Sign signs.Comma ∷ list_shapes (print next others)) is in
    let comma = one_and_more parts.back (shapes.Sign signs.Comma) (list_shapes (print next others)) parts.back_is in
    let here = first parts.front parts.front_is in
    let behind = rest comma.more comma.more_are in
    let are : tokens ≡ parts.front ++ comma.one ∷ comma.more = parts.are ∙ ap (λ (x : List Token). parts.front ++ x) comma.are in
    record {
      items = here.found ∷ behind.items;
      are = subst (λ (ts : List Token). AreItems ts (here.found ∷ behind.items)) (sym are)
          (then_items parts.front comma.more comma.one here.found behind.items here.is
          (nothing_divides Separator (print_shapes one) parts.front (print_passes one) refl parts.front_is)
          (nothing_opens (print_shapes one) parts.front (print_passes one) parts.front_is) comma.one_is behind.are);
      meant = (here.found, behind.items, refl, here.meant, behind.meant);
    }

-- Braces.

pub record InBraces (prints : Prints) (tokens : List Token) : Type 0 where
  pub first : Token
  pub rest : List Token
  pub are : tokens ≡ first ∷ rest
  pub parted : Parted
  pub bracketed : IsBracketed Curly tokens parted
  pub nothing : parted.behind ≡ []
  pub here : AreReadBack prints parted.front

in_braces : (prints : Prints) → AreRead prints → (tokens : List Token) → shapes_in tokens ≡ braced (list_shapes prints) → InBraces prints tokens
in_braces prints read tokens is =
    let opener = one_and_more tokens (shapes.Sign signs.OpenBrace) (list_shapes prints ++ shapes.Sign signs.CloseBrace ∷ []) is in
    let within = front_and_back opener.more (list_shapes prints) (shapes.Sign signs.CloseBrace ∷ []) opener.more_are in
    let close = one_and_more within.back (shapes.Sign signs.CloseBrace) [] within.back_is in
    let closed = nothing_divides CloseBrace (list_shapes prints) within.front (list_passes prints) refl within.front_is in
    let shut = nothing_opens (list_shapes prints) within.front (list_passes prints) within.front_is in
    let ends : within.back ≡ close.one ∷ [] = close.are ∙ ap (λ (x : List Token). close.one ∷ x) (none_left close.more close.more_are) in
    record {
      first = opener.one;
      rest = opener.more;
      are = opener.are;
      parted = record { front = within.front; behind = [] };
      bracketed = record {
        opener = opener.one;
        rest = opener.more;
        are = opener.are;
        opens = ap (opens Curly) opener.one_is;
        closes = record {
          sign = close.one;
          are = within.are ∙ ap (λ (x : List Token). within.front ++ x) ends;
          first = closed;
          divides = rw (close.one_is, shut) refl;
        };
      };
      nothing = refl;
      here = read within.front within.front_is;
    }

listed_here : (tokens rest : List Token) (first : Token) (parted : Parted) (items : List PlainItem) → tokens ≡ first ∷ rest → IsBracketed Curly tokens parted → parted.behind ≡ []
    → AreItems parted.front items → IsItem tokens (item.Braced (items_of items) first.mark)
listed_here tokens rest first parted items are is nothing all =
    subst (λ (ts : List Token). IsItem ts (item.Braced (items_of items) first.mark)) (sym are)
    (listed first rest parted items (subst (λ (ts : List Token). IsBracketed Curly ts parted) are is) nothing all)

block_read : (prints : Prints) → AreRead prints → IsRead (block prints)
block_read prints read tokens is =
    let inner = in_braces prints read tokens is in
    record {
      found = item.Braced (items_of inner.here.items) inner.first.mark;
      is = listed_here tokens inner.rest inner.first inner.parted inner.here.items inner.are inner.bracketed inner.nothing inner.here.are;
      meant = (inner.here.items, inner.first.mark, refl, inner.here.meant);
    }

name_of : (shape : Shape) (name : List ℕ) → shape ≡ word_of name → IsNaming name → name_in shape ≡ Some name
name_of shape name is naming = ap name_in is ∙ ap (λ (b : Bool). if b then Some name else None) naming

named_read : (name : List ℕ) (prints : Prints) → IsNaming name → AreRead prints → IsRead (named_block name prints)
named_read name prints naming read tokens is =
    let word = one_and_more tokens (word_of name) (braced (list_shapes prints)) is in
    let inner = in_braces prints read word.more word.more_are in
    let found : PlainItem = item.Named name (items_of inner.here.items) word.one.mark in
    record {
      found = found;
      is = subst (λ (ts : List Token). IsItem ts found) (sym word.are)
          (named word.one word.more name inner.parted inner.here.items (name_of word.one.shape name word.one_is naming) inner.bracketed inner.nothing inner.here.are);
      meant = (inner.here.items, word.one.mark, refl, inner.here.meant);
    }

-- Expressions.

tighter_than : {tokens : List Token} {term : Term} → Derives 0 tokens term → IsExpression tokens term
tighter_than d = tighter (tighter (tighter (tighter (tighter (tighter (tighter (tighter (tighter (tighter d)))))))))

record IsTermHere (term : Term) (tokens : List Token) : Type 0 where
  found : PlainItem
  is : IsItem tokens found
  meant : IsTermItem term found

-- a shape that is an operand, and no brace
record IsAlone (shape : Shape) (term : Term) : Type 0 where
  derives : (token : Token) → token.shape ≡ shape → Derives 0 (token ∷ []) term
  opens_not : opens Curly shape ≡ false
  may : is_item_expression term ≡ true

-- such a token as a simple item
simple_of : (first : Token) (rest : List Token) (term : Term) → opens Curly first.shape ≡ false → begins Curly rest ≡ false
    → IsExpression (first ∷ rest) term → is_item_expression term ≡ true → IsItem (first ∷ rest) (item.Number term first.mark)
simple_of first rest term off behind is may =
    simple first rest (item.Number term first.mark) off (ap (λ (b : Bool). if b then name_in first.shape else None) behind)
    (subst (λ (b : Bool). IsSimpleBy b first.mark (first ∷ rest) (item.Number term first.mark)) (sym (expression_apart (first ∷ rest) term is)) (term, (is, may), refl))

token_here : (shape : Shape) (term : Term) → IsAlone shape term → (tokens : List Token) → shapes_in tokens ≡ shape ∷ [] → IsTermHere term tokens
token_here shape term so tokens is =
    let one = one_and_more tokens shape [] is in
    let alone_is : tokens ≡ one.one ∷ [] = one.are ∙ ap (λ (x : List Token). one.one ∷ x) (none_left one.more one.more_are) in
    record {
      found = item.Number term one.one.mark;
      is = subst (λ (ts : List Token). IsItem ts (item.Number term one.one.mark)) (sym alone_is)
          (simple_of one.one [] term (ap (opens Curly) one.one_is ∙ so.opens_not) refl
          (tighter_than (so.derives one.one one.one_is)) so.may);
      meant = (one.one.mark, refl);
    }

minus_here : (number : ℕ) (tokens : List Token) → shapes_in tokens ≡ shapes.Sign signs.Minus ∷ shapes.Number (suc number) ∷ [] → IsTermHere (signed_term (negsuc number)) tokens
minus_here number tokens is =
    let minus = one_and_more tokens (shapes.Sign signs.Minus) (shapes.Number (suc number) ∷ []) is in
    let one = one_and_more minus.more (shapes.Number (suc number)) [] minus.more_are in
    let rest : minus.more ≡ one.one ∷ [] = one.are ∙ ap (λ (x : List Token). one.one ∷ x) (none_left one.more one.more_are) in
    let both : tokens ≡ minus.one ∷ one.one ∷ [] = minus.are ∙ ap (λ (x : List Token). minus.one ∷ x) rest in
    let term : Term = signed_term (negsuc number) in
    record {
      found = item.Number term minus.one.mark;
      is = subst (λ (ts : List Token). IsItem ts (item.Number term minus.one.mark)) (sym both)
          (simple_of minus.one (one.one ∷ []) term (ap (opens Curly) minus.one_is) (ap (opens Curly) one.one_is)
          (tighter_than (prefixed (ap start_of minus.one_is) (operand (ap start_of one.one_is)))) refl);
      meant = (minus.one.mark, refl);
    }

number_alone : (number : ℕ) → IsAlone (shapes.Number number) (Constant (reduced (pos number)))
number_alone number = record { derives = λ token is. operand (ap start_of is); opens_not = refl; may = refl }

literal_alone : (bytes : List ℕ) → IsAlone (shapes.Literal bytes) (Constant (reduced (pos (bytes_number 0 bytes))))
literal_alone bytes = record { derives = λ token is. operand (ap start_of is); opens_not = refl; may = refl }

name_derives : (role : Role) (name : List ℕ) (token : Token) → is_name role ≡ true → start_of token.shape ≡ word_start role name → Derives 0 (token ∷ []) (Named name)
name_derives roles.Label name token is starts = labelled starts
name_derives roles.OtherName name token is starts = operand starts
name_derives role name token is starts = absurd cc

name_alone : (name : List ℕ) → IsNaming name → IsAlone (word_of name) (Named name)
name_alone name naming = record { derives = λ token is. name_derives (role_of name) name token naming (ap start_of is); opens_not = refl; may = refl }

number_here : (number : ℤ) (tokens : List Token) → shapes_in tokens ≡ print_shapes (single (in_decimal number)) → IsTermHere (signed_term number) tokens
number_here (pos number) tokens is = token_here (shapes.Number number) (signed_term (pos number)) (number_alone number) tokens is
number_here (negsuc number) tokens is = minus_here number tokens is

-- Texts.

record AreTextsHere (first : List ℕ) (others : List (List ℕ)) (tokens : List Token) : Type 0 where
  start : Token
  is : IsItem tokens (item.Text (map (λ piece. Plain piece) (first ∷ others)) start.mark)

none_before : (shape : Shape) (first : List ℕ) (rest : List Token) → shape ≡ shapes.Text first → name_before shape rest ≡ None
none_before shape first rest is = ap (λ (s : Shape). name_before s rest) is ∙ by (begins Curly rest)
  where
    by : (b : Bool) → (if b then name_in (shapes.Text first) else None) ≡ None
    by true = refl
    by false = refl

texts_here : (first : List ℕ) (others : List (List ℕ)) (tokens : List Token) → shapes_in tokens ≡ map (λ piece. shapes.Text piece) (first ∷ others) → AreTextsHere first others tokens
texts_here first others tokens is =
    let one = one_and_more tokens (shapes.Text first) (map (λ piece. shapes.Text piece) others) is in
    let parts : List PlainPart = map (λ piece. Plain piece) (first ∷ others) in
    let all : shapes_in (one.one ∷ one.more) ≡ map (λ piece. shapes.Text piece) (first ∷ others) = ap shapes_in (sym one.are) ∙ is in
    record {
      start = one.one;
      is = subst (λ (ts : List Token). IsItem ts (item.Text parts one.one.mark)) (sym one.are)
          (simple one.one one.more (item.Text parts one.one.mark) (ap (opens Curly) one.one_is) (none_before one.one.shape first one.more one.one_is)
          (subst (λ (b : Bool). IsSimpleBy b one.one.mark (one.one ∷ one.more) (item.Text parts one.one.mark)) (sym (plain_begins first others (one.one ∷ one.more) all))
          (parts, plain_text places.Item first others (one.one ∷ one.more) all, refl)));
    }

pieces_read : (hex : Bool) (first : List ℕ) (others : List (List ℕ)) → IsRead (pieces hex first others)
pieces_read hex first others tokens is =
    let here = texts_here first others tokens is in
    record { found = item.Text (map (λ piece. Plain piece) (first ∷ others)) here.start.mark; is = here.is; meant = (here.start.mark, refl) }

-- What stands on one line.

decimal_read : (number : ℤ) → IsRead (single (in_decimal number))
decimal_read number tokens is = let here = number_here number tokens is in record { found = here.found; is = here.is; meant = here.meant }

numbers_read : (numbers : List ℤ) → AreRead (number_prints numbers)
numbers_read [] = none_read
numbers_read (number ∷ numbers) = first_read (single (in_decimal number)) (number_prints numbers) (decimal_read number) (numbers_read numbers)

numbers_meant : (numbers : List ℤ) (items : List PlainItem) → ArePrintedItems (number_prints numbers) items → AreTermItems numbers items
numbers_meant [] items meant = meant
numbers_meant (number ∷ numbers) items meant = (meant.0, meant.1, meant.2, meant.3, numbers_meant numbers meant.1 meant.4)

single_read : (one : Single) → IsNamingSingle one → IsRead (single one)
single_read (in_decimal number) naming = decimal_read number
single_read (in_hex digits number) naming = λ tokens is.
    let here = token_here (shapes.Number number) (Constant (reduced (pos number))) (number_alone number) tokens is in record { found = here.found; is = here.is; meant = here.meant }
single_read (in_octal number) naming = λ tokens is.
    let here = token_here (shapes.Number number) (Constant (reduced (pos number))) (number_alone number) tokens is in record { found = here.found; is = here.is; meant = here.meant }
single_read (in_binary digits number) naming = λ tokens is.
    let here = token_here (shapes.Number number) (Constant (reduced (pos number))) (number_alone number) tokens is in record { found = here.found; is = here.is; meant = here.meant }
single_read (in_literal bytes) naming = λ tokens is.
    let here = token_here (shapes.Literal bytes) (Constant (reduced (pos (bytes_number 0 bytes)))) (literal_alone bytes) tokens is in record { found = here.found; is = here.is; meant = here.meant }
single_read (in_text bytes) naming = λ tokens is.
    let here = texts_here bytes [] tokens is in record { found = item.Text (Plain bytes ∷ []) here.start.mark; is = here.is; meant = (here.start.mark, refl) }
single_read (by_name name) naming = λ tokens is.
    let here = token_here (word_of name) (Named name) (name_alone name naming) tokens is in record { found = here.found; is = here.is; meant = here.meant }
single_read (in_group numbers) naming = λ tokens is.
    let inner = in_braces (number_prints numbers) (numbers_read numbers) tokens (is ∙ group_tokens numbers) in
    record {
      found = item.Braced (items_of inner.here.items) inner.first.mark;
      is = listed_here tokens inner.rest inner.first inner.parted inner.here.items inner.are inner.bracketed inner.nothing inner.here.are;
      meant = (inner.here.items, inner.first.mark, refl, numbers_meant numbers inner.here.items inner.here.meant);
    }

-- All of them.

mutual
  print_read : (one : Print) → IsNamingPrint one → IsRead one
  print_read (single one) naming = single_read one naming
  print_read (pieces hex first others) naming = pieces_read hex first others
  print_read (block prints) naming = block_read prints (list_read prints naming)
  print_read (named_block name prints) naming = named_read name prints naming.0 (list_read prints naming.1)

  -- tokens of these shapes are the items that are meant, wherever they stand
  pub list_read : (prints : Prints) → AreNamingPrints prints → (tokens : List Token) → shapes_in tokens ≡ list_shapes prints → AreReadBack prints tokens
  list_read no_prints naming = none_read
  list_read (print one others) naming = first_read one others (print_read one naming.0) (list_read others naming.1)
