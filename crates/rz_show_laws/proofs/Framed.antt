-- The tokens of a resource that is shown are a statement, in the frame of one that makes a resource.
use Rattle.std.proofs.Common.{◌≡◌, ℕ, suc, ◌<◌, ◌≤◌, ◌^◌, true, false, List, [], ◌∷◌, ◌++◌, Some, refl, sym, ap, ◌∙◌, arith, append_assoc}
use Rattle.std.specs.Prelude.{if◌then◌else◌}
use Rattle.std.proofs.lemmas.Bool.{le-leb}
use Rattle.std.proofs.lemmas.Nat.{from_be_bytes-to_be_bytes_4}
use Rattle.rz_core.proofs.Lists.{all_append}
use Rattle.rz_core.specs.Numbers.{be}
use Rattle.rz_core.specs.declared.resource.Resource.{Resource}
use Rattle.rz_expr.specs.Keyword.{is_keyword}
use Rattle.rz_words.specs.declared.keyword.Keyword.{Keyword}
use Rattle.rz_words.specs.declared.keyword.Keyword.TheVariants as keywords
use Rattle.rz_lex.specs.Printed.{word_of}
use Rattle.rz_lex.specs.declared.sign.Sign.TheVariants as signs
use Rattle.rz_lex.specs.declared.token.Shape.{Shape}
use Rattle.rz_lex.specs.declared.token.Shape.TheVariants as shapes
use Rattle.rz_lex.specs.declared.token.Token.{Token}
use Rattle.rz_stmt_brackets.specs.Bracket.{opens, IsBracketed}
use Rattle.rz_stmt_brackets.specs.Kind.{kind_in}
use Rattle.rz_stmt_brackets.specs.Limit.{deepest, deepest_type, depth_limit, is_within_limits}
use Rattle.rz_stmt_brackets.specs.Pieces.{AreCut, Parted}
use Rattle.rz_stmt_brackets.specs.Statements.{is_empty, is_semicolon, open_behind_all, IsStatement}
use Rattle.rz_stmt_brackets.specs.declared.bracket.Bracket.TheVariants.{Curly, Round}
use Rattle.rz_stmt_brackets.specs.declared.pieces.Divider.TheVariants.{CloseBrace, Comma, Semicolon}
use Rattle.rz_stmt_data.specs.Frame.{IsBody, IsFrame}
use Rattle.rz_stmt_data.specs.Head.{IsHead}
use Rattle.rz_show.specs.Height.{heights}
use Rattle.rz_show_lines.specs.Print.{Prints}
use Rattle.rz_show_laws.specs.Showable.{IsStored}
use Rattle.rz_show_laws.specs.Statement.{attributes_of, shown_head}
use Rattle.rz_show_laws.proofs.HeadLimits.{flat_kept, id_few, weight_head}
use Rattle.rz_show_laws.proofs.HeadTokens.{all_of, head_of, id_is, id_is_inner, inner_is_flat, is_flat, is_inner, no_paren, none_open, pieces_are_flat, pieces_are_inner, rest_is, shown_attributes, AreFlat, AreFlatShapes}
use Rattle.rz_show_lines.proofs.Tokens.{list_shapes}
use Rattle.rz_show_laws.proofs.Keeping.{list_kept}
use Rattle.rz_show_laws.proofs.Pass.{list_passes}
use Rattle.rz_show_laws.proofs.Shapes.{after_commas, head_pieces, id_shapes, statement_shapes}
use Rattle.rz_show_lines.proofs.Split.{front_and_back, none_left, one_and_more, shapes_in}
use Rattle.rz_show_laws.proofs.Walks.{divided, ended_are, flat_passes, kept, kept_are, nothing_divides, nothing_opens, opened, opened_are}

split_last : (id named list : List Shape) (a b c d : Shape) → id ++ (named ++ a ∷ b ∷ (list ++ c ∷ d ∷ [])) ≡ (id ++ (named ++ a ∷ b ∷ (list ++ c ∷ []))) ++ d ∷ []
split_last id named list a b c d = simp append_assoc

kind_back : (code : ℕ) → code < 2 ^ 32 → kind_in (shapes.Literal (be 4 code)) ≡ Some code
unfolding be
kind_back code fits = ap (λ (x : ℕ). Some x) (from_be_bytes-to_be_bytes_4 code fits)

-- a statement within its limits, with this in its braces
pub record IsFramed (keyword : Keyword) (r : Resource) (name : List (List ℕ)) (within : List Shape) (tokens : List Token) : Type 0 where
  pub inside : List Token
  pub inside_are : shapes_in inside ≡ within
  pub statement : IsStatement tokens
  pub limits : is_within_limits tokens ≡ true
  pub frame : IsFrame keyword tokens (record { kind = r.kind.code; head = shown_head r name; inside = inside })

-- The word is this keyword, and doesn't begin a `type` statement, whose brackets are bounded otherwise.
module _ (keyword : Keyword) (said : List ℕ) (spelled : is_keyword keyword (word_of said) ≡ true) (untyped : is_keyword keywords.Kind (word_of said) ≡ false)
    (r : Resource) (name : List (List ℕ)) (prints : Prints) (stored : IsStored r) where
  -- The shapes of the statement.

  named : List Shape
  named = after_commas (head_pieces r name)

  front : List Shape
  front =
      word_of said ∷ shapes.Literal (be 4 r.kind.code) ∷ shapes.Sign signs.OpenParen
      ∷ (id_shapes r.id ++ (named ++ shapes.Sign signs.CloseParen ∷ shapes.Sign signs.OpenBrace ∷ (list_shapes prints ++ shapes.Sign signs.CloseBrace ∷ [])))

  id_flat : AreFlatShapes (id_shapes r.id)
  id_flat = inner_is_flat (id_shapes r.id) (id_is_inner r.id)

  named_flat : AreFlatShapes named
  unfolding named
  named_flat = pieces_are_flat (head_pieces r name) (pieces_are_inner r name stored.attr)

  goes_on : divided Semicolon 0 front ≡ false
  unfolding front
  goes_on =
      let body : divided Semicolon 1 (list_shapes prints ++ shapes.Sign signs.CloseBrace ∷ []) ≡ false = (list_passes prints).divides Semicolon 1 refl (shapes.Sign signs.CloseBrace ∷ []) in
      (flat_passes (id_shapes r.id) id_flat).divides Semicolon 1 refl _ ∙ (flat_passes named named_flat).divides Semicolon 1 refl _ ∙ body

  all_closed : opened front 0 ≡ 0
  unfolding front
  all_closed =
      let body : opened (list_shapes prints ++ shapes.Sign signs.CloseBrace ∷ []) 1 ≡ 0 = (list_passes prints).opens (shapes.Sign signs.CloseBrace ∷ []) 1 in
      (flat_passes (id_shapes r.id) id_flat).opens _ 1 ∙ (flat_passes named named_flat).opens _ 1 ∙ body

  are : statement_shapes said r name (list_shapes prints) ≡ front ++ shapes.Sign signs.Semicolon ∷ []
  unfolding front named
  are = ap (λ (x : List Shape). word_of said ∷ shapes.Literal (be 4 r.kind.code) ∷ shapes.Sign signs.OpenParen ∷ x)
      (split_last (id_shapes r.id) (after_commas (head_pieces r name)) (list_shapes prints)
      (shapes.Sign signs.CloseParen) (shapes.Sign signs.OpenBrace) (shapes.Sign signs.CloseBrace) (shapes.Sign signs.Semicolon))

  limits : heights prints ≤ 63 → kept 64 0 0 (statement_shapes said r name (list_shapes prints)) ≡ true
  unfolding named
  limits low =
      let last : List Shape = shapes.Sign signs.CloseBrace ∷ shapes.Sign signs.Semicolon ∷ [] in
      let body : kept 64 1 0 (list_shapes prints ++ last) ≡ true = list_kept prints 64 1 last (omega (arith, low)) (λ row few. refl) in
      let closed : (row : ℕ) → row ≤ 18 → kept 64 1 row (shapes.Sign signs.CloseParen ∷ shapes.Sign signs.OpenBrace ∷ (list_shapes prints ++ last)) ≡ true =
      λ row few. rw (le-leb (suc row) 1024 (omega (arith, few))) body in
      let behind : (row : ℕ) → row ≤ 5 → kept 64 1 row (named ++ shapes.Sign signs.CloseParen ∷ shapes.Sign signs.OpenBrace ∷ (list_shapes prints ++ last)) ≡ true =
      λ row few. flat_kept 64 1 row 18 named _ named_flat (omega arith) (omega arith)
      (omega (arith, few, weight_head r name)) closed in
      flat_kept 64 1 3 5 (id_shapes r.id) _ id_flat (omega arith) (omega arith) (omega (arith, id_few r.id)) behind

  -- The head and the braces.

  record IsHeadHere (tokens : List Token) (behind : List Shape) : Type 0 where
    brackets : Parted
    pieces : List (List Token)
    bracketed : IsBracketed Round tokens brackets
    behind_are : shapes_in brackets.behind ≡ behind
    cut : AreCut Comma brackets.front pieces
    is : IsHead pieces (shown_head r name)

  head_here : (tokens : List Token) (behind : List Shape) → shapes_in tokens ≡ shapes.Sign signs.OpenParen ∷ (id_shapes r.id ++ (named ++ shapes.Sign signs.CloseParen ∷ behind)) → IsHeadHere tokens behind
  unfolding named
  head_here tokens behind is =
      let paren = one_and_more tokens (shapes.Sign signs.OpenParen) _ is in
      let id = front_and_back paren.more (id_shapes r.id) _ paren.more_are in
      let names = front_and_back id.back named _ id.back_is in
      let close = one_and_more names.back (shapes.Sign signs.CloseParen) behind names.back_is in
      let inner = all_of (λ shape. is_inner shape ≡ true) id.front (id_shapes r.id) id.front_is (id_is_inner r.id) in
      let head = head_of id.front names.front (head_pieces r name) inner (pieces_are_inner r name stored.attr) names.front_is in
      let flat : AreFlat (id.front ++ names.front) = all_append (λ (token : Token). is_flat token.shape ≡ true) id.front names.front
      (all_of (λ shape. is_flat shape ≡ true) id.front (id_shapes r.id) id.front_is id_flat) (all_of (λ shape. is_flat shape ≡ true) names.front named names.front_is named_flat) in
      record {
        brackets = record { front = id.front ++ names.front; behind = close.more };
        pieces = id.front ∷ head.others;
        bracketed = record {
          opener = paren.one;
          rest = paren.more;
          are = paren.are;
          opens = ap (opens Round) paren.one_is;
          closes = record {
            sign = close.one;
            are = id.are ∙ ap (λ (x : List Token). id.front ++ x) (names.are ∙ ap (λ (x : List Token). names.front ++ x) close.are) ∙ sym (append_assoc id.front names.front (close.one ∷ close.more));
            first = no_paren (id.front ++ names.front) flat;
            divides = rw (close.one_is, none_open (id.front ++ names.front) flat) refl;
          };
        };
        behind_are = close.more_are;
        cut = head.cut;
        is = (id_is r.id stored.id id.front id.front_is, rest_is name (attributes_of r.attr) (shown_attributes r.attr stored.attr).each head.others head.are);
      }

  record IsBodyHere (tokens : List Token) : Type 0 where
    inside : List Token
    inside_are : shapes_in inside ≡ list_shapes prints
    is : IsBody tokens inside

  body_here : (tokens : List Token) → shapes_in tokens ≡ shapes.Sign signs.OpenBrace ∷ (list_shapes prints ++ shapes.Sign signs.CloseBrace ∷ shapes.Sign signs.Semicolon ∷ []) → IsBodyHere tokens
  body_here tokens is =
      let brace = one_and_more tokens (shapes.Sign signs.OpenBrace) _ is in
      let inner = front_and_back brace.more (list_shapes prints) _ brace.more_are in
      let end = one_and_more inner.back (shapes.Sign signs.CloseBrace) _ inner.back_is in
      let semicolon = one_and_more end.more (shapes.Sign signs.Semicolon) [] end.more_are in
      let last : end.more ≡ semicolon.one ∷ [] = semicolon.are ∙ ap (λ (x : List Token). semicolon.one ∷ x) (none_left semicolon.more semicolon.more_are) in
      record {
        inside = inner.front;
        inside_are = inner.front_is;
        is = (
          record { front = inner.front; behind = end.more },
          record {
            opener = brace.one;
            rest = brace.more;
            are = brace.are;
            opens = ap (opens Curly) brace.one_is;
            closes = record {
              sign = end.one;
              are = inner.are ∙ ap (λ (x : List Token). inner.front ++ x) end.are;
              first = nothing_divides CloseBrace (list_shapes prints) inner.front (list_passes prints) refl inner.front_is;
              divides = rw (end.one_is, nothing_opens (list_shapes prints) inner.front (list_passes prints) inner.front_is) refl;
            };
          },
          ap is_empty last ∙ ap is_semicolon semicolon.one_is,
          refl,
        );
      }

  -- The statement.

  module _ (tokens : List Token) (is : shapes_in tokens ≡ statement_shapes said r name (list_shapes prints)) where
    statement : IsStatement tokens
    statement =
        let parts = front_and_back tokens front (shapes.Sign signs.Semicolon ∷ []) (is ∙ are) in
        let semicolon = one_and_more parts.back (shapes.Sign signs.Semicolon) [] parts.back_is in
        let ends : parts.back ≡ semicolon.one ∷ [] = semicolon.are ∙ ap (λ (x : List Token). semicolon.one ∷ x) (none_left semicolon.more semicolon.more_are) in
        let shut : open_behind_all parts.front 0 ≡ 0 = opened_are parts.front 0 ∙ ap (λ (x : List Shape). opened x 0) parts.front_is ∙ all_closed in
        record {
          front = parts.front;
          last = semicolon.one;
          are = parts.are ∙ ap (λ (x : List Token). parts.front ++ x) ends;
          goes_on = ended_are 0 parts.front ∙ ap (divided Semicolon 0) parts.front_is ∙ goes_on;
          ends = rw (semicolon.one_is, shut) refl;
        }

    within : heights prints ≤ 63 → is_within_limits tokens ≡ true
    within low =
        let word = one_and_more tokens (word_of said) _ is in
        let most : depth_limit tokens ≡ 64 = ap depth_limit word.are ∙ ap (λ (shape : Shape). if is_keyword keywords.Kind shape then deepest_type else deepest) word.one_is ∙ rw untyped refl in
        kept_are (depth_limit tokens) 0 0 tokens ∙ ap (kept (depth_limit tokens) 0 0) is ∙ ap (λ (n : ℕ). kept n 0 0 (statement_shapes said r name (list_shapes prints))) most ∙ limits low

    -- such tokens, whatever their marks are
    pub framed : heights prints ≤ 63 → IsFramed keyword r name (list_shapes prints) tokens
    unfolding named
    framed low =
        let word = one_and_more tokens (word_of said) _ is in
        let kind = one_and_more word.more (shapes.Literal (be 4 r.kind.code)) _ word.more_are in
        let head = head_here kind.more (shapes.Sign signs.OpenBrace ∷ (list_shapes prints ++ shapes.Sign signs.CloseBrace ∷ shapes.Sign signs.Semicolon ∷ [])) kind.more_are in
        let body = body_here head.brackets.behind head.behind_are in
        record {
          inside = body.inside;
          inside_are = body.inside_are;
          statement = statement;
          limits = within low;
          frame = record {
            behind = kind.more;
            brackets = head.brackets;
            pieces = head.pieces;
            typed = record {
              word = word.one;
              kind = kind.one;
              are = word.are ∙ ap (λ (x : List Token). word.one ∷ x) kind.are;
              is_word = ap (is_keyword keyword) word.one_is ∙ spelled;
              has_kind = ap kind_in kind.one_is ∙ kind_back r.kind.code stored.code;
            };
            in_brackets = head.bracketed;
            are_cut = head.cut;
            has_head = head.is;
            has_body = body.is;
          };
        }
